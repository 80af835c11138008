-- `read` meets its contract: four numbers, one after the other, are the counts and the zero.
use mathlib.Core.Path.{◌≡◌, sym, ap, ◌∙◌}
use mathlib.Core.List.{List}
use Prim.Native.Nat.{ℕ}
use Rattle.std.proofs.Common.{None, Some}
use Rattle.std.proofs.lemmas.Result.{err_from_is_err_and}
use Rattle.layout.specs.declared.cursor.Cursor.{Cursor}
use Rattle.layout.specs.Layout.{number_at, atoms_of, rules_of, pair_count_of}
use Rattle.layout.proofs.Cursors.{Numbers-is, numbers_ended, numbers_is}
use Rattle.layout.proofs.Directory.{header_short, header_long, header_bad, header_fine}
use native.Mathlib.Omega.{arith}
use Rattle.layout.proofs.header.read.Goals as goal

-- the four numbers stand at bytes 0, 2, 4 and 6
record Fields (s : List ℕ) (atoms rules pairs zeros : ℕ) (next : Cursor) : Type 0 where
  a : atoms ≡ atoms_of s
  r : rules ≡ rules_of s
  p : pairs ≡ pair_count_of s
  z : zeros ≡ number_at s 6
  after : next.at ≡ 8

fields : (s : List ℕ) (start middle next : Cursor) (atoms rules pairs zeros : ℕ) → start.at ≡ 0 → Numbers-is s start.at atoms rules middle → Numbers-is s middle.at pairs zeros next → Fields s atoms rules pairs zeros next
fields s start middle next atoms rules pairs zeros e a p =
    let n = a.next in
    let m = p.next in
    record {
      a = a.first_is ∙ ap (number_at s) e;
      r = a.second_is ∙ ap (number_at s) (omega arith);
      p = p.first_is ∙ ap (number_at s) (omega arith);
      z = p.second_is ∙ ap (number_at s) (omega arith);
      after = omega arith;
    }

pub returns-in_err-atoms : goal.returns-in_err-atoms
returns-in_err-atoms c = let n : c.numbers.result ≡ None = grind arith in
    let v : c.in_err-atoms.field-0.0 ≡ c.at-length.result = grind arith in
    let e = err_from_is_err_and c.from_residual.result c.from_residual.ensures.1 in
    rw (e.1, e.2, v, c.at-length.ensures) (header_short _ (omega (arith, numbers_ended c.args.image.now _ (sym c.numbers.ensures ∙ n), c.start.ensures)))

pub returns-in_err-pairs : goal.returns-in_err-pairs
returns-in_err-pairs c = let s : c.numbers.result ≡ Some (c.in_ok-atoms.atoms, c.in_ok-atoms.rules, c.in_ok-atoms.middle) = grind arith in
    let n : c.numbers-2.result ≡ None = grind arith in
    let v : c.in_err-pairs.field-0.0 ≡ c.at-length.result = grind arith in
    let a = numbers_is c.args.image.now _ _ _ _ (sym c.numbers.ensures ∙ s) in
    let e = err_from_is_err_and c.from_residual-in_err-pairs.result c.from_residual-in_err-pairs.ensures.1 in
    rw (e.1, e.2, v, c.at-length.ensures) (header_short _ (omega (arith, a.next, numbers_ended c.args.image.now _ (sym c.numbers-2.ensures ∙ n), c.start.ensures)))

pub returns-then-image-lt12 : goal.returns-then-image-lt12
returns-then-image-lt12 c = rw c.at-length.ensures (header_short _ c.if-image-lt12.true)

pub returns-then-image-gt1836 : goal.returns-then-image-gt1836
returns-then-image-gt1836 c = rw c.at-length.ensures (header_long _ c.if-image-gt1836.true)

pub returns-then-atoms-gt64 : goal.returns-then-atoms-gt64
returns-then-atoms-gt64 c = let s : c.numbers.result ≡ Some (c.in_ok-atoms.atoms, c.in_ok-atoms.rules, c.in_ok-atoms.middle) = grind arith in
    let n : c.numbers-2.result ≡ Some (c.in_ok-pairs.pairs, c.in_ok-pairs.zero, c.in_ok-pairs.next) = grind arith in
    let f = fields _ _ _ _ _ _ _ _ c.start.ensures (numbers_is c.args.image.now _ _ _ _ (sym c.numbers.ensures ∙ s)) (numbers_is c.args.image.now _ _ _ _ (sym c.numbers-2.ensures ∙ n)) in
    rw c.at.ensures (header_bad _ c.if-image-lt12.false c.if-image-gt1836.false _ _ _ _ f.a f.r f.p f.z c.then-atoms-gt64.either)

pub returns : goal.returns
returns c = let s : c.numbers.result ≡ Some (c.in_ok-atoms.atoms, c.in_ok-atoms.rules, c.in_ok-atoms.middle) = grind arith in
    let n : c.numbers-2.result ≡ Some (c.in_ok-pairs.pairs, c.in_ok-pairs.zero, c.in_ok-pairs.next) = grind arith in
    let f = fields _ _ _ _ _ _ _ _ c.start.ensures (numbers_is c.args.image.now _ _ _ _ (sym c.numbers.ensures ∙ s)) (numbers_is c.args.image.now _ _ _ _ (sym c.numbers-2.ensures ∙ n)) in
    rw (c.from.ensures, c.from-2.ensures, c.from-3.ensures)
    (header_fine _ c.if-image-lt12.false c.if-image-gt1836.false _ _ _ _ f.a f.r f.p f.z (omega arith) (omega arith) (omega arith) (omega arith) _ f.after)
