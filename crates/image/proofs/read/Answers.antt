-- `read` meets its contract: header, rules, pairs, then chains and counts.
use mathlib.Core.Path.{◌≡◌, refl, sym, ◌∙◌}
use mathlib.Core.List.{List}
use Prim.Native.Nat.{ℕ}
use lib.ListN.{length, get_or-replicate}
use Rattle.std.specs.Prelude.{Err}
use Rattle.std.proofs.lemmas.Result.{err_from_is_err_and}
use Rattle.program.specs.Program.{Program, defeasibles}
use Rattle.program.specs.Inside.Table.{Holds}
use Rattle.layout.specs.declared.Refusal.{Refusal}
use Rattle.layout.specs.Layout.{atoms_of, rules_of, pair_count_of}
use Rattle.layout.specs.Causes.{Verdict, accepted}
use Rattle.layout.specs.Reading.{rules_in, program_in}
use Rattle.image.proofs.Whole.{header_refuses, header_known, rules_refuse, rules_accept}
use Rattle.image.proofs.Readings.{rules_length, pairs_length}
use Rattle.image.proofs.Accepted.{accepted_limits}
use Rattle.image.proofs.read.Goals as goal

refused_so : (v : Verdict) (r : Refusal) (p : Program) (t : List ℕ) → v ≡ Err r → (Err r ≡ v) × (v ≡ accepted → Holds p t)
refused_so v r p t e = (sym e, λ a. cc)

-- the program's own counts
atoms-of : (s : List ℕ) → atoms_of s ≡ (program_in s).atoms
unfolding program_in
atoms-of s = refl

rules-of : (s : List ℕ) → rules_of s ≡ length (program_in s).rules
unfolding program_in
rules-of s = sym (rules_length s 0 (rules_of s))

pairs_of : (s : List ℕ) → pair_count_of s ≡ length (program_in s).pairs
unfolding program_in
pairs_of s = sym (pairs_length s 0 (pair_count_of s))

bits_of : (s : List ℕ) (bits : ℕ) → bits ≡ defeasibles (rules_in s 0 (rules_of s)) → bits ≡ defeasibles (program_in s).rules
unfolding program_in
bits_of s bits e = e

pub returns-in_err-counts : goal.returns-in_err-counts
returns-in_err-counts c = let e = err_from_is_err_and c.from_residual.result c.from_residual.ensures.1 in
    rw (e.1, e.2) (refused_so _ _ _ _ (header_refuses _ _ (sym c.in_err-counts.ensures)))

pub read-requires-2 : goal.read-requires-2
read-requires-2 c = let k = header_known c.args.image.now _ _ (sym c.in_ok-counts.ensures) in
    (λ i h. get_or-replicate 224 i 0 0 h, k.atoms_are, k.few_atoms, k.rules_are, k.few_rules, k.here)

pub returns-in_err-bits : goal.returns-in_err-bits
returns-in_err-bits c = let k = header_known c.args.image.now _ _ (sym c.in_ok-counts.ensures) in
    let e = err_from_is_err_and c.from_residual-in_err-bits.result c.from_residual-in_err-bits.ensures.1 in
    rw (e.1, e.2) (refused_so _ _ _ _ (rules_refuse c.args.image.now _ _ k _ c.in_err-bits.ensures))

pub read-requires-3 : goal.read-requires-3
read-requires-3 c = let k = header_known c.args.image.now _ _ (sym c.in_ok-counts.ensures) in
    ((_, c.in_ok-bits.ensures), k.rules_are, k.few_rules, k.pairs_are, k.few_pairs)

pub returns-in_err-read : goal.returns-in_err-read
returns-in_err-read c = let k = header_known c.args.image.now _ _ (sym c.in_ok-counts.ensures) in
    let r = c.in_ok-bits.ensures in
    let v = rules_accept c.args.image.now _ _ k r.directory r.accepts ∙ sym c.read-3.ensures.0 in
    let e = err_from_is_err_and c.from_residual-in_err-read.result c.from_residual-in_err-read.ensures.1 in
    rw (e.1, e.2) (refused_so _ _ _ _ (v ∙ c.in_err-read.was))

pub returns : goal.returns
returns c = let s = c.args.image.now in
    let k = header_known s _ _ (sym c.in_ok-counts.ensures) in
    let r = c.in_ok-bits.ensures in
    let a = rules_accept s _ _ k r.directory r.accepts ∙ sym c.read-3.ensures.0 ∙ c.in_ok-read.was in
    (sym a, λ e. c.finish.ensures (program_in s) (accepted_limits s a) (bits_of s _ r.bits_are) (k.atoms_are ∙ atoms-of s) (k.rules_are ∙ rules-of s) (k.pairs_are ∙ pairs_of s) (c.read-3.ensures.1 c.in_ok-read.was))
