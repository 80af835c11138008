-- Each number of an image that holds a program is a byte.
use mathlib.Core.Path.{◌≡◌, refl, sym, subst}
use mathlib.Core.Bool.{true}
use mathlib.Core.List.Memᴰ
use mathlib.Core.List.{List, [], ◌∷◌, ◌++◌, map, Memᴰ}
use mathlib.Core.Logic.{⊎_elim}
use Prim.Native.Nat.{ℕ, zero, suc, ◌+◌, ◌*◌, ◌<◌, ◌≤◌}
use native.Mathlib.Omega.{arith}
use lib.Dec.{ltb}
use lib.ListN.{length, length-append}
use borrow.Author.Tests.{ltb-true, not-false}
use Rattle.literals.proofs.Tests.{and_left, and_right}
use Rattle.program.specs.Program.{Kind, strict, defeasible, Rule, Program}
use Rattle.layout.specs.Layout.{byte_at}
use Rattle.layout.specs.Causes.{all_below}
use Rattle.writing.specs.Image.{kind_number, rule_bytes, pair_bytes, parts_of, directory, together, header_bytes, image_of}
use Rattle.writing.specs.Inside.Writable.{Writable}
use Rattle.writing.proofs.Fits.{part_passes}
use Rattle.writing.proofs.Accepting.{image_short}
use Rattle.writing.proofs.Reading.{image_length}

abbrev Each : List ℕ → Type 0
Each l = (x : ℕ) → Memᴰ x l → x < 256

each_at : (l : List ℕ) → Each l → (i : ℕ) → byte_at l i < 256
each_at [] h i = omega arith
each_at (x ∷ l) h zero = h x (Memᴰ.head refl)
each_at (x ∷ l) h (suc i) = each_at l (λ y j. h y (Memᴰ.tail j)) i

each_nil : Each []
each_nil x i = absurd (Memᴰ.not-nil i)

each_cons : {x : ℕ} {l : List ℕ} → x < 256 → Each l → Each (x ∷ l)
each_cons h t y i = ⊎_elim (λ e. subst (λ (z : ℕ). z < 256) (sym e) h) (t y) (Memᴰ.cases_cons i)

each_append : (l m : List ℕ) → Each l → Each m → Each (l ++ m)
each_append l m h k y i = ⊎_elim (h y) (k y) (Memᴰ.append_cases l i)

each_below : (n : ℕ) (l : List ℕ) → n ≤ 256 → all_below n l ≡ true → Each l
unfolding all_below
each_below n [] h e = each_nil
each_below n (x ∷ l) h e =
    let b = ltb-true x n (and_left (ltb x n) _ e) in
    each_cons (omega arith) (each_below n l h (and_right (ltb x n) _ e))

each_directory : (at : ℕ) (parts : List (List ℕ)) → at + length (together parts) < 65536 → Each (directory at parts)
each_directory at [] h = each_nil
each_directory at (part ∷ parts) h =
    let e = length-append part (together parts) in
    each_cons (omega arith)
    (each_cons (omega arith)
    (each_cons (omega arith)
    (each_cons (omega arith)
    (each_directory (at + length part) parts (omega arith)))))

each_rules : (l : List Rule) (last : List ℕ) → ((r : Rule) → Memᴰ r l → Each (rule_bytes r)) → Each last
    → Each (together (map rule_bytes l ++ (last ∷ [])))
each_rules [] last h k = each_append last [] k each_nil
each_rules (r ∷ l) last h k =
    each_append (rule_bytes r) (together (map rule_bytes l ++ (last ∷ []))) (h r (Memᴰ.head refl))
    (each_rules l last (λ q i. h q (Memᴰ.tail i)) k)

each_pairs : (l : List (ℕ × ℕ)) → ((a b : ℕ) → Memᴰ (a, b) l → (a < 256) × (b < 256)) → Each (pair_bytes l)
each_pairs [] h = each_nil
each_pairs (q ∷ l) h =
    let r = h q.0 q.1 (Memᴰ.head refl) in
    each_cons r.0 (each_cons r.1 (each_pairs l (λ a b i. h a b (Memᴰ.tail i))))

pub image_bytes : (p : Program) → Writable p → (i : ℕ) → byte_at (image_of p) i < 256
unfolding image_of
image_bytes p w =
    each_at (image_of p)
    (each_append (header_bytes p.atoms (length p.rules) (length p.pairs))
    (directory (12 + 4 * length p.rules) (parts_of p) ++ together (parts_of p))
    (each_cons (omega arith)
    (each_cons (omega arith)
    (each_cons (omega arith)
    (each_cons (omega arith)
    (each_cons (omega arith) (each_cons (omega arith) (each_cons (omega arith) (each_cons (omega arith) each_nil))))))))
    (each_append (directory (12 + 4 * length p.rules) (parts_of p)) (together (parts_of p))
    (each_directory (12 + 4 * length p.rules) (parts_of p) (omega (arith, image_length p, image_short p w)))
    (each_rules p.rules (pair_bytes p.pairs) rule pairs)))
  where
    atoms : p.atoms ≤ 64
    atoms = w.few_atoms

    rules : length p.rules ≤ 96
    rules = w.few_rules

    many : length p.pairs ≤ 240
    many = w.few_pairs

    kind : (k : Kind) → kind_number k < 256
    kind strict = omega arith
    kind defeasible = omega arith

    rule : (r : Rule) → Memᴰ r p.rules → Each (rule_bytes r)
    rule r i =
        each_cons (kind r.kind)
        (each_below (2 * p.atoms) (r.head ∷ r.body) (omega (arith, atoms))
        (not-false _ (part_passes (rule_bytes r) p.atoms 0 0 (w.rule_fits r i)).six))

    pairs : Each (pair_bytes p.pairs)
    pairs = each_pairs p.pairs (λ a b i.
        let n = w.pairs_name a b i in
        (omega (arith, n.first.there, rules), omega (arith, n.second.there, rules)))
