-- What is read from the image of a program: its counts, its directory, its parts, and so the program.
use mathlib.Core.Path.{◌≡◌, refl, sym, ap, ap₂, ◌∙◌}
use mathlib.Core.List.{List, [], ◌∷◌, ◌++◌, map, append_assoc}
use Prim.Native.Nat.{ℕ, zero, suc, ◌+◌, ◌*◌, ◌/◌, ◌%◌, ◌<◌, ◌≤◌}
use native.Mathlib.Omega.{arith}
use lib.Dec.{eqb}
use lib.ListN.{length, get_or, take, drop, length-append, get_or-append, length-map}
use lib.Seq.{take-append_seam, drop-append_seam, get_or-append-add, get_or-append_seam, ext_get_or}
use Rattle.lists.specs.Lists.{choose}
use Rattle.program.specs.Program.{Kind, strict, defeasible, Rule, Program, fact, rule_at}
use Rattle.layout.specs.Layout.{byte_at, number_at, atoms_of, rules_of, pair_count_of, offset_of, size_of, part_of, first_of, second_of}
use Rattle.layout.specs.Reading.{rule_in, rules_in, pairs_in, program_in}
use Rattle.image.proofs.Readings.{rules_length, rules_at}
use Rattle.writing.specs.Image.{kind_number, rule_bytes, pair_bytes, parts_of, directory, together, header_bytes, image_of}

-- ---- numbers of two bytes

pub number_skip : (xs ys : List ℕ) (k : ℕ) → number_at (xs ++ ys) (length xs + k) ≡ number_at ys k
unfolding number_at
number_skip xs ys k =
    let e : length xs + k + 1 ≡ length xs + (k + 1) = omega arith in
    ap₂ (λ (a b : ℕ). a + 256 * b) (get_or-append-add xs ys k 0)
    (ap (λ (i : ℕ). get_or (xs ++ ys) i 0) e ∙ get_or-append-add xs ys (k + 1) 0)

-- ---- the directory

-- where part i begins, if the first one does at a place
abbrev pub start_of : ℕ → List (List ℕ) → ℕ → ℕ
start_of at [] i = at
start_of at (part ∷ parts) zero = at
start_of at (part ∷ parts) (suc i) = start_of (at + length part) parts i

pub directory_length : (at : ℕ) (parts : List (List ℕ)) → length (directory at parts) ≡ 4 * length parts
directory_length at [] = refl
directory_length at (part ∷ parts) = omega (arith, directory_length (at + length part) parts)

module _ (rest : List ℕ) where
  directory_offset : (at : ℕ) (parts : List (List ℕ)) (i : ℕ) → i < length parts
      → number_at (directory at parts ++ rest) (4 * i) ≡ start_of at parts i
  unfolding number_at
  directory_offset at [] i h = absurd (omega arith)
  directory_offset at (part ∷ parts) zero h = omega arith
  directory_offset at (part ∷ parts) (suc i) h =
      let e : 4 * suc i ≡ 4 + 4 * i = omega arith in
      ap (number_at (directory at (part ∷ parts) ++ rest)) e
      ∙ number_skip (at % 256 ∷ at / 256 ∷ length part % 256 ∷ length part / 256 ∷ []) (directory (at + length part) parts ++ rest) (4 * i)
      ∙ directory_offset (at + length part) parts i (omega arith)

  directory_size : (at : ℕ) (parts : List (List ℕ)) (i : ℕ) → i < length parts
      → number_at (directory at parts ++ rest) (2 + 4 * i) ≡ length (get_or parts i [])
  unfolding number_at
  directory_size at [] i h = absurd (omega arith)
  directory_size at (part ∷ parts) zero h = omega arith
  directory_size at (part ∷ parts) (suc i) h =
      let e : 2 + 4 * suc i ≡ 4 + (2 + 4 * i) = omega arith in
      ap (number_at (directory at (part ∷ parts) ++ rest)) e
      ∙ number_skip (at % 256 ∷ at / 256 ∷ length part % 256 ∷ length part / 256 ∷ []) (directory (at + length part) parts ++ rest) (2 + 4 * i)
      ∙ directory_size (at + length part) parts i (omega arith)

-- ---- the parts

pub part_found : (front : List ℕ) (parts : List (List ℕ)) (i : ℕ) → i < length parts
    → take (length (get_or parts i [])) (drop (start_of (length front) parts i) (front ++ together parts)) ≡ get_or parts i []
part_found front [] i h = absurd (omega arith)
part_found front (part ∷ parts) zero h =
    ap (take (length part)) (drop-append_seam front (part ++ together parts)) ∙ take-append_seam part (together parts)
part_found front (part ∷ parts) (suc i) h =
    ap₂ (λ (k : ℕ) (l : List ℕ). take (length (get_or parts i [])) (drop (start_of k parts i) l)) (sym (length-append front part))
    (sym (append_assoc front part (together parts)))
    ∙ part_found (front ++ part) parts i (omega arith)

module _ (p : Program) where
  abbrev head : List ℕ
  head = header_bytes p.atoms (length p.rules) (length p.pairs)

  abbrev begin : ℕ
  begin = 12 + 4 * length p.rules

  pub parts_length : length (parts_of p) ≡ length p.rules + 1
  parts_length = length-append (map rule_bytes p.rules) (pair_bytes p.pairs ∷ []) ∙ ap (λ (n : ℕ). n + 1) (length-map p.rules rule_bytes)

  pub image_atoms : atoms_of (image_of p) ≡ p.atoms
  unfolding image_of number_at
  image_atoms = omega arith

  pub image_rules : rules_of (image_of p) ≡ length p.rules
  unfolding image_of number_at
  image_rules = omega arith

  pub image_pairs : pair_count_of (image_of p) ≡ length p.pairs
  unfolding image_of number_at
  image_pairs = omega arith

  pub image_zero : number_at (image_of p) 6 ≡ 0
  unfolding image_of number_at
  image_zero = refl

  module _ (i : ℕ) (h : i ≤ length p.rules) where
    inside : i < length (parts_of p)
    inside = omega (arith, parts_length)

    pub image_offset : offset_of (image_of p) i ≡ start_of (12 + 4 * length p.rules) (parts_of p) i
    unfolding image_of
    image_offset =
        number_skip head (directory begin (parts_of p) ++ together (parts_of p)) (4 * i)
        ∙ directory_offset (together (parts_of p)) begin (parts_of p) i inside

    pub image_size : size_of (image_of p) i ≡ length (get_or (parts_of p) i [])
    unfolding image_of
    image_size =
        let e : 10 + 4 * i ≡ 8 + (2 + 4 * i) = omega arith in
        ap (number_at (image_of p)) e
        ∙ number_skip head (directory begin (parts_of p) ++ together (parts_of p)) (2 + 4 * i)
        ∙ directory_size (together (parts_of p)) begin (parts_of p) i inside

    pub image_part : part_of (image_of p) i ≡ get_or (parts_of p) i []
    unfolding image_of
    image_part =
        ap₂ (λ (n k : ℕ). take n (drop k (image_of p))) image_size (image_offset ∙ ap (λ (k : ℕ). start_of k (parts_of p) i) (sym front_length))
        ∙ ap (λ (l : List ℕ). take (length (get_or (parts_of p) i [])) (drop (start_of (length front) (parts_of p) i) l)) split
        ∙ part_found front (parts_of p) i inside
      where
        front : List ℕ
        front = head ++ directory begin (parts_of p)

        front_length : length front ≡ begin
        front_length = omega (arith, length-append head (directory begin (parts_of p)), directory_length begin (parts_of p), parts_length)

        split : image_of p ≡ front ++ together (parts_of p)
        split = sym (append_assoc head (directory begin (parts_of p)) (together (parts_of p)))

  pub image_rule : (i : ℕ) → i < length p.rules → part_of (image_of p) i ≡ rule_bytes (rule_at p.rules i)
  image_rule i h =
      image_part i (omega arith)
      ∙ get_or-append (map rule_bytes p.rules) (pair_bytes p.pairs ∷ []) [] i (omega (arith, length-map p.rules rule_bytes))
      ∙ at_map p.rules i h
    where
      at_map : (l : List Rule) (j : ℕ) → j < length l → get_or (map rule_bytes l) j [] ≡ rule_bytes (rule_at l j)
      at_map [] j k = absurd (omega arith)
      at_map (r ∷ l) zero k = refl
      at_map (r ∷ l) (suc j) k = at_map l j (omega arith)

  pub image_last : part_of (image_of p) (length p.rules) ≡ pair_bytes p.pairs
  image_last =
      image_part (length p.rules) (omega arith)
      ∙ ap (λ (n : ℕ). get_or (parts_of p) n []) (sym (length-map p.rules rule_bytes))
      ∙ get_or-append_seam (map rule_bytes p.rules) (pair_bytes p.pairs) [] []

-- ---- the program

pub rule_read : (r : Rule) → rule_in (rule_bytes r) ≡ r
rule_read r = ap (λ (k : Kind). record { kind = k; head = r.head; body = r.body }) (kind r.kind)
  where
    kind : (k : Kind) → choose (eqb (kind_number k) 1) defeasible strict ≡ k
    kind strict = refl
    kind defeasible = refl

abbrev pub pair_at : List (ℕ × ℕ) → ℕ → ℕ × ℕ
pair_at l j = get_or l j (0, 0)

pub pair_first : (l : List (ℕ × ℕ)) (j : ℕ) → byte_at (pair_bytes l) (2 * j) ≡ (pair_at l j).0
pair_first [] j = refl
pair_first (q ∷ l) zero = refl
pair_first (q ∷ l) (suc j) =
    let e : 2 * suc j ≡ suc (suc (2 * j)) = omega arith in
    ap (byte_at (pair_bytes (q ∷ l))) e ∙ pair_first l j

pub pair_second : (l : List (ℕ × ℕ)) (j : ℕ) → byte_at (pair_bytes l) (2 * j + 1) ≡ (pair_at l j).1
pair_second [] j = refl
pair_second (q ∷ l) zero = refl
pair_second (q ∷ l) (suc j) =
    let e : 2 * suc j + 1 ≡ suc (suc (2 * j + 1)) = omega arith in
    ap (byte_at (pair_bytes (q ∷ l))) e ∙ pair_second l j

pub pairs_read : (s : List ℕ) (j : ℕ) (l : List (ℕ × ℕ))
    → ((k : ℕ) → k < length l → (first_of s (j + k) ≡ (pair_at l k).0) × (second_of s (j + k) ≡ (pair_at l k).1)) → pairs_in s j (length l) ≡ l
unfolding pairs_in
pairs_read s j [] h = refl
pairs_read s j (q ∷ l) h =
    let z : j ≡ j + 0 = omega arith in
    let here = h 0 (omega arith) in
    ap₂ ◌∷◌ (ap₂ (λ (a b : ℕ). (a, b)) (ap (first_of s) z ∙ here.0) (ap (second_of s) z ∙ here.1))
    (pairs_read s (suc j) l (λ k i.
    let e : suc j + k ≡ j + suc k = omega arith in
    let later = h (suc k) (omega arith) in
    (ap (first_of s) e ∙ later.0, ap (second_of s) e ∙ later.1)))

-- reading the image of a program gives the program
pub image_program : (p : Program) → program_in (image_of p) ≡ p
unfolding program_in
image_program p =
    ap (λ (a : ℕ). record { atoms = a; rules = rules_in s 0 (rules_of s); pairs = pairs_in s 0 (pair_count_of s) }) (image_atoms p)
    ∙ ap₂ (λ (x : List Rule) (y : List (ℕ × ℕ)). record { atoms = p.atoms; rules = x; pairs = y }) rules pairs
  where
    s : List ℕ
    s = image_of p

    rules : rules_in s 0 (rules_of s) ≡ p.rules
    rules =
        ap (rules_in s 0) (image_rules p)
        ∙ ext_get_or (fact 0) (rules_in s 0 (length p.rules)) p.rules (rules_length s 0 (length p.rules)) (λ i h.
        let k : i < length p.rules = omega (arith, rules_length s 0 (length p.rules)) in
        rules_at s (length p.rules) i k ∙ ap rule_in (image_rule p i k) ∙ rule_read (rule_at p.rules i))

    last : part_of s (rules_of s) ≡ pair_bytes p.pairs
    last = ap (part_of s) (image_rules p) ∙ image_last p

    pairs : pairs_in s 0 (pair_count_of s) ≡ p.pairs
    pairs =
        ap (pairs_in s 0) (image_pairs p)
        ∙ pairs_read s 0 p.pairs (λ k h.
        let e : 0 + k ≡ k = omega arith in (
          ap (first_of s) e ∙ ap (λ (l : List ℕ). byte_at l (2 * k)) last ∙ pair_first p.pairs k,
          ap (second_of s) e ∙ ap (λ (l : List ℕ). byte_at l (2 * k + 1)) last ∙ pair_second p.pairs k,
        ))

pub image_length : (p : Program) → length (image_of p) ≡ 12 + 4 * length p.rules + length (together (parts_of p))
unfolding image_of
image_length p =
    omega (arith, length-append (header_bytes p.atoms (length p.rules) (length p.pairs)) (directory (12 + 4 * length p.rules) (parts_of p) ++ together (parts_of p)), length-append (directory (12 + 4 * length p.rules) (parts_of p)) (together (parts_of p)), directory_length (12 + 4 * length p.rules) (parts_of p), parts_length p)
