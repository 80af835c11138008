-- An accepted image is the image of the program that it holds, byte by byte.
use mathlib.Core.Path.{◌≡◌, refl, sym, ap, ap₂, ◌∙◌}
use mathlib.Core.Bool.{Bool, true, false}
use mathlib.Core.List.{List, [], ◌∷◌, ◌++◌, map}
use Prim.Native.Nat.{ℕ, zero, suc, ◌+◌, ◌*◌, ◌/◌, ◌%◌, ◌<◌, ◌≤◌}
use native.Mathlib.Nat.{le_refl}
use native.Mathlib.Omega.{arith}
use lib.Dec.{eqb}
use lib.ListN.{length, take, drop, take-append-drop, length-drop}
use lib.Seq.{drop-length, drop-drop}
use borrow.Author.Tests.{eqb-true, eqb-false}
use Rattle.lists.specs.Lists.{upto, choose}
use Rattle.lists.proofs.Lists.{upto_last}
use Rattle.lists.proofs.Places.{map-append}
use Rattle.literals.proofs.Tests.{and_left, and_right}
use Rattle.program.specs.Program.{strict, defeasible}
use Rattle.layout.specs.Layout.{byte_at, number_at, atoms_of, rules_of, pair_count_of, offset_of, size_of, part_of, kind_byte, first_of, second_of}
use Rattle.layout.specs.Causes.{accepted, parts_follow, verdict}
use Rattle.layout.specs.Reading.{rule_in, rules_in, pairs_in, program_in}
use Rattle.layout.proofs.Parts.{part_length}
use Rattle.part.proofs.Bytes.{drop_at}
use Rattle.image.proofs.Readings.{rules_length, pairs_length}
use Rattle.image.proofs.Accepted.{Sound, accepted_sound, rule_sound}
use Rattle.writing.proofs.Reading.{image_length}
use Rattle.writing.specs.Image.{Bytes, kind_number, rule_bytes, pair_bytes, parts_of, directory, together, header_bytes, image_of}

-- ---- parts, each of which follows the one before

together_written : (s : List ℕ) (n ends i : ℕ) → parts_follow s ends i n ≡ true
    → drop ends s ≡ together (map (part_of s) (upto i n))
unfolding parts_follow
together_written s zero ends i f = ap (λ (k : ℕ). drop k s) (eqb-true ends (length s) f) ∙ drop-length s
together_written s (suc n) ends i f =
    let here : offset_of s i ≡ ends = eqb-true (offset_of s i) ends (and_left (eqb (offset_of s i) ends) _ f) in
    ap (λ (k : ℕ). drop k s) (sym here)
    ∙ sym (take-append-drop (size_of s i) (drop (offset_of s i) s))
    ∙ ap (λ (l : List ℕ). part_of s i ++ l)
    (drop-drop (size_of s i) (offset_of s i) s
    ∙ together_written s n (offset_of s i + size_of s i) (suc i) (and_right (eqb (offset_of s i) ends) _ f))

-- ---- numbers of two bytes

module _ (s : List ℕ) (bytes : Bytes s) where
  number_drop : (k : ℕ) → k + 2 ≤ length s → drop k s ≡ number_at s k % 256 ∷ number_at s k / 256 ∷ drop (k + 2) s
  unfolding number_at
  number_drop k h =
      let a = bytes k in
      let b = bytes (k + 1) in
      let low : byte_at s k ≡ (byte_at s k + 256 * byte_at s (k + 1)) % 256 = omega arith in
      let high : byte_at s (k + 1) ≡ (byte_at s k + 256 * byte_at s (k + 1)) / 256 = omega arith in
      let next : k + 1 + 1 ≡ k + 2 = omega arith in
      drop_at s k (omega arith)
      ∙ ap₂ ◌∷◌ low (drop_at s (k + 1) (omega arith) ∙ ap₂ ◌∷◌ high (ap (λ (j : ℕ). drop j s) next))

  entry_drop : (k : ℕ) → k + 4 ≤ length s
      → drop k s ≡ number_at s k % 256 ∷ number_at s k / 256 ∷ number_at s (k + 2) % 256 ∷ number_at s (k + 2) / 256 ∷ drop (k + 4) s
  entry_drop k h =
      let next : k + 2 + 2 ≡ k + 4 = omega arith in
      number_drop k (omega arith)
      ∙ ap (λ (l : List ℕ). number_at s k % 256 ∷ number_at s k / 256 ∷ l)
      (number_drop (k + 2) (omega arith)
      ∙ ap (λ (j : ℕ). number_at s (k + 2) % 256 ∷ number_at s (k + 2) / 256 ∷ drop j s) next)

  -- ---- the directory and the parts, where each part follows the one before
  module _ (sized : (k : ℕ) → k ≤ rules_of s → length (part_of s k) ≡ size_of s k) where
    directory_written : (n ends i : ℕ) → parts_follow s ends i n ≡ true → i + n ≤ rules_of s + 1 → 8 + 4 * (i + n) ≤ length s
        → take (4 * n) (drop (8 + 4 * i) s) ≡ directory ends (map (part_of s) (upto i n))
    unfolding parts_follow
    directory_written zero ends i f h k = refl
    directory_written (suc n) ends i f h k =
        let here : offset_of s i ≡ ends = eqb-true (offset_of s i) ends (and_left (eqb (offset_of s i) ends) _ f) in
        let size : number_at s (8 + 4 * i + 2) ≡ length (part_of s i)
        = ap (number_at s) (place i) ∙ sym (sized i (omega arith)) in
        let more : 4 * suc n ≡ suc (suc (suc (suc (4 * n)))) = omega arith in
        let next : 8 + 4 * i + 4 ≡ 8 + 4 * suc i = omega arith in
        let ends' : offset_of s i + size_of s i ≡ ends + length (part_of s i) = ap₂ ◌+◌ here (sym (sized i (omega arith))) in
        ap₂ (λ (m : ℕ) (l : List ℕ). take m l) more (entry_drop (8 + 4 * i) (omega arith))
        ∙ ap₂ (λ (a b : ℕ). a % 256 ∷ a / 256 ∷ b % 256 ∷ b / 256 ∷ take (4 * n) (drop (8 + 4 * i + 4) s)) here size
        ∙ ap (λ (l : List ℕ). ends % 256 ∷ ends / 256 ∷ length (part_of s i) % 256 ∷ length (part_of s i) / 256 ∷ l)
        (ap (λ (j : ℕ). take (4 * n) (drop j s)) next
        ∙ directory_written n (offset_of s i + size_of s i) (suc i) (and_right (eqb (offset_of s i) ends) _ f) (omega arith) (omega arith)
        ∙ ap (λ (x : ℕ). directory x (map (part_of s) (upto (suc i) n))) ends')
      where
        place : (j : ℕ) → 8 + 4 * j + 2 ≡ 10 + 4 * j
        place j = omega arith

-- ---- rules and pairs

pub rule_written : (part : List ℕ) → 2 ≤ length part → kind_byte part ≤ 1 → rule_bytes (rule_in part) ≡ part
rule_written [] h k = absurd (omega arith)
rule_written (x ∷ []) h k = absurd (omega arith)
rule_written (x ∷ y ∷ l) h k = ap (λ (a : ℕ). a ∷ y ∷ l) (go (eqb x 1) refl)
  where
    go : (b : Bool) → eqb x 1 ≡ b → kind_number (choose b defeasible strict) ≡ x
    go true e = let q = eqb-true x 1 e in omega arith
    go false e = let n = eqb-false x 1 e in zero_or x k n
      where
        zero_or : (z : ℕ) → z ≤ 1 → (z ≡ 1 → ⊥) → 0 ≡ z
        zero_or zero a b = refl
        zero_or (suc zero) a b = absurd (b refl)
        zero_or (suc (suc z)) a b = absurd (omega arith)

rules_written : (s : List ℕ) (n i : ℕ) → ((k : ℕ) → k < i + n → rule_bytes (rule_in (part_of s k)) ≡ part_of s k)
    → map rule_bytes (rules_in s i n) ≡ map (part_of s) (upto i n)
unfolding rules_in
rules_written s zero i h = refl
rules_written s (suc n) i h = ap₂ ◌∷◌ (h i (omega arith)) (rules_written s n (suc i) (λ k l. h k (omega arith)))

pairs_written : (s : List ℕ) (n j : ℕ) → length (part_of s (rules_of s)) ≡ 2 * (j + n)
    → pair_bytes (pairs_in s j n) ≡ drop (2 * j) (part_of s (rules_of s))
unfolding pairs_in
pairs_written s zero j h =
    let e : 2 * j ≡ length (part_of s (rules_of s)) = omega arith in
    sym (ap (λ (k : ℕ). drop k (part_of s (rules_of s))) e ∙ drop-length (part_of s (rules_of s)))
pairs_written s (suc n) j h =
    let next : 2 * suc j ≡ 2 * j + 1 + 1 = omega arith in
    ap (λ (l : List ℕ). first_of s j ∷ second_of s j ∷ l) (pairs_written s n (suc j) (omega arith) ∙ ap (λ (k : ℕ). drop k (part_of s (rules_of s))) next)
    ∙ sym
    (drop_at (part_of s (rules_of s)) (2 * j) (omega arith)
    ∙ ap (λ (l : List ℕ). first_of s j ∷ l) (drop_at (part_of s (rules_of s)) (2 * j + 1) (omega arith)))

-- ---- the whole image

module _ (s : List ℕ) (e : verdict s ≡ accepted) where
  sound : Sound s
  sound = accepted_sound s e

  fits : 12 + 4 * rules_of s ≤ length s
  fits = (sound.parts (rules_of s) (le_refl (rules_of s))).fits

  sized : (k : ℕ) → k ≤ rules_of s → length (part_of s k) ≡ size_of s k
  sized k h = part_length s k (sound.parts k h)

  pub part_written : (k : ℕ) → k < rules_of s → rule_bytes (rule_in (part_of s k)) ≡ part_of s k
  part_written k h = let r = rule_sound s sound k h in rule_written (part_of s k) r.long r.kind_few

  parts_are : parts_of (program_in s) ≡ map (part_of s) (upto 0 (rules_of s + 1))
  unfolding program_in
  parts_are =
      let next : suc (rules_of s) ≡ rules_of s + 1 = omega arith in
      ap₂ (λ (a : List (List ℕ)) (b : List ℕ). a ++ (b ∷ []))
      (rules_written s (rules_of s) 0 (λ k h. part_written k (omega arith)))
      (pairs_written s (pair_count_of s) 0 (sized (rules_of s) (le_refl (rules_of s)) ∙ sound.pairs_size ∙ omega arith))
      ∙ sym (map-append (part_of s) (upto 0 (rules_of s)) ((0 + rules_of s) ∷ []) ∙ ap (λ (k : ℕ). map (part_of s) (upto 0 (rules_of s)) ++ (part_of s k ∷ [])) (plus (rules_of s)))
      ∙ ap (map (part_of s)) (sym (upto_last 0 (rules_of s)) ∙ ap (upto 0) next)
    where
      plus : (n : ℕ) → 0 + n ≡ n
      plus n = omega arith

  parts_written : drop (12 + 4 * rules_of s) s ≡ together (map (part_of s) (upto 0 (rules_of s + 1)))
  parts_written = together_written s (rules_of s + 1) (12 + 4 * rules_of s) 0 sound.follow

  pub rule_count_lem : length (program_in s).rules ≡ rules_of s
  unfolding program_in
  rule_count_lem = rules_length s 0 (rules_of s)

  pub pair_count : length (program_in s).pairs ≡ pair_count_of s
  unfolding program_in
  pair_count = pairs_length s 0 (pair_count_of s)

  -- the image of its program is as long
  pub image_as_long : length (image_of (program_in s)) ≡ length s
  image_as_long =
      image_length (program_in s)
      ∙ omega (arith, rule_count_lem, fits, ap (λ (l : List (List ℕ)). length (together l)) parts_are, ap (λ (l : List ℕ). length l) parts_written, length-drop (12 + 4 * rules_of s) s)

  module _ (bytes : Bytes s) where
    entries : take (4 * (rules_of s + 1)) (drop 8 s) ≡ directory (12 + 4 * rules_of s) (map (part_of s) (upto 0 (rules_of s + 1)))
    entries = directory_written s bytes sized (rules_of s + 1) (12 + 4 * rules_of s) 0 sound.follow (omega arith) (omega (arith, fits))

    after : take (4 * (rules_of s + 1)) (drop 8 s) ++ drop (12 + 4 * rules_of s) s ≡ drop 8 s
    after =
        let place : 8 + 4 * (rules_of s + 1) ≡ 12 + 4 * rules_of s = omega arith in
        ap (λ (l : List ℕ). take (4 * (rules_of s + 1)) (drop 8 s) ++ l)
        (ap (λ (k : ℕ). drop k s) (sym place) ∙ sym (drop-drop (4 * (rules_of s + 1)) 8 s))
        ∙ take-append-drop (4 * (rules_of s + 1)) (drop 8 s)

    pub header_written : s ≡ header_bytes (atoms_of s) (rules_of s) (pair_count_of s) ++ drop 8 s
    header_written =
        number_drop s bytes 0 (omega (arith, fits))
        ∙ ap (λ (l : List ℕ). atoms_of s % 256 ∷ atoms_of s / 256 ∷ l)
        (number_drop s bytes 2 (omega (arith, fits))
        ∙ ap (λ (l : List ℕ). rules_of s % 256 ∷ rules_of s / 256 ∷ l)
        (number_drop s bytes 4 (omega (arith, fits))
        ∙ ap (λ (l : List ℕ). pair_count_of s % 256 ∷ pair_count_of s / 256 ∷ l)
        (number_drop s bytes 6 (omega (arith, fits)) ∙ ap (λ (z : ℕ). z % 256 ∷ z / 256 ∷ drop 8 s) sound.zeros)))

    -- an accepted image is the image of the program that it holds
    pub image_written : image_of (program_in s) ≡ s
    unfolding image_of program_in
    image_written =
        ap₂ (λ (r p : ℕ). header_bytes (atoms_of s) r p ++ (directory (12 + 4 * r) (parts_of (program_in s)) ++ together (parts_of (program_in s))))
        (rules_length s 0 (rules_of s)) (pairs_length s 0 (pair_count_of s))
        ∙ ap (λ (l : List (List ℕ)). header_bytes (atoms_of s) (rules_of s) (pair_count_of s) ++ (directory (12 + 4 * rules_of s) l ++ together l)) parts_are
        ∙ ap₂ (λ (a b : List ℕ). header_bytes (atoms_of s) (rules_of s) (pair_count_of s) ++ (a ++ b)) (sym entries) (sym parts_written)
        ∙ ap (λ (l : List ℕ). header_bytes (atoms_of s) (rules_of s) (pair_count_of s) ++ l) after
        ∙ sym header_written
