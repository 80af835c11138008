-- The computed defeaters are the published ones, and of two arguments that exclude each other one defeats the other.
use mathlib.Core.Bool.{not, ◌&&◌}
use mathlib.Core.List.{Memᴰ}
use mathlib.Core.Logic.{inl, inr}
use Rattle.lists.specs.Decides.{Decides}
use Rattle.lists.proofs.Lists.{filter_intro, filter_found}
use Rattle.lists.proofs.Decides.{decides_not, decides_iff, decides_and, decides_any}
use Rattle.defeat.specs.Frame.{Frame}
use Rattle.defeat.specs.Defeat.{AttacksAt, ProperDefeater, BlockingDefeater, Defeater}
use Rattle.defeat.specs.Tests.{Tests, attacked, proper, neither, blocking}
use Rattle.defeat.proofs.Laws.{Laws}
use Rattle.defeat.proofs.Renders.{Renders}

-- ---- the tests

module _ {A : Type 0} {F : Frame A} {t : Tests A} (R : Renders F t)
    (x y : A) (ax : F.Argument x) (ay : F.Argument y) where
  attacked_argument : {z : A} → AttacksAt F x y z → F.Argument z
  attacked_argument {z} a = R.sub_argument z y a.sub

  pub attacked_found : {z : A} → Memᴰ z (attacked t x y) → AttacksAt F x y z
  unfolding attacked
  attacked_found {z} i =
      let f = filter_found (λ z. t.sub z y && t.excludes x z) t.arguments i in
      let az = (R.argument z).1 f.0 in
      let k = (decides_and (R.sub z y az ay) (R.excludes x z ax az)).says f.1 in
      record { sub = k.0; excludes = k.1 }

  pub attacked_intro : {z : A} → AttacksAt F x y z → Memᴰ z (attacked t x y)
  unfolding attacked
  attacked_intro {z} a =
      let az = attacked_argument a in
      let k = (decides_and (R.sub z y az ay) (R.excludes x z ax az)).passes (a.sub, a.excludes) in
      filter_intro (λ z. t.sub z y && t.excludes x z) t.arguments ((R.argument z).0 az) k

  pub proper_renders : Decides (proper t x y) (ProperDefeater F x y)
  unfolding proper
  proper_renders = decides_iff
      (λ r. record { at = r.0; attacks = attacked_found r.1; preferred = r.2 })
      (λ p. (p.at, attacked_intro p.attacks, p.preferred))
      (decides_any (F.Preferred x) (t.preferred x) (attacked t x y)
      (λ z i. R.preferred x z ax (attacked_argument (attacked_found i))))

  -- neither x nor z is preferred
  abbrev Neither : A → Type 0
  Neither z = (¬ F.Preferred x z) × (¬ F.Preferred z x)

  neither_renders : Decides (neither t x y) ((z : A) × Memᴰ z (attacked t x y) × Neither z)
  unfolding neither
  neither_renders = decides_any Neither (λ z. not (t.preferred x z) && not (t.preferred z x)) (attacked t x y)
      (λ z i.
      let az = attacked_argument (attacked_found i) in
      decides_and (decides_not (R.preferred x z ax az)) (decides_not (R.preferred z x az ax)))

  pub blocking_renders : Decides (blocking t x y) (BlockingDefeater F x y)
  unfolding blocking
  blocking_renders = decides_iff
      (λ r. record {
        otherwise = r.0;
        at = r.1.0;
        attacks = attacked_found r.1.1;
        not_preferred = r.1.2.0;
        not_preferred_to = r.1.2.1;
      })
      (λ b. (b.otherwise, (b.at, attacked_intro b.attacks, (b.not_preferred, b.not_preferred_to))))
      (decides_and (decides_not proper_renders) neither_renders)

-- ---- of two arguments that exclude each other, one defeats the other

-- a defeater attacks somewhere
pub defeater_attacks : {A : Type 0} {F : Frame A} {x y : A} → Defeater F x y → (z : A) × AttacksAt F x y z
defeater_attacks (inl p) = (p.at, p.attacks)
defeater_attacks (inr b) = (b.at, b.attacks)

module _ {A : Type 0} {F : Frame A} (L : Laws F) where
  -- Were neither a defeater of the other, then y would not be preferred and x not proper, so that x would be blocking.
  -- Said in this way, it needs no test of preference.
  pub defeater_one : (x y : A) → F.Argument x → F.Argument y → F.Excludes x y → ¬ Defeater F x y → ¬ Defeater F y x → ⊥
  defeater_one x y ax ay e n m = n (inr (record {
    otherwise = λ p. n (inl p);
    at = y;
    attacks = there;
    not_preferred = λ p. n (inl (record { at = y; attacks = there; preferred = p }));
    not_preferred_to = λ p. m (inl (record { at = x; attacks = back; preferred = p }));
  }))
    where
      -- each attacks the other at the whole of it
      there : AttacksAt F x y y
      there = record { sub = L.sub_refl y ay; excludes = e }

      back : AttacksAt F y x x
      back = record { sub = L.sub_refl x ax; excludes = L.excludes_sym x y e }
