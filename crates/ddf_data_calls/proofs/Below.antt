-- An image of disks on which blocks of an array are written, as far as it lies below the floors of the slots.
use Rattle.std.proofs.Common.{◌≡◌, ◌⊎◌, inl, ℕ, ◌<◌, Bool, true, false, not, ◌&&◌, List, length, refl}
use Rattle.std.proofs.lemmas.Bool.{lt-ltb, ltb-true}
use Rattle.std.specs.Prelude.{nat_lt, if◌then◌else◌}
use Rattle.ddf_bay.specs.Sectors.{Image, IsLeft}
use Rattle.ddf_bay.specs.State.{BayState}
use Rattle.ddf_array.specs.Sound.{AreSectors}
use Rattle.ddf_data_history.specs.Promised.{SameBelow}

module _ {D : Type 0} (old : BayState D) (floor : ℕ → ℕ) (here : ℕ → Bool) (image : Image) where
  -- What it comes from: on the slots that are written what the disks held, and below the floors of other slots what it has itself.
  abbrev pub was : Image
  was s l = if nat_lt l (floor s) && not (here s) then image s l else old.held s l

  -- It, with what the disks held at the floors and past them.
  abbrev pub now : Image
  now s l = if nat_lt l (floor s) then image s l else old.held s l

  pub was_left : IsLeft old.may_hold old.held → ((s l : ℕ) → here s ≡ false → l < floor s → old.may_hold s l (image s l)) → IsLeft old.may_hold was
  was_left told beside s l = by (nat_lt l (floor s)) (here s) refl refl
    where
      by : (low there : Bool) → nat_lt l (floor s) ≡ low → here s ≡ there → old.may_hold s l (if low && not there then image s l else old.held s l)
      by true true low there = told s l
      by true false low there = beside s l there (ltb-true l (floor s) low)
      by false there low is = told s l

  pub now_sectors : AreSectors image → AreSectors old.held → AreSectors now
  now_sectors are whole s l = by (nat_lt l (floor s))
    where
      by : (low : Bool) → length (if low then image s l else old.held s l) ≡ 512
      by true = are s l
      by false = whole s l

  pub now_below : SameBelow floor now image
  now_below s l below = by (nat_lt l (floor s)) (lt-ltb l (floor s) below)
    where
      by : (low : Bool) → low ≡ true → image s l ≡ (if low then image s l else old.held s l)
      by true e = refl
      by false e = absurd cc

  -- on the slots that are written they hold the same as the disks did
  pub was_held : (s l : ℕ) → here s ≡ true → was s l ≡ old.held s l
  was_held s l there = by (nat_lt l (floor s)) (here s) there
    where
      by : (low is : Bool) → is ≡ true → (if low && not is then image s l else old.held s l) ≡ old.held s l
      by true true e = refl
      by true false e = absurd cc
      by false is e = refl

  -- and on others below the floors what it holds
  pub was_own : (s l : ℕ) → here s ≡ false → l < floor s → was s l ≡ image s l
  was_own s l away below = by (nat_lt l (floor s)) (here s) (lt-ltb l (floor s) below) away
    where
      by : (low is : Bool) → low ≡ true → is ≡ false → (if low && not is then image s l else old.held s l) ≡ image s l
      by true false e f = refl
      by true true e f = absurd cc
      by false is e f = absurd cc

  -- So each sector is as it was, or gets bytes.
  pub now_gets : (Gives : ℕ → ℕ → List ℕ → Type 0) → ((s l : ℕ) → here s ≡ true → l < floor s → (image s l ≡ old.held s l) ⊎ Gives s l (image s l))
      → (s l : ℕ) → (now s l ≡ was s l) ⊎ Gives s l (now s l)
  now_gets Gives given s l = by (nat_lt l (floor s)) (here s) refl refl
    where
      by : (low there : Bool) → nat_lt l (floor s) ≡ low → here s ≡ there
          → ((if low then image s l else old.held s l) ≡ (if low && not there then image s l else old.held s l)) ⊎ Gives s l (if low then image s l else old.held s l)
      by true true low there = given s l there (ltb-true l (floor s) low)
      by true false low there = inl refl
      by false there low is = inl refl
