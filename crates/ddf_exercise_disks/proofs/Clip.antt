-- What disks in memory hold below the records of an exercise's disks, where all cells of its array lie.
use Rattle.std.proofs.Common.{◌≡◌, ◌∙◌, ◌⊎◌, inl, inr, ⊎_elim, ℕ, zero, suc, ◌<◌, Bool, true, false, List, [], ◌∷◌, Some, length, refl, sym, ap, subst, arith}
use Rattle.std.specs.Prelude.{nat_lt, if◌then◌else◌, slice_get}
use Rattle.std.specs.List.{AllByRecursion}
use Rattle.std.proofs.lemmas.Bool.{lt-ltb, ltb-true}
use Rattle.ddf_bay.specs.LoggedLaws.{held_left, left_whole}
use Rattle.ddf_bay.specs.Memory.{disks_of}
use Rattle.ddf_bay.specs.Sectors.{Image}
use Rattle.ddf_bay.specs.declared.memory.MemoryBay.{MemoryBay}
use Rattle.ddf_array.specs.declared.part.Part.{Part}
use Rattle.ddf_array.specs.declared.place.Place.{Place}
use Rattle.ddf_array.specs.Sound.{AreSectors}
use Rattle.ddf_array.specs.Volume.{Volume}
use Rattle.ddf_cells.specs.Apart.{LiesAt}
use Rattle.ddf_data_array.specs.Rows.{AreAlikeThroughout}
use Rattle.ddf_exercise_config.specs.Turns.{Loss, Turn}
use Rattle.ddf_exercise_config.specs.Turns.Loss.{OfSecond, OfThird}
use Rattle.ddf_exercise_config.specs.Turns.Turn.{Closing, Middle, Opening}
use Rattle.ddf_exercise_config.specs.Views.{part, view_at, view_begun, volume_on}

-- The sectors that a bay in memory holds have 512 bytes.
pub memory_sectors : (bay : MemoryBay) → AreSectors (disks_of bay).held
memory_sectors bay slot lba =
    (left_whole bay.clock bay.log.logged.items slot lba ((disks_of bay).held slot lba) bay.log.whole (held_left bay.clock bay.log.logged.items slot lba bay.past)).size

-- ---- one image below the records, another from there on

abbrev pub IsSameLow : (one other : Image) → Type 0
IsSameLow one other = (slot lba : ℕ) → lba < 32687 → one slot lba ≡ other slot lba

abbrev pub clip : (low high : Image) → Image
clip low high slot lba = if nat_lt lba 32687 then low slot lba else high slot lba

module _ (low high : Image) where
  pub clip_low : IsSameLow (clip low high) low
  clip_low slot lba below = by (nat_lt lba 32687) (lt-ltb lba 32687 below)
    where
      by : (is : Bool) → is ≡ true → (if is then low slot lba else high slot lba) ≡ low slot lba
      by true e = refl
      by false e = absurd cc

  pub clip_sectors : AreSectors low → AreSectors high → AreSectors (clip low high)
  clip_sectors are_low are_high slot lba = by (nat_lt lba 32687)
    where
      by : (is : Bool) → length (if is then low slot lba else high slot lba) ≡ 512
      by true = are_low slot lba
      by false = are_high slot lba

  -- Where an image below comes from another by bytes that it is given, so does this one from the image that it has from there on.
  pub clip_gets : (before behind : Image) (Gives : ℕ → ℕ → List ℕ → Type 0) → IsSameLow low behind → IsSameLow before high
      → ((slot lba : ℕ) → (behind slot lba ≡ before slot lba) ⊎ Gives slot lba (behind slot lba))
      → (slot lba : ℕ) → (clip low high slot lba ≡ high slot lba) ⊎ Gives slot lba (clip low high slot lba)
  clip_gets before behind Gives same_low same_high given slot lba = by (nat_lt lba 32687) refl
    where
      by : (is : Bool) → nat_lt lba 32687 ≡ is → ((if is then low slot lba else high slot lba) ≡ high slot lba) ⊎ Gives slot lba (if is then low slot lba else high slot lba)
      by true is =
          let below = ltb-true lba 32687 is in
          let here = same_low slot lba below in
          ⊎_elim (λ stayed. inl (here ∙ stayed ∙ same_high slot lba below)) (λ gives. inr (subst (Gives slot lba) (sym here) gives)) (given slot lba)
      by false is = inl refl

-- ---- where the cells of the array lie

-- each place begins at the beginning of its disk
abbrev pub BeginFirst : List Place → Type 0
BeginFirst places = AllByRecursion (λ (place : Place). place.start ≡ 0) places

begins_first : (places : List Place) → BeginFirst places → (position : ℕ) (place : Place) → slice_get places position ≡ Some place → place.start ≡ 0
begins_first [] first position place at = absurd cc
begins_first (one ∷ places) first zero place at = let is : one ≡ place = cc in ap (λ (p : Place). p.start) (sym is) ∙ first.0
begins_first (one ∷ places) first (suc position) place at = begins_first places first.1 position place at

first_part : (places : List Place) (element : ℕ) (one : Part) → slice_get (part places ∷ []) element ≡ Some one → one ≡ part places
first_part places zero one at = let is : part places ≡ one = cc in sym is
first_part places (suc element) one at = absurd cc

-- all its cells lie below these sectors of their slots
abbrev pub LiesBelow : (end : ℕ) → Volume → Type 0
LiesBelow end volume = (element position sector slot lba : ℕ) → LiesAt volume element position sector slot lba → lba < end

pub lies_on : (is_marked : Bool) (places : List Place) → BeginFirst places → LiesBelow 4096 (volume_on is_marked places)
lies_on is_marked places first element position sector slot lba lies =
    let is : lies.part ≡ part places = first_part places element lies.part lies.is_part in
    let blocks : lies.part.shape.blocks ≡ 4096 = ap (λ (p : Part). p.shape.blocks) is in
    let start : lies.place.start ≡ 0 = begins_first places first position lies.place (subst (λ (p : Part). slice_get p.places position ≡ Some lies.place) is lies.is_place) in
    let below = lies.below in
    let lba_is = lies.lba_is in
    omega (arith, blocks, start, below, lba_is)

pub view_below : (turn : Turn) (is_marked : Bool) → LiesBelow 4096 (view_at turn is_marked)
view_below Opening is_marked = lies_on is_marked _ (refl, (refl, (refl, tt)))
view_below Middle is_marked = lies_on is_marked _ (refl, (refl, (refl, tt)))
view_below Closing is_marked = lies_on is_marked _ (refl, (refl, (refl, tt)))

pub begun_below : (loss : Loss) → LiesBelow 4096 (view_begun loss)
begun_below OfSecond = lies_on false _ (refl, (refl, (refl, tt)))
begun_below OfThird = lies_on false _ (refl, (refl, (refl, tt)))

-- So images that hold the same below the records are alike to it.
pub alike_low : (volume : Volume) → LiesBelow 4096 volume → (one other : Image) → IsSameLow one other → AreAlikeThroughout volume one other
alike_low volume below one other same element position sector slot lba lies = same slot lba (let low = below element position sector slot lba lies in omega (arith, low))
