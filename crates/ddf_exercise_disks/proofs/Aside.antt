-- What the steps of a group write lies past the sectors of arrays.
use Rattle.std.proofs.Common.{◌≡◌, ◌≢◌, ◌∙◌, ◌⊎◌, ℕ, zero, suc, ◌<◌, List, [], ◌∷◌, Some, refl, sym, ap, subst, inl, inr, ⊎_elim, arith}
use Rattle.std.specs.Prelude.{slice_get, slice_index}
use Rattle.std.specs.List.{AllByRecursion}
use Rattle.std.proofs.lemmas.Bool.{cases_eq}
use Rattle.ddf_bay.specs.Sectors.{Image}
use Rattle.ddf_config.specs.declared.seat.Seat.{Seat}
use Rattle.ddf_seats.specs.declared.seated.Seated.{Seated}
use Rattle.ddf_seats.specs.Seated.{seats_in}
use Rattle.ddf_steps.specs.Steps.{Step}
use Rattle.ddf_steps.proofs.Common.{written_past}
use Rattle.ddf_group_commands.specs.Written.{AreWritten, HasCopy, IsWritten}
use Rattle.ddf_uncut_group.specs.Plain.{ArePlain, IsPlain}
use Rattle.ddf_uncut_group.proofs.PlainCopies.{plain_floor}
use Rattle.ddf_exercise_disks.specs.Well.{sizes_made}
use Rattle.ddf_exercise_disks.proofs.Healthy.{size_made}

-- Each seat is on one of the five slots.
abbrev pub AreOnFive : List Seat → Type 0
AreOnFive seats = AllByRecursion (λ (seat : Seat). seat.slot < 5) seats

-- A disk is on the slot, or none is.
pub record IsOn (disks : List Seated) (slot : ℕ) : Type 0 where
  pub place : ℕ
  pub disk : Seated
  pub is_disk : slice_get disks place ≡ Some disk
  pub on_slot : disk.seat.slot ≡ slot

on_or_none : (disks : List Seated) (slot : ℕ) → IsOn disks slot ⊎ ((place : ℕ) (disk : Seated) → slice_get disks place ≡ Some disk → disk.seat.slot ≢ slot)
on_or_none [] slot = inr (λ place disk at same. cc)
on_or_none (first ∷ disks) slot = ⊎_elim
    (λ here. inl (record { place = 0; disk = first; is_disk = refl; on_slot = here }))
    (λ other. ⊎_elim
    (λ on. inl (record { place = suc on.place; disk = on.disk; is_disk = on.is_disk; on_slot = on.on_slot }))
    (λ none. inr (λ place disk at same. none_at other none place disk at same))
    (on_or_none disks slot))
    (cases_eq first.seat.slot slot)
  where
    none_at : first.seat.slot ≢ slot → ((place : ℕ) (disk : Seated) → slice_get disks place ≡ Some disk → disk.seat.slot ≢ slot) → (place : ℕ) (disk : Seated) → slice_get (first ∷ disks) place ≡ Some disk
        → disk.seat.slot ≡ slot → ⊥
    none_at other none zero disk at same = let is : first ≡ disk = cc in other (ap (λ (one : Seated). one.seat.slot) is ∙ same)
    none_at other none (suc place) disk at same = none place disk at same

five_at : (disks : List Seated) (place : ℕ) (disk : Seated) → AreOnFive (seats_in disks) → slice_get disks place ≡ Some disk → disk.seat.slot < 5
five_at [] place disk five at = absurd cc
five_at (first ∷ disks) zero disk five at = let is : first ≡ disk = cc in subst (λ (one : Seated). one.seat.slot < 5) is five.0
five_at (first ∷ disks) (suc place) disk five at = five_at disks place disk five.1 at

plain_at : (disks : List Seated) (place : ℕ) (disk : Seated) → ArePlain sizes_made disks → slice_get disks place ≡ Some disk → IsPlain (slice_index sizes_made disk.seat.slot) disk.copy
plain_at [] place disk plain at = absurd cc
plain_at (first ∷ disks) zero disk plain at = let is : first ≡ disk = cc in subst (λ (one : Seated). IsPlain (slice_index sizes_made one.seat.slot) one.copy) is plain.0
plain_at (first ∷ disks) (suc place) disk plain at = plain_at disks place disk plain.1 at

-- ---- one step

copy_aside : (before after : Image) (disk : Seated) → HasCopy sizes_made before after disk → IsPlain (slice_index sizes_made disk.seat.slot) disk.copy → disk.seat.slot < 5
    → (l : ℕ) → l < 32687 → after disk.seat.slot l ≡ before disk.seat.slot l
copy_aside before after disk has plain five l low = ⊎_elim
    (λ same. same)
    (λ written.
    let size : slice_index sizes_made disk.seat.slot ≡ 65536 = size_made disk.seat.slot five in
    let floor = plain_floor (slice_index sizes_made disk.seat.slot) disk.copy plain in
    absurd (⊎_elim (λ past. omega (arith, past, floor, size, low)) (λ last. let at = last.1 in omega (arith, at, size, low))
    (written_past disk.copy disk.last disk.mode has.update (slice_index sizes_made disk.seat.slot) l has.is_prepared written)))
    (has.outside l)

step_aside : (before after : Image) (step : Step) → IsWritten sizes_made before step after → ArePlain sizes_made step.disks → AreOnFive (seats_in step.disks)
    → (slot l : ℕ) → l < 32687 → after slot l ≡ before slot l
step_aside before after step written plain five slot l low = ⊎_elim
    (λ on.
    let same = copy_aside before after on.disk (written.have_copies on.place on.disk on.is_disk) (plain_at step.disks on.place on.disk plain on.is_disk) (five_at step.disks on.place on.disk five on.is_disk) l low in
    subst (λ (s : ℕ). after s l ≡ before s l) on.on_slot same)
    (λ none. written.others slot l none)
    (on_or_none step.disks slot)

-- Steps that write plain disks on the five slots leave every sector below the disks' records.
pub steps_aside : (steps : List Step) (seats : List Seat) (before after : Image) → AreWritten sizes_made before steps after → AllByRecursion (λ (step : Step). ArePlain sizes_made step.disks) steps
    → AllByRecursion (λ (step : Step). seats_in step.disks ≡ seats) steps → AreOnFive seats → (slot l : ℕ) → l < 32687 → after slot l ≡ before slot l
steps_aside [] seats before after written plain on five slot l low = written slot l
steps_aside (step ∷ steps) seats before after written plain on five slot l low =
    steps_aside steps seats written.0 after written.2 plain.1 on.1 five slot l low
    ∙ step_aside before written.0 step written.1 plain.0 (subst AreOnFive (sym on.0) five) slot l low
