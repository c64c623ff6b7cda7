-- The steps of a group write nothing below the floors of the slots.
use Rattle.std.proofs.Common.{◌≡◌, ◌≢◌, ◌⊎◌, ◌∙◌, inl, inr, ⊎_elim, ℕ, zero, suc, ◌<◌, ◌≤◌, List, [], ◌∷◌, Some, Ok, refl, ap, sym, subst, arith}
use Rattle.std.proofs.lemmas.Bool.{cases_eq}
use Rattle.std.specs.Prelude.{slice_get, slice_index}
use Rattle.ddf_bay.specs.Sectors.{Image}
use Rattle.ddf_bay.specs.State.{BayState, size_of}
use Rattle.ddf_copy.specs.declared.which.Which.TheVariants.{Primary}
use Rattle.ddf_copy.specs.Headers.{IsUnder}
use Rattle.ddf_copy.proofs.Stands.{place_within}
use Rattle.ddf_plan.specs.declared.change.Change.{Change}
use Rattle.ddf_update.specs.declared.prepared.Prepared.{Prepared}
use Rattle.ddf_update.specs.Prepared.{IsPrepared}
use Rattle.ddf_update.specs.Update.{IsWritten as IsUpdateSector}
use Rattle.ddf_rewrite.proofs.Lists.{all_at}
use Rattle.ddf_seats.specs.declared.seated.Seated.{Seated}
use Rattle.ddf_seats.specs.Changing.{SlotsRise}
use Rattle.ddf_seats.specs.Group.{GroupValue, floor_of}
use Rattle.ddf_seats.specs.Seated.{seated}
use Rattle.ddf_seats.proofs.CommittedSeats.{seated_is}
use Rattle.ddf_seats.proofs.Common.{floor_below}
use Rattle.ddf_steps.specs.Steps.{Step}
use Rattle.ddf_steps.proofs.Common.{written_past}
use Rattle.ddf_assembly.specs.Reading.{HaveAnchors}
use Rattle.ddf_recovery.specs.Ready.{readied}
use Rattle.ddf_recovery.proofs.CommittedCopies.{standing_under}
use Rattle.ddf_history_steps.specs.BlockFloors.{AreFloored, IsFloored as IsSeatFloored, floor_in}
use Rattle.ddf_group_commands.specs.Writing.{IsStepsSector, IsWrittenOn}
use Rattle.ddf_group_commands.specs.Written.{AreWritten, IsWritten}
use Rattle.ddf_write_commands.proofs.BelowFloors.{floor_found}
use Rattle.ddf_write_commands.proofs.StepFloors.{AllFloored, HaveFloorsOf, readied_floors}

-- a disk of a group has the floor of its slot, and it lies on the disk
pub record IsFloored (size : ℕ) (floor : ℕ → ℕ) (disk : Seated) : Type 0 where
  pub same : floor_of disk.copy ≡ floor disk.seat.slot
  pub within : floor disk.seat.slot < size

-- ---- what is written

-- a disk of a step on a slot, or none
pub on_step : (disks : List Seated) (slot : ℕ) → ((place : ℕ) × (disk : Seated) × (slice_get disks place ≡ Some disk) × (disk.seat.slot ≡ slot))
    ⊎ ((place : ℕ) (disk : Seated) → slice_get disks place ≡ Some disk → disk.seat.slot ≢ slot)
on_step [] slot = inr (λ place disk at. absurd cc)
on_step (first ∷ disks) slot = by (cases_eq first.seat.slot slot) (on_step disks slot)
  where
    by : (first.seat.slot ≡ slot) ⊎ (first.seat.slot ≢ slot)
        → ((place : ℕ) × (disk : Seated) × (slice_get disks place ≡ Some disk) × (disk.seat.slot ≡ slot)) ⊎ ((place : ℕ) (disk : Seated) → slice_get disks place ≡ Some disk → disk.seat.slot ≢ slot)
        → ((place : ℕ) × (disk : Seated) × (slice_get (first ∷ disks) place ≡ Some disk) × (disk.seat.slot ≡ slot))
        ⊎ ((place : ℕ) (disk : Seated) → slice_get (first ∷ disks) place ≡ Some disk → disk.seat.slot ≢ slot)
    by (inl same) rest = inl (0, first, refl, same)
    by (inr differs) (inl later) = inl (suc later.0, later.1, later.2, later.3)
    by (inr differs) (inr none) = inr beside
      where
        beside : (place : ℕ) (disk : Seated) → slice_get (first ∷ disks) place ≡ Some disk → disk.seat.slot ≢ slot
        beside zero disk at same = let one : first ≡ disk = cc in differs (ap (λ (d : Seated). d.seat.slot) one ∙ same)
        beside (suc place) disk at same = none place disk at same

module _ {D : Type 0} (old : BayState D) (floor : ℕ → ℕ) (seats : List Seated) (seat_floor : (place : ℕ) (disk : Seated) → slice_get seats place ≡ Some disk → IsFloored (size_of old disk.seat.slot) floor disk) where
  disk_low : (disks : List Seated) → HaveFloorsOf seats disks → (place : ℕ) (disk : Seated) → slice_get disks place ≡ Some disk → (slot : ℕ) → disk.seat.slot ≡ slot → (update : Prepared) (l : ℕ)
      → IsPrepared disk.copy disk.last disk.mode update → IsUpdateSector (size_of old slot) update l → floor slot ≤ l
  disk_low disks floors place disk at slot on update l prepared written =
      let from = floors place disk at in
      let was = seat_floor from.place from.before from.is_there in
      let slot_is : from.before.seat.slot ≡ slot = from.same_slot ∙ on in
      let same : floor_of disk.copy ≡ floor slot = from.same_floor ∙ was.same ∙ ap floor slot_is in
      let within : floor slot < size_of old slot = subst (λ (s : ℕ). floor s < size_of old s) slot_is was.within in
      ⊎_elim (λ past. omega (arith, past, same)) (λ anchor. let last = anchor.1 in omega (arith, last, within))
      (written_past disk.copy disk.last disk.mode update (size_of old slot) l prepared written)

  -- the copy that a disk of a step gets has the floor of its slot
  pub on_floor : (steps : List Step) → AllFloored seats steps → (slot : ℕ) (on : IsWrittenOn steps slot) → floor_of on.disk.copy ≡ floor slot
  on_floor steps floors slot on =
      let from = floors on.number on.step on.is_step on.place on.disk on.is_disk in
      let was = seat_floor from.place from.before from.is_there in
      from.same_floor ∙ was.same ∙ ap floor (from.same_slot ∙ on.on_slot)

  -- While steps are written nothing changes below the floors,
  pub writing_same : (steps : List Step) → AllFloored seats steps → (before image : Image) → ((slot l : ℕ) → (image slot l ≡ before slot l) ⊎ IsStepsSector (size_of old slot) steps slot l)
      → (s l : ℕ) → l < floor s → image s l ≡ before s l
  writing_same steps floors before image outside s l below =
      ⊎_elim (λ same. same)
      (λ is. absurd (let past = disk_low is.on.step.disks (floors is.on.number is.on.step is.on.is_step) is.on.place is.on.disk is.on.is_disk s is.on.on_slot is.update l is.is_prepared is.is_in in omega (arith, past, below)))
      (outside s l)

  one_same : (step : Step) → HaveFloorsOf seats step.disks → (before after : Image) → IsWritten old.sizes before step after → (s l : ℕ) → l < floor s → after s l ≡ before s l
  one_same step floors before after is s l below = ⊎_elim
      (λ (on : (place : ℕ) × (disk : Seated) × (slice_get step.disks place ≡ Some disk) × (disk.seat.slot ≡ s)).
      let has = is.have_copies on.0 on.1 on.2 in
      ⊎_elim
      (λ same. subst (λ (n : ℕ). after n l ≡ before n l) on.3 same)
      (λ written. absurd (let past = disk_low step.disks floors on.0 on.1 on.2 s on.3 has.update l has.is_prepared (subst (λ (n : ℕ). IsUpdateSector (slice_index old.sizes n) has.update l) on.3 written) in
      omega (arith, past, below)))
      (has.outside l))
      (λ beside. is.others s l beside)
      (on_step step.disks s)

  -- and once they are nothing has.
  pub written_same : (steps : List Step) → AllFloored seats steps → (before after : Image) → AreWritten old.sizes before steps after → (s l : ℕ) → l < floor s → after s l ≡ before s l
  written_same [] floors before after are s l below = are s l
  written_same (step ∷ others) floors before after are s l below =
      written_same others (λ k one at. floors (suc k) one at) are.0 after are.2 s l below ∙ one_same step (floors zero step refl) before are.0 are.1 s l below

-- ---- the disks of a group that was read

module _ {D : Type 0} (old : BayState D) (found : GroupValue) (rise : SlotsRise found.seats) (under : HaveAnchors old.sizes found.newest) (floored : AreFloored (seated found)) where
  -- The disk of a seat has the floor of its seat.
  pub seat_floors : (place : ℕ) (disk : Seated) → slice_get (seated found) place ≡ Some disk → IsFloored (size_of old disk.seat.slot) (floor_in found.seats) disk
  seat_floors place disk at =
      let is = seated_is found place disk at in
      let own : disk.seat.floor ≡ floor_of disk.copy = all_at IsSeatFloored (seated found) place disk floored at in
      let same : floor_in found.seats disk.seat.slot ≡ disk.seat.floor = floor_found found.seats rise is.place disk.seat is.is_seat in
      let has = (under disk.seat.slot is.found is.is_found).1 in
      let stands : IsUnder (size_of old disk.seat.slot) has.anchor disk.copy = standing_under (size_of old disk.seat.slot) has.anchor is.found disk.copy is.stands has.under in
      let there = place_within (size_of old disk.seat.slot) has.anchor disk.copy Primary stands in
      let in_place = stands.in_place Primary in
      let low = floor_below disk.copy Primary in
      record { same = sym own ∙ sym same; within = omega (arith, same, own, low, in_place, there) }

  -- Once steps are written nothing has changed below the floors of the seats.
  pub seats_same : (timestamp : ℕ) (changes : List Change) (steps : List Step) → readied found changes timestamp ≡ Ok steps → (before after : Image) → AreWritten old.sizes before steps after
      → (slot l : ℕ) → l < floor_in found.seats slot → after slot l ≡ before slot l
  seats_same timestamp changes steps are before after written =
      written_same old (floor_in found.seats) (seated found) seat_floors steps (readied_floors found timestamp changes steps are) before after written
