-- While the room of a position is filled, and the steps around it are written, the disk of each member keeps its floor.
use Rattle.std.proofs.Common.{◌≡◌, inl, inr, ⊎_elim, ℕ, ◌<◌, ◌≤◌, Bool, true, false, List, [], ◌∷◌, ◌++◌, Option, refl, arith}
use Rattle.std.specs.Prelude.{slice_index}
use Rattle.ddf_bay.specs.Moments.{StopsLeave}
use Rattle.ddf_bay.specs.Sectors.{Image}
use Rattle.ddf_bay.specs.State.{BayState}
use Rattle.ddf_config.specs.Configuration.{Configuration}
use Rattle.ddf_copy.specs.declared.newest_copy.Newest.{Newest}
use Rattle.ddf_cells.specs.Writing.{StaysBut}
use Rattle.ddf_rebuild.specs.Filling.{IsFilled}
use Rattle.ddf_data_group.specs.Grouped.{Promises}
use Rattle.ddf_history.specs.Groups.{groups, has_current}
use Rattle.ddf_history.specs.Issued.{IsSince, Past}
use Rattle.ddf_history.proofs.Since.{which}
use Rattle.ddf_steps.specs.Committed.{slots_of}
use Rattle.ddf_seats.specs.Group.{GroupValue}
use Rattle.ddf_seats.specs.Seated.{seated}
use Rattle.ddf_steps.specs.Steps.{Step}
use Rattle.ddf_history_steps.specs.Floors.{HasFloor}
use Rattle.ddf_history_steps.specs.Kept.{is_slot}
use Rattle.ddf_answer.specs.Call.{work_of}
use Rattle.ddf_group_commands.specs.Written.{AreWritten}
use Rattle.ddf_write_commands.specs.Holding.{holding}
use Rattle.ddf_rebuild_command.specs.BackAlong.{ComesAlongBack}
use Rattle.ddf_rebuild_command.specs.BackPlanned.{BackStage, IsBackLeftAt, IsBackPlanned, IsLeftCopying, IsLeftReturning}
use Rattle.ddf_rebuild_command.specs.BackPlanned.BackStage.{Copying, Opening, Returning}
use Rattle.ddf_rebuild_command.specs.GoingBack.{back_to}
use Rattle.ddf_data_calls.specs.Floors.{AllHaveFloors, HaveFloorsIn}
use Rattle.ddf_data_calls.proofs.Back as back
use Rattle.ddf_data_calls.proofs.First.{IsCalled}
use Rattle.ddf_data_calls.proofs.Floored as floored
use Rattle.ddf_write_commands.proofs.StepFloors.{AllFloored, floors_first, floors_last, readied_floors}
use Rattle.ddf_data_calls.proofs.Filling.{true_false}

module _ {D : Type 0} (tells : Type 0) (old new : BayState D) (group : List ℕ) (past : Past (groups group)) (floor : ℕ → ℕ) (promises : Promises) (left : List Bool) (newest : List (Option Newest)) (named : Option (List ℕ))
    (found : GroupValue) (called : IsCalled group old past floor promises left newest named found) (all : AllHaveFloors group past old floor) (timestamp : ℕ) (word : List ℕ) (slot : ℕ)
    (plan : IsBackPlanned old.sizes found timestamp word slot) where
  -- ---- its steps, and the sectors that it fills

  all_floored : AllFloored (seated found) (plan.first ++ plan.last ∷ [])
  all_floored = readied_floors found timestamp (back_to plan.entry plan.target plan.room ∷ []) (plan.first ++ plan.last ∷ []) plan.are_readied

  first_floored : AllFloored (seated found) plan.first
  first_floored = floors_first (seated found) plan.first (plan.last ∷ []) all_floored

  last_floored : AllFloored (seated found) (plan.last ∷ [])
  last_floored = floors_last (seated found) plan.first (plan.last ∷ []) all_floored

  filled_low : (s l : ℕ) → IsFilled plan.volume plan.target.element plan.to plan.room.start s l → (is_slot (slots_of found.seats) s ≡ true) × (l < floor s)
  filled_low = back.filled_low group old new past floor promises left newest named found called tells timestamp word slot plan

  module _ (disk number : ℕ) (config : Configuration) (since : IsSince past.changes number config) (stays : past.lost disk ≡ false) (current : has_current config (past.disk disk) ≡ true) where
    abbrev HasOwn : (ℕ → List ℕ) → Type 0
    HasOwn sector = HasFloor (slice_index old.sizes disk) sector (floor disk)

    same_own : (before after : ℕ → List ℕ) → ((l : ℕ) → floor disk ≤ l → after l ≡ before l) → HasOwn before → HasOwn after
    same_own = floored.same_own group old past floor promises left newest named found called all disk number config since stays current

    left_own : (sector : ℕ → List ℕ) → ((l : ℕ) → old.may_hold disk l (sector l)) → HasOwn sector
    left_own = floored.left_own group old past floor promises left newest named found called all disk number config since stays current

    written_own : (steps : List Step) → AllFloored (seated found) steps → (before after : Image) → AreWritten old.sizes before steps after → HasOwn (before disk) → HasOwn (after disk)
    written_own = floored.written_own group old past floor promises left newest named found called all disk number config since stays current

    seat_same : (here : is_slot (slots_of found.seats) disk ≡ true) (before : Image) (l : ℕ) (bytes : List ℕ) → (holding old (slots_of found.seats) before).may_hold disk l bytes → bytes ≡ before disk l
    seat_same = floored.seat_same group old past floor promises left newest named found called all disk number config since stays current

    other_left : (none : is_slot (slots_of found.seats) disk ≡ false) (before : Image) (l : ℕ) (bytes : List ℕ) → (holding old (slots_of found.seats) before).may_hold disk l bytes → old.may_hold disk l bytes
    other_left = floored.other_left group old past floor promises left newest named found called all disk number config since stays current

    none_past : {A : Type 0} (l : ℕ) → floor disk ≤ l → IsFilled plan.volume plan.target.element plan.to plan.room.start disk l → A
    none_past l le cell = let low = (filled_low disk l cell).1 in absurd (omega (arith, le, low))

    filled_own : (before after : Image) → StaysBut (IsFilled plan.volume plan.target.element plan.to plan.room.start) before after → HasOwn (before disk) → HasOwn (after disk)
    filled_own before after but has = same_own (before disk) (after disk) (λ l le. ⊎_elim (λ same. same) (λ cell. none_past l le cell) (but disk l)) has

    opened_own : (before : Image) → AreWritten old.sizes old.held plan.first before → HasOwn (before disk)
    opened_own before written = written_own plan.first first_floored old.held before written (left_own (old.held disk) (λ l. called.told disk l))

    -- ---- at each stage

    copying_own : (image : Image) → IsLeftCopying (work_of tells old new) found plan image → HasOwn (image disk)
    copying_own image at = ⊎_elim
        (λ here. same_own (at.before disk) (image disk)
        (λ l le. ⊎_elim (seat_same here at.before l (image disk l)) (λ cell. none_past l le cell) (at.is_left disk l))
        (opened_own at.before at.first_written))
        (λ none. left_own (image disk)
        (λ l. ⊎_elim (other_left none at.before l (image disk l)) (λ cell. true_false (is_slot (slots_of found.seats) disk) (filled_low disk l cell).0 none) (at.is_left disk l)))
        (which (is_slot (slots_of found.seats) disk))

    returning_own : (image : Image) → IsLeftReturning (work_of tells old new) found plan image → HasOwn (image disk)
    returning_own image at =
        let writing = at.is_left in
        floored.writing_own group old past floor promises left newest named found called all disk number config since stays current (plan.last ∷ []) last_floored
        (holding old (slots_of found.seats) at.filled) image refl writing
        (⊎_elim
        (λ here. same_own (at.filled disk) (writing.before disk) (λ l le. seat_same here at.filled l (writing.before disk l) (writing.is_left disk l))
        (filled_own at.before at.filled (at.is_filled).stays (opened_own at.before at.first_written)))
        (λ none. left_own (writing.before disk) (λ l. other_left none at.filled l (writing.before disk l) (writing.is_left disk l)))
        (which (is_slot (slots_of found.seats) disk)))

    stage_own : (image : Image) (stage : BackStage) → IsBackLeftAt (work_of tells old new) found plan stage image → HasOwn (image disk)
    stage_own image Opening writing =
        floored.writing_own group old past floor promises left newest named found called all disk number config since stays current plan.first first_floored old image refl writing
        (left_own (writing.before disk) (λ l. writing.is_left disk l))
    stage_own image Copying at = copying_own image at
    stage_own image Returning at = returning_own image at

  -- So they do at every moment of the call.
  pub floors_along : (done : Bool) → ComesAlongBack group (work_of tells old new) past left found plan done → StopsLeave old new (λ image. HaveFloorsIn group past old.sizes image floor)
  floors_along done along = record {
    later = along.any_moment.later;
    since = λ t image le was_left. ⊎_elim inl
        (λ way. inr (λ disk number config since stays current. stage_own disk number config since stays current image way.stage way.is_left))
        (along.any_moment.since t image le was_left);
  }
