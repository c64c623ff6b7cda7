-- While the rows of a position are filled, and the steps around them are written, the disk of each member keeps its floor.
use Rattle.std.proofs.Common.{◌≡◌, inl, inr, ⊎_elim, ℕ, zero, suc, ◌<◌, ◌≤◌, Bool, true, false, List, [], ◌∷◌, ◌++◌, take, Option, refl, arith}
use Rattle.std.specs.Prelude.{option_to_list, slice_index}
use Rattle.ddf_lemmas.proofs.Tests.{true_false}
use Rattle.ddf_bay.specs.Moments.{StopsLeave}
use Rattle.ddf_bay.specs.Sectors.{Image}
use Rattle.ddf_bay.specs.State.{BayState}
use Rattle.ddf_config.specs.Configuration.{Configuration}
use Rattle.ddf_copy.specs.declared.newest_copy.Newest.{Newest}
use Rattle.ddf_read.specs.Reading.{Failed}
use Rattle.ddf_cells.specs.Writing.{StaysBut}
use Rattle.ddf_rebuild.specs.Target.{IsTargetCell}
use Rattle.ddf_data_group.specs.Grouped.{Promises}
use Rattle.ddf_history.specs.Groups.{groups, has_current}
use Rattle.ddf_history.specs.Issued.{IsSince, Past}
use Rattle.ddf_history.proofs.Since.{which}
use Rattle.ddf_steps.specs.Committed.{slots_of}
use Rattle.ddf_seats.specs.Group.{GroupValue}
use Rattle.ddf_seats.specs.Seated.{seated}
use Rattle.ddf_steps.specs.Steps.{Step}
use Rattle.ddf_history_steps.specs.Floors.{HasFloor}
use Rattle.ddf_history_steps.specs.Kept.{is_slot}
use Rattle.ddf_answer.specs.Call.{work_of}
use Rattle.ddf_group_commands.specs.Written.{AreWritten}
use Rattle.ddf_write_commands.specs.Holding.{holding}
use Rattle.ddf_rebuild_command.specs.Along.{ComesAlong}
use Rattle.ddf_rebuild_command.specs.Asked.{changes_behind}
use Rattle.ddf_rebuild_command.specs.Planned.{IsPlanned, first_row}
use Rattle.ddf_rebuild_command.specs.Rounds.{AreRounds, Round, row_before, steps_of}
use Rattle.ddf_rebuild_command.specs.Stages.{IsBehind, IsLeftAt, IsLeftFilling, IsLeftNoting, Stage}
use Rattle.ddf_rebuild_command.specs.Stages.Stage.{Filling, Noting, Opening}
use Rattle.ddf_data_calls.specs.Floors.{AllHaveFloors, HaveFloorsIn}
use Rattle.ddf_data_calls.proofs.Begins as begins
use Rattle.ddf_data_calls.proofs.Begins.{mark_in}
use Rattle.ddf_data_calls.proofs.Filling.{one_floored, target_its}
use Rattle.ddf_data_calls.proofs.First as start
use Rattle.ddf_data_calls.proofs.First.{IsCalled}
use Rattle.ddf_data_calls.proofs.Floored as floored
use Rattle.ddf_write_commands.proofs.StepFloors.{AllFloored, floors_first, floors_last, readied_floors}

module _ {D : Type 0} (tells : Type 0) (old new : BayState D) (group : List ℕ) (past : Past (groups group)) (floor : ℕ → ℕ) (promises : Promises) (left : List Bool) (newest : List (Option Newest)) (named : Option (List ℕ))
    (found : GroupValue) (called : IsCalled group old past floor promises left newest named found) (all : AllHaveFloors group past old floor) (timestamp : ℕ) (word : List ℕ)
    (plan : IsPlanned found timestamp word) where
  -- ---- its steps, and the sectors that it fills

  all_floored : AllFloored (seated found) (plan.first ++ steps_of plan.rounds)
  all_floored =
      readied_floors found timestamp (option_to_list (mark_in plan.before) ++ changes_behind plan.entry plan.target plan.kept) (plan.first ++ steps_of plan.rounds)
      (begins.are_all group found timestamp word plan)

  first_floored : AllFloored (seated found) plan.first
  first_floored = floors_first (seated found) plan.first (steps_of plan.rounds) all_floored

  rounds_floored : AllFloored (seated found) (steps_of plan.rounds)
  rounds_floored = floors_last (seated found) plan.first (steps_of plan.rounds) all_floored

  cell_low : (from to s l : ℕ) → IsTargetCell plan.volume plan.target.element plan.target.position from to s l → (is_slot (slots_of found.seats) s ≡ true) × (l < floor s)
  cell_low from to s l cell =
      start.cells_on group old past floor promises left newest named found called (begins.between group found timestamp word plan) plan.entry.0 plan.volume (begins.is_view group found timestamp word plan)
      plan.known s l (target_its plan.volume plan.known plan.target.element plan.target.position from to s l cell)

  module _ (slot number : ℕ) (config : Configuration) (since : IsSince past.changes number config) (stays : past.lost slot ≡ false) (current : has_current config (past.disk slot) ≡ true) where
    abbrev HasOwn : (ℕ → List ℕ) → Type 0
    HasOwn sector = HasFloor (slice_index old.sizes slot) sector (floor slot)

    same_own : (before after : ℕ → List ℕ) → ((l : ℕ) → floor slot ≤ l → after l ≡ before l) → HasOwn before → HasOwn after
    same_own = floored.same_own group old past floor promises left newest named found called all slot number config since stays current

    left_own : (sector : ℕ → List ℕ) → ((l : ℕ) → old.may_hold slot l (sector l)) → HasOwn sector
    left_own = floored.left_own group old past floor promises left newest named found called all slot number config since stays current

    written_own : (steps : List Step) → AllFloored (seated found) steps → (before after : Image) → AreWritten old.sizes before steps after → HasOwn (before slot) → HasOwn (after slot)
    written_own = floored.written_own group old past floor promises left newest named found called all slot number config since stays current

    seat_same : (here : is_slot (slots_of found.seats) slot ≡ true) (before : Image) (l : ℕ) (bytes : List ℕ) → (holding old (slots_of found.seats) before).may_hold slot l bytes → bytes ≡ before slot l
    seat_same = floored.seat_same group old past floor promises left newest named found called all slot number config since stays current

    other_left : (none : is_slot (slots_of found.seats) slot ≡ false) (before : Image) (l : ℕ) (bytes : List ℕ) → (holding old (slots_of found.seats) before).may_hold slot l bytes → old.may_hold slot l bytes
    other_left = floored.other_left group old past floor promises left newest named found called all slot number config since stays current

    -- ---- behind rounds

    none_past : {A : Type 0} (from to l : ℕ) → floor slot ≤ l → IsTargetCell plan.volume plan.target.element plan.target.position from to slot l → A
    none_past from to l le cell = let low = (cell_low from to slot l cell).1 in absurd (omega (arith, le, low))

    filled_own : (from to : ℕ) (before after : Image) → StaysBut (IsTargetCell plan.volume plan.target.element plan.target.position from to) before after → HasOwn (before slot) → HasOwn (after slot)
    filled_own from to before after but has =
        same_own (before slot) (after slot) (λ l le. ⊎_elim (λ same. same) (λ cell. none_past from to l le cell) (but slot l)) has

    still_own : (before after : Image) → ((s l : ℕ) → after s l ≡ before s l) → HasOwn (before slot) → HasOwn (after slot)
    still_own before after same has = same_own (before slot) (after slot) (λ l le. same slot l) has

    rounds_own : (rounds : List Round) → AllFloored (seated found) (steps_of rounds) → (count from : ℕ) (before after : Image)
        → AreRounds (Failed old new) new.tells_left old.sizes plan.volume plan.target from before (take count rounds) after → HasOwn (before slot) → HasOwn (after slot)
    rounds_own rounds floors zero from before after are has = still_own before after are has
    rounds_own [] floors (suc count) from before after are has = still_own before after are has
    rounds_own (round ∷ rounds) floors (suc count) from before after are has =
        rounds_own rounds (λ k step there. floors (suc k) step there) count round.row are.2 after are.4
        (written_own (round.step ∷ []) (one_floored (seated found) (round ∷ rounds) floors 0 round refl) are.0 are.2 are.3 (filled_own from round.row before are.0 (are.1).stays has))

    behind_own : (count : ℕ) (image : Image) → IsBehind (work_of tells old new) found plan count image → HasOwn (image slot)
    behind_own count image at =
        rounds_own plan.rounds rounds_floored count (first_row plan) at.opened image at.rounds_done
        (written_own plan.first first_floored old.held at.opened at.first_written (left_own (old.held slot) (λ l. called.told slot l)))

    -- ---- at each stage

    filling_own : (count : ℕ) (image : Image) → IsLeftFilling (work_of tells old new) found plan count image → HasOwn (image slot)
    filling_own count image at =
        let from = row_before (first_row plan) plan.rounds count in
        ⊎_elim
        (λ here. same_own (at.before slot) (image slot)
        (λ l le. ⊎_elim (seat_same here at.before l (image slot l)) (λ cell. none_past from (at.round).row l le cell) (at.is_left slot l))
        (behind_own count at.before at.is_behind))
        (λ none. left_own (image slot)
        (λ l. ⊎_elim (other_left none at.before l (image slot l))
        (λ cell. absurd (true_false (is_slot (slots_of found.seats) slot) (cell_low from (at.round).row slot l cell).0 none)) (at.is_left slot l)))
        (which (is_slot (slots_of found.seats) slot))

    noting_own : (count : ℕ) (image : Image) → IsLeftNoting (work_of tells old new) found plan count image → HasOwn (image slot)
    noting_own count image at =
        let from = row_before (first_row plan) plan.rounds count in
        let writing = at.is_left in
        floored.writing_own group old past floor promises left newest named found called all slot number config since stays current ((at.round).step ∷ [])
        (one_floored (seated found) plan.rounds rounds_floored count at.round at.is_round) (holding old (slots_of found.seats) at.filled) image refl writing
        (⊎_elim
        (λ here. same_own (at.filled slot) (writing.before slot) (λ l le. seat_same here at.filled l (writing.before slot l) (writing.is_left slot l))
        (filled_own from (at.round).row at.before at.filled (at.is_filled).stays (behind_own count at.before at.is_behind)))
        (λ none. left_own (writing.before slot) (λ l. other_left none at.filled l (writing.before slot l) (writing.is_left slot l)))
        (which (is_slot (slots_of found.seats) slot)))

    stage_own : (image : Image) (stage : Stage) → IsLeftAt (work_of tells old new) found plan stage image → HasOwn (image slot)
    stage_own image Opening writing =
        floored.writing_own group old past floor promises left newest named found called all slot number config since stays current plan.first first_floored old image refl writing
        (left_own (writing.before slot) (λ l. writing.is_left slot l))
    stage_own image (Filling count) at = filling_own count image at
    stage_own image (Noting count) at = noting_own count image at

  -- So they do at every moment of the call.
  pub floors_along : (done : Bool) → ComesAlong group (work_of tells old new) past left found plan done → StopsLeave old new (λ image. HaveFloorsIn group past old.sizes image floor)
  floors_along done along = record {
    later = along.any_moment.later;
    since = λ t image le was_left. ⊎_elim inl
        (λ way. inr (λ slot number config since stays current. stage_own slot number config since stays current image way.stage way.is_left))
        (along.any_moment.since t image le was_left);
  }
