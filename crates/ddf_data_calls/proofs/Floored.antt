-- While blocks of an array are written, and the steps around them, the disk of each member keeps its floor.
use Rattle.std.proofs.Common.{◌≡◌, ◌⊎◌, ◌∙◌, inl, inr, ⊎_elim, ℕ, zero, suc, ◌<◌, ◌≤◌, Bool, true, false, List, [], ◌∷◌, ◌++◌, Option, Some, refl, sym, ap, subst, arith}
use Rattle.std.proofs.Math.Path.{fun_ext}
use Rattle.std.specs.Prelude.{option_to_list, slice_get, slice_index}
use Rattle.ddf_lemmas.proofs.Tests.{true_false}
use Rattle.ddf_bay.specs.Moments.{StopsLeave}
use Rattle.ddf_bay.specs.Sectors.{Image}
use Rattle.ddf_bay.specs.State.{BayState, size_of}
use Rattle.ddf_config.specs.Configuration.{Configuration}
use Rattle.ddf_copy.specs.declared.newest_copy.Newest.{Newest}
use Rattle.ddf_plan.specs.declared.change.Change.{Change}
use Rattle.ddf_array.specs.Volume.{Volume}
use Rattle.ddf_data_group.specs.Grouped.{Promises}
use Rattle.ddf_history.specs.Groups.{groups, has_current}
use Rattle.ddf_history.specs.Issued.{IsSince, Past}
use Rattle.ddf_seats.specs.declared.seated.Seated.{Seated}
use Rattle.ddf_steps.specs.Committed.{slots_of}
use Rattle.ddf_seats.specs.Group.{GroupValue, floor_of}
use Rattle.ddf_seats.specs.Seated.{seated}
use Rattle.ddf_steps.specs.Steps.{Step}
use Rattle.ddf_history_steps.specs.Floors.{HasFloor}
use Rattle.ddf_history_steps.specs.Kept.{is_slot}
use Rattle.ddf_history.proofs.Since.{which}
use Rattle.ddf_history_steps.proofs.Above.{floor_same}
use Rattle.ddf_answer.specs.Call.{work_of}
use Rattle.ddf_group_commands.specs.Change.{Request}
use Rattle.ddf_group_commands.specs.Writing.{IsLeftWriting, IsWrittenOn}
use Rattle.ddf_group_commands.specs.Written.{AreWritten, IsWritten}
use Rattle.ddf_write_commands.specs.Along.{ComesAlong, IsLeftAt, Stage}
use Rattle.ddf_write_commands.specs.Along.Stage.{Closing, Done, Opening, Working}
use Rattle.ddf_write_commands.specs.Doing.{Doing}
use Rattle.ddf_write_commands.specs.Holding.{holding}
use Rattle.ddf_write_commands.specs.Planned.{IsPlanned}
use Rattle.ddf_write_commands.specs.Worked.{IsLeftClosing, IsLeftWorking}
use Rattle.ddf_data_calls.specs.Floors.{AllHaveFloors, HaveFloorsIn}
use Rattle.ddf_data_calls.proofs.Accepted.{mark_of}
use Rattle.ddf_data_calls.proofs.Both as both
use Rattle.ddf_data_calls.proofs.First.{IsCalled}
use Rattle.ddf_data_calls.proofs.Both.{IsSplit}
use Rattle.ddf_data_calls.proofs.Carried.{Carrying}
use Rattle.ddf_data_calls.proofs.Staged.{IsCarried}
use Rattle.ddf_data_calls.proofs.Untouched.{seated_floor}
use Rattle.ddf_write_commands.proofs.BelowSteps.{IsFloored, on_floor, on_step}
use Rattle.ddf_write_commands.proofs.StepFloors.{AllFloored, HaveFloorsOf, floors_first, floors_last, readied_floors}

-- ---- the slot of a member

module _ {D : Type 0} (group : List ℕ) (old : BayState D) (past : Past (groups group)) (floor : ℕ → ℕ) (promises : Promises) (left : List Bool) (newest : List (Option Newest)) (named : Option (List ℕ)) (found : GroupValue)
    (called : IsCalled group old past floor promises left newest named found) (all : AllHaveFloors group past old floor)
    (slot number : ℕ) (config : Configuration) (since : IsSince past.changes number config) (stays : past.lost slot ≡ false) (current : has_current config (past.disk slot) ≡ true) where
  abbrev pub HasOwn : (ℕ → List ℕ) → Type 0
  HasOwn sector = HasFloor (slice_index old.sizes slot) sector (floor slot)

  -- by whatever might have been left of it
  pub left_own : (sector : ℕ → List ℕ) → ((l : ℕ) → old.may_hold slot l (sector l)) → HasOwn sector
  left_own = all slot number config since stays current

  -- and by the same sectors from its floor on
  pub same_own : (before after : ℕ → List ℕ) → ((l : ℕ) → floor slot ≤ l → after l ≡ before l) → HasOwn before → HasOwn after
  same_own before after same has = floor_same (floor slot) before after (λ l le. sym (same l le)) (slice_index old.sizes slot) has

  seat_floor : (place : ℕ) (disk : Seated) → slice_get (seated found) place ≡ Some disk → IsFloored (size_of old disk.seat.slot) floor disk
  seat_floor = seated_floor group old past floor left newest named found called.long called.read called.is_found called.own called.admitted called.floors

  -- while steps are written,
  pub writing_own : (steps : List Step) → AllFloored (seated found) steps → (start : BayState D) (image : Image) → start.sizes ≡ old.sizes → (writing : IsLeftWriting start steps image)
      → HasOwn (writing.before slot) → HasOwn (image slot)
  writing_own steps floors start image same writing has =
      let stay : (s f : ℕ) → HasFloor (slice_index old.sizes s) (writing.before s) f → ((on : IsWrittenOn steps s) → floor_of on.disk.copy ≡ f) → HasFloor (slice_index old.sizes s) (image s) f = rw same at writing.floors in
      stay slot (floor slot) has (on_floor old floor (seated found) seat_floor steps floors slot)

  -- and once they are
  one_own : (step : Step) → HaveFloorsOf (seated found) step.disks → (before after : Image) → IsWritten old.sizes before step after → HasOwn (before slot) → HasOwn (after slot)
  one_own step floors before after is has = ⊎_elim
      (λ (on : (place : ℕ) × (disk : Seated) × (slice_get step.disks place ≡ Some disk) × (disk.seat.slot ≡ slot)).
      let from = floors on.0 on.1 on.2 in
      let was = seat_floor from.place from.before from.is_there in
      let own : floor_of on.1.copy ≡ floor slot = from.same_floor ∙ was.same ∙ ap floor (from.same_slot ∙ on.3) in
      subst (λ (n : ℕ). HasFloor (slice_index old.sizes n) (after n) (floor slot)) on.3
      ((is.have_copies on.0 on.1 on.2).floors (floor slot) (subst (λ (n : ℕ). HasFloor (slice_index old.sizes n) (before n) (floor slot)) (sym on.3) has) own))
      (λ beside. subst HasOwn (sym (fun_ext (λ (l : ℕ). is.others slot l beside))) has)
      (on_step step.disks slot)

  pub written_own : (steps : List Step) → AllFloored (seated found) steps → (before after : Image) → AreWritten old.sizes before steps after → HasOwn (before slot) → HasOwn (after slot)
  written_own [] floors before after are has = subst HasOwn (sym (fun_ext (λ (l : ℕ). are slot l))) has
  written_own (step ∷ others) floors before after are has =
      written_own others (λ k one at. floors (suc k) one at) are.0 after are.2 (one_own step (floors zero step refl) before are.0 are.1 has)

  -- ---- what the disks may hold while the seats' slots are read

  -- the slot of a seat has what it had,
  pub seat_same : (here : is_slot (slots_of found.seats) slot ≡ true) (before : Image) (l : ℕ) (bytes : List ℕ) → (holding old (slots_of found.seats) before).may_hold slot l bytes → bytes ≡ before slot l
  seat_same here before l bytes may = ⊎_elim (λ on. on.1) (λ left_it. absurd (true_false (is_slot (slots_of found.seats) slot) here left_it.0)) may

  -- and that of no seat what it might have had.
  pub other_left : (none : is_slot (slots_of found.seats) slot ≡ false) (before : Image) (l : ℕ) (bytes : List ℕ) → (holding old (slots_of found.seats) before).may_hold slot l bytes → old.may_hold slot l bytes
  other_left none before l bytes may = ⊎_elim (λ on. absurd (true_false (is_slot (slots_of found.seats) slot) on.0 none)) (λ left_it. left_it.1) may

  -- ---- a call that writes blocks between its steps

  module _ (tells : Type 0) (new : BayState D) (timestamp : ℕ) (word : List ℕ) (request : Request) (plan : IsPlanned found timestamp word request) (asked : List Change) (ask : Option Change)
      (is : IsSplit found timestamp plan.entry asked ask plan.first plan.last plan.volume) (doing : Doing) (carrying : Carrying) (carried : IsCarried old new promises plan.entry.0 doing carrying plan.volume) where
    abbrev v : Volume
    v = plan.volume

    all_floored : AllFloored (seated found) (plan.first ++ plan.last)
    all_floored = readied_floors found timestamp (option_to_list (mark_of plan.entry) ++ asked) (plan.first ++ plan.last) is.are_all

    first_own : (before : Image) → AreWritten old.sizes old.held plan.first before → HasOwn (before slot)
    first_own before written =
        written_own plan.first (floors_first (seated found) plan.first plan.last all_floored) old.held before written (left_own (old.held slot) (λ l. called.told slot l))

    -- a sector that gets bytes lies on the slot of a seat, below its floor
    given_low : (before : Image) (s l : ℕ) (bytes : List ℕ) → carrying.Gives v before s l bytes → (is_slot (slots_of found.seats) s ≡ true) × (l < floor s)
    given_low before s l bytes gives =
        both.cells_on group old past floor promises left newest named found called timestamp plan.entry asked ask plan.first plan.last plan.volume is s l (carrying.its v is.known before s l bytes gives)

    none_past : (before : Image) (l : ℕ) (bytes : List ℕ) → floor slot ≤ l → carrying.Gives v before slot l bytes → ⊥
    none_past before l bytes le gives = let low = (given_low before slot l bytes gives).1 in absurd (omega (arith, le, low))

    -- the slot of no seat has what it might have had
    beside_own : (here : is_slot (slots_of found.seats) slot ≡ false) (before : Image) (sector : ℕ → List ℕ)
        → ((l : ℕ) → (holding old (slots_of found.seats) before).may_hold slot l (sector l) ⊎ ((bytes : List ℕ) × carrying.Gives v before slot l bytes)) → HasOwn sector
    beside_own here before sector among = left_own sector (λ l. ⊎_elim
        (other_left here before l (sector l))
        (λ gives. absurd (true_false (is_slot (slots_of found.seats) slot) (given_low before slot l gives.0 gives.1).0 here)) (among l))

    working_own : (image : Image) → IsLeftWorking doing (work_of tells old new) found plan.first plan.volume image → HasOwn (image slot)
    working_own image working =
        let among = carried.among working.before (holding old (slots_of found.seats) working.before).may_hold image working.is_among in
        ⊎_elim
        (λ here. same_own (working.before slot) (image slot)
        (λ l le. ⊎_elim (seat_same here working.before l (image slot l)) (λ gives. absurd (none_past working.before l (image slot l) le gives)) (among slot l))
        (first_own working.before working.first_written))
        (λ none. beside_own none working.before (image slot) (λ l. ⊎_elim inl (λ gives. inr (image slot l, gives)) (among slot l)))
        (which (is_slot (slots_of found.seats) slot))

    closing_own : (image : Image) → IsLeftClosing doing (work_of tells old new) found plan.first plan.last plan.volume image → HasOwn (image slot)
    closing_own image closing =
        let behind_left = carried.left closing.before closing.behind closing.is_left in
        let writing = closing.is_writing in
        writing_own plan.last (floors_last (seated found) plan.first plan.last all_floored) (holding old (slots_of found.seats) closing.behind) image refl writing
        (⊎_elim
        (λ here. same_own (closing.before slot) (writing.before slot)
        (λ l le. seat_same here closing.behind l (writing.before slot l) (writing.is_left slot l)
        ∙ ⊎_elim (λ same. same) (λ gives. absurd (none_past closing.before l (closing.behind slot l) le gives)) (behind_left slot l))
        (first_own closing.before closing.first_written))
        (λ none. beside_own none closing.behind (writing.before slot) (λ l. inl (writing.is_left slot l)))
        (which (is_slot (slots_of found.seats) slot)))

    pub stage_own : (image : Image) (stage : Stage) → IsLeftAt group doing (work_of tells old new) past left found plan stage image → HasOwn (image slot)
    stage_own image Opening writing =
        writing_own plan.first (floors_first (seated found) plan.first plan.last all_floored) old image refl writing (left_own (writing.before slot) (λ l. writing.is_left slot l))
    stage_own image Working working = working_own image working
    stage_own image Closing closing = closing_own image closing
    stage_own image Done closing = closing_own image closing

-- So they do at every moment of the call.
pub floors_along : {D : Type 0} (tells : Type 0) (old new : BayState D) (group : List ℕ) (past : Past (groups group)) (floor : ℕ → ℕ) (promises : Promises) (left : List Bool) (newest : List (Option Newest)) (named : Option (List ℕ))
    (found : GroupValue) (called : IsCalled group old past floor promises left newest named found) → AllHaveFloors group past old floor
    → (timestamp : ℕ) (word : List ℕ) (request : Request) (plan : IsPlanned found timestamp word request) (asked : List Change) (ask : Option Change)
    (is : IsSplit found timestamp plan.entry asked ask plan.first plan.last plan.volume) (doing : Doing) (carrying : Carrying) → IsCarried old new promises plan.entry.0 doing carrying plan.volume
    → (done : Bool) → ComesAlong group doing (work_of tells old new) past left found plan done → StopsLeave old new (λ image. HaveFloorsIn group past old.sizes image floor)
floors_along tells old new group past floor promises left newest named found called all timestamp word request plan asked ask is doing carrying carried done along = record {
  later = along.any_moment.later;
  since = λ t image le was_left. ⊎_elim inl
      (λ way. inr (λ slot number config since stays current.
      stage_own group old past floor promises left newest named found called all slot number config since stays current tells new timestamp word request plan asked ask is doing carrying carried image way.stage way.is_left))
      (along.any_moment.since t image le was_left);
}
