-- A call that changes a group keeps its history and its data at once.
use Rattle.std.proofs.Common.{◌≡◌, ◌⊎◌, ◌∙◌, inl, inr, ⊎_elim, ℕ, ◌<◌, ◌≤◌, ◌^◌, Bool, false, List, length, Option, Some, Result, Ok, refl, ap, sym, subst, arith}
use Rattle.std.specs.Prelude.{option_to_list, slice_get}
use Rattle.ddf_bay.specs.Moments.{StopsLeave}
use Rattle.ddf_bay.specs.Sectors.{Image, IsLeft}
use Rattle.ddf_bay.specs.State.{BayState, size_of}
use Rattle.ddf_config.specs.declared.seat.Seat.{Seat}
use Rattle.ddf_config.specs.Configuration.{Configuration}
use Rattle.ddf_copy.specs.declared.newest_copy.Newest.{Newest}
use Rattle.ddf_plan.specs.declared.change.Change.{Change}
use Rattle.ddf_array.specs.Sound.{AreSectors}
use Rattle.ddf_data_group.specs.Grouped.{Promises}
use Rattle.ddf_history.specs.Groups.{groups}
use Rattle.ddf_history.specs.Issued.{Past}
use Rattle.ddf_history.specs.Promise.{IsKept}
use Rattle.ddf_history.specs.Scenes.{scene_of}
use Rattle.ddf_seats.specs.declared.seated.Seated.{Seated}
use Rattle.ddf_seats.specs.Group.{GroupValue, floor_of}
use Rattle.ddf_assembly.specs.Group.{group_of}
use Rattle.ddf_recovery.specs.Ready.{readied}
use Rattle.ddf_recovery.specs.Recovery.{config_recovered}
use Rattle.ddf_seats.specs.Seated.{seated}
use Rattle.ddf_assembly.specs.Slots.{newest_from}
use Rattle.ddf_steps.specs.Steps.{Step}
use Rattle.ddf_steps.proofs.Common.{written_past}
use Rattle.ddf_history_steps.specs.Going.{Ends, Goes, IsAdmitted, KeepsHistory, changes_in}
use Rattle.ddf_history_steps.specs.Kept.{AreAllKept, is_read}
use Rattle.ddf_data_history.specs.Carried.{CarriesData, IsAllData, Stays}
use Rattle.ddf_data_history.specs.Promised.{KeepsData, SameBelow, seats_in}
use Rattle.ddf_data_history.proofs.Steps.{below_floors}
use Rattle.ddf_data_disks.specs.Seats.{AreAlikeSeats}
use Rattle.ddf_answer.specs.declared.failure.Failure.{Failure}
use Rattle.ddf_answer.specs.Call.{work_of}
use Rattle.ddf_group_commands.specs.Change.{HasChanged, KeepsHistories, Request, is_done, steps_asked, steps_of}
use Rattle.ddf_group_commands.specs.Writing.{IsLeftWriting, IsStepsSector}
use Rattle.ddf_group_commands.proofs.Outcomes.{asked_of}
use Rattle.ddf_data_calls.specs.Calls.{AreMade, IsBoth, KeepsBoth, MayAsk, left_over}
use Rattle.ddf_data_calls.specs.Floors.{HaveFloors}
use Rattle.ddf_data_calls.proofs.Asked.{ask_same}
use Rattle.ddf_data_calls.proofs.Issued.{ends_keep}
use Rattle.ddf_data_calls.proofs.Recovered.{recovered_alike}
use Rattle.ddf_data_calls.proofs.Seats.{seated_floor}
use Rattle.ddf_data_calls.proofs.Steps.{issued_made}
use Rattle.ddf_write_commands.proofs.BelowSteps.{IsFloored}
use Rattle.ddf_write_commands.proofs.StepFloors.{readied_floors}

-- What a call that changes a group tells of it, as far as it matters to the group's history and its data.
pub record TookGroup {D : Type 0} (old new : BayState D) (left : List Bool) (newest : List (Option Newest)) (named : Option (List ℕ)) (found : GroupValue) (steps : List Step)
    (outcome : Result ℕ Failure) : Type 0 where
  pub every_slot : length left ≡ length old.sizes
  pub read : newest ≡ newest_from old 0 left
  pub is_found : group_of newest named ≡ Ok found
  pub leaves : StopsLeave old new (IsLeftWriting old steps)
  pub keeps : KeepsHistories old new left found steps (is_done outcome)

pub took_group : {D : Type 0} (tells : Type 0) → tells → (old new : BayState D) (named : Option (List ℕ)) (timestamp : ℕ) (request : Request) (outcome : Result ℕ Failure)
    → (changed : HasChanged (work_of tells old new) named timestamp request outcome) (found : GroupValue) → group_of changed.taken.newest named ≡ Ok found → (steps : List Step)
    → steps_of found timestamp request ≡ Ok steps → TookGroup old new changed.taken.left changed.taken.newest named found steps outcome
took_group tells told old new named timestamp request outcome changed found is_found steps are_asked = record {
  every_slot = changed.taken.every_slot;
  read = changed.taken.read told;
  is_found = is_found;
  leaves = changed.leaves told found is_found steps are_asked;
  keeps = changed.taken.keeps told found is_found steps are_asked;
}

module _ (group : List ℕ) {D : Type 0} (old new : BayState D) (past : Past (groups group)) (floor : ℕ → ℕ) (small : (slot : ℕ) → floor slot < 2 ^ 64)
    (left : List Bool) (newest : List (Option Newest)) (named : Option (List ℕ)) (found : GroupValue) (steps : List Step) (outcome : Result ℕ Failure)
    (took : TookGroup old new left newest named found steps outcome) (own : found.config.group ≡ group) (admitted : IsAdmitted group past old left found) (floors : HaveFloors group past old floor)
    (timestamp : ℕ) (request : Request) (are_asked : steps_of found timestamp request ≡ Ok steps) (asked : Option Change) (asks : request (config_recovered found) found.seats ≡ Ok (option_to_list asked)) where
  pub are : readied found (option_to_list asked) timestamp ≡ Ok steps
  are = asked_of (readied found (option_to_list asked) timestamp) steps (sym (ap (steps_asked found timestamp) asks) ∙ are_asked)

  -- ---- what is written lies at or past the floors

  -- the disk of a seat has the floor of its slot
  own_floor : (place : ℕ) (disk : Seated) → slice_get (seated found) place ≡ Some disk → IsFloored (size_of old disk.seat.slot) floor disk
  own_floor =
      seated_floor group old left newest took.every_slot took.read past admitted.same_slots admitted.is_kept admitted.may_read admitted.member named found took.is_found own floor floors

  step_past : (slot l : ℕ) → IsStepsSector (size_of old slot) steps slot l → floor slot ≤ l
  step_past slot l is =
      let from = readied_floors found timestamp (option_to_list asked) steps are is.on.number is.on.step is.on.is_step is.on.place is.on.disk is.on.is_disk in
      let before = own_floor from.place from.before from.is_there in
      let slot_is : from.before.seat.slot ≡ slot = from.same_slot ∙ is.on.on_slot in
      let same : floor_of is.on.disk.copy ≡ floor slot = from.same_floor ∙ before.same ∙ ap floor slot_is in
      let within : floor slot < size_of old slot = subst (λ (s : ℕ). floor s < size_of old s) slot_is before.within in
      ⊎_elim (λ past. omega (arith, past, same)) (λ anchor. let last = anchor.1 in omega (arith, last, within))
      (written_past is.on.disk.copy is.on.disk.last is.on.disk.mode is.update (size_of old slot) l is.is_prepared is.is_in)

  same_below : (before image : Image) → ((slot l : ℕ) → (image slot l ≡ before slot l) ⊎ IsStepsSector (size_of old slot) steps slot l) → SameBelow floor before image
  same_below before image outside slot l below = ⊎_elim (λ same. same) (λ written. absurd (let past = step_past slot l written in omega (arith, past, below))) (outside slot l)

  -- ---- the data, as far as the changes have come

  abbrev seats : Configuration → List Seat
  seats = seats_in group (left_over group past (is_read left) found) floor

  pub alike : AreAlikeSeats found.seats (seats_in group (left_over group past (is_read left) found) floor (config_recovered found))
  alike =
      recovered_alike group old left newest took.every_slot took.read past admitted.same_slots admitted.is_kept admitted.may_read admitted.member
      named found took.is_found own floor floors

  module _ (promises : Promises) (all : IsAllData group past floor old promises)
      (may : (image : Image) → IsLeft old.may_hold image → MayAsk (config_recovered found) found.seats image promises asked) where
    made : (image : Image) → IsLeft old.may_hold image → AreMade (seats_in group (left_over group past (is_read left) found) floor) image promises found.config (changes_in found steps)
    made image was =
        issued_made found asked timestamp steps are (seats_in group (left_over group past (is_read left) found) floor) image promises
        (ask_same found.seats (seats_in group (left_over group past (is_read left) found) floor (config_recovered found)) alike (config_recovered found) image promises asked (may image was))

    before_keeps : (image : Image) → IsLeft old.may_hold image → (done : Bool) (now : Past (groups group)) → Ends group past (is_read left) found (changes_in found steps) done now
        → KeepsData group now floor image promises
    before_keeps image was done now ends =
        ends_keep group floor small image promises past admitted.is_kept.alone (all image was) (is_read left) found (changes_in found steps) (made image was) done now ends

    image_keeps : (image : Image) → AreSectors image → IsLeftWriting old steps image → (done : Bool) (now : Past (groups group))
        → Ends group past (is_read left) found (changes_in found steps) done now → KeepsData group now floor image promises
    image_keeps image are_sectors writing done now ends =
        below_floors group floor small now writing.before promises (before_keeps writing.before writing.is_left done now ends) image are_sectors
        (same_below writing.before image writing.outside)

    -- ---- both

    module _ (kept : AreAllKept group past old) (only_now : (image : Image) → old.left_since old.moment image → IsLeft old.may_hold image)
        (counts_now : (image : Image) → old.moment ≤ new.moment → IsLeft new.may_hold image → new.left_since old.moment image)
        (whole : (image : Image) → IsLeft new.may_hold image → AreSectors image) where
      abbrev GoesOn : Past (groups group) → Type 0
      GoesOn = Goes group past (is_read left) found (changes_in found steps)

      abbrev EndsAt : Past (groups group) → Type 0
      EndsAt = Ends group past (is_read left) found (changes_in found steps) (is_done outcome)

      keeps : KeepsHistory group old new past left found (changes_in found steps) (is_done outcome)
      keeps = took.keeps group own past kept admitted

      leaves : StopsLeave old new (IsLeftWriting old steps)
      leaves = took.leaves

      at_moment : (image : Image) → IsLeftWriting old steps image → ((now : Past (groups group)) × GoesOn now × IsKept now (scene_of old.sizes image)) → AreSectors image
          → IsBoth group floor old.sizes GoesOn (Stays promises) image
      at_moment image writing shown are_sectors = record {
        now = shown.0;
        promised = promises;
        goes = shown.1;
        may = refl;
        is_kept = shown.2;
        keeps = image_keeps image are_sectors writing false shown.0 shown.1;
      }

      pub keeps_both : KeepsBoth group old new floor GoesOn EndsAt (Stays promises) (Stays promises)
      keeps_both = record {
        any_moment = record {
          later = (leaves).later;
          since = λ t image le was_left. ⊎_elim inl
              (λ writing. ⊎_elim inl (λ shown. inr (at_moment image writing shown)) ((keeps).any_moment.since t image le was_left))
              ((leaves).since t image le was_left);
        };
        ends = λ tells_left.
            let last = (keeps).ends tells_left in
            record {
              now = last.0;
              promised = promises;
              ends = last.1;
              is_so = refl;
              all_kept = last.2;
              all_data = λ image is_left. ⊎_elim
                  (λ first. before_keeps image (only_now image first) (is_done outcome) last.0 last.1)
                  (λ writing. image_keeps image (whole image is_left) writing (is_done outcome) last.0 last.1)
                  ((leaves).since old.moment image (omega arith) (counts_now image (leaves).later is_left));
            };
      }

      -- The same of the data alone, where all that a stop leaves on the way has whole sectors.
      pub carries : ((t : ℕ) (image : Image) → new.left_since t image → AreSectors image) → CarriesData group old new floor promises GoesOn EndsAt Stays Stays
      carries whole_since = record {
        any_moment = record {
          later = (keeps_both).any_moment.later;
          since = λ t image le was_left. ⊎_elim inl
              (λ writing. ⊎_elim inl (λ shown. inr (shown.0, promises, shown.1, refl, image_keeps image (whole_since t image was_left) writing false shown.0 shown.1))
              ((keeps).any_moment.since t image le was_left))
              ((leaves).since t image le was_left);
        };
        ends = λ tells_left. let last = (keeps_both).ends tells_left in (last.now, last.promised, last.ends, last.is_so, last.all_data);
      }
