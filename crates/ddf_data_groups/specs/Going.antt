-- How the histories of two groups over the same disks go on side by side.
use Rattle.std.specs.Prelude.{◌≡◌, ℕ, zero, suc, List}
use Rattle.ddf_bytes.specs.Streams.{SourceState}
use Rattle.ddf_bay.specs.State.{BayState}
use Rattle.ddf_history.specs.History.{KeepsAcked}
use Rattle.ddf_data_events.specs.Calls.{Call, exit_of}
use Rattle.ddf_data_events.specs.Calls.Call.{Joins, Others}
use Rattle.ddf_data_events.specs.Events.{Event, Follows}
use Rattle.ddf_data_events.specs.Events.Event.{Cut, Ended, Stopped}
use Rattle.ddf_data_events.specs.Moments.{Moment}
use Rattle.ddf_data_groups.specs.Beside.{AreBeside, Both, Known, moment_of, our_moment, their_moment}

module _ {B : Type 0} {tells : Type 0} (told : tells) (disks : B → BayState B) {S : Type 0} (tells_bytes : Type 0) (streams : S → SourceState) where
  -- A call takes its own group alone, or only reads: any but one by which another group joins, and one that takes a third group.
  abbrev pub TakesItsOwn : {group : List ℕ} {old : Moment group B} → Call told disks tells_bytes streams group old → Type 0
  TakesItsOwn (Joins call) = ⊥
  TakesItsOwn (Others call) = ⊥
  TakesItsOwn call = Unit {0}

  -- So does an event that is a call, and the slots are what they were behind it: as each call of the program leaves them.
  abbrev pub IsItsOwn : {group : List ℕ} {old : Moment group B} → Event told disks tells_bytes streams group old → Type 0
  IsItsOwn {group = group} {old = old} (Ended call told_left same_sizes) = TakesItsOwn call
  IsItsOwn {group = group} {old = old} (Cut call image was_left bay resumes) = TakesItsOwn call × ((disks (exit_of told disks tells_bytes streams group call)).sizes ≡ (disks old.bay).sizes)
  IsItsOwn {group = group} {old = old} event = Unit {0}

  -- the bay behind an event
  abbrev pub bay_behind : {group : List ℕ} {old : Moment group B} → Event told disks tells_bytes streams group old → B
  bay_behind {group = group} {old = old} (Ended call told_left same_sizes) = exit_of told disks tells_bytes streams group call
  bay_behind {group = group} {old = old} (Cut call image was_left bay resumes) = bay
  bay_behind {group = group} {old = old} (Stopped bay resumes) = bay
  bay_behind {group = group} {old = old} event = old.bay

  -- What is known of a group behind an event of its history: what was acknowledged stays.
  pub record IsBehindIt {group : List ℕ} (old : Moment group B) (event : Event told disks tells_bytes streams group old) (now : Known group) : Type 0 where
    pub follows : Follows told disks tells_bytes streams group old event (moment_of now (bay_behind event))
    pub acked : KeepsAcked old.past now.past

  -- Two groups stand side by side, and go on so, for so many events: whichever comes of either, the other one's history is what it was, on the bay behind the event.
  abbrev pub StayBeside : ℕ → (one other : List ℕ) → Both one other B → Type 0
  StayBeside zero one other both = AreBeside disks both
  StayBeside (suc more) one other both =
      AreBeside disks both
      × ((event : Event told disks tells_bytes streams one (our_moment both)) → IsItsOwn event
      → (now : Known one) × IsBehindIt (our_moment both) event now × StayBeside more one other (record { bay = bay_behind event; ours = now; theirs = both.theirs }))
      × ((event : Event told disks tells_bytes streams other (their_moment both)) → IsItsOwn event
      → (now : Known other) × IsBehindIt (their_moment both) event now × StayBeside more one other (record { bay = bay_behind event; ours = both.ours; theirs = now }))
