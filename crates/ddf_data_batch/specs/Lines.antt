-- The lines of a batch, one after another, in a history of a group and of its data.
use Rattle.std.specs.Prelude.{◌≡◌, ℕ, zero, suc, Bool, true, false, ◌||◌, nat_lt, List, [], ◌∷◌, Option}
use Rattle.ddf_bytes.specs.declared.stamp.Stamp.{Stamp}
use Rattle.ddf_bytes.specs.Streams.{SourceState}
use Rattle.ddf_bay.specs.State.{BayState}
use Rattle.ddf_words.specs.Words.{Word}
use Rattle.ddf_answer.specs.Call.{Answer, answer_of}
use Rattle.ddf_data_group.specs.Grouped.{Promises}
use Rattle.ddf_history.specs.Groups.{groups}
use Rattle.ddf_history.specs.History.{KeepsAcked}
use Rattle.ddf_history.specs.Issued.{Past}
use Rattle.ddf_data_events.specs.Calls.{EndsAt, HasComeTo, MayPromise, PromisesThen}
use Rattle.ddf_data_events.specs.Events.{Event, Follows, IsBehind, KeepsOn}
use Rattle.ddf_data_events.specs.Events.Event.{Cut, Ended, Stopped}
use Rattle.ddf_data_events.specs.Moments.{KeepsAll, Moment}
use Rattle.ddf_batch.specs.Batch.{AreLinesRun, IsRun, goes_on, point}
use Rattle.ddf_batch.specs.History.{Behind}
use Rattle.ddf_batch.specs.Line.{Point}
use Rattle.ddf_data_batch.specs.Calls.{LineCall, call_of}

module _ {B : Type 0} {tells : Type 0} (told : tells) (disks : B → BayState B) {S : Type 0} (tells_bytes : Type 0) (streams : S → SourceState) (guid : List ℕ) where
  -- The history goes on on a bay to a moment of which this holds, with all that was acknowledged, as far as it came and with what is promised then.
  abbrev pub GoesOnTo : Moment guid B → (Comes : Past (groups guid) → Type 0) → B → (Is : Promises → Type 0) → (Holds : Moment guid B → Type 0) → Type 0
  GoesOnTo old Comes bay Is Holds = (next : Moment guid B) × IsBehind told disks tells_bytes streams guid next Comes bay Is old.floor × KeepsAcked old.past next.past × Holds next

  -- It leaves the bay as it is, so that it may come between two lines.
  abbrev pub is_between : (old : Moment guid B) → Event told disks tells_bytes streams guid old → Bool
  is_between old (Ended call tells_left same_sizes) = false
  is_between old (Cut call image was_left bay resumes) = false
  is_between old (Stopped bay resumes) = false
  is_between old event = true

  module _ (stamp : Stamp) (group : Option (List ℕ)) where
    -- Behind a line that its history takes so: at its end,
    abbrev pub EndsLine : (old : Moment guid B) (exit : B) (answer : Answer) → LineCall told disks tells_bytes streams stamp group guid old exit answer → (Holds : Moment guid B → Type 0) → Type 0
    EndsLine old exit answer line Holds =
        GoesOnTo old (EndsAt told disks tells_bytes streams guid (call_of told disks tells_bytes streams stamp group guid old exit answer line)) exit
        (PromisesThen told disks tells_bytes streams guid (call_of told disks tells_bytes streams stamp group guid old exit answer line)) Holds

    -- and where a stop cut it, on this bay.
    abbrev pub CutsLine : (old : Moment guid B) (exit : B) (answer : Answer) → LineCall told disks tells_bytes streams stamp group guid old exit answer → (bay : B) → (Holds : Moment guid B → Type 0) → Type 0
    CutsLine old exit answer line bay Holds =
        GoesOnTo old (HasComeTo told disks tells_bytes streams guid (call_of told disks tells_bytes streams stamp group guid old exit answer line)) bay
        (MayPromise told disks tells_bytes streams guid (call_of told disks tells_bytes streams stamp group guid old exit answer line)) Holds

  module _ (sink : Type 0) (stamp : Stamp) (group : Option (List ℕ)) (images : List Word) where
    -- All is kept at a moment at which these lines are left to be run, and stays so, for so many turns: through whatever else happens, a stop among
    -- it, behind which no line is run; through what happens between two lines; and through the line, which was run from this moment's bay on, to a
    -- moment at which the bay is the one that it left, and from which those behind it are run.
    abbrev pub KeepsThrough : (turns : ℕ) (lines : List (List ℕ)) (from to : Point B) (refused : Bool) (status : ℕ) → AreLinesRun tells disks sink stamp group images lines from to refused status
        → Moment guid B → Type 0
    KeepsThrough zero lines from to refused status ran old = KeepsAll disks old
    KeepsThrough (suc more) [] from to refused status ran old = KeepsOn told disks tells_bytes streams guid (suc more) old
    KeepsThrough (suc more) (line ∷ lines) from to refused status ran old =
        IsRun tells disks sink stamp group images line (point old.bay from.output) ran.0 ran.1
        × KeepsOn told disks tells_bytes streams guid (suc more) old
        × ((event : Event told disks tells_bytes streams guid old) → is_between old event ≡ true
        → (next : Moment guid B) × Follows told disks tells_bytes streams guid old event next × KeepsAcked old.past next.past
        × KeepsThrough more (line ∷ lines) from to refused status ran next)
        × ((call : LineCall told disks tells_bytes streams stamp group guid old ran.0.bay (answer_of sink from.output ran.0.output ran.1)) → (disks ran.0.bay).tells_left
        → EndsLine stamp group old ran.0.bay (answer_of sink from.output ran.0.output ran.1) call
        (λ next. Behind (goes_on ran.1) (AreLinesRun tells disks sink stamp group images lines ran.0 to (refused || nat_lt 0 ran.1) status) ((to ≡ ran.0) × (status ≡ ran.1)) ran.3
        (λ others. KeepsThrough more lines ran.0 to (refused || nat_lt 0 ran.1) status others next) (KeepsOn told disks tells_bytes streams guid more next)))
