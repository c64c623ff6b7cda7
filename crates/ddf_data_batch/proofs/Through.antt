-- The lines of a batch go on in their history of data.
use Rattle.std.proofs.Common.{◌≡◌, ◌||◌, ◌∙◌, ℕ, zero, suc, Bool, true, false, nat_lt, List, [], ◌∷◌, Option, sym, subst}
use Rattle.std.proofs.lemmas.Bool.{false≢true}
use Rattle.ddf_bytes.specs.declared.stamp.Stamp.{Stamp}
use Rattle.ddf_bytes.specs.Streams.{SourceState}
use Rattle.ddf_bay.specs.State.{BayState}
use Rattle.ddf_words.specs.Words.{Word}
use Rattle.ddf_answer.specs.Call.{answer_of}
use Rattle.ddf_data_events.specs.Events.{Event, Follows, KeepsOn}
use Rattle.ddf_data_events.specs.Events.Event.{Agreed, Cut, Ended, Forgotten, Kept, Lost, Noticed, Refloored, Returned, Stopped}
use Rattle.ddf_data_events.specs.Moments.{KeepsAll, Moment}
use Rattle.ddf_batch.specs.Batch.{AreLinesRun, Going, IsRun, goes_on, point}
use Rattle.ddf_batch.specs.History.{Behind}
use Rattle.ddf_batch.specs.Line.{Point}
use Rattle.ddf_data_batch.specs.Lines.{KeepsThrough, is_between}
use Rattle.ddf_data_batch.proofs.Ends.{IsLaw, line_ends}

-- where something holds of what follows, and something else of the end
by_going : (going_on : Bool) (follows ends : Type 0) (going : Going going_on follows ends) (of_others : follows → Type 0) (at_end : Type 0) → ((others : follows) → of_others others) → at_end
    → Behind going_on follows ends going of_others at_end
by_going true follows ends going of_others at_end others last = others going
by_going false follows ends going of_others at_end others last = last

module _ {B : Type 0} {tells : Type 0} (told : tells) (disks : B → BayState B) {S : Type 0} (tells_bytes : Type 0) (streams : S → SourceState) (guid : List ℕ) where
  -- what comes between two lines leaves the bay
  stays_there : (old next : Moment guid B) (event : Event told disks tells_bytes streams guid old) → is_between told disks tells_bytes streams guid old event ≡ true
      → Follows told disks tells_bytes streams guid old event next → next.bay ≡ old.bay
  stays_there old next (Ended call tells_left same_sizes) between follows = absurd (false≢true between)
  stays_there old next (Cut call image was_left bay resumes) between follows = absurd (false≢true between)
  stays_there old next (Stopped bay resumes) between follows = absurd (false≢true between)
  stays_there old next (Lost slot own) between follows = follows.is_bay
  stays_there old next (Returned slot own missing) between follows = follows.is_bay
  stays_there old next (Forgotten fewer are) between follows = follows.is_bay
  stays_there old next (Noticed array writable) between follows = follows.is_bay
  stays_there old next (Agreed array allowed agrees) between follows = follows.is_bay
  stays_there old next (Kept array allowed keeps) between follows = follows.is_bay
  stays_there old next (Refloored floor small same) between follows = follows.is_bay

  kept_there : (events : ℕ) (moment : Moment guid B) → KeepsOn told disks tells_bytes streams guid events moment → KeepsAll disks moment
  kept_there zero moment keeps = keeps
  kept_there (suc more) moment keeps = keeps.0

  module _ (law : IsLaw told disks tells_bytes streams guid) (sink : Type 0) (stamp : Stamp) (group : Option (List ℕ)) (images : List Word) where
    pub through : (turns : ℕ) (lines : List (List ℕ)) (from to : Point B) (refused : Bool) (status : ℕ) (ran : AreLinesRun tells disks sink stamp group images lines from to refused status) (old : Moment guid B)
        → old.bay ≡ from.bay → KeepsAll disks old → KeepsThrough told disks tells_bytes streams guid sink stamp group images turns lines from to refused status ran old
    through zero lines from to refused status ran old same all = all
    through (suc more) [] from to refused status ran old same all = law old all (suc more)
    through (suc more) (line ∷ lines) from to refused status ran old same all =
        let run : IsRun tells disks sink stamp group images line (point old.bay from.output) ran.0 ran.1 =
        subst (λ (bay : B). IsRun tells disks sink stamp group images line (point bay from.output) ran.0 ran.1) (sym same) ran.2 in (
          run,
          law old all (suc more),
          λ event between.
              let on = (law old all (suc more)).1 event in (
                on.0,
                on.1,
                on.2,
                through more (line ∷ lines) from to refused status ran on.0 (stays_there old on.0 event between on.1 ∙ same) (kept_there more on.0 on.3),
              ),
          λ call tells_left.
              let on = line_ends told disks tells_bytes streams guid stamp group old ran.0.bay (answer_of sink from.output ran.0.output ran.1) law call all tells_left run.same_sizes in (
                on.0,
                on.1,
                on.2,
                by_going (goes_on ran.1) (AreLinesRun tells disks sink stamp group images lines ran.0 to (refused || nat_lt 0 ran.1) status) ((to ≡ ran.0) × (status ≡ ran.1)) ran.3
                    (λ others. KeepsThrough told disks tells_bytes streams guid sink stamp group images more lines ran.0 to (refused || nat_lt 0 ran.1) status others on.0)
                    (KeepsOn told disks tells_bytes streams guid more on.0)
                    (λ others. through more lines ran.0 to (refused || nat_lt 0 ran.1) status others on.0 on.1.is_bay on.3)
                    (law on.0 on.3 more),
              ),
        )
