-- The call that a line is ends on the bay that the line left, and was done where the line has status 0.
use Rattle.std.proofs.Common.{◌≡◌, inl, inr, ℕ, true, List, Option, refl}
use Rattle.ddf_bytes.specs.declared.stamp.Stamp.{Stamp}
use Rattle.ddf_bytes.specs.Streams.{SourceState}
use Rattle.ddf_bay.specs.State.{BayState}
use Rattle.ddf_words.specs.declared.command.Command.{Command}
use Rattle.ddf_words.specs.declared.command.Command.TheVariants as commands
use Rattle.ddf_answer.specs.Call.{Answer}
use Rattle.ddf_data_events.specs.Calls.{Call, exit_of}
use Rattle.ddf_data_events.specs.Moments.{Moment}
use Rattle.ddf_batch.proofs.Events.{changed_done, told_done}
use Rattle.ddf_data_batch.specs.Calls.{Came, LineCall, Takes, call_of, own_call, was_done}
use Rattle.ddf_data_batch.specs.Calls.LineCall.{Beside, Own, Unwritten}

module _ {B : Type 0} {tells : Type 0} (told : tells) (disks : B → BayState B) {S : Type 0} (tells_bytes : Type 0) (streams : S → SourceState) (stamp : Stamp) (group : Option (List ℕ)) (guid : List ℕ)
    (old : Moment guid B) (exit : B) (answer : Answer) where
  pub record IsOfLine (call : Call told disks tells_bytes streams guid old) : Type 0 where
    pub same_exit : exit_of told disks tells_bytes streams guid call ≡ exit
    pub done : answer.status ≡ 0 → was_done told disks tells_bytes streams guid call ≡ true

  own_line : (command : Command) (came : Came told disks tells_bytes streams stamp group guid old exit command answer) (takes : Takes told disks tells_bytes streams stamp group guid old exit command answer came)
      → IsOfLine (own_call told disks tells_bytes streams stamp group guid old exit command answer came takes)
  own_line commands.Assemble came takes = record { same_exit = refl; done = λ zero. told_done _ came.outcome answer came.ends zero }
  own_line (commands.Change wish) came (inl takes) = record { same_exit = refl; done = λ zero. changed_done came.outcome answer came.ends zero }
  own_line (commands.Change wish) came (inr accepts) = record { same_exit = refl; done = λ zero. changed_done came.outcome answer came.ends zero }
  own_line (commands.Resync name) came takes = record { same_exit = refl; done = λ zero. changed_done came.outcome answer came.ends zero }
  own_line (commands.Rebuild name) came takes = record { same_exit = refl; done = λ zero. changed_done came.outcome answer came.ends zero }
  own_line (commands.Copyback name slot) came takes = record { same_exit = refl; done = λ zero. changed_done came.outcome answer came.ends zero }
  own_line (commands.Import other) came takes = record { same_exit = refl; done = λ zero. changed_done came.outcome answer came.ends zero }
  own_line command came takes = absurd takes

  pub of_line : (line : LineCall told disks tells_bytes streams stamp group guid old exit answer) → IsOfLine (call_of told disks tells_bytes streams stamp group guid old exit answer line)
  of_line (Own command came takes) = own_line command came takes
  of_line (Beside call same_exit) = record { same_exit = same_exit; done = λ zero. refl }
  of_line (Unwritten reads) = record { same_exit = refl; done = λ zero. refl }
