-- A line is an event of its history of data: at its end, and where a stop cuts it.
use Rattle.std.proofs.Common.{◌≡◌, ◌∙◌, inl, inr, ℕ, suc, zero, false, List, Option, sym, ap, subst}
use Rattle.ddf_bytes.specs.declared.stamp.Stamp.{Stamp}
use Rattle.ddf_bytes.specs.Streams.{SourceState}
use Rattle.ddf_bay.specs.ReadsOnly.{ReadsOnly}
use Rattle.ddf_bay.specs.Sectors.{Image}
use Rattle.ddf_bay.specs.State.{BayState}
use Rattle.ddf_words.specs.Traits.{traits_of}
use Rattle.ddf_words.specs.Words.{Word}
use Rattle.ddf_words.specs.declared.command.Command.{Command}
use Rattle.ddf_words.proofs.Commands.{same_command}
use Rattle.ddf_answer.specs.Call.{Answer}
use Rattle.ddf_data_events.specs.Calls.{Call, exit_of}
use Rattle.ddf_data_events.specs.Events.{KeepsOn, Resumes}
use Rattle.ddf_data_events.specs.Events.Event.{Cut, Ended}
use Rattle.ddf_data_events.specs.Moments.{KeepsAll, Moment}
use Rattle.ddf_batch.specs.Line.{IsLineRun, Point}
use Rattle.ddf_data_batch.specs.Calls.{IsUnwritten, LineCall, call_of}
use Rattle.ddf_data_batch.specs.Lines.{CutsLine, EndsLine}
use Rattle.ddf_data_batch.proofs.Own.{of_line}

-- ---- lines that write nothing

pub line_reads : {B : Type 0} (tells : Type 0) (disks : B → BayState B) (sink : Type 0) (stamp : Stamp) (group : Option (List ℕ)) (words : List Word) (from to : Point B) (code : ℕ)
    → IsLineRun tells disks sink stamp group words from to code → IsUnwritten words code → ReadsOnly (disks from.bay) (disks to.bay)
line_reads tells disks sink stamp group words from to code run (inl none) = run.stays (λ command asks. absurd (none (record { command = command; asks = asks })))
line_reads tells disks sink stamp group words from to code run (inr (inl asked)) = run.stays (λ other asks.
    subst (λ (command : Command). (traits_of command).may_write ≡ false) (same_command words asked.0 other asked.1.spells asks.spells) asked.2)
line_reads tells disks sink stamp group words from to code run (inr (inr unwritten)) = run.unwritten unwritten

module _ {B : Type 0} {tells : Type 0} (told : tells) (disks : B → BayState B) {S : Type 0} (tells_bytes : Type 0) (streams : S → SourceState) (guid : List ℕ) where
  -- as each history of data goes on
  abbrev pub IsLaw : Type 0
  IsLaw = (start : Moment guid B) → KeepsAll disks start → (events : ℕ) → KeepsOn told disks tells_bytes streams guid events start

  module _ (stamp : Stamp) (group : Option (List ℕ)) (old : Moment guid B) (exit : B) (answer : Answer) where
    -- ---- the moment behind it

    module _ (law : IsLaw) (line : LineCall told disks tells_bytes streams stamp group guid old exit answer) (all : KeepsAll disks old) where
      abbrev call : Call told disks tells_bytes streams guid old
      call = call_of told disks tells_bytes streams stamp group guid old exit answer line

      pub line_ends : (disks exit).tells_left → (disks exit).sizes ≡ (disks old.bay).sizes → EndsLine told disks tells_bytes streams guid stamp group old exit answer line (KeepsAll disks)
      line_ends tells_left same_sizes =
          let same = (of_line told disks tells_bytes streams stamp group guid old exit answer line).same_exit in
          let tells_there : (disks (exit_of told disks tells_bytes streams guid call)).tells_left = subst (λ (bay : B). (disks bay).tells_left) (sym same) tells_left in
          let on = (law old all (suc zero)).1 (Ended call tells_there (ap (λ (bay : B). (disks bay).sizes) same ∙ same_sizes)) in
          (on.0, record { comes = on.1.comes; is_bay = on.1.is_bay ∙ same; is_promised = on.1.is_promised; is_floor = on.1.is_floor }, on.2, on.3)

      pub line_cut : (image : Image) → (disks exit).left_since (disks old.bay).moment image → (bay : B) → Resumes (disks old.bay) (disks bay) (λ left. left ≡ image)
          → CutsLine told disks tells_bytes streams guid stamp group old exit answer line bay (KeepsAll disks)
      line_cut image was_left bay resumes =
          let left_there : (disks (exit_of told disks tells_bytes streams guid call)).left_since (disks old.bay).moment image =
          subst (λ (one : B). (disks one).left_since (disks old.bay).moment image) (sym (of_line told disks tells_bytes streams stamp group guid old exit answer line).same_exit) was_left in
          let on = (law old all (suc zero)).1 (Cut call image left_there bay resumes) in
          (on.0, on.1, on.2, on.3)
