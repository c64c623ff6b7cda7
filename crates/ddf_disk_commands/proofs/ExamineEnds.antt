-- How `examine` ends.
use Rattle.std.proofs.Common.{◌≡◌, ⊎_elim, inl, ℕ, suc, ◌<◌, List, [], ◌∷◌, length, get_or, Bool, true, false, refl, arith, if◌then◌else◌}
use Rattle.std.specs.Prelude.{IsTrue}
use Rattle.ddf_bytes.specs.Streams.{SinkRose}
use Rattle.ddf_bay.specs.ReadsOnly.{ReadsOnly}
use Rattle.ddf_bay.proofs.Looks.{look_rose}
use Rattle.ddf_words.specs.Traits.{traits_of}
use Rattle.ddf_words.specs.declared.command.Command.TheVariants as commands
use Rattle.ddf_answer.specs.Call.{Answer, Work}
use Rattle.ddf_answer.specs.Ends.{Ends, HasCause, SomeSlotRose}
use Rattle.ddf_answer.proofs.Causes.{fault_cause, short_cause}
use Rattle.ddf_disk_commands.specs.Examine.{IsExamined, some_failed}

-- a slot that failed, where some did
first_failed : (failed : List Bool) → some_failed failed ≡ true → (s : ℕ) × ((s < length failed) × IsTrue (get_or failed s false))
first_failed [] some = cc
first_failed (true ∷ fs) some = (0, (omega arith, refl))
first_failed (false ∷ fs) some = let later = first_failed fs some in (suc later.0, (omega (arith, later.1.0), later.1.1))

module _ {D : Type 0} (work : Work D) (answer : Answer) where
  slot_rose : (examined : IsExamined work answer) → some_failed examined.failed ≡ true → SomeSlotRose work.old work.new
  slot_rose examined some =
      let first = first_failed examined.failed some in
      record { slot = first.0; there = omega (arith, first.1.0, examined.every_slot); rose = look_rose work.old work.new first.0 (examined.are_failed.rose first.0 first.1.0 first.1.1) }

  -- all were shown
  cause_by : (stream : answer.status ≡ 6 → SinkRose answer.old answer.new) (examined : IsExamined work answer) (failed : Bool) → some_failed examined.failed ≡ failed
      → answer.status ≡ (if failed then 3 else 0) → HasCause (traits_of commands.Examine) work answer (SinkRose answer.old answer.new)
  cause_by stream examined true is status = fault_cause (traits_of commands.Examine) work answer stream (slot_rose examined is) status
  cause_by stream examined false is status = inl status

  pub examine_ends : IsExamined work answer → (answer.status ≡ 6 → SinkRose answer.old answer.new) → ReadsOnly work.old work.new → Ends (traits_of commands.Examine) work answer
  examine_ends examined stream reads = record {
    cause = ⊎_elim (λ status. cause_by stream examined (some_failed examined.failed) refl status) (short_cause (traits_of commands.Examine) work answer stream) examined.ends;
    unwritten = λ is. reads;
    stays = λ none. reads;
    goes_on = reads.goes_on;
    same_sizes = reads.same_sizes;
  }
