-- A resync that asks for no sectors but those of its steps, where nothing differs.
use Rattle.std.proofs.Common.{◌≡◌, ◌∙◌, ℕ, ◌≤◌, Bool, true, false, ◌||◌, List, [], ◌∷◌, ◌++◌, Some, Ok, if◌then◌else◌, inl, inr, ⊎_elim, refl, ap, sym, arith}
use Rattle.std.proofs.lemmas.Bool.{false≢true}
use Rattle.std.specs.List.{list_any}
use Rattle.std.specs.Map.{lookup}
use Rattle.ddf_lemmas.proofs.Options.{some_is}
use Rattle.ddf_bay.specs.ReadsOnly.{ReadsOnly}
use Rattle.ddf_bay.specs.Sectors.{Image}
use Rattle.ddf_bay.specs.State.{BayState}
use Rattle.ddf_bay.proofs.Steps.{rose_since}
use Rattle.ddf_config.specs.Configuration.{Configuration}
use Rattle.ddf_config.specs.Members.{same_guid}
use Rattle.ddf_config.specs.States.{is_marked}
use Rattle.ddf_plan.specs.declared.change.Change.TheVariants.{Mark}
use Rattle.ddf_plan.specs.Same.{is_step}
use Rattle.ddf_array.specs.Viewing.{is_array_redundant}
use Rattle.ddf_array.specs.Volume.{Volume}
use Rattle.ddf_array.specs.Within.{is_redundant}
use Rattle.ddf_read.specs.Reading.{Failed}
use Rattle.ddf_resync.specs.Compared.{HasDiffered}
use Rattle.ddf_seats.specs.Group.{GroupValue}
use Rattle.ddf_recovery.specs.Ready.{readied}
use Rattle.ddf_recovery.specs.Recovery.{config_recovered}
use Rattle.ddf_steps.specs.Steps.{Step}
use Rattle.ddf_answer.specs.Call.{Work, work_of}
use Rattle.ddf_answer.proofs.Costs.{none_written, writes_most, writes_since}
use Rattle.ddf_read_commands.proofs.ArrayUse.{named_is}
use Rattle.ddf_group_commands.specs.Costs.{steps_sectors}
use Rattle.ddf_group_commands.specs.Written.{AreWritten}
use Rattle.ddf_group_commands.proofs.Outcomes.{asked_of}
use Rattle.ddf_write_commands.specs.declared.planning.Plan.{Plan}
use Rattle.ddf_write_commands.specs.Marking.{marks}
use Rattle.ddf_write_commands.specs.Planned.{Entry, IsPlanned}
use Rattle.ddf_write_commands.specs.Plans.{IsPlanOf}
use Rattle.ddf_write_commands.specs.Resync.{SparesWhatAgrees, resync_behind, resync_refusals, resync_request}
use Rattle.ddf_write_commands.proofs.Marked.{was_marked}
use Rattle.ddf_write_commands.proofs.PlanKept.{redundant_view, steps_are}

-- ---- to mark an array that isn't marked is a step

either_false : (b : Bool) → (b || false) ≡ false → b ≡ false
either_false true e = e
either_false false e = refl

module _ (config : Configuration) (entry : Entry) (there : lookup (same_guid entry.0) config.arrays ≡ Some entry.1) (unmarked : is_marked entry.1 ≡ false) where
  steps_by : (redundant stepped : Bool) → redundant ≡ true → list_any (is_step config) (if redundant then Mark entry.0 ∷ [] else []) ≡ stepped → stepped ≡ true
  steps_by redundant true so is = refl
  steps_by true false so is = absurd (false≢true (sym unmarked ∙ was_marked config entry.0 entry.1 there (either_false (is_step config (Mark entry.0)) is)))
  steps_by false false so is = absurd (false≢true so)

module _ (group : GroupValue) (plan : Plan) (timestamp : ℕ) (word : List ℕ) (is : IsPlanOf resync_refusals resync_behind (config_recovered group) group.seats word plan)
    (any_plan : IsPlanned group timestamp word (resync_request word)) where
  same_entry : is.entry ≡ any_plan.entry
  same_entry = some_is (sym is.is_named ∙ any_plan.is_named)

  pub marks_there : is_marked any_plan.entry.1 ≡ false → is_redundant plan.view ≡ true → plan.marks ≡ true
  marks_there unmarked redundant =
      let there = named_is (config_recovered group).arrays word is.entry is.is_named in
      is.is_for.is_marked_view.steps
      ∙ steps_by (config_recovered group) is.entry there (ap (λ (entry : Entry). is_marked entry.1) same_entry ∙ unmarked) (is_array_redundant is.entry.1) (marks (config_recovered group) is.entry)
      (sym (redundant_view resync_behind (config_recovered group) group.seats is.entry plan is.is_for there) ∙ redundant) refl

  pub its_steps : readied group plan.changes timestamp ≡ Ok (any_plan.first ++ any_plan.last)
  its_steps =
      asked_of (readied group plan.changes timestamp) (any_plan.first ++ any_plan.last) (sym (steps_are group resync_refusals resync_behind word plan timestamp is (omega arith)) ∙ any_plan.are_asked)

-- ---- what differed since an earlier moment

pub differed_since : {D : Type 0} (volume : Volume) (image : Image) (a b c d : BayState D) → ((slot : ℕ) → Failed b c slot → Failed a d slot) → HasDiffered volume image b c → HasDiffered volume image a d
differed_since volume image a b c d more differed redundant = let failed = differed redundant in (failed.0, (failed.1.0, more failed.0 failed.1.1))

-- It only read.
pub spares_unwritten : {D : Type 0} (work : Work D) (found : GroupValue) (timestamp : ℕ) (word : List ℕ) → ReadsOnly work.old work.new → SparesWhatAgrees work found timestamp word
spares_unwritten work found timestamp word reads any_plan unmarked = inl (writes_most (steps_sectors (any_plan.first ++ any_plan.last)) (omega arith) (none_written work reads))

pub written_since : {D : Type 0} (old middle : BayState D) → ReadsOnly old middle → (steps : List Step) (image : Image) → AreWritten middle.sizes middle.held steps image → AreWritten old.sizes old.held steps image
written_since old middle reads steps image written = rw (reads.same_sizes, reads.same_held) at written

-- It read before.
pub spares_since : {D : Type 0} (tells : Type 0) (old middle new : BayState D) → ReadsOnly old middle → ((slot : ℕ) → old.failed_reads slot ≤ middle.failed_reads slot)
    → (found : GroupValue) (timestamp : ℕ) (word : List ℕ) → SparesWhatAgrees (work_of tells middle new) found timestamp word → SparesWhatAgrees (work_of tells old new) found timestamp word
spares_since tells old middle new reads rise found timestamp word spares any_plan unmarked = ⊎_elim
    (λ writes. inl (writes_since tells old middle new reads (steps_sectors (any_plan.first ++ any_plan.last)) writes))
    (λ behind. inr (record {
      before = behind.before;
      first_written = written_since old middle reads any_plan.first behind.before behind.first_written;
      has_differed = differed_since any_plan.volume behind.before old middle new new
          (λ slot failed. rose_since (old.failed_reads slot) (middle.failed_reads slot) (new.failed_reads slot) (rise slot) failed) behind.has_differed;
    }))
    (spares any_plan unmarked)
