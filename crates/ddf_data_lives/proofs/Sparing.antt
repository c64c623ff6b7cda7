-- A disk that no change fails is a current member of each configuration that steps give, the recovery's too.
use Rattle.std.proofs.Common.{◌≡◌, ◌∙◌, ℕ, zero, suc, ◌++◌, ◌||◌, ◌==◌, nat_eq, not, cond, Bool, true, false, List, [], ◌∷◌, map, filter, Option, Some, None, Result, Ok, Err, if◌then◌else◌, refl, sym, ap, subst}
use Rattle.std.proofs.lemmas.Bool.{eqb-true}
use Rattle.std.specs.Prelude.{option_to_list, slice_get}
use Rattle.std.specs.List.{AllByRecursion}
use Rattle.ddf_config.specs.declared.member.Member.{Member}
use Rattle.ddf_config.specs.declared.extent.Extent.{Extent}
use Rattle.ddf_config.specs.declared.refusal.Refusal.{Refusal}
use Rattle.ddf_config.specs.Configuration.{Configuration}
use Rattle.ddf_config.specs.Members.{is_current}
use Rattle.ddf_config.specs.Refusals.{first_refusal}
use Rattle.ddf_plan.specs.declared.change.Change.{Change}
use Rattle.ddf_plan.specs.declared.change.Change.TheVariants.{Finish, Progress}
use Rattle.ddf_plan.specs.Lose.{is_among}
use Rattle.ddf_plan.specs.Members.{lost_by, member_after}
use Rattle.ddf_repair.specs.declared.first.Target.{Target}
use Rattle.ddf_repair.specs.declared.beginning.Begun.{Begun}
use Rattle.ddf_repair.specs.declared.beginning.Begun.TheVariants.{Again, Fresh, Nothing}
use Rattle.ddf_repair.specs.declared.beginning.RebuildFault.{RebuildFault}
use Rattle.ddf_repair.specs.declared.beginning.RebuildFault.TheVariants as faults
use Rattle.ddf_repair.specs.Begin.{begun}
use Rattle.ddf_repair.specs.Choose.{chosen}
use Rattle.ddf_history.specs.Groups.{Disk, has_current}
use Rattle.ddf_seats.specs.Group.{GroupValue}
use Rattle.ddf_steps.specs.Steps.{Step, config_after}
use Rattle.ddf_steps.proofs.MembersAfter.{changed_map}
use Rattle.ddf_recovery.specs.Ready.{readied}
use Rattle.ddf_recovery.specs.Recovery.{config_recovered}
use Rattle.ddf_history_steps.specs.Going.{changes_in}
use Rattle.ddf_history_steps.proofs.ChangingStays.{stays_current}
use Rattle.ddf_history_steps.proofs.RecoveringLoss.{listed_current}
use Rattle.ddf_request.specs.Named.{named_array}
use Rattle.ddf_request.specs.Slots.{reference_on}
use Rattle.ddf_group_commands.specs.Change.{Request, steps_asked, steps_of}
use Rattle.ddf_group_commands.proofs.Outcomes.{asked_of as asked_readied}
use Rattle.ddf_write_commands.specs.Planned.{Entry, unless_refused}
use Rattle.ddf_group_commands.specs.Requests.{linux_members}
use Rattle.ddf_rebuild_command.specs.Asked.{bad_spare, changes_behind, kept_in, rebuild_asked, rebuild_changes, rebuild_refusals, rebuild_request, rebuild_unless, rows_in}
use Rattle.ddf_rebuild_command.specs.PassedOver.{passed_over}
use Rattle.ddf_rebuild_command.specs.GoingBack.{back_to, copyback_asked, copyback_changes, copyback_refusals, copyback_request, copyback_unless, go_to, room_of}
use Rattle.ddf_rebuild_command.specs.Notes.{notes}
use Rattle.ddf_rebuild_command.proofs.Targets.{is_fresh_at}
use Rattle.ddf_history_life.specs.Commands.{KeepDisk}
use Rattle.ddf_data_life.proofs.KeptSteps.{each_keep}

-- ---- members that a change doesn't lose

spared_in : (config : Configuration) (change : Change) (reference : ℕ) → is_among (lost_by change) reference ≡ false → (members : List (ℕ × Member)) → is_current members reference ≡ true
    → is_current (map (λ (entry : ℕ × Member). (entry.0, member_after config change entry.0 entry.1)) members) reference ≡ true
spared_in config change reference free [] is = is
spared_in config change reference free (entry ∷ members) is = go (spared_in config change reference free members) (nat_eq reference entry.0) refl
  where
    go : (is_current members reference ≡ true → is_current (map (λ (entry : ℕ × Member). (entry.0, member_after config change entry.0 entry.1)) members) reference ≡ true)
        → (b : Bool) → nat_eq reference entry.0 ≡ b
        → is_current (map (λ (entry : ℕ × Member). (entry.0, member_after config change entry.0 entry.1)) (entry ∷ members)) reference ≡ true
    go later true here =
        let none : is_among (lost_by change) entry.0 ≡ false = ap (is_among (lost_by change)) (sym (eqb-true reference entry.0 here)) ∙ free in
        let same : (member_after config change entry.0 entry.1).missing ≡ entry.1.missing = ap (λ (b : Bool). b || entry.1.missing) none in
        rw (here, is_current) (ap (λ (b : Bool). not b) same ∙ rw (here, is_current) at is)
    go later false here = rw (here, is_current) (later (rw (here, is_current) at is))

-- a disk by its reference isn't among those that a change loses
abbrev pub IsSpared : Disk → Change → Type 0
IsSpared disk change = is_among (lost_by change) disk.reference ≡ false

module _ (disk : Disk) where
  spared : (config : Configuration) (change : Change) → IsSpared disk change → has_current config disk ≡ true → has_current (config_after config change) disk ≡ true
  spared config change free was =
      stays_current config change (config_after config change).sequence disk was
      (ap (λ (members : List (ℕ × Member)). is_current members disk.reference) (changed_map (member_after config change) config.members)
      ∙ spared_in config change disk.reference free config.members (listed_current disk config config.members was))

  -- ---- what is issued with steps

  pub issued_keep : (found : GroupValue) (steps : List Step) → KeepDisk steps disk → (place : ℕ) (config : Configuration) → slice_get (changes_in found steps) place ≡ Some config
      → has_current config disk ≡ true
  issued_keep found [] keep place config at = absurd cc
  issued_keep found (step ∷ steps) keep place config at =
      go (issued_keep found steps (λ i one is. keep (suc i) one is)) (not (step.config.sequence == found.config.sequence)) place at
    where
      go : ((k : ℕ) (other : Configuration) → slice_get (changes_in found steps) k ≡ Some other → has_current other disk ≡ true) → (b : Bool) (k : ℕ)
          → slice_get (map (λ (one : Step). one.config) (cond b (step ∷ filter (λ (one : Step). not (one.config.sequence == found.config.sequence)) steps)
          (filter (λ (one : Step). not (one.config.sequence == found.config.sequence)) steps))) k ≡ Some config → has_current config disk ≡ true
      go later true zero here = let same : step.config ≡ config = cc in subst (λ (one : Configuration). has_current one disk ≡ true) same (keep 0 step refl)
      go later true (suc k) there = later k config there
      go later false k there = later k config there

  -- ---- what is readied

  module _ (found : GroupValue) (timestamp : ℕ) (current : has_current (config_recovered found) disk ≡ true) where
    pub readied_keep : (changes : List Change) → AllByRecursion (IsSpared disk) changes → (steps : List Step) → readied found changes timestamp ≡ Ok steps → KeepDisk steps disk
    readied_keep = each_keep disk (IsSpared disk) spared found timestamp current

    -- ---- what commands ask for

    answered_keep : (changes : List Change) → AllByRecursion (IsSpared disk) changes → (steps : List Step) → steps_asked found timestamp (Ok changes) ≡ Ok steps → KeepDisk steps disk
    answered_keep changes free steps are = readied_keep changes free steps (asked_readied (readied found changes timestamp) steps are)

    optional : (change : Option Change) → ((one : Change) → change ≡ Some one → IsSpared disk one) → AllByRecursion (IsSpared disk) (option_to_list change)
    optional None spares = tt
    optional (Some one) spares = (spares one refl, tt)

    pub change_keeps : (request : Request) (change : Option Change) → ((one : Change) → change ≡ Some one → IsSpared disk one) → request (config_recovered found) found.seats ≡ Ok (option_to_list change)
        → (steps : List Step) → steps_of found timestamp request ≡ Ok steps → KeepDisk steps disk
    change_keeps request change spares is steps are =
        answered_keep (option_to_list change) (optional change spares) steps (sym (ap (steps_asked found timestamp) is) ∙ are)

    -- ---- a rebuild

    noted_spare : (guid : List ℕ) (target : Target) (rows : List ℕ)
        → AllByRecursion (IsSpared disk) (map (λ row. Progress guid target.element target.position row) rows ++ Finish guid target.element target.position ∷ [])
    noted_spare guid target [] = (refl, tt)
    noted_spare guid target (row ∷ rows) = (refl, noted_spare guid target rows)

    module _ (steps : List Step) where
      abbrev aside_of : Entry → List ℕ
      aside_of entry = passed_over (linux_members found) entry.1

      fresh_keeps : (entry : Entry) (target : Target) (change : Change) → begun (config_recovered found) entry.0 found.seats (aside_of entry) ≡ Ok (Fresh target change) → (refusal : Option Refusal)
          → steps_asked found timestamp (unless_refused (change ∷ changes_behind entry target 0) refusal) ≡ Ok steps → KeepDisk steps disk
      fresh_keeps entry target change is None are =
          answered_keep (change ∷ changes_behind entry target 0)
          (subst (IsSpared disk) (sym (is_fresh_at (config_recovered found) entry.0 found.seats _ target change is).change_is) refl, noted_spare entry.0 target (notes 0 (rows_in entry.1 target.element)))
          steps are
      fresh_keeps entry target change is (Some refusal) are = absurd cc

      begun_keep : (entry : Entry) (answer : Result Begun RebuildFault) → begun (config_recovered found) entry.0 found.seats (aside_of entry) ≡ answer
          → steps_asked found timestamp (rebuild_changes found.seats entry answer) ≡ Ok steps → KeepDisk steps disk
      begun_keep entry (Ok Nothing) is are = answered_keep [] tt steps are
      begun_keep entry (Ok (Again target)) is are =
          answered_keep (changes_behind entry target (kept_in entry.1 target)) (noted_spare entry.0 target (notes (kept_in entry.1 target) (rows_in entry.1 target.element))) steps are
      begun_keep entry (Ok (Fresh target change)) is are = fresh_keeps entry target change is (bad_spare found.seats change) are
      begun_keep entry (Err faults.NoSpare) is are = absurd cc
      begun_keep entry (Err (faults.Small needed has)) is are = absurd cc
      begun_keep entry (Err faults.Memory) is are = answered_keep [] tt steps are

      unless_keep : (entry : Entry) (refusal : Option Refusal) → steps_asked found timestamp (rebuild_unless (config_recovered found) found.seats (linux_members found) entry refusal) ≡ Ok steps → KeepDisk steps disk
      unless_keep entry None are = begun_keep entry (begun (config_recovered found) entry.0 found.seats (aside_of entry)) refl are
      unless_keep entry (Some refusal) are = absurd cc

      entry_keeps : (named : Option Entry) → steps_asked found timestamp (rebuild_asked (config_recovered found) found.seats (linux_members found) named) ≡ Ok steps → KeepDisk steps disk
      entry_keeps None are = absurd cc
      entry_keeps (Some entry) are = unless_keep entry (first_refusal (rebuild_refusals (config_recovered found) found.seats entry)) are

      pub rebuild_keeps : (word : List ℕ) → steps_of found timestamp (rebuild_request word (linux_members found)) ≡ Ok steps → KeepDisk steps disk
      rebuild_keeps word are = entry_keeps (named_array (config_recovered found).arrays word) are

    -- ---- a copyback

    module _ (steps : List Step) (count : ℕ) where
      went_keeps : (entry : Entry) (target : Target) (room : Result Extent Refusal) → steps_asked found timestamp (go_to entry target room) ≡ Ok steps → KeepDisk steps disk
      went_keeps entry target (Ok room) are = answered_keep (back_to entry target room ∷ []) (refl, tt) steps are
      went_keeps entry target (Err refusal) are = absurd cc

      chosen_keeps : (entry : Entry) (slot : ℕ) (target : Option Target)
          → steps_asked found timestamp (copyback_changes (config_recovered found) found.seats (linux_members found) entry slot target) ≡ Ok steps → KeepDisk steps disk
      chosen_keeps entry slot None are = absurd cc
      chosen_keeps entry slot (Some target) are =
          went_keeps entry target (room_of (config_recovered found) found.seats (linux_members found) entry slot (reference_on found.seats slot) target) are

      back_keeps : (entry : Entry) (slot : ℕ) (refusal : Option Refusal)
          → steps_asked found timestamp (copyback_unless (config_recovered found) found.seats (linux_members found) entry slot refusal) ≡ Ok steps → KeepDisk steps disk
      back_keeps entry slot None are = chosen_keeps entry slot (chosen (config_recovered found) entry.0 found.seats) are
      back_keeps entry slot (Some refusal) are = absurd cc

      entry_goes : (slot : ℕ) (named : Option Entry) → steps_asked found timestamp (copyback_asked count (config_recovered found) found.seats (linux_members found) slot named) ≡ Ok steps → KeepDisk steps disk
      entry_goes slot None are = absurd cc
      entry_goes slot (Some entry) are = back_keeps entry slot (first_refusal (copyback_refusals count (config_recovered found) found.seats entry slot)) are

      pub copyback_keeps : (word : List ℕ) (slot : ℕ) → steps_of found timestamp (copyback_request count word slot (linux_members found)) ≡ Ok steps → KeepDisk steps disk
      copyback_keeps word slot are = entry_goes slot (named_array (config_recovered found).arrays word) are
