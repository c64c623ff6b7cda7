-- What commands over a group of disks in memory leave of its history, and what they tell.
use Rattle.std.proofs.Common.{◌≡◌, ◌∙◌, ◌⊎◌, ℕ, false, List, Option, Some, None, Result, Ok, Err, refl, sym, ap, subst, inl, inr, arith}
use Rattle.ddf_bay.specs.Memory.{disks_of}
use Rattle.ddf_bay.specs.ReadsOnly.{ReadsOnly}
use Rattle.ddf_bay.specs.Sectors.{Image}
use Rattle.ddf_bay.specs.declared.memory.MemoryBay.{MemoryBay}
use Rattle.ddf_copy.specs.declared.newest_copy.Newest.{Newest}
use Rattle.ddf_group.specs.declared.answer.Assembly.{Assembly}
use Rattle.ddf_history.specs.Answer.{IsPromised}
use Rattle.ddf_history.specs.Groups.{groups}
use Rattle.ddf_history.specs.History.{KeepsAcked}
use Rattle.ddf_history.specs.Issued.{Past}
use Rattle.ddf_seats.specs.Group.{GroupValue}
use Rattle.ddf_assembly.specs.Group.{group_of}
use Rattle.ddf_recovery.specs.Recovery.{config_recovered}
use Rattle.ddf_history_steps.specs.Going.{changes_in}
use Rattle.ddf_history_steps.specs.Kept.{is_read, told_answer}
use Rattle.ddf_history_steps.proofs.SlotsKept.{ends_slots}
use Rattle.ddf_history_steps.proofs.Told.{found_name}
use Rattle.ddf_answer.specs.declared.failure.Failure.{Failure}
use Rattle.ddf_answer.specs.declared.failure.Failure.TheVariants.{Conflict, Disk, Memory, Refused, Split}
use Rattle.ddf_answer.specs.Call.{Work, work_of}
use Rattle.ddf_group_commands.specs.Change.{IsChanged, IsChangedIn, is_done, steps_of}
use Rattle.ddf_group_commands.proofs.Outcomes.{AreReadied, readied_by}
use Rattle.ddf_history_memory.specs.Histories.{HasMemberOn, IsCutAt, IsHistoryOn, IsTaken, LeavesCut, LeavesHistory}
use Rattle.ddf_history_memory.proofs.Alone.{meant_alone}
use Rattle.ddf_history_memory.proofs.Calls.{leaves_cut, leaves_history, reads_cut, reads_history}
use Rattle.ddf_history_memory.proofs.Slots.{before_told, left_gone}
use Rattle.ddf_history_memory.proofs.Stops.{answered}
use Rattle.ddf_history_life.specs.Commands.{GoesOnTo, IsAsked, IsCommand, IsToldAsPromised, Means}

pub acked_start : (group : List ℕ) (past : Past (groups group)) → KeepsAcked past past
acked_start group past = record { later = omega arith; same = λ i config le at. at }

pub acked_then : (group : List ℕ) (one two three : Past (groups group)) → KeepsAcked one two → KeepsAcked two three → KeepsAcked one three
acked_then group one two three first second = record {
  later = let le = first.later in let le' = second.later in omega (arith, le, le');
  same = λ i config le at. second.same i config (let up = first.later in omega (arith, le, up)) (first.same i config le at);
}

-- What the words mean is this group.
means_it : (group : List ℕ) (newest : List (Option Newest)) (named : Option (List ℕ)) → Means group newest named → group_of newest named ≡ group_of newest (Some group)
means_it group newest (Some name) is = ap (λ (one : List ℕ). group_of newest (Some one)) is
means_it group newest None alone = meant_alone newest group alone

module _ (group : List ℕ) (old exit : MemoryBay) (command : IsCommand group old exit) where
  abbrev work : Work MemoryBay
  work = work_of (Unit {0}) (disks_of old) (disks_of exit)

  abbrev newest : List (Option Newest)
  newest = command.has.taken.newest

  -- what its words mean is the group
  same : group_of newest command.named ≡ group_of newest (Some group)
  same = means_it group newest command.named command.means

  -- the changes that were asked for
  pub asked_changes : (asked : IsAsked group old exit command) → AreReadied asked.found command.timestamp asked.steps
  asked_changes asked = readied_by asked.found command.timestamp (command.request (config_recovered asked.found) asked.found.seats) asked.steps asked.are_asked

  -- What it promises as a call that takes the group.
  pub taken : (asked : IsAsked group old exit command) → (command.outcome ≡ Err Memory → ⊥)
      → IsTaken group old exit command.has.taken.left asked.found (changes_in asked.found asked.steps) (is_done command.outcome)
  taken asked ample =
      let own = command.has.taken in
      record {
        every_slot = own.every_slot;
        failed = own.failed;
        gone = command.has.gone ample;
        is_found = subst (λ (copies : List (Option Newest)). group_of copies (Some group) ≡ Ok asked.found) (own.read tt) asked.is_found;
        keeps = λ one kept admitted. own.keeps tt asked.found (same ∙ asked.is_found) asked.steps asked.are_asked group (found_name newest group asked.found asked.is_found) one kept admitted;
      }

  -- It asked for steps, with memory ample, or it only read.
  abbrev Came : Type 0
  Came = ReadsOnly (disks_of old) (disks_of exit) ⊎ (IsAsked group old exit command × (command.outcome ≡ Err Memory → ⊥))

  came : Came
  came = by_found (group_of newest command.named) refl command.has.gives
    where
      by_outcome : (found : GroupValue) → group_of newest command.named ≡ Ok found → (outcome : Result ℕ Failure) → command.outcome ≡ outcome
          → IsChanged work found (steps_of found command.timestamp command.request) outcome → Came
      by_outcome found at (Ok sequence) is done = inr (record { found = found; is_found = sym same ∙ at; steps = done.steps; are_asked = done.are_asked }, λ spent. absurd (let both = sym is ∙ spent in cc))
      by_outcome found at (Err (Refused refusal)) is done = inl done.1
      by_outcome found at (Err (Disk slot)) is done = inr (record { found = found; is_found = sym same ∙ at; steps = done.steps; are_asked = done.are_asked }, λ spent. absurd (let both = sym is ∙ spent in cc))
      by_outcome found at (Err Memory) is done = inl done
      by_outcome found at (Err (Conflict i j sequence differ)) is done = absurd done
      by_outcome found at (Err (Split i j)) is done = absurd done

      by_found : (answer : Result GroupValue Assembly) → group_of newest command.named ≡ answer → IsChangedIn work command.timestamp command.request answer command.outcome → Came
      by_found (Ok found) at gives = by_outcome found at command.outcome refl gives
      by_found (Err fault) at gives = inl gives.1

  module _ (past : Past (groups group)) (history : IsHistoryOn group past old) (member : HasMemberOn group past old) where
    -- ---- its end

    pub asked_ends : (asked : IsAsked group old exit command) → (command.outcome ≡ Err Memory → ⊥) → (disks_of exit).tells_left
        → LeavesHistory group past exit command.has.taken.left asked.found (changes_in asked.found asked.steps) (is_done command.outcome)
    asked_ends asked ample told =
        leaves_history group past old exit command.has.taken.left asked.found (changes_in asked.found asked.steps) (is_done command.outcome) history member command.well (taken asked ample) told

    pub command_ends : (disks_of exit).tells_left → GoesOnTo group past exit
    command_ends told = elim came [
      | inl reads ↦ record {
        now = past;
        same_disks = refl;
        same_returned = refl;
        history = reads_history group past old exit history command.well reads;
        acked = acked_start group past;
      }
      | inr asked ↦ (
          let leaves = asked_ends asked.0 asked.1 told in
          let slots =
          ends_slots group past (is_read command.has.taken.left) asked.0.found (changes_in asked.0.found asked.0.steps) (is_done command.outcome) leaves.now leaves.ends in
          record { now = leaves.now; same_disks = slots.same_disks; same_returned = slots.same_returned; history = leaves.history; acked = leaves.acked })
    ]

    -- ---- where a stop cut it

    module _ (cut : MemoryBay) (image : Image) (was_left : (disks_of exit).left_since (disks_of old).moment image) (is_cut : IsCutAt old image cut) where
      ample_cut : (asked : IsAsked group old exit command) → (command.outcome ≡ Err Memory → ⊥) → LeavesCut group past cut command.has.taken.left asked.found (changes_in asked.found asked.steps)
      ample_cut asked ample =
          leaves_cut group past old exit command.has.taken.left asked.found (changes_in asked.found asked.steps) (is_done command.outcome) history member command.well (taken asked ample)
          was_left.0 cut image was_left is_cut

      pub asked_cut : (asked : IsAsked group old exit command) → LeavesCut group past cut command.has.taken.left asked.found (changes_in asked.found asked.steps)
      asked_cut asked = elim came [
        | inl reads ↦ record {
          now = past;
          goes = inl refl;
          history = reads_cut group past old exit history command.well reads cut image was_left is_cut;
          acked = acked_start group past;
        }
        | inr some ↦ ample_cut asked some.1
      ]

      pub command_cut : GoesOnTo group past cut
      command_cut = elim came [
        | inl reads ↦ record {
          now = past;
          same_disks = refl;
          same_returned = refl;
          history = reads_cut group past old exit history command.well reads cut image was_left is_cut;
          acked = acked_start group past;
        }
        | inr asked ↦ (
            let leaves = ample_cut asked.0 asked.1 in
            let slots = ends_slots group past (is_read command.has.taken.left) asked.0.found (changes_in asked.0.found asked.0.steps) false leaves.now leaves.goes in
            record { now = leaves.now; same_disks = slots.same_disks; same_returned = slots.same_returned; history = leaves.history; acked = leaves.acked })
      ]

    -- ---- what it tells

    pub command_tells : (command.outcome ≡ Err Memory → ⊥) → (disks_of exit).tells_left → IsToldAsPromised group past old exit command
    command_tells ample told =
        let own = command.has.taken in
        subst (λ (copies : List (Option Newest)). IsPromised past (is_read own.left) (told_answer (group_of copies (Some group)))) (sym (own.read tt))
        (answered group past old own.left history member (before_told old exit command.well told) own.every_slot (command.has.gone ample)
        (left_gone old exit command.well told own.left own.every_slot own.failed))
