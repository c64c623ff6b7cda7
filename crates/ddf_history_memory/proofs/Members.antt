-- Members behind a call on a group of disks in memory: those that stay, and those that were left out.
use Rattle.std.proofs.Common.{◌≡◌, ◌∙◌, ℕ, ◌<◌, Bool, true, false, List, length, Some, Ok, refl, ap, subst, arith}
use Rattle.std.proofs.lemmas.Bool.{false_from_ne_true}
use Rattle.std.specs.Prelude.{slice_get}
use Rattle.std.proofs.lemmas.Option.{slice_get_within}
use Rattle.ddf_bay.specs.Memory.{disks_of}
use Rattle.ddf_bay.specs.declared.memory.MemoryBay.{MemoryBay}
use Rattle.ddf_config.specs.Configuration.{Configuration}
use Rattle.ddf_plan.specs.Lose.{is_among}
use Rattle.ddf_plan.specs.declared.change.Change.{Change}
use Rattle.ddf_rewrite.proofs.Lists.{some_same}
use Rattle.ddf_history.specs.Groups.{Disk, groups, has_current, has_missing}
use Rattle.ddf_history.specs.Issued.{IsSince, Past}
use Rattle.ddf_history.specs.Promise.{IsKept}
use Rattle.ddf_history.specs.Scenes.{scene_of}
use Rattle.ddf_seats.specs.Group.{GroupValue}
use Rattle.ddf_recovery.specs.Ready.{readied}
use Rattle.ddf_assembly.specs.Slots.{newest_from}
use Rattle.ddf_steps.specs.Steps.{Step}
use Rattle.ddf_history_steps.specs.Going.{Ends, IsOver, changes_in}
use Rattle.ddf_history_steps.specs.Kept.{is_read}
use Rattle.ddf_history_steps.specs.Members.{KeepsMembers}
use Rattle.ddf_history_steps.proofs.Claimed as claims
use Rattle.ddf_history_steps.proofs.LastIssued.{over_last, over_length}
use Rattle.ddf_history_steps.proofs.LastStep.{last_change}
use Rattle.ddf_history_steps.proofs.LeftMissing as lefts
use Rattle.ddf_history_steps.proofs.MembersKept.{members_kept}
use Rattle.ddf_history_steps.proofs.SlotsKept.{ends_slots}
use Rattle.ddf_history_steps.proofs.Told.{found_name}
use Rattle.ddf_history_memory.specs.Histories.{GoesWell, HasMemberOn, IsHistoryOn, IsTaken, StaysMember}
use Rattle.ddf_history_memory.proofs.Calls as calls
use Rattle.ddf_history_memory.proofs.Slots.{not_read, read_below, reads_left}

-- ---- members that stay

module _ (group : List ℕ) (past now : Past (groups group)) (readable : ℕ → Bool) (found : GroupValue) (asked : List Change) (timestamp : ℕ) (steps : List Step) (done : Bool)
    (are : readied found asked timestamp ≡ Ok steps) (ends : Ends group past readable found (changes_in found steps) done now) where
  kept : KeepsMembers group past now steps
  kept = members_kept group past now readable found asked timestamp steps are done ends

  same_disk : (slot : ℕ) → now.disk slot ≡ past.disk slot
  same_disk slot = ap (λ (disk : ℕ → Disk). disk slot) (ends_slots group past readable found (changes_in found steps) done now ends).same_disks

  pub stays_current : (slot : ℕ) → StaysMember group past slot steps → (number : ℕ) (config : Configuration) → IsSince now.changes number config → has_current config (now.disk slot) ≡ true
  stays_current slot stays number config since = ap (has_current config) (same_disk slot) ∙ kept.stays_current (past.disk slot) stays.pending stays.each number config since

  pub stays_missing : (slot : ℕ) → ((number : ℕ) (config : Configuration) → IsSince past.changes number config → has_missing config (past.disk slot) ≡ true)
      → (number : ℕ) (config : Configuration) → IsSince now.changes number config → has_missing config (now.disk slot) ≡ true
  stays_missing slot missing number config since = ap (has_missing config) (same_disk slot) ∙ kept.stays_missing (past.disk slot) missing number config since

  module _ (new : MemoryBay) (history : IsHistoryOn group now new) (told : (disks_of new).tells_left) where
    shown : IsKept now (scene_of (disks_of new).sizes (disks_of new).held)
    shown = history.kept (disks_of new).held (reads_left new told)

    pub stays_member : (slot : ℕ) → slot < length (disks_of new).sizes → ((disks_of new).gone slot → ⊥) → StaysMember group past slot steps → HasMemberOn group now new
    stays_member slot there plugged stays = record {
      slot = slot;
      there = there;
      plugged = plugged;
      config = shown.last;
      is_last = shown.is_last;
      is_current = stays_current slot stays now.changes.acked shown.last (record { late = omega arith; is_there = shown.is_last });
    }

-- ---- members that were left out

module _ (group : List ℕ) (past now : Past (groups group)) (old exit : MemoryBay) (readable : List Bool) (found : GroupValue) (asked : List Change) (timestamp : ℕ) (steps : List Step)
    (history : IsHistoryOn group past old) (member : HasMemberOn group past old) (well : GoesWell old exit) (taken : IsTaken group old exit readable found (changes_in found steps) true)
    (told : (disks_of exit).tells_left) (are : readied found asked timestamp ≡ Ok steps) (over : IsOver group past (is_read readable) found (changes_in found steps) now)
    (slot : ℕ) (there : slot < length (disks_of old).sizes) (gone : (disks_of old).gone slot) (current : has_current found.config (past.disk slot) ≡ true) where
  unread : is_read readable slot ≡ false
  unread = false_from_ne_true (is_read readable slot) (λ read. not_read readable slot (taken.gone slot (read_below readable slot read) gone) read)

  among : is_among found.absent (past.disk slot).reference ≡ true
  among =
      let admitted = calls.admitted group past old exit readable found (changes_in found steps) true history member well taken told in
      claims.left_absent group (disks_of old) readable (newest_from (disks_of old) 0 readable) taken.every_slot refl past admitted.same_slots admitted.is_kept
      admitted.may_read admitted.member (Some group) found taken.is_found (found_name (newest_from (disks_of old) 0 readable) group found taken.is_found) slot current unread

  pub left_missing : (number : ℕ) (config : Configuration) → IsSince now.changes number config → has_missing config (now.disk slot) ≡ true
  left_missing number config since =
      let last = lefts.last_misses found asked timestamp steps are (past.disk slot) current among in
      let long = over_length group past (is_read readable) found (changes_in found steps) now over in
      let within = slice_get_within now.changes.issued number config since.is_there in
      let late = since.late in
      let at_last : number ≡ now.changes.acked = omega (arith, long, within, late) in
      let here : slice_get now.changes.issued now.changes.acked ≡ Some config = subst (λ (n : ℕ). slice_get now.changes.issued n ≡ Some config) at_last since.is_there in
      let last_is : slice_get now.changes.issued now.changes.acked ≡ Some last.1.config =
      over_last group past (is_read readable) found (changes_in found steps) now over ∙ last_change found asked timestamp steps are last.0 last.1 last.2 last.3 in
      let same : last.1.config ≡ config = some_same last_is here in
      ap (has_missing config) (same_disk group past now (is_read readable) found asked timestamp steps true are over slot)
      ∙ subst (λ (one : Configuration). has_missing one (past.disk slot) ≡ true) same (lefts.steps_miss found asked timestamp steps are (past.disk slot) current among last.0 last.1 last.2)
