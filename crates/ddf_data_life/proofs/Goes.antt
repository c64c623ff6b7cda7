-- How a history of a group on disks in memory goes on behind a call that takes the group, and which calls it admits.
use Rattle.std.proofs.Common.{◌≡◌, ◌∙◌, ℕ, ◌<◌, ◌≤◌, Bool, true, false, List, length, sym, ap, subst, inl, inr, arith}
use Rattle.std.proofs.lemmas.Bool.{false_from_ne_true}
use Rattle.std.specs.Prelude.{IsTrue, slice_index_or}
use Rattle.ddf_bay.specs.Memory.{disks_of, state_of}
use Rattle.ddf_bay.specs.MemoryLaws.{gone_then}
use Rattle.ddf_bay.specs.ReadsOnly.{LookFailed}
use Rattle.ddf_bay.specs.Sectors.{Image}
use Rattle.ddf_bay.specs.declared.memory.MemoryBay.{MemoryBay}
use Rattle.ddf_view.specs.View.{View}
use Rattle.ddf_history.specs.Answer.{HasMember, IsReadable}
use Rattle.ddf_history.specs.Groups.{groups}
use Rattle.ddf_history.specs.History.{KeepsAcked}
use Rattle.ddf_history.specs.Issued.{Past}
use Rattle.ddf_history.specs.Promise.{IsKept}
use Rattle.ddf_history.specs.Reading.{Scene}
use Rattle.ddf_history.specs.Scenes.{scene_of}
use Rattle.ddf_history.proofs.Members.{own_member}
use Rattle.ddf_history.proofs.Sound.{groups_are_sound}
use Rattle.ddf_seats.specs.Group.{GroupValue}
use Rattle.ddf_history_steps.specs.Going.{IsAdmitted, KeepsSlots}
use Rattle.ddf_history_steps.specs.Kept.{AreAllKept, is_read}
use Rattle.ddf_history_memory.specs.Histories.{AreRead, GoesWell, HasMemberOn, IsCutAt, IsHistoryOn}
use Rattle.ddf_history_memory.proofs.Slots.{becomes, before_told, left_gone, left_out, read_at, read_below, reads_left}
use Rattle.ddf_data_life.specs.Histories.{LeavesLostOut}

module _ (group : List ℕ) (past : Past (groups group)) (old exit : MemoryBay) (history : IsHistoryOn group past old) (well : GoesWell old exit) (told : (disks_of exit).tells_left)
    (left : List Bool) (every_slot : length left ≡ length (disks_of old).sizes) (failed : (slot : ℕ) → slot < length left → IsTrue (slice_index_or left slot false) → LookFailed (disks_of old) (disks_of exit) slot) where
  pub out_gone : AreRead old left
  out_gone = left_gone old exit well told left every_slot failed

  -- ---- what it admits

  module _ (member : HasMemberOn group past old) (unread : LeavesLostOut group past left) where
    abbrev entry : Scene View
    entry = scene_of (disks_of old).sizes (disks_of old).held

    pub shown : IsKept past entry
    shown = history.kept (disks_of old).held (reads_left old (before_told old exit well told))

    pub readable : IsReadable past entry (is_read left)
    readable = record {
      below = λ s read. let low = read_below left s read in let long = every_slot in let counted = history.same_slots in omega (arith, low, long, counted);
      not_lost = λ s read. false_from_ne_true (past.lost s) (λ lost. let none = unread s lost in absurd (let both = sym none ∙ read in cc));
      all_young = λ young. let own = history.own in absurd (omega (arith, young, own));
    }

    member_read : is_read left member.slot ≡ true
    member_read =
        let low : member.slot < length left = subst (λ (n : ℕ). member.slot < n) (sym every_slot) member.there in
        read_at left member.slot low (false_from_ne_true (slice_index_or left member.slot false) (λ out. member.plugged (out_gone member.slot low out)))

    pub has_member : HasMember past entry (is_read left)
    has_member =
        own_member (groups group) (groups_are_sound group) past entry shown member.slot member.config member.is_last member.is_current
        (false_from_ne_true (past.lost member.slot) (λ lost. member.plugged (history.lost_gone member.slot member.there lost)))
        (is_read left) member_read history.own

    pub admitted : (found : GroupValue) → IsAdmitted group past (disks_of old) left found
    admitted found = record {
      same_slots = history.same_slots;
      may_read = readable;
      member = has_member;
      all_present = λ young. let own = history.own in absurd (omega (arith, young, own));
      is_kept = shown;
    }

  -- ---- how it goes on

  module _ (now : Past (groups group)) (found : GroupValue) (slots : KeepsSlots group past now (is_read left) found) (acked : KeepsAcked past now) where
    -- A slot that counts as lost behind the call was unplugged at its entry.
    lost_out : (s : ℕ) → s < length (disks_of old).sizes → now.lost s ≡ true → (disks_of old).gone s
    lost_out s there lost = elim (slots.lost_one s lost) [
      | inl was ↦ history.lost_gone s there was
      | inr out ↦ (
          let low : s < length left = subst (λ (n : ℕ). s < n) (sym every_slot) there in
          out_gone s low (left_out left s low out.0))
    ]

    still_own : now.changes.own_from ≤ now.changes.acked
    still_own = let same = slots.same_own in let mine = history.own in let up = acked.later in omega (arith, same, mine, up)

    pub ended_history : AreAllKept group now (disks_of exit) → IsHistoryOn group now exit
    ended_history kept = record {
      kept = kept;
      same_slots = slots.same_slots ∙ history.same_slots ∙ sym (ap length (becomes old exit well).same_sizes);
      own = still_own;
      lost_gone = λ s there lost.
          gone_then (state_of old) (state_of exit) s (becomes old exit well)
          (lost_out s (subst (λ (sizes : List ℕ). s < length sizes) (becomes old exit well).same_sizes there) lost);
    }

    pub cut_history : (cut : MemoryBay) (image : Image) → IsCutAt old image cut → AreAllKept group now (disks_of cut) → IsHistoryOn group now cut
    cut_history cut image is_cut kept = record {
      kept = kept;
      same_slots = slots.same_slots ∙ history.same_slots ∙ sym (ap length is_cut.same_sizes);
      own = still_own;
      lost_gone = λ s there lost. is_cut.still_gone s (lost_out s (subst (λ (sizes : List ℕ). s < length sizes) is_cut.same_sizes there) lost);
    }

-- ---- a call behind which nothing is issued

module _ (group : List ℕ) (past : Past (groups group)) (old exit : MemoryBay) (history : IsHistoryOn group past old) (well : GoesWell old exit) where
  pub still_ended : (now : Past (groups group)) → now ≡ past → AreAllKept group now (disks_of exit) → IsHistoryOn group now exit
  still_ended now same kept = subst (λ (one : Past (groups group)). IsHistoryOn group one exit) (sym same) (record {
    kept = subst (λ (one : Past (groups group)). AreAllKept group one (disks_of exit)) same kept;
    same_slots = history.same_slots ∙ sym (ap length (becomes old exit well).same_sizes);
    own = history.own;
    lost_gone = λ s there lost.
        gone_then (state_of old) (state_of exit) s (becomes old exit well)
        (history.lost_gone s (subst (λ (sizes : List ℕ). s < length sizes) (becomes old exit well).same_sizes there) lost);
  })

  pub still_cut : (now : Past (groups group)) → now ≡ past → (cut : MemoryBay) (image : Image) → IsCutAt old image cut → AreAllKept group now (disks_of cut) → IsHistoryOn group now cut
  still_cut now same cut image is_cut kept = subst (λ (one : Past (groups group)). IsHistoryOn group one cut) (sym same) (record {
    kept = subst (λ (one : Past (groups group)). AreAllKept group one (disks_of cut)) same kept;
    same_slots = history.same_slots ∙ sym (ap length is_cut.same_sizes);
    own = history.own;
    lost_gone = λ s there lost. is_cut.still_gone s (history.lost_gone s (subst (λ (sizes : List ℕ). s < length sizes) is_cut.same_sizes there) lost);
  })
