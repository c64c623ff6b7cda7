-- The first calls on a group from elsewhere that was found on disks in memory.
use Rattle.std.proofs.Common.{◌≡◌, ◌∙◌, ℕ, ◌+◌, ◌<◌, ◌≤◌, Bool, true, false, List, [], ◌∷◌, length, take, Some, if◌then◌else◌, refl, sym, ap, subst, inl, inr, arith}
use Rattle.std.proofs.Math.Path.{fun_ext}
use Rattle.std.proofs.lemmas.Bool.{cases_lt, false_from_ne_true}
use Rattle.std.specs.Prelude.{slice_get, slice_index_or}
use Rattle.ddf_bay.specs.Memory.{disks_of}
use Rattle.ddf_bay.specs.Moments.{IsSettled}
use Rattle.ddf_bay.specs.ReadsOnly.{ReadsOnly}
use Rattle.ddf_bay.specs.Sectors.{Image}
use Rattle.ddf_bay.specs.declared.memory.MemoryBay.{MemoryBay}
use Rattle.ddf_config.specs.Configuration.{Configuration}
use Rattle.ddf_view.specs.View.{View}
use Rattle.ddf_history.specs.Groups.{Disk, groups, has_current}
use Rattle.ddf_history.specs.History.{KeepsAcked}
use Rattle.ddf_history.specs.Issued.{Past, issue, leave_out, take_off}
use Rattle.ddf_history.specs.Promise.{IsKept}
use Rattle.ddf_history.specs.Reading.{IsCopyOf, Scene}
use Rattle.ddf_history.specs.Scenes.{scene_of}
use Rattle.ddf_history.proofs.Members.{leading_member}
use Rattle.ddf_history.proofs.Sound.{groups_are_sound}
use Rattle.ddf_seats.specs.Group.{GroupValue}
use Rattle.ddf_seats.specs.Leading.{some}
use Rattle.ddf_history_steps.specs.Going.{Ends, IsAdmitted, IsOver, KeepsHistory, KeepsSlots, begun, issue_all}
use Rattle.ddf_history_steps.specs.Kept.{AreAllKept, is_read}
use Rattle.ddf_history_steps.proofs.Acked.{ends_keeps}
use Rattle.ddf_history_steps.proofs.SlotsKept.{ends_slots}
use Rattle.ddf_history_memory.specs.Found.{BeginsFound, IsYoungOn, LeadsOn, LeavesFound, LeavesOurs, StandsFound, shown_on}
use Rattle.ddf_history_memory.specs.Histories.{GoesWell, IsHistoryOn, IsTaken}
use Rattle.ddf_history_memory.proofs.Found.{shown_within}
use Rattle.ddf_history_memory.proofs.Slots.{becomes, before_told, left_gone, read_at, read_below, reads_left}

-- ---- the beginning

pub young : (group : List ℕ) (bay : MemoryBay) (found : GroupValue) (begins : BeginsFound group (disks_of bay) found)
    → ((slot : ℕ) → IsSettled (disks_of bay).may_hold (disks_of bay).held slot) → ((slot : ℕ) → slot < length (disks_of bay).sizes → (disks_of bay).gone slot → ⊥) → IsYoungOn group begins.past bay
young group bay found begins settled plugged = record {
  kept = λ image left.
      let same : image ≡ (disks_of bay).held = fun_ext (λ s. fun_ext (λ l. settled s l (image s l) (left s l))) in
      subst (λ (one : Image). IsKept begins.past (scene_of (disks_of bay).sizes one)) (sym same) begins.kept;
  same_slots = begins.same_slots;
  acked_is = begins.acked_is;
  own = begins.own;
  lost_none = begins.lost_none;
  plugged = plugged;
}

-- ---- a call

module _ (group : List ℕ) (past : Past (groups group)) (old exit : MemoryBay) (readable : List Bool) (found : GroupValue) (changes : List Configuration) (done : Bool)
    (history : IsYoungOn group past old) (leads : LeadsOn group past (disks_of old)) (well : GoesWell old exit) (taken : IsTaken group old exit readable found changes done)
    (absent : found.absent ≡ []) (told : (disks_of exit).tells_left) where
  abbrev entry : Scene View
  entry = scene_of (disks_of old).sizes (disks_of old).held

  -- Each slot is read.
  all_read : (slot : ℕ) → slot < length (disks_of old).sizes → is_read readable slot ≡ true
  all_read slot there =
      let low : slot < length readable = subst (λ (n : ℕ). slot < n) (sym taken.every_slot) there in
      read_at readable slot low (false_from_ne_true (slice_index_or readable slot false)
      (λ out. history.plugged slot there (left_gone old exit well told readable taken.every_slot taken.failed slot low out)))

  is_kept : IsKept past entry
  is_kept = history.kept (disks_of old).held (reads_left old (before_told old exit well told))

  admitted : IsAdmitted group past (disks_of old) readable found
  admitted = record {
    same_slots = history.same_slots;
    may_read = record {
      below = λ s read. let low = read_below readable s read in let long = taken.every_slot in let counted = history.same_slots in omega (arith, low, long, counted);
      not_lost = λ s read. history.lost_none s;
      all_young = λ young slot copy is standing. all_read slot (shown_within (disks_of old).sizes (disks_of old).held slot copy is);
    };
    member =
        leading_member (groups group) (groups_are_sound group) past entry is_kept leads.slot leads.config leads.is_last leads.is_current (history.lost_none leads.slot)
        (is_read readable) (all_read leads.slot leads.there) leads.copy leads.is_copy leads.is_standing leads.late;
    all_present = λ young. absent;
    is_kept = is_kept;
  }

  keeps : KeepsHistory group (disks_of old) (disks_of exit) past readable found changes done
  keeps = taken.keeps past history.kept admitted

  module _ (now : Past (groups group)) (ends : Ends group past (is_read readable) found changes done now) (all_kept : AreAllKept group now (disks_of exit)) where
    slots : KeepsSlots group past now (is_read readable) found
    slots = ends_slots group past (is_read readable) found changes done now ends

    same_sizes : (disks_of exit).sizes ≡ (disks_of old).sizes
    same_sizes = (becomes old exit well).same_sizes

    -- None counts as lost.
    none_lost : (s : ℕ) → s < length (disks_of old).sizes → now.lost s ≡ true → ⊥
    none_lost s there lost = elim (slots.lost_one s lost) [
      | inl was ↦ (let none = history.lost_none s in absurd (let both = sym none ∙ was in cc))
      | inr out ↦ (let read = all_read s there in absurd (let both = sym out.0 ∙ read in cc))
    ]

    ours : now.changes.own_from ≤ now.changes.acked → IsHistoryOn group now exit
    ours own = record {
      kept = all_kept;
      same_slots = slots.same_slots ∙ history.same_slots ∙ sym (ap length same_sizes);
      own = own;
      lost_gone = λ s there lost. absurd (none_lost s (subst (λ (sizes : List ℕ). s < length sizes) same_sizes there) lost);
    }

    -- A change that was done is this engine's.
    over_own : (over : IsOver group past (is_read readable) found changes now) → 0 < length changes → now.changes.own_from ≤ now.changes.acked
    over_own over some =
        let same = slots.same_own in
        let own = history.own in
        let acked : now.changes.acked ≡ over.number + length changes = ap (λ (one : Past (groups group)). one.changes.acked) over.is_now in
        omega (arith, same, own, acked, some)

    over_of : done ≡ true → IsOver group past (is_read readable) found changes now
    over_of is = subst (λ (b : Bool). Ends group past (is_read readable) found changes b now) is ends

    pub ended : LeavesOurs group past exit readable found changes done
    ended = record {
      now = now;
      ends = ends;
      kept = all_kept;
      acked = ends_keeps group past now (is_read readable) found changes done ends;
      ours = ours;
      done_ours = λ is some. ours (over_own (over_of is) some);
    }

    -- ---- where the sectors stay as they were

    issue_lost : (one : Past (groups group)) (some : List Configuration) → (issue_all group one some).lost ≡ one.lost
    issue_lost one [] = refl
    issue_lost one (next ∷ others) = issue_lost (issue one next) others

    begun_lost : (number : ℕ) → (begun group past (is_read readable) found number).lost ≡ past.lost
    begun_lost number = ap (λ (all : List ℕ). (if some all then take_off (leave_out past (is_read readable) found.config) number else take_off past number).lost) absent

    same_lost : (b : Bool) → Ends group past (is_read readable) found changes b now → now.lost ≡ past.lost
    same_lost true over =
        ap (λ (one : Past (groups group)). one.lost) over.is_now ∙ issue_lost (begun group past (is_read readable) found over.number) changes ∙ begun_lost over.number
    same_lost false (inl same) = ap (λ (one : Past (groups group)). one.lost) same
    same_lost false (inr is) =
        ap (λ (one : Past (groups group)). one.lost) is.is_now ∙ issue_lost (begun group past (is_read readable) found is.number) (take is.issued changes) ∙ begun_lost is.number

    acked : KeepsAcked past now
    acked = ends_keeps group past now (is_read readable) found changes done ends

    still_young : now.changes.acked ≡ 0 → IsYoungOn group now exit
    still_young none = record {
      kept = all_kept;
      same_slots = slots.same_slots ∙ history.same_slots ∙ sym (ap length same_sizes);
      acked_is = none;
      own = slots.same_own ∙ history.own;
      lost_none = λ s. ap (λ (lost : ℕ → Bool). lost s) (same_lost done ends) ∙ history.lost_none s;
      plugged = λ s there gone.
          history.plugged s (subst (λ (sizes : List ℕ). s < length sizes) same_sizes there)
          (ap (λ (unplugged : List Bool). slice_index_or unplugged s false) (sym (becomes old exit well).same_unplugged) ∙ gone);
    }

    still_leads : now.changes.acked ≡ 0 → ((s l : ℕ) → (disks_of exit).held s l ≡ (disks_of old).held s l) → LeadsOn group now (disks_of exit)
    still_leads none held =
        let same_held : (disks_of exit).held ≡ (disks_of old).held = fun_ext (λ s. fun_ext (λ l. held s l)) in
        let same_shown : shown_on (disks_of exit) ≡ shown_on (disks_of old) =
        ap (λ (sizes : List ℕ). scene_of sizes (disks_of exit).held) same_sizes ∙ ap (scene_of (disks_of old).sizes) same_held in
        let first : slice_get past.changes.issued 0 ≡ Some leads.config = subst (λ (n : ℕ). slice_get past.changes.issued n ≡ Some leads.config) history.acked_is leads.is_last in
        record {
          slot = leads.slot;
          there = subst (λ (sizes : List ℕ). leads.slot < length sizes) (sym same_sizes) leads.there;
          config = leads.config;
          is_last = subst (λ (n : ℕ). slice_get now.changes.issued n ≡ Some leads.config) (sym none) (acked.same 0 leads.config (omega arith) first);
          is_current = ap (λ (disk : ℕ → Disk). has_current leads.config (disk leads.slot)) slots.same_disks ∙ leads.is_current;
          copy = leads.copy;
          is_copy = subst (λ (scene : Scene View). IsCopyOf (scene leads.slot) leads.copy) (sym same_shown) leads.is_copy;
          is_standing = leads.is_standing;
          late = leads.late;
        }

    pub stays_found : ((s l : ℕ) → (disks_of exit).held s l ≡ (disks_of old).held s l) → LeavesFound group past exit readable found changes done
    stays_found held = record {
      now = now;
      ends = ends;
      goes_on = elim (cases_lt 0 now.changes.acked) [
        | inl later ↦ inr (ours (let same = slots.same_own in let own = history.own in omega (arith, later, same, own)))
        | inr none ↦ (let zero_acked : now.changes.acked ≡ 0 = omega (arith, none) in inl (record { young = still_young zero_acked; leads = still_leads zero_acked held }))
      ];
    }

  pub leaves_ours : LeavesOurs group past exit readable found changes done
  leaves_ours = let ends = keeps.ends told in ended ends.0 ends.1 ends.2

  pub leaves_found : ((s l : ℕ) → (disks_of exit).held s l ≡ (disks_of old).held s l) → LeavesFound group past exit readable found changes done
  leaves_found held = let ends = keeps.ends told in stays_found ends.0 ends.1 ends.2 held

-- ---- a call that only reads

module _ (group : List ℕ) (past : Past (groups group)) (old exit : MemoryBay) (history : IsYoungOn group past old) (leads : LeadsOn group past (disks_of old)) (well : GoesWell old exit)
    (reads : ReadsOnly (disks_of old) (disks_of exit)) where
  pub read_found : StandsFound group past exit
  read_found = record {
    young = record {
      kept = λ image left.
          subst (λ (sizes : List ℕ). IsKept past (scene_of sizes image)) (sym reads.same_sizes) (history.kept image (λ s l. reads.keeps s l (image s l) (left s l)));
      same_slots = history.same_slots ∙ sym (ap length reads.same_sizes);
      acked_is = history.acked_is;
      own = history.own;
      lost_none = history.lost_none;
      plugged = λ s there gone.
          history.plugged s (subst (λ (sizes : List ℕ). s < length sizes) reads.same_sizes there)
          (ap (λ (unplugged : List Bool). slice_index_or unplugged s false) (sym (becomes old exit well).same_unplugged) ∙ gone);
    };
    leads =
        let same_shown : shown_on (disks_of exit) ≡ shown_on (disks_of old) =
        ap (λ (sizes : List ℕ). scene_of sizes (disks_of exit).held) reads.same_sizes ∙ ap (scene_of (disks_of old).sizes) reads.same_held in
        record {
          slot = leads.slot;
          there = subst (λ (sizes : List ℕ). leads.slot < length sizes) (sym reads.same_sizes) leads.there;
          config = leads.config;
          is_last = leads.is_last;
          is_current = leads.is_current;
          copy = leads.copy;
          is_copy = subst (λ (scene : Scene View). IsCopyOf (scene leads.slot) leads.copy) (sym same_shown) leads.is_copy;
          is_standing = leads.is_standing;
          late = leads.late;
        };
  }
