-- The first calls on a group from elsewhere that was found on disks in memory, and its data.
use Rattle.std.proofs.Common.{◌≡◌, ◌∙◌, ℕ, ◌<◌, ◌≤◌, Bool, true, false, List, [], length, Option, Some, Ok, sym, ap, subst, inl, inr, arith}
use Rattle.std.proofs.lemmas.Bool.{false_from_ne_true}
use Rattle.std.specs.Prelude.{IsTrue, slice_index_or}
use Rattle.ddf_bay.specs.Memory.{disks_of}
use Rattle.ddf_bay.specs.Moments.{IsSettled}
use Rattle.ddf_bay.specs.ReadsOnly.{LookFailed}
use Rattle.ddf_bay.specs.declared.memory.MemoryBay.{MemoryBay}
use Rattle.ddf_config.specs.Configuration.{Configuration}
use Rattle.ddf_copy.specs.declared.newest_copy.Newest.{Newest}
use Rattle.ddf_history.specs.Groups.{groups}
use Rattle.ddf_history.specs.Issued.{Past}
use Rattle.ddf_history.specs.Scenes.{scene_of}
use Rattle.ddf_history.proofs.Members.{leading_member}
use Rattle.ddf_history.proofs.Sound.{groups_are_sound}
use Rattle.ddf_seats.specs.Group.{GroupValue}
use Rattle.ddf_assembly.specs.Group.{group_of}
use Rattle.ddf_history_steps.specs.Going.{Ends}
use Rattle.ddf_history_steps.specs.Kept.{AreAllKept, is_read}
use Rattle.ddf_history_steps.proofs.SlotsKept.{ends_slots}
use Rattle.ddf_history_steps.proofs.Told.{found_name}
use Rattle.ddf_history_memory.specs.Found.{BeginsFound, LeadsOn}
use Rattle.ddf_history_memory.specs.Histories.{GoesWell, IsHistoryOn}
use Rattle.ddf_history_memory.proofs.Found.{shown_within}
use Rattle.ddf_history_memory.proofs.Slots.{becomes, before_told, left_gone, read_at, read_below, reads_left}
use Rattle.ddf_history_memory.proofs.Young.{young}
use Rattle.ddf_data_events.specs.Beginnings.{Begins}
use Rattle.ddf_data_events.specs.Calls.{ends_in, exit_in}
use Rattle.ddf_data_events.specs.Calls.Course.{Passing, Stepping}
use Rattle.ddf_data_events.specs.Moments.{Moment}
use Rattle.ddf_data_events.proofs.Beginning.{found_begins}
use Rattle.ddf_data_events.proofs.Happening.{ended}
use Rattle.ddf_data_life.specs.Histories.{CallOn, CourseOn, EndsOurs, FindsOn, IsFoundData, IsYoungDataOn, course_on, exit_on, read_as}
use Rattle.ddf_data_life.proofs.Memory.{bays, small_sizes}

-- ---- the beginning

pub found_data : (group : List ℕ) (bay : MemoryBay) (found : GroupValue) (begins : BeginsFound group (disks_of bay) found) → (disks_of bay).tells_left
    → ((slot : ℕ) → IsSettled (disks_of bay).may_hold (disks_of bay).held slot) → ((slot : ℕ) → slot < length (disks_of bay).sizes → (disks_of bay).gone slot → ⊥) → IsFoundData group begins.past bay
found_data group bay found begins told settled plugged =
    let starts : Begins group disks_of begins.past bay =
    found_begins disks_of bays small_sizes group begins.past bay told found begins.acked_is begins.issued_is begins.lost_none begins.returned_none begins.kept settled in
    record {
      floor = starts.floor;
      small = starts.small;
      young = record { history = young group bay found begins settled plugged; keeps = starts.keeps };
    }

module _ (group : List ℕ) (old : Moment group MemoryBay) (all : IsYoungDataOn group old) where
  module _ (exit : MemoryBay) (well : GoesWell old.bay exit) (told : (disks_of exit).tells_left) (left : List Bool) (every_slot : length left ≡ length (disks_of old.bay).sizes)
      (failed : (slot : ℕ) → slot < length left → IsTrue (slice_index_or left slot false) → LookFailed (disks_of old.bay) (disks_of exit) slot) where
    -- Each slot is read.
    all_read : (slot : ℕ) → slot < length (disks_of old.bay).sizes → is_read left slot ≡ true
    all_read slot there =
        let low : slot < length left = subst (λ (n : ℕ). slot < n) (sym every_slot) there in
        read_at left slot low (false_from_ne_true (slice_index_or left slot false)
        (λ out. all.history.plugged slot there (left_gone old.bay exit well told left every_slot failed slot low out)))

    pub finds_young : LeadsOn group old.past (disks_of old.bay) → (newest : List (Option Newest)) (found : GroupValue) → group_of newest (Some group) ≡ Ok found → found.absent ≡ [] → FindsOn group old left newest
    finds_young leads newest found is_found absent =
        let before = before_told old.bay exit well told in
        let kept = all.history.kept (disks_of old.bay).held (reads_left old.bay before) in
        record {
          tells_left = before;
          found = found;
          is_found = is_found;
          own = found_name newest group found is_found;
          admitted = record {
            same_slots = all.history.same_slots;
            may_read = record {
              below = λ s read. let low = read_below left s read in let long = every_slot in let counted = all.history.same_slots in omega (arith, low, long, counted);
              not_lost = λ s read. all.history.lost_none s;
              all_young = λ still slot copy is standing. all_read slot (shown_within (disks_of old.bay).sizes (disks_of old.bay).held slot copy is);
            };
            member =
                leading_member (groups group) (groups_are_sound group) old.past (scene_of (disks_of old.bay).sizes (disks_of old.bay).held) kept leads.slot leads.config leads.is_last leads.is_current
                (all.history.lost_none leads.slot) (is_read left) (all_read leads.slot leads.there) leads.copy leads.is_copy leads.is_standing leads.late;
            all_present = λ still. absent;
            is_kept = kept;
          };
        }

    -- None counts as lost behind it.
    took_ours : (found : GroupValue) (changes : List Configuration) (done : Bool) (now : Past (groups group)) → Ends group old.past (is_read left) found changes done now
        → AreAllKept group now (disks_of exit) → now.changes.own_from ≤ now.changes.acked → IsHistoryOn group now exit
    took_ours found changes done now ends kept own =
        let slots = ends_slots group old.past (is_read left) found changes done now ends in
        let same_sizes = (becomes old.bay exit well).same_sizes in
        record {
          kept = kept;
          same_slots = slots.same_slots ∙ all.history.same_slots ∙ sym (ap length same_sizes);
          own = own;
          lost_gone = λ s there lost. absurd (elim (slots.lost_one s lost) [
            | inl was ↦ let none = all.history.lost_none s in let both = sym none ∙ was in cc
            | inr out ↦ let read = all_read s (subst (λ (sizes : List ℕ). s < length sizes) same_sizes there) in let both = sym out.0 ∙ read in cc
          ]);
        }

  -- A call behind which nothing is issued acknowledges no change.
  none_ours : (now : Past (groups group)) → now ≡ old.past → now.changes.own_from ≤ now.changes.acked → ⊥
  none_ours now same own =
      let acked : now.changes.acked ≡ 0 = ap (λ (past : Past (groups group)). past.changes.acked) same ∙ all.history.acked_is in
      let from : now.changes.own_from ≡ 1 = ap (λ (past : Past (groups group)). past.changes.own_from) same ∙ all.history.own in
      omega (arith, own, acked, from)

  ours_by : (course : CourseOn group old) → GoesWell old.bay (exit_in {tells = Unit {0}} tt disks_of (Unit {0}) read_as group course)
      → (disks_of (exit_in {tells = Unit {0}} tt disks_of (Unit {0}) read_as group course)).tells_left → (now : Past (groups group))
      → ends_in {tells = Unit {0}} tt disks_of (Unit {0}) read_as group course now → AreAllKept group now (disks_of (exit_in {tells = Unit {0}} tt disks_of (Unit {0}) read_as group course))
      → now.changes.own_from ≤ now.changes.acked → IsHistoryOn group now (exit_in {tells = Unit {0}} tt disks_of (Unit {0}) read_as group course)
  ours_by (Stepping by) well told now ends kept own = took_ours by.exit well told by.left by.every_slot by.failed by.finds.found by.issued by.done now ends kept own
  ours_by (Passing exit) well told now same kept own = absurd (none_ours now same own)

  pub ends_ours : (call : CallOn group old) → GoesWell old.bay (exit_on group old call) → (disks_of (exit_on group old call)).tells_left → EndsOurs group old call
  ends_ours call well told =
      let on = ended {tells = Unit {0}} tt disks_of (Unit {0}) read_as group bays old all.keeps call told (becomes old.bay (exit_on group old call) well).same_sizes in
      record {
        past = on.now;
        promises = on.promised;
        comes = on.comes;
        is_promised = on.is_so;
        keeps = on.keeps;
        acked = on.acked;
        ours = λ own. record { history = ours_by (course_on group old call) well told on.now on.comes on.keeps.shows own; keeps = on.keeps };
      }
