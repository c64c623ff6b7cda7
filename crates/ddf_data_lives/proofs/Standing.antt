-- A disk that stands at a moment of a history of data, and how it goes on.
use Rattle.std.proofs.Common.{◌≡◌, ◌∙◌, ℕ, zero, suc, ◌<◌, ◌≤◌, Bool, true, false, List, [], length, Option, Some, Ok, refl, sym, ap, subst, arith}
use Rattle.std.proofs.lemmas.Bool.{false_from_ne_true}
use Rattle.std.specs.Prelude.{IsTrue, slice_get, slice_index_or}
use Rattle.ddf_bytes.specs.declared.stamp.Stamp.{Stamp}
use Rattle.ddf_header.specs.declared.kind.Revision.{Revision}
use Rattle.ddf_bay.specs.Memory.{MemoryState, disks_of}
use Rattle.ddf_bay.specs.ReadsOnly.{LookFailed}
use Rattle.ddf_bay.specs.declared.memory.MemoryBay.{MemoryBay}
use Rattle.ddf_config.specs.Configuration.{Configuration}
use Rattle.ddf_copy.specs.declared.newest_copy.Newest.{Newest}
use Rattle.ddf_update.specs.NewCopies.{group_of as name_of}
use Rattle.ddf_data_array.specs.Allowed.{Allowed}
use Rattle.ddf_data_group.specs.Grouped.{Promises}
use Rattle.ddf_history.specs.Groups.{Disk, groups, has_current}
use Rattle.ddf_history.specs.History.{KeepsAcked}
use Rattle.ddf_history.specs.Issued.{IsSince, Past, give_back}
use Rattle.ddf_seats.specs.Group.{GroupValue}
use Rattle.ddf_assembly.specs.Group.{group_of}
use Rattle.ddf_assembly.specs.Slots.{AreOut, newest_from}
use Rattle.ddf_history_steps.specs.Going.{Ends}
use Rattle.ddf_history_steps.specs.Kept.{is_read}
use Rattle.ddf_history_steps.proofs.SlotsKept.{ends_slots}
use Rattle.ddf_answer.specs.Call.{work_of}
use Rattle.ddf_disk_commands.specs.Label.{IsTried}
use Rattle.ddf_data_calls.specs.Reading.{MayBe, blocks_printed}
use Rattle.ddf_history_life.specs.Life.{labelled_disk}
use Rattle.ddf_history_memory.specs.Histories.{GoesWell, HasMemberOn}
use Rattle.ddf_history_memory.proofs.Slots.{becomes, before_told, not_read, read_below, reads_left}
use Rattle.ddf_data_events.specs.Beginnings.{first_moment, none_promised}
use Rattle.ddf_data_events.specs.Calls.{comes_in, ends_in, issued_in}
use Rattle.ddf_data_events.specs.Calls.Course.{Passing, Stepping}
use Rattle.ddf_data_events.specs.Moments.{Moment}
use Rattle.ddf_data_life.specs.Commands.{IsRead}
use Rattle.ddf_data_life.specs.Histories.{CourseOn, FindsOn, IsDataHistoryOn, LeavesLostOut, behind, course_on, exit_on, read_as}
use Rattle.ddf_data_life.proofs.Calls.{cut_on, ends_on, finds}
use Rattle.ddf_data_life.proofs.Labels.{label_begins}
use Rattle.ddf_data_life.proofs.Losses.{come_back, stopped, unplugged}
use Rattle.ddf_data_life.proofs.Printed.{printed}
use Rattle.ddf_data_lives.specs.Standing.{Behind, Stands, StandsOn, Turn}
use Rattle.ddf_data_lives.specs.Standing.Turn.{Cut, Ended, Returned, Stopped, Unplugged}
use Rattle.ddf_data_lives.proofs.Since.{ends_since}

-- What was acknowledged stays where nothing is issued.
acked_same : (group : List ℕ) (old new : Past (groups group)) → new.changes ≡ old.changes → KeepsAcked old new
acked_same group old new same = record {
  later = subst (λ (n : ℕ). old.changes.acked ≤ n) (sym (ap (λ changes. changes.acked) same)) (omega arith);
  same = λ i config low at. ap (λ changes. slice_get changes.issued i) same ∙ at;
}

module _ (group : List ℕ) (kept : ℕ) (disk : Disk) where
  module _ (old : Moment group MemoryBay) (stands : Stands group kept disk old) where
    -- the disk that stands, as a member that can be read
    pub member : (disks_of old.bay).tells_left → HasMemberOn group old.past old.bay
    member told =
        let shown = stands.data_history.history.kept (disks_of old.bay).held (reads_left old.bay told) in
        record {
          slot = kept;
          there = stands.there;
          plugged = stands.plugged;
          config = shown.last;
          is_last = shown.is_last;
          is_current = ap (has_current shown.last) stands.same_disk ∙ stands.current old.past.changes.acked shown.last (record { late = omega arith; is_there = shown.is_last });
        }

    -- A slot that counts as lost was left out.
    pub unread : (left : List Bool) → length left ≡ length (disks_of old.bay).sizes → AreOut (disks_of old.bay) left → LeavesLostOut group old.past left
    unread left every_slot out slot lost =
        false_from_ne_true (is_read left slot) (λ read.
        let low = read_below left slot read in
        let there : slot < length (disks_of old.bay).sizes = subst (λ (n : ℕ). slot < n) every_slot low in
        not_read left slot (out slot low (stands.data_history.history.lost_gone slot there lost)) read)

    pub finds_standing : (exit : MemoryBay) → GoesWell old.bay exit → (disks_of exit).tells_left → (left : List Bool) → length left ≡ length (disks_of old.bay).sizes
        → ((slot : ℕ) → slot < length left → IsTrue (slice_index_or left slot false) → LookFailed (disks_of old.bay) (disks_of exit) slot) → AreOut (disks_of old.bay) left
        → (newest : List (Option Newest)) → newest ≡ newest_from (disks_of old.bay) 0 left → (found : GroupValue) → group_of newest (Some group) ≡ Ok found → FindsOn group old left newest
    finds_standing exit well told left every_slot failed out newest read found is_found =
        finds group old stands.data_history exit (member (before_told old.bay exit well told)) well told left every_slot failed (unread left every_slot out) newest found is_found

    pub printed_standing : (exit : MemoryBay) (guid : List ℕ) (read : IsRead group old.bay exit guid) → AreOut (disks_of old.bay) read.has.left → (disks_of exit).tells_left
        → (allowed : Allowed) → old.promises guid ≡ Some allowed → MayBe allowed read.start (blocks_printed read.outcome)
    printed_standing exit guid read out told allowed promised =
        printed group old exit guid stands.data_history (member (before_told old.bay exit read.well told)) read (unread read.has.left read.has.every_slot out) told allowed promised

    -- ---- behind a call

    plugged_then : (exit : MemoryBay) → GoesWell old.bay exit → (disks_of exit).gone kept → ⊥
    plugged_then exit well gone =
        stands.plugged (ap (λ (unplugged : List Bool). slice_index_or unplugged kept false) (sym (becomes old.bay exit well).same_unplugged) ∙ gone)

    -- what is known of a past behind a call
    record IsKeeping (now : Past (groups group)) : Type 0 where
      pub same_disk : now.disk kept ≡ disk
      pub current : (number : ℕ) (config : Configuration) → IsSince now.changes number config → has_current config disk ≡ true

    taken : (readable : ℕ → Bool) (found : GroupValue) (changes : List Configuration) → ((place : ℕ) (config : Configuration) → slice_get changes place ≡ Some config → has_current config disk ≡ true)
        → (done : Bool) (now : Past (groups group)) → Ends group old.past readable found changes done now → IsKeeping now
    taken readable found changes keeps done now ends = record {
      same_disk = ap (λ (disk_in : ℕ → Disk). disk_in kept) (ends_slots group old.past readable found changes done now ends).same_disks ∙ stands.same_disk;
      current = ends_since group old.past readable found (λ config. has_current config disk ≡ true) stands.current changes keeps done now ends;
    }

    still : (now : Past (groups group)) → now ≡ old.past → IsKeeping now
    still now same = subst IsKeeping (sym same) (record { same_disk = stands.same_disk; current = stands.current })

    -- Each configuration that it issues lists the disk as a current member.
    abbrev KeepsIn : CourseOn group old → Type 0
    KeepsIn course = (place : ℕ) (config : Configuration) → slice_get (issued_in {tells = Unit {0}} tt disks_of (Unit {0}) read_as group course) place ≡ Some config → has_current config disk ≡ true

    ended : (course : CourseOn group old) → KeepsIn course → (now : Past (groups group)) → ends_in {tells = Unit {0}} tt disks_of (Unit {0}) read_as group course now → IsKeeping now
    ended (Stepping by) keeps now ends = taken (is_read by.left) by.finds.found by.issued keeps by.done now ends
    ended (Passing exit) keeps now same = still now same

    come : (course : CourseOn group old) → KeepsIn course → (now : Past (groups group)) → comes_in {tells = Unit {0}} tt disks_of (Unit {0}) read_as group course now → IsKeeping now
    come (Stepping by) keeps now goes = taken (is_read by.left) by.finds.found by.issued keeps false now goes
    come (Passing exit) keeps now same = still now same

    stands_on : (now : Past (groups group)) (bay : MemoryBay) (promises : Promises) → (disks_of bay).sizes ≡ (disks_of old.bay).sizes → ((disks_of bay).gone kept → ⊥) → IsKeeping now
        → IsDataHistoryOn group (behind old now bay promises) → Stands group kept disk (behind old now bay promises)
    stands_on now bay promises same_sizes plugged keeping history = record {
      data_history = history;
      same_disk = keeping.same_disk;
      current = keeping.current;
      plugged = plugged;
      there = subst (λ (sizes : List ℕ). kept < length sizes) (sym same_sizes) stands.there;
    }

    -- ---- the next moment

    pub record Follows (turn : Turn group kept disk old) : Type 0 where
      pub next : Moment group MemoryBay
      pub behind_it : Behind group kept disk old turn next
      pub acked : KeepsAcked old.past next.past
      pub next_stands : Stands group kept disk next

    pub follows : (turn : Turn group kept disk old) → Follows turn
    follows (Ended call well told keeps) =
        let on = ends_on group old stands.data_history call well told in
        record {
          next = behind old on.past (exit_on group old call) on.promises;
          behind_it = record { is_bay = refl; comes = on.comes; is_promised = on.is_promised };
          acked = on.acked;
          next_stands = stands_on on.past (exit_on group old call) on.promises (becomes old.bay (exit_on group old call) well).same_sizes (plugged_then (exit_on group old call) well)
              (ended (course_on group old call) keeps on.past on.comes) on.history;
        }
    follows (Cut call well image cut was_left is_cut told plugged keeps) =
        let on = cut_on group old stands.data_history image cut is_cut call well was_left told in
        record {
          next = behind old on.past cut on.promises;
          behind_it = record { is_bay = refl; comes = on.comes; is_promised = on.is_promised };
          acked = on.acked;
          next_stands = stands_on on.past cut on.promises is_cut.same_sizes plugged (come (course_on group old call) keeps on.past on.comes) on.history;
        }
    follows (Stopped cut back is away told plugged) = record {
      next = behind old old.past cut old.promises;
      behind_it = record { is_bay = refl; comes = refl; is_promised = refl };
      acked = acked_same group old.past old.past refl;
      next_stands = stands_on old.past cut old.promises is.same_sizes plugged (still old.past refl) (stopped group old stands.data_history cut back is told away);
    }
    follows (Unplugged bay slot is plugged) = record {
      next = behind old old.past bay old.promises;
      behind_it = record { is_bay = refl; comes = refl; is_promised = refl };
      acked = acked_same group old.past old.past refl;
      next_stands = stands_on old.past bay old.promises (ap (λ (state : MemoryState). state.sizes) is) plugged (still old.past refl) (unplugged group old stands.data_history bay slot is);
    }
    follows (Returned cut slot missing is told plugged) = record {
      next = behind old (give_back old.past slot) cut old.promises;
      behind_it = record { is_bay = refl; comes = refl; is_promised = refl };
      acked = acked_same group old.past (give_back old.past slot) refl;
      next_stands = stands_on (give_back old.past slot) cut old.promises is.same_sizes plugged (record { same_disk = stands.same_disk; current = stands.current })
          (come_back group old stands.data_history cut slot missing is told);
    }

  pub stands_however : (turns : ℕ) (start : Moment group MemoryBay) → Stands group kept disk start → StandsOn group kept disk turns start
  stands_however zero start stands = stands
  stands_however (suc more) start stands = (stands, λ turn. let on = follows start stands turn in (on.next, on.behind_it, on.acked, stands_however more on.next on.next_stands))

-- ---- the label

module _ (large : Bool) (revision : Revision) (stamp : Stamp) (old new : MemoryBay) (kept : ℕ) (tried : IsTried (work_of (Unit {0}) (disks_of old) (disks_of new)) large revision stamp [] (Ok tt))
    (same_sizes : (disks_of new).sizes ≡ (disks_of old).sizes) (told : (disks_of old).tells_left) (told_new : (disks_of new).tells_left) (there : kept < length (disks_of old).sizes)
    (plugged : (disks_of new).gone kept → ⊥) where
  pub label_stands : (moment : Moment (name_of stamp) MemoryBay) × Stands (name_of stamp) kept (labelled_disk large revision stamp (disks_of old).sizes kept) moment × (moment.bay ≡ new) × (moment.promises ≡ none_promised)
  label_stands =
      let from = label_begins large revision stamp old new tried same_sizes told told_new in (
        first_moment from.past new from.floor from.small,
        record {
          data_history = from.history;
          same_disk = from.names kept there;
          current = λ number config since. sym (ap (has_current config) (from.names kept there)) ∙ from.members kept there number config (record { late = since.late; is_there = since.is_there });
          plugged = plugged;
          there = subst (λ (all : List ℕ). kept < length all) (sym same_sizes) there;
        },
        refl,
        refl,
      )
