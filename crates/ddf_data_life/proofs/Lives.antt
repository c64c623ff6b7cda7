-- A life of a group and of its data on disks in memory, step by step.
use Rattle.std.proofs.Common.{◌≡◌, ◌⊎◌, ◌∙◌, ℕ, ◌<◌, ◌+◌, ◌++◌, Bool, true, false, List, [], ◌∷◌, length, Option, Some, None, Result, Ok, if◌then◌else◌, refl, sym, ap, subst, inl, inr, ⊎_elim, arith}
use Rattle.std.proofs.lemmas.Bool.{false_from_ne_true}
use Rattle.std.specs.Prelude.{IsTrue, is_some, option_map, slice_index_or}
use Rattle.ddf_lemmas.proofs.Lists.{set_true_other}
use Rattle.ddf_bytes.specs.declared.stamp.Stamp.{Stamp}
use Rattle.ddf_header.specs.declared.kind.Revision.{Revision}
use Rattle.ddf_bay.specs.Sectors.{Image}
use Rattle.ddf_bay.specs.Memory.{MemoryState, disks_of}
use Rattle.ddf_bay.specs.ReadsOnly.{LookFailed}
use Rattle.ddf_bay.specs.declared.memory.MemoryBay.{MemoryBay}
use Rattle.ddf_config.specs.Configuration.{Configuration}
use Rattle.ddf_copy.specs.declared.newest_copy.Newest.{Newest}
use Rattle.ddf_plan.specs.declared.change.Change.TheVariants.{Create}
use Rattle.ddf_array.specs.Values.{value}
use Rattle.ddf_array.specs.Volume.{IsVolume, capacity}
use Rattle.ddf_array.specs.Within.{is_within}
use Rattle.ddf_array.proofs.Losses.{some_value}
use Rattle.ddf_update.specs.NewCopies.{group_of as name_of}
use Rattle.ddf_config.proofs.Common.{same_self}
use Rattle.ddf_data_array.specs.Allowed.{Allowed, May, any_bytes, is_in, new_bytes, once_consistent, once_written, while_written}
use Rattle.ddf_data_group.specs.Grouped.{Promises}
use Rattle.ddf_history.specs.Groups.{Disk, groups, has_current}
use Rattle.ddf_history.specs.Issued.{IsSince, Past}
use Rattle.ddf_recovery.specs.Recovery.{config_recovered}
use Rattle.ddf_steps.specs.Steps.{Step}
use Rattle.ddf_seats.specs.Group.{GroupValue}
use Rattle.ddf_assembly.specs.Group.{group_of}
use Rattle.ddf_assembly.specs.Slots.{newest_from}
use Rattle.ddf_history_steps.specs.Going.{Ends, Goes, IsOver, changes_in}
use Rattle.ddf_history_steps.specs.Kept.{is_read}
use Rattle.ddf_history_steps.proofs.SlotsKept.{ends_slots}
use Rattle.ddf_data_array.proofs.Written.{may_old}
use Rattle.ddf_data_history.specs.Promised.{with_promise}
use Rattle.ddf_answer.specs.declared.failure.Failure.{Failure}
use Rattle.ddf_disk_commands.specs.Label.{label_copy}
use Rattle.ddf_group_commands.specs.Change.{is_done}
use Rattle.ddf_group_commands.proofs.Outcomes.{AreReadied, readied_by}
use Rattle.ddf_write_commands.specs.Resync.{resync_request}
use Rattle.ddf_write_commands.specs.Write.{is_written, write_request}
use Rattle.ddf_history_memory.specs.Histories.{GoesWell, HasMemberOn, IsCutAt, StaysMember}
use Rattle.ddf_history_memory.proofs.Members as members
use Rattle.ddf_history_memory.proofs.Slots.{becomes, before_told, read_below, reads_left}
use Rattle.ddf_data_calls.specs.Reading.{MayBe, blocks_printed}
use Rattle.ddf_data_calls.specs.Promised.{IsWrittenOf, MayBeWritten, counted, with_allowed, written as once_done}
use Rattle.ddf_history_life.specs.Commands.{KeepDisk}
use Rattle.ddf_history_life.specs.Life.{labelled_disk}
use Rattle.ddf_data_events.specs.Beginnings.{first_moment, none_promised}
use Rattle.ddf_data_events.specs.Calls.{ResyncCall, once_changed, once_resynced}
use Rattle.ddf_data_events.specs.Calls.Call.{Changes, Resyncs, Writes}
use Rattle.ddf_data_events.specs.Moments.{Moment}
use Rattle.ddf_data_events.proofs.Blocks.{resync_within as within_then}
use Rattle.ddf_data_life.specs.Commands.{IsCreate, IsResync, IsWrite}
use Rattle.ddf_data_life.specs.Histories.{CallOn, CutOn, EndsOn, IsDataBegun, IsDataHistoryOn, LeavesLostOut, behind, read_as}
use Rattle.ddf_data_life.specs.Life.{AreAllPlugged, IsLife, Outlives, acknowledged, in_the_end}
use Rattle.ddf_data_life.proofs.Calls.{cut_on, ends_on, finds}
use Rattle.ddf_data_life.proofs.Kept.{create_keeps, resync_keeps, still_current, write_keeps}
use Rattle.ddf_data_life.proofs.Labels.{label_begins}
use Rattle.ddf_data_life.proofs.Losses.{unplugged}
use Rattle.ddf_data_life.proofs.Memory.{bays}
use Rattle.ddf_data_life.proofs.Printed.{printed}

-- ---- slots and promises

-- what is promised of an array from now on
with_own : (promises : Promises) (guid : List ℕ) (new : Option Allowed) → with_promise promises guid new guid ≡ new
with_own promises guid new = ap (λ (b : Bool). if b then new else promises guid) (same_self guid)

may_while : (allowed : Allowed) (start : ℕ) (sectors : List (List ℕ)) (block : ℕ) (bytes : List ℕ) → May (allowed block) bytes → May (while_written allowed start sectors block) bytes
may_while allowed start sectors block bytes may = by (is_in start (length sectors) block)
  where
    by : (b : Bool) → May (if b then option_map (λ old. old ++ new_bytes start sectors block ∷ []) (allowed block) else allowed block) bytes
    by true = may_old (allowed block) (new_bytes start sectors block) bytes may
    by false = may

-- ---- where the kept disk stands

module _ (group : List ℕ) (kept : ℕ) (disk : Disk) where
  -- At a moment of the history no slot is unplugged, and the kept slot's disk is a current member of each configuration since the last acknowledged one.
  record Stands (moment : Moment group MemoryBay) : Type 0 where
    data_history : IsDataHistoryOn group moment
    same_disk : moment.past.disk kept ≡ disk
    current : (number : ℕ) (config : Configuration) → IsSince moment.past.changes number config → has_current config disk ≡ true
    plugged : AreAllPlugged moment.bay
    there : kept < length (disks_of moment.bay).sizes

  record Next (old : Moment group MemoryBay) (bay : MemoryBay) (Comes : Past (groups group) → Type 0) (Is : Promises → Type 0) : Type 0 where
    past : Past (groups group)
    promises : Promises
    comes : Comes past
    stands : Stands (behind old past bay promises)
    is_promised : Is promises

  module _ (old : Moment group MemoryBay) (stands : Stands old) where
    member : (disks_of old.bay).tells_left → HasMemberOn group old.past old.bay
    member told =
        let shown = stands.data_history.history.kept (disks_of old.bay).held (reads_left old.bay told) in
        record {
          slot = kept;
          there = stands.there;
          plugged = stands.plugged kept stands.there;
          config = shown.last;
          is_last = shown.is_last;
          is_current = ap (has_current shown.last) stands.same_disk ∙ stands.current old.past.changes.acked shown.last (record { late = omega arith; is_there = shown.is_last });
        }

    unread : (left : List Bool) → length left ≡ length (disks_of old.bay).sizes → LeavesLostOut group old.past left
    unread left every_slot slot lost =
        false_from_ne_true (is_read left slot) (λ read.
        let low : slot < length (disks_of old.bay).sizes = subst (λ (n : ℕ). slot < n) every_slot (read_below left slot read) in
        stands.plugged slot low (stands.data_history.history.lost_gone slot low lost))

    -- The kept disk is a current member of the group that a call found, once that is recovered.
    recovered : (exit : MemoryBay) → GoesWell old.bay exit → (disks_of exit).tells_left → (left : List Bool) → length left ≡ length (disks_of old.bay).sizes
        → ((slot : ℕ) → slot < length left → IsTrue (slice_index_or left slot false) → LookFailed (disks_of old.bay) (disks_of exit) slot)
        → (newest : List (Option Newest)) → newest ≡ newest_from (disks_of old.bay) 0 left → (found : GroupValue) → group_of newest (Some group) ≡ Ok found
        → has_current (config_recovered found) disk ≡ true
    recovered exit well told left every_slot failed newest read found is_found =
        subst (λ (one : Disk). has_current (config_recovered found) one ≡ true) stands.same_disk
        (still_current group old stands.data_history exit (member (before_told old.bay exit well told)) well told left every_slot failed (unread left every_slot) newest read found is_found
        kept stands.there (stands.plugged kept stands.there) (λ number config since. ap (has_current config) stands.same_disk ∙ stands.current number config since))

    plugged_then : (exit : MemoryBay) → GoesWell old.bay exit → AreAllPlugged exit
    plugged_then exit well slot low gone =
        stands.plugged slot (subst (λ (sizes : List ℕ). slot < length sizes) (becomes old.bay exit well).same_sizes low)
        (ap (λ (unplugged : List Bool). slice_index_or unplugged slot false) (sym (becomes old.bay exit well).same_unplugged) ∙ gone)

    -- It does so behind a call, as far as it came.
    stands_then : (bay : MemoryBay) → (disks_of bay).sizes ≡ (disks_of old.bay).sizes → AreAllPlugged bay → (left : List Bool) (found : GroupValue) (timestamp : ℕ) (steps : List Step)
        → AreReadied found timestamp steps → KeepDisk steps disk → (done : Bool) (now : Past (groups group)) → Ends group old.past (is_read left) found (changes_in found steps) done now
        → (promises : Promises) → IsDataHistoryOn group (behind old now bay promises) → Stands (behind old now bay promises)
    stands_then bay same_sizes plugged left found timestamp steps ready keeps done now ends promises data_history =
        let same : now.disk kept ≡ disk =
        ap (λ (disk_in : ℕ → Disk). disk_in kept) (ends_slots group old.past (is_read left) found (changes_in found steps) done now ends).same_disks ∙ stands.same_disk in
        let stays : StaysMember group old.past kept steps = record {
          pending = λ number config since. ap (has_current config) stands.same_disk ∙ stands.current number config since;
          each = λ place step at. ap (has_current step.config) stands.same_disk ∙ keeps place step at;
        } in
        record {
          data_history = data_history;
          same_disk = same;
          current = λ number config since.
              sym (ap (has_current config) same)
              ∙ members.stays_current group old.past now (is_read left) found ready.changes timestamp steps done ready.is ends kept stays number config (record { late = since.late; is_there = since.is_there });
          plugged = plugged;
          there = subst (λ (sizes : List ℕ). kept < length sizes) (sym same_sizes) stands.there;
        }

    -- ---- `create`

    module _ (exit : MemoryBay) (told : (disks_of exit).tells_left) (guid : List ℕ) (create : IsCreate group old.bay exit guid) (none : old.promises guid ≡ None) where
      abbrev create_call : CallOn group old
      create_call = Changes (record {
        exit = exit;
        named = Some group;
        timestamp = create.timestamp;
        request = create.request;
        outcome = create.outcome;
        changed = create.has;
        finds = finds group old stands.data_history exit (member (before_told old.bay exit create.took.well told)) create.took.well told create.has.taken.left create.has.taken.every_slot create.has.taken.failed
            (unread create.has.taken.left create.has.taken.every_slot) create.has.taken.newest create.took.found create.took.is_found;
        steps = create.steps;
        are_asked = create.are_asked;
        change = Some (Create guid create.array);
        is_change = create.asks;
        may = λ image left. none;
      })

      create_on : EndsOn group old create_call
      create_on = ends_on group old stands.data_history create_call create.took.well told

      create_next : (sequence : ℕ) → create.outcome ≡ Ok sequence
          → Next old exit (IsOver group old.past (is_read create.has.taken.left) create.took.found (changes_in create.took.found create.steps)) (λ promised. promised ≡ with_promise old.promises guid (Some any_bytes))
      create_next sequence done =
          let on = create_on in
          record {
            past = on.past;
            promises = on.promises;
            comes = subst (λ (outcome : Result ℕ Failure). Ends group old.past (is_read create.has.taken.left) create.took.found (changes_in create.took.found create.steps) (is_done outcome) on.past) done on.comes;
            stands = stands_then exit (becomes old.bay exit create.took.well).same_sizes (plugged_then exit create.took.well) create.has.taken.left create.took.found create.timestamp create.steps
                (readied_by create.took.found create.timestamp (create.request (config_recovered create.took.found) create.took.found.seats) create.steps create.are_asked)
                (create_keeps disk create.took.found create.timestamp (recovered exit create.took.well told create.has.taken.left create.has.taken.every_slot create.has.taken.failed create.has.taken.newest (create.has.taken.read tt) create.took.found create.took.is_found) create.steps guid create.array create.request create.are_asked create.asks)
                (is_done create.outcome) on.past on.comes on.promises on.history;
            is_promised = subst
                (λ (outcome : Result ℕ Failure). on.promises ≡ once_changed {tells = Unit {0}} tt disks_of (Unit {0}) read_as group (Some (Create guid create.array)) (is_done outcome) old.promises) done
                on.is_promised;
          }

    -- ---- `resync`

    module _ (exit : MemoryBay) (told : (disks_of exit).tells_left) (resync : IsResync group old.bay exit) where
      abbrev resync_asked : ResyncCall {tells = Unit {0}} tt disks_of (Unit {0}) read_as group old
      resync_asked = record {
        exit = exit;
        named = Some group;
        timestamp = resync.timestamp;
        word = resync.word;
        outcome = resync.outcome;
        resynced = resync.has;
        finds = finds group old stands.data_history exit (member (before_told old.bay exit resync.took.well told)) resync.took.well told resync.has.taken.left resync.has.taken.every_slot resync.has.taken.failed
            (unread resync.has.taken.left resync.has.taken.every_slot) resync.has.taken.newest resync.took.found resync.took.is_found;
        plan = resync.plan;
        counts = true;
      }

      abbrev resync_call : CallOn group old
      resync_call = Resyncs resync_asked

      resync_within : (is_within resync.plan.volume ≡ true) × IsVolume resync.plan.volume
      resync_within = within_then {tells = Unit {0}} tt disks_of (Unit {0}) read_as group bays old stands.data_history.keeps resync_asked

      resync_on : EndsOn group old resync_call
      resync_on = ends_on group old stands.data_history resync_call resync.took.well told

      resync_next : (sequence : ℕ) → resync.outcome ≡ Ok sequence
          → Next old exit (IsOver group old.past (is_read resync.has.taken.left) resync.took.found (changes_in resync.took.found (resync.plan.first ++ resync.plan.last)))
          (λ promised. promised ≡ counted resync.plan.entry.0 resync.plan.volume (disks_of exit).held old.promises)
      resync_next sequence done =
          let on = resync_on in
          record {
            past = on.past;
            promises = on.promises;
            comes = subst (λ (outcome : Result ℕ Failure). Ends group old.past (is_read resync.has.taken.left) resync.took.found (changes_in resync.took.found (resync.plan.first ++ resync.plan.last)) (is_done outcome) on.past) done on.comes;
            stands = stands_then exit (becomes old.bay exit resync.took.well).same_sizes (plugged_then exit resync.took.well) resync.has.taken.left resync.took.found resync.timestamp
                (resync.plan.first ++ resync.plan.last)
                (readied_by resync.took.found resync.timestamp (resync_request resync.word (config_recovered resync.took.found) resync.took.found.seats) (resync.plan.first ++ resync.plan.last) resync.plan.are_asked)
                (resync_keeps disk resync.took.found resync.timestamp (recovered exit resync.took.well told resync.has.taken.left resync.has.taken.every_slot resync.has.taken.failed resync.has.taken.newest (resync.has.taken.read tt) resync.took.found resync.took.is_found) (resync.plan.first ++ resync.plan.last) resync.word resync.plan.entry resync.plan.is_named resync.plan.are_asked)
                (is_done resync.outcome) on.past on.comes on.promises on.history;
            is_promised = subst
                (λ (outcome : Result ℕ Failure). on.promises ≡ once_resynced {tells = Unit {0}} tt disks_of (Unit {0}) read_as group resync_asked (is_done outcome)) done on.is_promised;
          }

    -- ---- `write`

    module _ (exit : MemoryBay) (told : (disks_of exit).tells_left) (write : IsWrite group old.bay exit) where
      abbrev write_call : CallOn group old
      write_call = Writes (record {
        exit = exit;
        source_old = write.before;
        source_new = write.after;
        named = Some group;
        timestamp = write.timestamp;
        word = write.word;
        start = write.start;
        count = write.count;
        sectors = write.sectors;
        outcome = write.outcome;
        given = write.given;
        wrote = write.has;
        finds = finds group old stands.data_history exit (member (before_told old.bay exit write.took.well told)) write.took.well told write.has.taken.left write.has.taken.every_slot write.has.taken.failed
            (unread write.has.taken.left write.has.taken.every_slot) write.has.taken.newest write.took.found write.took.is_found;
        plan = write.plan;
      })

      write_ready : AreReadied write.took.found write.timestamp (write.plan.first ++ write.plan.last)
      write_ready =
          readied_by write.took.found write.timestamp (write_request write.word write.start write.count (config_recovered write.took.found) write.took.found.seats) (write.plan.first ++ write.plan.last) write.plan.are_asked

      blocks_keep : KeepDisk (write.plan.first ++ write.plan.last) disk
      blocks_keep =
          write_keeps disk write.took.found write.timestamp (recovered exit write.took.well told write.has.taken.left write.has.taken.every_slot write.has.taken.failed write.has.taken.newest (write.has.taken.read tt) write.took.found write.took.is_found)
          (write.plan.first ++ write.plan.last) write.word write.start write.count write.plan.entry write.plan.is_named write.plan.are_asked

      write_on : EndsOn group old write_call
      write_on = ends_on group old stands.data_history write_call write.took.well told

      write_next : is_written write.outcome ≡ true
          → Next old exit (IsOver group old.past (is_read write.has.taken.left) write.took.found (changes_in write.took.found (write.plan.first ++ write.plan.last)))
          (λ promised. promised ≡ once_done write.plan.entry.0 write.start write.sectors old.promises)
      write_next done =
          let on = write_on in
          record {
            past = on.past;
            promises = on.promises;
            comes = subst (λ (b : Bool). Ends group old.past (is_read write.has.taken.left) write.took.found (changes_in write.took.found (write.plan.first ++ write.plan.last)) b on.past) done on.comes;
            stands = stands_then exit (becomes old.bay exit write.took.well).same_sizes (plugged_then exit write.took.well) write.has.taken.left write.took.found write.timestamp
                (write.plan.first ++ write.plan.last) write_ready blocks_keep (is_written write.outcome) on.past on.comes on.promises on.history;
            is_promised = subst (λ (b : Bool). IsWrittenOf b write.plan.entry.0 write.start write.sectors old.promises on.promises) done on.is_promised;
          }

      module _ (image : Image) (was_left : (disks_of exit).left_since (disks_of old.bay).moment image) (cut : MemoryBay) (is_cut : IsCutAt old.bay image cut) (cut_told : (disks_of cut).tells_left) where
        write_cut : CutOn group old write_call cut
        write_cut = cut_on group old stands.data_history image cut is_cut write_call write.took.well was_left cut_told

        cut_next : AreAllPlugged cut → Next old cut (Goes group old.past (is_read write.has.taken.left) write.took.found (changes_in write.took.found (write.plan.first ++ write.plan.last)))
            (MayBeWritten write.plan.entry.0 write.start write.sectors old.promises)
        cut_next plugged =
            let on = write_cut in
            record {
              past = on.past;
              promises = on.promises;
              comes = on.comes;
              stands = stands_then cut is_cut.same_sizes plugged write.has.taken.left write.took.found write.timestamp (write.plan.first ++ write.plan.last) write_ready blocks_keep false on.past on.comes on.promises
                  on.history;
              is_promised = on.is_promised;
            }

-- ---- the life

module _ {large : Bool} {revision : Revision} {stamp : Stamp} {guid : List ℕ} {kept lost : ℕ} (life : IsLife large revision stamp guid kept lost) where
  abbrev group : List ℕ
  group = name_of stamp

  abbrev sizes : List ℕ
  sizes = (disks_of life.blank).sizes

  abbrev disk : Disk
  disk = labelled_disk large revision stamp sizes kept

  -- ---- what each bay tells

  second_told : (disks_of life.second_exit).tells_left
  second_told = life.was_left.0

  written_told : (disks_of life.written).tells_left
  written_told = before_told life.written life.second_exit life.second.took.well second_told

  resynced_told : (disks_of life.resynced).tells_left
  resynced_told = before_told life.resynced life.written life.write.took.well written_told

  created_told : (disks_of life.created).tells_left
  created_told = before_told life.created life.resynced life.resync.took.well resynced_told

  labelled_told : (disks_of life.labelled).tells_left
  labelled_told = before_told life.labelled life.created life.create.took.well created_told

  -- ---- the label

  begun : IsDataBegun group (length sizes) (label_copy large revision stamp sizes []) life.labelled
  begun = label_begins large revision stamp life.blank life.labelled life.label life.same_sizes life.tells_blank labelled_told

  abbrev first : Moment group MemoryBay
  first = let from = begun in first_moment from.past life.labelled from.floor from.small

  first_stands : Stands group kept disk first
  first_stands = let from = begun in record {
    data_history = from.history;
    same_disk = from.names kept life.kept_there;
    current = λ number config since. sym (ap (has_current config) (from.names kept life.kept_there)) ∙ from.members kept life.kept_there number config (record { late = since.late; is_there = since.is_there });
    plugged = life.all_plugged;
    there = subst (λ (all : List ℕ). kept < length all) (sym life.same_sizes) life.kept_there;
  }

  -- ---- an array

  on_create : Next group kept disk first life.created (IsOver group first.past (is_read life.create.has.taken.left) life.create.took.found (changes_in life.create.took.found life.create.steps)) (λ promised. promised ≡ with_promise none_promised guid (Some any_bytes))
  on_create = create_next group kept disk first first_stands life.created created_told guid life.create refl life.create_sequence life.create_done

  abbrev with_array : Moment group MemoryBay
  with_array = let on = on_create in behind first on.past life.created on.promises

  on_resync : Next group kept disk with_array life.resynced (IsOver group (on_create).past (is_read life.resync.has.taken.left) life.resync.took.found (changes_in life.resync.took.found (life.resync.plan.first ++ life.resync.plan.last))) (λ promised. promised ≡ counted life.resync.plan.entry.0 life.resync.plan.volume (disks_of life.resynced).held (on_create).promises)
  on_resync = resync_next group kept disk with_array (on_create).stands life.resynced resynced_told life.resync life.resync_sequence life.resync_done

  abbrev agreeing : Moment group MemoryBay
  agreeing = let on = on_resync in behind with_array on.past life.resynced on.promises

  resync_promises : (on_resync).promises guid ≡ Some (once_consistent life.resync.plan.volume (disks_of life.resynced).held)
  resync_promises =
      let new = Some (once_consistent life.resync.plan.volume (disks_of life.resynced).held) in
      ap (λ (promises : Promises). promises guid) (on_resync).is_promised
      ∙ ap (λ (own : List ℕ). with_promise (on_create).promises own new guid) life.resync_names ∙ with_own (on_create).promises guid new

  -- Of each block of it something is promised then, and behind the writes too.
  some_written : (allowed : Allowed) (start : ℕ) (sectors : List (List ℕ)) (block : ℕ) → is_some (allowed block) ≡ true → is_some (once_written allowed start sectors block) ≡ true
  some_written allowed start sectors block some = by (is_in start (length sectors) block)
    where
      by : (b : Bool) → is_some (if b then Some (new_bytes start sectors block ∷ []) else allowed block) ≡ true
      by true = refl
      by false = some

  some_counted : (o : Option (List ℕ)) → is_some o ≡ true → is_some (option_map (λ (bytes : List ℕ). bytes ∷ []) o) ≡ true
  some_counted None some = absurd cc
  some_counted (Some bytes) some = refl

  each_acknowledged : (block : ℕ) → block < capacity life.resync.plan.volume → is_some (acknowledged life block) ≡ true
  each_acknowledged block below =
      let within = resync_within group kept disk with_array (on_create).stands life.resynced resynced_told life.resync in
      let held = (disks_of life.resynced).held in
      some_written (once_consistent life.resync.plan.volume held) life.write.start life.write.sectors block
      (some_counted (value life.resync.plan.volume held block) (some_value life.resync.plan.volume held block within.1 within.0 below))

  -- ---- writes

  on_write : Next group kept disk agreeing life.written (IsOver group (on_resync).past (is_read life.write.has.taken.left) life.write.took.found (changes_in life.write.took.found (life.write.plan.first ++ life.write.plan.last))) (λ promised. promised ≡ once_done life.write.plan.entry.0 life.write.start life.write.sectors (on_resync).promises)
  on_write = write_next group kept disk agreeing (on_resync).stands life.written written_told life.write life.write_done

  abbrev with_blocks : Moment group MemoryBay
  with_blocks = let on = on_write in behind agreeing on.past life.written on.promises

  allowed_then : (next : Allowed → Allowed) (own : List ℕ) (promises promised : Promises) (allowed : Allowed) → own ≡ guid → promises guid ≡ Some allowed → promised ≡ with_allowed next own promises
      → promised guid ≡ Some (next allowed)
  allowed_then next own promises promised allowed same before is =
      ap (λ (p : Promises). p guid) is
      ∙ ap (λ (one : List ℕ). with_promise promises one (option_map next (promises one)) guid) same
      ∙ with_own promises guid (option_map next (promises guid)) ∙ ap (option_map next) before

  write_promises : (on_write).promises guid ≡ Some (acknowledged life)
  write_promises =
      allowed_then (λ allowed. once_written allowed life.write.start life.write.sectors) life.write.plan.entry.0 (on_resync).promises (on_write).promises
      (once_consistent life.resync.plan.volume (disks_of life.resynced).held) life.write_names resync_promises (on_write).is_promised

  on_second : Next group kept disk with_blocks life.cut (Goes group (on_write).past (is_read life.second.has.taken.left) life.second.took.found (changes_in life.second.took.found (life.second.plan.first ++ life.second.plan.last))) (MayBeWritten life.second.plan.entry.0 life.second.start life.second.sectors (on_write).promises)
  on_second =
      cut_next group kept disk with_blocks (on_write).stands life.second_exit second_told life.second life.image life.was_left life.cut life.is_cut life.cut_tells life.cut_plugged

  abbrev interrupted_then : Moment group MemoryBay
  interrupted_then = let on = on_second in behind with_blocks on.past life.cut on.promises

  second_promises : ((on_second).promises guid ≡ Some (acknowledged life)) ⊎ ((on_second).promises guid ≡ Some (in_the_end life))
  second_promises = ⊎_elim
      (λ same. inl (ap (λ (promises : Promises). promises guid) same ∙ write_promises))
      (λ either. inr (allowed_then (λ allowed. while_written allowed life.second.start life.second.sectors) life.second.plan.entry.0 (on_write).promises (on_second).promises
      (acknowledged life) life.second_names write_promises either))
      (on_second).is_promised

  -- ---- the loss, and the read

  abbrev in_end : Moment group MemoryBay
  in_end = behind interrupted_then (on_second).past life.without_one (on_second).promises

  end_data : IsDataHistoryOn group in_end
  end_data = unplugged group interrupted_then (on_second).stands.data_history life.without_one lost life.is_unplugged

  end_told : (disks_of life.without_one).tells_left
  end_told = before_told life.without_one life.read_exit life.read.well life.read_tells

  end_sizes : (disks_of life.without_one).sizes ≡ (disks_of life.cut).sizes
  end_sizes = ap (λ (state : MemoryState). state.sizes) life.is_unplugged

  kept_plugged : (disks_of life.without_one).gone kept → ⊥
  kept_plugged gone =
      let before = (on_second).stands in
      before.plugged kept before.there
      (set_true_other life.cut.unplugged lost kept life.apart (ap (λ (state : MemoryState). slice_index_or state.unplugged kept false) (sym life.is_unplugged) ∙ gone))

  end_member : HasMemberOn group in_end.past life.without_one
  end_member =
      let before = (on_second).stands in
      let shown = (end_data).history.kept (disks_of life.without_one).held (reads_left life.without_one end_told) in
      record {
        slot = kept;
        there = subst (λ (all : List ℕ). kept < length all) (sym end_sizes) before.there;
        plugged = kept_plugged;
        config = shown.last;
        is_last = shown.is_last;
        is_current = ap (has_current shown.last) before.same_disk ∙ before.current in_end.past.changes.acked shown.last (record { late = omega arith; is_there = shown.is_last });
      }

  -- None counts as lost.
  end_unread : LeavesLostOut group in_end.past life.read.has.left
  end_unread =
      unread group kept disk interrupted_then (on_second).stands life.read.has.left (life.read.has.every_slot ∙ ap length end_sizes)

  prints : (allowed : Allowed) → in_end.promises guid ≡ Some allowed → MayBe allowed life.read.start (blocks_printed life.read.outcome)
  prints allowed is = printed group in_end life.read_exit guid end_data end_member life.read end_unread life.read_tells allowed is

  end_printed : MayBe (in_the_end life) life.read.start (blocks_printed life.read.outcome)
  end_printed = ⊎_elim
      (λ same k bytes at. may_while (acknowledged life) life.second.start life.second.sectors (life.read.start + k) bytes (prints (acknowledged life) same k bytes at))
      (λ either. prints (in_the_end life) either)
      second_promises

  pub outlives : Outlives life
  outlives = record {
    printed = end_printed;
    each = each_acknowledged;
    begun = begun;
    after_create = (on_create).past;
    create_over = (on_create).comes;
    after_resync = (on_resync).past;
    resync_over = (on_resync).comes;
    after_write = (on_write).past;
    write_over = (on_write).comes;
    now = in_end;
    second_goes = (on_second).comes;
    is_bay = refl;
    history = end_data;
    is_promised = second_promises;
  }
