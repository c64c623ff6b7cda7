-- Each step of an exercise, from what the disks are before it to what they are behind it.
use Rattle.std.proofs.Common.{◌≡◌, ℕ, ◌+◌, ◌*◌, ◌^◌, ◌<◌, ◌≤◌, Bool, true, false, List, length, replicate, codes, refl, inl, inr, arith}
use Rattle.std.specs.Prelude.{slice_set}
use Rattle.std.specs.List.{flat_map}
use Rattle.ddf_bytes.specs.declared.stamp.Stamp.{Stamp}
use Rattle.ddf_bytes.specs.Stamps.{timestamp_of}
use Rattle.ddf_bytes.specs.Streams.{SinkState}
use Rattle.ddf_bay.specs.Memory.{disks_of, state_of, without}
use Rattle.ddf_bay.specs.declared.memory.MemoryBay.{MemoryBay}
use Rattle.ddf_update.specs.NewCopies.{group_of as name_of}
use Rattle.ddf_plan.specs.Refusals.{greatest_sequence}
use Rattle.ddf_text.specs.Done.{sequence_line}
use Rattle.ddf_request.specs.NewArray.{new_array_guid}
use Rattle.ddf_exercise_config.specs.Disks.{AreApart, Disks}
use Rattle.ddf_exercise_config.specs.Founded.{new_disks}
use Rattle.ddf_exercise_config.specs.Stages.{created, founded, resynced, seats_at, spare_disk, whole, with_spare}
use Rattle.ddf_exercise_config.specs.Turns.{Loss, Turn, turn_before, turn_behind}
use Rattle.ddf_exercise_config.specs.Turns.Loss.{OfSecond, OfThird}
use Rattle.ddf_exercise_config.specs.Turns.Turn.{Opening}
use Rattle.ddf_exercise_config.specs.Views.{view_at}
use Rattle.ddf_exercise_config.proofs.Labelled.{are_apart}
use Rattle.ddf_uncut_group.proofs.PlainReferences.{names_disk}
use Rattle.ddf_exercise_disks.specs.Ending.{unused}
use Rattle.ddf_exercise_disks.specs.Lost.{lost_slot}
use Rattle.ddf_exercise_disks.specs.Standing.{StandsAt}
use Rattle.ddf_exercise_disks.specs.Storing.{StoresAt}
use Rattle.ddf_exercise_disks.specs.Zeros.{IsZero, none_out}
use Rattle.ddf_exercise_disks.proofs.EndsReads.{read_stores, scrub_stores}
use Rattle.ddf_exercise_disks.proofs.FirstChange.{creation_stands, first_spare_stores, second_spare_stores}
use Rattle.ddf_exercise_disks.proofs.FirstLabel.{label_founds}
use Rattle.ddf_exercise_disks.proofs.FirstResync.{resync_stores}
use Rattle.ddf_exercise_disks.proofs.RebuildingBlocks.{rebuild_stores}
use Rattle.ddf_exercise_disks.proofs.RebuildingGroup.{IsRebuilding}
use Rattle.ddf_exercise_disks.proofs.WritingDone.{write_stores}
use Rattle.ddf_exercise.specs.Blocks.{filled}
use Rattle.ddf_exercise.specs.Exercise.{IsTriedRead, new_disks as disks_made}
use Rattle.ddf_exercise.specs.Taking.{CountsAs, IsTaken, IsTried, line_of}
use Rattle.ddf_exercise.specs.declared.draws.Fill.{Fill}
use Rattle.ddf_exercise.specs.declared.steps.Step.TheVariants.{Create, Label, Rebuild, Resync, Scrub, Spare, Unplug, Write}
use Rattle.ddf_exercise.proofs.Peeling.{GoesOnOr, ends_well, lacks_on, tried_on, unplugged_well}

-- a stamp's time is within 32 bits
in_time : (stamp : Stamp) → timestamp_of stamp < 2 ^ 32
in_time stamp = omega arith

module _ (stamp : Stamp) (rounds : ℕ) where
  abbrev pub name : List ℕ
  name = name_of stamp

  abbrev pub disks : Disks
  disks = new_disks stamp

  abbrev pub guid : List ℕ
  guid = new_array_guid (founded name disks 1) stamp

  -- the sectors that the bay has room for
  abbrev pub total : ℕ
  total = 25000 + 2100 * rounds

  apart : AreApart disks
  apart = are_apart stamp

  -- ---- before the blocks are written

  abbrev pub IsLabelledAt : MemoryBay → Type 0
  IsLabelledAt bay = StandsAt name total 415 none_out (founded name disks 1) (seats_at disks Opening) bay × IsZero bay

  abbrev pub IsCreatedAt : MemoryBay → Type 0
  IsCreatedAt bay = StandsAt name total 830 none_out (created name disks guid 2) (seats_at disks Opening) bay × IsZero bay

  abbrev pub IsResyncedAt : MemoryBay → Type 0
  IsResyncedAt bay = StoresAt name total 13533 none_out (resynced name disks guid 3) (seats_at disks Opening) (view_at Opening false) (replicate 8192 0) bay

  abbrev pub HasSpareAt : MemoryBay → Type 0
  HasSpareAt bay = StoresAt name total 13948 none_out (with_spare name disks guid 4) (seats_at disks Opening) (view_at Opening false) (replicate 8192 0) bay

  pub label_on : (old next : MemoryBay) (status : ℕ) → state_of old ≡ disks_made rounds → IsTried stamp Label 1 old next status → GoesOnOr status (IsLabelledAt next)
  label_on old next status is tried = tried_on stamp Label 1 old next status tried
      (λ after came taken counts. ends_well after came status (sequence_line 1) (line_of Label 1) counts refl
      (label_founds total old is stamp (omega arith) next taken.goes_on after came taken.done))

  create_called : (old next : MemoryBay) (status : ℕ) → IsLabelledAt old → (after : SinkState) (came : ℕ) → IsTaken stamp Create old next unused after came
      → CountsAs after.taken (line_of Create 2) came status → GoesOnOr status (IsCreatedAt next)
  create_called old next status (stands, empty) after came (inl taken) counts =
      ends_well after came status (sequence_line 2) (line_of Create 2) counts refl
      (creation_stands stamp total 415 old next stands empty taken.goes_on (timestamp_of stamp) (in_time stamp) (omega arith) after came
      taken.done)
  create_called old next status (stands, empty) after came (inr lacks) counts = lacks_on after came status (line_of Create 2) lacks counts

  pub create_on : (old next : MemoryBay) (status : ℕ) → IsLabelledAt old → IsTried stamp Create 2 old next status → GoesOnOr status (IsCreatedAt next)
  create_on old next status at tried = tried_on stamp Create 2 old next status tried (create_called old next status at)

  pub resync_on : (old next : MemoryBay) (status : ℕ) → IsCreatedAt old → IsTried stamp Resync 3 old next status → GoesOnOr status (IsResyncedAt next)
  resync_on old next status (stands, empty) tried = tried_on stamp Resync 3 old next status tried
      (λ after came taken counts. ends_well after came status (sequence_line 3) (line_of Resync 3) counts refl
      (resync_stores name total 830 none_out disks apart guid 2 (omega arith) old next stands empty taken.goes_on (timestamp_of stamp) (in_time stamp) (omega arith) after came taken.done))

  pub first_spare_on : (old next : MemoryBay) (status : ℕ) → IsResyncedAt old → IsTried stamp (Spare 3) 4 old next status → GoesOnOr status (HasSpareAt next)
  first_spare_on old next status stores tried = tried_on stamp (Spare 3) 4 old next status tried
      (λ after came taken counts. ends_well after came status (sequence_line 4) (line_of (Spare 3) 4) counts refl
      (first_spare_stores name total 13533 none_out disks apart guid 3 (omega arith) (replicate 8192 0) old next taken.goes_on stamp (timestamp_of stamp) (in_time stamp) (omega arith) after came stores
      taken.done))

  -- ---- with all its spares

  abbrev pub At : Turn → (asked sequence : ℕ) → (out : List Bool) → (bytes : List ℕ) → MemoryBay → Type 0
  At turn asked sequence out bytes bay = StoresAt name total asked out (whole name disks guid turn sequence) (seats_at disks turn) (view_at turn false) bytes bay

  pub second_spare_on : (old next : MemoryBay) (status : ℕ) → HasSpareAt old → IsTried stamp (Spare 4) 5 old next status → GoesOnOr status (At Opening 14363 5 none_out (replicate 8192 0) next)
  second_spare_on old next status stores tried = tried_on stamp (Spare 4) 5 old next status tried
      (λ after came taken counts. ends_well after came status (sequence_line 5) (line_of (Spare 4) 5) counts refl
      (second_spare_stores name total 13948 none_out disks apart guid 4 (omega arith) (replicate 8192 0) old next taken.goes_on stamp (timestamp_of stamp) (in_time stamp) (omega arith) after came stores
      taken.done))

  -- the sectors that a write asks for at most
  abbrev pub write_cost : Turn → ℕ
  write_cost turn = 166 * length (seats_at disks turn) + 32

  -- ---- a write

  module _ (turn : Turn) (asked sequence : ℕ) (out : List Bool) (bytes : List ℕ) (within : sequence + 2 ≤ greatest_sequence) (long : length bytes ≡ 8192) (enough : asked + write_cost turn ≤ total)
      (fill : Fill) (fits_in : fill.start + fill.count ≤ 8192) (some : 1 ≤ fill.count) (small : fill.count ≤ 16) where
    write_called : (old next : MemoryBay) (status : ℕ) → At turn asked sequence out bytes old → (after : SinkState) (came : ℕ) → IsTaken stamp (Write fill) old next unused after came → CountsAs after.taken (line_of (Write fill) (sequence + 2)) came status
        → GoesOnOr status (At turn (asked + 166 * length (seats_at disks turn) + 32) (sequence + 2) out (filled fill bytes) next)
    write_called old next status stores after came (inl taken) counts =
        ends_well after came status (sequence_line (sequence + 2)) (line_of (Write fill) (sequence + 2)) counts refl
        (write_stores name total asked out disks apart guid turn sequence within bytes old next stores taken.goes_on (timestamp_of stamp) (in_time stamp) fill.start fill.count fits_in small (omega (arith, enough)) long some fill.byte
        taken.left after came taken.done)
    write_called old next status stores after came (inr lacks) counts = lacks_on after came status (line_of (Write fill) (sequence + 2)) lacks counts

    pub write_on : (old next : MemoryBay) (status : ℕ) → At turn asked sequence out bytes old → IsTried stamp (Write fill) (sequence + 2) old next status
        → GoesOnOr status (At turn (asked + 166 * length (seats_at disks turn) + 32) (sequence + 2) out (filled fill bytes) next)
    write_on old next status stores tried = tried_on stamp (Write fill) (sequence + 2) old next status tried (write_called old next status stores)

  -- ---- a loss

  -- The slot of a lost disk was unplugged.
  pub record IsUnpluggedAt (loss : Loss) (asked sequence : ℕ) (out : List Bool) (bytes : List ℕ) (between : MemoryBay) : Type 0 where
    pub old : MemoryBay
    pub stores : At (turn_before loss) asked sequence out bytes old
    pub is : state_of between ≡ without (state_of old) (lost_slot loss)
    pub gone : (disks_of between).gone (lost_slot loss)

  pub unplug_on : (loss : Loss) (asked sequence : ℕ) (out : List Bool) (bytes : List ℕ) (old next : MemoryBay) (status : ℕ) → At (turn_before loss) asked sequence out bytes old
      → IsTried stamp (Unplug (lost_slot loss)) sequence old next status → GoesOnOr status (IsUnpluggedAt loss asked sequence out bytes next)
  unplug_on loss asked sequence out bytes old next status stores tried = tried_on stamp (Unplug (lost_slot loss)) sequence old next status tried
      (λ after came taken counts. unplugged_well after came status (line_of (Unplug (lost_slot loss)) sequence) taken.2 taken.3 counts refl
      (record { old = old; stores = stores; is = taken.0; gone = taken.1 }))

  spare_fits : (loss : Loss) → spare_disk disks loss < 2 ^ 32
  spare_fits OfSecond = let low = names_disk stamp 3 (omega arith) in omega (arith, low)
  spare_fits OfThird = let low = names_disk stamp 4 (omega arith) in omega (arith, low)

  pub rebuild_on : (loss : Loss) (asked sequence : ℕ) (out : List Bool) (bytes : List ℕ) → sequence + 4 ≤ greatest_sequence → asked + 249 * length (seats_at disks (turn_behind loss)) + 4096 ≤ total
      → (between next : MemoryBay) (status : ℕ) → IsUnpluggedAt loss asked sequence out bytes between → IsTried stamp Rebuild (sequence + 4) between next status
      → GoesOnOr status (At (turn_behind loss) (asked + 249 * length (seats_at disks (turn_behind loss)) + 4096) (sequence + 4) (slice_set out (lost_slot loss) true) bytes next)
  rebuild_on loss asked sequence out bytes within enough between next status at tried = tried_on stamp Rebuild (sequence + 4) between next status tried
      (λ after came taken counts. ends_well after came status (sequence_line (sequence + 4)) (line_of Rebuild (sequence + 4)) counts refl
      (let run : IsRebuilding name total asked out disks guid loss sequence (timestamp_of stamp) at.old between next =
      record { apart = apart; unspent = within; fits = spare_fits loss; stands = at.stores.stands; is = at.is; gone = at.gone; goes = taken.goes_on; time = in_time stamp; enough = enough } in
      rebuild_stores run bytes at.stores.holds after came taken.done))

  -- ---- the end

  module _ (turn : Turn) (asked sequence : ℕ) (out : List Bool) (bytes : List ℕ) (enough : asked ≤ total) where
    pub scrub_on : (old next : MemoryBay) (status : ℕ) → At turn asked sequence out bytes old → IsTried stamp Scrub sequence old next status → GoesOnOr status (At turn asked sequence out bytes next)
    scrub_on old next status stores tried = tried_on stamp Scrub sequence old next status tried
        (λ after came taken counts. ends_well after came status (codes "clean\n") (line_of Scrub sequence) counts refl
        (scrub_stores name total asked out disks apart guid turn sequence bytes enough old next stores (taken.stays refl) after came taken.done))

    -- All blocks are read, and they are as they should be.
    read_called : (old next : MemoryBay) (expected : List ℕ) (status : ℕ) → At turn asked sequence out bytes old → length bytes ≡ 8192 → flat_map (λ (byte : ℕ). replicate 512 byte) bytes ≡ expected
        → IsTriedRead stamp expected old next status → GoesOnOr status (At turn asked sequence out bytes next)
    read_called old next expected status stores long same (inl read) =
        ends_well read.after read.status status (flat_map (λ (byte : ℕ). replicate 512 byte) bytes) expected read.counts same
        (read_stores name total asked out disks apart guid turn sequence bytes enough old next stores (read.call.stays refl) read.after read.status long read.call.done)
    read_called old next expected status stores long same (inr lacks) = inl lacks.is_status

    pub read_on : (old next : MemoryBay) (expected : List ℕ) (status : ℕ) → At turn asked sequence out bytes old → length bytes ≡ 8192 → flat_map (λ (byte : ℕ). replicate 512 byte) bytes ≡ expected
        → IsTriedRead stamp expected old next status → GoesOnOr status (At turn asked sequence out bytes next)
    read_on old next expected status stores long same tried = read_called old next expected status stores long same tried
