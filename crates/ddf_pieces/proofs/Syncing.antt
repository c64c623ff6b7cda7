-- Blocks that are written piece by piece, once each slot that was written to is synced.
use Rattle.std.proofs.Common.{◌≡◌, ◌∙◌, inl, inr, ⊎_elim, ℕ, ◌<◌, Bool, true, false, List, Result, Ok, Err, length, sym, ap, subst, refl, arith, replicate}
use Rattle.std.specs.Prelude.{slice_index_or}
use Rattle.std.proofs.lemmas.List.{drop_all}
use Rattle.ddf_bytes.specs.Counts.{Rose}
use Rattle.ddf_bytes.specs.Streams.{SourceState}
use Rattle.ddf_bay.specs.Moments.{IsSettled, Keeps, SpendsOver, StopsLeave}
use Rattle.ddf_bay.specs.Sectors.{Image, IsLeft}
use Rattle.ddf_bay.specs.State.{BayState}
use Rattle.ddf_bay.proofs.Steps.{rose_since, stops_then}
use Rattle.ddf_array.specs.Volume.{Fits, IsVolume, Volume}
use Rattle.ddf_read.specs.declared.fault.VolumeFault.{VolumeFault}
use Rattle.ddf_read.specs.declared.fault.VolumeFault.TheVariants.{Range, Lost, Unsure, Degraded, Disk}
use Rattle.ddf_cells.specs.Touching.{GoesBetween, IsTouchedSlot}
use Rattle.ddf_cells.proofs.WriteSteps.{none_touched}
use Rattle.ddf_write.specs.Keeping.{AreTheirValues, Keeping}
use Rattle.ddf_write.specs.Writing.{HasWritten, IsAmongWrites, IsLeftByWrite, IsWritten, MayGive}
use Rattle.ddf_write.specs.WriteRefused.{IsStopped}
use Rattle.ddf_write.proofs.WriteEnds.{written_there}
use Rattle.ddf_pieces.specs.declared.fault.PieceFault.{PieceFault}
use Rattle.ddf_pieces.specs.declared.fault.PieceFault.TheVariants as faults
use Rattle.ddf_pieces.specs.Writing.{AreGivenBlocks, ArePiecesPut, ArePiecesWritten, ArePut, AreWritten, LeaveWrites, is_stopped}

-- what calls may give a sector is on a slot that is written to
given_written : (v : Volume) (start : ℕ) (sectors : List (List ℕ)) (s l : ℕ) (bytes : List ℕ) → MayGive v start sectors s l bytes → IsWritten v start (length sectors) s
given_written v start sectors s l bytes (inl cell) = (l, inl cell.0)
given_written v start sectors s l bytes (inr parity) = (l, inr parity)

differ : {b : Bool} → b ≡ false → b ≡ true → ⊥
differ is on = cc

module _ {D : Type 0} (tells : Type 0) (old mid new : BayState D) (v : Volume) (known : IsVolume v) (fits : Fits old.sizes v) (noted : List Bool) (goes : GoesBetween old mid)
    (same : new.held ≡ mid.held) (keeps : Keeps mid.may_hold new.may_hold) (moments : StopsLeave mid new (IsLeft mid.may_hold)) (spends : SpendsOver mid new 0 (length mid.sizes)) where
  pub goes_surely : GoesBetween old new
  goes_surely = record {
    goes_on = λ bay leads. goes.goes_on bay (spends.goes_on bay leads);
    same_sizes = spends.same_sizes ∙ goes.same_sizes;
    reads_rise = λ s. omega (arith, goes.reads_rise s, spends.reads_rise s);
    writes_rise = λ s. omega (arith, goes.writes_rise s, spends.writes_rise s);
  }

  module _ (start : ℕ) (sectors : List (List ℕ)) (leave : LeaveWrites tells old mid v start sectors) where
    -- what the syncs leave
    pub leave_surely : LeaveWrites tells old new v start sectors
    leave_surely = record {
      any_moment = stops_then {P = IsAmongWrites v start sectors old.may_hold} {Q = IsLeft mid.may_hold} leave.any_moment moments (λ image left s l. leave.left s l (image s l) (left s l));
      held = λ tell. subst (λ (f : Image). IsLeftByWrite v start sectors old.held f) (sym same) (leave.held tell);
      left = λ s l bytes left. leave.left s l bytes (keeps s l bytes left);
      asked = omega (arith, leave.asked, spends.costs.asked);
      written = omega (arith, leave.written, spends.costs.written);
    }

    module _ (kept : Keeping) (put : ArePut tells old mid v start sectors kept (replicate 64 false) noted) where
      noted_written : (slot : ℕ) → IsTouchedSlot noted slot → IsWritten v start (length sectors) slot
      noted_written slot is = ⊎_elim (λ before. absurd (none_touched 64 slot before)) (λ written. written) (put.notes.only slot is)

      -- a sync of one of them failed
      pub stopped_surely : (slot : ℕ) → IsTouchedSlot noted slot → Rose (mid.failed_writes slot) (new.failed_writes slot) → IsStopped old new v start (length sectors) slot
      stopped_surely slot is rose = (noted_written slot is, rose_since (old.failed_writes slot) (mid.failed_writes slot) (new.failed_writes slot) (goes.writes_rise slot) rose)

      module _ (synced : (slot : ℕ) → slot < length mid.sizes → IsTouchedSlot noted slot → IsSettled new.may_hold new.held slot) (unfailed : new.failed_writes ≡ mid.failed_writes) where
        synced_written : (slot : ℕ) → IsWritten v start (length sectors) slot → IsTouchedSlot noted slot → IsSettled new.may_hold new.held slot
        synced_written slot written is =
            let there = written_there v known start sectors old.sizes fits slot written in
            synced slot (subst (λ (sizes : List ℕ). slot < length sizes) (sym goes.same_sizes) there) is

        -- a slot that wasn't written to is as before
        untouched : tells → (slot : ℕ) → slice_index_or noted slot false ≡ false → IsSettled old.may_hold old.held slot → IsSettled new.may_hold new.held slot
        untouched tell slot is settled l bytes left =
            let never : (b : List ℕ) → MayGive v start sectors slot l b → ⊥ = λ b given. differ is (put.are_noted tell slot (given_written v start sectors slot l b given)) in
            let was : old.may_hold slot l bytes = ⊎_elim (λ before. before) (λ given. absurd (never bytes given)) (leave.left slot l bytes (keeps slot l bytes left)) in
            let held : mid.held slot l ≡ old.held slot l = ⊎_elim (λ before. before) (λ given. absurd (never (mid.held slot l) given)) (leave.held tell slot l) in
            settled l bytes was ∙ sym (ap (λ (f : Image). f slot l) same ∙ held)

        settled_by : tells → (slot : ℕ) → (b : Bool) → slice_index_or noted slot false ≡ b → IsSettled old.may_hold old.held slot → IsSettled new.may_hold new.held slot
        settled_by tell slot false is settled = untouched tell slot is settled
        settled_by tell slot true is settled = synced_written slot (noted_written slot is) is

        pub written_surely : AreWritten tells old new v start sectors kept
        written_surely = record {
          written = λ tell. subst (λ (f : Image). HasWritten v start sectors (AreTheirValues v old.held kept) f) (sym same) (put.written tell);
          durable = λ tell slot written. synced_written slot written (put.are_noted tell slot written);
          settled = λ tell slot settled. settled_by tell slot (slice_index_or noted slot false) refl settled;
          unfailed = unfailed ∙ put.unfailed;
        }

  -- ---- by the answer

  module _ (start count each ahead : ℕ) (kept : Keeping) (source_tells : Type 0) (before after : SourceState) (first : List ℕ) where
    abbrev Put : List (List ℕ) → Type 0
    Put sectors = ArePut tells old mid v start sectors kept (replicate 64 false) noted

    abbrev Written : List (List ℕ) → Type 0
    Written sectors = AreWritten tells old new v start sectors kept

    given_surely : (sectors : List (List ℕ)) (left : List ℕ) → AreGivenBlocks tells old mid v start count each ahead 0 Put source_tells before after first sectors left
        → AreGivenBlocks tells old new v start count each ahead (length old.sizes) Written source_tells before after first sectors left
    given_surely sectors left are =
        let slots : length mid.sizes ≡ length old.sizes = ap length goes.same_sizes in
        record {
          accepted = are.accepted;
          whole = are.whole;
          come = are.come;
          leave = leave_surely start sectors are.leave;
          calls = λ none. let grew = are.calls none in record { pieces = grew.pieces; few = grew.few; grew = omega (arith, grew.grew, spends.costs.calls_most, slots) };
        }

    pub ended_surely : (synced : (slot : ℕ) → slot < length mid.sizes → IsTouchedSlot noted slot → IsSettled new.may_hold new.held slot) → new.failed_writes ≡ mid.failed_writes
        → (ended : Result ℕ PieceFault) → is_stopped ended ≡ false → ArePiecesPut tells old mid v start count each ahead kept (replicate 64 false) noted source_tells before after first ended
        → ArePiecesWritten tells old new v start count each ahead kept source_tells before after first ended
    ended_surely synced unfailed (Ok blocks) not put = record {
      sectors = put.sectors;
      many = put.many;
      left = put.left;
      are = given_surely put.sectors put.left put.are;
      is_written = written_surely start put.sectors put.are.leave kept put.is_written synced unfailed;
      same_faults = put.same_faults;
      ends = put.ends;
    }
    ended_surely synced unfailed (Err (faults.Volume fault)) not put = absurd (cc)
    ended_surely synced unfailed (Err faults.Source) not put = record {
      sectors = put.sectors;
      more = put.more;
      left = put.left;
      are = given_surely put.sectors put.left put.are;
      is_written = written_surely start put.sectors put.are.leave kept put.is_written synced unfailed;
      rose = put.rose;
      came = put.came;
    }
    ended_surely synced unfailed (Err (faults.Sink fault)) not put = absurd put

    pub sync_failed : (slot : ℕ) → IsTouchedSlot noted slot → Rose (mid.failed_writes slot) (new.failed_writes slot)
        → (ended : Result ℕ PieceFault) → is_stopped ended ≡ false → ArePiecesPut tells old mid v start count each ahead kept (replicate 64 false) noted source_tells before after first ended
        → ArePiecesWritten tells old new v start count each ahead kept source_tells before after first (Err (faults.Volume (Disk slot)))
    sync_failed slot is rose (Ok blocks) not put = record {
      sectors = put.sectors;
      left = put.left;
      are = given_surely put.sectors put.left put.are;
      stopped = stopped_surely start put.sectors put.are.leave kept put.is_written slot is rose;
      rest = ⊎_elim
          (λ all. inl (put.same_faults, all.1))
          (λ cut. inr (omega (arith, cut.1, put.many), λ told. let short = cut.2 told in record { count = length put.left; enough = omega arith; others = short.1 ∙ sym (drop_all (length put.left) put.left (omega arith)) }))
          put.ends;
    }
    sync_failed slot is rose (Err (faults.Volume fault)) not put = absurd (cc)
    sync_failed slot is rose (Err faults.Source) not put = record {
      sectors = put.sectors;
      left = put.left;
      are = given_surely put.sectors put.left put.are;
      stopped = stopped_surely start put.sectors put.are.leave kept put.is_written slot is rose;
      rest = inr (put.more, put.came);
    }
    sync_failed slot is rose (Err (faults.Sink fault)) not put = absurd put

-- ---- the disks ended it before

module _ {D : Type 0} (tells : Type 0) (old new : BayState D) (v : Volume) (start count each ahead : ℕ) (kept : Keeping) (noted_before noted : List Bool) (source_tells : Type 0) (before after : SourceState) (first : List ℕ) where
  abbrev WasPut : Result ℕ PieceFault → Type 0
  WasPut = ArePiecesPut tells old new v start count each ahead kept noted_before noted source_tells before after first

  abbrev IsWrittenSo : Result ℕ PieceFault → Type 0
  IsWrittenSo = ArePiecesWritten tells old new v start count each ahead kept source_tells before after first

  stopped_by : (fault : VolumeFault) → WasPut (Err (faults.Volume fault)) → IsWrittenSo (Err (faults.Volume fault))
  stopped_by (Range most) put = record { refused = put.refused; reads_only = put.reads_only; none_called = put.none_called; same = put.same }
  stopped_by Lost put = record { refused = put.refused; reads_only = put.reads_only; none_called = put.none_called; same = put.same }
  stopped_by Unsure put = absurd put
  stopped_by Degraded put = record { refused = put.refused; reads_only = put.reads_only; none_called = put.none_called; same = put.same }
  stopped_by (Disk slot) put = record {
    sectors = put.sectors;
    left = put.left;
    are = record {
      accepted = put.are.accepted;
      whole = put.are.whole;
      come = put.are.come;
      leave = put.are.leave;
      calls = λ none. let grew = put.are.calls none in record { pieces = grew.pieces; few = grew.few; grew = omega (arith, grew.grew) };
    };
    stopped = put.stopped;
    rest = put.rest;
  }

  pub stopped_before : (ended : Result ℕ PieceFault) → is_stopped ended ≡ true → WasPut ended → IsWrittenSo ended
  stopped_before (Ok blocks) is put = absurd (cc)
  stopped_before (Err (faults.Volume fault)) is put = stopped_by fault put
  stopped_before (Err faults.Source) is put = absurd (cc)
  stopped_before (Err (faults.Sink fault)) is put = absurd (cc)
