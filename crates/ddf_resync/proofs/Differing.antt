-- A resync behind a scrub.
use Rattle.std.proofs.Common.{◌≡◌, ◌∙◌, inl, inr, ⊎_elim, ℕ, true, false, List, None, sym, ap, subst, arith, map}
use Rattle.ddf_bay.specs.Moments.{IsSettled, StopsLeave}
use Rattle.ddf_bay.specs.Sectors.{Image, IsLeft}
use Rattle.ddf_bay.specs.State.{BayState}
use Rattle.ddf_bay.proofs.Steps.{rose_since, rose_then, stops_then, stops_weaken}
use Rattle.ddf_array.specs.Sources.{copies, copy}
use Rattle.ddf_array.specs.Values.{bytes_at}
use Rattle.ddf_array.specs.Volume.{IsVolume, Volume}
use Rattle.ddf_array.specs.Within.{is_within}
use Rattle.ddf_read.specs.declared.fault.VolumeFault.{VolumeFault}
use Rattle.ddf_read.specs.declared.fault.VolumeFault.TheVariants.{Range, Degraded, Lost, Unsure, Disk}
use Rattle.ddf_read.specs.Reading.{Failed, OnlyReads}
use Rattle.ddf_read.proofs.Tries.{IsGivenBy-wider}
use Rattle.ddf_cells.specs.Touching.{GoesBetween}
use Rattle.ddf_resync.specs.Compared.{FailedOn, HasDiffered}
use Rattle.ddf_resync.specs.Resyncing.{AddsResynced, HasResynced, IsAmongResynced, IsLeftByResync, IsResyncFault, IsStopped, MayResync, resync_refusal}
use Rattle.ddf_resync.specs.Scrubbing.{AgreesEverywhere, IsScrubFault}
use Rattle.ddf_resync.proofs.Copied.{first_by}
use Rattle.ddf_resync.proofs.Found.{all_redundant, same_first}
use Rattle.ddf_resync.proofs.Unread.{unread_wider}

-- why a scrub of an array that is within its level ends early
pub scrub_failed : {D : Type 0} (v : Volume) (a b : BayState D) (fault : VolumeFault) → is_within v ≡ true → IsScrubFault a b v fault → (slot : ℕ) × FailedOn v a b slot
scrub_failed v a b (Range most) within is = absurd is
scrub_failed v a b Degraded within is = absurd is
scrub_failed v a b Lost within is = absurd (differ (sym within ∙ is))
  where
    differ : true ≡ false → ⊥
    differ e = cc
scrub_failed v a b Unsure within is = absurd is
scrub_failed v a b (Disk slot) within is = (slot, is.1)

-- of such an array it says that nothing differs, or it differed
pub not_clean : {D : Type 0} (v : Volume) (a b : BayState D) (fault : VolumeFault) → is_within v ≡ true → IsScrubFault a b v fault → HasDiffered v a.held a b
not_clean v a b fault within is redundant = scrub_failed v a b fault within is

-- where all agrees the array is resynced as it is
pub clean_resynced : (v : Volume) → IsVolume v → (image : Image) → AgreesEverywhere v image → (failed : ℕ → Type 0) → HasResynced failed v image image
clean_resynced v known image all failed = record {
  redundant = λ are. all_redundant v known image all are;
  given = λ block i one at. first_by failed image (copies v block) i one (bytes_at image one) at (λ first is_first. same_first v known image all block i one first at is_first);
}

-- ---- what calls leave behind reads

module _ (v : Volume) (tells : Type 0) {D : Type 0} {a b : BayState D} (reads : OnlyReads a b) where
  may_still : (s l : ℕ) (bytes : List ℕ) → MayResync v tells b.held s l bytes → MayResync v tells a.held s l bytes
  may_still s l bytes may = subst (λ (f : Image). MayResync v tells f s l bytes) reads.reads.same_held may

  -- reads alone
  pub moments_read : StopsLeave a b (IsAmongResynced v tells a.held a.may_hold)
  moments_read = stops_weaken {Q = IsLeft a.may_hold} reads.reads.any_moment (λ image left s l. inl (left s l))

  pub left_read : AddsResynced v tells a.held a.may_hold b.may_hold
  left_read s l bytes left = inl (reads.reads.keeps s l bytes left)

  pub held_read : IsLeftByResync v tells a.held b.held
  held_read s l = inl (ap (λ (f : Image). f s l) reads.reads.same_held)

  pub settled_read : (slot : ℕ) → IsSettled a.may_hold a.held slot → IsSettled b.may_hold b.held slot
  settled_read slot settled l bytes left = settled l bytes (reads.reads.keeps slot l bytes left) ∙ sym (ap (λ (f : Image). f slot l) reads.reads.same_held)

  pub goes_read : GoesBetween a b
  goes_read = record {
    goes_on = reads.reads.goes_on;
    same_sizes = reads.reads.same_sizes;
    reads_rise = reads.never_falls;
    writes_rise = λ s. let same = ap (λ (f : ℕ → ℕ). f s) reads.same_writes in omega (arith, same);
  }

  -- and calls behind them
  module _ (c : BayState D) where
    pub moments_behind : StopsLeave b c (IsAmongResynced v tells b.held b.may_hold) → StopsLeave a c (IsAmongResynced v tells a.held a.may_hold)
    moments_behind next = stops_then {Q = IsAmongResynced v tells b.held b.may_hold} moments_read next
        (λ image among s l. ⊎_elim (λ may. inl (reads.reads.keeps s l (image s l) may)) (λ given. inr (may_still s l (image s l) given)) (among s l))

    pub left_behind : AddsResynced v tells b.held b.may_hold c.may_hold → AddsResynced v tells a.held a.may_hold c.may_hold
    left_behind next s l bytes left = ⊎_elim (λ was. inl (reads.reads.keeps s l bytes was)) (λ given. inr (may_still s l bytes given)) (next s l bytes left)

    pub held_behind : IsLeftByResync v tells b.held c.held → IsLeftByResync v tells a.held c.held
    held_behind next = subst (λ (f : Image). IsLeftByResync v tells f c.held) reads.reads.same_held next

    failed_since : (slot : ℕ) → Failed b c slot → Failed a c slot
    failed_since slot rose = rose_since (a.failed_reads slot) (b.failed_reads slot) (c.failed_reads slot) (reads.never_falls slot) rose

    pub resynced_behind : HasResynced (Failed b c) v b.held c.held → HasResynced (Failed a c) v a.held c.held
    resynced_behind is = subst (λ (f : Image). HasResynced (Failed a c) v f c.held) reads.reads.same_held (record {
      redundant = is.redundant;
      given = λ block i one at. IsGivenBy-wider failed_since b.held (map copy (copies v block)) (bytes_at c.held one) (is.given block i one at);
    })

    stopped_since : (slot : ℕ) → IsStopped b c v slot → IsStopped a c v slot
    stopped_since slot is = ⊎_elim
        (λ wrote. inl (wrote.0, rose_since (a.failed_writes slot) (b.failed_writes slot) (c.failed_writes slot) (goes_read.writes_rise slot) wrote.1))
        (λ none. inr (unread_wider failed_since v slot none)) is

    -- of an array that isn't refused
    pub fault_behind : resync_refusal v ≡ None → (fault : VolumeFault) → IsResyncFault b c v fault → IsResyncFault a c v fault
    fault_behind accepted (Range most) is = absurd is
    fault_behind accepted Degraded is = absurd is
    fault_behind accepted Lost is = let none = sym accepted ∙ is.0 in absurd cc
    fault_behind accepted Unsure is = let none = sym accepted ∙ is.0 in absurd cc
    fault_behind accepted (Disk slot) is = (accepted, stopped_since slot is.1)

    pub goes_behind : GoesBetween b c → GoesBetween a c
    goes_behind next = record {
      goes_on = λ bay leads. reads.reads.goes_on bay (next.goes_on bay leads);
      same_sizes = next.same_sizes ∙ reads.reads.same_sizes;
      reads_rise = λ s. omega (arith, reads.never_falls s, next.reads_rise s);
      writes_rise = λ s. omega (arith, goes_read.writes_rise s, next.writes_rise s);
    }

    -- what differed for the reads differed for all these calls
    pub differed_behind : GoesBetween b c → HasDiffered v a.held a b → HasDiffered v a.held a c
    differed_behind next differed redundant =
        let failed = differed redundant in (
          failed.0,
          (failed.1.0, rose_then (a.failed_reads failed.0) (b.failed_reads failed.0) (c.failed_reads failed.0) (reads.never_falls failed.0) failed.1.1 (next.reads_rise failed.0)),
        )
