-- The first copies of a new group, disk by disk.
use Rattle.std.proofs.Common.{◌≡◌, ℕ, zero, suc, List, [], ◌∷◌, ◌++◌, length, Result, Err, Some, length-append, refl, inl, inr, ⊎_elim, arith, ◌⊎◌}
use Rattle.std.proofs.lemmas.Bool.{cases_lt}
use Rattle.std.proofs.lemmas.Option.{slice_get_within}
use Rattle.std.specs.Prelude.{slice_get, slice_index, IfOk}
use Rattle.ddf_bytes.specs.declared.no_memory.NoMemory.{NoMemory}
use Rattle.ddf_bay.specs.State.{BayState}
use Rattle.ddf_copy.specs.declared.copy.DiskCopy.{DiskCopy}
use Rattle.ddf_copy.specs.declared.fault.AnchorFault.TheVariants.{Blank}
use Rattle.ddf_copy.specs.Anchor.{anchor_at}
use Rattle.ddf_copy.specs.declared.which.Which.TheVariants.{Secondary}
use Rattle.ddf_copy.specs.Headers.{IsUnder, anchor_header}
use Rattle.ddf_update.specs.declared.prepared.Mode.TheVariants.{Found}
use Rattle.ddf_update.specs.declared.prepared.Prepared.{Prepared}
use Rattle.ddf_update.specs.Group.{AreFirst, AreSlots, LieOnSlots, MayFoundAll, slot_sizes}
use Rattle.ddf_update.proofs.Lies.{lies_on}
use Rattle.ddf_update.specs.Prepared.{IsPrepared}

-- an item of a list that got one more
get_push : (updates : List Prepared) (update item : Prepared) (i : ℕ) → slice_get (updates ++ update ∷ []) i ≡ Some item → (slice_get updates i ≡ Some item) ⊎ ((i ≡ length updates) × (item ≡ update))
get_push [] update item zero is = inr (refl, cc)
get_push [] update item (suc i) is = cc
get_push (u ∷ us) update item zero is = inl is
get_push (u ∷ us) update item (suc i) is = ⊎_elim inl (λ last. inr (cc, last.1)) (get_push us update item i is)

pub none_first : (sizes : List ℕ) (copy : ℕ → DiskCopy) → AreFirst sizes copy []
none_first sizes copy = record { are_prepared = λ place update at. cc; are_under = λ place lt. absurd (omega (arith, lt)) }

pub first_more : (sizes : List ℕ) (copy : ℕ → DiskCopy) (updates : List Prepared) (place : ℕ) (update : Prepared) → AreFirst sizes copy updates → length updates ≡ place
    → IsUnder (slice_index sizes place) (anchor_header (copy place)) (copy place) → IsPrepared (copy place) Secondary Found update
    → AreFirst sizes copy (updates ++ update ∷ [])
first_more sizes copy updates here update so_far counted under prepared = record {
  are_prepared = λ place item at. ⊎_elim
      (λ earlier. so_far.are_prepared place item earlier)
      (λ last. rw (last.1, last.0, counted) prepared)
      (get_push updates update item place at);
  are_under = λ place lt. ⊎_elim
      (λ earlier. so_far.are_under place earlier)
      (λ from. let e : place ≡ here = omega (arith, lt, from, length-append updates (update ∷ []), counted) in rw e under)
      (cases_lt place (length updates));
}

-- ---- a copy that is another's equal

pub written_by : {made copy : DiskCopy} (result : Result Prepared NoMemory) → made ≡ copy → IfOk result (IsPrepared made Secondary Found) → IfOk result (IsPrepared copy Secondary Found)
written_by result same is = rw (← same) is

pub under_as : {made copy : DiskCopy} (size : ℕ) → made ≡ copy → IsUnder size (anchor_header made) made → IsUnder size (anchor_header copy) copy
under_as size same is = rw (← same) is

-- ---- the first copies on their slots

size_of_slot : (sizes slots : List ℕ) (place slot : ℕ) → slice_get slots place ≡ Some slot → slice_index (slot_sizes sizes slots) place ≡ slice_index sizes slot
size_of_slot sizes [] place slot at = cc
size_of_slot sizes (s ∷ ss) zero slot at = cc
size_of_slot sizes (s ∷ ss) (suc place) slot at = size_of_slot sizes ss place slot at

module _ (sizes slots : List ℕ) (copy : ℕ → DiskCopy) (updates : List Prepared) (first : AreFirst (slot_sizes sizes slots) copy updates) (counted : length updates ≡ length slots) where
  under_on_slot : (place slot : ℕ) → slice_get slots place ≡ Some slot → IsUnder (slice_index sizes slot) (anchor_header (copy place)) (copy place)
  under_on_slot place slot at = rw (size_of_slot sizes slots place slot at) at (first.are_under place (omega (arith, counted, slice_get_within slots place slot at)))

  pub lie_on_slots : AreSlots sizes slots → LieOnSlots sizes slots updates
  lie_on_slots are = record {
    are_slots = are;
    counted = counted;
    lie_on = λ place slot update here there. lies_on (slice_index sizes slot) (anchor_header (copy place)) (copy place) Secondary Found update (under_on_slot place slot here) (first.are_prepared place update there);
  }

  pub may_found_all : {D : Type 0} (disks : BayState D) → disks.sizes ≡ sizes → ((place slot : ℕ) → slice_get slots place ≡ Some slot → anchor_at (slice_index sizes slot) (disks.held slot) ≡ Err Blank) → MayFoundAll disks slots copy updates
  may_found_all disks same_sizes blank = record { are_blank = rw same_sizes blank; are_under = rw same_sizes under_on_slot; are_prepared = first.are_prepared }
