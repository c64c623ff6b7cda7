-- Disks in memory once a slot of theirs was unplugged.
use Rattle.std.proofs.Common.{◌≡◌, ◌≢◌, ◌∙◌, ℕ, zero, suc, ◌+◌, ◌<◌, Bool, true, false, List, [], ◌∷◌, length, refl, sym, ap, subst, ⊎_elim, arith, length-set}
use Rattle.std.specs.Prelude.{slice_index, slice_index_or, slice_set}
use Rattle.std.proofs.lemmas.Bool.{cases_eq, true≢false}
use Rattle.ddf_bay.specs.Logged.{held_of}
use Rattle.ddf_bay.specs.Memory.{MemoryState, disks_of, state_of, without}
use Rattle.ddf_bay.specs.declared.memory.MemoryBay.{MemoryBay}
use Rattle.ddf_exercise_disks.specs.Well.{IsWell}

-- another bit is as it was
pub bit_beside : (bits : List Bool) (slot k : ℕ) → k ≢ slot → slice_index_or (slice_set bits slot true) k false ≡ slice_index_or bits k false
bit_beside [] slot k other = refl
bit_beside (one ∷ bits) zero zero other = absurd (other refl)
bit_beside (one ∷ bits) zero (suc k) other = refl
bit_beside (one ∷ bits) (suc slot) zero other = refl
bit_beside (one ∷ bits) (suc slot) (suc k) other = bit_beside bits slot k (λ same. other (ap suc same))

pub bit_set : (bits : List Bool) (slot : ℕ) → slot < length bits → slice_index_or (slice_set bits slot true) slot false ≡ true
bit_set [] slot low = absurd (omega (arith, low))
bit_set (one ∷ bits) zero low = refl
bit_set (one ∷ bits) (suc slot) low = bit_set bits slot (omega (arith, low))

module _ (total : ℕ) (out : List Bool) (slot : ℕ) (low : slot < 5) (old between : MemoryBay) (is : state_of between ≡ without (state_of old) slot) (gone : (disks_of between).gone slot)
    (well : IsWell total out old) where
  pub same_sizes : (disks_of between).sizes ≡ (disks_of old).sizes
  same_sizes = ap (λ (state : MemoryState). state.sizes) is

  pub same_held : (disks_of between).held ≡ (disks_of old).held
  same_held = ap (λ (state : MemoryState). held_of state.logged) is

  pub same_asked : (state_of between).asked ≡ (state_of old).asked
  same_asked = ap (λ (state : MemoryState). state.asked) is

  own_bit : slice_index_or (slice_set out slot true) slot false ≡ true
  own_bit = bit_set out slot (let five = well.five in omega (arith, five, low))

  bit_at : (k : ℕ) → k < 5 → slice_index_or (state_of between).unplugged k false ≡ slice_index_or (slice_set out slot true) k false
  bit_at k below = ⊎_elim
      (λ same. subst (λ (n : ℕ). slice_index_or (state_of between).unplugged n false ≡ slice_index_or (slice_set out slot true) n false) (sym same) (gone ∙ sym own_bit))
      (λ other. ap (λ (state : MemoryState). slice_index_or state.unplugged k false) is ∙ bit_beside (state_of old).unplugged slot k other ∙ well.plugged k below ∙ sym (bit_beside out slot k other))
      (cases_eq k slot)

  was_here : (k : ℕ) → slice_index_or (slice_set out slot true) k false ≡ false → slice_index_or out k false ≡ false
  was_here k here = ⊎_elim
      (λ same. absurd (true≢false (sym own_bit ∙ ap (λ (n : ℕ). slice_index_or (slice_set out slot true) n false) (sym same) ∙ here)))
      (λ other. sym (bit_beside out slot k other) ∙ here)
      (cases_eq k slot)

  -- They are well without it.
  pub unplugged_well : IsWell total (slice_set out slot true) between
  unplugged_well = record {
    none_listed = ap (λ (state : MemoryState). state.failing) is ∙ well.none_listed;
    never_over = ap (λ (state : MemoryState). state.stop_after) is ∙ well.never_over;
    sizes_are = same_sizes ∙ well.sizes_are;
    five = length-set out slot true ∙ well.five;
    plugged = bit_at;
    no_reads = λ k below here. ap (λ (state : MemoryState). slice_index state.failed_reads k) is ∙ well.no_reads k below (was_here k here);
    no_writes = λ k below here. ap (λ (state : MemoryState). slice_index state.failed_writes k) is ∙ well.no_writes k below (was_here k here);
    room_is = ap (λ (state : MemoryState). state.room + state.written) is ∙ well.room_is;
  }
