-- Disks in memory of the sizes of an exercise's, of which no call is listed to fail, through calls and losses.
use Rattle.std.proofs.Common.{◌≡◌, ◌≢◌, ◌∙◌, ℕ, ◌<◌, false, List, [], length, None, sym, ap, subst, arith}
use Rattle.std.specs.Prelude.{slice_index, slice_index_or}
use Rattle.ddf_lemmas.proofs.Lists.{set_true_other}
use Rattle.ddf_bay.specs.Memory.{MayBecome, MemoryState, disks_of, state_of, without}
use Rattle.ddf_bay.specs.MemoryLaws.{becomes_start, told_earlier}
use Rattle.ddf_bay.specs.Moments.{GoesOn}
use Rattle.ddf_bay.specs.declared.memory.MemoryBay.{MemoryBay}
use Rattle.ddf_history_memory.specs.Histories.{GoesWell}
use Rattle.ddf_exercise_disks.specs.Well.{sizes_made}
use Rattle.ddf_exercise_disks.proofs.Healthy.{size_made}

pub record IsCalm (bay : MemoryBay) : Type 0 where
  pub none_listed : (state_of bay).failing ≡ []
  pub never_over : (state_of bay).stop_after ≡ None
  pub sizes_are : (disks_of bay).sizes ≡ sizes_made

module _ (old new : MemoryBay) (goes : GoesOn (disks_of old) (disks_of new)) where
  pub changes : MayBecome (state_of old) (state_of new)
  changes = goes new (becomes_start (state_of new))

  pub told_before : (disks_of new).tells_left → (disks_of old).tells_left
  told_before told = told_earlier old.clock new.clock (changes).later told

  pub calm_well : IsCalm old → GoesWell old new
  calm_well calm = record {
    none_listed = calm.none_listed;
    never_over = calm.never_over;
    sized = λ slot low none.
        let small : slot < 5 = subst (λ (sizes : List ℕ). slot < length sizes) calm.sizes_are low in
        let size = size_made slot small in
        let same = ap (λ (sizes : List ℕ). slice_index sizes slot) calm.sizes_are in
        omega (arith, size, same, none);
    goes_on = goes;
  }

  pub calm_then : IsCalm old → IsCalm new
  calm_then calm = record {
    none_listed = (changes).same_failing ∙ calm.none_listed;
    never_over = (changes).same_stop ∙ calm.never_over;
    sizes_are = (changes).same_sizes ∙ calm.sizes_are;
  }

module _ (old new : MemoryBay) (slot : ℕ) (is : state_of new ≡ without (state_of old) slot) where
  pub told_still : (disks_of new).tells_left → (disks_of old).tells_left
  told_still told = let same = ap (λ (state : MemoryState). state.clock) is in omega (arith, same, told)

  pub calm_without : IsCalm old → IsCalm new
  calm_without calm = record {
    none_listed = ap (λ (state : MemoryState). state.failing) is ∙ calm.none_listed;
    never_over = ap (λ (state : MemoryState). state.stop_after) is ∙ calm.never_over;
    sizes_are = ap (λ (state : MemoryState). state.sizes) is ∙ calm.sizes_are;
  }

  pub still_plugged : (kept : ℕ) → kept ≢ slot → ((disks_of old).gone kept → ⊥) → (disks_of new).gone kept → ⊥
  still_plugged kept apart plugged gone =
      plugged (set_true_other (state_of old).unplugged slot kept apart (ap (λ (state : MemoryState). slice_index_or state.unplugged kept false) (sym is) ∙ gone))
