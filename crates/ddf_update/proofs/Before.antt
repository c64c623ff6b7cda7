-- The sectors before both places of a copy aren't written.
use Rattle.std.proofs.Common.{◌≡◌, ◌⊎◌, ℕ, ◌-◌, ◌≤◌, List, [], ◌∷◌, inl, inr, arith}
use Rattle.ddf_copy.specs.declared.copy.DiskCopy.{DiskCopy}
use Rattle.ddf_copy.specs.declared.run.Run.{Run}
use Rattle.ddf_copy.specs.declared.which.Which.TheVariants.{Primary, Secondary}
use Rattle.ddf_copy.specs.Headers.{IsUnder, anchor_header}
use Rattle.ddf_copy.specs.Runs.{IsInCopy, RunsCover}
use Rattle.ddf_copy.proofs.Stands.{place_within}
use Rattle.ddf_update.specs.declared.prepared.Prepared.{Prepared}
use Rattle.ddf_update.specs.declared.prepared.Mode.TheVariants.{Found}
use Rattle.ddf_update.specs.Group.{IsBefore}
use Rattle.ddf_update.specs.Prepared.{IsPrepared}
use Rattle.ddf_update.specs.Update.{IsInEither}

pub runs_behind : (lba : ℕ) (runs : List Run) (l : ℕ) → RunsCover lba runs l → lba ≤ l
runs_behind lba [] l there = absurd there
runs_behind lba (run ∷ runs) l (inl there) = omega (arith, there.0)
runs_behind lba (run ∷ runs) l (inr there) = runs_behind lba runs l there

pub copy_behind : (lba : ℕ) (runs : List Run) (l : ℕ) → IsInCopy lba runs l → lba ≤ l
copy_behind lba runs l (inl here) = omega (arith, here)
copy_behind lba runs l (inr there) = runs_behind lba runs l there

module _ (size : ℕ) (copy : DiskCopy) (update : Prepared) (is : IsPrepared copy Secondary Found update) (under : IsUnder size (anchor_header copy) copy) where
  pub not_written : (l : ℕ) → IsBefore copy l → IsInEither update l ⊎ (l ≡ size - 1) → ⊥
  not_written l front (inl (inl first)) = absurd (omega (arith, front.0, is.first_is.lba_is, copy_behind update.first.lba update.runs l first))
  not_written l front (inl (inr second)) = absurd (omega (arith, front.1, is.second_is.lba_is, copy_behind update.second.lba update.runs l second))
  not_written l front (inr last) = absurd (omega (arith, front.0, last, place_within size (anchor_header copy) copy Primary under))
