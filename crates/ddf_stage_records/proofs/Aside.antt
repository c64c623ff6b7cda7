-- What is written of a copy lies aside of the desk of its disk.
use Rattle.std.proofs.Common.{◌≡◌, ◌⊎◌, inl, inr, ⊎_elim, ℕ, ◌+◌, ◌-◌, ◌<◌, ◌≤◌, Bool, true, false, not, ◌&&◌, List, Option, Some, None, refl, sym, subst, arith}
use Rattle.std.specs.Prelude.{nat_le, if◌then◌else◌}
use Rattle.std.specs.List.{list_any}
use Rattle.std.proofs.lemmas.Bool.{cases_lt, leb-true, or_parts}
use Rattle.ddf_header.specs.declared.geometry.Geometry.{Geometry}
use Rattle.ddf_copy.specs.declared.copy.DiskCopy.{DiskCopy}
use Rattle.ddf_copy.specs.declared.run.Run.{Run}
use Rattle.ddf_copy.specs.declared.which.Which.{Which}
use Rattle.ddf_copy.specs.declared.which.Which.TheVariants.{Primary, Secondary}
use Rattle.ddf_copy.specs.Room.{has_sector_of, meets_copy, share}
use Rattle.ddf_copy.specs.Runs.{IsInCopy}
use Rattle.ddf_copy.specs.Which.{other_of, place_of}
use Rattle.ddf_copy.specs.Written.{CanBeCopy}
use Rattle.ddf_copy.proofs.Laid.{AreLaid, runs_laid, unmet_run, unshared}
use Rattle.ddf_update.specs.declared.prepared.Mode.{Mode}
use Rattle.ddf_update.specs.declared.prepared.Prepared.{Prepared}
use Rattle.ddf_update.specs.Prepared.{IsPrepared, written_first}
use Rattle.ddf_update.specs.Update.{IsWritten}
use Rattle.ddf_stage_records.specs.Desk.{gate_of}

-- ---- runs of sectors that share none

-- a run of sectors that meets no part of a copy has none of its sectors
unmet : (geometry : Geometry) (runs : List Run) → AreLaid geometry runs → (lba at many l : ℕ) → meets_copy lba geometry.sections at many ≡ false → at ≤ l → l < at + many → IsInCopy lba runs l → ⊥
unmet geometry runs laid lba at many l none from below in_copy =
    let parts = or_parts (share at many lba 1) (list_any (has_sector_of lba at many) geometry.sections) none in
    ⊎_elim
    (λ (here : l ≡ lba). unshared at many lba 1 l parts.0 from below (omega (arith, here)) (omega (arith, here)))
    (λ in_runs. unmet_run geometry laid.are_eight lba at many l 0 runs laid.are_within parts.1 from below in_runs)
    in_copy

-- ---- the desk

-- what a desk has: it is the workspace's first sectors, below the last sector, and meets neither copy
pub record IsDesk (size : ℕ) (copy : DiskCopy) (lba : ℕ) : Type 0 where
  pub is_workspace : lba ≡ copy.header.geometry.workspace_lba
  pub below_last : lba + 18 ≤ size - 1
  pub unmet : (which : Which) → meets_copy (place_of which copy.header) copy.header.geometry.sections copy.header.geometry.workspace_lba 18 ≡ false

desk_by : (size : ℕ) (copy : DiskCopy) (lba : ℕ) (a b c d : Bool) → nat_le 18 copy.header.geometry.workspace_length ≡ a → nat_le (copy.header.geometry.workspace_lba + 18) (size - 1) ≡ b
    → meets_copy copy.header.primary_lba copy.header.geometry.sections copy.header.geometry.workspace_lba 18 ≡ c → meets_copy copy.header.secondary_lba copy.header.geometry.sections copy.header.geometry.workspace_lba 18 ≡ d
    → ◌≡◌ {A = Option ℕ} (if a && b && not c && not d then Some copy.header.geometry.workspace_lba else None) (Some lba) → IsDesk size copy lba
desk_by size copy lba true true false false is is' none none' e =
    let same : copy.header.geometry.workspace_lba ≡ lba = cc in
    let below = leb-true (copy.header.geometry.workspace_lba + 18) (size - 1) is' in
    record { is_workspace = sym same; below_last = omega (arith, below, same); unmet = λ which. by which }
  where
    by : (which : Which) → meets_copy (place_of which copy.header) copy.header.geometry.sections copy.header.geometry.workspace_lba 18 ≡ false
    by Primary = none
    by Secondary = none'
desk_by size copy lba true true false true is is' none none' e = absurd cc
desk_by size copy lba true true true d is is' none none' e = absurd cc
desk_by size copy lba true false c d is is' none none' e = absurd cc
desk_by size copy lba false b c d is is' none none' e = absurd cc

pub is_desk : (size : ℕ) (copy : DiskCopy) (lba : ℕ) → gate_of size copy ≡ Some lba → IsDesk size copy lba
is_desk size copy lba e =
    desk_by size copy lba (nat_le 18 copy.header.geometry.workspace_length) (nat_le (copy.header.geometry.workspace_lba + 18) (size - 1))
    (meets_copy copy.header.primary_lba copy.header.geometry.sections copy.header.geometry.workspace_lba 18)
    (meets_copy copy.header.secondary_lba copy.header.geometry.sections copy.header.geometry.workspace_lba 18) refl refl refl refl e

-- what is written of a copy is none of its sectors
pub written_aside : (copy : DiskCopy) (last : Which) (mode : Mode) (update : Prepared) (size lba l : ℕ) → CanBeCopy copy → IsPrepared copy last mode update → gate_of size copy ≡ Some lba → IsWritten size update l
    → (l < lba) ⊎ (lba + 18 ≤ l)
written_aside copy last mode update size lba l can is desk written =
    let has = is_desk size copy lba desk in
    let laid = runs_laid copy update.runs can is.runs_are in
    let out : (which : Which) (at : ℕ) → at ≡ place_of which copy.header → IsInCopy at update.runs l → (l < lba) ⊎ (lba + 18 ≤ l) =
    λ which at place in_copy.
    ⊎_elim (λ (below : l < lba). inl below)
    (λ (from : lba ≤ l). ⊎_elim
    (λ (inside : l < lba + 18).
    absurd (unmet copy.header.geometry update.runs laid (place_of which copy.header) copy.header.geometry.workspace_lba 18 l (has.unmet which) (omega (arith, from, has.is_workspace)) (omega (arith, inside, has.is_workspace))
    (subst (λ (n : ℕ). IsInCopy n update.runs l) place in_copy)))
    (λ (past : lba + 18 ≤ l). inr past) (cases_lt l (lba + 18)))
    (cases_lt l lba) in
    ⊎_elim
    (⊎_elim (λ first. out (written_first mode last) update.first.lba is.first_is.lba_is first) (λ second. out (other_of (written_first mode last)) update.second.lba is.second_is.lba_is second))
    (λ anchor. let below = has.below_last in inr (omega (arith, below, anchor.1)))
    written
