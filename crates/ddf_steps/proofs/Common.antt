-- What several crates above ask of the definitions of this one.
use Rattle.std.proofs.Common.{List, Ok, Result, [], ap, arith, inl, inr, sym, true, ℕ, ⊎_elim, ◌-◌, ◌∙◌, ◌≡◌, ◌≤◌, ◌⊎◌}
use Rattle.ddf_copy.specs.Which.{other_of}
use Rattle.ddf_copy.specs.declared.copy.DiskCopy.{DiskCopy}
use Rattle.ddf_copy.specs.declared.which.Which.{Which}
use Rattle.ddf_update.proofs.Before.{copy_behind}
use Rattle.ddf_update.specs.Prepared.{IsPrepared, writes_anchor, written_first}
use Rattle.ddf_update.specs.Update.{IsWritten}
use Rattle.ddf_update.specs.declared.prepared.Mode.{Mode}
use Rattle.ddf_update.specs.declared.prepared.Prepared.{Prepared}
use Rattle.ddf_config.specs.declared.refusal.Refusal.{Refusal}
use Rattle.ddf_seats.proofs.Common.{floor_below}
use Rattle.ddf_seats.specs.Group.{floor_of}
use Rattle.ddf_steps.specs.Steps.{Step}

-- it lies at or past the floor, or is the last sector
pub written_past : (copy : DiskCopy) (last : Which) (mode : Mode) (update : Prepared) (size l : ℕ) → IsPrepared copy last mode update → IsWritten size update l
    → (floor_of copy ≤ l) ⊎ ((writes_anchor mode ≡ true) × (l ≡ size - 1))
written_past copy last mode update size l is written =
    ⊎_elim
    (λ either. inl (⊎_elim
    (λ first. let lba = copy_behind update.first.lba update.runs l first in let low = floor_below copy (written_first mode last) in omega (arith, lba, is.first_is.lba_is, low))
    (λ second. let lba = copy_behind update.second.lba update.runs l second in let low = floor_below copy (other_of (written_first mode last)) in omega (arith, lba, is.second_is.lba_is, low))
    either))
    (λ anchor. inr (ap writes_anchor (sym is.mode_is) ∙ anchor.0, anchor.1)) written

pub same_steps : (behind : List Step) → ◌≡◌ {A = Result (List Step) Refusal} (Ok []) (Ok behind) → [] ≡ behind
same_steps behind e = cc
