-- A look behind which no call failed.
use Rattle.std.proofs.Common.{◌≡◌, ◌∙◌, ℕ, Bool, true, false, not, Result, sym, ap, inl, inr, ⊎_elim}
use Rattle.std.proofs.lemmas.Bool.{cases_eq}
use Rattle.ddf_bay.specs.State.{BayState}
use Rattle.ddf_bay.specs.ReadsOnly.{LooksAt}
use Rattle.ddf_header.specs.declared.reading.Header.{Header}
use Rattle.ddf_copy.specs.declared.fault.AnchorFault.{AnchorFault}
use Rattle.ddf_copy.specs.Faults.{UpToDisk, anchor_failed}
use Rattle.ddf_disk_commands.specs.LabelRefusal.{is_blank}
use Rattle.ddf_disk_commands.specs.Quiet.{IsQuiet}

pub quiet_look : {D : Type 0} {old new : BayState D} {slot : ℕ} {failed : Bool} → LooksAt old new slot failed → failed ≡ false → IsQuiet old new
quiet_look {slot = slot} look good = λ s. elim (cases_eq s slot) [
  | inl same ↦ rw same (look.same good)
  | inr differ ↦ (look.reads.other_slots s differ, look.writes.other_slots s differ)
]

-- an anchor was read, or one that is damaged
pub not_blank : (slot : ℕ) (result answer : Result Header AnchorFault) → UpToDisk slot result answer → is_blank result ≡ false → anchor_failed result ≡ false → true ≡ not (is_blank answer)
not_blank slot result answer up blank good = ⊎_elim
    (λ same. ap not (sym blank ∙ ap is_blank same))
    (λ disk. let failed : anchor_failed result ≡ true = ap (λ (read : Result Header AnchorFault). anchor_failed read) disk in absurd cc)
    up
