-- One run more.
use Rattle.std.proofs.Common.{◌≡◌, ℕ, zero, suc, ◌+◌, List, [], ◌∷◌, drop, inl, inr, refl, ◌∙◌, ap, ⊎_elim, add-one}
use Rattle.std.specs.Prelude.{slice_get, Some}
use Rattle.ddf_bay.specs.Sectors.{Image, Outcomes, InRun}
use Rattle.ddf_bay.specs.Moments.{Adds, Mixes, IsAmong}
use Rattle.ddf_copy.specs.declared.run.Run.{Run}
use Rattle.ddf_copy.specs.Runs.{InRuns}
use Rattle.ddf_update.specs.Stage.{AddsRuns, MixesRuns, IsAmongRuns}

in_one : (lba : ℕ) (runs : List Run) (k : ℕ) (run : Run) (l : ℕ) (bytes : List ℕ) → slice_get runs k ≡ Some run → InRun (lba + run.offset) run.sectors l bytes → InRuns lba runs l bytes
in_one lba [] k run l bytes at here = absurd (cc)
in_one lba (first ∷ rest) zero run l bytes at here = let e : first ≡ run = cc in inl (rw e here)
in_one lba (first ∷ rest) (suc k) run l bytes at here = inr (in_one lba rest k run l bytes at here)

pub rest_is : (runs : List Run) (k : ℕ) (run : Run) → slice_get runs k ≡ Some run → drop k runs ≡ run ∷ drop (k + 1) runs
rest_is [] k run at = absurd (cc)
rest_is (first ∷ rest) zero run at = let e : first ≡ run = cc in ap (λ (x : Run). x ∷ rest) e
rest_is (first ∷ rest) (suc k) run at = rw add-one (rest_is rest k run at ∙ rw add-one refl)

pub mixes_more : (old mid new : Image) (slot lba : ℕ) (runs : List Run) (k : ℕ) (run : Run) → slice_get runs k ≡ Some run
    → MixesRuns old mid slot lba runs → Mixes mid new slot (lba + run.offset) run.sectors → MixesRuns old new slot lba runs
mixes_more old mid new slot lba runs k run at so_far step s l = ⊎_elim
    (λ same. ⊎_elim (λ was. inl (same ∙ was)) (λ there. inr (there.0, rw same there.1)) (so_far s l))
    (λ here. inr (here.0, in_one lba runs k run l (new s l) at here.1))
    (step s l)

module _ (old mid new : Outcomes) (slot lba : ℕ) (runs : List Run) (k : ℕ) (run : Run) (at : slice_get runs k ≡ Some run) where
  pub adds_more : AddsRuns old mid slot lba runs → Adds mid new slot (lba + run.offset) run.sectors → AddsRuns old new slot lba runs
  adds_more so_far step s l bytes now = ⊎_elim (so_far s l bytes) (λ here. inr (here.0, in_one lba runs k run l bytes at here.1)) (step s l bytes now)

  pub among_more : AddsRuns old mid slot lba runs → (image : Image) → IsAmong mid slot (lba + run.offset) run.sectors image → IsAmongRuns old slot lba runs image
  among_more so_far image among s l = ⊎_elim (so_far s l (image s l)) (λ here. inr (here.0, in_one lba runs k run l (image s l) at here.1)) (among s l)
