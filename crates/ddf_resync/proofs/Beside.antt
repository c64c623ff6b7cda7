-- Cells of a position and the first copies of their blocks, side by side.
use Rattle.std.proofs.Common.{◌≡◌, ◌∙◌, ℕ, ◌+◌, ◌<◌, Some, None, sym, ap}
use Rattle.std.specs.Prelude.{option_map}
use Rattle.std.proofs.lemmas.Option.{same_Some}
use Rattle.ddf_bay.specs.Sectors.{Image}
use Rattle.ddf_array.specs.declared.part.Part.{Part}
use Rattle.ddf_array.specs.declared.site.Site.{Site}
use Rattle.ddf_array.specs.Places.{site_at}
use Rattle.ddf_array.specs.Sources.{first_copy}
use Rattle.ddf_array.specs.Values.{bytes_at}
use Rattle.ddf_array.specs.Volume.{Volume}
use Rattle.ddf_array.specs.Rows.{block_at}
use Rattle.ddf_read.specs.Along.{further, LieAlong}
use Rattle.ddf_read.proofs.Followers.{follow_first}
use Rattle.ddf_resync.specs.Agreeing.{CopyAgrees}
use Rattle.ddf_resync.specs.Runs.{IsCopyRun}
use Rattle.ddf_read.proofs.SourcesAlong.{site_further}

module _ (v : Volume) (image : Image) (element : ℕ) (part : Part) (position sector block : ℕ) (own first : Site) (count : ℕ) (run : IsCopyRun v element position sector block first count)
    (own_at : site_at part.places position sector ≡ Some own) (k : ℕ) (below : k < count) where
  own_further : site_at part.places position (sector + k) ≡ Some (further k own)
  own_further = site_further part.places position sector k ∙ ap (option_map (further k)) own_at

  pub run_good : bytes_at image (further k own) ≡ bytes_at image (further k first) → CopyAgrees v image element part position (sector + k)
  run_good same block' own' first' block_at' own_at' first_at' =
      let b : block + k ≡ block' = same_Some (block + k) block' (sym (run.blocks k below) ∙ block_at') in
      let o : further k own ≡ own' = same_Some (further k own) own' (sym own_further ∙ own_at') in
      let f : further k first ≡ first' = same_Some (further k first) first' (sym (run.firsts k below) ∙ ap (first_copy v) b ∙ first_at') in
      ap (bytes_at image) (sym o) ∙ same ∙ ap (bytes_at image) f

  pub run_bad : (bytes_at image (further k own) ≡ bytes_at image (further k first) → ⊥) → CopyAgrees v image element part position (sector + k) → ⊥
  run_bad never agrees = never (agrees (block + k) (further k own) (further k first) (run.blocks k below) own_further (run.firsts k below))

-- a run of cells that are the first copies themselves, or of none that are there
module _ (v : Volume) (image : Image) (element : ℕ) (part : Part) (position sector block : ℕ) (count : ℕ) where
  pub none_good : site_at part.places position sector ≡ None → (k : ℕ) → CopyAgrees v image element part position (sector + k)
  none_good none k block' own' first' block_at' own_at' first_at' =
      absurd (never (sym (site_further part.places position sector k ∙ ap (option_map (further k)) none) ∙ own_at'))
    where
      never : None ≡ Some own' → ⊥
      never e = cc

pub copy_run : (v : Volume) (element position sector block : ℕ) (first : Site) (count : ℕ) → LieAlong v block count → ((k : ℕ) → k < count → block_at v element position (sector + k) ≡ Some (block + k))
    → first_copy v block ≡ Some first → IsCopyRun v element position sector block first count
copy_run v element position sector block first count along follow is = record { blocks = follow; firsts = follow_first v block count first along is }
