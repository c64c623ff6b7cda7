-- An array keeps what it keeps while its own cells stay as they are.
use Rattle.std.proofs.Common.{◌≡◌, ◌∙◌, ℕ, Bool, Some, sym, subst, slice_get}
use Rattle.ddf_bay.specs.Sectors.{Image}
use Rattle.ddf_array.specs.Volume.{Volume, IsVolume}
use Rattle.ddf_array.specs.Sources.{Source, sources}
use Rattle.ddf_array.specs.Values.{given}
use Rattle.ddf_array.specs.Sound.{AreSectors, HasParity, IsSound}
use Rattle.ddf_cells.specs.Alike.{AreAlike}
use Rattle.ddf_cells.proofs.Alike.{cell_site, depth_below, given_same, redundant_same, row_sum_same, source_is_cells}
use Rattle.ddf_data_array.specs.Allowed.{Allowed, May}
use Rattle.ddf_data_array.specs.Kept.{IsKeptData}
use Rattle.ddf_data_array.specs.Rows.{AreAlikeThroughout, AreRowsKept}
use Rattle.ddf_data_array.proofs.From.{source_at}
use Rattle.ddf_data_array.proofs.RowsKept.{alike_cells, rows_alike}

module _ (v : Volume) (known : IsVolume v) (before image : Image) (same : AreAlike v before image) where
  parity_same : (is_absent : ℕ → ℕ → Bool) → HasParity is_absent v before → HasParity is_absent v image
  parity_same is_absent is element sector position part one part_at lacks none parity below site_is has =
      let deep = depth_below v known part sector below in
      sym (same one.slot one.lba (cell_site v known element part part_at position sector one deep site_is))
      ∙ is element sector position part one part_at lacks none parity below site_is has
      ∙ row_sum_same v known before image same element part part_at sector deep

  sound_same : (is_absent : ℕ → ℕ → Bool) → AreSectors image → IsSound is_absent v before → IsSound is_absent v image
  sound_same is_absent are is = record {
    are_sectors = are;
    redundant = λ unmarked within. redundant_same v known before image same (is.redundant unmarked within);
    parity = λ unmarked within. parity_same is_absent (is.parity unmarked within);
  }

  source_same : (block k : ℕ) (source : Source) → slice_get (sources v block) k ≡ Some source → given before source ≡ given image source
  source_same block k source at = let there = source_at v block k source at in given_same v known before image same source (source_is_cells v known block there.0 source there.1)

  -- where its rows hold what they should, it keeps all
  pub kept_alike : (is_absent : ℕ → ℕ → Bool) (allowed : Allowed) → AreSectors image → AreRowsKept is_absent v image → IsKeptData is_absent v before allowed → IsKeptData is_absent v image allowed
  kept_alike is_absent allowed are rows kept = record {
    sound = sound_same is_absent are kept.sound;
    reads = λ block k source at. subst (May (allowed block)) (source_same block k source at) (kept.reads block k source at);
    rows = rows;
  }

pub kept_same : (is_absent : ℕ → ℕ → Bool) (v : Volume) (before image : Image) (allowed : Allowed) → IsVolume v → AreSectors image → AreAlikeThroughout v before image
    → IsKeptData is_absent v before allowed → IsKeptData is_absent v image allowed
kept_same is_absent v before image allowed known are same kept =
    kept_alike v known before image (alike_cells v before image same) is_absent allowed are (rows_alike v before image same is_absent known kept.rows) kept
