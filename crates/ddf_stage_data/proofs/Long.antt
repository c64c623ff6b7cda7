-- The values of cells have 512 bytes.
use Rattle.std.proofs.Common.{◌≡◌, ◌∙◌, ℕ, zero, suc, ◌+◌, Bool, true, false, List, [], ◌∷◌, Option, Some, None, refl, sym, ap, arith, map, length, slice_get}
use Rattle.std.specs.Prelude.{option_map, unwrap_or, ◌==◌, if◌then◌else◌}
use Rattle.std.specs.List.{range_with_len}
use Rattle.ddf_bay.specs.Sectors.{Image}
use Rattle.ddf_parity.specs.Xor.{xor_all, zeros}
use Rattle.ddf_array.specs.declared.part.Part.{Part}
use Rattle.ddf_array.specs.declared.site.Site.{Site}
use Rattle.ddf_array.specs.Rows.{block_at, cell_value, sources_without_block, value_without_block}
use Rattle.ddf_array.specs.Sound.{AreSectors}
use Rattle.ddf_array.specs.Sources.{Source, copy, row, every_source}
use Rattle.ddf_array.specs.Values.{bytes_at, given, sum_at, value}
use Rattle.ddf_array.specs.Volume.{Volume}
use Rattle.ddf_array.proofs.RowSums.{long_zeros}
use Rattle.ddf_data_array.proofs.Totals.{long_sum}
use Rattle.ddf_stage_data.specs.Staged.{cell_with}

module _ (image : Image) (are : AreSectors image) where
  long_sites : (sites : List Site) → length (sum_at image sites) ≡ 512
  long_sites sites = ap (λ l. length (xor_all l)) (sym (bytes sites)) ∙ long_sum (byte sites) (long_byte sites) (range_with_len 0 (length sites))
    where
      byte : List Site → ℕ → List ℕ
      byte [] k = zeros
      byte (one ∷ sites) zero = bytes_at image one
      byte (one ∷ sites) (suc k) = byte sites k

      long_byte : (sites : List Site) (k : ℕ) → length (byte sites k) ≡ 512
      long_byte [] k = long_zeros
      long_byte (one ∷ sites) zero = are one.slot one.lba
      long_byte (one ∷ sites) (suc k) = long_byte sites k

      shifted : (f g : ℕ → List ℕ) (a n : ℕ) → ((k : ℕ) → f (suc k) ≡ g k) → map f (range_with_len (a + 1) n) ≡ map g (range_with_len a n)
      shifted f g a zero same = refl
      shifted f g a (suc n) same =
          ap (λ l. l ∷ map f (range_with_len (a + 1 + 1) n)) (ap f (let e : a + 1 ≡ suc a = omega arith in e) ∙ same a) ∙ ap (λ l. g a ∷ l) (shifted f g (a + 1) n same)

      bytes : (sites : List Site) → map (byte sites) (range_with_len 0 (length sites)) ≡ map (bytes_at image) sites
      bytes [] = refl
      bytes (one ∷ sites) = ap (λ l. bytes_at image one ∷ l) (shifted (byte (one ∷ sites)) (byte sites) 0 (length sites) (λ k. refl) ∙ bytes sites)

  long_value : (o : Option Source) → length (unwrap_or (option_map (given image) o) zeros) ≡ 512
  long_value None = long_zeros
  long_value (Some (copy one)) = are one.slot one.lba
  long_value (Some (row sites)) = long_sites sites

  long_without : (l : List Source) → length (value_without_block image l) ≡ 512
  long_without [] = long_zeros
  long_without (copy one ∷ l) = are one.slot one.lba
  long_without (row sites ∷ l) = long_sites sites

  pub long_cell : (v : Volume) (e : ℕ) (part : Part) (sector q : ℕ) → length (cell_value v image e part sector q) ≡ 512
  long_cell v e part sector q = by (block_at v e q sector)
    where
      by : (o : Option ℕ) → length {A = ℕ} (elim o [ None ↦ value_without_block image (sources_without_block part q sector) | Some block ↦ unwrap_or (value v image block) zeros ]) ≡ 512
      by None = long_without (sources_without_block part q sector)
      by (Some block) = long_value (slice_get (every_source v block) 0)

  pub long_with : (block : ℕ) (bytes : List ℕ) → length bytes ≡ 512 → (v : Volume) (e : ℕ) (part : Part) (sector q : ℕ) → length (cell_with block bytes v image e part sector q) ≡ 512
  long_with block bytes long v e part sector q = by (block_at v e q sector)
    where
      cases : (b : Bool) → length (if b then bytes else cell_value v image e part sector q) ≡ 512
      cases true = long
      cases false = long_cell v e part sector q

      by : (o : Option ℕ) → length {A = ℕ} (elim o [ None ↦ cell_value v image e part sector q | Some other ↦ if other == block then bytes else cell_value v image e part sector q ]) ≡ 512
      by None = long_cell v e part sector q
      by (Some other) = cases (other == block)
