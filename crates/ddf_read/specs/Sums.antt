-- The other cells of rows, and their sums, row beside row.
use Rattle.std.specs.Prelude.{◌≡◌, ℕ, ◌<◌, ◌==◌, List, [], map, length, Option, None, option_to_list, slice_index_or, if◌then◌else◌}
use Rattle.std.specs.List.{flat_map, range_with_len}
use Rattle.std.specs.Simd.Lanes.{fold_l}
use Rattle.ddf_bay.specs.Sectors.{Image}
use Rattle.ddf_parity.specs.Xor.{xor}
use Rattle.ddf_array.specs.declared.place.Place.{Place}
use Rattle.ddf_array.specs.declared.site.Site.{Site}
use Rattle.ddf_array.specs.Places.{site_at}
use Rattle.ddf_array.specs.Values.{bytes_at, sum_at}
use Rattle.ddf_read.specs.Along.{further}

-- where a position's sector lies, but for one of the positions
abbrev pub other_site : List Place → (sector position : ℕ) → ℕ → Option Site
other_site places sector position other = if other == position then None else site_at places other sector

-- the sectors of all of them that are available
abbrev pub other_sites : List Place → (sector position : ℕ) → List Site
other_sites places sector position =
    flat_map (λ other. option_to_list (other_site places sector position other)) (range_with_len 0 (length places))

-- each of these sectors is the sum of sectors that lie so many further
abbrev pub AreSums : Image → List Site → List (List ℕ) → Type 0
AreSums image sites sectors = (k : ℕ) → k < length sectors → slice_index_or sectors k [] ≡ sum_at image (map (further k) sites)

-- such sectors are added to each of these
abbrev pub AreAdded : Image → List Site → (old new : List (List ℕ)) → Type 0
AreAdded image sites old new =
    (k : ℕ) → k < length old → slice_index_or new k [] ≡ fold_l xor (slice_index_or old k []) (map (bytes_at image) (map (further k) sites))
