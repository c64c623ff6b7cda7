-- The value of a block (profile): which of its sources counts where they differ.
use Rattle.std.specs.Prelude.{ℕ, List, map, Option, option_map, slice_get}
use Rattle.ddf_bay.specs.Sectors.{Image}
use Rattle.ddf_parity.specs.Xor.{xor_all}
use Rattle.ddf_array.specs.declared.site.Site.{Site}
use Rattle.ddf_array.specs.Volume.{Volume}
use Rattle.ddf_array.specs.Sources.{Source, copy, row, every_source}

abbrev pub bytes_at : Image → Site → List ℕ
bytes_at image site = image site.slot site.lba

-- the exclusive-or of sectors
abbrev pub sum_at : Image → List Site → List ℕ
sum_at image sites = xor_all (map (bytes_at image) sites)

-- the bytes that a source gives
abbrev pub given : Image → Source → List ℕ
given image (copy site) = bytes_at image site
given image (row sites) = sum_at image sites

-- the bytes of the first source; none where a block has no source
abbrev pub value : Volume → Image → ℕ → Option (List ℕ)
value volume image block = option_map (given image) (slice_get (every_source volume block) 0)
