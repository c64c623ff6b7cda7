-- The cells that a gate names, by the view of its array (profile).
use Rattle.std.specs.Prelude.{◌≡◌, ℕ, ◌+◌, ◌/◌, ◌<◌, ◌^◌, List, [], ◌++◌, map, filter_map, Option, Some, option_and_then, Result, Ok, Err, if◌then◌else◌}
use Rattle.std.specs.List.{flat_map}
use Rattle.ddf_primary.specs.Cells.{parity_member}
use Rattle.ddf_secondary.specs.declared.spot.Spot.{Spot}
use Rattle.ddf_config.specs.declared.refusal.Refusal.{Refusal}
use Rattle.ddf_config.specs.declared.seat.Seat.{Seat}
use Rattle.ddf_config.specs.Configuration.{Configuration}
use Rattle.ddf_config.specs.Seats.{floor_of}
use Rattle.ddf_array.specs.declared.part.Part.{Part}
use Rattle.ddf_array.specs.declared.site.Site.{Site}
use Rattle.ddf_array.specs.Cells.{block_spots, element_cells}
use Rattle.ddf_array.specs.Places.{site_at}
use Rattle.ddf_array.specs.Sources.{at_spot, copies}
use Rattle.ddf_array.specs.Viewing.{view_of}
use Rattle.ddf_array.specs.Volume.{Volume, IsVolume}
use Rattle.ddf_stage.specs.declared.desk.StageCell.{StageCell}
use Rattle.ddf_stage.specs.declared.desk.Staged.{Staged}
use Rattle.ddf_stage.specs.declared.gate.Gate.{Gate}
use Rattle.ddf_stage_data.specs.Moments.{is_set}

-- an available cell of a block, and one with the parity of an element
abbrev pub copy_cell : Site → StageCell
copy_cell site = record { slot = site.slot; lba = site.lba; from = 0 }

abbrev pub parity_cell : (element : ℕ) → Site → StageCell
parity_cell element site = record { slot = site.slot; lba = site.lba; from = 1 + element }

-- the available parity cell of a row
abbrev pub row_parity : Part → (sector : ℕ) → Option Site
row_parity part sector = option_and_then (λ position. site_at part.places position sector) (parity_member part.shape (sector / part.shape.strip))

-- those of the rows of a block of an element
abbrev pub element_parities : Part → (block : ℕ) → List Site
element_parities part block = filter_map (λ (cell : ℕ × ℕ). row_parity part cell.1) (element_cells part.shape block)

-- those of an element whose parity is staged
abbrev pub spot_parities : Volume → (bits : ℕ) → Spot → List StageCell
spot_parities volume bits spot = if is_set bits spot.element then map (parity_cell spot.element) (at_spot volume.parts element_parities spot) else []

-- the available cells of the block that a gate names, and the available parity cells of its rows
abbrev pub cells_of : Volume → Gate → List StageCell
cells_of volume gate = map copy_cell (copies volume gate.block) ++ flat_map (spot_parities volume gate.parities) (block_spots volume gate.block)

abbrev pub cells_by : Result Volume Refusal → Gate → List StageCell
cells_by (Ok volume) gate = cells_of volume gate
cells_by (Err refusal) gate = []

-- none where the array isn't there, or can't be used
abbrev pub cells_in : Configuration → List Seat → Staged → List StageCell
cells_in config seats staged = cells_by (view_of config staged.gate.array seats) staged.gate

-- The views of a configuration keep what views keep, as where no element has more positions than 64.
abbrev pub HasVolumes : Configuration → Type 0
HasVolumes config =
    (guid : List ℕ) (seats : List Seat) (volume : Volume) → ((reference floor : ℕ) → floor_of seats reference ≡ Some floor → floor < 2 ^ 64) → view_of config guid seats ≡ Ok volume → IsVolume volume
