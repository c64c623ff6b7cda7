-- What a stop leaves of an array while a block of it is written from a stage: which gates stand open, and which cells are written by then (profile).
use Rattle.std.specs.Prelude.{◌≡◌, ◌⊎◌, ℕ, ◌+◌, ◌<◌, ◌≤◌, ◌^◌, ◌/◌, ◌%◌, ◌==◌, Bool, true, not, List, [], Some, None, find, length, slice_get, slice_index_or}
use Rattle.ddf_bay.specs.Sectors.{Image}
use Rattle.ddf_array.specs.declared.part.Part.{Part}
use Rattle.ddf_array.specs.declared.site.Site.{Site}
use Rattle.ddf_array.specs.Places.{site_on}
use Rattle.ddf_array.specs.Sources.{copies}
use Rattle.ddf_array.specs.Volume.{Volume}
use Rattle.ddf_cells.specs.Alike.{IsCell as IsCellOf}
use Rattle.ddf_write.specs.Writing.{IsParityAt}
use Rattle.ddf_stage.specs.declared.desk.Desk.{Desk}
use Rattle.ddf_stage.specs.declared.desk.StageCell.{StageCell}
use Rattle.ddf_stage.specs.declared.desk.Staged.{Staged}
use Rattle.ddf_stage.specs.Gate.{IsGate, gate_bytes, opened}
use Rattle.ddf_stage.specs.Desks.{HasDesk}
use Rattle.ddf_stage.specs.Laid.{first_open, is_at, laid, names_one, on_desk}
use Rattle.ddf_stage.specs.Staging.{IsCell, IsThere}
use Rattle.ddf_stage_data.specs.Staged.{sum_with}

-- ---- what is staged

-- the bytes of the block, and the parity of an element
abbrev pub value_of : Staged → List ℕ
value_of staged = slice_index_or staged.sectors 0 []

abbrev pub parity_of : Staged → (element : ℕ) → List ℕ
parity_of staged element = slice_index_or staged.sectors (1 + element) []

-- the parity of an element is staged
abbrev pub is_set : (bits element : ℕ) → Bool
is_set bits element = (bits / 2 ^ element) % 2 == 1

-- What is staged can be written: its gate can, and each of its sectors has 512 bytes.
pub record IsStage (staged : Staged) : Type 0 where
  pub is_gate : IsGate staged.gate
  pub sectors : length staged.sectors ≡ 17
  pub whole : (k : ℕ) → k < 17 → length (slice_index_or staged.sectors k []) ≡ 512

-- ---- its cells in an array

-- a cell is an available one of the block, and gets its bytes; or an available parity cell of a row that the block touches, of an element whose
-- parity is staged, and gets that
abbrev pub IsStageCell : Volume → Staged → StageCell → Type 0
IsStageCell volume staged cell =
    ((i : ℕ) × (cell.from ≡ 0) × (slice_get (copies volume staged.gate.block) i ≡ Some (site_on cell.slot cell.lba)))
    ⊎ ((element : ℕ) × (sector : ℕ) × (part : Part) × (cell.from ≡ 1 + element) × (is_set staged.gate.parities element ≡ true)
    × IsParityAt volume staged.gate.block 1 element sector part (site_on cell.slot cell.lba))

-- a site is one of the cells
pub record IsAmongCells (cells : List StageCell) (one : Site) : Type 0 where
  pub number : ℕ
  pub cell : StageCell
  pub is_cell : slice_get cells number ≡ Some cell
  pub on_slot : cell.slot ≡ one.slot
  pub at : cell.lba ≡ one.lba

-- these are all of them
pub record AreCellsOf (volume : Volume) (staged : Staged) (cells : List StageCell) : Type 0 where
  pub are : (k : ℕ) (cell : StageCell) → slice_get cells k ≡ Some cell → IsStageCell volume staged cell
  pub of_block : (i : ℕ) (one : Site) → slice_get (copies volume staged.gate.block) i ≡ Some one → IsAmongCells cells one
  pub of_parity : (element sector : ℕ) (part : Part) (one : Site) → IsParityAt volume staged.gate.block 1 element sector part one
      → is_set staged.gate.parities element ≡ true → IsAmongCells cells one

-- each available parity of the block's rows is staged, as the sum of the row with the block's bytes
abbrev pub IsRight : Volume → Staged → Image → Type 0
IsRight volume staged before =
    (element sector : ℕ) (part : Part) (one : Site) → IsParityAt volume staged.gate.block 1 element sector part one
    → (is_set staged.gate.parities element ≡ true) × (parity_of staged element ≡ sum_with staged.gate.block (value_of staged) volume before element part sector)

-- ---- what a read takes

-- the image, with what stands behind the first open gate of these desks laid over its cells
abbrev pub through : List Desk → (arrays : List (List ℕ)) → (cells : Staged → List StageCell) → Image → Image
through desks arrays cells image = elim (first_open arrays image desks) [ None ↦ image | Some staged ↦ laid staged (cells staged) image ]

-- ---- moments

-- a sector is one of a desk
pub record IsDeskSector (desks : List Desk) (s l : ℕ) : Type 0 where
  pub number : ℕ
  pub desk : Desk
  pub is_desk : slice_get desks number ≡ Some desk
  pub on_slot : s ≡ desk.slot
  pub from : desk.lba ≤ l
  pub below : l < desk.lba + 18

-- No available sector of the array is one of a desk.
abbrev pub IsOffDesks : Volume → List Desk → Type 0
IsOffDesks volume desks = (slot lba : ℕ) → IsCellOf volume slot lba → IsDeskSector desks slot lba → ⊥

-- a sector is no gate that stands open and names one of these arrays: a gate that names another array counts for nothing
abbrev pub is_shut : (arrays : List (List ℕ)) → List ℕ → Bool
is_shut arrays sector = elim (opened sector) [ None ↦ true | Some gate ↦ not (names_one arrays gate) ]

-- the gate of each of these desks stands open
abbrev pub AllOpen : List Desk → Staged → Image → Type 0
AllOpen desks staged image = (k : ℕ) (desk : Desk) → slice_get desks k ≡ Some desk → image desk.slot desk.lba ≡ gate_bytes true staged.gate

-- a gate that stood open still does
abbrev pub StayOpen : List Desk → Staged → (before image : Image) → Type 0
StayOpen desks staged before image =
    (k : ℕ) (desk : Desk) → slice_get desks k ≡ Some desk → before desk.slot desk.lba ≡ gate_bytes true staged.gate → image desk.slot desk.lba ≡ gate_bytes true staged.gate

-- outside the desks nothing is another
abbrev pub AllOld : List Desk → (before image : Image) → Type 0
AllOld desks before image = (s l : ℕ) → (image s l ≡ before s l) ⊎ IsDeskSector desks s l

-- what is staged stands behind each gate that stands open
abbrev pub IsBehindOpen : List Desk → Staged → Image → Type 0
IsBehindOpen desks staged image =
    (k i : ℕ) (desk : Desk) → slice_get desks k ≡ Some desk → image desk.slot desk.lba ≡ gate_bytes true staged.gate → i < 17
    → image desk.slot (desk.lba + 1 + i) ≡ slice_index_or staged.sectors i []

-- What is staged stands on each desk whose gate stands open. A gate stands open or counts for nothing. Each cell is as it was or as it is staged, and
-- outside the desks and the cells nothing is another. While gates are being opened no cell is written, and none is closed; while cells are, each gate
-- stands open; while gates are being closed, each cell is as it is staged.
pub record IsMoment (arrays : List (List ℕ)) (desks : List Desk) (staged : Staged) (cells : List StageCell) (before image : Image) : Type 0 where
  pub payload : IsBehindOpen desks staged image
  pub gates : (k : ℕ) (desk : Desk) → slice_get desks k ≡ Some desk → (image desk.slot desk.lba ≡ gate_bytes true staged.gate) ⊎ (is_shut arrays (image desk.slot desk.lba) ≡ true)
  pub others : (s l : ℕ) → (image s l ≡ before s l) ⊎ (IsDeskSector desks s l ⊎ IsCell cells staged s l (image s l))
  pub phase : (AllOld desks before image × StayOpen desks staged before image) ⊎ (AllOpen desks staged image ⊎ IsThere (IsCell cells staged) image)

-- the slot of each cell has one of the desks
abbrev pub AreCovered : List Desk → List StageCell → Type 0
AreCovered desks cells = (k : ℕ) (cell : StageCell) → slice_get cells k ≡ Some cell → HasDesk desks cell.slot

-- each cell gets a sector that there is
abbrev pub HaveSectors : List StageCell → Type 0
HaveSectors cells = (k : ℕ) (cell : StageCell) → slice_get cells k ≡ Some cell → cell.from < 17

-- ---- fewer disks

-- at the available sectors of an array some cells are what others are
abbrev pub AreAlikeCells : Volume → (cells fewer : List StageCell) → Type 0
AreAlikeCells volume cells fewer = (slot lba : ℕ) → IsCellOf volume slot lba → find (is_at slot lba) fewer ≡ find (is_at slot lba) cells

-- The desks of a smaller array's disks: each slot of it has one, and each of them is one of those that the block is staged on, or no gate stands open
-- there.
pub record AreItsDesks (volume : Volume) (arrays : List (List ℕ)) (desks here : List Desk) (image : Image) : Type 0 where
  pub slots : (slot lba : ℕ) → IsCellOf volume slot lba → HasDesk here slot
  pub each : (k : ℕ) (desk : Desk) → slice_get here k ≡ Some desk → ((j : ℕ) × (slice_get desks j ≡ Some desk)) ⊎ (on_desk arrays image desk ≡ None)
  pub same : (j k : ℕ) (one other : Desk) → slice_get here j ≡ Some one → slice_get desks k ≡ Some other → one.slot ≡ other.slot → one ≡ other
