-- What a stop leaves while a block is staged, and while it is written from the stage (profile).
use Rattle.std.specs.Prelude.{◌≡◌, ◌⊎◌, ℕ, ◌+◌, ◌<◌, ◌≤◌, true, false, List, Some, length, slice_get, slice_index}
use Rattle.ddf_bay.specs.Sectors.{Image, Outcomes}
use Rattle.ddf_bay.specs.Moments.{IsSettled}
use Rattle.ddf_stage.specs.declared.desk.Desk.{Desk}
use Rattle.ddf_stage.specs.declared.desk.StageCell.{StageCell}
use Rattle.ddf_stage.specs.declared.desk.Staged.{Staged}
use Rattle.ddf_stage.specs.Gate.{gate_bytes}
use Rattle.ddf_stage.specs.Desks.{IsGateAt}
use Rattle.ddf_stage.specs.Laid.{sector_of}

-- which bytes calls may give a sector of a slot
abbrev pub Giving : Type 1
Giving = ℕ → ℕ → List ℕ → Type 0

-- each sector by itself is as a stop might leave it before, or has bytes that calls may give it
abbrev pub IsAmong : Giving → Outcomes → Image → Type 0
IsAmong May may image = (s l : ℕ) → may s l (image s l) ⊎ May s l (image s l)

-- a stop leaves in each sector what it might leave before, or bytes that calls may give it
abbrev pub Adds : Giving → (old new : Outcomes) → Type 0
Adds May old new = (s l : ℕ) (bytes : List ℕ) → new s l bytes → old s l bytes ⊎ May s l bytes

-- each sector by itself is as before, or has bytes that calls may give it
abbrev pub Mixes : Giving → (old new : Image) → Type 0
Mixes May old new = (s l : ℕ) → (new s l ≡ old s l) ⊎ May s l (new s l)

-- all that calls may give is there
abbrev pub IsThere : Giving → Image → Type 0
IsThere May image = (s l : ℕ) (bytes : List ℕ) → May s l bytes → image s l ≡ bytes

-- no sector is given two kinds of bytes
abbrev pub IsOnce : Giving → Type 0
IsOnce May = (s l : ℕ) (one other : List ℕ) → May s l one → May s l other → one ≡ other

-- no sector is given bytes by both
abbrev pub AreAside : (First Then : Giving) → Type 0
AreAside First Then = (s l : ℕ) (one other : List ℕ) → First s l one → Then s l other → ⊥

-- one of the two may give them
abbrev pub Either : (First Then : Giving) → Giving
Either First Then s l bytes = First s l bytes ⊎ Then s l bytes

-- An image between two things that are done: while the first is done none of the second is, and once the second has begun all of the first
-- is there.
abbrev pub IsBetween : (First Then : Giving) → Outcomes → Image → Type 0
IsBetween First Then may image = IsAmong First may image ⊎ (IsThere First image × IsAmong (Either First Then) may image)

-- the cells of a block, with what is staged for each
pub record IsCell (cells : List StageCell) (staged : Staged) (s l : ℕ) (bytes : List ℕ) : Type 0 where
  pub number : ℕ
  pub cell : StageCell
  pub is_cell : slice_get cells number ≡ Some cell
  pub on_slot : s ≡ cell.slot
  pub at : l ≡ cell.lba
  pub are : bytes ≡ sector_of staged cell

-- the open gates, and the closed ones
abbrev pub OpenGates : List Desk → Staged → Giving
OpenGates desks staged = IsGateAt desks (gate_bytes true staged.gate)

abbrev pub ClosedGates : List Desk → Staged → Giving
ClosedGates desks staged = IsGateAt desks (gate_bytes false staged.gate)

-- the cells lie on their slots, of these sizes, and get sectors that there are
abbrev pub CellsAreOn : (sizes : List ℕ) → List StageCell → Type 0
CellsAreOn sizes cells = (k : ℕ) (cell : StageCell) → slice_get cells k ≡ Some cell → (cell.slot < length sizes) × (cell.lba < slice_index sizes cell.slot) × (cell.from < 17)

-- a slot has one of the cells
pub record HasCell (cells : List StageCell) (slot : ℕ) : Type 0 where
  pub number : ℕ
  pub cell : StageCell
  pub is_cell : slice_get cells number ≡ Some cell
  pub on_slot : slot ≡ cell.slot

-- no cell is a sector of a desk
abbrev pub AreOffDesks : List Desk → List StageCell → Type 0
AreOffDesks desks cells =
    (j k : ℕ) (cell : StageCell) (desk : Desk) → slice_get cells j ≡ Some cell → slice_get desks k ≡ Some desk → cell.slot ≡ desk.slot
    → (cell.lba < desk.lba) ⊎ (desk.lba + 18 ≤ cell.lba)

-- no two cells are one sector
abbrev pub AreOwnCells : List StageCell → Type 0
AreOwnCells cells =
    (j k : ℕ) (one other : StageCell) → slice_get cells j ≡ Some one → slice_get cells k ≡ Some other → one.slot ≡ other.slot → one.lba ≡ other.lba → j ≡ k

-- nothing is pending on the slot of a desk or a cell
abbrev pub AreSettled : (Is : ℕ → Type 0) → Outcomes → Image → Type 0
AreSettled Is may held = (slot : ℕ) → Is slot → IsSettled may held slot
