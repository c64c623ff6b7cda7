-- What is staged, laid over the sectors of an image (profile).
use Rattle.std.specs.Prelude.{ℕ, ◌+◌, zero, suc, Bool, ◌==◌, ◌&&◌, List, [], ◌∷◌, Option, Some, None, find, slice_index_or, nat_eq, if◌then◌else◌}
use Rattle.std.specs.Cmp.Lexicographic.{pointwise}
use Rattle.std.specs.List.{list_any}
use Rattle.ddf_bay.specs.Sectors.{Image}
use Rattle.ddf_stage.specs.declared.desk.Desk.{Desk}
use Rattle.ddf_stage.specs.declared.desk.StageCell.{StageCell}
use Rattle.ddf_stage.specs.declared.desk.Staged.{Staged}
use Rattle.ddf_stage.specs.declared.gate.Gate.{Gate}
use Rattle.ddf_stage.specs.Gate.{opened}

-- a cell is this sector
abbrev pub is_at : (s l : ℕ) → StageCell → Bool
is_at s l cell = cell.slot == s && cell.lba == l

-- the sector that a cell gets
abbrev pub sector_of : Staged → StageCell → List ℕ
sector_of staged cell = slice_index_or staged.sectors cell.from []

-- the image with each of these cells as it is staged
abbrev pub laid : Staged → List StageCell → Image → Image
laid staged cells image s l = elim (find (is_at s l) cells) [ None ↦ image s l | Some cell ↦ sector_of staged cell ]

-- the sectors of a slot from an LBA on, so many
abbrev pub sectors_from : (ℕ → List ℕ) → (lba count : ℕ) → List (List ℕ)
sectors_from held lba zero = []
sectors_from held lba (suc count) = held lba ∷ sectors_from held (lba + 1) count

-- what is staged on a desk behind its gate
abbrev pub staged_behind : Image → Desk → Gate → Staged
staged_behind image desk gate = record { gate = gate; sectors = sectors_from (image desk.slot) (desk.lba + 1) 17 }

-- an array is one of these
abbrev pub names_one : List (List ℕ) → Gate → Bool
names_one arrays gate = list_any (λ array. pointwise nat_eq array gate.array) arrays

-- what stands on a desk behind an open gate that names one of these arrays
abbrev pub on_desk : List (List ℕ) → Image → Desk → Option Staged
on_desk arrays image desk =
    elim (opened (image desk.slot desk.lba)) [
      | None ↦ None
      | Some gate ↦ if names_one arrays gate then Some (staged_behind image desk gate) else None
    ]

-- the first of these desks' that does
abbrev pub first_open : List (List ℕ) → Image → List Desk → Option Staged
first_open arrays image [] = None
first_open arrays image (desk ∷ desks) = elim (on_desk arrays image desk) [ None ↦ first_open arrays image desks | Some staged ↦ Some staged ]

-- the most reads that tell it: one of each gate up to that of the first that does, and one of what stands behind that
abbrev pub most_reads : List (List ℕ) → Image → List Desk → ℕ
most_reads arrays image [] = 0
most_reads arrays image (desk ∷ desks) = elim (on_desk arrays image desk) [ None ↦ suc (most_reads arrays image desks) | Some staged ↦ 2 ]
