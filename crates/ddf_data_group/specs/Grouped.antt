-- What the arrays of a configuration keep together, over these seats, and what a change asks for them to keep it.
use Rattle.std.specs.Prelude.{◌≡◌, ℕ, false, List, Option, Some, None, slice_get}
use Rattle.std.specs.Map.{lookup}
use Rattle.ddf_bay.specs.Sectors.{Image}
use Rattle.ddf_config.specs.declared.array.Array.{Array}
use Rattle.ddf_config.specs.declared.element.Position.{Position}
use Rattle.ddf_config.specs.declared.seat.Seat.{Seat}
use Rattle.ddf_config.specs.Configuration.{Configuration}
use Rattle.ddf_config.specs.ElementValue.{ElementValue}
use Rattle.ddf_config.specs.Members.{is_current, same_guid}
use Rattle.ddf_array.specs.Volume.{Volume}
use Rattle.ddf_plan.specs.declared.change.Change.{Change}
use Rattle.ddf_plan.specs.declared.change.Change.TheVariants.{Create, Unmark, Begin, Progress, Finish, Return}
use Rattle.ddf_data_array.specs.Allowed.{Allowed}
use Rattle.ddf_data_group.specs.Over.{IsOver, absent_in}
use Rattle.ddf_data_group.specs.Kept.{KeepsArray}
use Rattle.ddf_data_group.specs.Clearing.{MayBeCleared, MayBeInSync, MayBeNoted, MayMove}

-- What is promised of arrays, by their GUIDs: the bytes that their blocks may have. None where nothing is, as of an array that was unmarked
-- when it was not consistent.
abbrev pub Promises : Type 0
Promises = List ℕ → Option Allowed

-- something of each array of which something is promised
abbrev pub OfPromised : Configuration → Promises → (List ℕ → Allowed → Array → Type 0) → Type 0
OfPromised config promises Says =
    (guid : List ℕ) (allowed : Allowed) (array : Array) → promises guid ≡ Some allowed → lookup (same_guid guid) config.arrays ≡ Some array → Says guid allowed array

-- each array keeps its data of which something is promised
abbrev pub KeepsArrays : Configuration → List Seat → Image → Promises → Type 0
KeepsArrays config seats image promises = OfPromised config promises (λ guid allowed array. KeepsArray config.members seats array image allowed)

-- a position of an array is out of sync, on a disk that is no current member's
abbrev pub IsVacant : Configuration → Array → (element position : ℕ) → Type 0
IsVacant config array element position =
    (plan : ElementValue) (old : Position) → slice_get array.elements element ≡ Some (Some plan) → slice_get plan.positions position ≡ Some old
    → (old.synced ≡ false) × (is_current config.members old.reference ≡ false)

-- What a change asks of what it is made over. Of an array that it creates nothing was promised. A mark is cleared of an array that is consistent, with
-- values that its blocks may have, and rows that hold what they should where any count as rebuilt. A rebuild begins at a position without a current
-- member's disk, counts rows that hold what they should, and ends once all do. A position moves to a disk that has a seat, where its extent ends at or
-- below the floor and holds what the position holds. Any other change asks for nothing.
abbrev pub MayChange : Configuration → List Seat → Image → Promises → Change → Type 0
MayChange config seats image promises (Create created added) = promises created ≡ None
MayChange config seats image promises (Unmark named init) =
    OfPromised config promises (λ guid allowed array. guid ≡ named → (volume : Volume) → IsOver seats array volume
    → MayBeCleared (absent_in config.members seats array.elements) volume image allowed)
MayChange config seats image promises (Begin named element position reference start) =
    OfPromised config promises (λ guid allowed array. guid ≡ named → IsVacant config array element position)
MayChange config seats image promises (Progress named element position row) =
    OfPromised config promises (λ guid allowed array. guid ≡ named → (volume : Volume) → IsOver seats array volume → MayBeNoted volume image element position row)
MayChange config seats image promises (Finish named element position) =
    OfPromised config promises (λ guid allowed array. guid ≡ named → (volume : Volume) → IsOver seats array volume
    → MayBeInSync (absent_in config.members seats array.elements) volume image element position)
MayChange config seats image promises (Return named element position reference start) =
    OfPromised config promises (λ guid allowed array. guid ≡ named → (volume : Volume) → IsOver seats array volume
    → MayMove seats array volume image element position reference start)
MayChange config seats image promises other = Unit {0}
