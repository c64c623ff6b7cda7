-- What a change makes of arrays, their low states aside.
use Rattle.std.specs.Prelude.{◌≡◌, ℕ, Bool, false, List, [], ◌∷◌, ◌++◌, Option, Some, None, map, option_map, nat_eq, if◌then◌else◌}
use Rattle.std.specs.Map.{lookup}
use Rattle.std.specs.List.{enumerate_from}
use Rattle.ddf_config.specs.declared.member.Member.{Member}
use Rattle.ddf_config.specs.declared.element.Position.{Position}
use Rattle.ddf_config.specs.declared.array.Array.{Array}
use Rattle.ddf_config.specs.Configuration.{Configuration}
use Rattle.ddf_config.specs.ElementValue.{ElementValue, with_disks}
use Rattle.ddf_config.specs.Entries.{changed_entries}
use Rattle.ddf_config.specs.Extents.{extents}
use Rattle.ddf_config.specs.Members.{same_guid}
use Rattle.ddf_config.specs.States.{with_low_states}
use Rattle.ddf_plan.specs.declared.change.Change.{Change}
use Rattle.ddf_plan.specs.declared.change.Change.TheVariants.{Lose, Create, Delete, Fail, Mark, Unmark, Rewind, Begin, Progress, Finish, Return}
use Rattle.ddf_plan.specs.Create.{created}
use Rattle.ddf_plan.specs.Lose.{lost_array}
use Rattle.ddf_plan.specs.Mark.{marked, rewound, unmarked}
use Rattle.ddf_plan.specs.Members.{members_after}
use Rattle.ddf_plan.specs.Standing.{stand_in_after, takes_revertible}
use Rattle.ddf_plan.specs.Rebuild.{begun, progressed, finished, returned}

-- ---- an element of the array that a change names

-- what a change of one position makes of each, by its number
abbrev pub position_after : Change → ℕ → Position → Position
position_after (Begin array element position reference start) number old = begun position reference start number old
position_after (Progress array element position row) number old = progressed position row number old
position_after (Finish array element position) number old = finished position number old
position_after (Return array element position reference start) number old = returned position reference start number old
position_after other number old = old

-- its positions, and the disk that stands in; the flag tells that a rebuild begins on a revertible spare
abbrev pub element_after : (revertible : Bool) → Change → ElementValue → ElementValue
element_after revertible change element =
    with_disks element (stand_in_after revertible change element)
    (map (λ pair. position_after change pair.0 pair.1) (enumerate_from 0 element.positions))

-- of the elements with their numbers, the named one
abbrev pub part_after : (revertible : Bool) → Change → ℕ → (ℕ × Option ElementValue) → Option ElementValue
part_after revertible change named pair = if nat_eq named pair.0 then option_map (element_after revertible change) pair.1 else pair.1

abbrev pub rebuilding : (revertible : Bool) → Change → ℕ → Array → Array
rebuilding revertible change named array =
    record array { elements = map (part_after revertible change named) (enumerate_from 0 array.elements) }

-- ---- the array that a change names

-- that a change of one array is one of this array
abbrev pub names : Change → List ℕ → Bool
names (Mark named) guid = same_guid named guid
names (Unmark named init) guid = same_guid named guid
names (Rewind named) guid = same_guid named guid
names (Begin named element position reference start) guid = same_guid named guid
names (Progress named element position row) guid = same_guid named guid
names (Finish named element position) guid = same_guid named guid
names (Return named element position reference start) guid = same_guid named guid
names other guid = false

-- what the change makes of it
abbrev pub named_after : (revertible : Bool) → Change → Array → Array
named_after revertible (Mark guid) array = marked array
named_after revertible (Unmark guid init) array = unmarked init array
named_after revertible (Rewind guid) array = rewound array
named_after revertible (Begin guid element position reference start) array =
    rebuilding revertible (Begin guid element position reference start) element array
named_after revertible (Progress guid element position row) array = rebuilding revertible (Progress guid element position row) element array
named_after revertible (Finish guid element position) array = rebuilding revertible (Finish guid element position) element array
named_after revertible (Return guid element position reference start) array =
    rebuilding revertible (Return guid element position reference start) element array
named_after revertible other array = array

-- ---- all arrays

-- what a change makes of an array that stays; the members are those after the change
abbrev pub array_after : (revertible : Bool) → List (ℕ × Member) → Change → List ℕ → Array → Array
array_after revertible members (Lose references) guid array = lost_array members references array
array_after revertible members (Fail failed) guid array = lost_array members (failed ∷ []) array
array_after revertible members other guid array = if names other guid then named_after revertible other array else array

-- that an array leaves the table
abbrev pub is_dropped : Change → List ℕ → Bool
is_dropped (Delete gone) guid = same_guid gone guid
is_dropped other guid = false

abbrev pub kept_array : (revertible : Bool) → List (ℕ × Member) → Change → List ℕ → Array → Option Array
kept_array revertible members change guid array =
    if is_dropped change guid then None else Some (array_after revertible members change guid array)

-- the arrays that a change adds behind the others
abbrev pub arrays_added : Configuration → Change → List (List ℕ × Array)
arrays_added config (Create guid array) = (guid, created config.members (extents config.arrays) array) ∷ []
arrays_added config other = []

-- that a created array's GUID is new among these
abbrev pub HasNewGuid : List (List ℕ × Array) → Change → Type 0
HasNewGuid arrays (Create guid array) = lookup (same_guid guid) arrays ≡ None
HasNewGuid arrays other = Unit {0}

-- all arrays, their low states aside
abbrev pub kept_and_added : Configuration → Change → List (List ℕ × Array)
kept_and_added config change =
    changed_entries (kept_array (takes_revertible config change) (members_after config change) change) config.arrays
    ++ arrays_added config change

abbrev pub arrays_after : Configuration → Change → List (List ℕ × Array)
arrays_after config change = with_low_states (members_after config change) (kept_and_added config change)
