-- The state byte of an array: the low state in bits 0 to 2, the mark of one that isn't consistent in bit 4.
use Rattle.std.specs.Prelude.{ℕ, ◌+◌, ◌*◌, ◌/◌, ◌%◌, Bool, false, not, ◌&&◌, ◌==◌, List, Option, Some, None, if◌then◌else◌}
use Rattle.std.specs.List.{list_any}
use Rattle.ddf_config.specs.declared.member.Member.{Member}
use Rattle.ddf_config.specs.declared.element.Position.{Position}
use Rattle.ddf_config.specs.declared.array.Array.{Array}
use Rattle.ddf_config.specs.declared.extent.Extent.{Extent}
use Rattle.ddf_config.specs.ElementValue.{ElementValue}
use Rattle.ddf_config.specs.Entries.{changed_entries}
use Rattle.ddf_config.specs.Within.{is_available, is_within, is_complete}
use Rattle.ddf_config.specs.Extents.{extents}
use Rattle.ddf_config.specs.Served.{is_served}

-- bit 4: not consistent
abbrev pub is_marked : Array → Bool
is_marked array = array.state / 16 % 2 == 1

-- low state 2: deleted
abbrev pub is_deleted : Array → Bool
is_deleted array = array.state % 8 == 2

abbrev pub is_out : Position → Bool
is_out position = not position.synced

abbrev pub has_position_out : Option ElementValue → Bool
has_position_out part = elim part [ None ↦ false | Some element ↦ list_any is_out element.positions ]

-- 4 (failed) where the array isn't within its level by the configuration alone, else 1 (degraded) where a
-- position is out of sync, else 0 (optimal)
abbrev pub low_state : List (ℕ × Member) → Array → ℕ
low_state members array =
    if not (is_within (is_available members) array) then 4
    else (if list_any has_position_out array.elements then 1 else 0)

-- the arrays that get their low states: those that are complete, served and not deleted
abbrev pub takes_low_state : List (ℕ × Member) → List Extent → Array → Bool
takes_low_state members all array = is_complete array && not (is_deleted array) && is_served members all array

abbrev pub state_with_low : List (ℕ × Member) → List Extent → Array → ℕ
state_with_low members all array =
    if takes_low_state members all array then array.state / 8 * 8 + low_state members array else array.state

abbrev pub array_with_low : List (ℕ × Member) → List Extent → Array → Array
array_with_low members all array = record array { state = state_with_low members all array }

abbrev pub all_with_low : List (ℕ × Member) → List Extent → List (List ℕ × Array) → List (List ℕ × Array)
all_with_low members all arrays = changed_entries (λ guid array. Some (array_with_low members all array)) arrays

-- the arrays with their low states, among their own extents
abbrev pub with_low_states : List (ℕ × Member) → List (List ℕ × Array) → List (List ℕ × Array)
with_low_states members arrays = all_with_low members (extents arrays) arrays
