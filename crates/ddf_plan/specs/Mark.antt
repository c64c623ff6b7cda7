-- The mark of an array that isn't consistent, and the rows that count as rebuilt: what setting and clearing the mark and forgetting the rows
-- make of the array.
use Rattle.std.specs.Prelude.{ℕ, ◌+◌, ◌-◌, ◌*◌, ◌/◌, ◌%◌, map, option_map, if◌then◌else◌}
use Rattle.ddf_config.specs.declared.element.Position.{Position}
use Rattle.ddf_config.specs.declared.array.Array.{Array}
use Rattle.ddf_config.specs.ElementValue.{ElementValue, with_positions}
use Rattle.ddf_config.specs.States.{is_marked}

-- bit 4: not consistent
abbrev pub mark : ℕ
mark = 0x10

-- every other bit stays
abbrev pub marked_state : Array → ℕ
marked_state array = if is_marked array then array.state else array.state + mark

abbrev pub unmarked_state : Array → ℕ
unmarked_state array = if is_marked array then array.state - mark else array.state

-- ---- rows that are rebuilt

abbrev pub without_row : Position → Position
without_row position = record position { row = 0 }

abbrev pub without_rows : ElementValue → ElementValue
without_rows element = with_positions element (map without_row element.positions)

-- ---- arrays

-- a marked array, with no row rebuilt: what its disks hold may be at odds in any row
abbrev pub marked : Array → Array
marked array = record array { elements = map (option_map without_rows) array.elements; state = marked_state array }

-- an array with no row rebuilt
abbrev pub rewound : Array → Array
rewound array = record array { elements = map (option_map without_rows) array.elements }

-- how far the array was initialized is in the two low bits of its init byte; the others stay
abbrev pub with_init : ℕ → ℕ → ℕ
with_init init given = init / 4 * 4 + given % 4

-- an array without its mark, initialized so far
abbrev pub unmarked : ℕ → Array → Array
unmarked init array = record array { state = unmarked_state array; init = with_init array.init init }
