-- An array whose rebuild rows are set back: what the change before a staged write makes of it (profile).
use Rattle.std.specs.Prelude.{map, option_map}
use Rattle.ddf_config.specs.declared.array.Array.{Array}
use Rattle.ddf_plan.specs.Mark.{without_rows}

-- no rows count as rebuilt any more
abbrev pub set_back : Array → Array
set_back array = record array { elements = map (option_map without_rows) array.elements }
