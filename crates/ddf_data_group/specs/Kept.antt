-- What an array of a configuration keeps, over these seats.
use Rattle.std.specs.Prelude.{ℕ, List}
use Rattle.ddf_bay.specs.Sectors.{Image}
use Rattle.ddf_config.specs.declared.member.Member.{Member}
use Rattle.ddf_config.specs.declared.array.Array.{Array}
use Rattle.ddf_config.specs.declared.seat.Seat.{Seat}
use Rattle.ddf_array.specs.Volume.{Volume}
use Rattle.ddf_data_array.specs.Allowed.{Allowed}
use Rattle.ddf_data_array.specs.Kept.{IsKeptData}
use Rattle.ddf_data_group.specs.Over.{IsOver, absent_in}

-- where its numbers make an array, it keeps its data
abbrev pub KeepsArray : List (ℕ × Member) → List Seat → Array → Image → Allowed → Type 0
KeepsArray members seats array image allowed = (volume : Volume) → IsOver seats array volume → IsKeptData (absent_in members seats array.elements) volume image allowed
