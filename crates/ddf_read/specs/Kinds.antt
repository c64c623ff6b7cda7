-- The sources of a block, kind by kind.
use Rattle.std.specs.Prelude.{ℕ, List, map}
use Rattle.ddf_array.specs.declared.part.Part.{Part}
use Rattle.ddf_array.specs.Volume.{Volume}
use Rattle.ddf_array.specs.Sources.{Source, copy, row, copies, rows, element_copies, element_rows}
use Rattle.ddf_read.specs.declared.kind.Kind.{Kind}
use Rattle.ddf_read.specs.declared.kind.Kind.TheVariants.{Copies, Rows}

-- those of a block of an element
abbrev pub sources_in : Kind → Part → ℕ → List Source
sources_in Copies part block = map copy (element_copies part block)
sources_in Rows part block = map row (element_rows part block)

-- those of a block of the array
abbrev pub sources_of : Kind → Volume → ℕ → List Source
sources_of Copies volume block = map copy (copies volume block)
sources_of Rows volume block = map row (rows volume block)
