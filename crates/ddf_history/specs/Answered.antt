-- What two copies of one slot that differ have in common.
use Rattle.std.specs.Prelude.{◌≡◌, List}
use Rattle.std.specs.List.{AllByRecursion}
use Rattle.ddf_group.specs.declared.shown.Shown.{Shown}
use Rattle.ddf_group.specs.declared.shown.Shown.TheVariants.{TwoDiffer}

-- They are of one group and one sequence. Copies that were read under one anchor are.
abbrev pub IsOfOneGroup : Shown → Type 0
IsOfOneGroup (TwoDiffer primary secondary) = (primary.group ≡ secondary.group) × (primary.sequence ≡ secondary.sequence)
IsOfOneGroup shown = Unit {0}

abbrev pub AreOfOneGroup : List Shown → Type 0
AreOfOneGroup slots = AllByRecursion IsOfOneGroup slots
