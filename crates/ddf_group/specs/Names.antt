-- Slots whose copies name each disk and each array once, as copies do that were read.
use Rattle.std.specs.Prelude.{List, [], ◌∷◌, IfSome}
use Rattle.std.specs.List.{AllByRecursion}
use Rattle.ddf_view.specs.Readable.{DoNamesDiffer}
use Rattle.ddf_group.specs.declared.shown.Shown.{Shown}
use Rattle.ddf_group.specs.Slots.{view_in}

abbrev pub IsNamed : Shown → Type 0
IsNamed shown = IfSome (view_in shown) (λ view. DoNamesDiffer (view ∷ []))

abbrev pub AreNamed : List Shown → Type 0
AreNamed slots = AllByRecursion IsNamed slots
