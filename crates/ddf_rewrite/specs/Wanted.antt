-- The elements of which a group keeps records: all those of its configuration that are known.
use Rattle.std.specs.Prelude.{ℕ, Bool, ◌==◌, List, filter_map, Option, option_map}
use Rattle.std.specs.List.{enumerate_from, flat_map, list_any}
use Rattle.ddf_config.specs.declared.array.Array.{Array}
use Rattle.ddf_config.specs.ElementValue.{ElementValue as ElementPlan}
use Rattle.ddf_config.specs.Configuration.{Configuration}

-- an element of an array: the array, its place and what it is
pub record Wanted : Type 0 where
  pub guid : List ℕ
  pub array : Array
  pub index : ℕ
  pub plan : ElementPlan

abbrev pub wanted_at : (List ℕ × Array) → (ℕ × Option ElementPlan) → Option Wanted
wanted_at entry pair = option_map (λ plan. record { guid = entry.0; array = entry.1; index = pair.0; plan = plan }) pair.1

-- those of an array
abbrev pub wanted_of : (List ℕ × Array) → List Wanted
wanted_of entry = filter_map (wanted_at entry) (enumerate_from 0 entry.1.elements)

-- every element that is known, by table order of the arrays and by its place
unfoldable pub all_wanted : Configuration → List Wanted
all_wanted config = flat_map wanted_of config.arrays

-- an element has a position on a disk
abbrev pub refers_to : ElementPlan → (reference : ℕ) → Bool
refers_to plan reference = list_any (λ position. position.reference == reference) plan.positions
