-- Configurations whose records tell all of them: what every configuration that copies give has, and what a change keeps.
use Rattle.std.specs.Prelude.{◌≡◌, ℕ, ◌==◌, true, false, List, [], map, filter, slice_get, Some}
use Rattle.std.specs.List.{IsDistinct}
use Rattle.ddf_config.specs.declared.member.SpareUse.TheVariants as uses
use Rattle.ddf_config.specs.declared.member.Member.{Member}
use Rattle.ddf_config.specs.declared.element.Position.{Position}
use Rattle.ddf_config.specs.declared.array.Array.{Array}
use Rattle.ddf_config.specs.ElementValue.{ElementValue as ElementPlan}
use Rattle.ddf_config.specs.Configuration.{Configuration}
use Rattle.ddf_rewrite.specs.declared.item.Item.TheVariants as items
use Rattle.ddf_rewrite.specs.Wanted.{Wanted, all_wanted}
use Rattle.ddf_rewrite.specs.Elements.{is_spare_for, no_reference}
use Rattle.ddf_rewrite.specs.Placement.{is_item}

-- At most one position of an element is being rebuilt.
abbrev pub OneRebuilt : ElementPlan → Type 0
OneRebuilt plan = (i j : ℕ) (one other : Position) → slice_get plan.positions i ≡ Some one → slice_get plan.positions j ≡ Some other → (one.row == 0) ≡ false → (other.row == 0) ≡ false → i ≡ j

-- No two arrays have one GUID, and no element stands twice.
pub record HasOwnNames (config : Configuration) : Type 0 where
  pub guids : (i j : ℕ) (one other : List ℕ × Array) → slice_get config.arrays i ≡ Some one → slice_get config.arrays j ≡ Some other → one.0 ≡ other.0 → one ≡ other
  pub elements : IsDistinct is_item (map (λ wanted. items.Element wanted.guid wanted.index) (all_wanted config))

-- that of each element
abbrev pub AreRebuilt : Configuration → Type 0
AreRebuilt config = (i : ℕ) (wanted : Wanted) → slice_get (all_wanted config) i ≡ Some wanted → OneRebuilt wanted.plan

-- Each reference is of one member and names a disk. The arrays of a dedicated spare are one or more, in table order, and each has
-- an element that is known.
pub record HasSpares (config : Configuration) : Type 0 where
  pub apart : (i j : ℕ) (one other : ℕ × Member) → slice_get config.members i ≡ Some one → slice_get config.members j ≡ Some other → one.0 ≡ other.0 → one ≡ other
  pub named : (i : ℕ) (one : ℕ × Member) → slice_get config.members i ≡ Some one → (one.0 == no_reference) ≡ false
  pub listed : (i : ℕ) (one : ℕ × Member) (arrays : List (List ℕ)) → slice_get config.members i ≡ Some one → one.1.spare ≡ uses.Dedicated arrays
      → (filter (λ guid. is_spare_for guid (uses.Dedicated arrays)) (map (λ entry. entry.0) config.arrays) ≡ arrays) × (arrays ≡ [] → ⊥)
  pub held : (i a : ℕ) (one : ℕ × Member) (entry : List ℕ × Array) → slice_get config.members i ≡ Some one → slice_get config.arrays a ≡ Some entry → is_spare_for entry.0 one.1.spare ≡ true
      → (e : ℕ) × (plan : ElementPlan) × (slice_get entry.1.elements e ≡ Some (Some plan))
