-- What an array has that can be used.
use Rattle.std.proofs.Common.{◌≡◌, ℕ, Bool, true, false, List, [], ◌∷◌, None, refl, ◌&&◌, ◌||◌, not}
use Rattle.std.specs.Prelude.{is_some}
use Rattle.std.specs.List.{list_all, list_any}
use Rattle.std.proofs.lemmas.Bool.{not-true}
use Rattle.ddf_lemmas.proofs.Tests.{and_first, and_second}
use Rattle.ddf_config.specs.declared.member.Member.{Member}
use Rattle.ddf_config.specs.declared.array.Array.{Array}
use Rattle.ddf_config.specs.declared.extent.Extent.{Extent}
use Rattle.ddf_config.specs.declared.seat.Seat.{Seat}
use Rattle.ddf_config.specs.declared.refusal.Refusal.{Refusal}
use Rattle.ddf_config.specs.declared.refusal.Refusal.TheVariants.{Shape, Lost}
use Rattle.ddf_config.specs.Extents.{array_extents}
use Rattle.ddf_config.specs.Levels.{unserved_level}
use Rattle.ddf_config.specs.Refusals.{refuse_if}
use Rattle.ddf_config.specs.Served.{is_served, lies_well}
use Rattle.ddf_config.specs.Shapes.{array_tiers, has_shapes, has_tiers}
use Rattle.ddf_config.specs.Unusable.{passes_floor, is_served_on, unusable}
use Rattle.ddf_config.specs.Within.{is_complete}
use Rattle.ddf_config.proofs.Firsts.{all_pass}

pub holds : (b : Bool) (refusal : Refusal) → refuse_if (not b) refusal ≡ None → b ≡ true
holds true refusal e = refl
holds false refusal e = absurd (cc)

there_by : (complete there : Bool) → complete ≡ true → (not complete || there) ≡ true → there ≡ true
there_by true there is e = e
there_by false there is e = absurd (cc)

module _ (members : List (ℕ × Member)) (seats : List Seat) (all : List Extent) (guid : List ℕ) (array : Array) (usable : unusable members seats all guid array ≡ None) where
  served_on : is_served_on members seats all array ≡ true
  served_on = holds (is_served_on members seats all array) Shape
      (all_pass (unserved_level guid array ∷ []) (refuse_if (not (is_served_on members seats all array)) Shape) (refuse_if (not (is_complete array)) Lost ∷ []) usable)

  pub complete : is_complete array ≡ true
  complete = holds (is_complete array) Lost
      (all_pass (unserved_level guid array ∷ refuse_if (not (is_served_on members seats all array)) Shape ∷ []) (refuse_if (not (is_complete array)) Lost) [] usable)

  pub below_floors : list_any (passes_floor seats) (array_extents array) ≡ false
  below_floors = not-true _ (and_second (is_served members all array) (not (list_any (passes_floor seats) (array_extents array))) served_on)

  pub shapes : has_shapes array ≡ true
  shapes =
      and_first (has_shapes array) (has_tiers array)
      (and_first (has_shapes array && has_tiers array) (list_all (lies_well members all) (array_extents array))
      (and_first (is_served members all array) (not (list_any (passes_floor seats) (array_extents array))) served_on))

  pub lie_well : list_all (lies_well members all) (array_extents array) ≡ true
  lie_well =
      and_second (has_shapes array && has_tiers array) (list_all (lies_well members all) (array_extents array))
      (and_first (is_served members all array) (not (list_any (passes_floor seats) (array_extents array))) served_on)

  has_its_tiers : has_tiers array ≡ true
  has_its_tiers =
      and_second (has_shapes array) (has_tiers array)
      (and_first (has_shapes array && has_tiers array) (list_all (lies_well members all) (array_extents array))
      (and_first (is_served members all array) (not (list_any (passes_floor seats) (array_extents array))) served_on))

  pub tiers : is_some (array_tiers array) ≡ true
  tiers = there_by (is_complete array) (is_some (array_tiers array)) complete has_its_tiers
