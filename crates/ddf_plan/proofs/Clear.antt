-- The extents of a new array: each lies at a free start.
use Rattle.std.proofs.Common.{◌≡◌, ℕ, Bool, true, false, List, [], ◌∷◌, Option, Some, None, map, find, cond, is_none, option_map, option_and_then, unwrap_or, nat_eq, refl, ◌∙◌}
use Rattle.std.specs.Map.{lookup}
use Rattle.std.specs.List.{list_all, flat_map}
use Rattle.std.proofs.lemmas.List.Folds.{list_all-append}
use Rattle.std.proofs.lemmas.Bool.{and_from}
use Rattle.ddf_lemmas.proofs.Lists.{found_passes}
use Rattle.ddf_config.specs.declared.member.Member.{Member}
use Rattle.ddf_config.specs.declared.element.Position.{Position}
use Rattle.ddf_config.specs.declared.extent.Extent.{Extent}
use Rattle.ddf_config.specs.declared.seat.Seat.{Seat}
use Rattle.ddf_config.specs.declared.refusal.Refusal.{Refusal}
use Rattle.ddf_config.specs.Configuration.{Configuration}
use Rattle.ddf_config.specs.ElementValue.{ElementValue}
use Rattle.ddf_config.specs.Extents.{extent, part_extents, extents, extents_on, ranges}
use Rattle.ddf_config.specs.Room.{is_free, multiples, least_start_of, start_on}
use Rattle.ddf_config.specs.Unusable.{passes_floor}
use Rattle.ddf_config.specs.Refusals.{first_refusal, part_refusal}
use Rattle.ddf_plan.specs.Create.{element_strip, laid_position, laid_element, lies_clear}
use Rattle.ddf_plan.specs.CreateRefusal.{no_extent}
use Rattle.ddf_plan.specs.Floors.{extent_refusal, lacks_extent}

pub least_is_free : (taken : List (ℕ × ℕ)) (size strip blocks start : ℕ) → least_start_of taken size strip blocks ≡ Some start → is_free taken size blocks start ≡ true
unfolding least_start_of
least_is_free taken size strip blocks start e = found_passes (is_free taken size blocks) (multiples strip size) start e

module _ (members : List (ℕ × Member)) (all : List Extent) (strip blocks : ℕ) where
  start_is_clear : (reference start : ℕ) → start_on members all strip blocks reference ≡ Some start → lies_clear members all (extent blocks (record { reference = reference; start = start; synced = true; row = 0 })) ≡ true
  start_is_clear reference start e = by (lookup (nat_eq reference) members) e
    where
      by : (r : Option Member) → option_and_then (λ (member : Member). least_start_of (ranges (extents_on reference all)) member.size strip blocks) r ≡ Some start → (elim r [ None ↦ false | Some member ↦ is_free (ranges (extents_on reference all)) member.size blocks start ]) ≡ true
      by None h = absurd (cc)
      by (Some member) h = least_is_free (ranges (extents_on reference all)) member.size strip blocks start h

  position_is_clear : (position : Position) → is_none (start_on members all strip blocks position.reference) ≡ false → lies_clear members all (extent blocks (laid_position members all strip blocks position)) ≡ true
  position_is_clear position e = by (start_on members all strip blocks position.reference) refl e
    where
      by : (r : Option ℕ) → start_on members all strip blocks position.reference ≡ r → is_none r ≡ false → lies_clear members all (extent blocks (record position { start = unwrap_or r position.start })) ≡ true
      by None at h = absurd (cc)
      by (Some start) at h = start_is_clear position.reference start at

module _ (config : Configuration) (floors : List Seat) (strip blocks : ℕ) where
  -- a position with room has a start
  has_start : (position : Position) → lacks_extent config floors strip blocks position ≡ false → is_none (start_on config.members (extents config.arrays) strip blocks position.reference) ≡ false
  has_start position h = by (start_on config.members (extents config.arrays) strip blocks position.reference) h
    where
      by : (found : Option ℕ) → (elim found [ None ↦ true | Some start ↦ passes_floor floors (extent blocks (record position { start = start })) ]) ≡ false → is_none found ≡ false
      by None at = at
      by (Some start) at = refl

  positions_are_clear : (positions : List Position) → find (lacks_extent config floors strip blocks) positions ≡ None → list_all (lies_clear config.members (extents config.arrays)) (map (extent blocks) (map (laid_position config.members (extents config.arrays) strip blocks) positions)) ≡ true
  positions_are_clear [] e = refl
  positions_are_clear (position ∷ positions) e = by (lacks_extent config floors strip blocks position) refl (positions_are_clear positions) e
    where
      by : (b : Bool) → lacks_extent config floors strip blocks position ≡ b → (find (lacks_extent config floors strip blocks) positions ≡ None → list_all (lies_clear config.members (extents config.arrays)) (map (extent blocks) (map (laid_position config.members (extents config.arrays) strip blocks) positions)) ≡ true) → cond b (Some position) (find (lacks_extent config floors strip blocks) positions) ≡ None → list_all (lies_clear config.members (extents config.arrays)) (map (extent blocks) (map (laid_position config.members (extents config.arrays) strip blocks) (position ∷ positions))) ≡ true
      by true at rest h = absurd (cc)
      by false at rest h =
          and_from _ _ (position_is_clear config.members (extents config.arrays) strip blocks position (has_start position at)) (rest h)

module _ (config : Configuration) (floors seats : List Seat) (elements : ℕ) where
  part_is_clear : (part : Option ElementValue) → extent_refusal config floors seats elements part ≡ None → list_all (lies_clear config.members (extents config.arrays)) (part_extents (option_map (laid_element config.members (extents config.arrays) elements) part)) ≡ true
  part_is_clear None e = refl
  part_is_clear (Some element) e =
      positions_are_clear config floors (element_strip elements element) element.blocks element.positions
      (by (find (lacks_extent config floors (element_strip elements element) element.blocks) element.positions) e)
    where
      by : (first : Option Position) → no_extent seats first ≡ None → first ≡ None
      by None h = refl
      by (Some position) h = absurd (cc)

  pub parts_are_clear : (parts : List (Option ElementValue)) → part_refusal (extent_refusal config floors seats elements) parts ≡ None → list_all (lies_clear config.members (extents config.arrays)) (flat_map part_extents (map (option_map (laid_element config.members (extents config.arrays) elements)) parts)) ≡ true
  parts_are_clear [] e = refl
  parts_are_clear (part ∷ parts) e = by (extent_refusal config floors seats elements part) refl (parts_are_clear parts) e
    where
      by : (r : Option Refusal) → extent_refusal config floors seats elements part ≡ r → (part_refusal (extent_refusal config floors seats elements) parts ≡ None → list_all (lies_clear config.members (extents config.arrays)) (flat_map part_extents (map (option_map (laid_element config.members (extents config.arrays) elements)) parts)) ≡ true) → ◌≡◌ {A = Option Refusal} (elim r [ None ↦ first_refusal (map (extent_refusal config floors seats elements) parts) | Some refusal ↦ Some refusal ]) None → list_all (lies_clear config.members (extents config.arrays)) (flat_map part_extents (map (option_map (laid_element config.members (extents config.arrays) elements)) (part ∷ parts))) ≡ true
      by None at rest h =
          list_all-append (lies_clear config.members (extents config.arrays))
          (part_extents (option_map (laid_element config.members (extents config.arrays) elements) part))
          (flat_map part_extents (map (option_map (laid_element config.members (extents config.arrays) elements)) parts))
          ∙ and_from _ _ (part_is_clear part at) (rest h)
      by (Some refusal) at rest h = absurd (cc)
