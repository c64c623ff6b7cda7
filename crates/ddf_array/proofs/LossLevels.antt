-- An array that is within its level after a loss was so before.
use Rattle.std.proofs.Common.{◌≡◌, ◌∙◌, ⊎_elim, ℕ, zero, suc, ◌+◌, ◌≤◌, Bool, true, false, not, List, [], ◌∷◌, Option, Some, None, refl, sym, ap, arith, map, length, get_or, ◌&&◌}
use Rattle.std.specs.Prelude.{nat_le, is_some, count_by, if◌then◌else◌}
use Rattle.std.specs.List.{list_any, list_all}
use Rattle.std.proofs.lemmas.Bool.{leb-true, le-leb}
use Rattle.std.proofs.lemmas.List.Sums.{sum_by-cons}
use Rattle.ddf_lemmas.proofs.Tests.{and_first, and_keeps, and_second, one_less_where_kept, or_keeps}
use Rattle.ddf_primary.specs.declared.need.Need.{Need}
use Rattle.ddf_primary.specs.declared.need.Need.TheVariants.{All, One, AllButOne, Neighbours}
use Rattle.ddf_primary.specs.Placement.{Placement}
use Rattle.ddf_primary.specs.Needs.{need_by}
use Rattle.ddf_primary.proofs.Enough.{enough_more}
use Rattle.ddf_secondary.specs.Arrangement.{Arrangement}
use Rattle.ddf_config.specs.Within.{has_enough}
use Rattle.ddf_array.specs.declared.place.Place.{Place}
use Rattle.ddf_array.specs.declared.part.Part.{Part}
use Rattle.ddf_array.specs.Places.{is_available}
use Rattle.ddf_array.specs.Cells.{is_in_every}
use Rattle.ddf_array.specs.Volume.{Volume}
use Rattle.ddf_array.specs.Within.{is_part_within, is_mirrored, is_within}
use Rattle.ddf_array.specs.Losing.{IsLostPlace, AreLostPlaces, AreLostParts, IsLoss}
use Rattle.ddf_array.proofs.Losses.{same_parts}

-- ---- places

none_there : (slot : Option ℕ) → slot ≡ None → is_some slot ≡ true → ⊥
none_there None is e = cc
none_there (Some s) is e = cc

available_keeps : (before after : Place) → IsLostPlace before after → is_available after ≡ true → is_available before ≡ true
available_keeps before after lost e =
    let synced = sym lost.same_sync ∙ and_first after.synced (is_some after.slot) e in
    let there = and_second after.synced (is_some after.slot) e in
    ap (λ b. b && is_some before.slot) synced
    ∙ ⊎_elim (λ same. ap is_some (sym same) ∙ there) (λ none. absurd (none_there after.slot none there)) lost.slot_is

any_keeps : (befores afters : List Place) → AreLostPlaces befores afters → list_any is_available afters ≡ true → list_any is_available befores ≡ true
any_keeps [] [] lost e = e
any_keeps [] (after ∷ afters) lost e = absurd lost
any_keeps (before ∷ befores) [] lost e = absurd lost
any_keeps (before ∷ befores) (after ∷ afters) lost e =
    or_keeps (is_available after) (is_available before) (list_any is_available afters) (list_any is_available befores) (available_keeps before after lost.0) (any_keeps befores afters lost.1) e

all_keeps : (befores afters : List Place) → AreLostPlaces befores afters → list_all is_available afters ≡ true → list_all is_available befores ≡ true
all_keeps [] [] lost e = e
all_keeps [] (after ∷ afters) lost e = absurd lost
all_keeps (before ∷ befores) [] lost e = absurd lost
all_keeps (before ∷ befores) (after ∷ afters) lost e =
    and_keeps (is_available after) (is_available before) (list_all is_available afters) (list_all is_available befores) (available_keeps before after lost.0) (all_keeps befores afters lost.1) e

abbrev pub away : List Place → ℕ
away places = count_by (λ place. not (is_available place)) places

fewer_away : (befores afters : List Place) → AreLostPlaces befores afters → away befores ≤ away afters
fewer_away [] [] lost = omega arith
fewer_away [] (after ∷ afters) lost = absurd lost
fewer_away (before ∷ befores) [] lost = absurd lost
fewer_away (before ∷ befores) (after ∷ afters) lost =
    let weight : Place → ℕ = λ place. if not (is_available place) then 1 else 0 in
    let old : away (before ∷ befores) ≡ weight before + away befores = sum_by-cons weight before befores in
    let new : away (after ∷ afters) ≡ weight after + away afters = sum_by-cons weight after afters in
    let one : weight before ≤ weight after = one_less_where_kept (is_available before) (is_available after) (available_keeps before after lost.0) in
    omega (arith, old, new, one, fewer_away befores afters lost.1)

lost_count : (befores afters : List Place) → AreLostPlaces befores afters → length (map is_available afters) ≡ length (map is_available befores)
lost_count [] [] lost = refl
lost_count [] (after ∷ afters) lost = absurd lost
lost_count (before ∷ befores) [] lost = absurd lost
lost_count (before ∷ befores) (after ∷ afters) lost = ap suc (lost_count befores afters lost.1)

lost_there : (befores afters : List Place) → AreLostPlaces befores afters → (n : ℕ) → get_or (map is_available afters) n false ≡ true → get_or (map is_available befores) n false ≡ true
lost_there [] [] lost n e = e
lost_there [] (after ∷ afters) lost n e = absurd lost
lost_there (before ∷ befores) [] lost n e = absurd lost
lost_there (before ∷ befores) (after ∷ afters) lost zero e = available_keeps before after lost.0 e
lost_there (before ∷ befores) (after ∷ afters) lost (suc n) e = lost_there befores afters lost.1 n e

enough_by : (need : Need) (befores afters : List Place) → AreLostPlaces befores afters → has_enough need is_available afters ≡ true → has_enough need is_available befores ≡ true
enough_by All befores afters lost e = all_keeps befores afters lost e
enough_by One befores afters lost e = any_keeps befores afters lost e
enough_by AllButOne befores afters lost e =
    let few = leb-true (away afters) 1 e in
    le-leb (away befores) 1 (omega (arith, few, fewer_away befores afters lost))
enough_by (Neighbours spread) befores afters lost e =
    enough_more spread (map is_available afters) (map is_available befores) (lost_count befores afters lost) (lost_there befores afters lost) e

-- ---- elements

part_keeps : (before after : Part) → after.shape ≡ before.shape → AreLostPlaces before.places after.places → is_part_within after ≡ true → is_part_within before ≡ true
part_keeps before after same lost e =
    enough_by (need_by before.shape.layout) before.places after.places lost
    (ap (λ (s : Placement). has_enough (need_by s.layout) is_available after.places) (sym same) ∙ e)

any_part : (befores afters : List Part) → AreLostParts befores afters → list_any is_part_within afters ≡ true → list_any is_part_within befores ≡ true
any_part [] [] lost e = e
any_part [] (after ∷ afters) lost e = absurd lost
any_part (before ∷ befores) [] lost e = absurd lost
any_part (before ∷ befores) (after ∷ afters) lost e =
    or_keeps (is_part_within after) (is_part_within before) (list_any is_part_within afters) (list_any is_part_within befores) (part_keeps before after lost.0.0 lost.0.1) (any_part befores afters lost.1) e

all_part : (befores afters : List Part) → AreLostParts befores afters → list_all is_part_within afters ≡ true → list_all is_part_within befores ≡ true
all_part [] [] lost e = e
all_part [] (after ∷ afters) lost e = absurd lost
all_part (before ∷ befores) [] lost e = absurd lost
all_part (before ∷ befores) (after ∷ afters) lost e =
    and_keeps (is_part_within after) (is_part_within before) (list_all is_part_within afters) (list_all is_part_within befores) (part_keeps before after lost.0.0 lost.0.1) (all_part befores afters lost.1) e

parts_by : (mirrored : Bool) (befores afters : List Part) → AreLostParts befores afters → (if mirrored then list_any is_part_within afters else list_all is_part_within afters) ≡ true
    → (if mirrored then list_any is_part_within befores else list_all is_part_within befores) ≡ true
parts_by true befores afters lost e = any_part befores afters lost e
parts_by false befores afters lost e = all_part befores afters lost e

pub was_within : (before after : Volume) → IsLoss before after → is_within after ≡ true → is_within before ≡ true
was_within before after loss e =
    let mirrored : is_mirrored before ≡ is_mirrored after =
    ap (λ (t : Arrangement). is_in_every t.level && nat_le 2 (length before.parts)) (sym loss.same_tiers)
    ∙ ap (λ (n : ℕ). is_in_every after.tiers.level && nat_le 2 n) (sym (same_parts before.parts after.parts loss.lost_parts)) in
    parts_by (is_mirrored before) before.parts after.parts loss.lost_parts
    (ap (λ b. if b then list_any is_part_within after.parts else list_all is_part_within after.parts) mirrored ∙ e)
