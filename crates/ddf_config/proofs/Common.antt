-- What several crates above ask of the definitions of this one.
use Rattle.std.proofs.Common.{Bool, List, None, Option, Some, ap, arith, false, if◌then◌else◌, map, not, refl, sym, true, ℕ, ◌∙◌, ◌∷◌, ◌≡◌, ◌≤◌}
use Rattle.std.proofs.lemmas.Cmp.{nat_list_eq_equiv}
use Rattle.std.specs.List.{list_all, list_any}
use Rattle.ddf_lemmas.proofs.Lists.{all_map, any_map}
use Rattle.ddf_config.specs.Members.{same_guid}
use Rattle.ddf_config.specs.Refusals.{first_refusal}
use Rattle.ddf_config.specs.States.{has_position_out, low_state}
use Rattle.ddf_config.specs.Within.{has_enough_parts, is_available, is_within}
use Rattle.ddf_config.specs.declared.array.Array.{Array}
use Rattle.ddf_config.specs.declared.member.Member.{Member}
use Rattle.ddf_config.specs.declared.refusal.Refusal.{Refusal}

pub low_small : (members : List (ℕ × Member)) (array : Array) → low_state members array ≤ 4
low_small members array = by (not (is_within (is_available members) array)) (list_any has_position_out array.elements)
  where
    by : (a b : Bool) → (if a then 4 else (if b then 1 else 0)) ≤ 4
    by true b = omega arith
    by false true = omega arith
    by false false = omega arith

pub same_self : (guid : List ℕ) → same_guid guid guid ≡ true
same_self guid = nat_list_eq_equiv.refl guid

-- a level asks only which positions are available
pub enough_parts : {X : Type 0} (mirrored : Bool) (test : X → Bool) (xs ys : List X) → map test xs ≡ map test ys → has_enough_parts mirrored test xs ≡ has_enough_parts mirrored test ys
enough_parts true test xs ys same = any_map test xs ∙ ap (list_any (λ b. b)) same ∙ sym (any_map test ys)
enough_parts false test xs ys same = all_map test xs ∙ ap (list_all (λ b. b)) same ∙ sym (all_map test ys)

pub pass_more : (a : Option Refusal) (others : List (Option Refusal)) → a ≡ None → first_refusal others ≡ None → first_refusal (a ∷ others) ≡ None
pass_more None others p rest = rest
pass_more (Some refusal) others p rest = absurd cc
