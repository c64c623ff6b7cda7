-- What updates cost, one after another.
use Rattle.std.proofs.Common.{◌≡◌, ℕ, zero, suc, ◌+◌, ◌<◌, ◌≤◌, List, [], ◌∷◌, length, take, get_or, Option, Some, sym, ap, ◌∙◌, subst, arith}
use Rattle.std.proofs.lemmas.List.Sums.{sum_by-take-le, sum_by_more, sum_by_more_le}
use Rattle.std.specs.Prelude.{slice_get}
use Rattle.std.specs.List.{sum_by}
use Rattle.ddf_bay.specs.State.{BayState}
use Rattle.ddf_bay.specs.Moments.{SpendsOver, SpendsWrites}
use Rattle.ddf_bay.proofs.Steps.{over_most, over_then, over_writes}
use Rattle.ddf_update.specs.declared.prepared.Prepared.{Prepared}
use Rattle.ddf_update.specs.Prepared.{all_calls, all_sectors, most_calls, most_sectors}

abbrev some_update : Prepared → Option Prepared
some_update update = Some update

same_update : (one other : Prepared) → some_update one ≡ some_update other → one ≡ other
same_update one other e = cc

get_is : (updates : List Prepared) (place : ℕ) (update : Prepared) → slice_get updates place ≡ Some update → (get_or updates place update ≡ update) × (place < length updates)
get_is [] place update at = absurd cc
get_is (first ∷ updates) zero update at = (same_update first update at, omega arith)
get_is (first ∷ updates) (suc place) update at = let rest = get_is updates place update at in (rest.0, omega (arith, rest.1))

-- the cost of one more, and that it is within the cost of all
cost_more : (cost : Prepared → ℕ) (updates : List Prepared) (place : ℕ) (update : Prepared) → slice_get updates place ≡ Some update
    → (sum_by cost (take place updates) + cost update ≡ sum_by cost (take (place + 1) updates)) × (sum_by cost (take place updates) + cost update ≤ sum_by cost updates)
cost_more cost updates place update at =
    let is = get_is updates place update at in (
      ap (λ (one : Prepared). sum_by cost (take place updates) + cost one) (sym is.0) ∙ sym (sum_by_more cost updates place update is.1),
      subst (λ (one : Prepared). sum_by cost (take place updates) + cost one ≤ sum_by cost updates) is.0 (sum_by_more_le cost updates place update is.1),
    )

module _ (updates : List Prepared) (place : ℕ) where
  pub spends_more : {D : Type 0} {old now next : BayState D} {slot : ℕ} (update : Prepared) → slice_get updates place ≡ Some update
      → SpendsOver old now (all_sectors (take place updates)) (all_calls (take place updates)) → SpendsWrites now next slot (most_sectors update) (most_calls update)
      → SpendsOver old next (all_sectors (take (place + 1) updates)) (all_calls (take (place + 1) updates))
  spends_more update at so_far step =
      let sectors = (cost_more most_sectors updates place update at).0 in
      let calls = (cost_more most_calls updates place update at).0 in
      over_most (all_sectors (take (place + 1) updates)) (all_calls (take (place + 1) updates)) (over_then so_far (over_writes step)) (omega (arith, sectors)) (omega (arith, calls))

  pub spends_within : {D : Type 0} {old now next : BayState D} {slot : ℕ} (update : Prepared) → slice_get updates place ≡ Some update
      → SpendsOver old now (all_sectors (take place updates)) (all_calls (take place updates)) → SpendsWrites now next slot (most_sectors update) (most_calls update)
      → SpendsOver old next (all_sectors updates) (all_calls updates)
  spends_within update at so_far step =
      over_most (all_sectors updates) (all_calls updates) (over_then so_far (over_writes step)) ((cost_more most_sectors updates place update at).1) ((cost_more most_calls updates place update at).1)

  pub spends_all : {D : Type 0} {old now : BayState D} → SpendsOver old now (all_sectors (take place updates)) (all_calls (take place updates)) → SpendsOver old now (all_sectors updates) (all_calls updates)
  spends_all so_far = over_most (all_sectors updates) (all_calls updates) so_far (sum_by-take-le most_sectors updates place) (sum_by-take-le most_calls updates place)
