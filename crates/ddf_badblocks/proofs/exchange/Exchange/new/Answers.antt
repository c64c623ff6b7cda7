use Rattle.std.proofs.Common.{◌≡◌, ◌&&◌, true, false, sym, ap, ◌∙◌, rules}
use Rattle.std.specs.List.{list_all, sum_by}
use Rattle.std.proofs.lemmas.Bool.{and_parts}
use Rattle.std.proofs.lemmas.List.Sorted.{IsNonDecreasingBy-from_sort_by_key, sum_by-IsPermutation}
use Rattle.ddf_badblocks.specs.declared.side.Side.{Side}
use Rattle.ddf_badblocks.specs.Sides.{has_some, in_row, sides_of}
use Rattle.ddf_badblocks.proofs.Apart.{not_apart}
use Rattle.ddf_badblocks.proofs.exchange.Exchange.new.Goals as goal

pub returns-else-are_apart : goal.returns-else-are_apart
returns-else-are_apart c = λ size.
    let sides = c.sort_unstable_by_key.new.self.items in
    let fails : (list_all has_some sides && in_row 0 sides) ≡ false = rw c.as_slice-2.ensures.value at (sym c.are_apart.ensures ∙ c.if-are_apart.false) in
    not_apart size c.args.ranges.items sides
    (λ f. sum_by-IsPermutation f _ sides c.sort_unstable_by_key.ensures.permutation ∙ ap (sum_by f) (c.in_ok-sides.ensures ∙ ap sides_of c.as_slice.ensures.value))
    (IsNonDecreasingBy-from_sort_by_key (λ (side : Side). side.first) _ c.sort_unstable_by_key.ensures.sorted (λ a r q k. search rules))
    fails

pub invariant_of-result : goal.invariant_of-result
invariant_of-result c =
    let sides = c.sort_unstable_by_key.new.self.items in
    let holds : (list_all has_some sides && in_row 0 sides) ≡ true = rw c.as_slice-2.ensures.value at (sym c.are_apart.ensures ∙ c.if-are_apart.true) in
    let parts = and_parts (list_all has_some sides) (in_row 0 sides) holds in
    record {
      same = λ f. sum_by-IsPermutation f _ sides c.sort_unstable_by_key.ensures.permutation ∙ ap (sum_by f) (c.in_ok-sides.ensures ∙ ap sides_of c.as_slice.ensures.value);
      some = parts.0;
      row = parts.1;
    }
