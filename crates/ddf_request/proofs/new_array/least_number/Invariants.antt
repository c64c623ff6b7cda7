use Rattle.std.proofs.Common.{◌≡◌, ◌<◌, ℕ, false}
use Rattle.ddf_request.specs.NewArray.{is_free_number}
use Rattle.ddf_request.proofs.new_array.least_number.Given as goal

abbrev pub invariant-loop-number : goal.invariant-loop-number
invariant-loop-number l = (k : ℕ) → k < l.number → is_free_number l.arrays.entries k ≡ false
