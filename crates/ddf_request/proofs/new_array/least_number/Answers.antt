use Rattle.std.proofs.Common.{◌∙◌, sym, arith}
use Rattle.ddf_request.proofs.Numbers.{least_is, least_none}
use Rattle.ddf_request.proofs.new_array.least_number.Goals as goal

pub returns-then-is_free_number : goal.returns-then-is_free_number
returns-then-is_free_number c = least_is c.args.arrays.now.entries c.loop-number.number (omega (arith, c.loop-number-test.true)) c.loop-number.invariant (sym c.is_free_number.ensures ∙ c.if-is_free_number.true)

pub returns-else-is_free_number : goal.returns-else-is_free_number
returns-else-is_free_number c = least_none c.args.arrays.now.entries c.loop-number.number (omega arith) c.loop-number.invariant (sym c.is_free_number.ensures ∙ c.if-is_free_number.false)
