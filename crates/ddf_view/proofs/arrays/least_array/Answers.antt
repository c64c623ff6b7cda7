use Rattle.std.proofs.Common.{◌∙◌, sym}
use Rattle.ddf_view.proofs.Rows.{no_array_differs}
use Rattle.ddf_view.proofs.arrays.least_array.Goals as goal

pub returns-then-same_arrays : goal.returns-then-same_arrays
returns-then-same_arrays c = sym (no_array_differs c.args.one.now c.args.other.now (sym c.same_arrays.ensures ∙ c.if-same_arrays.true))
