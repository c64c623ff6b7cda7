use Rattle.std.proofs.Common.{◌∙◌}
use Rattle.ddf_lemmas.proofs.Lists.{zip_matches}
use Rattle.ddf_view.specs.Differ.{same_array_row}
use Rattle.ddf_view.proofs.arrays.same_arrays.Goals as goal

pub returns-then-one-other : goal.returns-then-one-other
returns-then-one-other c = c.each_same_array.ensures ∙ zip_matches same_array_row c.args.one.now c.args.other.now c.if-one-other.true
