use Rattle.ddf_array.proofs.Apart.{view_apart}
use Rattle.ddf_array.proofs.laws.a_view_is_apart.Goals as goal

pub returns : goal.returns
returns c = view_apart
