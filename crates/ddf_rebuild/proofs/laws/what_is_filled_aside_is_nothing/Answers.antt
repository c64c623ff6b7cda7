use Rattle.ddf_cells.proofs.Alike.{redundant_same, value_same}
use Rattle.ddf_rebuild.proofs.Kept.{alike_filled, wanted_alike}
use Rattle.ddf_rebuild.proofs.laws.what_is_filled_aside_is_nothing.Goals as goal

pub returns-clause-cells : goal.returns-clause-cells
returns-clause-cells c = λ sizes v element slot start before image aside stays. alike_filled sizes v element slot start aside before image stays

pub returns-clause-values : goal.returns-clause-values
returns-clause-values c = λ sizes v element slot start block before image known aside stays. value_same v known before image (alike_filled sizes v element slot start aside before image stays) block

pub returns-clause-redundant : goal.returns-clause-redundant
returns-clause-redundant c = λ sizes v element slot start before image known aside stays is. redundant_same v known before image (alike_filled sizes v element slot start aside before image stays) is

pub returns-clause-wanted : goal.returns-clause-wanted
returns-clause-wanted c = wanted_alike
