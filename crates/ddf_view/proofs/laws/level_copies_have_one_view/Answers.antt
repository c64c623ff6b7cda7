use Rattle.ddf_view.proofs.Level.{level_views}
use Rattle.ddf_view.proofs.laws.level_copies_have_one_view.Goals as goal

pub returns : goal.returns
returns c = λ one other read also geometry same. level_views one other read also geometry same
