use Rattle.std.proofs.Common.{◌∙◌}
use Rattle.ddf_update.proofs.NewBytes.{header_cleared}
use Rattle.ddf_update.proofs.new_copy.header_rest.Goals as goal

pub returns : goal.returns
returns c = λ header. c.blank_sector.ensures ∙ header_cleared header
