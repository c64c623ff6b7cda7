use Rattle.std.proofs.Common.{◌∙◌, sym}
use Rattle.ddf_view.proofs.Guids.{other_guid}
use Rattle.ddf_view.proofs.held.is_guid.Goals as goal

pub returns-else-may_be : goal.returns-else-may_be
returns-else-may_be c = c.if-may_be.false ∙ sym (other_guid 15 23 c.args.one.now c.args.other.now (sym c.may_be.ensures ∙ c.if-may_be.false))
