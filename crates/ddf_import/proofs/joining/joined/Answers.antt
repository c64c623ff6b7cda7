use Rattle.ddf_import.proofs.Apart.{no_cause}
use Rattle.ddf_import.proofs.joining.joined.Goals as goal

pub members_joined-requires : goal.members_joined-requires
members_joined-requires c = no_cause c.args.config.now c.args.joining.now c.requires.free
