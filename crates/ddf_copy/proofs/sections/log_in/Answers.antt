use Rattle.std.proofs.Common.{sym, length}
use Rattle.std.proofs.lemmas.Bool.{eqb-true}
use Rattle.ddf_copy.specs.Written.{log_written}
use Rattle.ddf_copy.proofs.Slots.{none_in}
use Rattle.ddf_copy.proofs.sections.log_in.Goals as goal

pub returns-then-is_empty-clause-written : goal.returns-then-is_empty-clause-written
unfolding log_written
returns-then-is_empty-clause-written c = none_in c.args.sectors.now (eqb-true (length c.args.sectors.now) 0 (sym c.if-is_empty.ensures))
