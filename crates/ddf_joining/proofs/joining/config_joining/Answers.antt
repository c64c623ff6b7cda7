use Rattle.ddf_joining.proofs.Joinings.{offered_joins, offered_refused}
use Rattle.ddf_joining.proofs.joining.config_joining.Goals as goal

pub returns-in-Ok : goal.returns-in-Ok
returns-in-Ok c = offered_joins c.args.config.now c.args.other.now c.in-Ok.joining (rw (c.config.ensures, c.absent.ensures) at c.in-Ok.ensures)

pub returns-in-Err-Refused : goal.returns-in-Err-Refused
returns-in-Err-Refused c =
    offered_refused c.args.config.now c.args.other.now c.in-Err-Refused.refusal (rw (c.in-Err-Refused.field-0-is, c.config.ensures, c.absent.ensures) at c.in-Err-Refused.ensures)
