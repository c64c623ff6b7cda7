use Rattle.std.proofs.Common.{◌∙◌, ◌+◌, ap}
use Rattle.ddf_badblocks.specs.Ranges.{are_exchangeable}
use Rattle.ddf_logs.specs.Logs.{honoured}
use Rattle.ddf_logs.proofs.Given.{ranges_given}
use Rattle.ddf_logs.proofs.Through.{exchange_can}
use Rattle.ddf_logs.proofs.log.log_of.Goals as goal

pub returns-clause-can : goal.returns-clause-can
returns-clause-can c =
    ap (are_exchangeable (c.args.last + 1)) (c.disk_log.ensures.exchange ∙ ranges_given c.in_ok-found.found (honoured c.args.last c.args.anchor.now c.args.copies.now) c.in_ok-found.ensures)
    ∙ exchange_can c.args.last c.args.anchor.now c.args.copies.now
