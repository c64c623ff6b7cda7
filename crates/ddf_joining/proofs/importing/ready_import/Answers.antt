use Rattle.ddf_joining.proofs.ImportAnswers.{refused_early}
use Rattle.ddf_steps.proofs.Refused.{fault_passed}
use Rattle.ddf_joining.proofs.importing.ready_import.Goals as goal

pub returns-in_err-offered-clause-readied : goal.returns-in_err-offered-clause-readied
returns-in_err-offered-clause-readied c =
    refused_early c.args.timestamp c.args.group.now c.args.other.now c.in_err-offered.field-0.0 c.in_err-offered.ensures _
    (fault_passed c.in_err-offered.field-0.0 c.from_residual-in_err-offered.result c.from_residual-in_err-offered.ensures.1)
