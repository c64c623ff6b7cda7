use Rattle.std.proofs.Common.{subst}
use Rattle.ddf_resync.specs.declared.outcome.Scrub.{Scrub}
use Rattle.ddf_resync.specs.Scrubbing.{AgreesOrNot}
use Rattle.ddf_resync.proofs.Differing.{not_clean}
use Rattle.ddf_resync.proofs.resyncing.is_clean.Goals as goal

pub returns-in-Ok-Clean-clause-yes : goal.returns-in-Ok-Clean-clause-yes
returns-in-Ok-Clean-clause-yes g c = λ tells so.
    let held = (g.B.Bay.disks c.args.bay.now).held in subst (λ (found : Scrub). AgreesOrNot c.args.view.now held found) c.in-Ok-Clean.field-0-is (c.in-Ok-Clean.ensures.agrees tells)

pub returns-in-Ok-Differs-clause-no : goal.returns-in-Ok-Differs-clause-no
returns-in-Ok-Differs-clause-no g c = λ tells so redundant.
    let held = (g.B.Bay.disks c.args.bay.now).held in
    absurd ((subst (λ (found : Scrub). AgreesOrNot c.args.view.now held found) c.in-Ok-Differs.field-0-is (c.in-Ok-Differs.ensures.agrees tells)) redundant)

pub returns-in-Err-clause-no : goal.returns-in-Err-clause-no
returns-in-Err-clause-no g c = λ tells so. not_clean c.args.view.now (g.B.Bay.disks c.args.bay.now) (g.B.Bay.disks c.scrub.new.bay) _ c.requires.within c.in-Err.ensures.fault
