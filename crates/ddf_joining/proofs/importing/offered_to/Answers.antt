use Rattle.std.proofs.Common.{◌∙◌, ◌++◌, ◌∷◌, [], sym}
use Rattle.ddf_config.specs.declared.refusal.Refusal.TheVariants as refusals
use Rattle.ddf_config.specs.Refusals.{refuse_if}
use Rattle.ddf_import.specs.Clash.{join_cause}
use Rattle.ddf_joining.specs.Joining.{config_joining, has_no_seats, has_strays, numbers_differ}
use Rattle.ddf_recovery.specs.Recovery.{config_recovered}
use Rattle.ddf_seats.specs.Seated.{seated}
use Rattle.ddf_joining.proofs.ImportAnswers.{first_refuses}
use Rattle.ddf_joining.proofs.importing.offered_to.Goals as goal

pub returns-in-Some : goal.returns-in-Some
returns-in-Some c =
    let native = c.args.native.now in
    let other = c.args.other.now in
    first_refuses (refuse_if (has_no_seats native other) refusals.NoGroup ∷ refuse_if (has_strays native other) refusals.Unsettled ∷ [])
    (join_cause (config_recovered native) (config_joining other) ∷ refuse_if (numbers_differ (seated native ++ seated other)) refusals.Geometry ∷ [])
    c.in-Some.refusal (sym c.in_ok-first.ensures ∙ c.in-Some.is)
