use Rattle.std.proofs.Common.{List, Option, Err, sym, ap, ◌∙◌, Some}
use Rattle.std.specs.Prelude.{unwrap_or}
use Rattle.ddf_config.specs.declared.refusal.Refusal.{Refusal}
use Rattle.ddf_config.specs.declared.refusal.Refusal.TheVariants.{Full}
use Rattle.ddf_plan.specs.declared.change.Change.{Change}
use Rattle.ddf_recovery.proofs.WhenFull.{full_first}
use Rattle.ddf_steps.specs.Ready.{steps_from}
use Rattle.ddf_recovery.proofs.recovering.full_refusal.Goals as goal

pub returns-in_ok-refusal-in-Some : goal.returns-in_ok-refusal-in-Some
returns-in_ok-refusal-in-Some c = λ timestamp.
    ap (λ (changes : List Change). steps_from timestamp (Some c.args.table) changes c.args.config.now c.args.disks.now) c.in-Some.ensures.cases.0
    ∙ full_first timestamp c.args.table c.args.config.now c.args.disks.now c.in-Some.change.now c.in-Some.field-0-1.now
    ∙ ap (λ (cause : Option Refusal). Err (unwrap_or cause (Full c.args.table))) (sym c.in_ok-refusal-in-Some.ensures)
    ∙ ap (λ (refusal : Refusal). Err refusal) (sym c.unwrap_or.ensures)
