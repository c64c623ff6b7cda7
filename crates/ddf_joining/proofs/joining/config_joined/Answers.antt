use Rattle.std.proofs.Common.{◌≡◌, ◌∙◌, ℕ, ap}
use Rattle.ddf_config.specs.Configuration.{Configuration}
use Rattle.ddf_import.specs.Joined.{joined}
use Rattle.ddf_steps.specs.Steps.{raised}
use Rattle.ddf_joining.proofs.Joinings.{at_start, from_start}
use Rattle.ddf_joining.proofs.joining.config_joined.Goals as goal

pub returns-in-Ok : goal.returns-in-Ok
returns-in-Ok c =
    let config = c.args.config.now in
    let joining = c.args.joining.now in
    let same : c.in-Ok.next ≡ joined (at_start config) joining = from_start config joining c.in_ok-start.start c.in-Ok.next c.requires.cause c.in_ok-start.ensures c.in-Ok.ensures in
    let number : c.raised.result ≡ raised config.sequence 1 = c.raised.ensures ∙ ap (λ (one : Configuration). raised one.sequence 1) c.config.view_is in
    ap (λ (one : Configuration). record one { sequence = c.raised.result }) (c.next.view_is ∙ same)
    ∙ ap (λ (sequence : ℕ). record (joined (at_start config) joining) { sequence = sequence }) number
