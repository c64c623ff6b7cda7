use Rattle.std.proofs.Common.{◌≡◌, ◌∙◌, sym, false}
use Rattle.ddf_rewrite.specs.Before.{before}
use Rattle.ddf_steps.specs.Full.{lengths_differ}
use Rattle.ddf_steps.proofs.OneLength.{can_try_all}
use Rattle.ddf_steps.proofs.full.full_of.Goals as goal

pub least_full-requires : goal.least_full-requires
least_full-requires c =
    let same : lengths_differ c.args.disks.now ≡ false = sym c.lengths_differ.ensures ∙ c.if-lengths_differ.false in
    can_try_all (before c.args.leaders.now) c.args.config.now c.args.disks.now c.requires.copies same c.requires.leaders c.requires.held
