use Rattle.std.proofs.Common.{inr, inl, [], ◌∷◌}
use Rattle.ddf_history.specs.Answer.Answer.{Is}
use Rattle.ddf_command.proofs.CutJoins.{cut_from}
use Rattle.ddf_command.proofs.Events.{history_answers}
use Rattle.ddf_command.proofs.laws.an_import_that_was_cut_is_before_or_behind_a_change.Goals as goal

pub returns : goal.returns
returns g c = λ told group old new cut kept long scene leaves readable may member config answer.
    let promised = (history_answers told g.B.Bay.disks group (λ bay. (g.met.B.Bay.told bay).only_now) old (new ∷ []) kept (inl (inr (inr (inr (inr cut)))), tt)).1.0 scene leaves readable may member (Is config) answer in
    cut_from told g.B.Bay.disks group old new cut long promised.0 config promised.1
