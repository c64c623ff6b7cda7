use Rattle.std.specs.Prelude.{slice_index}
use Rattle.ddf_lemmas.proofs.Options.{always_ok}
use Rattle.ddf_update.proofs.FirstCopies.{under_as, written_by}
use Rattle.ddf_update.proofs.group.first_update.Goals as goal

pub returns-clause-prepared : goal.returns-clause-prepared
returns-clause-prepared c = written_by c.prepare.result c.in_ok-copy.ensures.exact c.prepare.ensures

pub returns-clause-under : goal.returns-clause-under
returns-clause-under c = always_ok c.prepare.result (under_as (slice_index c.args.sizes.now c.args.place) c.in_ok-copy.ensures.exact c.in_ok-copy.ensures.whole)
