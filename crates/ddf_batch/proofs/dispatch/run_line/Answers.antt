use Rattle.ddf_answer.proofs.Causes.{ends_by}
use Rattle.ddf_batch.proofs.LineRuns.{takes_none, untaken}
use Rattle.ddf_batch.proofs.dispatch.run_line.Goals as goal

pub returns-clause-done : goal.returns-clause-done
returns-clause-done g c =
    let same = c.obey.ensures.source (takes_none c.args.asked.command c.requires.line) in
    rw c.code.ensures (rw (same, c.new-source.ensures, c.new.ensures.items) at c.obey.ensures.done)

pub returns-clause-ends : goal.returns-clause-ends
returns-clause-ends g c = rw c.code.ensures (ends_by _ _ _ (untaken c.args.asked.command c.requires.line) c.obey.ensures.ends)
