use Rattle.std.proofs.Common.{Ok, Err}
use Rattle.ddf_disk_commands.specs.Label.{revision_of}
use Rattle.ddf_disk_commands.proofs.LabelEnds.{label_ends}
use Rattle.ddf_disk_commands.proofs.labelling.label.Goals as goal

pub returns-in-Ok-clause-done : goal.returns-in-Ok-clause-done
returns-in-Ok-clause-done g c = rw (← c.revision_of.ensures) (record {
  outcome = Ok tt;
  tried = c.in-Ok.ensures.tried;
  ends = c.tell.ensures.ends;
  unfailed = c.in-Ok.ensures.unfailed;
  any_moment = c.labelled.ensures.any_moment;
  costs = c.labelled.ensures.costs;
  calls = c.labelled.ensures.calls;
  refused = c.labelled.ensures.refused;
})

pub returns-in-Ok-clause-ends : goal.returns-in-Ok-clause-ends
returns-in-Ok-clause-ends g c = label_ends _ c.args.style c.args.large (revision_of c.args.style) _ _ _ (returns-in-Ok-clause-done g c) c.tell.ensures.stream c.labelled.ensures.goes_on c.labelled.ensures.same_sizes

pub returns-in-Err-clause-done : goal.returns-in-Err-clause-done
returns-in-Err-clause-done g c = rw (← c.revision_of.ensures) (record {
  outcome = Err c.in-Err.failure;
  tried = c.in-Err.ensures.tried;
  ends = c.tell_failure.ensures.told;
  unfailed = tt;
  any_moment = c.labelled.ensures.any_moment;
  costs = c.labelled.ensures.costs;
  calls = c.labelled.ensures.calls;
  refused = c.labelled.ensures.refused;
})

pub returns-in-Err-clause-ends : goal.returns-in-Err-clause-ends
returns-in-Err-clause-ends g c = label_ends _ c.args.style c.args.large (revision_of c.args.style) _ _ _ (returns-in-Err-clause-done g c) c.tell_failure.ensures.stream c.labelled.ensures.goes_on c.labelled.ensures.same_sizes
