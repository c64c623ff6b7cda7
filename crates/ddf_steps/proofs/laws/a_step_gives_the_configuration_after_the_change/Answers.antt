use Rattle.ddf_steps.proofs.StepConfig.{is_after}
use Rattle.ddf_steps.proofs.laws.a_step_gives_the_configuration_after_the_change.Goals as goal

pub returns : goal.returns
returns c = λ timestamp config disks change free is kept. is_after timestamp config disks change free is kept
