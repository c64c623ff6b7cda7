use Rattle.std.proofs.Common.{inl, inr, [], refl}
use Rattle.ddf_exercise.specs.Taking.{given}
use Rattle.ddf_exercise.proofs.taking.create.Goals as goal

pub returns-in-Ok-clause-taken : goal.returns-in-Ok-clause-taken
returns-in-Ok-clause-taken c = inl (record { left = given []; done = rw (c.requires.named, c.in-Ok.ensures) at c.change.ensures.done; goes_on = c.change.ensures.ends.goes_on; stays = c.change.ensures.ends.stays })

pub returns-in-Err-clause-taken : goal.returns-in-Err-clause-taken
returns-in-Err-clause-taken c = inr (record { same_bay = refl; same_output = refl; is_status = refl })
