use Rattle.std.proofs.Common.{[], refl}
use Rattle.ddf_exercise.specs.Taking.{given}
use Rattle.ddf_exercise.proofs.taking.take.Goals as goal

pub returns-in-Label-clause-taken : goal.returns-in-Label-clause-taken
returns-in-Label-clause-taken c = rw c.in-Label.is (record { left = given []; done = c.label.ensures.done; goes_on = c.label.ensures.ends.goes_on; stays = c.label.ensures.ends.stays })

pub returns-in-Create-clause-taken : goal.returns-in-Create-clause-taken
returns-in-Create-clause-taken c = rw c.in-Create.is c.create.ensures.taken

pub returns-in-Resync-clause-taken : goal.returns-in-Resync-clause-taken
returns-in-Resync-clause-taken c = rw c.in-Resync.is (record { left = given []; done = rw c.requires.named at c.resync_disks.ensures.done; goes_on = c.resync_disks.ensures.ends.goes_on; stays = λ none. absurd cc })

pub returns-in-Spare-clause-taken : goal.returns-in-Spare-clause-taken
returns-in-Spare-clause-taken c = rw c.in-Spare.is (record { left = given []; done = rw c.requires.named at c.change.ensures.done; goes_on = c.change.ensures.ends.goes_on; stays = c.change.ensures.ends.stays })

pub returns-in-Write-clause-taken : goal.returns-in-Write-clause-taken
returns-in-Write-clause-taken c = rw c.in-Write.is c.write_fill.ensures.taken

pub returns-in-Rebuild-clause-taken : goal.returns-in-Rebuild-clause-taken
returns-in-Rebuild-clause-taken c = rw c.in-Rebuild.is (record { left = given []; done = rw c.requires.named at c.rebuild.ensures.done; goes_on = c.rebuild.ensures.ends.goes_on; stays = λ none. absurd cc })

pub returns-in-Scrub-clause-taken : goal.returns-in-Scrub-clause-taken
returns-in-Scrub-clause-taken c = rw c.in-Scrub.is (record { left = given []; done = rw c.requires.named at c.scrub_disks.ensures.done; goes_on = c.scrub_disks.ensures.ends.goes_on; stays = c.scrub_disks.ensures.ends.stays })

pub returns-in-Unplug-clause-taken : goal.returns-in-Unplug-clause-taken
returns-in-Unplug-clause-taken c = rw c.in-Unplug.is (c.unplug.ensures.state, c.unplug.ensures.gone, refl, refl)
