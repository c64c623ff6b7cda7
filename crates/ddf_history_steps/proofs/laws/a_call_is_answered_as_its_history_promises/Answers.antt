use Rattle.std.proofs.Common.{refl}
use Rattle.ddf_assembly.specs.Slots.{newest_from}
use Rattle.ddf_history_steps.proofs.Alone.{alone_answered, alone_group}
use Rattle.ddf_history_steps.proofs.Begun.{group_answered}
use Rattle.ddf_history_steps.proofs.laws.a_call_is_answered_as_its_history_promises.Goals as goal

pub returns-clause-named : goal.returns-clause-named
returns-clause-named g c = λ group bay left past long counted kept may member name same.
    group_answered group (g.B.Bay.disks bay) left (newest_from (g.B.Bay.disks bay) 0 left) long refl past counted kept may member name same

pub returns-clause-alone : goal.returns-clause-alone
returns-clause-alone g c = λ group bay left past long counted kept may member free.
    alone_answered group (g.B.Bay.disks bay) left (newest_from (g.B.Bay.disks bay) 0 left) long refl past counted kept may member free

pub returns-clause-found : goal.returns-clause-found
returns-clause-found g c = λ group bay left past long counted kept may member free found gives.
    alone_group group (g.B.Bay.disks bay) left (newest_from (g.B.Bay.disks bay) 0 left) long refl past counted kept may member free found gives
