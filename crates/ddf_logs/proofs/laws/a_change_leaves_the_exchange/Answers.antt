use Rattle.ddf_logs.proofs.Carried.{same_exchange}
use Rattle.ddf_logs.proofs.Lasting.{carry_changed, carry_stopped, exchange_left}
use Rattle.ddf_logs.proofs.laws.a_change_leaves_the_exchange.Goals as goal

pub returns-clause-stopped : goal.returns-clause-stopped
returns-clause-stopped g c = λ size before now update anchor last old new carry was changing.
    let then = carry_stopped size before now anchor new carry update last old was changing in
    (then, same_exchange size now before anchor new then carry)

pub returns-clause-changed : goal.returns-clause-changed
returns-clause-changed g c = λ size before now anchor new carry both.
    let then = carry_changed size before now anchor new carry both in
    (then, same_exchange size now before anchor new then carry)

pub returns-clause-all : goal.returns-clause-all
returns-clause-all g c = λ bay slots seat updates image may left place slot update here its mode carry.
    exchange_left (g.B.Bay.disks bay) slots seat updates image may left place slot update here its mode carry
