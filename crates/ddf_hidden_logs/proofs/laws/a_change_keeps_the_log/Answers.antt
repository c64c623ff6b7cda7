use Rattle.ddf_hidden_logs.proofs.Changing.{carry_changed, carry_left, carry_stopped}
use Rattle.ddf_hidden_logs.proofs.Lasts.{carry_shown}
use Rattle.ddf_hidden_logs.proofs.laws.a_change_keeps_the_log.Goals as goal

pub returns-clause-shown : goal.returns-clause-shown
returns-clause-shown g c = λ size before anchor which copy whole is stands carry. carry_shown size before whole anchor which copy is stands carry

pub returns-clause-stopped : goal.returns-clause-stopped
returns-clause-stopped g c = λ size before now update anchor last old new carry was changing. carry_stopped size before now anchor new carry update last old was changing

pub returns-clause-changed : goal.returns-clause-changed
returns-clause-changed g c = λ size before now anchor new carry both. carry_changed size before now anchor new carry both

pub returns-clause-all : goal.returns-clause-all
returns-clause-all g c = λ bay slots seat updates image may left place slot update here its mode carry.
    carry_left (g.B.Bay.disks bay) slots seat updates image may left place slot update here its mode carry
