use Rattle.ddf_data_disks.proofs.Staying.{still_at_end}
use Rattle.ddf_data_disks.proofs.laws.a_settled_group_stays_where_blocks_are_written.Goals as goal

pub returns-clause-stands : goal.returns-clause-stands
returns-clause-stands g c = λ group past old new found end floors guid volume view known written tells.
    still_at_end group past (g.B.Bay.disks old) (g.B.Bay.disks new) found end floors guid volume view known written ((g.met.B.Bay.told new).held tells)

pub returns-clause-ready : goal.returns-clause-ready
returns-clause-ready g c = λ group past old new found ready stands floors guid volume view known written tells. record {
  at_end = still_at_end group past (g.B.Bay.disks old) (g.B.Bay.disks new) found stands.at_end floors guid volume view known written ((g.met.B.Bay.told new).held tells);
  is_ready = stands.is_ready;
  asked = stands.asked;
  can_be_asked = stands.can_be_asked;
  timestamp = stands.timestamp;
  time = stands.time;
  are_steps = stands.are_steps;
}
