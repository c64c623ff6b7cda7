use Rattle.ddf_lemmas.proofs.Options.{if_ok_then}
use Rattle.ddf_hidden_logs.proofs.GivenBack.{given_first, given_second}
use Rattle.ddf_hidden_logs.proofs.Honouring.{both_looks}
use Rattle.ddf_hidden_logs.proofs.Looking.{if_err_then}
use Rattle.ddf_hidden_logs.specs.Honouring.{Exchanges}
use Rattle.ddf_hidden_logs.proofs.honoured.Honoured.new.Goals as goal

pub returns-in-Ok-clause-made : goal.returns-in-Ok-clause-made
returns-in-Ok-clause-made g c =
    let look = c.in-Ok.ensures in
    let exchanges : Exchanges g.B.Bay.tells g.B.Bay.disks c.args.inner c.in-Ok.exchanged = record {
      reads = look.reads;
      calls = look.calls;
      failed = look.failed;
      read = look.read;
      unsynced = look.unsynced;
      exchanged = look.exchanged;
      can = look.can;
      made = look.made;
      faults = look.faults;
    } in
    if_ok_then c.hiding.result (both_looks g.B.Bay.disks g.met.B.Bay.leads c.args.inner c.in-Ok.exchanged exchanges) c.hiding.ensures.hides

pub returns-in-Ok-clause-given_back : goal.returns-in-Ok-clause-given_back
returns-in-Ok-clause-given_back g c =
    let look = c.in-Ok.ensures in
    let exchanges : Exchanges g.B.Bay.tells g.B.Bay.disks c.args.inner c.in-Ok.exchanged = record {
      reads = look.reads;
      calls = look.calls;
      failed = look.failed;
      read = look.read;
      unsynced = look.unsynced;
      exchanged = look.exchanged;
      can = look.can;
      made = look.made;
      faults = look.faults;
    } in
    if_err_then c.hiding.result (given_second g.B.Bay.disks g.met.B.Bay.leads c.args.inner c.in-Ok.exchanged exchanges) c.hiding.ensures.given_back

pub returns-in-Err-clause-given_back : goal.returns-in-Err-clause-given_back
returns-in-Err-clause-given_back g c = given_first g.B.Bay.disks g.met.B.Bay.leads c.args.inner c.in-Err.back c.in-Err.ensures.reads_failed c.in-Err.ensures.calls_failed
