use Rattle.std.proofs.Common.{◌≡◌, ◌∙◌, length, arith}
use Rattle.ddf_bay.proofs.Looks.{reads_then}
use Rattle.ddf_logs.proofs.Looking.{partway_more}
use Rattle.ddf_logs.proofs.look.look_at_all.Goals as goal

pub loop-slot-preserved : goal.loop-slot-preserved
loop-slot-preserved g c =
    let so_far = c.loop-slot.invariant in
    let look = c.in_ok-look in
    record {
      end = so_far.end;
      partway = rw (c.in_ok-put_look.ensures.exchanges, c.in_ok-put_look.ensures.failed) (partway_more g.B.Bay.tells _ _ _ c.loop-slot.slot c.loop-slot.looks.failed.items c.loop-slot.looks.exchanges.items look.look.failed look.look.exchange
          so_far.partway so_far.reads.same_sizes so_far.reads.same_held look.ensures.look look.ensures.exchange look.ensures.can);
      reads = reads_then so_far.reads look.ensures.reads;
      calls = let more = look.ensures.calls in let before = so_far.calls in omega (arith, more, before);
    }

pub returns-clause-looks : goal.returns-clause-looks
returns-clause-looks g c = c.loop-slot.invariant.partway.are_looks

pub returns-clause-failed : goal.returns-clause-failed
returns-clause-failed g c = c.loop-slot.invariant.partway.are_failed

pub returns-clause-every_slot : goal.returns-clause-every_slot
returns-clause-every_slot g c =
    let all : c.loop-slot.slot ≡ length (g.B.Bay.disks c.args.bay.now).sizes = omega (arith, c.loop-slot-test.false, c.loop-slot.auto.slot-end, c.loop-slot.invariant.end) in
    c.loop-slot.invariant.partway.slots ∙ all

pub returns-clause-calls : goal.returns-clause-calls
returns-clause-calls g c =
    let before = c.loop-slot.invariant.calls in
    let all : c.loop-slot.slot ≡ length (g.B.Bay.disks c.args.bay.now).sizes = omega (arith, c.loop-slot-test.false, c.loop-slot.auto.slot-end, c.loop-slot.invariant.end) in
    omega (arith, before, all)
