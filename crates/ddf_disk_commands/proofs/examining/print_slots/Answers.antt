use Rattle.std.proofs.Common.{◌≡◌, ◌<◌, ◌∙◌, length, refl, inl, inr, arith}
use Rattle.ddf_bay.proofs.Looks.{reads_start, reads_then}
use Rattle.ddf_disk_commands.proofs.Partway.{partway_start, partway_more, partway_stopped, partway_done}
use Rattle.ddf_disk_commands.proofs.examining.print_slots.Goals as goal

pub loop-slot-init : goal.loop-slot-init
loop-slot-init g c = record {
  end = c.slots-slot-end.ensures.slots;
  partway = partway_start _ _ _ _;
  reads = reads_start _;
  output = record { faults = refl; empty_takes = refl };
}

pub returns-in-Err-Memory-clause-examined : goal.returns-in-Err-Memory-clause-examined
returns-in-Err-Memory-clause-examined g c =
    let lt : c.loop-slot.slot < length (g.B.Bay.disks c.args.bay.now).sizes = omega (arith, c.loop-slot-test.true, c.loop-slot.invariant.end) in
    partway_stopped _ _ _ _ _ _ _ _ _ _ _ c.loop-slot.invariant.partway c.loop-slot.invariant.reads.same_sizes c.loop-slot.invariant.reads.same_held c.examine_slot.ensures.shown c.examine_slot.ensures.calls 5 lt (inl refl)

pub returns-in-Err-Output-clause-examined : goal.returns-in-Err-Output-clause-examined
returns-in-Err-Output-clause-examined g c =
    let lt : c.loop-slot.slot < length (g.B.Bay.disks c.args.bay.now).sizes = omega (arith, c.loop-slot-test.true, c.loop-slot.invariant.end) in
    partway_stopped _ _ _ _ _ _ _ _ _ _ _ c.loop-slot.invariant.partway c.loop-slot.invariant.reads.same_sizes c.loop-slot.invariant.reads.same_held c.examine_slot.ensures.shown c.examine_slot.ensures.calls 6 lt (inr refl)

pub loop-slot-preserved : goal.loop-slot-preserved
loop-slot-preserved g c = record {
  end = c.loop-slot.invariant.end;
  partway = partway_more _ _ _ _ _ _ _ _ _ _ _ c.loop-slot.invariant.partway c.loop-slot.invariant.reads.same_sizes c.loop-slot.invariant.reads.same_held c.examine_slot.ensures.shown c.examine_slot.ensures.calls c.in-Ok.failed c.in-Ok.is;
  reads = reads_then c.loop-slot.invariant.reads c.examine_slot.ensures.reads;
  output = record { faults = c.in-Ok.ensures.ok.faults ∙ c.loop-slot.invariant.output.faults; empty_takes = c.in-Ok.ensures.ok.empty_takes ∙ c.loop-slot.invariant.output.empty_takes };
}

pub returns-then-fault-clause-examined : goal.returns-then-fault-clause-examined
returns-then-fault-clause-examined g c =
    let all : c.loop-slot.slot ≡ length (g.B.Bay.disks c.args.bay.now).sizes = omega (arith, c.loop-slot-test.false, c.loop-slot.auto.slot-end, c.loop-slot.invariant.end) in
    partway_done _ _ _ _ _ _ _ _ _ c.loop-slot.invariant.partway all (rw c.if-fault.true refl)

pub returns-else-fault-clause-examined : goal.returns-else-fault-clause-examined
returns-else-fault-clause-examined g c =
    let all : c.loop-slot.slot ≡ length (g.B.Bay.disks c.args.bay.now).sizes = omega (arith, c.loop-slot-test.false, c.loop-slot.auto.slot-end, c.loop-slot.invariant.end) in
    partway_done _ _ _ _ _ _ _ _ _ c.loop-slot.invariant.partway all (rw c.if-fault.false refl)
