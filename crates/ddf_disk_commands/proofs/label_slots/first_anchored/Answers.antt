use Rattle.std.proofs.Common.{◌∙◌, ◌<◌, length, arith}
use Rattle.ddf_bay.proofs.Looks.{reads_then}
use Rattle.ddf_disk_commands.specs.LabelRefusal.{is_anchored}
use Rattle.ddf_words.proofs.Finds.{find_more}
use Rattle.ddf_disk_commands.proofs.label_slots.first_anchored.Goals as goal

pub loop-slot-preserved : goal.loop-slot-preserved
loop-slot-preserved g c = record {
  end = c.loop-slot.invariant.end;
  reads = reads_then c.loop-slot.invariant.reads c.in_ok-anchored.ensures.reads;
  calls = let before_it = c.loop-slot.invariant.calls in let one = c.in_ok-anchored.ensures.calls in omega (arith, before_it, one);
  quiet = λ s. ((c.in_ok-anchored.ensures.quiet s).0 ∙ (c.loop-slot.invariant.quiet s).0, (c.in_ok-anchored.ensures.quiet s).1 ∙ (c.loop-slot.invariant.quiet s).1);
  first_is = λ tells.
      let lt : c.loop-slot.slot-index < length c.args.slots.now = omega (arith, c.loop-slot-test.true, c.loop-slot.invariant.end) in
      let anchored = rw (c.loop-slot.invariant.reads.same_sizes, c.loop-slot.invariant.reads.same_held) at (c.in_ok-anchored.ensures.answer tells) in
      rw (c.or-first.ensures, c.then_some.ensures, anchored, c.loop-slot.invariant.first_is tells) (find_more (is_anchored (g.B.Bay.disks c.args.bay.now).sizes (g.B.Bay.disks c.args.bay.now).held) c.args.slots.now c.loop-slot.slot-index lt);
}
