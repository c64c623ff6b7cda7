use Rattle.std.proofs.Common.{◌≡◌, ◌∙◌, ◌+◌, ◌∷◌, [], length, length-append, sym, ap, arith}
use Rattle.ddf_disk_commands.proofs.Chosen.{chosen_more, chosen_same}
use Rattle.ddf_disk_commands.specs.LabelRefusal.{chosen}
use Rattle.ddf_disk_commands.proofs.label_slots.count_chosen.Goals.{then-is_chosen, else-is_chosen}
use Rattle.ddf_disk_commands.proofs.label_slots.count_chosen.Goals as goal

pub loop-slot-preserved : goal.loop-slot-preserved
loop-slot-preserved c = record {
  few = elim c.if-is_chosen.branch [
    | then-is_chosen w ↦ rw w.labelled-is (omega (arith, c.loop-slot.invariant.few))
    | else-is_chosen w ↦ rw w.labelled-is (omega (arith, c.loop-slot.invariant.few))
  ];
  so_far = elim c.if-is_chosen.branch [
    | then-is_chosen w ↦
        let is = sym c.is_chosen.ensures ∙ w.if-is_chosen.true in
        let so_far = c.loop-slot.invariant.so_far in
        let more : length (chosen (c.loop-slot.slot + 1) c.args.named.now) ≡ length (chosen c.loop-slot.slot c.args.named.now) + 1 =
        ap length (chosen_more c.args.named.now c.loop-slot.slot is) ∙ length-append (chosen c.loop-slot.slot c.args.named.now) (c.loop-slot.slot ∷ []) in
        rw w.labelled-is (omega (arith, so_far, more))
    | else-is_chosen w ↦
        let is = sym c.is_chosen.ensures ∙ w.if-is_chosen.false in
        rw w.labelled-is (c.loop-slot.invariant.so_far ∙ ap length (sym (chosen_same c.args.named.now c.loop-slot.slot is)))
  ];
}
