use Rattle.std.proofs.Common.{◌∙◌, ◌∷◌, ◌++◌, [], ℕ, List, ap, sym}
use Rattle.ddf_disk_commands.proofs.Chosen.{chosen_more, chosen_same}
use Rattle.ddf_disk_commands.proofs.label_slots.chosen.Goals.{then-is_chosen+in_ok-push, else-is_chosen}
use Rattle.ddf_disk_commands.proofs.label_slots.chosen.Goals as goal

pub loop-slot-preserved : goal.loop-slot-preserved
loop-slot-preserved c = record {
  so_far = elim c.if-is_chosen.branch [
    | then-is_chosen+in_ok-push w ↦
        let is = sym c.is_chosen.ensures ∙ w.if-is_chosen.true in
        rw w.slots-is (w.in_ok-push.ensures.items ∙ ap (λ (slots : List ℕ). slots ++ c.loop-slot.slot ∷ []) c.loop-slot.invariant.so_far ∙ sym (chosen_more c.args.named.now c.loop-slot.slot is))
    | else-is_chosen w ↦
        let is = sym c.is_chosen.ensures ∙ w.if-is_chosen.false in
        rw w.slots-is (c.loop-slot.invariant.so_far ∙ sym (chosen_same c.args.named.now c.loop-slot.slot is))
  ];
}
