use Rattle.std.proofs.Common.{◌∙◌, ap, sym, length}
use Rattle.std.proofs.lemmas.Bool.{ne_eqb}
use Rattle.ddf_copy.proofs.Levels.{slots_differ, slots_same}
use Rattle.ddf_copy.proofs.level.have_level_slots.Goals as goal

pub returns-then-count-items : goal.returns-then-count-items
returns-then-count-items c =
    c.are_all_counted.ensures
    ∙ slots_same c.args.one.now.copy c.args.other.now.copy (length c.items-count.result.now) (ap length c.items-count.ensures) (c.if-count-items.true ∙ ap length c.items.ensures)

pub returns-else-count-items : goal.returns-else-count-items
returns-else-count-items c =
    ne_eqb (length c.items-count.result.now) (length c.items.result.now) c.if-count-items.false
    ∙ sym (slots_differ c.args.one.now.copy c.args.other.now.copy (λ e. c.if-count-items.false (ap length c.items-count.ensures ∙ e ∙ sym (ap length c.items.ensures))))
