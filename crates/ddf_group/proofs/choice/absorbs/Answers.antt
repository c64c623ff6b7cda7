use Rattle.std.proofs.Common.{◌≡◌, ◌∙◌, sym, ap, true, Bool, ◌&&◌, ◌||◌, not, Option}
use Rattle.std.specs.List.{list_all}
use Rattle.ddf_view.specs.View.{View}
use Rattle.ddf_group.specs.Slots.{claims_by, numbers, shows_group, slot_at}
use Rattle.ddf_group.specs.Choice.{claims_all, claims_none}
use Rattle.ddf_group.proofs.choice.absorbs.Goals as goal

pub returns-then-claims_none : goal.returns-then-claims_none
returns-then-claims_none c =
    let slots = c.args.slots.now in
    let group = c.args.group.now in
    let other = c.args.other.now in
    let none : claims_none slots other group ≡ true =
    sym (c.claims_none.ensures ∙ ap (λ (leader : Option View). list_all (λ slot. not (shows_group group (slot_at slots slot) && claims_by leader (slot_at slots slot))) (numbers slots)) c.leading_view.ensures) ∙ c.if-claims_none.true in
    c.claims_all.ensures
    ∙ ap (λ (leader : Option View). list_all (λ slot. not (shows_group other (slot_at slots slot)) || claims_by leader (slot_at slots slot)) (numbers slots)) c.leading_view-then-claims_none.ensures
    ∙ sym (ap (λ (b : Bool). b && claims_all slots group other) none)
