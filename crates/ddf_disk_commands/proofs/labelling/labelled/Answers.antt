use Rattle.std.proofs.Common.{◌∙◌, ℕ, ap, inr}
use Rattle.ddf_disk_commands.proofs.Chosen.{chosen_once}
use Rattle.ddf_disk_commands.proofs.LabelCosts.{label_costs, label_few}
use Rattle.ddf_disk_commands.proofs.Labelled.{label_founded, label_stops, slots_lie}
use Rattle.ddf_disk_commands.proofs.labelling.labelled.Goals as goal

pub found_disks-requires : goal.found_disks-requires
found_disks-requires g c =
    let first = rw c.deref.ensures.value at c.in-Ok-first_updates.ensures.first in
    let counted = rw c.deref.ensures.value at c.in-Ok-first_updates.ensures.counted in
    rw (c.deref-2.ensures.value, c.deref-3.ensures.value) (slots_lie _ _ c.args.large c.args.named.now c.in-Ok.slots.items c.args.revision c.args.stamp.now c.in-Ok-first_updates.updates.items c.in-Ok.ensures.reads c.in-Ok.ensures.slots counted first)

pub returns-in-Ok-found_disks-clause-tried : goal.returns-in-Ok-found_disks-clause-tried
returns-in-Ok-found_disks-clause-tried g c = λ tells.
    let first = rw c.deref.ensures.value at c.in-Ok-first_updates.ensures.first in
    let counted = rw c.deref.ensures.value at c.in-Ok-first_updates.ensures.counted in
    let founded = rw (c.deref-2.ensures.value, c.deref-3.ensures.value) at (c.in-Ok-found_disks.ensures.founded tells) in
    let none = c.in-Ok.ensures.unrefused tells in
    (none, label_founded _ _ c.args.large c.args.named.now c.in-Ok.slots.items c.args.revision c.args.stamp.now c.in-Ok-first_updates.updates.items c.in-Ok.ensures.reads c.in-Ok.ensures.slots counted first _ none founded)

pub returns-in-Ok-found_disks-clause-unfailed : goal.returns-in-Ok-found_disks-clause-unfailed
returns-in-Ok-found_disks-clause-unfailed g c = λ slot. ap (λ (counts : ℕ → ℕ). counts slot) c.in-Ok-found_disks.ensures.ok ∙ (c.in-Ok.ensures.quiet slot).1

pub returns-in-Ok-found_disks-clause-any_moment : goal.returns-in-Ok-found_disks-clause-any_moment
returns-in-Ok-found_disks-clause-any_moment g c = λ tells.
    let first = rw c.deref.ensures.value at c.in-Ok-first_updates.ensures.first in
    let counted = rw c.deref.ensures.value at c.in-Ok-first_updates.ensures.counted in
    let step = rw (c.deref-2.ensures.value, c.deref-3.ensures.value) at (c.found_disks.ensures.any_moment tells) in
    label_stops _ _ c.args.large c.args.named.now c.in-Ok.slots.items c.args.revision c.args.stamp.now c.in-Ok-first_updates.updates.items c.in-Ok.ensures.reads c.in-Ok.ensures.slots counted first _ (c.in-Ok.ensures.unrefused tells) step

pub returns-clause-tried : goal.returns-clause-tried
returns-clause-tried g c =
    let one = rw (c.deref-2.ensures.value ∙ c.in-Ok.ensures.slots) at c.in-Err-found_disks.ensures.failed.0 in
    let rose = rw (c.in-Ok.ensures.quiet c.in-Err-found_disks.field-0.0).1 at c.in-Err-found_disks.ensures.failed.1 in
    ((chosen_once (g.B.Bay.disks c.args.bay.now).sizes c.args.named.now).there one.place c.in-Err-found_disks.field-0.0 one.is_there, inr rose)

pub returns-clause-any_moment : goal.returns-clause-any_moment
returns-clause-any_moment g c = λ tells.
    let first = rw c.deref.ensures.value at c.in-Ok-first_updates.ensures.first in
    let counted = rw c.deref.ensures.value at c.in-Ok-first_updates.ensures.counted in
    let step = rw (c.deref-2.ensures.value, c.deref-3.ensures.value) at (c.found_disks.ensures.any_moment tells) in
    label_stops _ _ c.args.large c.args.named.now c.in-Ok.slots.items c.args.revision c.args.stamp.now c.in-Ok-first_updates.updates.items c.in-Ok.ensures.reads c.in-Ok.ensures.slots counted first _ (c.in-Ok.ensures.unrefused tells) step

pub returns-in-Ok-found_disks-clause-costs : goal.returns-in-Ok-found_disks-clause-costs
returns-in-Ok-found_disks-clause-costs g c =
    let first = rw c.deref.ensures.value at c.in-Ok-first_updates.ensures.first in
    let counted = rw c.deref.ensures.value at c.in-Ok-first_updates.ensures.counted in
    let spends = rw c.deref-3.ensures.value at c.found_disks.ensures.spends in
    label_costs g.B.Bay.tells _ _ c.in-Ok.ensures.reads c.args.large c.args.named.now c.in-Ok.slots.items c.in-Ok.ensures.slots c.args.revision c.args.stamp.now _ c.in-Ok-first_updates.updates.items first counted _ _ spends

pub returns-clause-costs : goal.returns-clause-costs
returns-clause-costs g c =
    let first = rw c.deref.ensures.value at c.in-Ok-first_updates.ensures.first in
    let counted = rw c.deref.ensures.value at c.in-Ok-first_updates.ensures.counted in
    let spends = rw c.deref-3.ensures.value at c.found_disks.ensures.spends in
    label_costs g.B.Bay.tells _ _ c.in-Ok.ensures.reads c.args.large c.args.named.now c.in-Ok.slots.items c.in-Ok.ensures.slots c.args.revision c.args.stamp.now _ c.in-Ok-first_updates.updates.items first counted _ _ spends

pub returns-in-Ok-found_disks-clause-calls : goal.returns-in-Ok-found_disks-clause-calls
returns-in-Ok-found_disks-clause-calls g c =
    let first = rw c.deref.ensures.value at c.in-Ok-first_updates.ensures.first in
    let counted = rw c.deref.ensures.value at c.in-Ok-first_updates.ensures.counted in
    let spends = rw c.deref-3.ensures.value at c.found_disks.ensures.spends in
    label_few g.B.Bay.tells _ _ c.in-Ok.ensures.reads c.args.large c.args.named.now c.in-Ok.slots.items c.in-Ok.ensures.slots c.args.revision c.args.stamp.now _ c.in-Ok-first_updates.updates.items first counted _ _ spends
    c.fit_slots.ensures.calls

pub returns-clause-calls : goal.returns-clause-calls
returns-clause-calls g c =
    let first = rw c.deref.ensures.value at c.in-Ok-first_updates.ensures.first in
    let counted = rw c.deref.ensures.value at c.in-Ok-first_updates.ensures.counted in
    let spends = rw c.deref-3.ensures.value at c.found_disks.ensures.spends in
    label_few g.B.Bay.tells _ _ c.in-Ok.ensures.reads c.args.large c.args.named.now c.in-Ok.slots.items c.in-Ok.ensures.slots c.args.revision c.args.stamp.now _ c.in-Ok-first_updates.updates.items first counted _ _ spends
    c.fit_slots.ensures.calls
