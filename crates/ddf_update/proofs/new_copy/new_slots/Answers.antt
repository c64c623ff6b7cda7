use Rattle.std.proofs.Common.{◌≡◌, ◌+◌, ◌-◌, ◌≤◌, [], ◌∷◌, ◌++◌, replicate, ap, ◌∙◌, arith}
use Rattle.std.proofs.lemmas.List.{replicate_more}
use Rattle.ddf_config_records.specs.declared.slot.RecordSlot.TheVariants.{Notes}
use Rattle.ddf_update.specs.NewCopies.{new_notes, unused_slot}
use Rattle.ddf_update.proofs.new_copy.new_slots.Goals as goal

pub loop-preserved : goal.loop-preserved
loop-preserved c =
    let counter = c.loop.counter in
    let unused = unused_slot c.args.size in
    let pushed : c.push-in-loop.new.self.items ≡ c.loop.slots.items ++ c.in_ok-unused.unused ∷ [] = c.in_ok-push-2.ensures.items in
    let one : 1 ≤ counter = c.loop.auto.counter in
    let next : (counter - 1) + 1 ≡ counter + 1 - 1 = omega (arith, one) in
    pushed ∙ ap (λ slot. c.loop.slots.items ++ slot ∷ []) c.in_ok-unused.ensures ∙ ap (λ slots. slots ++ unused ∷ []) c.loop.invariant
    ∙ ap (λ slots. Notes (new_notes c.args.count c.args.stamp.now) ∷ slots) (replicate_more (counter - 1) unused ∙ ap (λ n. replicate n unused) next)

pub returns : goal.returns
returns c =
    let past : c.args.count ≤ c.loop.counter = omega arith in
    let most : c.loop.counter ≤ c.args.count = c.loop.auto.counter-end c.requires in
    let others : c.loop.counter - 1 ≡ c.args.count - 1 = omega (arith, past, most) in
    c.loop.invariant ∙ ap (λ n. Notes (new_notes c.args.count c.args.stamp.now) ∷ replicate n (unused_slot c.args.size)) others
