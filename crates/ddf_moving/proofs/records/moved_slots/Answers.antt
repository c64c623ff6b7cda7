use Rattle.std.proofs.Common.{ℕ, ◌++◌, [], ◌∷◌, List, map, sym, ap, ◌∙◌, arith}
use Rattle.std.specs.List.{range_with_len}
use Rattle.std.proofs.lemmas.List.FromFn.{map-range_with_len_more}
use Rattle.ddf_config_records.specs.declared.slot.RecordSlot.{RecordSlot}
use Rattle.ddf_moving.specs.Copies.{moved_slot_at}
use Rattle.ddf_moving.proofs.records.moved_slots.Goals as goal

pub loop-place-preserved : goal.loop-place-preserved
loop-place-preserved c =
    let slot : ℕ → RecordSlot = moved_slot_at c.args.old.now c.args.like.now c.args.slots.now in
    let place = c.loop-place.place in
    let made = c.in_ok-moved_slot_at.field-0 in
    c.in_ok-push.ensures.items
    ∙ ap (λ (all : List RecordSlot). all ++ made ∷ []) c.loop-place.invariant
    ∙ ap (λ (one : RecordSlot). map slot (range_with_len 0 place) ++ one ∷ []) c.in_ok-moved_slot_at.ensures
    ∙ sym (map-range_with_len_more slot 0 place place (omega arith))
