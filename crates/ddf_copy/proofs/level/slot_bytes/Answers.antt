use Rattle.std.proofs.Common.{◌≡◌, ◌+◌, ◌*◌, ◌-◌, ◌≤◌, ◌∙◌, ℕ, List, length, ap, arith}
use Rattle.ddf_config_records.specs.Elements.{record_size}
use Rattle.ddf_copy.specs.Sections.{bytes_in}
use Rattle.ddf_copy.proofs.Levels.{slot_stands, slot_within, slots_length}
use Rattle.ddf_copy.proofs.level.slot_bytes.Goals as goal

abbrev ends : (c : goal.After-as_flattened) → c.args.index * c.record_size-size.result + c.record_size-size.result ≤ length c.as_flattened.result.now
ends c =
    let whole = c.args.whole.now in
    rw c.record_size-size.ensures (slot_within c.args.index (length whole.copy.slots) (record_size whole.copy.header.geometry) (length c.as_flattened.result.now) c.requires.within
    (ap length c.as_flattened.ensures.value ∙ ap (λ (sectors : List (List ℕ)). length (bytes_in sectors)) c.items.ensures ∙ slots_length whole c.requires.whole))

pub overflow_mul-result : goal.overflow_mul-result
overflow_mul-result c = omega (arith, ends c)

pub overflow_mul-result-2 : goal.overflow_mul-result-2
overflow_mul-result-2 c = omega (arith, ends c)

pub overflow_add-result : goal.overflow_add-result
overflow_add-result c = omega (arith, ends c)

pub slice_bounds-result-end : goal.slice_bounds-result-end
slice_bounds-result-end c = ends c

pub returns : goal.returns
returns c = λ slot at.
    let whole = c.args.whole.now in
    let size = c.record_size-size.result in
    let less : c.args.index * size + size - c.args.index * size ≡ size = omega arith in
    let bytes = c.as_flattened.ensures.value ∙ ap bytes_in c.items.ensures in
    rw (less, c.record_size-size.ensures, bytes) (slot_stands whole c.requires.whole c.args.index slot at)
