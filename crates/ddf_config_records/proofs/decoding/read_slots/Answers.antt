use Rattle.std.proofs.Common.{◌≡◌, ◌*◌, ◌/◌, ◌++◌, ◌∷◌, [], ◌∙◌, sym, ap, length, Bool, ℕ, List, arith}
use Rattle.std.proofs.lemmas.List.FromFn.{map-range_with_len_more}
use Rattle.ddf_bytes.specs.Bytes.{bytes_at}
use Rattle.ddf_config_records.specs.declared.slot.RecordSlot.{RecordSlot}
use Rattle.ddf_config_records.specs.Elements.{record_size}
use Rattle.ddf_config_records.specs.Slots.{slot_bytes, slot_count, lists, slot_at}
use Rattle.ddf_config_records.proofs.decoding.read_slots.Goals as goal

pub loop-slot-preserved : goal.loop-slot-preserved
loop-slot-preserved c =
    let section = c.args.section.now in
    let geometry = c.args.geometry.now in
    let most = geometry.max_members in
    let notes = c.args.notes.now in
    let i = c.loop-slot.slot in
    let f = λ (slot : ℕ). slot_at most (slot_count geometry section) (lists notes slot) (slot_bytes geometry section slot) in
    let size : c.record_size-size.result ≡ record_size geometry = c.record_size-size.ensures in
    let bytes : c.slot_of-bytes.result.now ≡ slot_bytes geometry section i = c.slot_of-bytes.ensures ∙ ap (λ (n : ℕ). bytes_at section (i * n) n) size in
    let read : c.in_ok-read.read ≡ f i =
    c.in_ok-read.ensures ∙ ap (λ (b : Bool). slot_at most (length section / c.record_size-size.result) b c.slot_of-bytes.result.now) c.lists.ensures
    ∙ ap (λ (n : ℕ). slot_at most (length section / n) (lists notes i) c.slot_of-bytes.result.now) size ∙ ap (slot_at most (slot_count geometry section) (lists notes i)) bytes in
    c.in_ok-push.ensures.items ∙ ap (λ (s : RecordSlot). c.loop-slot.slots.items ++ s ∷ []) read
    ∙ ap (λ (l : List RecordSlot). l ++ f i ∷ []) c.loop-slot.invariant ∙ sym (map-range_with_len_more f 0 i i (omega arith))
