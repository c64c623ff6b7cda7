use Rattle.std.proofs.Common.{◌≡◌, ◌*◌, ◌/◌, ◌<◌, ◌∙◌, Some, None, sym, ap, subst, length, ℕ}
use Rattle.ddf_bytes.specs.Bytes.{bytes_at}
use Rattle.ddf_config_records.specs.Elements.{record_size}
use Rattle.ddf_config_records.specs.Slots.{slot_bytes, slot_count, valid_at, notes_in}
use Rattle.ddf_config_records.proofs.Ranges.{first_found, none_more}
use Rattle.ddf_config_records.proofs.decoding.find_notes.Goals as goal

pub returns-in-Some : goal.returns-in-Some
unfolding notes_in
returns-in-Some c =
    let section = c.args.section.now in
    let geometry = c.args.geometry.now in
    let most = geometry.max_members in
    let group = c.args.group.now in
    let sequence = c.args.sequence in
    let slot = c.loop-slot.slot in
    let size : c.record_size-size.result ≡ record_size geometry = c.record_size-size.ensures in
    let bytes : c.slot_of-own.result.now ≡ slot_bytes geometry section slot = c.slot_of-own.ensures ∙ ap (λ (n : ℕ). bytes_at section (slot * n) n) size in
    let here : valid_at most (slot_count geometry section) group sequence (slot_bytes geometry section slot) ≡ Some c.in-Some.notes =
    ap (valid_at most (slot_count geometry section) group sequence) (sym bytes)
    ∙ ap (λ (n : ℕ). valid_at most (length section / n) group sequence c.slot_of-own.result.now) (sym size) ∙ sym c.in_ok-found.ensures ∙ c.in-Some.is in
    let lt : slot < slot_count geometry section = subst (λ (n : ℕ). slot < length section / n) size c.loop-slot-test.true in
    sym (first_found (λ (i : ℕ). valid_at most (slot_count geometry section) group sequence (slot_bytes geometry section i)) slot (slot_count geometry section) c.in-Some.notes c.loop-slot.invariant lt here)

pub loop-slot-preserved : goal.loop-slot-preserved
loop-slot-preserved c =
    let section = c.args.section.now in
    let geometry = c.args.geometry.now in
    let most = geometry.max_members in
    let group = c.args.group.now in
    let sequence = c.args.sequence in
    let slot = c.loop-slot.slot in
    let size : c.record_size-size.result ≡ record_size geometry = c.record_size-size.ensures in
    let bytes : c.slot_of-own.result.now ≡ slot_bytes geometry section slot = c.slot_of-own.ensures ∙ ap (λ (n : ℕ). bytes_at section (slot * n) n) size in
    let here : valid_at most (slot_count geometry section) group sequence (slot_bytes geometry section slot) ≡ None =
    ap (valid_at most (slot_count geometry section) group sequence) (sym bytes)
    ∙ ap (λ (n : ℕ). valid_at most (length section / n) group sequence c.slot_of-own.result.now) (sym size) ∙ sym c.in_ok-found.ensures ∙ c.in_default.is in
    none_more (λ (i : ℕ). valid_at most (slot_count geometry section) group sequence (slot_bytes geometry section i)) slot c.loop-slot.invariant here
