use Rattle.std.proofs.Common.{◌≡◌, ◌*◌, ◌/◌, ◌<◌, ◌∙◌, Some, sym, ap, subst, length, ℕ}
use Rattle.ddf_bytes.specs.Bytes.{bytes_at}
use Rattle.ddf_config_records.specs.Elements.{record_size}
use Rattle.ddf_config_records.specs.Slots.{slot_bytes, slot_count, slot_fault, seal_fault}
use Rattle.ddf_config_records.proofs.Ranges.{first_found, none_more}
use Rattle.ddf_config_records.proofs.decoding.seal_fault.Goals as goal

pub returns-in-Some : goal.returns-in-Some
unfolding seal_fault
returns-in-Some c =
    let section = c.args.section.now in
    let geometry = c.args.geometry.now in
    let slot = c.loop-slot.slot in
    let size : c.record_size-size.result ≡ record_size geometry = c.record_size-size.ensures in
    let bytes : c.slot_of.result.now ≡ slot_bytes geometry section slot = c.slot_of.ensures ∙ ap (λ (n : ℕ). bytes_at section (slot * n) n) size in
    let here : slot_fault slot (slot_bytes geometry section slot) ≡ Some c.in-Some.fault = ap (slot_fault slot) (sym bytes) ∙ sym c.slot_fault.ensures ∙ c.in-Some.is in
    let lt : slot < slot_count geometry section = subst (λ (n : ℕ). slot < length section / n) size c.loop-slot-test.true in
    sym (first_found (λ (i : ℕ). slot_fault i (slot_bytes geometry section i)) slot (slot_count geometry section) c.in-Some.fault c.loop-slot.invariant lt here)

pub loop-slot-preserved : goal.loop-slot-preserved
loop-slot-preserved c =
    let section = c.args.section.now in
    let geometry = c.args.geometry.now in
    let slot = c.loop-slot.slot in
    let size : c.record_size-size.result ≡ record_size geometry = c.record_size-size.ensures in
    let bytes : c.slot_of.result.now ≡ slot_bytes geometry section slot = c.slot_of.ensures ∙ ap (λ (n : ℕ). bytes_at section (slot * n) n) size in
    none_more (λ (i : ℕ). slot_fault i (slot_bytes geometry section i)) slot c.loop-slot.invariant (ap (slot_fault slot) (sym bytes) ∙ sym c.slot_fault.ensures ∙ c.in_default.is)
