use Rattle.std.proofs.Common.{◌≡◌, ◌*◌, ◌/◌, ◌<◌, ◌∙◌, ap, sym, refl, length, arith, List, ℕ}
use Rattle.ddf_header.specs.Geometry.{section_of}
use Rattle.ddf_config_records.specs.declared.slot.RecordSlot.{RecordSlot}
use Rattle.ddf_config_records.specs.Elements.{record_size}
use Rattle.ddf_config_records.specs.Slots.{AreSlotsOf}
use Rattle.ddf_config_records.proofs.Sound.{room_from_sound}
use Rattle.ddf_copy.specs.Written.{records_written}
use Rattle.ddf_copy.proofs.Slots.{count_of_whole, whole_again}
use Rattle.ddf_copy.proofs.sections.slots_in.Goals as goal

pub returns-in-Ok-clause-written : goal.returns-in-Ok-clause-written
unfolding records_written
returns-in-Ok-clause-written c =
    let header = c.args.header.now in
    let geometry = header.geometry in
    let section = c.as_flattened-section.result.now in
    let all = c.in-Ok.slots.items in
    let room = room_from_sound geometry c.requires.sound in
    let are : AreSlotsOf geometry header.guid header.sequence all section = (c.in-Ok.ensures.ok all).0 refl in
    let some : 0 < geometry.record_length = let whole = room.whole in omega arith in
    let size : length section ≡ 512 * (((section_of geometry 3).length / geometry.record_length) * geometry.record_length) = omega (arith, c.as_flattened-section.ensures.len, c.requires.whole) in
    let count : length all ≡ (section_of geometry 3).length / geometry.record_length = are.counted ∙ count_of_whole (section_of geometry 3).length geometry.record_length (length section) some size in
    let spread : length section ≡ ((section_of geometry 3).length / geometry.record_length) * record_size geometry = omega (arith, size) in
    let whole : length section ≡ length all * record_size geometry = spread ∙ ap (λ (n : ℕ). n * record_size geometry) (sym count) in
    ap (λ (slots : List RecordSlot). records_written geometry slots) c.new.ensures
    ∙ whole_again geometry header.guid header.sequence all section room are whole
    ∙ c.as_flattened-section.ensures.value
