use Rattle.std.proofs.Common.{◌≡◌, ◌*◌, ◌/◌, ◌∙◌, ap, sym, length, arith, ℕ}
use Rattle.ddf_header.specs.declared.geometry.Section.{Section}
use Rattle.ddf_header.specs.Geometry.{section_of}
use Rattle.ddf_header.proofs.Sound.{sound}
use Rattle.ddf_config_records.specs.Elements.{record_size}
use Rattle.ddf_config_records.proofs.Sound.{room_from_sound}
use Rattle.ddf_copy.specs.Written.{records_written}
use Rattle.ddf_copy.proofs.Slots.{slots_are_read, whole_again}
use Rattle.ddf_copy.proofs.writing.records_of.Goals as goal

pub whole_slots-requires : goal.whole_slots-requires
whole_slots-requires c = sound c.args.copy.now.header.geometry c.requires.header_can.is_header.has_geometry

pub put_slots-requires-clause-sound : goal.put_slots-requires-clause-sound
put_slots-requires-clause-sound c = sound c.args.copy.now.header.geometry c.requires.header_can.is_header.has_geometry

pub returns-clause-written : goal.returns-clause-written
unfolding records_written
returns-clause-written c =
    let header = c.args.copy.now.header in
    let geometry = header.geometry in
    let all = c.args.copy.now.slots in
    let room = room_from_sound geometry (sound geometry c.requires.header_can.is_header.has_geometry) in
    let are = rw c.items.ensures at (c.put_slots.ensures.made header.guid header.sequence (rw c.items.ensures c.requires.slots_can)) in
    let size : length c.put_slots.new.bytes.items ≡ 512 * (((section_of geometry 3).length / geometry.record_length) * geometry.record_length) =
    c.put_slots.ensures.size ∙ c.in_ok-bytes.ensures ∙ ap (λ (n : ℕ). 512 * n) (ap (λ (section : Section). section.length) c.whole_slots.ensures.value) in
    let spread : length c.put_slots.new.bytes.items ≡ ((section_of geometry 3).length / geometry.record_length) * record_size geometry = omega (arith, size) in
    let whole : length c.put_slots.new.bytes.items ≡ length all * record_size geometry = spread ∙ ap (λ (n : ℕ). n * record_size geometry) (sym c.requires.slots_count) in
    c.in_ok-sectors.ensures.bytes ∙ c.as_slice.ensures.value ∙ sym (whole_again geometry header.guid header.sequence all _ room are whole)

pub returns-clause-read : goal.returns-clause-read
returns-clause-read c =
    let header = c.args.copy.now.header in
    let geometry = header.geometry in
    let room = room_from_sound geometry (sound geometry c.requires.header_can.is_header.has_geometry) in
    let are = rw c.items.ensures at (c.put_slots.ensures.made header.guid header.sequence (rw c.items.ensures c.requires.slots_can)) in
    let bytes = c.in_ok-sectors.ensures.bytes ∙ c.as_slice.ensures.value in
    rw bytes (slots_are_read geometry header.guid header.sequence c.args.copy.now.slots _ room c.put_slots.ensures.bytes are)
