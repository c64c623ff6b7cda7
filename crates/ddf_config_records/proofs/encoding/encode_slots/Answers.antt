use Rattle.std.proofs.Common.{◌≡◌, ◌*◌, ◌/◌, ◌∙◌, sym, ap, length, take, drop, ℕ, arith}
use Rattle.std.proofs.lemmas.List.{take_at}
use Rattle.ddf_seal.specs.Unread.{AreBytes}
use Rattle.ddf_config_records.specs.Elements.{record_size}
use Rattle.ddf_config_records.specs.Slots.{slot_count, slots_written}
use Rattle.ddf_config_records.proofs.Sound.{room_from_sound}
use Rattle.ddf_config_records.proofs.Written.{written_again, written_are}
use Rattle.ddf_config_records.proofs.encoding.encode_slots.Goals as goal

pub write-requires-clause-room : goal.write-requires-clause-room
write-requires-clause-room c = room_from_sound c.args.geometry.now c.requires.sound

pub write-requires-clause-fits : goal.write-requires-clause-fits
write-requires-clause-fits c = c.requires.fits.each

pub returns-clause-back : goal.returns-clause-back
returns-clause-back c = λ group sequence section are.
    let geometry = c.args.geometry.now in
    let all = c.args.slots.now in
    let n = length all * record_size geometry in
    ap (take n) c.write.ensures.exact ∙ take_at (slots_written geometry all) (drop n c.args.into.now) n c.write.ensures.size
    ∙ written_again geometry group sequence all section (room_from_sound geometry c.requires.sound) are

pub returns-clause-made : goal.returns-clause-made
returns-clause-made c = λ group sequence can.
    let geometry = c.args.geometry.now in
    let all = c.args.slots.now in
    let new = c.write.new.into in
    let are : AreBytes new = λ i. omega (arith, c.type_inv.into i) in
    let same : length new ≡ length c.args.into.now = c.write.auto.into in
    let counted : length all ≡ slot_count geometry new = c.requires.counted ∙ ap (λ (m : ℕ). m / record_size geometry) (sym same) in
    written_are geometry group sequence all new (drop (length all * record_size geometry) c.args.into.now) (room_from_sound geometry c.requires.sound) can c.write.ensures.exact counted are
