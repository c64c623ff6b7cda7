use Rattle.std.proofs.Common.{◌≡◌, ap, length, List, refl}
use Rattle.std.specs.Int.{w16, w32, to_be_bytes}
use Rattle.ddf_seal.specs.Unread.{placed}
use Rattle.ddf_seal.proofs.Same.{as_placed}
use Rattle.ddf_config_records.specs.declared.notes.SlotNote.{SlotNote}
use Rattle.ddf_config_records.specs.declared.layout.TheConstants.{NOTES_SEQUENCE_AT, NOTES_SLOTS_AT, NOTES_MEMBERS_AT}
use Rattle.ddf_config_records.proofs.notes_writing.put_head.Goals as goal

pub returns : goal.returns
returns c =
    let notes = c.args.notes.now in
    let slots : length c.items.result.now ≡ length notes.slots = ap (λ (l : List SlotNote). length l) c.items.ensures in
    let s1 : c.put32.new.into ≡ placed c.place-2.new.into NOTES_SEQUENCE_AT (to_be_bytes w32 notes.sequence) = as_placed _ _ _ _ c.put32.ensures.written in
    let s2 : c.put16.new.into ≡ placed c.put32.new.into NOTES_SLOTS_AT (to_be_bytes w16 (length c.items.result.now)) = as_placed _ _ _ _ c.put16.ensures.written in
    let s3 : c.put16-2.new.into ≡ placed c.put16.new.into NOTES_MEMBERS_AT (to_be_bytes w16 c.args.most) = as_placed _ _ _ _ c.put16-2.ensures.written in
    rw (c.place-3.ensures, s3, s2, slots, s1, c.place-2.ensures, c.place.ensures, c.bytes.ensures) refl
