use Rattle.std.proofs.Common.{◌≡◌, ◌+◌, ◌/◌, ◌∷◌, [], ◌∙◌, ap, refl, ℕ, List, Bool, true, false, cond}
use mir.Val.{bool_byte}
use Rattle.std.specs.Int.{w16, w32, w64, to_be_bytes}
use Rattle.ddf_seal.specs.Unread.{placed}
use Rattle.ddf_seal.proofs.Same.{as_placed}
use Rattle.ddf_config_records.specs.declared.layout.TheConstants.{NOTE_POSITION_AT, NOTE_ZERO_AT, NOTE_STAND_IN_AT, NOTE_ROW_AT, NOTE_BITS_AT}
use Rattle.ddf_config_records.specs.Bits.{bits_of}
use Rattle.ddf_config_records.proofs.notes_writing.put_note.Goals as goal

flag_byte : (b : Bool) → bool_byte b ≡ cond b 1 0
flag_byte true = refl
flag_byte false = refl

pub returns : goal.returns
returns c =
    let note = c.args.note.now in
    let into = c.args.into.now in
    let at = c.args.at in
    let p1 : c.place.new.into ≡ placed into at (cond note.copied 1 0 ∷ []) = c.place.ensures ∙ ap (λ (b : ℕ). placed into at (b ∷ [])) (c.from.ensures ∙ flag_byte note.copied) in
    let p2 : c.place-2.new.into ≡ placed c.place.new.into (at + NOTE_ZERO_AT) (0 ∷ []) = c.place-2.ensures in
    let s1 : c.put16.new.into ≡ placed c.place-2.new.into (at + NOTE_POSITION_AT) (to_be_bytes w16 note.position) = as_placed _ _ _ _ c.put16.ensures.written in
    let s2 : c.put32.new.into ≡ placed c.put16.new.into (at + NOTE_STAND_IN_AT) (to_be_bytes w32 note.stand_in) = as_placed _ _ _ _ c.put32.ensures.written in
    let s3 : c.put64.new.into ≡ placed c.put32.new.into (at + NOTE_ROW_AT) (to_be_bytes w64 note.row) = as_placed _ _ _ _ c.put64.ensures.written in
    let p3 : c.put_out.new.into ≡ placed c.put64.new.into (at + NOTE_BITS_AT) (bits_of (c.args.most / 8) note.out) =
    c.put_out.ensures ∙ ap (λ (out : List ℕ). placed c.put64.new.into (at + NOTE_BITS_AT) (bits_of (c.args.most / 8) out)) c.items.ensures in
    rw (p3, s3, s2, s1, p2, p1) refl
