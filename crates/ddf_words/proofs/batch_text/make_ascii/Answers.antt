use Rattle.std.proofs.Common.{◌≡◌, ◌∙◌, ℕ, ap, length, get_or, length-append, length-drop, length-take, arith}
use Rattle.std.proofs.Math.ListN.{set}
use Rattle.std.proofs.lemmas.List.{get_or_default, length-map}
use Rattle.std.proofs.lemmas.List.Edits.{map_over_more}
use Rattle.ddf_words.specs.Text.{ascii_of}
use Rattle.ddf_words.proofs.batch_text.make_ascii.Goals as goal

pub loop-byte-preserved : goal.loop-byte-preserved
loop-byte-preserved c =
    let bytes = c.loop-byte.bytes in
    let place = c.loop-byte.byte-index in
    let here = get_or bytes place 0 in
    let size : length bytes ≡ length c.args.bytes.now = omega (arith, simp (length-append, length-map, length-take, length-drop) at (ap length c.loop-byte.invariant)) in
    ap (λ (byte : ℕ). set bytes place byte) c.make_ascii_byte.ensures
    ∙ map_over_more ascii_of c.args.bytes.now bytes place here c.loop-byte-test.true c.loop-byte.invariant (get_or_default bytes place 0 here (omega arith))
