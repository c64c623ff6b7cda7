use Rattle.std.proofs.Common.{◌≡◌, ◌*◌, ◌/◌, drop, length, fold, ◌∙◌, ap}
use Rattle.std.specs.Simd.{first_chunks}
use Rattle.ddf_seal.specs.Crc.{byte_step}
use Rattle.ddf_seal.proofs.CrcTables.{fold-chunks}
use Rattle.ddf_seal.proofs.crc.after_bytes_by.Goals as goal

pub returns : goal.returns
returns c =
    let bytes = c.args.bytes.now in
    let words = c.as_chunks.result.0.now in
    let register = c.args.register in
    let blocks : c.after_blocks-after.result ≡ fold (fold (fold byte_step)) register (first_chunks 4 (length words / 4) words) =
    c.after_blocks-after.ensures ∙ ap (fold (fold (fold byte_step)) register) c.as_chunks-2.ensures.front in
    let rest : c.after_words.result ≡ fold (fold byte_step) register words =
    c.after_words.ensures ∙ ap (fold (fold byte_step) c.after_blocks-after.result) c.as_chunks-2.ensures.back
    ∙ ap (λ r. fold (fold byte_step) r (drop (length words / 4 * 4) words)) blocks ∙ fold-chunks (fold byte_step) 4 (length words / 4) register words in
    let whole : c.after_words.result ≡ fold (fold byte_step) register (first_chunks 4 (length bytes / 4) bytes) = rest ∙ ap (fold (fold byte_step) register) c.as_chunks.ensures.front in
    c.after_tail.ensures ∙ ap (fold byte_step c.after_words.result) c.as_chunks.ensures.back
    ∙ ap (λ r. fold byte_step r (drop (length bytes / 4 * 4) bytes)) whole ∙ fold-chunks byte_step 4 (length bytes / 4) register bytes
