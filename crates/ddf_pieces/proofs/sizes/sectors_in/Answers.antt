use Rattle.std.proofs.Common.{◌∙◌, ◌/◌, ℕ, List, slice_get, length, ap, sym, arith}
use Rattle.ddf_pieces.specs.Pieces.{bytes_of}
use Rattle.ddf_pieces.proofs.Chunks.{chunk_long, chunks_are}
use Rattle.ddf_pieces.proofs.sizes.sectors_in.Goals as goal

pub returns-clause-bytes : goal.returns-clause-bytes
returns-clause-bytes c = ap bytes_of c.as_chunks.ensures.front ∙ chunks_are (length c.args.bytes.now / 512) c.args.bytes.now (omega (arith, c.requires))

pub returns-clause-whole : goal.returns-clause-whole
returns-clause-whole c = λ k sector at.
    chunk_long (length c.args.bytes.now / 512) c.args.bytes.now (omega (arith, c.requires)) k sector (sym (ap (λ (sectors : List (List ℕ)). slice_get sectors k) c.as_chunks.ensures.front) ∙ at)
