use Rattle.std.proofs.Common.{◌/◌, ◌∙◌, List, ℕ, ap, length, arith}
use Rattle.ddf_copy.specs.Sections.{bytes_in}
use Rattle.ddf_copy.proofs.Sectors.{chunks_are}
use Rattle.ddf_copy.proofs.writing.sectors_in.Goals as goal

pub returns-clause-bytes : goal.returns-clause-bytes
returns-clause-bytes c =
    ap (λ (sectors : List (List ℕ)). bytes_in sectors) (c.new.ensures ∙ c.in_ok-sectors.ensures.items ∙ c.as_chunks.ensures.front)
    ∙ chunks_are (length c.args.bytes.now / 512) c.args.bytes.now (omega (arith, c.requires))
