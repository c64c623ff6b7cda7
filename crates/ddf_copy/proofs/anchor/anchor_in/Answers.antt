use Rattle.std.proofs.Common.{◌≡◌, ◌∙◌, ℕ, List, refl, sym, subst, false, eqb}
use Rattle.ddf_header.specs.declared.kind.HeaderKind.TheVariants.{Anchor}
use Rattle.ddf_header.specs.Header.{IsHeaderOf}
use Rattle.ddf_header.proofs.Encoded.{encoded_again}
use Rattle.std.proofs.lemmas.Bool.{ne_eqb}
use Rattle.std.specs.Int.{w32}
use Rattle.ddf_bytes.specs.Bytes.{number_at}
use Rattle.ddf_header.specs.Header.{header_signature}
use Rattle.ddf_copy.specs.Anchor.{anchor_in}
use Rattle.ddf_copy.proofs.anchor.anchor_in.Goals as goal

pub returns-then-be32-ne-HEADER_SIGNATURE-clause-value : goal.returns-then-be32-ne-HEADER_SIGNATURE-clause-value
unfolding anchor_in
returns-then-be32-ne-HEADER_SIGNATURE-clause-value c =
    let other : eqb (number_at w32 c.args.last.now 0) header_signature ≡ false = ne_eqb (number_at w32 c.args.last.now 0) header_signature (λ e. c.if-be32-ne-HEADER_SIGNATURE.true (c.be32.ensures ∙ e)) in
    rw other refl

pub returns-in-Ok-clause-spelled : goal.returns-in-Ok-clause-spelled
returns-in-Ok-clause-spelled c =
    let is = (c.decode.ensures.ok c.in-Ok.anchor).0 c.in-Ok.is in
    subst (λ (bytes : List ℕ). IsHeaderOf Anchor c.in-Ok.anchor bytes) (sym (encoded_again Anchor c.in-Ok.anchor c.args.last.now is)) is
