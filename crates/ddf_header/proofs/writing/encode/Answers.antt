use Rattle.std.proofs.Common.{◌≡◌, ◌∙◌, sym, subst, List, ℕ, length, arith}
use Rattle.ddf_seal.specs.Unread.{AreBytes}
use Rattle.ddf_header.specs.Header.{IsHeaderOf}
use Rattle.ddf_header.proofs.Encoded.{encoded_again, encoded_is}
use Rattle.ddf_header.proofs.writing.encode.Goals as goal

pub returns-clause-back : goal.returns-clause-back
returns-clause-back c = λ kind sector is. c.write.ensures.exact ∙ encoded_again kind c.args.header.now sector is

pub returns-clause-made : goal.returns-clause-made
returns-clause-made c = λ kind can.
    let header = c.args.header.now in
    let size : length header.rest ≡ 512 = omega arith in
    let exact = c.write.ensures.exact in
    subst (λ (sector : List ℕ). IsHeaderOf kind header sector) (sym exact) (encoded_is kind header size can (subst AreBytes exact c.write.ensures.bytes))
