use Rattle.std.proofs.Common.{◌≡◌, ◌∙◌, ◌*◌, length, subst, arith}
use Rattle.std.proofs.lemmas.List.{length-take-le}
use Rattle.ddf_bytes.specs.Streams.{Gives}
use Rattle.ddf_write_commands.specs.Payload.{pieces_of}
use Rattle.ddf_write_commands.proofs.FirstPiece.{first_filled, first_within}
use Rattle.ddf_write_commands.proofs.payload.fill_first.Goals as goal

pub returns-in-Ok-clause-read : goal.returns-in-Ok-clause-read
returns-in-Ok-clause-read g c =
    let pieces = pieces_of c.args.beside.now in
    let size = 512 * c.first_piece.result in
    let within = first_within pieces c.args.count in
    let long : length c.fill_from.new.into ≡ 512 * c.first_piece.result =
    c.fill_from.auto.into ∙ length-take-le (512 * c.first_piece.result) c.args.room.now (omega (arith, c.first_piece.ensures, c.requires.room, within)) in
    first_filled g.S.Source.tells (g.S.Source.input c.args.source.now) (g.S.Source.input c.fill_from.new.source) pieces c.args.count size c.args.room.now c.fill_from.new.into c.requires.room
    (omega (arith, c.first_piece.ensures)) long (subst (λ n. g.S.Source.tells → Gives (g.S.Source.input c.args.source.now) (g.S.Source.input c.fill_from.new.source) c.fill_from.new.into n) c.if-found-size.true c.in-Ok.ensures.bytes)
    c.in-Ok.ensures.ok
