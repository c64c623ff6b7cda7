use Rattle.std.proofs.lemmas.Result.{IfErr-weaker, on_ok_weaker}
use Rattle.ddf_write.proofs.Gathered.{gathers_start}
use Rattle.ddf_write.proofs.look.keep_position.Goals as goal

pub returns-then-position-parity-clause-known : goal.returns-then-position-parity-clause-known
returns-then-position-parity-clause-known g c = λ other. absurd (other c.if-position-parity.true)

pub returns-then-position-parity-clause-gathers : goal.returns-then-position-parity-clause-gathers
returns-then-position-parity-clause-gathers g c = gathers_start g.B.Bay.tells (g.B.Bay.disks c.args.bay.now) c.args.view.now c.args.piece.start c.args.piece.count c.args.kept.now

pub returns-clause-known : goal.returns-clause-known
returns-clause-known g c = on_ok_weaker c.keep_cells.result (λ known other. known) c.keep_cells.ensures.known

pub returns-clause-left : goal.returns-clause-left
returns-clause-left g c = IfErr-weaker c.keep_cells.result _ _ (λ missed left part part_at. (c.if-position-parity.false, left part part_at)) c.keep_cells.ensures.left
