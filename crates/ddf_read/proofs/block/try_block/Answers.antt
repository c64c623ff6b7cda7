use Rattle.std.proofs.Common.{◌∙◌, map, sym}
use Rattle.ddf_array.specs.Sources.{copy, row, copies, rows}
use Rattle.ddf_read.proofs.BlockSources.{sources_trusted, given_first}
use Rattle.ddf_read.proofs.Steps.{read_second, not_read_twice}
use Rattle.ddf_read.proofs.block.try_block.Goals as goal

pub returns-in-Ok-clause-tried : goal.returns-in-Ok-clause-tried
returns-in-Ok-clause-tried g c = λ tells. given_first c.args.view.now c.args.block _ _ _ (c.in-Ok.ensures.tried tells)

pub read_by-requires-2-clause-fits : goal.read_by-requires-2-clause-fits
read_by-requires-2-clause-fits g c = rw c.in-Err.ensures.reads.reads.same_sizes c.requires.fits

pub returns-in-Ok-read_by-clause-tried : goal.returns-in-Ok-read_by-clause-tried
returns-in-Ok-read_by-clause-tried g c = λ tells.
    let trusted = sym c.trusts_parity.ensures ∙ c.if-not-trusts_parity.false in
    rw (sources_trusted c.args.view.now c.args.block trusted)
    (read_second c.in-Err.ensures.reads c.in-Ok-read_by.ensures.reads (map copy (copies c.args.view.now c.args.block)) (map row (rows c.args.view.now c.args.block)) c.in-Err.failed c.read_by-2.new.into
    c.in-Err.ensures.tried (c.in-Ok-read_by.ensures.tried tells))

pub returns-in-Err-read_by-clause-tried : goal.returns-in-Err-read_by-clause-tried
returns-in-Err-read_by-clause-tried g c =
    let trusted = sym c.trusts_parity.ensures ∙ c.if-not-trusts_parity.false in
    rw (sources_trusted c.args.view.now c.args.block trusted, c.or.ensures)
    (not_read_twice c.in-Err.ensures.reads c.in-Err-read_by.ensures.reads (map copy (copies c.args.view.now c.args.block)) (map row (rows c.args.view.now c.args.block)) c.in-Err.failed c.in-Err-read_by.next
    c.in-Err.ensures.tried c.in-Err-read_by.ensures.tried)
