use Rattle.std.proofs.Common.{leb, leb-true, leb-false, arith, rules}
use Rattle.std.proofs.lemmas.List.Sorted.{IsPartitionPoint-from_clause, IsPartitionedBy-leb}
use Rattle.ddf_badblocks.specs.declared.side.Side.{Side}
use Rattle.ddf_badblocks.proofs.InRow.{row_rises}
use Rattle.ddf_badblocks.proofs.side.begun_by.Goals as goal

pub returns-clause-before : goal.returns-clause-before
returns-clause-before c = λ k d lt.
    let parted = IsPartitionedBy-leb (λ (side : Side). side.first) _ c.args.lba (row_rises 0 _ c.requires.row) in
    let point = IsPartitionPoint-from_clause (λ (side : Side). leb side.first c.args.lba) _ _ c.partition_point.ensures.partitioned parted (λ a r q k. search rules) in
    leb-true _ _ (point.0 k d (omega arith) lt)

pub returns-clause-behind : goal.returns-clause-behind
returns-clause-behind c = λ k d le lt.
    let parted = IsPartitionedBy-leb (λ (side : Side). side.first) _ c.args.lba (row_rises 0 _ c.requires.row) in
    let point = IsPartitionPoint-from_clause (λ (side : Side). leb side.first c.args.lba) _ _ c.partition_point.ensures.partitioned parted (λ a r q k. search rules) in
    leb-false _ _ (point.1 k d le lt)
