use Rattle.std.proofs.Common.{leb, ltb, rules}
use Rattle.std.proofs.lemmas.List.{take_rest}
use Rattle.std.proofs.lemmas.List.Sorted.{IsNonDecreasingBy-drop, IsNonDecreasingBy-take, IsPartitionPoint-from_clause, IsPartitionedBy-leb, IsPartitionedBy-ltb}
use Rattle.ddf_config.proofs.ByDisk.{run_is}
use Rattle.ddf_config.proofs.by_disk.run_on.Goals as goal

pub returns : goal.returns
returns c =
    let first = IsPartitionPoint-from_clause (λ p. ltb p.reference c.args.reference) _ _ c.partition_point-first.ensures.partitioned (IsPartitionedBy-ltb (λ p. p.reference) _ c.args.reference c.requires) (λ a r q k. search rules) in
    let rising = IsNonDecreasingBy-take (λ p. p.reference) _ _ (IsNonDecreasingBy-drop (λ p. p.reference) _ _ c.requires) in
    let rest = IsPartitionPoint-from_clause (λ p. leb p.reference c.args.reference) _ _ c.partition_point-count.ensures.partitioned (IsPartitionedBy-leb (λ p. p.reference) _ c.args.reference rising) (λ a r q k. search rules) in
    run_is c.args.sorted.now _ c.args.reference _ _ (take_rest c.args.sorted.now _) first rest
