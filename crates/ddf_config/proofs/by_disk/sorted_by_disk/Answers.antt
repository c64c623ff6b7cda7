use Rattle.std.proofs.Common.{List, rules, subst}
use Rattle.std.proofs.lemmas.List.Sorted.{IsNonDecreasingBy-from_sort_by_key, answers_always}
use Rattle.ddf_config.specs.declared.extent.Extent.{Extent}
use Rattle.ddf_config.specs.Extents.{AreByDisk}
use Rattle.ddf_config.proofs.ByDisk.{by_disk}
use Rattle.ddf_config.proofs.by_disk.sorted_by_disk.Goals as goal

pub returns : goal.returns
returns c =
    subst (λ (all : List Extent). AreByDisk all c.sort_by_key.new.self.items) c.in_ok-sorted.ensures.items
    (by_disk _ _ (IsNonDecreasingBy-from_sort_by_key (λ p. p.reference) _ c.in_ok-sort_by_key.ensures.sorted (λ a r q k. search rules))
    (c.sort_by_key.ensures.stable (λ p. p.reference) (answers_always _ _ _ (λ f a r g h. search rules))))
