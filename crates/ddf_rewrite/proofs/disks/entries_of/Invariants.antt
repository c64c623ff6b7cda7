use Rattle.std.proofs.Common.{◌≡◌, ◌++◌, map, filter_map}
use Rattle.ddf_view.specs.View.{disk_of}
use Rattle.ddf_rewrite.specs.Disks.{block_size_of, disk_on, member_entry}
use Rattle.ddf_rewrite.proofs.disks.entries_of.Given as goal

abbrev pub invariant-loop-reference : goal.invariant-loop-reference
invariant-loop-reference l =
    l.entries.items ++ map (λ entry. disk_on (filter_map disk_of l.sources.own.now) (block_size_of l.sources.revision)
    (member_entry l.sources.all.now (filter_map disk_of l.sources.leading.now) entry)) l.reference-iterator
    ≡ map (λ entry. disk_on (filter_map disk_of l.sources.own.now) (block_size_of l.sources.revision)
    (member_entry l.sources.all.now (filter_map disk_of l.sources.leading.now) entry)) l.members.entries
