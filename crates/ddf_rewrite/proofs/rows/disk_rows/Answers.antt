use Rattle.std.proofs.Common.{length, Ok, rules, tests}
use Rattle.std.proofs.lemmas.Iterator.{YieldsList-from_slice, YieldsList-from_map, YieldsList-from_take, items_from_collect}
use Rattle.std.proofs.lemmas.Iterator.Consumers.{YieldsList-at, YieldsList-from_chain, YieldsList-from_copied, YieldsList-from_filter}
use Rattle.std.proofs.lemmas.Iterator.Adapters.{YieldsList-from_repeat_n, YieldsList-from_vec}
use Rattle.std.specs.Prelude.{◌≡◌, not}
use Rattle.ddf_tables.specs.declared.disks.DiskEntry.{DiskEntry}
use Rattle.ddf_tables.specs.declared.disks.DiskRow.{DiskRow}
use Rattle.ddf_tables.specs.declared.disks.DiskRow.TheVariants.{Entry}
use Rattle.ddf_tables.specs.Disks.{is_used_disk}
use Rattle.ddf_rewrite.proofs.rows.disk_rows.Goals as goal

pub returns : goal.returns
returns c =
    items_from_collect {E = Unit {0}} (Ok c.in_ok-after.after) c.in_ok-after.ensures.ran
    (YieldsList-from_take (length c.args.rows.now)
    (YieldsList-at c.take.ensures.source
    (YieldsList-from_chain
    (YieldsList-at c.chain-2.ensures.first
    (YieldsList-from_chain
    (YieldsList-at c.chain.ensures.first
    (YieldsList-from_map _ (λ (entry : DiskEntry). Entry entry)
    (YieldsList-at c.map.ensures.source (YieldsList-from_vec c.args.entries.items (cc) (cc)))
    c.map.ensures.closure (λ x r q k. search (rules, tests))))
    (YieldsList-at c.chain.ensures.second
    (YieldsList-from_filter _ (λ (row : DiskRow). not (is_used_disk row))
    (YieldsList-at c.filter.ensures.source (YieldsList-from_copied (YieldsList-at c.copied.ensures.source (YieldsList-from_slice c.args.rows.now (cc)))))
    c.filter.ensures.closure (λ x r q k. search (rules, tests))))
    c.chain.ensures.first_done c.chain.ensures.second_done))
    (YieldsList-at c.chain-2.ensures.second (YieldsList-from_repeat_n (λ (x y : DiskRow). y ≡ x) (length c.args.rows.now) c.args.unused (cc) (cc) (λ y e. e)))
    c.chain-2.ensures.first_done c.chain-2.ensures.second_done)) (cc))
