use Rattle.std.proofs.Common.{◌≡◌, ℕ, ◌-◌, ◌++◌, List, length, replicate, take, vec_len, ap, ◌∙◌, rules}
use Rattle.ddf_tables.specs.declared.disks.DiskRow.{DiskRow}
use Rattle.ddf_moving.specs.Copies.{filled, unused_disk}
use Rattle.ddf_moving.proofs.tables.disk_rows.Goals as goal

pub returns : goal.returns
returns c =
    let all = c.in_ok-all.all in
    let max = c.args.max in
    let items : c.resize.new.self.items ≡ take c.from.result all.items ++ replicate (c.from.result - vec_len all) unused_disk = c.in_ok-resize.ensures.items in
    let counted : vec_len all ≡ length all.items = search rules in
    items
    ∙ ap (λ (n : ℕ). take n all.items ++ replicate (n - vec_len all) unused_disk) c.from.ensures
    ∙ ap (λ (n : ℕ). take max all.items ++ replicate (max - n) unused_disk) counted
    ∙ ap (λ (rows : List DiskRow). filled unused_disk max rows) c.in_ok-all.ensures
