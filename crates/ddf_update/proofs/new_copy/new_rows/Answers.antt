use Rattle.std.proofs.Common.{◌≡◌, ◌-◌, ◌++◌, length, replicate, take, vec_len, ap, ◌∙◌, rules}
use Rattle.ddf_tables.specs.declared.disks.DiskRow.TheVariants.{Unused}
use Rattle.ddf_update.specs.NewLayouts.{rows_of}
use Rattle.ddf_update.proofs.NewRows.{rows_filled}
use Rattle.ddf_update.proofs.new_copy.new_rows.Goals as goal

pub returns : goal.returns
returns c =
    let rows = c.in_ok-rows.rows in
    let items : c.resize.new.self.items ≡ take c.from.result rows.items ++ replicate (c.from.result - vec_len rows) (Unused (replicate 64 255)) = c.in_ok-resize.ensures.items in
    let most : c.from.result ≡ rows_of c.args.layout = c.from.ensures ∙ c.most_disks.ensures in
    let counted : vec_len rows ≡ length rows.items = search rules in
    items ∙ ap (λ n. take n rows.items ++ replicate (n - vec_len rows) (Unused (replicate 64 255))) most
    ∙ rows_filled c.args.layout c.args.revision c.args.stamp.now c.args.sizes.now rows.items (vec_len rows) c.in_ok-rows.ensures counted c.requires.few
