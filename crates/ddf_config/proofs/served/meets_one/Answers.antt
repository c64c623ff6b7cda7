use Rattle.std.proofs.Common.{◌∙◌, ap, nat_le}
use Rattle.std.specs.List.{count_by}
use Rattle.ddf_config.specs.Served.{meets_extent}
use Rattle.ddf_config.proofs.ByDisk.{count_on}
use Rattle.ddf_config.proofs.served.meets_one.Goals as goal

pub returns : goal.returns
returns c =
    c.meets_one_of.ensures ∙ ap (λ l. nat_le (count_by (meets_extent c.args.one.now) l) 1) c.on_disk.ensures
    ∙ ap (λ n. nat_le n 1) (count_on c.args.one.now c.args.all.now)
