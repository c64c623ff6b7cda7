use Rattle.std.proofs.Common.{◌∙◌, ap, add-zero}
use Rattle.ddf_array.specs.Sources.{sources}
use Rattle.ddf_read.proofs.WithoutCopies.{no_source}
use Rattle.ddf_read.proofs.by_rows.read_by_rows.Goals as goal

pub unreachable-requires : goal.unreachable-requires
unreachable-requires g c =
    c.requires.sources 0 c.requires.some
    (ap (sources c.args.view.now) (add-zero c.args.start) ∙ no_source c.args.view.now c.args.start c.requires.lacks c.in_default.ensures)
