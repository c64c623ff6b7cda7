use Rattle.std.proofs.Common.{◌∙◌, ap}
use Rattle.ddf_write.specs.Keeping.{Keeping, kept_of}
use Rattle.ddf_write.proofs.kept.Kept.keep.Goals as goal

pub returns : goal.returns
returns c = record {
  this = c.in_ok-insert.ensures.updates.1;
  others = λ e p s differ. c.in_ok-insert.ensures.updates.2 (record { element = e; position = p; sector = s }) differ ∙ ap (λ (kept : Keeping). kept_of kept e p s) c.self.view_is;
}
