use Rattle.std.proofs.Common.{List, sym, subst, ◌∙◌}
use Rattle.ddf_group.specs.declared.shown.Shown.{Shown}
use Rattle.ddf_group.specs.Names.{AreNamed}
use Rattle.ddf_assembly.proofs.Named.{shown_named}
use Rattle.ddf_assembly.proofs.assembling.found.Goals as goal

pub assembled-requires : goal.assembled-requires
assembled-requires c = subst (λ (shown : List Shown). AreNamed shown) (sym (c.deref.ensures.value ∙ c.in_ok-shown.ensures)) (shown_named c.args.newest.now c.requires)
