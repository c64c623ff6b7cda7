-- Copies that can be written name each disk and each array once.
use Rattle.std.proofs.Common.{List, [], ◌∷◌, Option, Some, None, map}
use Rattle.ddf_copy.specs.declared.newest_copy.Newest.{Newest}
use Rattle.ddf_copy.specs.declared.newest_copy.Newest.TheVariants as newests
use Rattle.ddf_copy.specs.Whole.{IsNewestCopy}
use Rattle.std.specs.Prelude.{IfSome}
use Rattle.ddf_view.proofs.Names.{names_differ}
use Rattle.ddf_group.specs.Names.{AreNamed, IsNamed}
use Rattle.ddf_group.specs.Shown.{shown_of}
use Rattle.ddf_assembly.specs.Reading.{AreNewest}

one_named : (one : Option Newest) → IfSome one IsNewestCopy → IsNamed (shown_of one)
unfolding shown_of
one_named None copy = tt
one_named (Some (newests.One which copy)) is = names_differ copy [] is
one_named (Some (newests.Level copy)) is = names_differ copy [] is
one_named (Some (newests.TwoDiffer primary secondary)) is = names_differ primary [] is.0
one_named (Some (newests.Neither first second)) is = tt

pub shown_named : (newest : List (Option Newest)) → AreNewest newest → AreNamed (map shown_of newest)
shown_named [] are = tt
shown_named (one ∷ newest) are = (one_named one are.0, shown_named newest are.1)
