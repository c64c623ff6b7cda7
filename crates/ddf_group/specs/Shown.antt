-- What a slot shows of a group, by its newest copy.
use Rattle.std.specs.Prelude.{Option, Some, None}
use Rattle.ddf_copy.specs.declared.newest_copy.Newest.{Newest}
use Rattle.ddf_copy.specs.declared.newest_copy.Newest.TheVariants as newests
use Rattle.ddf_view.specs.View.{view_of}
use Rattle.ddf_group.specs.declared.shown.Shown.{Shown}
use Rattle.ddf_group.specs.declared.shown.Shown.TheVariants.{Nothing, One, Level, TwoDiffer}

-- A slot that is left out, or has no anchor, has no newest copy. Level copies say the same, so one view stands for both.
unfoldable pub shown_of : Option Newest → Shown
shown_of None = Nothing
shown_of (Some (newests.One which copy)) = One (view_of copy)
shown_of (Some (newests.Level copy)) = Level (view_of copy)
shown_of (Some (newests.TwoDiffer primary secondary)) = TwoDiffer (view_of primary) (view_of secondary)
shown_of (Some (newests.Neither first second)) = Nothing
