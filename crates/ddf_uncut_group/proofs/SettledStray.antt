-- A settled group has no disk that recovery must not write over.
use Rattle.std.proofs.Common.{◌≡◌, false, true, map}
use Rattle.ddf_lemmas.proofs.Lists.{all_weaken}
use Rattle.ddf_group.specs.Shown.{shown_of}
use Rattle.ddf_view.specs.Reading.{are_noted}
use Rattle.ddf_view.specs.Shows.{shows}
use Rattle.ddf_view.specs.View.{view_of}
use Rattle.ddf_seats.specs.declared.seated.Seated.{Seated}
use Rattle.ddf_seats.specs.Group.{GroupValue}
use Rattle.ddf_recovery.specs.Recovery.{has_stray}
use Rattle.ddf_seats.specs.Leading.{leading_views}
use Rattle.ddf_seats.specs.Seated.{seated}
use Rattle.ddf_assembly.specs.Settled.{IsLevelIn, IsSettledGroup}
use Rattle.ddf_recovery.proofs.Recovered.{none_stray}

pub not_stray : (group : GroupValue) → IsSettledGroup group → has_stray group ≡ false
not_stray group settled =
    none_stray (map shown_of group.newest) group.newest (are_noted (leading_views group)) group.config (seated group) settled.can_be_changed.of_group
    (all_weaken (IsLevelIn group) (λ (disk : Seated). shows group.config (view_of disk.copy) ≡ true) (λ disk level. level.is_shown) (seated group) settled.are_level)
