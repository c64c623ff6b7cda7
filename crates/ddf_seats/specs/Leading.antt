-- The disks of a group that lead it, and those that lag.
use Rattle.std.specs.Prelude.{Bool, true, false, ◌&&◌, ◌==◌, List, [], ◌∷◌, filter}
use Rattle.std.specs.List.{list_any}
use Rattle.std.specs.Str.{bytes_eq}
use Rattle.ddf_config.specs.Configuration.{Configuration}
use Rattle.ddf_view.specs.View.{View, lists_itself, view_of}
use Rattle.ddf_rewrite.specs.Before.{Before, before}
use Rattle.ddf_seats.specs.declared.seated.Seated.{Seated}
use Rattle.ddf_seats.specs.Group.{GroupValue}
use Rattle.ddf_seats.specs.Seated.{seated, views_in}

-- A disk leads: its copy is of the group and of the configuration's sequence number, and lists the disk itself as a current member.
abbrev pub leads : Configuration → Seated → Bool
leads config disk = bytes_eq disk.copy.header.guid config.group && disk.copy.header.sequence == config.sequence && lists_itself (view_of disk.copy)

-- the leaders, the lowest first
unfoldable pub leading_disks : GroupValue → List Seated
leading_disks group = filter (leads group.config) (seated group)

-- what they say
abbrev pub leading_views : GroupValue → List View
leading_views group = views_in (leading_disks group)

abbrev pub leading : GroupValue → Before
leading group = before (leading_views group)

-- a disk is on a slot that lags
abbrev pub lags : GroupValue → Seated → Bool
lags group disk = list_any (λ slot. slot == disk.seat.slot) group.lagging

abbrev pub some : {X : Type 0} → List X → Bool
some [] = false
some (x ∷ xs) = true
