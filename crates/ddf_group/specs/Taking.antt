-- Disks of another group that this one takes over (profile): those that have joined it, where the join was stopped before it was on all of them.
use Rattle.std.specs.Prelude.{ℕ, Bool, false, not, ◌&&◌, ◌||◌, List, Option, Some, None}
use Rattle.std.specs.List.{list_all, list_any}
use Rattle.std.specs.Option.{option_map_or}
use Rattle.std.specs.Str.{bytes_eq}
use Rattle.ddf_tables.specs.declared.disks.DiskEntry.{DiskEntry}
use Rattle.ddf_view.specs.View.{View, lists_current, lists_missing}
use Rattle.ddf_group.specs.declared.shown.Shown.{Shown}
use Rattle.ddf_group.specs.Slots.{group_shown, leading_view, slot_at}

-- ---- what two groups list

-- it lists the disk, as a current member or as a missing one
abbrev pub lists : View → DiskEntry → Bool
lists view disk = lists_current view disk.guid disk.reference || lists_missing view disk.guid disk.reference

-- each disk that the former group counts as a current member is listed by this one
abbrev pub lists_members : (leader former : View) → Bool
lists_members leader former = list_all (λ disk. not (lists_current former disk.guid disk.reference) || lists leader disk) former.disks

-- the former group lists each disk of this one
abbrev pub lists_all : (former leader : View) → Bool
lists_all former leader = list_all (lists former) leader.disks

-- The former group has lost a disk that is a current member here: it was gone on with since, and that disk has missed what was written.
abbrev pub has_lost : (leader former : View) → Bool
has_lost leader former = list_any (λ disk. lists_missing former disk.guid disk.reference && lists_current leader disk.guid disk.reference) former.disks

-- The former group has joined this one: its members are listed here, beside disks that it doesn't know, and none that it has lost is one. A join
-- lists them so from its first disk on, whichever disks it was stopped between and whichever are away. Two living groups don't: each has a member
-- that the other one doesn't know.
abbrev pub has_joined : (leader former : View) → Bool
has_joined leader former = lists_members leader former && not (lists_all former leader) && not (has_lost leader former)

-- the same of the groups' leaders: the other group's disks are taken over
abbrev pub takes_over : (leader former : Option View) → Bool
takes_over None former = false
takes_over (Some leader) None = false
takes_over (Some leader) (Some former) = has_joined leader former

-- ---- a slot

-- it shows another group than this one, whose disks aren't taken over
abbrev pub shows_untaken : List Shown → (group : List ℕ) → (slot : ℕ) → Bool
shows_untaken slots group slot =
    option_map_or (λ other. not (bytes_eq group other) && not (takes_over (leading_view slots group) (leading_view slots other))) (group_shown (slot_at slots slot)) false
