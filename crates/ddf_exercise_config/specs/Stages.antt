-- The configurations of the group of an exercise, from one of its steps to the next.
use Rattle.std.specs.Prelude.{ℕ, Bool, true, false, List, [], ◌∷◌, Some, codes}
use Rattle.ddf_config.specs.declared.element.Position.{Position}
use Rattle.ddf_config.specs.declared.member.Member.{Member}
use Rattle.ddf_config.specs.declared.member.SpareUse.{SpareUse}
use Rattle.ddf_config.specs.declared.member.SpareUse.TheVariants.{No, Global}
use Rattle.ddf_config.specs.declared.array.Array.{Array}
use Rattle.ddf_config.specs.declared.seat.Seat.{Seat}
use Rattle.ddf_config.specs.Configuration.{Configuration}
use Rattle.ddf_config.specs.ElementValue.{ElementValue}
use Rattle.ddf_exercise_config.specs.Disks.{Disk, Disks, room, seat}
use Rattle.ddf_exercise_config.specs.Turns.{Loss, Turn, turn_behind}
use Rattle.ddf_exercise_config.specs.Turns.Loss.{OfSecond, OfThird}
use Rattle.ddf_exercise_config.specs.Turns.Turn.{Closing, Middle, Opening}

-- ---- members

-- a member with its reference
abbrev pub member : Disk → (missing : Bool) → SpareUse → ℕ × Member
member disk missing use_as = (disk.reference, record { guid = disk.guid; size = room; missing = missing; spare = use_as })

-- all five: whether the second and the third are missing, and what the fourth and the fifth may stand in for
abbrev pub members : Disks → (second_missing third_missing : Bool) → (fourth fifth : SpareUse) → List (ℕ × Member)
members disks second_missing third_missing fourth fifth =
    member disks.first false No ∷ member disks.second second_missing No ∷ member disks.third third_missing No ∷ member disks.fourth false fourth ∷ member disks.fifth false fifth ∷ []

-- in each turn: a disk that was rebuilt onto is no spare any more
abbrev pub members_at : Disks → Turn → List (ℕ × Member)
members_at disks Opening = members disks false false Global Global
members_at disks Middle = members disks true false No Global
members_at disks Closing = members disks true true No No

-- behind a loss, before its rebuild
abbrev pub members_lost : Disks → Loss → List (ℕ × Member)
members_lost disks OfSecond = members disks true false Global Global
members_lost disks OfThird = members disks true true No Global

-- the seats of those that aren't missing
abbrev pub seats_at : Disks → Turn → List Seat
seats_at disks Opening = seat disks.first 0 ∷ seat disks.second 1 ∷ seat disks.third 2 ∷ seat disks.fourth 3 ∷ seat disks.fifth 4 ∷ []
seats_at disks Middle = seat disks.first 0 ∷ seat disks.third 2 ∷ seat disks.fourth 3 ∷ seat disks.fifth 4 ∷ []
seats_at disks Closing = seat disks.first 0 ∷ seat disks.fourth 3 ∷ seat disks.fifth 4 ∷ []

-- and their disks
abbrev pub disks_at : Disks → Turn → List Disk
disks_at disks Opening = disks.first ∷ disks.second ∷ disks.third ∷ disks.fourth ∷ disks.fifth ∷ []
disks_at disks Middle = disks.first ∷ disks.third ∷ disks.fourth ∷ disks.fifth ∷ []
disks_at disks Closing = disks.first ∷ disks.fourth ∷ disks.fifth ∷ []

-- ---- the array

-- its name, padded with spaces
abbrev pub name : List ℕ
name = codes "ex              "

-- a position lies at the beginning of its disk
abbrev pub position : Disk → (synced : Bool) → Position
position disk synced = record { reference = disk.reference; start = 0; synced = synced; row = 0 }

-- RAID 5, its parity left symmetric, in strips of 8 sectors, of 4,096 sectors a disk
abbrev pub element : List Position → ElementValue
element positions = record { level = 5; qualifier = 3; strip = 3; blocks = 4096; stand_in = 0; positions = positions }

-- the array with these positions, in this state, initialized so far
abbrev pub array : List Position → (state init : ℕ) → Array
array positions state init = record { name = name; number = 0; secondary = 0; elements = Some (element positions) ∷ []; state = state; init = init }

-- its state where nothing of it is lacking
abbrev pub optimal : ℕ
optimal = 0

-- that where a position is out of sync
abbrev pub degraded : ℕ
degraded = 1

-- that where it isn't consistent
abbrev pub marked : ℕ
marked = 16

-- it isn't initialized
abbrev pub not_at_all : ℕ
not_at_all = 0

-- it is so, wholly
abbrev pub wholly : ℕ
wholly = 2

-- all three positions are in sync
abbrev pub all_synced : (first second third : Disk) → List Position
all_synced first second third = position first true ∷ position second true ∷ position third true ∷ []

-- those of each turn
abbrev pub positions_at : Disks → Turn → List Position
positions_at disks Opening = all_synced disks.first disks.second disks.third
positions_at disks Middle = all_synced disks.first disks.fourth disks.third
positions_at disks Closing = all_synced disks.first disks.fourth disks.fifth

-- behind a loss the position of the disk is out of sync
abbrev pub positions_lost : Disks → Loss → List Position
positions_lost disks OfSecond = position disks.first true ∷ position disks.second false ∷ position disks.third true ∷ []
positions_lost disks OfThird = position disks.first true ∷ position disks.fourth true ∷ position disks.third false ∷ []

-- then the spare is in its place
abbrev pub positions_begun : Disks → Loss → List Position
positions_begun disks OfSecond = position disks.first true ∷ position disks.fourth false ∷ position disks.third true ∷ []
positions_begun disks OfThird = position disks.first true ∷ position disks.fourth true ∷ position disks.fifth false ∷ []

-- ---- a loss

-- the reference of the disk that is lost
abbrev pub lost_disk : Disks → Loss → ℕ
lost_disk disks OfSecond = disks.second.reference
lost_disk disks OfThird = disks.third.reference

-- the number of its position in the array
abbrev pub lost_position : Loss → ℕ
lost_position OfSecond = 1
lost_position OfThird = 2

-- the reference of the spare that takes its place
abbrev pub spare_disk : Disks → Loss → ℕ
spare_disk disks OfSecond = disks.fourth.reference
spare_disk disks OfThird = disks.fifth.reference

-- ---- the group

-- a group with its array
abbrev pub group_with : (group : List ℕ) → (sequence : ℕ) → List (ℕ × Member) → (guid : List ℕ) → Array → Configuration
group_with group sequence table guid one = record { group = group; sequence = sequence; members = table; arrays = (guid, one) ∷ [] }

-- all five disks are labelled
abbrev pub founded : (group : List ℕ) → Disks → (sequence : ℕ) → Configuration
founded group disks sequence = record { group = group; sequence = sequence; members = members disks false false No No; arrays = [] }

module _ (group : List ℕ) (disks : Disks) (guid : List ℕ) where
  -- the array is created on the first three
  abbrev pub created : (sequence : ℕ) → Configuration
  created sequence = group_with group sequence (members disks false false No No) guid (array (positions_at disks Opening) marked not_at_all)

  -- it is resynced
  abbrev pub resynced : (sequence : ℕ) → Configuration
  resynced sequence = group_with group sequence (members disks false false No No) guid (array (positions_at disks Opening) optimal wholly)

  -- the fourth is a spare
  abbrev pub with_spare : (sequence : ℕ) → Configuration
  with_spare sequence = group_with group sequence (members disks false false Global No) guid (array (positions_at disks Opening) optimal wholly)

  -- so is the fifth, or one of the two or both have taken the place of another
  abbrev pub whole : Turn → (sequence : ℕ) → Configuration
  whole turn sequence = group_with group sequence (members_at disks turn) guid (array (positions_at disks turn) optimal wholly)

  -- while blocks are written the array is marked
  abbrev pub written_on : Turn → (sequence : ℕ) → Configuration
  written_on turn sequence = group_with group sequence (members_at disks turn) guid (array (positions_at disks turn) marked wholly)

  -- a disk was lost
  abbrev pub lost : Loss → (sequence : ℕ) → Configuration
  lost loss sequence = group_with group sequence (members_lost disks loss) guid (array (positions_lost disks loss) degraded wholly)

  -- the spare is rebuilt onto
  abbrev pub begun : Loss → (sequence : ℕ) → Configuration
  begun loss sequence = group_with group sequence (members_at disks (turn_behind loss)) guid (array (positions_begun disks loss) degraded wholly)
