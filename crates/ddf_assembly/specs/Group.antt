-- The group that the newest copies of the slots of a bay give together.
use Rattle.std.specs.Prelude.{◌≡◌, ◌⊎◌, ℕ, List, map, Option, Result, Ok, Err}
use Rattle.ddf_copy.specs.declared.newest_copy.Newest.{Newest}
use Rattle.ddf_group.specs.declared.answer.Assembled.{Assembled}
use Rattle.ddf_group.specs.declared.answer.Assembly.{Assembly}
use Rattle.ddf_group.specs.declared.answer.Assembly.TheVariants.{Memory}
use Rattle.ddf_group.specs.Shown.{shown_of}
use Rattle.ddf_group.specs.Assembled.{assembled}
use Rattle.ddf_seats.specs.Group.{GroupValue, seats_of}

abbrev pub group_as : List (Option Newest) → Assembled → GroupValue
group_as newest found = record {
  config = found.config;
  seats = seats_of newest found.seats;
  absent = found.absent;
  lagging = found.lagging;
  newest = newest;
}

abbrev pub group_or_fault : List (Option Newest) → Result Assembled Assembly → Result GroupValue Assembly
group_or_fault newest (Ok found) = Ok (group_as newest found)
group_or_fault newest (Err fault) = Err fault

-- what newest copies give together, where a group is named or not
unfoldable pub group_of : List (Option Newest) → (named : Option (List ℕ)) → Result GroupValue Assembly
group_of newest named = group_or_fault newest (assembled (map shown_of newest) named)

-- the result is this answer, or memory ran out
abbrev pub UpToMemory : Result GroupValue Assembly → Result GroupValue Assembly → Type 0
UpToMemory result answer = (result ≡ answer) ⊎ (result ≡ Err Memory)
