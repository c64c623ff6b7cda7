-- What is prepared of an update: the sectors of a copy, and where they are written.
use Rattle.std.specs.Prelude.{◌≡◌, ℕ, ◌+◌, ◌*◌, ◌<◌, Bool, true, false, List, length}
use Rattle.std.specs.List.{sum_by}
use Rattle.ddf_header.specs.declared.kind.HeaderKind.TheVariants.{Anchor}
use Rattle.ddf_header.specs.Header.{IsHeaderOf}
use Rattle.ddf_copy.specs.declared.copy.DiskCopy.{DiskCopy}
use Rattle.ddf_copy.specs.declared.which.Which.{Which}
use Rattle.ddf_copy.specs.declared.which.Which.TheVariants.{Primary}
use Rattle.ddf_copy.specs.Headers.{anchor_header, closed_header, opened_header}
use Rattle.ddf_copy.specs.Runs.{AreOn, AreRunsOf, sector_count}
use Rattle.ddf_copy.specs.Which.{kind_of, other_of, place_of}
use Rattle.ddf_update.specs.declared.gate.Gate.{Gate}
use Rattle.ddf_update.specs.declared.prepared.Mode.{Mode}
use Rattle.ddf_update.specs.declared.prepared.Mode.TheVariants.{Adopt, Change, Found, Move}
use Rattle.ddf_update.specs.declared.prepared.Prepared.{Prepared}

-- Which copy is written first: the one that isn't last. A founding and a move begin with the primary one.
abbrev pub written_first : Mode → (last : Which) → Which
written_first Change last = other_of last
written_first Found last = Primary
written_first Adopt last = other_of last
written_first Move last = Primary

-- a change leaves the anchor as it is
abbrev pub writes_anchor : Mode → Bool
writes_anchor Change = false
writes_anchor Found = true
writes_anchor Adopt = true
writes_anchor Move = true

-- where a copy is written, and its header while its sections change and behind them
pub record IsGateOf (copy : DiskCopy) (which : Which) (gate : Gate) : Type 0 where
  pub lba_is : gate.lba ≡ place_of which copy.header
  pub opened_is : IsHeaderOf (kind_of which) (opened_header copy which) gate.opened
  pub closed_is : IsHeaderOf (kind_of which) (closed_header copy which) gate.closed

-- Both copies with the same sections, and the anchor.
pub record IsPrepared (copy : DiskCopy) (last : Which) (mode : Mode) (prepared : Prepared) : Type 0 where
  pub mode_is : prepared.mode ≡ mode
  pub first_is : IsGateOf copy (written_first mode last) prepared.first
  pub second_is : IsGateOf copy (other_of (written_first mode last)) prepared.second
  pub runs_are : AreRunsOf copy prepared.runs
  pub anchor_is : IsHeaderOf Anchor (anchor_header copy) prepared.anchor

-- all that is written lies on a slot of so many sectors
pub record LiesOn (size : ℕ) (prepared : Prepared) : Type 0 where
  pub first_header : prepared.first.lba < size
  pub first_room : AreOn size prepared.first.lba prepared.runs
  pub second_header : prepared.second.lba < size
  pub second_room : AreOn size prepared.second.lba prepared.runs

-- the most sectors that an update writes: each copy once, and its header twice, and the anchor
abbrev pub most_sectors : Prepared → ℕ
most_sectors prepared = 2 * (sector_count prepared.runs + 2) + 1

-- the most calls that it makes
abbrev pub most_calls : Prepared → ℕ
most_calls prepared = 2 * (length prepared.runs + 5) + 3

-- and of all updates of a list
abbrev pub all_sectors : List Prepared → ℕ
all_sectors updates = sum_by most_sectors updates

abbrev pub all_calls : List Prepared → ℕ
all_calls updates = sum_by most_calls updates
