-- What a bay, of type D, tells of its disks at one moment.
use Rattle.std.specs.Prelude.{ℕ, List, slice_index}
use Rattle.ddf_bay.specs.Sectors.{Image, Outcomes}

pub record BayState (D : Type 0) : Type 1 where
  -- of each slot, in sectors
  pub sizes : List ℕ
  -- the bytes of each sector of each slot, as reads give them
  pub held : Image
  -- it is told what a stop may leave
  pub tells_left : Type 0
  -- the bytes that a stop at this moment may leave in a sector of a slot, each sector by itself
  pub may_hold : Outcomes
  -- the moment, as a number that doesn't fall
  pub moment : ℕ
  -- the images that a stop at some moment from that one on might have left, over all slots at one moment
  pub left_since : ℕ → Image → Type 0
  -- how many reads of a slot failed: it stands still at its last value, as each count does
  pub failed_reads : ℕ → ℕ
  -- how many writes and syncs of a slot failed
  pub failed_writes : ℕ → ℕ
  -- how many sectors were written, over all slots
  pub sectors_written : ℕ
  -- how many sectors it was asked to write: those of failed writes too
  pub sectors_asked : ℕ
  -- how many calls were made of the five that reach a disk
  pub calls : ℕ
  -- each call on the slot fails, of those that are made now and of all later ones
  pub gone : ℕ → Type 0
  -- the bays that calls may make of it: a call leads to one of these, and from there to no others
  pub leads_to : D → Type 0

-- the size of a slot, in sectors
abbrev pub size_of : {D : Type 0} → BayState D → ℕ → ℕ
size_of disks slot = slice_index disks.sizes slot

-- what a slot has, by its size and the bytes of its sectors
abbrev pub on_slot : {A D : Type 0} → ((size : ℕ) → (sector : ℕ → List ℕ) → A) → BayState D → ℕ → A
on_slot read disks slot = read (size_of disks slot) (disks.held slot)
