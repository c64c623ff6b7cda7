-- A read of an array that its disks serve gives its blocks, where no read fails of a disk of it.
use Rattle.std.proofs.Common.{◌≡◌, ◌∙◌, ◌⊎◌, ℕ, ◌+◌, ◌-◌, List, length, min, Option, Result, Ok, refl, sym, ap, subst, inl, inr}
use Rattle.ddf_lemmas.proofs.Options.{same_ok_value, same_some, none_some}
use Rattle.ddf_config.specs.declared.array.Array.{Array}
use Rattle.ddf_config.specs.declared.seat.Seat.{Seat}
use Rattle.ddf_config.specs.Configuration.{Configuration}
use Rattle.ddf_array.specs.Viewing.{view_of}
use Rattle.ddf_array.specs.Volume.{Volume}
use Rattle.ddf_read.specs.Given.{AreValues}
use Rattle.ddf_read.specs.Reading.{Failed, IsOn, NoneFailed}
use Rattle.ddf_read.proofs.SourceSlots.{first_on}
use Rattle.ddf_pieces.specs.Pieces.{piece_blocks}
use Rattle.ddf_group.specs.declared.answer.Assembly.{Assembly}
use Rattle.ddf_seats.specs.Group.{GroupValue}
use Rattle.ddf_assembly.specs.Group.{group_of}
use Rattle.ddf_recovery.specs.Recovery.{trusted_seats}
use Rattle.ddf_request.specs.Named.{named_array}
use Rattle.ddf_answer.specs.declared.failure.Failure.TheVariants.{Conflict, Disk, Memory, Refused, Split}
use Rattle.ddf_answer.specs.Call.{Answer, Work}
use Rattle.ddf_read_commands.specs.Read.{HasRead, IsReadDone, IsReadIn, IsReadOf, IsReadTold, IsReadable, IsWithoutSource, Outcome, read_refusal}
use Rattle.ddf_read_commands.specs.Read.Outcome.{CutShort, NotRead, Stopped, Whole}
use Rattle.ddf_availability.specs.Serving.{GivesBlocks, IsServing, IsToldAll}
use Rattle.ddf_availability.proofs.Accepted.{accepted}

module _ {D : Type 0} (work : Work D) (told : work.tells) (config : Configuration) (seats : List Seat) (word : List ℕ) (start count : ℕ) (serving : IsServing config seats word start count)
    (calm : NoneFailed serving.volume work.old work.new) where
  -- A view that is read is the one that is served.
  seen_so : (volume : Volume) → IsReadable config seats word start count volume → volume ≡ serving.volume
  seen_so volume readable =
      let entry : readable.entry ≡ serving.entry = same_some (named_array config.arrays word) readable.entry serving.entry readable.is_named serving.is_named in
      same_ok_value (view_of config serving.entry.0 seats) volume serving.volume (sym (ap (λ (one : List ℕ × Array). view_of config one.0 seats) entry) ∙ readable.is_view) serving.is_view

  calm_on : (volume : Volume) → IsReadable config seats word start count volume → NoneFailed volume work.old work.new
  calm_on volume readable slot on failed = calm slot (subst (λ (v : Volume). IsOn v slot) (seen_so volume readable) on) failed

  has_source : (volume : Volume) (from many slot : ℕ) → IsReadable config seats word start count volume → IsWithoutSource work volume from many slot → ⊥
  has_source volume from many slot readable without =
      let left = without.none_left in
      let on = first_on volume (λ other. other ≡ slot) (from + left.block) left.none_left.is_of_first in
      calm_on volume readable on.0 on.1.0 (subst (Failed work.old work.new) (sym on.1.1) left.none_left.this_failed)

  values_then : (volume : Volume) (many : ℕ) (sectors : List (List ℕ)) → IsReadable config seats word start count volume → AreValues work.old.held volume start many sectors
      → AreValues work.old.held serving.volume start many sectors
  values_then volume many sectors readable values = subst (λ (v : Volume). AreValues work.old.held v start many sectors) (seen_so volume readable) values

  pub gives : (outcome : Outcome) → IsReadOf work config seats word start count outcome → GivesBlocks work.old.held serving.volume start count outcome
  gives (Whole sectors) is = (
    is.2.0,
    values_then is.0 count sectors is.1 (subst (λ (many : ℕ). AreValues work.old.held is.0 start many sectors) is.2.0 (is.2.1.values told (calm_on is.0 is.1))),
  )
  gives (NotRead (Refused refusal)) is = absurd (none_some (read_refusal config seats (named_array config.arrays word) start count) refusal (accepted config seats word start count serving) is)
  gives (NotRead (Disk slot)) is = absurd (has_source is.0 start (min count piece_blocks) slot is.1 is.2)
  gives (NotRead (Conflict i j sequence differ)) is = absurd is.2
  gives (NotRead (Split i j)) is = absurd is.2
  gives (NotRead Memory) is = refl
  gives (Stopped front slot) is = absurd (has_source is.0 (start + length front) (min (count - length front) piece_blocks) slot is.1 is.2.2)
  gives (CutShort front) is = (is.2.within, values_then is.0 (length front) front is.1 (is.2.blocks.values told (calm_on is.0 is.1)))

  pub tells : (outcome : Outcome) → GivesBlocks work.old.held serving.volume start count outcome → (answer : Answer) → IsReadTold outcome answer
      → (answer.status ≡ 5) ⊎ (answer.status ≡ 6) ⊎ IsToldAll work.old.held serving.volume start count answer
  tells (Whole sectors) gave answer ends = inr (inr (record { sectors = sectors; counted = gave.0; values = gave.1; told = ends }))
  tells (NotRead (Refused refusal)) gave answer ends = absurd cc
  tells (NotRead (Disk slot)) gave answer ends = absurd cc
  tells (NotRead (Conflict i j sequence differ)) gave answer ends = absurd cc
  tells (NotRead (Split i j)) gave answer ends = absurd cc
  tells (NotRead Memory) gave answer ends = inl ends.0
  tells (Stopped front slot) gave answer ends = absurd gave
  tells (CutShort front) gave answer ends = inr (inl ends.0)

-- ---- a call

module _ {D : Type 0} (work : Work D) (told : work.tells) (named : Option (List ℕ)) (word : List ℕ) (start count : ℕ) (found : GroupValue)
    (serving : IsServing found.config (trusted_seats found) word start count) where
  pub call_gives : (outcome : Outcome) (read : HasRead work named word start count outcome) → group_of read.newest named ≡ Ok found → NoneFailed serving.volume work.old work.new
      → GivesBlocks work.old.held serving.volume start count outcome
  call_gives outcome read is_found calm =
      gives work told found.config (trusted_seats found) word start count serving calm outcome
      (subst (λ (meaning : Result GroupValue Assembly). IsReadIn work word start count meaning outcome) is_found read.gives)

  pub call_tells : (answer : Answer) (done : IsReadDone work named word start count answer) → group_of done.has.newest named ≡ Ok found → NoneFailed serving.volume work.old work.new
      → (answer.status ≡ 5) ⊎ (answer.status ≡ 6) ⊎ IsToldAll work.old.held serving.volume start count answer
  call_tells answer done is_found calm =
      tells work told found.config (trusted_seats found) word start count serving calm done.outcome (call_gives done.outcome done.has is_found calm) answer done.ends
