-- Over disks in memory of which no call is listed to fail no read fails of a disk from which an array is read.
use Rattle.std.proofs.Common.{◌≡◌, ◌∙◌, ◌⊎◌, ℕ, zero, suc, ◌+◌, ◌-◌, ◌^◌, ◌<◌, ◌≤◌, true, false, List, [], ◌∷◌, length, Option, Some, None, Result, Ok, refl, sym, ap, subst, inl, inr, arith}
use Rattle.std.proofs.lemmas.Bool.{false_from_ne_true}
use Rattle.std.specs.Prelude.{option_map, slice_get, slice_index, slice_index_or}
use Rattle.std.specs.List.{cons_option}
use Rattle.std.specs.Option.{option_and_then}
use Rattle.std.proofs.lemmas.Option.{slice_get_within}
use Rattle.ddf_bay.specs.Memory.{disks_of}
use Rattle.ddf_bay.specs.declared.memory.MemoryBay.{MemoryBay}
use Rattle.ddf_config.specs.declared.seat.Seat.{Seat}
use Rattle.ddf_copy.specs.declared.copy.DiskCopy.{DiskCopy}
use Rattle.ddf_copy.specs.declared.newest_copy.Newest.{Newest}
use Rattle.ddf_copy.specs.Copies.{standing_copy}
use Rattle.ddf_array.proofs.Fits.{place_seat}
use Rattle.ddf_read.specs.Reading.{IsOn, NoneFailed}
use Rattle.ddf_read.specs.Stretches.{HaveCopies}
use Rattle.ddf_group.specs.declared.answer.Assembly.{Assembly}
use Rattle.ddf_seats.specs.Group.{GroupValue, copy_at, seat_at, seat_of, seats_of}
use Rattle.ddf_assembly.specs.Group.{group_of}
use Rattle.ddf_recovery.specs.Recovery.{trusted_seats}
use Rattle.ddf_recovery.proofs.Trusted.{trusted_there}
use Rattle.ddf_history_steps.proofs.RecoveringLeaders.{length_read}
use Rattle.ddf_answer.specs.declared.failure.Failure.TheVariants.{Memory}
use Rattle.ddf_answer.specs.Call.{work_of}
use Rattle.ddf_read_commands.specs.Read.{CallsOfReading, HasNoPlace, HasRead, IsReadable, Outcome, is_unread, room_for}
use Rattle.ddf_read_commands.specs.Read.Outcome.{NotRead}
use Rattle.ddf_read_commands.proofs.Common.{read_memory}
use Rattle.ddf_read_commands.proofs.LeftOut.{seats_are}
use Rattle.ddf_history_memory.specs.Histories.{GoesWell}
use Rattle.ddf_history_memory.proofs.Slots.{becomes, still_tells}
use Rattle.ddf_availability.specs.Serving.{GivesBlocks, IsServing, most_reads}
use Rattle.ddf_availability.proofs.Accepted.{accepted}
use Rattle.ddf_availability.proofs.FewStretches.{few_over}
use Rattle.ddf_availability.proofs.Giving.{call_gives}

-- ---- the slots of seats

module _ (newest : List (Option Newest)) where
  -- a slot has its place in the list
  abbrev IsThere : ℕ → Type 0
  IsThere slot = slot < length newest

  copy_there : (slot : ℕ) (found : Option (Option Newest)) (copy : DiskCopy) → slice_get newest slot ≡ found → option_and_then (λ one. option_and_then standing_copy one) found ≡ Some copy → IsThere slot
  copy_there slot None copy is at = absurd cc
  copy_there slot (Some one) copy is at = slice_get_within newest slot one is

  seat_by : (slot : ℕ) (found : Option DiskCopy) (seat : Seat) → copy_at newest slot ≡ found → option_map (seat_of slot) found ≡ Some seat → IsThere seat.slot
  seat_by slot None seat is e = absurd cc
  seat_by slot (Some copy) seat is e =
      let same : seat_of slot copy ≡ seat = cc in
      let slot_is : slot ≡ seat.slot = ap (λ (s : Seat). s.slot) same in
      subst IsThere slot_is (copy_there slot (slice_get newest slot) copy refl is)

  one_there : (found : Option Seat) (others : List Seat) → ((seat : Seat) → found ≡ Some seat → IsThere seat.slot)
      → ((k : ℕ) (seat : Seat) → slice_get others k ≡ Some seat → IsThere seat.slot)
      → (k : ℕ) (seat : Seat) → slice_get (cons_option found others) k ≡ Some seat → IsThere seat.slot
  one_there None others here rest k seat at = rest k seat at
  one_there (Some first) others here rest zero seat at = here seat at
  one_there (Some first) others here rest (suc k) seat at = rest k seat at

  -- each seat is on such a slot
  seats_there : (slots : List ℕ) (k : ℕ) (seat : Seat) → slice_get (seats_of newest slots) k ≡ Some seat → IsThere seat.slot
  seats_there [] k seat at = absurd cc
  seats_there (slot ∷ slots) k seat at =
      one_there (seat_at newest slot) (seats_of newest slots) (λ one is. seat_by slot (copy_at newest slot) one refl is) (seats_there slots) k seat at

-- ---- a read over disks in memory

module _ (old exit : MemoryBay) (well : GoesWell old exit) (told : (disks_of old).tells_left) (named : Option (List ℕ)) (word : List ℕ) (start count : ℕ) (outcome : Outcome)
    (read : HasRead (work_of (Unit {0}) (disks_of old) (disks_of exit)) named word start count outcome) (found : GroupValue) (is_found : group_of read.newest named ≡ Ok found)
    (serving : IsServing found.config (trusted_seats found) word start count) where
  -- The slot of an available place is one of those that the call looked at,
  looked_at : (slot : ℕ) → IsOn serving.volume slot → slot < length read.left
  looked_at slot on =
      let seat = place_seat found.config serving.entry.0 (trusted_seats found) serving.volume on.element on.position slot on.part on.place serving.is_view on.is_part on.is_place on.is_there in
      let seats = seats_are read.newest named found is_found in
      let own = trusted_there found seat.0 seat.1.0 seat.1.1 in
      let there = seats_there read.newest seats.0 own.0 seat.1.0 (ap (λ (l : List Seat). slice_get l own.0) seats.1 ∙ own.1) in
      let long = ap (λ (l : List (Option Newest)). length l) (read.read tt) ∙ length_read (disks_of old) 0 read.left in
      subst (λ (n : ℕ). slot < n) long (subst (λ (s : ℕ). s < length read.newest) seat.1.2 there)

  -- and isn't left out.
  not_out : (slot : ℕ) → IsOn serving.volume slot → slice_index_or read.left slot false ≡ true → ⊥
  not_out slot on out =
      let none : HasNoPlace (Ok found) slot = subst (λ (meaning : Result GroupValue Assembly). HasNoPlace meaning slot) is_found (read.no_place tt slot out) in
      none serving.entry.0 serving.volume serving.is_view on

  module _ (ample : outcome ≡ NotRead Memory → ⊥) where
    plugged : (slot : ℕ) → IsOn serving.volume slot → slice_index_or old.unplugged slot false ≡ false
    plugged slot on = false_from_ne_true (slice_index_or old.unplugged slot false) (λ gone. not_out slot on (read.gone ample slot (looked_at slot on) gone))

    same_reads : (slot : ℕ) → IsOn serving.volume slot → slice_index exit.read_faults slot ≡ slice_index old.read_faults slot
    same_reads slot on = (becomes old exit well).no_reads slot (record { none_listed = well.none_listed; never_over = well.never_over; plugged = plugged slot on })

    none_failed : NoneFailed serving.volume (disks_of old) (disks_of exit)
    none_failed slot on (inl up) = let same = same_reads slot on in omega (arith, up, same)
    none_failed slot on (inr last) =
        let same = same_reads slot on in
        let low = old.reads_within slot in
        omega (arith, low, last, same, told)

  pub memory_gives : GivesBlocks (disks_of old).held serving.volume start count outcome
  memory_gives = by (read_memory outcome)
    where
      by : (outcome ≡ NotRead Memory) ⊎ (outcome ≡ NotRead Memory → ⊥) → GivesBlocks (disks_of old).held serving.volume start count outcome
      by (inl memory) = subst (GivesBlocks (disks_of old).held serving.volume start count) (sym memory) refl
      by (inr ample) = call_gives (work_of (Unit {0}) (disks_of old) (disks_of exit)) tt named word start count found serving outcome read is_found (none_failed ample)

  -- ---- its calls

  readable : IsReadable found.config (trusted_seats found) word start count serving.volume
  readable = record { entry = serving.entry; is_named = serving.is_named; is_view = serving.is_view; accepted = accepted found.config (trusted_seats found) word start count serving }

  module _ (copied : HaveCopies serving.volume start count) where
    blocks_counted : (outcome ≡ NotRead Memory → ⊥) → (disks_of exit).calls ≤ (disks_of old).calls + most_reads (length (disks_of old).sizes) count
    blocks_counted ample =
        let reading = subst (λ (meaning : Result GroupValue Assembly). CallsOfReading (work_of (Unit {0}) (disks_of old) (disks_of exit)) word start count meaning) is_found read.calls in
        let grew = reading serving.volume readable copied (none_failed ample) in
        let few = few_over serving.volume (room_for count) start count grew.pieces in
        let more = grew.grew in
        omega (arith, few, more)

    pub memory_counted : (disks_of exit).calls ≤ (disks_of old).calls + most_reads (length (disks_of old).sizes) count
    memory_counted = by (read_memory outcome)
      where
        by : (outcome ≡ NotRead Memory) ⊎ (outcome ≡ NotRead Memory → ⊥) → (disks_of exit).calls ≤ (disks_of old).calls + most_reads (length (disks_of old).sizes) count
        by (inl memory) = let looked = read.looks (ap is_unread memory) in omega (arith, looked)
        by (inr ample) = blocks_counted ample

    pub memory_tells : (disks_of old).calls + most_reads (length (disks_of old).sizes) count < 2 ^ 64 - 1 → (disks_of old).moment + most_reads (length (disks_of old).sizes) count < 2 ^ 64 - 1
        → (disks_of exit).tells_left
    memory_tells below early = still_tells old exit well (most_reads (length (disks_of old).sizes) count) memory_counted below early
