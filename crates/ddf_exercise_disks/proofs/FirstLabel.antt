-- A label of five new disks in memory founds their group, and leaves zeros below its records.
use Rattle.std.proofs.Common.{◌≡◌, ◌∙◌, ℕ, zero, suc, ◌+◌, ◌-◌, ◌*◌, ◌^◌, ◌<◌, ◌≤◌, false, List, [], ◌∷◌, length, replicate, Some, None, refl, sym, ap, subst, ⊎_elim, arith}
use Rattle.std.specs.Prelude.{slice_get, slice_index, slice_index_or}
use Rattle.std.specs.List.{AllByRecursion}
use Rattle.std.proofs.lemmas.Bool.{cases_lt}
use Rattle.ddf_lemmas.proofs.Lists.{zero_first}
use Rattle.ddf_bytes.specs.declared.stamp.Stamp.{Stamp}
use Rattle.ddf_bytes.specs.Streams.{SinkState}
use Rattle.ddf_bay.specs.Logged.{held_of, zeros as zeros_held}
use Rattle.ddf_bay.specs.Memory.{MemoryState, blank, disks_of, state_of}
use Rattle.ddf_bay.specs.Moments.{GoesOn}
use Rattle.ddf_bay.specs.ReadsOnly.{SlotRose}
use Rattle.ddf_bay.specs.declared.memory.MemoryBay.{MemoryBay}
use Rattle.ddf_header.specs.declared.kind.Revision.TheVariants.{R200}
use Rattle.ddf_parity.specs.Xor.{zeros}
use Rattle.ddf_update.specs.Group.{HaveFirstCopies, IsOneOf, slot_sizes}
use Rattle.ddf_update.specs.NewCopies.{group_of}
use Rattle.ddf_steps.specs.Committed.{slots_of}
use Rattle.ddf_answer.specs.Call.{answer_of, work_of}
use Rattle.ddf_answer.specs.Costs.{WritesAtMost}
use Rattle.ddf_disk_commands.specs.Label.{IsLabelled, label_copy, label_sectors, label_slots}
use Rattle.ddf_disk_commands.specs.LabelRefusal.{label_layout, label_refusal}
use Rattle.ddf_text.specs.Done.{sequence_line}
use Rattle.ddf_uncut_group.specs.Labelled.{labelled_group}
use Rattle.ddf_uncut_group.specs.Settled.{AreSettledAs}
use Rattle.ddf_uncut_group.proofs.PlainCopies.{new_plain}
use Rattle.ddf_uncut_group.proofs.PlainLabelling.{labelled_settles, memory_unrefused}
use Rattle.ddf_uncut_group.proofs.PlainNewest.{newest_labelled}
use Rattle.ddf_exercise_config.specs.Disks.{Disks}
use Rattle.ddf_exercise_config.specs.Founded.{new_disks}
use Rattle.ddf_exercise_config.specs.Stages.{founded, seats_at}
use Rattle.ddf_exercise_config.specs.Turns.Turn.{Opening}
use Rattle.ddf_exercise_disks.specs.Ending.{EndsWell, unused}
use Rattle.ddf_exercise_disks.specs.Standing.{StandsAt}
use Rattle.ddf_exercise_disks.specs.Well.{IsWell, sizes_made}
use Rattle.ddf_exercise_disks.specs.Zeros.{IsZero, none_out}
use Rattle.ddf_exercise_disks.proofs.Healthy.{no_rise, size_made, stays_well}
use Rattle.ddf_exercise_disks.proofs.Outcomes.{label_ends}
use Rattle.ddf_exercise_disks.proofs.Standing.{ends_then}

-- ---- lists

false_at : (n slot : ℕ) → slice_index_or (replicate n false) slot false ≡ false
false_at zero slot = refl
false_at (suc n) zero = refl
false_at (suc n) (suc slot) = false_at n slot

abbrev five : List ℕ
five = 0 ∷ 1 ∷ 2 ∷ 3 ∷ 4 ∷ []

five_below : (place slot : ℕ) → slice_get five place ≡ Some slot → slot < 5
five_below zero slot at = let is : 0 ≡ slot = cc in omega (arith, is)
five_below (suc zero) slot at = let is : 1 ≡ slot = cc in omega (arith, is)
five_below (suc (suc zero)) slot at = let is : 2 ≡ slot = cc in omega (arith, is)
five_below (suc (suc (suc zero))) slot at = let is : 3 ≡ slot = cc in omega (arith, is)
five_below (suc (suc (suc (suc zero)))) slot at = let is : 4 ≡ slot = cc in omega (arith, is)
five_below (suc (suc (suc (suc (suc place))))) slot at = absurd cc

five_there : (slot : ℕ) → slot < 5 → slice_get five slot ≡ Some slot
five_there zero low = refl
five_there (suc zero) low = refl
five_there (suc (suc zero)) low = refl
five_there (suc (suc (suc zero))) low = refl
five_there (suc (suc (suc (suc zero)))) low = refl
five_there (suc (suc (suc (suc (suc slot))))) low = absurd (omega (arith, low))

-- The seats of all five disks are on slots that are plugged in.
pub all_here : (disks : Disks) (slot : ℕ) → IsOneOf (slots_of (seats_at disks Opening)) slot → (slot < 5) × (slice_index_or none_out slot false ≡ false)
all_here disks slot one = (five_below one.place slot one.is_there, false_at 5 slot)

-- ---- zeros

same_zeros : zeros_held ≡ zeros
unfolding zeros_held zeros
same_zeros = refl

-- ---- new disks

module _ (total : ℕ) (old : MemoryBay) (made : state_of old ≡ blank sizes_made total [] None) where
  made_sizes : (disks_of old).sizes ≡ sizes_made
  made_sizes = ap (λ (bay : MemoryState). bay.sizes) made

  made_room : (state_of old).room + (state_of old).written ≡ total
  made_room = let room = ap (λ (bay : MemoryState). bay.room) made in let written = ap (λ (bay : MemoryState). bay.written) made in omega (arith, room, written)

  -- They are well.
  pub made_well : IsWell total none_out old
  made_well = record {
    none_listed = ap (λ (bay : MemoryState). bay.failing) made;
    never_over = ap (λ (bay : MemoryState). bay.stop_after) made;
    sizes_are = made_sizes;
    five = refl;
    plugged = λ slot low. ap (λ (bay : MemoryState). slice_index_or bay.unplugged slot false) made ∙ false_at 64 slot ∙ sym (false_at 5 slot);
    no_reads = λ slot low here. ap (λ (bay : MemoryState). slice_index bay.failed_reads slot) made ∙ zero_first 64 slot;
    no_writes = λ slot low here. ap (λ (bay : MemoryState). slice_index bay.failed_writes slot) made ∙ zero_first 64 slot;
    room_is = made_room;
  }

  -- They hold zeros.
  pub made_zero : (slot l : ℕ) → (disks_of old).held slot l ≡ zeros
  made_zero slot l = ap (λ (bay : MemoryState). held_of bay.logged slot l) made ∙ same_zeros

  -- and may be labelled
  made_unrefused : label_refusal false (disks_of old).sizes (disks_of old).held [] ≡ None
  made_unrefused =
      let large : 33000 ≤ 65536 = omega arith in
      memory_unrefused old sizes_made total [] None made (omega arith) (omega arith) (large, (large, (large, (large, (large, tt)))))

  made_few : length (disks_of old).sizes ≤ 15
  made_few = let five : 5 ≤ 15 = omega arith in subst (λ (sizes : List ℕ). length sizes ≤ 15) (sym made_sizes) five

  made_fit : AllByRecursion (λ (size : ℕ). size < 2 ^ 64) (disks_of old).sizes
  made_fit = let small : 65536 < 2 ^ 64 = omega arith in subst (λ (sizes : List ℕ). AllByRecursion (λ (size : ℕ). size < 2 ^ 64) sizes) (sym made_sizes) (small, (small, (small, (small, (small, tt)))))

  -- ---- a label

  module _ (stamp : Stamp) (enough : 415 ≤ total) (new : MemoryBay) (goes : GoesOn (disks_of old) (disks_of new)) (after : SinkState) (status : ℕ)
      (done : IsLabelled (work_of (Unit {0}) (disks_of old) (disks_of new)) false R200 stamp [] (answer_of (Unit {0}) unused after status)) where
    few : (state_of new).asked ≤ 415
    few =
        let most : label_sectors (label_layout false (disks_of old).sizes []) * length (label_slots (disks_of old).sizes []) ≡ 415 =
        ap (λ (sizes : List ℕ). label_sectors (label_layout false sizes []) * length (label_slots sizes [])) made_sizes in
        let cost = (subst (WritesAtMost (work_of (Unit {0}) (disks_of old) (disks_of new))) most done.costs).asked in
        let none = ap (λ (bay : MemoryState). bay.asked) made in
        omega (arith, cost, none)

    within : (state_of new).asked ≤ total
    within = let asked = few in omega (arith, asked, enough)

    calm : (slot : ℕ) → slot < length (disks_of old).sizes → SlotRose (disks_of old) (disks_of new) slot → ⊥
    calm slot low rose =
        no_rise total none_out old new made_well goes within slot (subst (λ (n : ℕ). slot < n) (ap (λ (sizes : List ℕ). length sizes) made_sizes) low) (false_at 5 slot) rose

    abbrev HaveCopies : List ℕ → Type 0
    HaveCopies sizes = HaveFirstCopies (disks_of old) (disks_of new) (label_slots sizes []) (label_copy false R200 stamp sizes []) (length (label_slots sizes []))

    module _ (first : HaveCopies (disks_of old).sizes) where
      have : HaveCopies sizes_made
      have = subst HaveCopies made_sizes first

      settled : AreSettledAs sizes_made (disks_of new).held none_out (labelled_group R200 stamp sizes_made)
      settled =
          subst (λ (sizes : List ℕ). AreSettledAs sizes (disks_of new).held (replicate (length sizes) false) (labelled_group R200 stamp sizes)) made_sizes
          (labelled_settles R200 stamp (disks_of old) (disks_of new) made_few made_unrefused made_fit first)

      stands : StandsAt (group_of stamp) total 415 none_out (founded (group_of stamp) (new_disks stamp) 1) (seats_at (new_disks stamp) Opening) new
      stands = record {
        well = stays_well total none_out old new made_well goes within;
        few = few;
        group = labelled_group R200 stamp sizes_made;
        settled = settled;
        plain = newest_labelled R200 stamp sizes_made;
        config_is = refl;
        seats_are = refl;
        named = refl;
        here = all_here (new_disks stamp);
      }

      -- Nothing is written below the records.
      below : (slot l : ℕ) → slot < 5 → l < 32687 → (disks_of new).held slot l ≡ (disks_of old).held slot l
      below slot l low small =
          let size : slice_index sizes_made slot ≡ 65536 = size_made slot low in
          let plain = new_plain R200 stamp (slot_sizes sizes_made (label_slots sizes_made [])) slot in
          let primary : (label_copy false R200 stamp sizes_made [] slot).header.primary_lba ≡ slice_index sizes_made slot - 41 = plain.primary in
          let secondary : (label_copy false R200 stamp sizes_made [] slot).header.secondary_lba ≡ slice_index sizes_made slot - 81 = plain.secondary in
          have.before slot slot l low (five_there slot low) (omega (arith, small, size, primary), omega (arith, small, size, secondary))

      zeros_stay : IsZero new
      zeros_stay slot l small = ⊎_elim
          (λ low. below slot l low small)
          (λ high. have.others slot l (λ place under at. let low = five_below place slot at in omega (arith, low, high)))
          (cases_lt slot 5)
          ∙ made_zero slot l

    -- It is done, and the disks are the group.
    pub label_founds : EndsWell (answer_of (Unit {0}) unused after status) (sequence_line 1)
        (StandsAt (group_of stamp) total 415 none_out (founded (group_of stamp) (new_disks stamp) 1) (seats_at (new_disks stamp) Opening) new × IsZero new)
    label_founds =
        ends_then (answer_of (Unit {0}) unused after status) (sequence_line 1) (λ first. (stands first, zeros_stay first))
        (label_ends (work_of (Unit {0}) (disks_of old) (disks_of new)) tt R200 stamp (answer_of (Unit {0}) unused after status) tt made_unrefused calm done)
