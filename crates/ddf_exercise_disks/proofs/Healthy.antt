-- Disks in memory stay well while they have room for what is written, and which slots a call leaves out.
use Rattle.std.proofs.Common.{◌≡◌, ◌∙◌, ℕ, zero, suc, ◌+◌, ◌<◌, ◌≤◌, Bool, true, false, List, [], ◌∷◌, length, refl, sym, ap, subst, ⊎_elim, arith}
use Rattle.std.specs.Prelude.{IsTrue, slice_index, slice_index_or}
use Rattle.std.proofs.lemmas.Bool.{true_from_ne_false}
use Rattle.std.specs.Cmp.Derive.{one_truth}
use Rattle.ddf_bay.specs.Memory.{IsPlugged, IsShort, MayBecome, disks_of, state_of}
use Rattle.ddf_bay.specs.MemoryLaws.{becomes_start}
use Rattle.ddf_bay.specs.Moments.{GoesOn}
use Rattle.ddf_bay.specs.ReadsOnly.{LookFailed, SlotRose}
use Rattle.ddf_bay.specs.declared.memory.MemoryBay.{MemoryBay}
use Rattle.ddf_exercise_disks.specs.Well.{IsWell, sizes_made}

pub becomes : (old new : MemoryBay) → GoesOn (disks_of old) (disks_of new) → MayBecome (state_of old) (state_of new)
becomes old new goes = goes new (becomes_start (state_of new))

pub size_made : (slot : ℕ) → slot < 5 → slice_index sizes_made slot ≡ 65536
size_made zero low = refl
size_made (suc zero) low = refl
size_made (suc (suc zero)) low = refl
size_made (suc (suc (suc zero))) low = refl
size_made (suc (suc (suc (suc zero)))) low = refl
size_made (suc (suc (suc (suc (suc slot))))) low = absurd (omega (arith, low))

module _ (total : ℕ) (out : List Bool) (old new : MemoryBay) (well : IsWell total out old) (goes : GoesOn (disks_of old) (disks_of new)) where
  is : MayBecome (state_of old) (state_of new)
  is = becomes old new goes

  is_plugged : (slot : ℕ) → slot < 5 → slice_index_or out slot false ≡ false → IsPlugged (state_of old) slot
  is_plugged slot low here = record { none_listed = well.none_listed; never_over = well.never_over; plugged = well.plugged slot low ∙ here }

  room_stays : (state_of new).room + (state_of new).written ≡ total
  room_stays = is.same_room ∙ well.room_is

  -- While no more sectors are asked for than there is room for, they stay well.
  pub stays_well : (state_of new).asked ≤ total → IsWell total out new
  stays_well few = record {
    none_listed = is.same_failing ∙ well.none_listed;
    never_over = is.same_stop ∙ well.never_over;
    sizes_are = is.same_sizes ∙ well.sizes_are;
    five = well.five;
    plugged = λ slot low. ap (λ (bits : List Bool). slice_index_or bits slot false) is.same_unplugged ∙ well.plugged slot low;
    no_reads = λ slot low here. is.no_reads slot (is_plugged slot low here) ∙ well.no_reads slot low here;
    no_writes = λ slot low here. ⊎_elim (λ same. same ∙ well.no_writes slot low here) (λ (short : IsShort (state_of new)). let room = room_stays in absurd (omega (arith, room, few, short)))
        (is.no_writes slot (is_plugged slot low here));
    room_is = room_stays;
  }

  -- No call of a slot failed that is plugged in.
  pub no_rise : (state_of new).asked ≤ total → (slot : ℕ) → slot < 5 → slice_index_or out slot false ≡ false → SlotRose (disks_of old) (disks_of new) slot → ⊥
  no_rise few slot low here rose =
      let after = stays_well few in
      let reads = well.no_reads slot low here in
      let writes = well.no_writes slot low here in
      let reads_now = after.no_reads slot low here in
      let writes_now = after.no_writes slot low here in
      ⊎_elim
      (λ read. ⊎_elim (λ up. omega (arith, up, reads, reads_now)) (λ last. omega (arith, last, reads_now)) read)
      (λ write. ⊎_elim (λ up. omega (arith, up, writes, writes_now)) (λ last. omega (arith, last, writes_now)) write)
      rose

  -- A look at it doesn't fail, whatever is written.
  pub looks_well : (slot : ℕ) → slot < 5 → slice_index_or out slot false ≡ false → LookFailed (disks_of old) (disks_of new) slot → ⊥
  looks_well slot low here failed =
      let same = is.no_reads slot (is_plugged slot low here) in
      let reads = well.no_reads slot low here in
      ⊎_elim
      (λ read. ⊎_elim (λ up. omega (arith, up, same)) (λ last. omega (arith, last, same, reads)) read)
      (λ blank. let sized = size_made slot low in let sizes = ap (λ (all : List ℕ). slice_index all slot) well.sizes_are in omega (arith, sized, sizes, blank.0))
      failed

-- ---- the slots that a call leaves out

bits_same : (one other : List Bool) → length one ≡ length other → ((slot : ℕ) → slot < length one → slice_index_or one slot false ≡ slice_index_or other slot false) → one ≡ other
bits_same [] [] long same = refl
bits_same [] (b ∷ bits) long same = absurd (omega (arith, long))
bits_same (a ∷ ones) [] long same = absurd (omega (arith, long))
bits_same (a ∷ ones) (b ∷ bits) long same =
    let first : a ≡ b = same 0 (omega arith) in
    let rest : ones ≡ bits = bits_same ones bits (omega (arith, long)) (λ slot low. same (suc slot) (omega (arith, low))) in
    rw (first, rest) refl

-- They are the unplugged ones.
pub left_is : (total : ℕ) (out left : List Bool) (old new : MemoryBay) → IsWell total out old → GoesOn (disks_of old) (disks_of new)
    → length left ≡ length (disks_of old).sizes
    → ((slot : ℕ) → slot < length left → IsTrue (slice_index_or left slot false) → LookFailed (disks_of old) (disks_of new) slot)
    → ((slot : ℕ) → slot < length left → (disks_of old).gone slot → slice_index_or left slot false ≡ true) → left ≡ out
left_is total out left old new well goes long failed gone =
    let five : length left ≡ 5 = long ∙ ap (λ (sizes : List ℕ). length sizes) well.sizes_are in
    bits_same left out (five ∙ sym well.five) (λ slot low.
    let small : slot < 5 = subst (λ (n : ℕ). slot < n) five low in
    one_truth (slice_index_or left slot false) (slice_index_or out slot false)
    (λ is_left. true_from_ne_false (slice_index_or out slot false) (λ here. looks_well total out old new well goes slot small here (failed slot low is_left)))
    (λ is_out. gone slot low (well.plugged slot small ∙ is_out)))
