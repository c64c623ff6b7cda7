-- Which slots a call over disks in memory reads: all but the unplugged ones.
use Rattle.std.proofs.Common.{◌≡◌, ℕ, ◌+◌, ◌-◌, ◌^◌, ◌<◌, ◌≤◌, not, Bool, true, false, List, length, refl, sym, ap, ◌∙◌, subst, inl, inr, arith}
use Rattle.std.proofs.lemmas.Bool.{and_from, and_parts, false≢true, lt-ltb, ltb-true}
use Rattle.std.specs.Prelude.{IsTrue, nat_lt, slice_index_or}
use Rattle.ddf_bay.specs.LoggedLaws.{held_left}
use Rattle.ddf_bay.specs.Memory.{MayBecome, disks_of, state_of}
use Rattle.ddf_bay.specs.MemoryLaws.{becomes_start, told_earlier}
use Rattle.ddf_bay.specs.ReadsOnly.{LookFailed}
use Rattle.ddf_bay.specs.Sectors.{IsLeft}
use Rattle.ddf_bay.specs.declared.memory.MemoryBay.{MemoryBay}
use Rattle.ddf_history_steps.specs.Kept.{is_read}
use Rattle.ddf_history_memory.specs.Histories.{AreRead, GoesWell}

-- ---- slots that are read

pub read_at : (left : List Bool) (slot : ℕ) → slot < length left → slice_index_or left slot false ≡ false → is_read left slot ≡ true
read_at left slot there here = and_from _ _ (lt-ltb slot (length left) there) (ap not here)

pub read_below : (left : List Bool) (slot : ℕ) → is_read left slot ≡ true → slot < length left
read_below left slot read = ltb-true slot (length left) (and_parts (nat_lt slot (length left)) (not (slice_index_or left slot false)) read).0

-- one that is left out isn't
pub not_read : (left : List Bool) (slot : ℕ) → slice_index_or left slot false ≡ true → is_read left slot ≡ true → ⊥
not_read left slot out read = false≢true (sym (ap not out) ∙ (and_parts (nat_lt slot (length left)) (not (slice_index_or left slot false)) read).1)

-- one that isn't read is left out
pub left_out : (left : List Bool) (slot : ℕ) → slot < length left → is_read left slot ≡ false → slice_index_or left slot false ≡ true
left_out left slot there unread = by (slice_index_or left slot false) refl
  where
    by : (b : Bool) → slice_index_or left slot false ≡ b → slice_index_or left slot false ≡ true
    by true is = is
    by false is = absurd (false≢true (sym unread ∙ read_at left slot there is))

-- The bay as it reads is one of its images.
pub reads_left : (bay : MemoryBay) → (disks_of bay).tells_left → IsLeft (disks_of bay).may_hold (disks_of bay).held
reads_left bay told s l = (told, held_left bay.clock bay.log.logged.items s l bay.past)

-- ---- calls over a bay of which none is listed

module _ (old exit : MemoryBay) (well : GoesWell old exit) where
  pub becomes : MayBecome (state_of old) (state_of exit)
  becomes = well.goes_on exit (becomes_start (state_of exit))

  pub before_told : (disks_of exit).tells_left → (disks_of old).tells_left
  before_told told = told_earlier old.clock exit.clock becomes.later told

  -- Where they are counted it still tells.
  pub still_tells : (most : ℕ) → (disks_of exit).calls ≤ (disks_of old).calls + most → (disks_of old).calls + most < 2 ^ 64 - 1 → (disks_of old).moment + most < 2 ^ 64 - 1 → (disks_of exit).tells_left
  still_tells most counted below early =
      let later = becomes.most_later (omega (arith, counted, below)) in
      omega (arith, later, counted, early)

  module _ (told : (disks_of exit).tells_left) where
    -- On a slot that is plugged in no look failed.
    none_failed : (slot : ℕ) → slot < length (disks_of old).sizes → slice_index_or old.unplugged slot false ≡ false → LookFailed (disks_of old) (disks_of exit) slot → ⊥
    none_failed slot there plugged (inl (inl up)) =
        let same = becomes.no_reads slot (record { none_listed = well.none_listed; never_over = well.never_over; plugged = plugged }) in
        omega (arith, up, same)
    none_failed slot there plugged (inl (inr last)) = let low = exit.reads_within slot in omega (arith, low, last, told)
    none_failed slot there plugged (inr blank) = well.sized slot there blank.0

    -- So a slot that is left out is unplugged.
    pub left_gone : (left : List Bool) → length left ≡ length (disks_of old).sizes
        → ((slot : ℕ) → slot < length left → IsTrue (slice_index_or left slot false) → LookFailed (disks_of old) (disks_of exit) slot) → AreRead old left
    left_gone left long failed slot low out = by (slice_index_or old.unplugged slot false) refl
      where
        by : (b : Bool) → slice_index_or old.unplugged slot false ≡ b → slice_index_or old.unplugged slot false ≡ true
        by true is = is
        by false is = absurd (none_failed slot (subst (λ (n : ℕ). slot < n) long low) is (failed slot low out))
