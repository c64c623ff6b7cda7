-- How the slots are seen that were looked at so far, one slot more.
use Rattle.std.proofs.Common.{◌≡◌, ◌≢◌, ℕ, ◌+◌, ◌<◌, ◌≤◌, zero, suc, List, true, false, length, replicate, ⊎_elim, refl, ◌∙◌, arith}
use Rattle.std.specs.Prelude.{slice_set}
use Rattle.std.proofs.lemmas.List.{get_or-set_same, get_or-set_other}
use Rattle.std.proofs.lemmas.Bool.{cases_eq}
use Rattle.ddf_bytes.specs.Counts.{Rose}
use Rattle.ddf_bay.proofs.Steps.{rose_then, rose_since}
use Rattle.ddf_shortened.specs.declared.ends.SlotEnd.{SlotEnd}
use Rattle.ddf_shortened.specs.declared.ends.SlotEnd.TheVariants.{Last, Early, Unread}
use Rattle.ddf_shortened.specs.SlotEnds.{end_at, is_early, is_unread}

-- before the first slot is looked at
last_first : (n s : ℕ) → end_at (replicate n Last) s ≡ Last
last_first zero s = refl
last_first (suc n) zero = refl
last_first (suc n) (suc s) = last_first n s

pub none_early : (n s : ℕ) → is_early (end_at (replicate n Last) s) ≡ false
none_early n s = rw (last_first n s) refl

pub none_unread : (n s : ℕ) → is_unread (end_at (replicate n Last) s) ≡ false
none_unread n s = rw (last_first n s) refl

-- a slot that could not be read is seen as it is
pub unread_whole : (end : SlotEnd) → is_unread end ≡ true → is_early end ≡ false
unread_whole Last is = refl
unread_whole Early is = absurd cc
unread_whole Unread is = refl

module _ (ends : List SlotEnd) (n : ℕ) (end : SlotEnd) (lt : n < length ends) where
  here : end_at (slice_set ends n end) n ≡ end
  here = get_or-set_same ends n end Last lt

  other : (s : ℕ) → s ≢ n → end_at (slice_set ends n end) s ≡ end_at ends s
  other s differs = get_or-set_other ends n s end Last differs

  -- what holds of each slot's end, one slot more
  pub ends_more : (P : ℕ → SlotEnd → Type 0) → ((s : ℕ) → s < n → P s (end_at ends s)) → P n end
      → (s : ℕ) → s < n + 1 → P s (end_at (slice_set ends n end) s)
  ends_more P so_far now s lt_more = ⊎_elim
      (λ same. rw same (rw here now))
      (λ differs. let before : s < n = omega (arith, differs, lt_more) in rw (other s differs) (so_far s before))
      (cases_eq s n)

  -- and of every slot's
  pub every_more : (P : ℕ → SlotEnd → Type 0) → ((s : ℕ) → P s (end_at ends s)) → P n end → (s : ℕ) → P s (end_at (slice_set ends n end) s)
  every_more P so_far now s = ⊎_elim
      (λ same. rw same (rw here now))
      (λ differs. rw (other s differs) (so_far s))
      (cases_eq s n)

  -- what an unread slot has a cause by
  pub unread_more : (a b c : ℕ → ℕ) → ((s : ℕ) → a s ≤ b s) → ((s : ℕ) → b s ≤ c s)
      → ((s : ℕ) → is_unread (end_at ends s) ≡ true → Rose (a s) (b s))
      → (is_unread end ≡ true → Rose (b n) (c n))
      → (s : ℕ) → is_unread (end_at (slice_set ends n end) s) ≡ true → Rose (a s) (c s)
  unread_more a b c up on so_far now s is = ⊎_elim
      (λ same. rw same (rose_since (a n) (b n) (c n) (up n) (now (rw (same, here) at is))))
      (λ differs. rose_then (a s) (b s) (c s) (up s) (so_far s (rw (other s differs) at is)) (on s))
      (cases_eq s n)

  -- and each other none
  pub read_more : (a b c : ℕ → ℕ)
      → ((s : ℕ) → is_unread (end_at ends s) ≡ false → b s ≡ a s)
      → b n ≡ a n
      → ((s : ℕ) → s ≢ n → c s ≡ b s)
      → (is_unread end ≡ false → c n ≡ b n)
      → (s : ℕ) → is_unread (end_at (slice_set ends n end) s) ≡ false → c s ≡ a s
  read_more a b c so_far before others now s is = ⊎_elim
      (λ same. rw same (now (rw (same, here) at is) ∙ before))
      (λ differs. others s differs ∙ so_far s (rw (other s differs) at is))
      (cases_eq s n)
