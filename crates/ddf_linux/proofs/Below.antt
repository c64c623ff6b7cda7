-- How the slots are seen that were looked at so far, one slot more.
use Rattle.std.proofs.Common.{◌≡◌, ◌≢◌, ℕ, ◌+◌, ◌<◌, ◌≤◌, zero, suc, List, Option, true, false, length, replicate, ⊎_elim, refl, ◌∙◌, arith}
use Rattle.std.specs.Prelude.{slice_set}
use Rattle.std.proofs.lemmas.List.{get_or-set_same, get_or-set_other}
use Rattle.std.proofs.lemmas.Bool.{cases_eq}
use Rattle.ddf_lemmas.proofs.Lists.{zero_first}
use Rattle.ddf_bytes.specs.Counts.{Rose}
use Rattle.ddf_bay.specs.State.{BayState}
use Rattle.ddf_bay.specs.ReadsOnly.{ReadsOnly}
use Rattle.ddf_bay.proofs.Steps.{rose_then, rose_since}
use Rattle.ddf_update.specs.declared.new_layout.NewLayout.{NewLayout}
use Rattle.ddf_linux.specs.declared.kind.SlotKind.{SlotKind}
use Rattle.ddf_linux.specs.declared.kind.SlotKind.TheVariants.{Plain}
use Rattle.ddf_linux.specs.State.{own_or}
use Rattle.ddf_linux.specs.Kinds.{IsKindOf, IsSeenAs, is_unread, kind_at}

-- reads leave how a slot is seen
kind_same : {D : Type 0} (a b : BayState D) (slot : ℕ) (kind : SlotKind) → ReadsOnly a b → IsKindOf b slot kind → IsKindOf a slot kind
kind_same a b slot kind reads is = record {
  exact = rw (reads.same_sizes, reads.same_held) at is.exact;
  turned = rw (reads.same_sizes, reads.same_held) at is.turned;
}

pub kind_kept : {D : Type 0} (founds : Option NewLayout) (a b : BayState D) (slot : ℕ) (kind : SlotKind) → ReadsOnly a b → IsSeenAs founds b slot kind → IsSeenAs founds a slot kind
kind_kept founds a b slot kind reads is = record {
  founded = rw (reads.same_sizes, reads.same_held) at is.founded;
  other = λ none. kind_same a b slot kind reads (is.other (rw (reads.same_sizes, reads.same_held) none));
}

-- before the first slot is looked at
plain_first : (n s : ℕ) → kind_at (replicate n Plain) s ≡ Plain
plain_first zero s = refl
plain_first (suc n) zero = refl
plain_first (suc n) (suc s) = plain_first n s

pub none_unread : {P : Type 0} (n s : ℕ) → is_unread (kind_at (replicate n Plain) s) ≡ true → P
none_unread n s is = let none : is_unread (kind_at (replicate n Plain) s) ≡ false = rw (plain_first n s) refl in absurd cc

pub own_first : (kinds : List SlotKind) (n : ℕ) (inner : ℕ → ℕ) (s : ℕ) → is_unread (kind_at kinds s) ≡ true → own_or kinds (replicate n 0) inner s ≡ 0
own_first kinds n inner s is = rw is (zero_first n s)

module _ (kinds : List SlotKind) (n : ℕ) (kind : SlotKind) (lt : n < length kinds) where
  here : kind_at (slice_set kinds n kind) n ≡ kind
  here = get_or-set_same kinds n kind Plain lt

  other : (s : ℕ) → s ≢ n → kind_at (slice_set kinds n kind) s ≡ kind_at kinds s
  other s differs = get_or-set_other kinds n s kind Plain differs

  -- what holds of each slot's kind, one slot more
  pub kinds_more : (P : ℕ → SlotKind → Type 0) → ((s : ℕ) → s < n → P s (kind_at kinds s)) → P n kind
      → (s : ℕ) → s < n + 1 → P s (kind_at (slice_set kinds n kind) s)
  kinds_more P so_far now s lt_more = ⊎_elim
      (λ same. rw same (rw here now))
      (λ differs. let before : s < n = omega (arith, differs, lt_more) in rw (other s differs) (so_far s before))
      (cases_eq s n)

  -- what an unread slot has a cause by
  pub unread_more : (a b c : ℕ → ℕ) → ((s : ℕ) → a s ≤ b s) → ((s : ℕ) → b s ≤ c s)
      → ((s : ℕ) → is_unread (kind_at kinds s) ≡ true → Rose (a s) (b s))
      → (is_unread kind ≡ true → Rose (b n) (c n))
      → (s : ℕ) → is_unread (kind_at (slice_set kinds n kind) s) ≡ true → Rose (a s) (c s)
  unread_more a b c up on so_far now s is = ⊎_elim
      (λ same. rw same (rose_since (a n) (b n) (c n) (up n) (now (rw (same, here) at is))))
      (λ differs. rose_then (a s) (b s) (c s) (up s) (so_far s (rw (other s differs) at is)) (on s))
      (cases_eq s n)

  -- and each other none
  pub read_more : (a b c : ℕ → ℕ)
      → ((s : ℕ) → is_unread (kind_at kinds s) ≡ false → b s ≡ a s)
      → b n ≡ a n
      → ((s : ℕ) → s ≢ n → c s ≡ b s)
      → (is_unread kind ≡ false → c n ≡ b n)
      → (s : ℕ) → is_unread (kind_at (slice_set kinds n kind) s) ≡ false → c s ≡ a s
  read_more a b c so_far before others now s is = ⊎_elim
      (λ same. rw same (now (rw (same, here) at is) ∙ before))
      (λ differs. others s differs ∙ so_far s (rw (other s differs) at is))
      (cases_eq s n)
