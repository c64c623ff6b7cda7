-- The slots of a bay, looked at one after another.
use Rattle.std.proofs.Common.{◌≡◌, ℕ, ◌+◌, ◌<◌, ◌≤◌, List, [], ◌∷◌, ◌++◌, length, get_or, Bool, true, false, refl, sym, ap, subst, ⊎_elim, ◌∙◌, arith, length-append}
use Rattle.std.specs.Prelude.{slice_index}
use Rattle.std.proofs.lemmas.Bool.{cases_lt}
use Rattle.ddf_lemmas.proofs.Lists.{earlier_of, last_of}
use Rattle.ddf_bay.specs.State.{BayState}
use Rattle.ddf_bay.specs.ReadsOnly.{AreFailed, LooksAt, SlotSame}
use Rattle.ddf_bay.proofs.Looks.{failed_more, later_more, none_failed}
use Rattle.ddf_badblocks.specs.declared.range.Range.{Range}
use Rattle.ddf_badblocks.specs.Ranges.{are_exchangeable}
use Rattle.ddf_logs.specs.Looks.{AreLooks, exchange_or}

-- no call was made
pub looks_none : {D : Type 0} (a : BayState D) (slot : ℕ) → LooksAt a a slot false
looks_none a slot = record {
  reads = record { never_falls = λ s. omega arith; other_slots = λ s other. refl };
  writes = record { never_falls = λ s. omega arith; other_slots = λ s other. refl };
  same_sizes = refl;
  rose = λ is. absurd cc;
  same = λ is. (refl, refl);
  unsynced = λ some. refl;
}

-- ---- the last of a list with one more

-- So many slots were looked at.
pub record IsPartway {D : Type 0} (tells : Type 0) (old now : BayState D) (slot : ℕ) (failed : List Bool) (ranges : List (List Range)) : Type 0 where
  pub slots : length failed ≡ slot
  pub are_failed : AreFailed old now failed
  pub later : (s : ℕ) → slot ≤ s → SlotSame old now s
  pub are_looks : AreLooks tells old failed ranges

-- before the first slot
pub partway_start : {D : Type 0} (tells : Type 0) (a : BayState D) → IsPartway tells a a 0 [] []
partway_start tells a = record {
  slots = refl;
  are_failed = none_failed a a;
  later = λ s le. (refl, refl);
  are_looks = record { same = refl; are = λ told s lt. absurd (omega (arith, lt)); can = λ s lt. absurd (omega (arith, lt)) };
}

module _ {D : Type 0} (tells : Type 0) (old now next : BayState D) (slot : ℕ) (failed : List Bool) (ranges : List (List Range)) (out : Bool) (one : List Range)
    (so_far : IsPartway tells old now slot failed ranges) (same_sizes : now.sizes ≡ old.sizes) (same_held : now.held ≡ old.held)
    (look : LooksAt now next slot out) (is : tells → one ≡ exchange_or now slot out) (can : are_exchangeable (slice_index now.sizes slot) one ≡ true) where
  here : LooksAt now next (length failed) out
  here = rw so_far.slots look

  rest : (s : ℕ) → length failed ≤ s → SlotSame old now s
  rest s le = so_far.later s (omega (arith, so_far.slots))

  same_length : length ranges ≡ length failed
  same_length = so_far.are_looks.same

  same : exchange_or now slot out ≡ exchange_or old slot out
  same = rw (same_sizes, same_held) refl

  all_are : tells → (s : ℕ) → s < length (failed ++ out ∷ []) → get_or (ranges ++ one ∷ []) s [] ≡ exchange_or old s (get_or (failed ++ out ∷ []) s false)
  all_are told s lt = ⊎_elim
      (λ before.
      earlier_of ranges one [] s (omega (arith, before, same_length)) ∙ so_far.are_looks.are told s before
      ∙ ap (exchange_or old s) (sym (earlier_of failed out false s before)))
      (λ from.
      let last : s ≡ length failed = omega (arith, from, lt, length-append failed (out ∷ [])) in
      let other : s ≡ length ranges = omega (arith, last, same_length) in
      let this : s ≡ slot = omega (arith, last, so_far.slots) in
      ap (λ (n : ℕ). get_or (ranges ++ one ∷ []) n []) other ∙ last_of ranges one [] ∙ is told ∙ same
      ∙ sym (ap (λ (n : ℕ). exchange_or old n out) this)
      ∙ ap (exchange_or old s) (sym (ap (λ (n : ℕ). get_or (failed ++ out ∷ []) n false) last ∙ last_of failed out false)))
      (cases_lt s (length failed))

  all_can : (s : ℕ) → s < length (failed ++ out ∷ []) → are_exchangeable (slice_index old.sizes s) (get_or (ranges ++ one ∷ []) s []) ≡ true
  all_can s lt = ⊎_elim
      (λ before. ap (are_exchangeable (slice_index old.sizes s)) (earlier_of ranges one [] s (omega (arith, before, same_length))) ∙ so_far.are_looks.can s before)
      (λ from.
      let last : s ≡ length failed = omega (arith, from, lt, length-append failed (out ∷ [])) in
      let other : s ≡ length ranges = omega (arith, last, same_length) in
      let this : s ≡ slot = omega (arith, last, so_far.slots) in
      ap (are_exchangeable (slice_index old.sizes s)) (ap (λ (n : ℕ). get_or (ranges ++ one ∷ []) n []) other ∙ last_of ranges one [])
      ∙ ap (λ (n : ℕ). are_exchangeable (slice_index old.sizes n) one) this
      ∙ subst (λ (sizes : List ℕ). are_exchangeable (slice_index sizes slot) one ≡ true) same_sizes can)
      (cases_lt s (length failed))

  -- one slot more
  pub partway_more : IsPartway tells old next (slot + 1) (failed ++ out ∷ []) (ranges ++ one ∷ [])
  partway_more = record {
    slots = length-append failed (out ∷ []) ∙ omega (arith, so_far.slots);
    are_failed = failed_more old now next failed out so_far.are_failed rest same_sizes here;
    later = λ s le. later_more old now next failed out so_far.are_failed rest same_sizes here s (omega (arith, so_far.slots));
    are_looks = record {
      same = length-append ranges (one ∷ []) ∙ omega (arith, same_length, length-append failed (out ∷ []));
      are = all_are;
      can = all_can;
    };
  }
