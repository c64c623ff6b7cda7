-- The slots of a bay, looked at one after another.
use Rattle.std.proofs.Common.{◌≡◌, ℕ, ◌+◌, ◌<◌, ◌≤◌, List, [], ◌∷◌, ◌++◌, length, get_or, Bool, false, refl, sym, ap, ⊎_elim, ◌∙◌, arith, length-append}
use Rattle.std.specs.Prelude.{Option, None, Result, Ok, Err, IfErr}
use Rattle.std.proofs.lemmas.Bool.{cases_lt}
use Rattle.ddf_lemmas.proofs.Lists.{earlier_of, last_of}
use Rattle.ddf_bay.specs.State.{BayState}
use Rattle.ddf_bay.specs.ReadsOnly.{AreFailed, LooksAt, SlotSame}
use Rattle.ddf_bay.proofs.Looks.{failed_more, later_more, none_failed}
use Rattle.ddf_hidden_logs.specs.declared.mask.Mask.{Mask}
use Rattle.ddf_hidden_logs.specs.Looks.{AreLooks}
use Rattle.ddf_hidden_logs.specs.Shown.{mask_or}

-- so at Err
pub if_err_then : {T E : Type 0} {P Q : E → Type 0} (r : Result T E) → ((e : E) → P e → Q e) → IfErr r P → IfErr r Q
if_err_then (Ok x) f p = p
if_err_then (Err e) f p = f e p

-- ---- the last of a list with one more

-- So many slots were looked at.
pub record IsPartway {D : Type 0} (tells : Type 0) (old now : BayState D) (slot : ℕ) (failed : List Bool) (masks : List (Option Mask)) : Type 0 where
  pub slots : length failed ≡ slot
  pub are_failed : AreFailed old now failed
  pub later : (s : ℕ) → slot ≤ s → SlotSame old now s
  pub are_looks : AreLooks tells old failed masks

-- before the first slot
pub partway_start : {D : Type 0} (tells : Type 0) (a : BayState D) → IsPartway tells a a 0 [] []
partway_start tells a = record {
  slots = refl;
  are_failed = none_failed a a;
  later = λ s le. (refl, refl);
  are_looks = record { same = refl; are = λ told s lt. absurd (omega (arith, lt)) };
}

module _ {D : Type 0} (tells : Type 0) (old now next : BayState D) (slot : ℕ) (failed : List Bool) (masks : List (Option Mask)) (out : Bool) (one : Option Mask)
    (so_far : IsPartway tells old now slot failed masks) (same_sizes : now.sizes ≡ old.sizes) (same_held : now.held ≡ old.held)
    (look : LooksAt now next slot out) (is : tells → one ≡ mask_or now slot out) where
  here : LooksAt now next (length failed) out
  here = rw so_far.slots look

  rest : (s : ℕ) → length failed ≤ s → SlotSame old now s
  rest s le = so_far.later s (omega (arith, so_far.slots))

  same_length : length masks ≡ length failed
  same_length = so_far.are_looks.same

  same : mask_or now slot out ≡ mask_or old slot out
  same = rw (same_sizes, same_held) refl

  all_are : tells → (s : ℕ) → s < length (failed ++ out ∷ []) → get_or (masks ++ one ∷ []) s None ≡ mask_or old s (get_or (failed ++ out ∷ []) s false)
  all_are told s lt = ⊎_elim
      (λ before.
      earlier_of masks one None s (omega (arith, before, same_length)) ∙ so_far.are_looks.are told s before
      ∙ ap (mask_or old s) (sym (earlier_of failed out false s before)))
      (λ from.
      let last : s ≡ length failed = omega (arith, from, lt, length-append failed (out ∷ [])) in
      let other : s ≡ length masks = omega (arith, last, same_length) in
      let this : s ≡ slot = omega (arith, last, so_far.slots) in
      ap (λ (n : ℕ). get_or (masks ++ one ∷ []) n None) other ∙ last_of masks one None ∙ is told ∙ same
      ∙ sym (ap (λ (n : ℕ). mask_or old n out) this)
      ∙ ap (mask_or old s) (sym (ap (λ (n : ℕ). get_or (failed ++ out ∷ []) n false) last ∙ last_of failed out false)))
      (cases_lt s (length failed))

  -- one slot more
  pub partway_more : IsPartway tells old next (slot + 1) (failed ++ out ∷ []) (masks ++ one ∷ [])
  partway_more = record {
    slots = length-append failed (out ∷ []) ∙ omega (arith, so_far.slots);
    are_failed = failed_more old now next failed out so_far.are_failed rest same_sizes here;
    later = λ s le. later_more old now next failed out so_far.are_failed rest same_sizes here s (omega (arith, so_far.slots));
    are_looks = record {
      same = length-append masks (one ∷ []) ∙ omega (arith, same_length, length-append failed (out ∷ []));
      are = all_are;
    };
  }
