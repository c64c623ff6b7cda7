-- The slots of a bay, read one after another.
use Rattle.std.proofs.Common.{◌≡◌, ℕ, zero, suc, ◌+◌, ◌-◌, ◌<◌, ◌≤◌, List, [], ◌∷◌, ◌++◌, length, get_or, replicate, Bool, true, false, Option, Some, None, refl, sym, ap, subst, ⊎_elim, ◌∙◌, arith, length-append, add-zero, zero-add}
use Rattle.std.proofs.lemmas.Bool.{cases_lt}
use Rattle.std.proofs.lemmas.List.{get_or_append_left, get_or-append-add, length-replicate}
use Rattle.std.specs.List.{AllByRecursion}
use Rattle.std.specs.Prelude.{IfSome}
use Rattle.ddf_bay.specs.State.{BayState}
use Rattle.ddf_bay.specs.ReadsOnly.{AreFailed, LooksAt, SlotSame}
use Rattle.ddf_bay.proofs.Looks.{failed_more, failed_padded, later_more, none_failed}
use Rattle.ddf_copy.specs.declared.newest_copy.Newest.{Newest}
use Rattle.ddf_assembly.specs.Slots.{AreOut, IsLooked, IsRead, LeaveNone, newest_from, newest_or}

newest_from-append : {D : Type 0} (disks : BayState D) (slot : ℕ) (left : List Bool) (out : Bool) → newest_from disks slot (left ++ out ∷ []) ≡ newest_from disks slot left ++ newest_or disks (slot + length left) out ∷ []
newest_from-append disks slot [] out = ap (λ (n : ℕ). newest_or disks n out ∷ []) (omega arith)
newest_from-append disks slot (one ∷ left) out =
    let e : suc slot + length left ≡ slot + suc (length left) = omega arith in
    ap (λ (rest : List (Option Newest)). newest_or disks slot one ∷ rest) (newest_from-append disks (suc slot) left out)
    ∙ ap (λ (n : ℕ). (newest_or disks slot one ∷ newest_from disks (suc slot) left) ++ newest_or disks n out ∷ []) e

-- So many slots were read, and these of them are left out.
pub record IsPartway {D : Type 0} (tells : Type 0) (old now : BayState D) (slot : ℕ) (left : List Bool) (newest : List (Option Newest)) : Type 0 where
  pub slots : length left ≡ slot
  pub are_failed : AreFailed old now left
  pub later : (s : ℕ) → slot ≤ s → SlotSame old now s
  pub read : tells → newest ≡ newest_from old 0 left
  pub gone : AreOut old left

-- before the first slot
pub partway_start : {D : Type 0} (tells : Type 0) (a : BayState D) → IsPartway tells a a 0 [] []
partway_start tells a = record {
  slots = refl;
  are_failed = none_failed a a;
  later = λ s le. (refl, refl);
  read = λ told. refl;
  gone = λ s lt. absurd (omega (arith, lt));
}

-- as far as they were looked at
pub partway_looked : {D : Type 0} (tells : Type 0) (old now : BayState D) (slot : ℕ) (left : List Bool) (newest : List (Option Newest)) → slot ≤ length old.sizes → IsPartway tells old now slot left newest → IsLooked old now
partway_looked tells old now slot left newest within so_far = record {
  left = left ++ replicate (length old.sizes - slot) false;
  every_slot = length-append left (replicate (length old.sizes - slot) false) ∙ omega (arith, so_far.slots, length-replicate (length old.sizes - slot) false);
  are_failed = failed_padded old now left (length old.sizes - slot) so_far.are_failed (λ s le. so_far.later s (omega (arith, so_far.slots)));
}

-- after the last slot
pub partway_read : {D : Type 0} (tells : Type 0) (old now : BayState D) (slot : ℕ) (left : List Bool) (newest : List (Option Newest)) → slot ≡ length old.sizes → IsPartway tells old now slot left newest → IsRead tells old now left newest
partway_read tells old now slot left newest last so_far = record {
  looked = record { left = left; every_slot = so_far.slots ∙ last; are_failed = so_far.are_failed };
  is_left = refl;
  answer = so_far.read;
  gone = so_far.gone;
}

module _ {D : Type 0} (tells : Type 0) (old now next : BayState D) (slot : ℕ) (left : List Bool) (newest : List (Option Newest)) (out : Bool) (one : Option Newest)
    (so_far : IsPartway tells old now slot left newest) (same_sizes : now.sizes ≡ old.sizes) (same_held : now.held ≡ old.held)
    (look : LooksAt now next slot out) (is : tells → one ≡ newest_or now slot out) (gone : old.gone slot → out ≡ true) where
  here : LooksAt now next (length left) out
  here = rw so_far.slots look

  rest : (s : ℕ) → length left ≤ s → SlotSame old now s
  rest s le = so_far.later s (omega (arith, so_far.slots))

  same : newest_or now slot out ≡ newest_or old (length left) out
  same = rw (same_sizes, same_held, so_far.slots) refl

  out_here : get_or (left ++ out ∷ []) (length left) false ≡ out
  out_here = ap (λ (n : ℕ). get_or (left ++ out ∷ []) n false) (sym (add-zero (length left))) ∙ get_or-append-add left (out ∷ []) 0 false

  out_more : AreOut old (left ++ out ∷ [])
  out_more s lt is_gone = ⊎_elim
      (λ before. get_or_append_left left (out ∷ []) false s before ∙ so_far.gone s before is_gone)
      (λ from.
      let last : s ≡ length left = omega (arith, from, lt, length-append left (out ∷ [])) in
      let this : s ≡ slot = last ∙ so_far.slots in
      ap (λ (n : ℕ). get_or (left ++ out ∷ []) n false) last ∙ out_here ∙ gone (subst (λ (n : ℕ). old.gone n) this is_gone))
      (cases_lt s (length left))

  -- one slot more
  pub partway_more : IsPartway tells old next (slot + 1) (left ++ out ∷ []) (newest ++ one ∷ [])
  partway_more = record {
    slots = length-append left (out ∷ []) ∙ omega (arith, so_far.slots);
    are_failed = failed_more old now next left out so_far.are_failed rest same_sizes here;
    later = λ s le. later_more old now next left out so_far.are_failed rest same_sizes here s (omega (arith, so_far.slots));
    read = λ told.
        ap (λ (before : List (Option Newest)). before ++ one ∷ []) (so_far.read told)
        ∙ ap (λ (x : Option Newest). newest_from old 0 left ++ x ∷ []) (is told ∙ same)
        ∙ sym (newest_from-append old 0 left out ∙ ap (λ (n : ℕ). newest_from old 0 left ++ newest_or old n out ∷ []) (zero-add (length left)));
    gone = out_more;
  }

-- a look at one slot more, whatever it gave
pub partway_cut : {D : Type 0} (tells : Type 0) (old now next : BayState D) (slot : ℕ) (left : List Bool) (newest : List (Option Newest)) (out : Bool) → IsPartway tells old now slot left newest
    → now.sizes ≡ old.sizes → now.held ≡ old.held → LooksAt now next slot out → (old.gone slot → out ≡ true) → slot < length old.sizes → IsLooked old next
partway_cut tells old now next slot left newest out so_far same_sizes same_held look gone below =
    partway_looked ⊥ old next (slot + 1) (left ++ out ∷ []) (newest ++ None ∷ []) (omega (arith, below))
    (partway_more ⊥ old now next slot left newest out None
    (record { slots = so_far.slots; are_failed = so_far.are_failed; later = so_far.later; read = λ none. absurd none; gone = so_far.gone })
    same_sizes same_held look (λ none. absurd none) gone)

-- one slot more, which has no newest copy where it is left out
pub none_more : (left : List Bool) (newest : List (Option Newest)) (out : Bool) (one : Option Newest) → length left ≡ length newest → LeaveNone left newest → IfSome one (λ _. out ≡ false)
    → LeaveNone (left ++ out ∷ []) (newest ++ one ∷ [])
none_more [] [] out None same none seen zero copy at = absurd cc
none_more [] [] out (Some first) same none seen zero copy at = seen
none_more [] [] out one same none seen (suc slot) copy at = absurd cc
none_more [] (first ∷ newest) out one same none seen slot copy at = absurd cc
none_more (was ∷ left) [] out one same none seen slot copy at = absurd cc
none_more (was ∷ left) (first ∷ newest) out one same none seen zero copy at = none zero copy at
none_more (was ∷ left) (first ∷ newest) out one same none seen (suc slot) copy at =
    none_more left newest out one (omega (arith, same)) (λ number. none (suc number)) seen slot copy at

-- what each has, and one more
pub all_more : {X : Type 0} (P : X → Type 0) (xs : List X) (x : X) → AllByRecursion P xs → P x → AllByRecursion P (xs ++ x ∷ [])
all_more P [] x all has = (has, tt)
all_more P (y ∷ ys) x all has = (all.0, all_more P ys x all.1 has)
