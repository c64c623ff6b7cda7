-- The leaders once copies were written to seats: those that led, and the new copies among them.
use Rattle.std.proofs.Common.{◌≡◌, ◌⊎◌, ℕ, zero, suc, ◌==◌, ◌&&◌, not, Bool, true, false, List, [], ◌∷◌, ◌++◌, if◌then◌else◌, Some, slice_get, refl, sym, ap, ◌∙◌, inl, inr, ⊎_elim, subst}
use Rattle.std.proofs.lemmas.Bool.{and_parts, eqb-true, true≢false}
use Rattle.ddf_lemmas.proofs.Lists.{first_get, in_second}
use Rattle.ddf_history.specs.Reading.{Reading, Scene, Shown, IsCopyOf, IsSound, stands}
use Rattle.ddf_history.specs.Reading.Shown.{Nothing, One, Differ}
use Rattle.ddf_history.specs.Issued.{Past, IsSince, is_away, take_off}
use Rattle.ddf_history.specs.Leaders.{seen, leading_copy, leading_copies}
use Rattle.ddf_history.specs.Promise.{IsKept}
use Rattle.ddf_history.specs.Steps.{AreWritten, IsPart, MayWrite}
use Rattle.ddf_history.specs.Calls.{IsAssembled, AreSure, NoneAbsent}
use Rattle.ddf_history.proofs.Since.{which}
use Rattle.ddf_history_steps.proofs.MendingLists.{either_list}
use Rattle.ddf_history_steps.proofs.MendingPlaces.{IsPlace, place_get}
use Rattle.ddf_history_steps.proofs.MendingLeaders.{IsShowing, one_is, leads_showing, stands_showing}

-- A list isn't empty and not so.
pub not_empty : {A : Type 0} (x : A) (xs : List A) → [] ≡ x ∷ xs → ⊥
not_empty x xs e = absurd cc

-- ---- lists that grow slot by slot

module _ (r : Reading) (n : ℕ) (one other : Scene r.Copy) (IsNew : r.Copy → Type 0) where
  -- a slot leads as it did, or a new copy leads where none did
  abbrev pub IsGrown : ℕ → Type 0
  IsGrown s = (leading_copy r n (other s) ≡ leading_copy r n (one s)) ⊎ ((leading_copy r n (one s) ≡ []) × ((copy : r.Copy) × IsNew copy × (leading_copy r n (other s) ≡ copy ∷ [])))

  -- the first of the leaders led first, or is new
  pub record IsHead (before after : List r.Copy) : Type 0 where
    pub head : r.Copy
    pub rest : List r.Copy
    pub are : after ≡ head ∷ rest
    pub led : ((others : List r.Copy) × (before ≡ head ∷ others)) ⊎ IsNew head

  -- More leaders leave the first where it is.
  head_stays : (before after xs ys : List r.Copy) → IsHead before after → IsHead (before ++ xs) (after ++ ys)
  head_stays before after xs ys is = record {
    head = is.head;
    rest = is.rest ++ ys;
    are = ap (λ zs. zs ++ ys) is.are;
    led = ⊎_elim (λ led. inl (led.0 ++ xs, ap (λ zs. zs ++ xs) led.1)) inr is.led;
  }

  -- Among no leaders the first of a slot is first.
  head_first : (before after : List r.Copy) → before ≡ [] → after ≡ [] → (s : ℕ) → IsGrown s → ((before ++ leading_copy r n (one s) ≡ []) × (after ++ leading_copy r n (other s) ≡ [])) ⊎ IsHead (before ++ leading_copy r n (one s)) (after ++ leading_copy r n (other s))
  head_first before after none none' s (inl same) = go (leading_copy r n (one s)) refl
    where
      go : (xs : List r.Copy) → leading_copy r n (one s) ≡ xs → ((before ++ leading_copy r n (one s) ≡ []) × (after ++ leading_copy r n (other s) ≡ [])) ⊎ IsHead (before ++ leading_copy r n (one s)) (after ++ leading_copy r n (other s))
      go [] e = let is = same ∙ e in inl (rw (none, e) refl, rw (none', is) refl)
      go (x ∷ xs) e = let is = same ∙ e in inr (record { head = x; rest = xs; are = rw (none', is) refl; led = inl (xs, rw (none, e) refl) })
  head_first before after none none' s (inr grown) = inr (record { head = grown.1.0; rest = []; are = rw (none', grown.1.2) refl; led = inr grown.1.1 })

  -- The first of all leaders led first, or is new.
  pub head_grown : ((s : ℕ) → IsGrown s) → (slots : ℕ) → ((leading_copies r n one slots ≡ []) × (leading_copies r n other slots ≡ [])) ⊎ IsHead (leading_copies r n one slots) (leading_copies r n other slots)
  head_grown grown zero = inl (refl, refl)
  head_grown grown (suc slots) = ⊎_elim
      (λ none. head_first (leading_copies r n one slots) (leading_copies r n other slots) none.0 none.1 slots (grown slots))
      (λ head. inr (head_stays (leading_copies r n one slots) (leading_copies r n other slots) (leading_copy r n (one slots)) (leading_copy r n (other slots)) head))
      (head_grown grown slots)

  -- a slot's copy led, or is new
  slot_grown : (s : ℕ) → IsGrown s → (k : ℕ) (copy : r.Copy) → slice_get (leading_copy r n (other s)) k ≡ Some copy → (slice_get (leading_copy r n (one s)) k ≡ Some copy) ⊎ IsNew copy
  slot_grown s (inl same) k copy is = inl (ap (λ (xs : List r.Copy). slice_get xs k) (sym same) ∙ is)
  slot_grown s (inr grown) k copy is = inr (go k (ap (λ (xs : List r.Copy). slice_get xs k) (sym grown.1.2) ∙ is))
    where
      go : (k : ℕ) → slice_get (grown.1.0 ∷ []) k ≡ Some copy → IsNew copy
      go zero e = let same : grown.1.0 ≡ copy = cc in subst IsNew same grown.1.1
      go (suc k) e = absurd cc

  -- Each leader led, or is new.
  pub each_grown : ((s : ℕ) → IsGrown s) → (slots k : ℕ) (copy : r.Copy) → slice_get (leading_copies r n other slots) k ≡ Some copy → ((m : ℕ) × (slice_get (leading_copies r n one slots) m ≡ Some copy)) ⊎ IsNew copy
  each_grown grown zero k copy is = absurd cc
  each_grown grown (suc slots) k copy is = ⊎_elim
      (λ before. ⊎_elim (λ led. inl (led.0, first_get (leading_copies r n one slots) (leading_copy r n (one slots)) led.0 copy led.1)) inr (each_grown grown slots k copy before))
      (λ last. ⊎_elim (λ led. inl (in_second (leading_copies r n one slots) (leading_copy r n (one slots)) last.0 copy led)) inr (slot_grown slots (grown slots) last.0 copy last.1))
      (either_list (leading_copies r n other slots) (leading_copy r n (other slots)) k copy is)

  -- what led in a slot leads there
  slot_leads : (s : ℕ) → IsGrown s → (k : ℕ) (copy : r.Copy) → slice_get (leading_copy r n (one s)) k ≡ Some copy → slice_get (leading_copy r n (other s)) k ≡ Some copy
  slot_leads s (inl same) k copy is = ap (λ (xs : List r.Copy). slice_get xs k) same ∙ is
  slot_leads s (inr grown) k copy is = let none = ap (λ (xs : List r.Copy). slice_get xs k) (sym grown.0) ∙ is in absurd cc

  -- Each that led leads.
  pub all_lead : ((s : ℕ) → IsGrown s) → (slots m : ℕ) (copy : r.Copy) → slice_get (leading_copies r n one slots) m ≡ Some copy → (k : ℕ) × (slice_get (leading_copies r n other slots) k ≡ Some copy)
  all_lead grown zero m copy is = absurd cc
  all_lead grown (suc slots) m copy is = ⊎_elim
      (λ before. let led = all_lead grown slots m copy before in (led.0, first_get (leading_copies r n other slots) (leading_copy r n (other slots)) led.0 copy led.1))
      (λ last. in_second (leading_copies r n other slots) (leading_copy r n (other slots)) last.0 copy (slot_leads slots (grown slots) last.0 copy last.1))
      (either_list (leading_copies r n one slots) (leading_copy r n (one slots)) m copy is)

-- ---- copies are written to seats

-- A slot leads, or doesn't.
lead_either : (r : Reading) (n : ℕ) (scene : Scene r.Copy) (s : ℕ) (shown : Shown r.Copy) → scene s ≡ shown → (leading_copy r n (scene s) ≡ []) ⊎ ((copy : r.Copy) × IsPlace r n scene s copy)
lead_either r n scene s Nothing is = inl (ap (leading_copy r n) is)
lead_either r n scene s (Differ primary secondary) is = inl (ap (leading_copy r n) is)
lead_either r n scene s (One copy) is = go (stands r copy && (r.sequence_of copy == n)) refl
  where
    go : (b : Bool) → (stands r copy && (r.sequence_of copy == n)) ≡ b → (leading_copy r n (scene s) ≡ []) ⊎ ((copy : r.Copy) × IsPlace r n scene s copy)
    go false e = inl (ap (leading_copy r n) is ∙ ap (λ (b : Bool). if b then copy ∷ [] else []) e)
    go true e = let parts = and_parts (stands r copy) (r.sequence_of copy == n) e in inr (copy, record { is_only = is; is_standing = parts.0; same = eqb-true _ _ parts.1 })

module _ (r : Reading) (sound : IsSound r) (past : Past r) (held scene : Scene r.Copy) (readable : ℕ → Bool) (j : ℕ) (c : r.Config)
    (assembled : IsAssembled past held readable c) (at : IsSince past.changes j c) (kept : IsKept past scene) (sure : AreSure r readable held scene) (none_absent : NoneAbsent r readable held c)
    (seats : ℕ → Bool) (new : ℕ → r.Copy) (may : MayWrite (take_off past j) scene j c seats new)
    (keeps : (s : ℕ) (copy : r.Copy) → seats s ≡ true → IsShowing r past held scene readable j c s copy → new s ≡ copy)
    (after : Scene r.Copy) (written : AreWritten seats new scene after) where
  abbrev n : ℕ
  n = r.sequence c

  abbrev read_scene : Scene r.Copy
  read_scene = seen readable held

  -- what is seen of the slots that aren't away
  abbrev pub seen_after : Scene r.Copy
  seen_after = seen (λ slot. not (is_away past slot)) after

  abbrev Showing : ℕ → r.Copy → Type 0
  Showing s copy = IsShowing r past held scene readable j c s copy

  -- a new copy of a slot that didn't lead
  abbrev pub IsFresh : r.Copy → Type 0
  IsFresh copy = (s : ℕ) × (seats s ≡ true) × (leading_copy r n (read_scene s) ≡ []) × (new s ≡ copy)

  abbrev Grown : ℕ → Type 0
  Grown s = IsGrown r n read_scene seen_after IsFresh s

  -- a slot that leads shows the configuration
  led_showing : (s : ℕ) (copy : r.Copy) → IsPlace r n read_scene s copy → Showing s copy
  led_showing s copy place =
      leads_showing r sound past held scene readable j c assembled at kept sure none_absent s copy (subst (λ (shown : Shown r.Copy). IsCopyOf shown copy) (sym place.is_only) refl) place.is_standing place.same

  -- so does one that leads now
  now_showing : (s : ℕ) (copy : r.Copy) → is_away past s ≡ false → IsCopyOf (scene s) copy → stands r copy ≡ true → r.sequence_of copy ≡ n → Showing s copy
  now_showing s copy here is stand same = stands_showing r sound past held scene readable j c assembled at kept sure none_absent s copy here is stand same

  -- what is seen of a slot that isn't away
  here_seen : (s : ℕ) → is_away past s ≡ false → seen_after s ≡ after s
  here_seen s here = ap (λ (b : Bool). if not b then after s else Nothing) here

  -- A slot that shows the configuration leads as it did.
  showing_grown : (s : ℕ) (copy : r.Copy) → Showing s copy → after s ≡ One copy → Grown s
  showing_grown s copy shown only = inl (
      place_get r n seen_after s copy (record { is_only = here_seen s shown.is_here ∙ only; is_standing = shown.is_standing; same = shown.same })
      ∙ sym (place_get r n read_scene s copy (record { is_only = shown.is_held; is_standing = shown.is_standing; same = shown.same })))

  -- A slot leads as it did, or with its new copy.
  pub slots_grown : (s : ℕ) → Grown s
  slots_grown s = elim (which (is_away past s)) [
    | inl away ↦ ⊎_elim
        (λ none. inl (ap (λ (b : Bool). leading_copy r n (if not b then after s else Nothing)) away ∙ sym none))
        (λ place. absurd (true≢false (sym away ∙ (led_showing s place.0 place.1).is_here)))
        (lead_either r n read_scene s (read_scene s) refl)
    | inr here ↦ ⊎_elim
        (λ none. ⊎_elim (λ none'. inl (none' ∙ sym none)) (λ place. fresh here none place.0 place.1 (written s)) (lead_either r n seen_after s (seen_after s) refl))
        (λ place. let shown = led_showing s place.0 place.1 in showing_grown s place.0 shown (goes_on place.0 shown (written s)))
        (lead_either r n read_scene s (read_scene s) refl)
  ]
    where
      -- one that shows the configuration goes on to show it
      goes_on : (copy : r.Copy) → Showing s copy → (after s ≡ scene s) ⊎ (seats s ≡ true) × (IsPart (scene s) (after s) ⊎ (after s ≡ One (new s))) → after s ≡ One copy
      goes_on copy shown (inl same) = same ∙ shown.is_only
      goes_on copy shown (inr wrote) = ⊎_elim
          (λ part. part.is_only ∙ ap (λ (x : r.Copy). One x) (subst (λ (it : Shown r.Copy). IsCopyOf it part.copy) shown.is_only part.is_copy))
          (λ only. only ∙ ap (λ (x : r.Copy). One x) (keeps s copy wrote.0 shown))
          wrote.1

      -- it didn't lead, so a copy that it showed doesn't lead now
      was_none : is_away past s ≡ false → leading_copy r n (read_scene s) ≡ [] → (copy : r.Copy) → IsCopyOf (scene s) copy → stands r copy ≡ true → r.sequence_of copy ≡ n → ⊥
      was_none here none copy is stand same =
          let shown = now_showing s copy here is stand same in
          not_empty copy [] (sym none ∙ place_get r n read_scene s copy (record { is_only = shown.is_held; is_standing = shown.is_standing; same = shown.same }))

      fresh : is_away past s ≡ false → leading_copy r n (read_scene s) ≡ [] → (copy : r.Copy) → IsPlace r n seen_after s copy → (after s ≡ scene s) ⊎ (seats s ≡ true) × (IsPart (scene s) (after s) ⊎ (after s ≡ One (new s))) → Grown s
      fresh here none copy place (inl same) =
          let is : IsCopyOf (scene s) copy = subst (λ (it : Shown r.Copy). IsCopyOf it copy) (sym place.is_only ∙ here_seen s here ∙ same) refl in
          absurd (was_none here none copy is place.is_standing place.same)
      fresh here none copy place (inr wrote) = ⊎_elim
          (λ part.
          let copy_is : copy ≡ part.copy = one_is copy part.copy (sym place.is_only ∙ here_seen s here ∙ part.is_only) in
          let is : IsCopyOf (scene s) copy = subst (IsCopyOf (scene s)) (sym copy_is) part.is_copy in
          absurd (was_none here none copy is place.is_standing place.same))
          (λ only.
          let copy_is : new s ≡ copy = one_is (new s) copy (sym only ∙ sym (here_seen s here) ∙ place.is_only) in
          inr (none, (copy, (s, wrote.0, none, copy_is), place_get r n seen_after s copy place)))
          wrote.1
