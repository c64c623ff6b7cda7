-- Slots that a change left: those that it wrote lead, are claimed, and nothing contradicts them.
use Rattle.std.proofs.Common.{◌≡◌, ℕ, ◌<◌, ◌≤◌, Bool, true, false, not, ◌&&◌, ◌||◌, nat_le, List, [], ◌∷◌, length, Option, Some, None, refl, ap, sym, ◌∙◌, subst, inl, inr, arith, zero-add}
use Rattle.std.specs.Prelude.{filter, option_map, slice_get}
use Rattle.std.specs.List.{AllByRecursion, range_with_len}
use Rattle.std.specs.Option.{option_and_then}
use Rattle.ddf_lemmas.proofs.Lists.{all_from as all_by_get, list_all_from, list_all_read}
use Rattle.ddf_lemmas.proofs.Options.{none_from_map}
use Rattle.ddf_bytes.specs.Choices.{first_of}
use Rattle.ddf_view.specs.Differ.{difference}
use Rattle.ddf_view.specs.View.{View, lists_current}
use Rattle.ddf_group.specs.declared.shown.Shown.{Shown}
use Rattle.ddf_group.specs.declared.shown.Shown.TheVariants.{Level}
use Rattle.ddf_group.specs.declared.answer.Assembly.{Assembly}
use Rattle.ddf_group.specs.declared.answer.Assembly.TheVariants.{Split}
use Rattle.ddf_group.specs.declared.answer.Differ.TheVariants as differs
use Rattle.ddf_group.specs.Conflicts.{contradiction, differ_at, differ_of, difference_of, differing, has_two, in_conflict, is_concerned, leads_with_two, lists_disk_missing, lists_missing_in, same_reference, split_from, split_in, splits_from, twin_of, twins, two_copies}
use Rattle.ddf_group.specs.Pairs.{first_pair, first_with}
use Rattle.ddf_group.specs.Slots.{claimed, claims, claims_by, leaders, leading_view, leads, none_later, numbers, reference_at, sequence_in, shows_group, slot_at, view_in}
use Rattle.ddf_rewrite.proofs.Lists.{get_range}
use Rattle.ddf_recovery.proofs.LeftLists.{IsNoneOf, find_fails, keeps_these, one_or_none, pair_kept, pair_none, with_none}
use Rattle.ddf_assembly.proofs.SettledLists.{find_kept}
use Rattle.ddf_assembly.proofs.SettledSeats.{Rise}

-- A slot that was written shows this view in two level copies.
pub record IsWritten (after : List Shown) (written : List ℕ) (slot : ℕ) (view : View) : Type 0 where
  pub place : ℕ
  pub at : slice_get written place ≡ Some slot
  pub shown : slot_at after slot ≡ Level view

-- What a change left of the slots of a group: those that it wrote have its views, of its sequence number, which list each other's disks and
-- agree; every other slot is as it was, is behind, is no current member's, and lists none of the written disks as missing.
pub record IsLeft (group : List ℕ) (sequence : ℕ) (before after : List Shown) (written : List ℕ) : Type 0 where
  pub same_length : length after ≡ length before
  pub rise : Rise written
  pub within : AllByRecursion (λ slot. slot < length before) written
  pub views : (place slot : ℕ) → slice_get written place ≡ Some slot → (view : View) × (slot_at after slot ≡ Level view)
  pub others : (slot : ℕ) → IsNoneOf written slot → slot_at after slot ≡ slot_at before slot
  pub shows : (slot : ℕ) (view : View) → IsWritten after written slot view → shows_group group (Level view) ≡ true
  pub sequences : (slot : ℕ) (view : View) → IsWritten after written slot view → view.sequence ≡ sequence
  pub older : (slot : ℕ) → IsNoneOf written slot → shows_group group (slot_at before slot) ≡ true → sequence_in (slot_at before slot) < sequence
  pub lists : (i j : ℕ) (one other : View) → IsWritten after written i one → IsWritten after written j other → lists_current one other.guid other.reference ≡ true
  pub foreign : (i j : ℕ) (one : View) → IsWritten after written i one → IsNoneOf written j → claims_by (Some one) (slot_at before j) ≡ false
  pub agree : (i j : ℕ) (one other : View) → IsWritten after written i one → IsWritten after written j other → difference one other ≡ None
  pub were_concerned : (place slot : ℕ) → slice_get written place ≡ Some slot → is_concerned before group slot ≡ true
  pub same_references : (place slot : ℕ) → slice_get written place ≡ Some slot → reference_at after slot ≡ reference_at before slot
  pub none_missing : (i j : ℕ) (one : View) → IsWritten after written i one → IsNoneOf written j → shows_group group (slot_at before j) ≡ true
      → lists_missing_in (slot_at before j) one.guid one.reference ≡ false
  pub no_twins : twins before group ≡ None

module _ (group : List ℕ) (sequence : ℕ) (before after : List Shown) (first : ℕ) (rest : List ℕ) (left : IsLeft group sequence before after (first ∷ rest)) where
  abbrev written : List ℕ
  written = first ∷ rest

  -- The view of a written slot.
  written_at : (place slot : ℕ) (at : slice_get written place ≡ Some slot) → IsWritten after written slot (left.views place slot at).0
  written_at place slot at = record { place = place; at = at; shown = (left.views place slot at).1 }

  -- ---- leaders

  -- No slot that shows the group is ahead of the change.
  not_ahead : (slot : ℕ) → (not (shows_group group (slot_at after slot)) || nat_le (sequence_in (slot_at after slot)) sequence) ≡ true
  not_ahead slot = elim (one_or_none written slot) [
    | inl found ↦
        let is = left.views found.0 slot found.1 in
        let same : is.0.sequence ≡ sequence = left.sequences slot is.0 (written_at found.0 slot found.1) in
        let within : nat_le is.0.sequence sequence ≡ true = grind (arith, same) in
        subst (λ (shown : Shown). (not (shows_group group shown) || nat_le (sequence_in shown) sequence) ≡ true) (sym is.1) (either (shows_group group (Level is.0)) (nat_le is.0.sequence sequence) within)
    | inr none ↦
        subst (λ (shown : Shown). (not (shows_group group shown) || nat_le (sequence_in shown) sequence) ≡ true) (sym (left.others slot none))
        (by (shows_group group (slot_at before slot)) (left.older slot none))
  ]
    where
      either : (a b : Bool) → b ≡ true → (not a || b) ≡ true
      either true b h = h
      either false b h = refl

      by : (b : Bool) → (b ≡ true → sequence_in (slot_at before slot) < sequence) → (not b || nat_le (sequence_in (slot_at before slot)) sequence) ≡ true
      by true below = let is : sequence_in (slot_at before slot) < sequence = below refl in grind (arith, is)
      by false below = refl

  -- A written slot leads.
  leads_written : (slot : ℕ) (view : View) → IsWritten after written slot view → leads after group slot ≡ true
  leads_written slot view is =
      let all : none_later after group sequence ≡ true = list_all_from (λ n. not (shows_group group (slot_at after n)) || nat_le (sequence_in (slot_at after n)) sequence) (numbers after) (λ i n at. not_ahead n) in
      let here : none_later after group view.sequence ≡ true = ap (none_later after group) (left.sequences slot view is) ∙ all in
      subst (λ (shown : Shown). (shows_group group shown && none_later after group (sequence_in shown)) ≡ true) (sym is.shown) (both (shows_group group (Level view)) _ (left.shows slot view is) here)
    where
      both : (a b : Bool) → a ≡ true → b ≡ true → (a && b) ≡ true
      both a b p q = ap (λ x. x && b) p ∙ q

  -- A slot that shows the group and is as it was has the first written slot ahead of it.
  is_behind : (number : ℕ) → number < sequence → none_later after group number ≡ false
  is_behind number below = by (none_later after group number) refl
    where
      by : (b : Bool) → none_later after group number ≡ b → none_later after group number ≡ false
      by false e = e
      by true e =
          let there = get_range 0 (length after) first (let low = left.within.0 in let long = left.same_length in omega (arith, low, long)) in
          let passes = list_all_read (λ n. not (shows_group group (slot_at after n)) || nat_le (sequence_in (slot_at after n)) number) (numbers after) first there.0 e there.2 in
          let here : (not (shows_group group (slot_at after first)) || nat_le (sequence_in (slot_at after first)) number) ≡ true = subst (λ (n : ℕ). (not (shows_group group (slot_at after n)) || nat_le (sequence_in (slot_at after n)) number) ≡ true) (there.1 ∙ zero-add first) passes in
          let is = written_at 0 first refl in
          let view = (left.views 0 first refl).0 in
          let known : (not (shows_group group (Level view)) || nat_le view.sequence number) ≡ true = subst (λ (shown : Shown). (not (shows_group group shown) || nat_le (sequence_in shown) number) ≡ true) is.shown here in
          let within : nat_le view.sequence number ≡ true = sym (ap (λ b. not b || nat_le view.sequence number) (left.shows first view is)) ∙ known in
          let same : view.sequence ≡ sequence = left.sequences first view is in
          absurd (grind (arith, within, same, below))

  -- A slot that wasn't written doesn't lead.
  leads_other : (slot : ℕ) → IsNoneOf written slot → leads after group slot ≡ false
  leads_other slot none =
      subst (λ (shown : Shown). (shows_group group shown && none_later after group (sequence_in shown)) ≡ false) (sym (left.others slot none))
      (by (shows_group group (slot_at before slot)) (left.older slot none))
    where
      by : (b : Bool) → (b ≡ true → sequence_in (slot_at before slot) < sequence) → (b && none_later after group (sequence_in (slot_at before slot))) ≡ false
      by true below = is_behind (sequence_in (slot_at before slot)) (below refl)
      by false below = refl

  -- A test that passes the written slots alone keeps these.
  keeps_written : (test : ℕ → Bool) → ((slot : ℕ) (view : View) → IsWritten after written slot view → test slot ≡ true) → ((slot : ℕ) → IsNoneOf written slot → test slot ≡ false)
      → filter test (numbers after) ≡ written
  keeps_written test passes fails =
      keeps_these test 0 (length after) written left.rise
      (all_by_get (λ (n : ℕ). 0 ≤ n) written (λ k n at. omega arith))
      (subst (λ (n : ℕ). AllByRecursion (λ slot. slot < n) written) (sym left.same_length ∙ sym (zero-add (length after))) left.within)
      (all_by_get (λ (slot : ℕ). test slot ≡ true) written (λ k slot at. passes slot (left.views k slot at).0 (written_at k slot at)))
      (λ n low none. fails n none)

  -- The written slots are the leaders.
  pub leaders_are : leaders after group ≡ written
  unfolding leaders
  leaders_are = keeps_written (leads after group) leads_written leads_other

  -- ---- claims

  abbrev leader : View
  leader = (left.views 0 first refl).0

  leader_is : leading_view after group ≡ Some leader
  unfolding leading_view leaders
  leader_is =
      ap (λ (found : Option ℕ). option_and_then (λ slot. view_in (slot_at after slot)) found) (find_kept (leads after group) (numbers after) first rest leaders_are)
      ∙ ap view_in (left.views 0 first refl).1

  pub claims_written : (slot : ℕ) (view : View) → IsWritten after written slot view → claims after group slot ≡ true
  claims_written slot view is =
      ap (λ (led : Option View). claims_by led (slot_at after slot)) leader_is ∙ ap (claims_by (Some leader)) is.shown ∙ left.lists first slot leader view (written_at 0 first refl) is

  pub claims_other : (slot : ℕ) → IsNoneOf written slot → claims after group slot ≡ false
  claims_other slot none =
      ap (λ (led : Option View). claims_by led (slot_at after slot)) leader_is ∙ ap (claims_by (Some leader)) (left.others slot none) ∙ left.foreign first slot leader (written_at 0 first refl) none

  -- The written slots are those that the group claims.
  pub claimed_are : claimed after group ≡ written
  unfolding claimed
  claimed_are = keeps_written (claims after group) claims_written claims_other

  -- ---- nothing contradicts

  none_two : two_copies after group ≡ None
  none_two = ap (option_map (λ slot. in_conflict after group slot slot differs.Copies)) (find_fails (leads_with_two after group) fails (numbers after))
    where
      fails : (slot : ℕ) → leads_with_two after group slot ≡ false
      fails slot = elim (one_or_none written slot) [
        | inl found ↦ ap (λ (shown : Shown). has_two shown && leads after group slot) (left.views found.0 slot found.1).1
        | inr none ↦ ap (λ b. has_two (slot_at after slot) && b) (leads_other slot none) ∙ no_and (has_two (slot_at after slot))
      ]
        where
          no_and : (a : Bool) → (a && false) ≡ false
          no_and true = refl
          no_and false = refl

  none_differ : differing after group ≡ None
  none_differ =
      ap (first_pair (differ_at after group)) leaders_are
      ∙ pair_none (differ_at after group) written
      (λ i j one other at also.
      let is = written_at i one at in
      let its = written_at j other also in
      ap (option_map (λ found. in_conflict after group one other (differ_of found)))
      (ap (λ (view : Option View). difference_of view (view_in (slot_at after other))) (ap view_in is.shown)
      ∙ ap (difference_of (Some (left.views i one at).0)) (ap view_in its.shown)
      ∙ left.agree one other (left.views i one at).0 (left.views j other also).0 is its))

  none_split : split_in after group ≡ None
  none_split =
      ap (first_with (split_from after group)) leaders_are
      ∙ with_none (split_from after group) written
      (λ k lead at. ap (option_map (λ (slot : ℕ). Split lead slot)) (find_fails (splits_from after group lead) (fails lead (left.views k lead at).0 (written_at k lead at)) (numbers after)))
    where
      no_and : (a b : Bool) → (a && b && false) ≡ false
      no_and true true = refl
      no_and true false = refl
      no_and false b = refl

      by : (b : Bool) (missing leading : Bool) → (b ≡ true → missing ≡ false) → (b && missing && not leading) ≡ false
      by true missing leading h = ap (λ m. m && not leading) (h refl)
      by false missing leading h = refl

      fails : (lead : ℕ) (view : View) → IsWritten after written lead view → (slot : ℕ) → splits_from after group lead slot ≡ false
      fails lead view is slot = elim (one_or_none written slot) [
        | inl found ↦
            ap (λ b. shows_group group (slot_at after slot) && lists_disk_missing (slot_at after slot) (view_in (slot_at after lead)) && not b)
            (leads_written slot (left.views found.0 slot found.1).0 (written_at found.0 slot found.1))
            ∙ no_and (shows_group group (slot_at after slot)) (lists_disk_missing (slot_at after slot) (view_in (slot_at after lead)))
        | inr none ↦
            ap (λ (disk : Option View). shows_group group (slot_at after slot) && lists_disk_missing (slot_at after slot) disk && not (leads after group slot)) (ap view_in is.shown)
            ∙ ap (λ (shown : Shown). shows_group group shown && lists_missing_in shown view.guid view.reference && not (leads after group slot)) (left.others slot none)
            ∙ by (shows_group group (slot_at before slot)) (lists_missing_in (slot_at before slot) view.guid view.reference) (leads after group slot) (left.none_missing lead slot view is none)
      ]

  -- A slot that the group is concerned with now was one before.
  still_concerned : (slot : ℕ) → is_concerned after group slot ≡ true → (is_concerned before group slot ≡ true) × (reference_at after slot ≡ reference_at before slot)
  still_concerned slot h = elim (one_or_none written slot) [
    | inl found ↦ (left.were_concerned found.0 slot found.1, left.same_references found.0 slot found.1)
    | inr none ↦
        let same = left.others slot none in
        let shown : (shows_group group (slot_at before slot) || false) ≡ true =
        sym (ap (λ (shown : Shown). shows_group group shown || claims after group slot) same ∙ ap (λ b. shows_group group (slot_at before slot) || b) (claims_other slot none)) ∙ h in (
          first_or (shows_group group (slot_at before slot)) (claims before group slot) shown,
          ap (λ (shown : Shown). option_map (λ (view : View). view.reference) (view_in shown)) same,
        )
  ]
    where
      first_or : (a b : Bool) → (a || false) ≡ true → (a || b) ≡ true
      first_or true b h = refl
      first_or false b h = absurd cc

  none_twin : twins after group ≡ None
  none_twin =
      pair_kept (twin_of after group) (twin_of before group) (is_concerned after group) (is_concerned before group) (numbers after) (λ slot h. (still_concerned slot h).0)
      (λ i j one other none.
      ap (option_map (λ (reference : ℕ). in_conflict after group i j (differs.Twin reference)))
      (ap (λ (o : Option ℕ). same_reference o (reference_at after j)) (still_concerned i one).1
      ∙ ap (same_reference (reference_at before i)) (still_concerned j other).1
      ∙ none_from_map (λ (reference : ℕ). in_conflict before group i j (differs.Twin reference)) (same_reference (reference_at before i) (reference_at before j)) none))
      (ap (λ (n : ℕ). first_pair (twin_of before group) (filter (is_concerned before group) (range_with_len 0 n))) left.same_length ∙ left.no_twins)

  -- Nothing contradicts the group.
  pub not_contradicted : contradiction after group ≡ None
  unfolding contradiction
  not_contradicted =
      ap (λ found. first_of (found ∷ twins after group ∷ differing after group ∷ split_in after group ∷ [])) none_two
      ∙ ap (λ found. first_of (None ∷ found ∷ differing after group ∷ split_in after group ∷ [])) none_twin
      ∙ ap (λ found. first_of (None ∷ None ∷ found ∷ split_in after group ∷ [])) none_differ
      ∙ ap (λ (found : Option Assembly). first_of (None ∷ None ∷ None ∷ found ∷ [])) none_split
