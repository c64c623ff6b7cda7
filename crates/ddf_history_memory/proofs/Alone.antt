-- A group that is shown alone isn't absorbed, and is the one that is meant where none is named.
use Rattle.std.proofs.Common.{◌≡◌, ◌∙◌, ℕ, ◌<◌, ◌&&◌, ◌||◌, not, Bool, true, false, List, length, map, Option, Some, None, Result, Ok, Err, if◌then◌else◌, refl, sym, ap, inl, inr}
use Rattle.std.proofs.lemmas.Bool.{and_parts, cases_lt, false≢true}
use Rattle.std.specs.Option.{option_map_or}
use Rattle.std.specs.Str.{bytes_eq}
use Rattle.ddf_lemmas.proofs.Lists.{bytes_same}
use Rattle.ddf_copy.specs.declared.newest_copy.Newest.{Newest}
use Rattle.ddf_group.specs.declared.shown.Shown.{Shown}
use Rattle.ddf_group.specs.declared.answer.Assembly.{Assembly}
use Rattle.ddf_group.specs.declared.answer.Assembly.TheVariants as faults
use Rattle.ddf_group.specs.Assembled.{assembled, assembled_group}
use Rattle.ddf_group.specs.Choice.{absorbs, absorbs_at, chosen, claims_all, claims_none, first_free, group_at, is_absorbed, is_shown, only_group, other_free, shows_free, unless_other}
use Rattle.ddf_group.specs.Shown.{shown_of}
use Rattle.ddf_group.specs.Slots.{claims, group_shown, shows_group, slot_at}
use Rattle.ddf_history.proofs.AnsweredLists.{each_below, found_passes, missed_below, none_below, some_below}
use Rattle.ddf_history.proofs.AnsweredSlots.{nothing_past}
use Rattle.ddf_assembly.specs.Group.{group_of, group_or_fault}
use Rattle.ddf_recovery.proofs.LeftChoice.{within}
use Rattle.ddf_history_steps.proofs.Alone.{name_shown}

module _ (slots : List Shown) (group : List ℕ) (slot : ℕ) (shows : shows_group group (slot_at slots slot) ≡ true) where
  there : slot < length slots
  there = elim (cases_lt slot (length slots)) [
    | inl less ↦ less
    | inr past ↦ absurd (false≢true (sym (ap (shows_group group) (nothing_past slots slot past)) ∙ shows))
  ]

  -- No group absorbs itself: it would claim each slot that shows it, and none.
  not_itself : absorbs slots group group ≡ true → ⊥
  not_itself is =
      let parts = and_parts (claims_none slots group group) (claims_all slots group group) is in
      let none = each_below (λ s. not (shows_group group (slot_at slots s) && claims slots group s)) (length slots) parts.0 slot there in
      let all = each_below (λ s. not (shows_group group (slot_at slots s)) || claims slots group s) (length slots) parts.1 slot there in
      let claimed : claims slots group slot ≡ true = sym (ap (λ b. not b || claims slots group slot) shows) ∙ all in
      false≢true (sym (ap (λ b. not (b && claims slots group slot)) shows ∙ ap not claimed) ∙ none)

  pub not_absorbed : ((other : ℕ) (found : List ℕ) → group_shown (slot_at slots other) ≡ Some found → found ≡ group) → is_absorbed slots group ≡ false
  not_absorbed only = by (is_absorbed slots group) refl
    where
      at_other : (other : ℕ) (found : Option (List ℕ)) → group_shown (slot_at slots other) ≡ found → option_map_or (λ own. absorbs slots own group) found false ≡ true → ⊥
      at_other other None is passes = false≢true passes
      at_other other (Some own) is passes = not_itself (ap (λ (one : List ℕ). absorbs slots one group) (sym (only other own is)) ∙ passes)

      by : (b : Bool) → is_absorbed slots group ≡ b → is_absorbed slots group ≡ false
      by false is = is
      by true is = let some = some_below (absorbs_at slots group) (length slots) is in absurd (at_other some.0 (group_shown (slot_at slots some.0)) refl some.1)

-- ---- a call that names none

module _ (slots : List Shown) (group : List ℕ) (alone : (slot : ℕ) (other : List ℕ) → group_shown (slot_at slots slot) ≡ Some other → other ≡ group) where
  -- A slot that shows a group shows this one, and no other absorbs it.
  shows_it : (slot : ℕ) (found : Option (List ℕ)) → group_shown (slot_at slots slot) ≡ found → option_map_or (λ (one : List ℕ). not (is_absorbed slots one)) found false ≡ true
      → shows_group group (slot_at slots slot) ≡ true
  shows_it slot None is passes = absurd (false≢true passes)
  shows_it slot (Some other) is passes =
      ap (λ (found : Option (List ℕ)). option_map_or (bytes_eq group) found false) is ∙ ap (bytes_eq group) (alone slot other is) ∙ bytes_same group

  free_shows : (slot : ℕ) → shows_free slots slot ≡ true → shows_group group (slot_at slots slot) ≡ true
  free_shows slot passes = shows_it slot (group_shown (slot_at slots slot)) refl passes

  shows_free_too : (slot : ℕ) → shows_group group (slot_at slots slot) ≡ true → shows_free slots slot ≡ true
  shows_free_too slot shows =
      let own : group_shown (slot_at slots slot) ≡ Some group = name_shown group (group_shown (slot_at slots slot)) shows in
      let free : is_absorbed slots group ≡ false = not_absorbed slots group slot shows alone in
      ap (λ (found : Option (List ℕ)). option_map_or (λ (one : List ℕ). not (is_absorbed slots one)) found false) own ∙ ap not free

  -- ---- no slot shows a group

  none_shown : first_free slots ≡ None → (b : Bool) → is_shown slots group ≡ b → b ≡ true → ⊥
  unfolding first_free
  none_shown none false is shown = false≢true shown
  none_shown none true is shown =
      let some = some_below (λ s. shows_group group (slot_at slots s)) (length slots) is in
      let there = within slots some.0 group (name_shown group (group_shown (slot_at slots some.0)) some.1) in
      false≢true (sym (missed_below (shows_free slots) (length slots) none some.0 there) ∙ shows_free_too some.0 some.1)

  -- ---- one does

  no_other : (found : Option ℕ) → other_free slots group ≡ found → found ≡ None
  unfolding other_free
  no_other None is = refl
  no_other (Some other) is =
      let passes = found_passes (λ s. not (shows_group group (slot_at slots s)) && shows_free slots s) (length slots) other is in
      let parts = and_parts (not (shows_group group (slot_at slots other))) (shows_free slots other) passes in
      absurd (false≢true (sym (ap not (free_shows other parts.1)) ∙ parts.0))

  at_first : (first : ℕ) (found : Option (List ℕ)) → group_shown (slot_at slots first) ≡ found → shows_free slots first ≡ true → group_at slots first found ≡ Ok group
  at_first first None is passes = absurd (false≢true (sym (ap (λ (found : Option (List ℕ)). option_map_or (λ (one : List ℕ). not (is_absorbed slots one)) found false) is) ∙ passes))
  at_first first (Some other) is passes =
      ap (λ (one : List ℕ). unless_other first one (other_free slots one)) (alone first other is)
      ∙ ap (unless_other first group) (no_other (other_free slots group) refl)

  named_one : (b : Bool) → is_shown slots group ≡ b → b ≡ true → ◌≡◌ {A = Result (List ℕ) Assembly} (if is_shown slots group then Ok group else Err faults.NoGroup) (Ok group)
  named_one true is shown = ap (λ (one : Bool). if one then Ok group else Err faults.NoGroup) is
  named_one false is shown = absurd (false≢true shown)

  named_none : (b : Bool) → is_shown slots group ≡ b → (b ≡ true → ⊥) → ◌≡◌ {A = Result (List ℕ) Assembly} (if is_shown slots group then Ok group else Err faults.NoGroup) (Err faults.NoGroup)
  named_none true is none = absurd (none refl)
  named_none false is none = ap (λ (one : Bool). if one then Ok group else Err faults.NoGroup) is

  shown_there : (slot : ℕ) → shows_group group (slot_at slots slot) ≡ true → (b : Bool) → is_shown slots group ≡ b → b ≡ true
  shown_there slot shows true is = refl
  shown_there slot shows false is =
      let there = within slots slot group (name_shown group (group_shown (slot_at slots slot)) shows) in
      absurd (false≢true (sym (none_below (λ s. shows_group group (slot_at slots s)) (length slots) is slot there) ∙ shows))

  by_first : (first : Option ℕ) → first_free slots ≡ first → ◌≡◌ {A = Result (List ℕ) Assembly} (only_group slots first) (if is_shown slots group then Ok group else Err faults.NoGroup)
  unfolding first_free
  by_first None none = sym (named_none (is_shown slots group) refl (none_shown none (is_shown slots group) refl))
  by_first (Some first) is =
      let passes = found_passes (shows_free slots) (length slots) first is in
      at_first first (group_shown (slot_at slots first)) refl passes
      ∙ sym (named_one (is_shown slots group) refl (shown_there first (free_shows first passes) (is_shown slots group) refl))

  -- So it is the one that is meant where none is named.
  pub chosen_alone : chosen slots None ≡ chosen slots (Some group)
  unfolding chosen
  chosen_alone = by_first (first_free slots) refl

pub meant_alone : (newest : List (Option Newest)) (group : List ℕ)
    → ((slot : ℕ) (other : List ℕ) → group_shown (slot_at (map shown_of newest) slot) ≡ Some other → other ≡ group) → group_of newest None ≡ group_of newest (Some group)
unfolding group_of assembled
meant_alone newest group alone =
    ap (λ (choice : Result (List ℕ) Assembly). group_or_fault newest (assembled_group (map shown_of newest) choice)) (chosen_alone (map shown_of newest) group alone)
