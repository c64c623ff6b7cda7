-- The slots that lead a group that nothing contradicts: each shows the group by one view, of one sequence number.
use Rattle.std.proofs.Common.{◌≡◌, ℕ, ◌≤◌, Bool, true, false, not, ◌&&◌, ◌||◌, nat_le, cond, List, [], ◌∷◌, length, map, Option, Some, None, refl, ap, sym, ◌∙◌, subst, arith, zero-add}
use Rattle.std.proofs.lemmas.Bool.{and_parts, leb-true, cond-true}
use Rattle.std.proofs.Math.Bool.{and-true}
use Rattle.std.specs.Prelude.{filter, filter_map, find, option_map, slice_get, unwrap_or}
use Rattle.std.specs.List.{AllByRecursion, cons_option}
use Rattle.std.specs.Option.{option_and_then, option_map_or}
use Rattle.std.specs.Str.{bytes_eq}
use Rattle.ddf_lemmas.proofs.Lists.{found_place, list_all_read, none_found}
use Rattle.ddf_lemmas.proofs.Options.{none_from_map}
use Rattle.ddf_view.specs.View.{View, lists_itself}
use Rattle.ddf_view.proofs.Finds.{place_within}
use Rattle.ddf_group.specs.declared.shown.Shown.{Shown}
use Rattle.ddf_group.specs.declared.shown.Shown.TheVariants.{Nothing, One, Level, TwoDiffer}
use Rattle.ddf_group.specs.declared.answer.Differ.TheVariants as differs
use Rattle.ddf_group.specs.Conflicts.{contradiction, has_two, in_conflict, leads_with_two, sequence_of}
use Rattle.ddf_group.specs.Names.{AreNamed}
use Rattle.ddf_group.specs.Slots.{claims, claims_by, leading_view, leads, none_later, numbers, sequence_in, shows_group, slot_at, view_in}
use Rattle.ddf_rewrite.proofs.Lists.{get_range}
use Rattle.ddf_assembly.proofs.SettledLeaders.{HasView, has_view, parts}

-- ---- lists

-- An item that two tests agree on, with what is found of it.
pub record IsSeen {X D V : Type 0} (test : X → Bool) (of : D → Bool) (find_one : X → Option D) (view : X → Option V) (says : D → V) (x : X) : Type 0 where
  pub one : D
  pub is_one : find_one x ≡ Some one
  pub is_seen : view x ≡ Some (says one)
  pub agrees : of one ≡ test x

module _ {X D V : Type 0} (test among : X → Bool) (of : D → Bool) (find_one : X → Option D) (view : X → Option V) (says : D → V)
    (seen : (x : X) → among x ≡ true → IsSeen test of find_one view says x) where
  abbrev ones : List X → List D
  ones xs = filter_map find_one (filter among xs)

  -- What passes a test is seen alike whether it is chosen before or behind the finding, where all that pass are among those that are found.
  pub seen_alike : (xs : List X) → AllByRecursion (λ x. among x ≡ true) (filter test xs) → map says (filter of (ones xs)) ≡ filter_map view (filter test xs)
  seen_alike [] all = refl
  seen_alike (x ∷ xs) all = by (seen_alike xs) (test x) refl (among x) refl all
    where
      by : (AllByRecursion (λ y. among y ≡ true) (filter test xs) → map says (filter of (ones xs)) ≡ filter_map view (filter test xs))
          → (b : Bool) → test x ≡ b → (c : Bool) → among x ≡ c → AllByRecursion (λ y. among y ≡ true) (cond b (x ∷ filter test xs) (filter test xs))
          → map says (filter of (filter_map find_one (cond c (x ∷ filter among xs) (filter among xs)))) ≡ filter_map view (cond b (x ∷ filter test xs) (filter test xs))
      by later true e true f all =
          let here = seen x f in
          let kept : of here.one ≡ true = here.agrees ∙ e in
          ap (λ (found : Option D). map says (filter of (cons_option found (ones xs)))) here.is_one
          ∙ ap (λ (b : Bool). map says (cond b (here.one ∷ filter of (ones xs)) (filter of (ones xs)))) kept
          ∙ ap (λ (others : List V). says here.one ∷ others) (later all.1)
          ∙ sym (ap (λ (found : Option V). cons_option found (filter_map view (filter test xs))) here.is_seen)
      by later true e false f all = let impossible : true ≡ false = sym all.0 ∙ f in absurd cc
      by later false e true f all =
          let here = seen x f in
          let left : of here.one ≡ false = here.agrees ∙ e in
          ap (λ (found : Option D). map says (filter of (cons_option found (ones xs)))) here.is_one
          ∙ ap (λ (b : Bool). map says (cond b (here.one ∷ filter of (ones xs)) (filter of (ones xs)))) left
          ∙ later all
      by later false e false f all = later all

-- ---- slots

module _ (slots : List Shown) (guid : List ℕ) where
  -- A slot that shows a group has a number.
  pub number_of : (slot : ℕ) → shows_group guid (slot_at slots slot) ≡ true → slice_get (numbers slots) slot ≡ Some slot
  number_of slot h = by (slice_get slots slot) refl h
    where
      by : (found : Option Shown) → slice_get slots slot ≡ found → shows_group guid (unwrap_or found Nothing) ≡ true → slice_get (numbers slots) slot ≡ Some slot
      by None e h = absurd cc
      by (Some shown) e h =
          let got = get_range 0 (length slots) slot (place_within slots slot shown e) in
          got.2 ∙ ap (λ (n : ℕ). Some n) (got.1 ∙ zero-add slot)

  -- No slot that shows the group is later than one that leads.
  pub none_above : (sequence : ℕ) → none_later slots guid sequence ≡ true → (slot : ℕ) → shows_group guid (slot_at slots slot) ≡ true
      → sequence_in (slot_at slots slot) ≤ sequence
  none_above sequence none slot h =
      let here = list_all_read (λ (one : ℕ). not (shows_group guid (slot_at slots one)) || nat_le (sequence_in (slot_at slots one)) sequence) (numbers slots) slot slot none (number_of slot h) in
      leb-true (sequence_in (slot_at slots slot)) sequence (sym (ap (λ (b : Bool). not b || nat_le (sequence_in (slot_at slots slot)) sequence) h) ∙ here)

  -- What a leader has.
  pub leader_parts : (slot : ℕ) → leads slots guid slot ≡ true → (shows_group guid (slot_at slots slot) ≡ true) × (none_later slots guid (sequence_in (slot_at slots slot)) ≡ true)
  leader_parts slot h = and_parts (shows_group guid (slot_at slots slot)) (none_later slots guid (sequence_in (slot_at slots slot))) h

  -- Two leaders are of one sequence number.
  pub lead_alike : (one other : ℕ) → leads slots guid one ≡ true → leads slots guid other ≡ true → sequence_in (slot_at slots one) ≡ sequence_in (slot_at slots other)
  lead_alike one other first second =
      let mine = leader_parts one first in
      let theirs = leader_parts other second in
      let below = none_above (sequence_in (slot_at slots one)) mine.1 other theirs.0 in
      let above = none_above (sequence_in (slot_at slots other)) theirs.1 one mine.0 in
      omega (arith, below, above)

  -- Some slot leads, and is of the group's sequence number.
  pub record HasFirst : Type 0 where
    pub first : ℕ
    pub leading : leads slots guid first ≡ true
    pub sequence_is : sequence_of slots guid ≡ sequence_in (slot_at slots first)

  -- Where a slot is claimed, one leads.
  pub has_first : (slot : ℕ) → claims slots guid slot ≡ true → HasFirst
  unfolding leading_view
  has_first slot h = by (find (leads slots guid) (numbers slots)) refl h
    where
      by : (found : Option ℕ) → find (leads slots guid) (numbers slots) ≡ found → claims_by (option_and_then (λ one. view_in (slot_at slots one)) found) (slot_at slots slot) ≡ true → HasFirst
      by None e h = absurd cc
      by (Some first) e h = record {
        first = first;
        leading = (found_place (leads slots guid) (numbers slots) first e).2;
        sequence_is = ap (λ (found : Option ℕ). option_map_or (λ one. sequence_in (slot_at slots one)) found 0) e;
      }

  view_claimed : (leader : Option View) (shown : Shown) → claims_by leader shown ≡ true → (view : View) × (view_in shown ≡ Some view)
  view_claimed None shown h = absurd cc
  view_claimed (Some leader) Nothing h = absurd cc
  view_claimed (Some leader) (One view) h = (view, refl)
  view_claimed (Some leader) (Level view) h = (view, refl)
  view_claimed (Some leader) (TwoDiffer primary secondary) h = (primary, refl)

  -- A slot that is claimed shows something.
  pub claimed_view : (slot : ℕ) → claims slots guid slot ≡ true → (view : View) × (view_in (slot_at slots slot) ≡ Some view)
  claimed_view slot h = view_claimed (leading_view slots guid) (slot_at slots slot) h

-- The first view that lists its own disk decides which group is shown.
first_shows : (guid : List ℕ) (view : View) (rest : List View) → lists_itself view ≡ true → bytes_eq guid view.group ≡ true
    → option_map_or (bytes_eq guid) (option_map (λ (one : View). one.group) (find lists_itself (view ∷ rest))) false ≡ true
first_shows guid view rest listed same =
    ap (λ (found : Option View). option_map_or (bytes_eq guid) (option_map (λ (one : View). one.group) found) false) (cond-true (lists_itself view) (Some view) (find lists_itself rest) listed) ∙ same

-- A slot whose view lists its own disk shows the view's group.
pub shows_by : (guid : List ℕ) (shown : Shown) (view : View) → view_in shown ≡ Some view → lists_itself view ≡ true → bytes_eq guid view.group ≡ true → shows_group guid shown ≡ true
shows_by guid Nothing view is listed same = absurd cc
shows_by guid (One own) view is listed same = let e : own ≡ view = cc in subst (λ (v : View). shows_group guid (One v) ≡ true) (sym e) (first_shows guid view [] listed same)
shows_by guid (Level own) view is listed same = let e : own ≡ view = cc in subst (λ (v : View). shows_group guid (Level v) ≡ true) (sym e) (first_shows guid view [] listed same)
shows_by guid (TwoDiffer own other) view is listed same =
    let e : own ≡ view = cc in subst (λ (v : View). shows_group guid (TwoDiffer v other) ≡ true) (sym e) (first_shows guid view (other ∷ []) listed same)

module _ (slots : List Shown) (named : AreNamed slots) (guid : List ℕ) (none : contradiction slots guid ≡ None) where
  -- No leader has two copies that differ.
  pub alone : (slot : ℕ) → leads slots guid slot ≡ true → has_two (slot_at slots slot) ≡ false
  alone slot h =
      let found = none_from_map (λ one. in_conflict slots guid one one differs.Copies) (find (leads_with_two slots guid) (numbers slots)) (parts slots named guid none).0 in
      let both = none_found (leads_with_two slots guid) (numbers slots) found slot slot (number_of slots guid slot (leader_parts slots guid slot h).0) in
      sym (and-true (has_two (slot_at slots slot))) ∙ ap (λ (b : Bool). has_two (slot_at slots slot) && b) (sym h) ∙ both

  -- A leader shows the group by one view.
  pub leader_view : (slot : ℕ) → leads slots guid slot ≡ true → HasView guid (slot_at slots slot)
  leader_view slot h = has_view guid (slot_at slots slot) (leader_parts slots guid slot h).0 (alone slot h)
