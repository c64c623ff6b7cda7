-- The leaders of a group that nothing contradicts are among the slots that it claims.
use Rattle.std.proofs.Common.{◌≡◌, ℕ, Bool, true, false, List, [], ◌∷◌, Option, Some, None, refl, ap, sym, ◌∙◌, subst}
use Rattle.std.proofs.lemmas.Bool.{and_parts, false≢true, cond-false, cond-true}
use Rattle.std.specs.Prelude.{IfSome, find, option_map}
use Rattle.std.specs.List.{AllByRecursion}
use Rattle.std.specs.Option.{option_and_then, option_map_or}
use Rattle.std.specs.Str.{bytes_eq}
use Rattle.ddf_lemmas.proofs.Options.{none_from_map}
use Rattle.ddf_bytes.proofs.Nones.{none_first}
use Rattle.ddf_view.specs.Differ.{difference}
use Rattle.ddf_view.specs.Readable.{DoNamesDiffer}
use Rattle.ddf_view.specs.View.{View, lists_current, lists_itself}
use Rattle.ddf_group.specs.declared.shown.Shown.{Shown}
use Rattle.ddf_group.specs.declared.shown.Shown.TheVariants.{Nothing, One, Level, TwoDiffer}
use Rattle.ddf_group.specs.declared.answer.Assembly.{Assembly}
use Rattle.ddf_group.specs.declared.answer.Differ.TheVariants as differs
use Rattle.ddf_group.specs.Slots.{claims, claims_by, leaders, leading_view, leads, none_later, numbers, sequence_in, shows_group, slot_at, view_in}
use Rattle.ddf_group.specs.Conflicts.{contradiction, differ_at, differ_of, difference_of, differing, has_two, in_conflict, leads_with_two, split_in, twins, two_copies}
use Rattle.ddf_group.specs.Pairs.{first_pair}
use Rattle.ddf_group.specs.Names.{AreNamed, IsNamed}
use Rattle.ddf_group.proofs.Named.{named_at}
use Rattle.ddf_assembly.proofs.SettledDisks.{current_in_both}
use Rattle.ddf_assembly.proofs.SettledLists.{all_kept, find_kept, find_none, none_pair}

-- ---- a leader

-- A slot shows a group by one view, which lists its own disk.
pub record HasView (group : List ℕ) (shown : Shown) : Type 0 where
  pub view : View
  pub is_shown : view_in shown ≡ Some view
  pub is_listed : lists_itself view ≡ true
  pub in_group : bytes_eq group view.group ≡ true

-- The one view of a slot that shows a group lists its own disk, and is of the group.
one_view : (group : List ℕ) (view : View) → option_map_or (bytes_eq group) (option_map (λ (one : View). one.group) (find lists_itself (view ∷ []))) false ≡ true
    → (lists_itself view ≡ true) × (bytes_eq group view.group ≡ true)
one_view group view h = by (lists_itself view) refl
  where
    by : (b : Bool) → lists_itself view ≡ b → (lists_itself view ≡ true) × (bytes_eq group view.group ≡ true)
    by true e =
        let found : find lists_itself (view ∷ []) ≡ Some view = cond-true (lists_itself view) (Some view) None e in
        (e, rw found at h)
    by false e =
        let none : find lists_itself (view ∷ []) ≡ None = cond-false (lists_itself view) (Some view) None e in
        let not_shown : option_map_or (bytes_eq group) (option_map (λ (one : View). one.group) (find lists_itself (view ∷ []))) false ≡ false = rw none refl in
        absurd (false≢true (sym not_shown ∙ h))

-- A slot that shows a group, and no two views that differ, has one view.
pub has_view : (group : List ℕ) (shown : Shown) → shows_group group shown ≡ true → has_two shown ≡ false → HasView group shown
has_view group Nothing h alone = absurd cc
has_view group (One view) h alone = record { view = view; is_shown = refl; is_listed = (one_view group view h).0; in_group = (one_view group view h).1 }
has_view group (Level view) h alone = record { view = view; is_shown = refl; is_listed = (one_view group view h).0; in_group = (one_view group view h).1 }
has_view group (TwoDiffer primary secondary) h alone = absurd cc

module _ (slots : List Shown) (named : AreNamed slots) (group : List ℕ) (none : contradiction slots group ≡ None) where
  -- Each of these slots has one view.
  abbrev AreLeading : List ℕ → Type 0
  AreLeading leading = AllByRecursion (λ slot. HasView group (slot_at slots slot)) leading

  -- Each of these slots is claimed.
  abbrev AreClaimed : List ℕ → Type 0
  AreClaimed leading = AllByRecursion (λ slot. claims slots group slot ≡ true) leading

  -- None of the four contradicts the group.
  pub parts : AllByRecursion (λ (found : Option Assembly). found ≡ None) (two_copies slots group ∷ twins slots group ∷ differing slots group ∷ split_in slots group ∷ [])
  unfolding contradiction
  parts = none_first (two_copies slots group ∷ twins slots group ∷ differing slots group ∷ split_in slots group ∷ []) none

  -- Each leader has one view.
  pub have_views : AreLeading (leaders slots group)
  unfolding leaders
  have_views =
      all_kept (λ slot. HasView group (slot_at slots slot)) (leads slots group) (λ slot. has_two (slot_at slots slot)) (numbers slots)
      (λ slot is alone. has_view group (slot_at slots slot) (and_parts (shows_group group (slot_at slots slot)) (none_later slots group (sequence_in (slot_at slots slot))) is).0 alone)
      (none_from_map (λ slot. in_conflict slots group slot slot differs.Copies) (find (leads_with_two slots group) (numbers slots)) parts.0)

  -- The lowest leader gives the leading view.
  pub lowest_leads : (first : ℕ) (rest : List ℕ) → leaders slots group ≡ first ∷ rest → leading_view slots group ≡ view_in (slot_at slots first)
  unfolding leaders leading_view
  lowest_leads first rest e = ap (λ (found : Option ℕ). option_and_then (λ slot. view_in (slot_at slots slot)) found) (find_kept (leads slots group) (numbers slots) first rest e)

  -- Without a leader no slot is claimed.
  pub none_claimed : leaders slots group ≡ [] → (slot : ℕ) → claims slots group slot ≡ false
  unfolding leaders leading_view
  none_claimed e slot =
      let no_view : leading_view slots group ≡ None = ap (λ (found : Option ℕ). option_and_then (λ one. view_in (slot_at slots one)) found) (find_none (leads slots group) (numbers slots) e) in
      ap (λ (leader : Option View). claims_by leader (slot_at slots slot)) no_view

  -- A slot whose view doesn't differ from the leading one is claimed.
  claimed_by : (lowest : View) → leading_view slots group ≡ Some lowest → (slot : ℕ) (has : HasView group (slot_at slots slot))
      → lists_current lowest has.view.guid has.view.reference ≡ true → claims slots group slot ≡ true
  claimed_by lowest led slot has listed = rw (led, has.is_shown) listed

  -- Two leaders don't differ.
  no_difference : (first slot : ℕ) (one : HasView group (slot_at slots first)) (other : HasView group (slot_at slots slot))
      → differ_at slots group first slot ≡ None → difference one.view other.view ≡ None
  no_difference first slot one other h =
      let same : difference_of (view_in (slot_at slots first)) (view_in (slot_at slots slot)) ≡ difference one.view other.view = rw (one.is_shown, other.is_shown) refl in
      sym same ∙ none_from_map (λ found. in_conflict slots group first slot (differ_of found)) (difference_of (view_in (slot_at slots first)) (view_in (slot_at slots slot))) h

  -- Those behind the lowest leader are claimed.
  rest_claimed : (first : ℕ) (one : HasView group (slot_at slots first)) → leading_view slots group ≡ Some one.view
      → (rest : List ℕ) → AreLeading rest → AllByRecursion (λ slot. differ_at slots group first slot ≡ None) rest → AreClaimed rest
  rest_claimed first one led [] views same = tt
  rest_claimed first one led (slot ∷ rest) views same =
      let other = views.0 in
      let names : IsNamed (slot_at slots slot) = named_at slots named slot in
      let apart : DoNamesDiffer (other.view ∷ []) = subst (λ (found : Option View). IfSome found (λ view. DoNamesDiffer (view ∷ []))) other.is_shown names in
      let listed = current_in_both one.view other.view apart.references (no_difference first slot one other same.0) other.view.guid other.view.reference other.is_listed in
      (claimed_by one.view led slot other listed, rest_claimed first one led rest views.1 same.1)

  -- Each leader is claimed.
  pub leaders_claimed : AreClaimed (leaders slots group)
  leaders_claimed = by (leaders slots group) refl
    where
      by : (leading : List ℕ) → leaders slots group ≡ leading → AreClaimed leading
      by [] e = tt
      by (first ∷ rest) e =
          let views : AreLeading (first ∷ rest) = subst AreLeading e have_views in
          let led : leading_view slots group ≡ Some views.0.view = lowest_leads first rest e ∙ views.0.is_shown in
          let no_pair : first_pair (differ_at slots group) (first ∷ rest) ≡ None = subst (λ (leading : List ℕ). first_pair (differ_at slots group) leading ≡ None) e parts.1.1.0 in
          let lowest = claimed_by views.0.view led first views.0 views.0.is_listed in
          let others = rest_claimed first views.0 led rest views.1 (none_pair (differ_at slots group) first rest no_pair) in
          (lowest, others)
