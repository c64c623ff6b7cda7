-- The group that is meant is still meant after a step: what each slot shows, and which groups absorb others, is as it was.
use Rattle.std.proofs.Common.{◌≡◌, ℕ, zero, suc, ◌<◌, Bool, true, false, not, ◌&&◌, ◌||◌, nat_le, List, [], ◌∷◌, length, Option, Some, None, Ok, Err, refl, ap, sym, ◌∙◌, arith, zero-add, if◌then◌else◌}
use Rattle.std.proofs.Math.Path.{fun_ext}
use Rattle.std.proofs.lemmas.Bool.{and_parts, false≢true}
use Rattle.std.specs.Prelude.{find, slice_get}
use Rattle.std.specs.List.{list_all, list_any, range_with_len}
use Rattle.std.specs.Option.{option_and_then, option_map_or}
use Rattle.std.specs.Str.{bytes_eq}
use Rattle.ddf_lemmas.proofs.Lists.{bytes_same, found_place, list_all_from, list_all_read}
use Rattle.ddf_view.specs.View.{View}
use Rattle.ddf_view.proofs.Tests.{same_bytes}
use Rattle.ddf_group.specs.declared.shown.Shown.{Shown}
use Rattle.ddf_group.specs.declared.answer.Assembly.TheVariants.{NoGroup}
use Rattle.ddf_group.specs.Choice.{absorbs, absorbs_at, chosen, claims_all, claims_none, first_free, group_at, is_absorbed, only_group, other_free, shows_free, unless_other}
use Rattle.ddf_group.specs.Slots.{claims, claims_by, group_shown, leading_view, leads, none_later, numbers, sequence_in, shows_group, slot_at, view_in}
use Rattle.ddf_rewrite.proofs.Lists.{get_range}

-- Slots that show the same groups before and after: those that differ show one group, and each has the same disk. The slots that this group
-- claims show it, before and after, and it claims one.
pub record ShowAlike (guid : List ℕ) (slots after : List Shown) : Type 0 where
  pub same_length : length after ≡ length slots
  pub same_group : (slot : ℕ) → group_shown (slot_at after slot) ≡ group_shown (slot_at slots slot)
  pub same_else : (slot : ℕ) (group : List ℕ) → bytes_eq group guid ≡ false → shows_group group (slot_at slots slot) ≡ true → slot_at after slot ≡ slot_at slots slot
  pub same_claim : (slot : ℕ) (leader : Option View) → claims_by leader (slot_at after slot) ≡ claims_by leader (slot_at slots slot)
  pub claims_own : (slot : ℕ) → claims slots guid slot ≡ true → group_shown (slot_at slots slot) ≡ Some guid
  pub claims_own_after : (slot : ℕ) → claims after guid slot ≡ true → group_shown (slot_at slots slot) ≡ Some guid
  pub one : ℕ
  pub is_there : one < length slots
  pub is_claimed : claims slots guid one ≡ true
  pub is_claimed_after : claims after guid one ≡ true

-- A slot that shows a group is one of the slots.
pub within : (all : List Shown) (n : ℕ) (group : List ℕ) → group_shown (slot_at all n) ≡ Some group → n < length all
within [] n group e = absurd cc
within (shown ∷ all) zero group e = omega arith
within (shown ∷ all) (suc n) group e = let below = within all n group e in omega (arith, below)

module _ (guid : List ℕ) (slots after : List Shown) (alike : ShowAlike guid slots after) where
  same_numbers : numbers after ≡ numbers slots
  same_numbers = ap (range_with_len 0) alike.same_length

  same_shows : (group : List ℕ) (slot : ℕ) → shows_group group (slot_at after slot) ≡ shows_group group (slot_at slots slot)
  same_shows group slot = ap (λ (found : Option (List ℕ)). option_map_or (bytes_eq group) found false) (alike.same_group slot)

  -- What a list of slots says, by tests that are the same.
  same_all : (test other : ℕ → Bool) → ((slot : ℕ) → test slot ≡ other slot) → list_all test (numbers after) ≡ list_all other (numbers slots)
  same_all test other same = ap (list_all test) same_numbers ∙ ap (λ (t : ℕ → Bool). list_all t (numbers slots)) (fun_ext same)

  same_any : (test other : ℕ → Bool) → ((slot : ℕ) → test slot ≡ other slot) → list_any test (numbers after) ≡ list_any other (numbers slots)
  same_any test other same = ap (list_any test) same_numbers ∙ ap (λ (t : ℕ → Bool). list_any t (numbers slots)) (fun_ext same)

  same_find : (test other : ℕ → Bool) → ((slot : ℕ) → test slot ≡ other slot) → find test (numbers after) ≡ find other (numbers slots)
  same_find test other same = ap (find test) same_numbers ∙ ap (λ (t : ℕ → Bool). find t (numbers slots)) (fun_ext same)

  -- ---- another group

  module _ (group : List ℕ) (differs : bytes_eq group guid ≡ false) where
    same_later : (number : ℕ) → none_later after group number ≡ none_later slots group number
    same_later number =
        same_all (λ slot. not (shows_group group (slot_at after slot)) || nat_le (sequence_in (slot_at after slot)) number)
        (λ slot. not (shows_group group (slot_at slots slot)) || nat_le (sequence_in (slot_at slots slot)) number)
        (λ slot. ap (λ b. not b || nat_le (sequence_in (slot_at after slot)) number) (same_shows group slot) ∙ by slot (shows_group group (slot_at slots slot)) (alike.same_else slot group differs))
      where
        by : (slot : ℕ) (b : Bool) → (b ≡ true → slot_at after slot ≡ slot_at slots slot) → (not b || nat_le (sequence_in (slot_at after slot)) number) ≡ (not b || nat_le (sequence_in (slot_at slots slot)) number)
        by slot true same = ap (λ (shown : Shown). nat_le (sequence_in shown) number) (same refl)
        by slot false same = refl

    same_leads : (slot : ℕ) → leads after group slot ≡ leads slots group slot
    same_leads slot =
        ap (λ b. b && none_later after group (sequence_in (slot_at after slot))) (same_shows group slot)
        ∙ by (shows_group group (slot_at slots slot)) (alike.same_else slot group differs)
      where
        by : (b : Bool) → (b ≡ true → slot_at after slot ≡ slot_at slots slot) → (b && none_later after group (sequence_in (slot_at after slot))) ≡ (b && none_later slots group (sequence_in (slot_at slots slot)))
        by true same = same_later (sequence_in (slot_at after slot)) ∙ ap (λ (shown : Shown). none_later slots group (sequence_in shown)) (same refl)
        by false same = refl

    same_leader : leading_view after group ≡ leading_view slots group
    unfolding leading_view
    same_leader =
        ap (λ (found : Option ℕ). option_and_then (λ slot. view_in (slot_at after slot)) found) (same_find (leads after group) (leads slots group) same_leads)
        ∙ by (find (leads slots group) (numbers slots)) refl
      where
        by : (found : Option ℕ) → find (leads slots group) (numbers slots) ≡ found → option_and_then (λ slot. view_in (slot_at after slot)) found ≡ option_and_then (λ slot. view_in (slot_at slots slot)) found
        by None e = refl
        by (Some slot) e =
            let leading = (found_place (leads slots group) (numbers slots) slot e).2 in
            let shown = (and_parts (shows_group group (slot_at slots slot)) (none_later slots group (sequence_in (slot_at slots slot))) leading).0 in
            ap view_in (alike.same_else slot group differs shown)

    same_claims : (slot : ℕ) → claims after group slot ≡ claims slots group slot
    same_claims slot = ap (λ (led : Option View). claims_by led (slot_at after slot)) same_leader ∙ alike.same_claim slot (leading_view slots group)

  -- ---- this group

  -- A slot that it claims doesn't show another group.
  not_other : (group : List ℕ) → bytes_eq group guid ≡ false → (slot : ℕ) → group_shown (slot_at slots slot) ≡ Some guid → shows_group group (slot_at slots slot) ≡ false
  not_other group differs slot shown = ap (λ (found : Option (List ℕ)). option_map_or (bytes_eq group) found false) shown ∙ differs

  no_claims : (list : List Shown) (group : List ℕ) → bytes_eq group guid ≡ false → ((slot : ℕ) → shows_group group (slot_at list slot) ≡ shows_group group (slot_at slots slot))
      → ((slot : ℕ) → claims list guid slot ≡ true → group_shown (slot_at slots slot) ≡ Some guid) → claims_none list guid group ≡ true
  no_claims list group differs same own =
      list_all_from (λ slot. not (shows_group group (slot_at list slot) && claims list guid slot)) (numbers list)
      (λ i slot at. ap (λ b. not (b && claims list guid slot)) (same slot) ∙ by slot (claims list guid slot) (own slot))
    where
      by : (slot : ℕ) (b : Bool) → (b ≡ true → group_shown (slot_at slots slot) ≡ Some guid) → not (shows_group group (slot_at slots slot) && b) ≡ true
      by slot true shown = ap (λ b. not (b && true)) (not_other group differs slot (shown refl))
      by slot false shown = or_no (shows_group group (slot_at slots slot))
        where
          or_no : (b : Bool) → not (b && false) ≡ true
          or_no true = refl
          or_no false = refl

  number_at : (list : List Shown) (slot : ℕ) → slot < length list → slice_get (numbers list) slot ≡ Some slot
  number_at list slot below = let there = get_range 0 (length list) slot below in there.2 ∙ ap (λ (n : ℕ). Some n) (there.1 ∙ zero-add slot)

  -- It doesn't claim all slots of another group that is shown.
  not_all : (list : List Shown) (group : List ℕ) → bytes_eq group guid ≡ false → (slot : ℕ) → slot < length list → shows_group group (slot_at list slot) ≡ true → shows_group group (slot_at slots slot) ≡ true
      → ((n : ℕ) → claims list guid n ≡ true → group_shown (slot_at slots n) ≡ Some guid) → claims_all list guid group ≡ false
  not_all list group differs slot below shown shown_before own = by (claims_all list guid group) refl
    where
      by : (b : Bool) → claims_all list guid group ≡ b → b ≡ false
      by false e = refl
      by true e =
          let passes = list_all_read (λ n. not (shows_group group (slot_at list n)) || claims list guid n) (numbers list) slot slot e (number_at list slot below) in
          let claim : claims list guid slot ≡ true = sym (ap (λ b. not b || claims list guid slot) shown) ∙ passes in
          absurd (false≢true (sym (not_other group differs slot (own slot claim)) ∙ shown_before))

  -- It claims a slot that shows it.
  claims_some : (list : List Shown) (slot : ℕ) → slot < length list → shows_group guid (slot_at list slot) ≡ true → claims list guid slot ≡ true → claims_none list guid guid ≡ false
  claims_some list slot below shown claim = by (claims_none list guid guid) refl
    where
      by : (b : Bool) → claims_none list guid guid ≡ b → b ≡ false
      by false e = refl
      by true e =
          let passes = list_all_read (λ n. not (shows_group guid (slot_at list n) && claims list guid n)) (numbers list) slot slot e (number_at list slot below) in
          absurd (false≢true (sym (ap (λ b. not (b && claims list guid slot)) shown ∙ ap (λ b. not b) claim) ∙ passes))

  -- ---- which group absorbs which

  own_shown : shows_group guid (slot_at slots alike.one) ≡ true
  own_shown = ap (λ (found : Option (List ℕ)). option_map_or (bytes_eq guid) found false) (alike.claims_own alike.one alike.is_claimed) ∙ bytes_same guid

  same_absorbs : (group other : List ℕ) (slot : ℕ) → slot < length slots → shows_group other (slot_at slots slot) ≡ true → absorbs after group other ≡ absorbs slots group other
  same_absorbs group other slot below shown = by (bytes_eq group guid) refl (bytes_eq other guid) refl
    where
      below_after : (n : ℕ) → n < length slots → n < length after
      below_after n low = let long = alike.same_length in omega (arith, low, long)

      no_and : (a : Bool) → (a && false) ≡ false
      no_and true = refl
      no_and false = refl

      itself : claims_none after guid guid ≡ claims_none slots guid guid
      itself =
          claims_some after alike.one (below_after alike.one alike.is_there) (same_shows guid alike.one ∙ own_shown) alike.is_claimed_after
          ∙ sym (claims_some slots alike.one alike.is_there own_shown alike.is_claimed)

      both_own : group ≡ guid → other ≡ guid → absorbs after group other ≡ absorbs slots group other
      both_own is its =
          let one : claims_none after other group ≡ false = ap (λ (g : List ℕ). claims_none after g group) its ∙ ap (claims_none after guid) is ∙ claims_some after alike.one (below_after alike.one alike.is_there) (same_shows guid alike.one ∙ own_shown) alike.is_claimed_after in
          let two : claims_none slots other group ≡ false = ap (λ (g : List ℕ). claims_none slots g group) its ∙ ap (claims_none slots guid) is ∙ claims_some slots alike.one alike.is_there own_shown alike.is_claimed in
          ap (λ b. b && claims_all after group other) one ∙ sym (ap (λ b. b && claims_all slots group other) two)

      absorbing : group ≡ guid → bytes_eq other guid ≡ false → absorbs after group other ≡ absorbs slots group other
      absorbing is differs =
          let one : claims_all after group other ≡ false = ap (λ (g : List ℕ). claims_all after g other) is ∙ not_all after other differs slot (below_after slot below) (same_shows other slot ∙ shown) shown alike.claims_own_after in
          let two : claims_all slots group other ≡ false = ap (λ (g : List ℕ). claims_all slots g other) is ∙ not_all slots other differs slot below shown shown alike.claims_own in
          ap (λ b. claims_none after other group && b) one ∙ no_and (claims_none after other group)
          ∙ sym (ap (λ b. claims_none slots other group && b) two ∙ no_and (claims_none slots other group))

      same_claims_all : bytes_eq group guid ≡ false → claims_all after group other ≡ claims_all slots group other
      same_claims_all differs =
          same_all (λ n. not (shows_group other (slot_at after n)) || claims after group n) (λ n. not (shows_group other (slot_at slots n)) || claims slots group n)
          (λ n. ap (λ b. not b || claims after group n) (same_shows other n) ∙ ap (λ b. not (shows_group other (slot_at slots n)) || b) (same_claims group differs n))

      absorbed : bytes_eq group guid ≡ false → other ≡ guid → absorbs after group other ≡ absorbs slots group other
      absorbed differs its =
          let one : claims_none after other group ≡ true = ap (λ (g : List ℕ). claims_none after g group) its ∙ no_claims after group differs (same_shows group) alike.claims_own_after in
          let two : claims_none slots other group ≡ true = ap (λ (g : List ℕ). claims_none slots g group) its ∙ no_claims slots group differs (λ n. refl) alike.claims_own in
          ap (λ b. b && claims_all after group other) one ∙ same_claims_all differs ∙ sym (ap (λ b. b && claims_all slots group other) two)

      apart : bytes_eq group guid ≡ false → bytes_eq other guid ≡ false → absorbs after group other ≡ absorbs slots group other
      apart differs also =
          let one : claims_none after other group ≡ claims_none slots other group =
          same_all (λ n. not (shows_group group (slot_at after n) && claims after other n)) (λ n. not (shows_group group (slot_at slots n) && claims slots other n))
          (λ n. ap (λ b. not (b && claims after other n)) (same_shows group n) ∙ ap (λ b. not (shows_group group (slot_at slots n) && b)) (same_claims other also n)) in
          ap (λ b. b && claims_all after group other) one ∙ ap (λ b. claims_none slots other group && b) (same_claims_all differs)

      by : (a : Bool) → bytes_eq group guid ≡ a → (b : Bool) → bytes_eq other guid ≡ b → absorbs after group other ≡ absorbs slots group other
      by true e true f = both_own (same_bytes group guid e) (same_bytes other guid f)
      by true e false f = absorbing (same_bytes group guid e) f
      by false e true f = absorbed e (same_bytes other guid f)
      by false e false f = apart e f

  same_absorbed : (group : List ℕ) (slot : ℕ) → slot < length slots → shows_group group (slot_at slots slot) ≡ true → is_absorbed after group ≡ is_absorbed slots group
  same_absorbed group slot below shown =
      same_any (absorbs_at after group) (absorbs_at slots group)
      (λ n. ap (λ (found : Option (List ℕ)). option_map_or (λ one. absorbs after one group) found false) (alike.same_group n) ∙ by (group_shown (slot_at slots n)))
    where
      by : (found : Option (List ℕ)) → option_map_or (λ one. absorbs after one group) found false ≡ option_map_or (λ one. absorbs slots one group) found false
      by None = refl
      by (Some one) = same_absorbs one group slot below shown

  same_free : (slot : ℕ) → shows_free after slot ≡ shows_free slots slot
  same_free slot =
      ap (λ (found : Option (List ℕ)). option_map_or (λ group. not (is_absorbed after group)) found false) (alike.same_group slot)
      ∙ by (group_shown (slot_at slots slot)) refl
    where
      by : (found : Option (List ℕ)) → group_shown (slot_at slots slot) ≡ found → option_map_or (λ group. not (is_absorbed after group)) found false ≡ option_map_or (λ group. not (is_absorbed slots group)) found false
      by None e = refl
      by (Some group) e =
          let shown : shows_group group (slot_at slots slot) ≡ true = ap (λ (found : Option (List ℕ)). option_map_or (bytes_eq group) found false) e ∙ bytes_same group in
          ap not (same_absorbed group slot (within slots slot group e) shown)

  same_other : (group : List ℕ) → other_free after group ≡ other_free slots group
  unfolding other_free
  same_other group =
      same_find (λ slot. not (shows_group group (slot_at after slot)) && shows_free after slot) (λ slot. not (shows_group group (slot_at slots slot)) && shows_free slots slot)
      (λ slot. ap (λ b. not b && shows_free after slot) (same_shows group slot) ∙ ap (λ b. not (shows_group group (slot_at slots slot)) && b) (same_free slot))

  same_only : (found : Option ℕ) → only_group after found ≡ only_group slots found
  same_only None = refl
  same_only (Some slot) = ap (group_at after slot) (alike.same_group slot) ∙ by (group_shown (slot_at slots slot))
    where
      by : (group : Option (List ℕ)) → group_at after slot group ≡ group_at slots slot group
      by None = refl
      by (Some group) = ap (unless_other slot group) (same_other group)

  same_first : first_free after ≡ first_free slots
  unfolding first_free
  same_first = same_find (shows_free after) (shows_free slots) same_free

  -- The group that is meant is the same.
  pub same_chosen : (named : Option (List ℕ)) → chosen after named ≡ chosen slots named
  unfolding chosen
  same_chosen None = ap (only_group after) same_first ∙ same_only (first_free slots)
  same_chosen (Some group) =
      ap (λ (b : Bool). if b then Ok group else Err NoGroup)
      (same_any (λ slot. shows_group group (slot_at after slot)) (λ slot. shows_group group (slot_at slots slot)) (same_shows group))
