-- Which slots show a group, lead it and are claimed by it, as assembly finds them and as histories tell of them.
use Rattle.std.proofs.Common.{◌≡◌, ℕ, zero, suc, ◌<◌, ◌≤◌, Bool, true, false, not, ◌||◌, List, [], ◌∷◌, length, Option, Some, None, refl, ap, sym, ◌∙◌, inl, inr, arith}
use Rattle.std.proofs.lemmas.Bool.{cases_lt, and_from, and_parts, false≢true, le-leb, leb-true, or_left, or_right}
use Rattle.std.proofs.lemmas.Option.{slice_get_past}
use Rattle.std.specs.Prelude.{find, nat_le, unwrap_or}
use Rattle.std.specs.List.{AllByRecursion}
use Rattle.std.specs.Option.{option_and_then, option_map_or}
use Rattle.std.specs.Str.{bytes_eq}
use Rattle.ddf_view.specs.View.{View, lists_itself}
use Rattle.ddf_group.specs.declared.shown.Shown.{Shown as GroupShown}
use Rattle.ddf_group.specs.declared.shown.Shown.TheVariants as shown
use Rattle.ddf_group.specs.Slots.{claims, claims_by, leading_view, leads, lists_disk_of, none_later, numbers, sequence_in, shows_group, slot_at, view_in}
use Rattle.ddf_history.specs.Reading.{Scene, IsCopyOf, IsFirstOf, stands}
use Rattle.ddf_history.specs.Answer.{IsClaimed, IsLeader, IsLowest}
use Rattle.ddf_history.specs.Answered.{AreOfOneGroup, IsOfOneGroup}
use Rattle.ddf_history.specs.Groups.{groups}
use Rattle.ddf_history.specs.Scenes.{scene_in, told_of}
use Rattle.ddf_history.proofs.AnsweredLists.{all_below, each_below, found_below, found_first, found_passes}

-- ---- one slot

-- What holds of each slot holds of the one with a number, and of nothing past the last.
pub at_slot : (P : GroupShown → Type 0) → P shown.Nothing → (slots : List GroupShown) → AllByRecursion P slots → (slot : ℕ) → P (slot_at slots slot)
at_slot P none [] all slot = none
at_slot P none (first ∷ slots) all zero = all.0
at_slot P none (first ∷ slots) all (suc slot) = at_slot P none slots all.1 slot

-- Past the last slot there is nothing.
pub nothing_past : (slots : List GroupShown) (slot : ℕ) → length slots ≤ slot → slot_at slots slot ≡ shown.Nothing
nothing_past slots slot past = ap (λ (o : Option GroupShown). unwrap_or o shown.Nothing) (slice_get_past slots slot past)

-- A slot that shows a copy is one of the slots.
pub copy_within : (slots : List GroupShown) (slot : ℕ) (copy : View) → IsCopyOf (scene_in slots slot) copy → slot < length slots
copy_within slots slot copy is = elim (cases_lt slot (length slots)) [
  | inl less ↦ less
  | inr past ↦ absurd (rw (nothing_past slots slot past) at is)
]

-- The copy that stands for a slot is the first.
pub first_is_view : (one : GroupShown) (copy : View) → IsFirstOf (told_of one) copy → view_in one ≡ Some copy
first_is_view shown.Nothing copy is = absurd is
first_is_view (shown.One view) copy is = ap Some (sym is)
first_is_view (shown.Level view) copy is = ap Some (sym is)
first_is_view (shown.TwoDiffer primary secondary) copy is = ap Some (sym is)

-- The first copy stands for the slot.
pub view_is_first : (one : GroupShown) (copy : View) → view_in one ≡ Some copy → IsFirstOf (told_of one) copy
view_is_first shown.Nothing copy is = absurd cc
view_is_first (shown.One view) copy is = cc
view_is_first (shown.Level view) copy is = cc
view_is_first (shown.TwoDiffer primary secondary) copy is = cc

-- All copies of a slot have the sequence of the one that stands for it.
pub same_sequence : (one : GroupShown) (copy : View) → IsOfOneGroup one → IsCopyOf (told_of one) copy → copy.sequence ≡ sequence_in one
same_sequence shown.Nothing copy alike is = absurd is
same_sequence (shown.One view) copy alike is = ap (λ (view : View). view.sequence) is
same_sequence (shown.Level view) copy alike is = ap (λ (view : View). view.sequence) is
same_sequence (shown.TwoDiffer primary secondary) copy alike (inl is) = ap (λ (view : View). view.sequence) is
same_sequence (shown.TwoDiffer primary secondary) copy alike (inr is) = ap (λ (view : View). view.sequence) is ∙ sym alike.1

module _ (group : List ℕ) where
  -- The disk shows the group by this copy.
  abbrev pub is_standing : View → Bool
  is_standing view = stands (groups group) view

  -- One copy shows the group where it stands for it.
  one_shows : (view : View) → shows_group group (shown.One view) ≡ is_standing view
  one_shows view = go (lists_itself view) (bytes_eq group view.group) refl refl
    where
      go : (itself ours : Bool) → lists_itself view ≡ itself → bytes_eq group view.group ≡ ours → shows_group group (shown.One view) ≡ is_standing view
      go true true is also = rw (is, also) refl
      go true false is also = rw (is, also) refl
      go false true is also = rw (is, also) refl
      go false false is also = rw (is, also) refl

  -- Two copies that differ show the group where one of them does.
  two_show : (primary secondary : View) → primary.group ≡ secondary.group → shows_group group (shown.TwoDiffer primary secondary) ≡ (is_standing primary || is_standing secondary)
  two_show primary secondary same = go (lists_itself primary) (lists_itself secondary) (bytes_eq group primary.group) refl refl refl (ap (bytes_eq group) (sym same))
    where
      go : (first second ours : Bool) → lists_itself primary ≡ first → lists_itself secondary ≡ second → bytes_eq group primary.group ≡ ours → bytes_eq group secondary.group ≡ bytes_eq group primary.group
          → shows_group group (shown.TwoDiffer primary secondary) ≡ (is_standing primary || is_standing secondary)
      go true true true one other is also = rw (one, other, also, is) refl
      go true true false one other is also = rw (one, other, also, is) refl
      go true false true one other is also = rw (one, other, also, is) refl
      go true false false one other is also = rw (one, other, also, is) refl
      go false true true one other is also = rw (one, other, also, is) refl
      go false true false one other is also = rw (one, other, also, is) refl
      go false false true one other is also = rw (one, other, also, is) refl
      go false false false one other is also = rw (one, other, also, is) refl

  -- A slot shows the group by a copy that stands for it.
  abbrev pub ShowsBy : GroupShown → Type 0
  ShowsBy one = (copy : View) × IsCopyOf (told_of one) copy × (is_standing copy ≡ true)

  -- A slot that shows the group does so by a copy.
  pub shows_by : (one : GroupShown) → IsOfOneGroup one → shows_group group one ≡ true → ShowsBy one
  shows_by shown.Nothing alike shows = absurd (false≢true shows)
  shows_by (shown.One view) alike shows = (view, refl, sym (one_shows view) ∙ shows)
  shows_by (shown.Level view) alike shows = (view, refl, sym (one_shows view) ∙ shows)
  shows_by (shown.TwoDiffer primary secondary) alike shows = go (is_standing primary) refl
    where
      go : (b : Bool) → is_standing primary ≡ b → ShowsBy (shown.TwoDiffer primary secondary)
      go true is = (primary, inl refl, is)
      go false is = (secondary, inr refl, ap (λ (b : Bool). b || is_standing secondary) (sym is) ∙ sym (two_show primary secondary alike.0) ∙ shows)

  -- A slot with a copy that stands for the group shows it.
  pub copy_shows : (one : GroupShown) (copy : View) → IsOfOneGroup one → IsCopyOf (told_of one) copy → is_standing copy ≡ true → shows_group group one ≡ true
  copy_shows shown.Nothing copy alike is standing = absurd is
  copy_shows (shown.One view) copy alike is standing = one_shows view ∙ ap is_standing (sym is) ∙ standing
  copy_shows (shown.Level view) copy alike is standing = one_shows view ∙ ap is_standing (sym is) ∙ standing
  copy_shows (shown.TwoDiffer primary secondary) copy alike (inl is) standing = two_show primary secondary alike.0 ∙ or_left (is_standing primary) (is_standing secondary) (ap is_standing (sym is) ∙ standing)
  copy_shows (shown.TwoDiffer primary secondary) copy alike (inr is) standing = two_show primary secondary alike.0 ∙ or_right (is_standing primary) (is_standing secondary) (ap is_standing (sym is) ∙ standing)

  module _ (slots : List GroupShown) (alike : AreOfOneGroup slots) where
    abbrev pub scene : Scene View
    scene = scene_in slots

    -- The copies of each slot are of one group.
    alike_at : (slot : ℕ) → IsOfOneGroup (slot_at slots slot)
    alike_at slot = at_slot IsOfOneGroup tt slots alike slot

    -- A slot that shows the group does so by a copy.
    pub slot_shows_by : (slot : ℕ) → shows_group group (slot_at slots slot) ≡ true → ShowsBy (slot_at slots slot)
    slot_shows_by slot shows = shows_by (slot_at slots slot) (alike_at slot) shows

    -- A slot with a copy that stands for the group shows it.
    pub slot_shows : (slot : ℕ) (copy : View) → IsCopyOf (scene slot) copy → is_standing copy ≡ true → shows_group group (slot_at slots slot) ≡ true
    slot_shows slot copy is standing = copy_shows (slot_at slots slot) copy (alike_at slot) is standing

    -- Its copies have its sequence.
    pub slot_sequence : (slot : ℕ) (copy : View) → IsCopyOf (scene slot) copy → copy.sequence ≡ sequence_in (slot_at slots slot)
    slot_sequence slot copy is = same_sequence (slot_at slots slot) copy (alike_at slot) is

    -- ---- leaders

    abbrev pub IsLeading : ℕ → View → Type 0
    IsLeading slot copy = IsLeader (groups group) scene slot copy

    -- This slot doesn't show the group with a greater sequence than that one.
    abbrev not_later : (slot t : ℕ) → Bool
    not_later slot t = not (shows_group group (slot_at slots t)) || nat_le (sequence_in (slot_at slots t)) (sequence_in (slot_at slots slot))

    -- A slot leads by each copy that stands for the group.
    pub leads_by : (slot : ℕ) (copy : View) → leads slots group slot ≡ true → IsCopyOf (scene slot) copy → is_standing copy ≡ true → IsLeading slot copy
    leads_by slot copy leading is standing =
        let parts = and_parts (shows_group group (slot_at slots slot)) (none_later slots group (sequence_in (slot_at slots slot))) leading in
        record { is_copy = is; is_standing = standing; greatest = λ t other also stands_too. greatest parts.1 t other also stands_too }
      where
        greatest : none_later slots group (sequence_in (slot_at slots slot)) ≡ true → (t : ℕ) (other : View) → IsCopyOf (scene t) other → is_standing other ≡ true → other.sequence ≤ copy.sequence
        greatest none t other also stands_too =
            let here : not_later slot t ≡ true = each_below (not_later slot) (length slots) none t (copy_within slots t other also) in
            let less : nat_le (sequence_in (slot_at slots t)) (sequence_in (slot_at slots slot)) ≡ true = rw (slot_shows t other also stands_too) at here in
            let le = leb-true _ _ less in
            let one = slot_sequence slot copy is in
            let two = slot_sequence t other also in
            omega arith

    -- A slot that leads does so by a copy.
    pub leading_copy : (slot : ℕ) → leads slots group slot ≡ true → (copy : View) × IsLeading slot copy
    leading_copy slot leading =
        let parts = and_parts (shows_group group (slot_at slots slot)) (none_later slots group (sequence_in (slot_at slots slot))) leading in
        let by = slot_shows_by slot parts.0 in
        (by.0, leads_by slot by.0 leading by.1 by.2)

    -- A slot with a leading copy leads.
    pub leader_leads : (slot : ℕ) (copy : View) → IsLeading slot copy → leads slots group slot ≡ true
    leader_leads slot copy leading =
        and_from (shows_group group (slot_at slots slot)) (none_later slots group (sequence_in (slot_at slots slot))) (slot_shows slot copy leading.is_copy leading.is_standing) (all_below (not_later slot) (length slots) (λ t below. each t (shows_group group (slot_at slots t)) refl))
      where
        each : (t : ℕ) (b : Bool) → shows_group group (slot_at slots t) ≡ b → not_later slot t ≡ true
        each t false is = rw is refl
        each t true is =
            let by = slot_shows_by t is in
            let le = leading.greatest t by.0 by.1 by.2 in
            let one = slot_sequence slot copy leading.is_copy in
            let two = slot_sequence t by.0 by.1 in
            let less = le-leb (sequence_in (slot_at slots t)) (sequence_in (slot_at slots slot)) (omega arith) in
            rw (is, less) refl

    -- The first slot that leads is the lowest leader.
    pub lowest_is : (slot : ℕ) (copy : View) → find (leads slots group) (numbers slots) ≡ Some slot → view_in (slot_at slots slot) ≡ Some copy → IsLowest (groups group) scene slot copy
    lowest_is slot copy found is = record {
      leads = leading_copy slot (found_passes (leads slots group) (length slots) slot found);
      lowest = λ t other leading. found_first (leads slots group) (length slots) slot found t (leader_leads t other leading);
      is_first = view_is_first (slot_at slots slot) copy is;
    }

    -- The lowest leader is the first slot that leads.
    pub is_lowest : (slot : ℕ) (copy : View) → IsLeading slot copy → ((t : ℕ) (other : View) → IsLeading t other → slot ≤ t) → find (leads slots group) (numbers slots) ≡ Some slot
    is_lowest slot copy leading lowest =
        let leads_here = leader_leads slot copy leading in
        let found = found_below (leads slots group) (length slots) slot (copy_within slots slot copy leading.is_copy) leads_here in
        let first = found_first (leads slots group) (length slots) found.0 found.1 slot leads_here in
        let other = leading_copy found.0 (found_passes (leads slots group) (length slots) found.0 found.1) in
        let least = lowest found.0 other.0 other.1 in
        let same : found.0 ≡ slot = omega arith in
        found.1 ∙ ap Some same

    -- ---- claims

    -- The slot is claimed, by the copy that stands for it.
    abbrev pub IsFoundClaimed : (slot : ℕ) → Type 0
    IsFoundClaimed slot = (copy : View) × (view_in (slot_at slots slot) ≡ Some copy) × IsClaimed (groups group) scene slot copy

    -- A slot that is claimed is so by the copy that stands for it.
    pub claimed_by : (slot : ℕ) → claims slots group slot ≡ true → IsFoundClaimed slot
    unfolding leading_view
    claimed_by slot claimed = go (find (leads slots group) (numbers slots)) refl claimed
      where
        by_view : (leader : ℕ) (leading copy : View) → find (leads slots group) (numbers slots) ≡ Some leader → view_in (slot_at slots leader) ≡ Some leading → view_in (slot_at slots slot) ≡ Some copy → lists_disk_of leading copy ≡ true → IsFoundClaimed slot
        by_view leader leading copy found one other lists = (
          copy,
          other,
          record { leader = leader; leading = leading; is_lowest = lowest_is leader leading found one; is_first = view_is_first (slot_at slots slot) copy other; is_listed = lists },
        )

        own : (leader : ℕ) (leading : View) → find (leads slots group) (numbers slots) ≡ Some leader → view_in (slot_at slots leader) ≡ Some leading → (o : Option View) → view_in (slot_at slots slot) ≡ o → option_map_or (lists_disk_of leading) o false ≡ true → IsFoundClaimed slot
        own leader leading found one None is lists = absurd (false≢true lists)
        own leader leading found one (Some copy) is lists = by_view leader leading copy found one is lists

        with_leader : (leader : ℕ) → find (leads slots group) (numbers slots) ≡ Some leader → (o : Option View) → view_in (slot_at slots leader) ≡ o → claims_by o (slot_at slots slot) ≡ true → IsFoundClaimed slot
        with_leader leader found None is lists = absurd (false≢true lists)
        with_leader leader found (Some leading) is lists = own leader leading found is (view_in (slot_at slots slot)) refl lists

        go : (o : Option ℕ) → find (leads slots group) (numbers slots) ≡ o → claims_by (option_and_then (λ slot. view_in (slot_at slots slot)) o) (slot_at slots slot) ≡ true → IsFoundClaimed slot
        go None is lists = absurd (false≢true lists)
        go (Some leader) is lists = with_leader leader is (view_in (slot_at slots leader)) refl lists

    -- A claimed slot is claimed, and this copy stands for it.
    pub claimed_claims : (slot : ℕ) (copy : View) → IsClaimed (groups group) scene slot copy → claims slots group slot ≡ true
    unfolding leading_view
    claimed_claims slot copy claimed =
        let lowest = claimed.is_lowest in
        let found = is_lowest claimed.leader lowest.leads.0 lowest.leads.1 lowest.lowest in
        let leading = first_is_view (slot_at slots claimed.leader) claimed.leading lowest.is_first in
        let own = first_is_view (slot_at slots slot) copy claimed.is_first in
        rw (found, leading, own) claimed.is_listed
