-- What the leaders of a group give, as assembly reads it and as histories tell of it.
use Rattle.std.proofs.Common.{◌≡◌, ◌⊎◌, ℕ, zero, suc, ◌<◌, ◌≤◌, ◌==◌, ◌&&◌, Bool, true, false, if◌then◌else◌, List, [], ◌∷◌, ◌++◌, length, Option, None, refl, ap, sym, ◌∙◌, inl, inr, arith}
use Rattle.std.proofs.lemmas.Bool.{cases_eq, cases_lt, and_from, eq-eqb, false≢true}
use Rattle.std.proofs.lemmas.List.Elements.{filter-append, filter_map-append}
use Rattle.std.specs.Prelude.{filter, filter_map}
use Rattle.std.specs.List.{range_with_len}
use Rattle.std.specs.Option.{option_map_or}
use Rattle.ddf_lemmas.proofs.Lists.{range_below}
use Rattle.ddf_view.specs.View.{View}
use Rattle.ddf_view.specs.Reading.{read}
use Rattle.ddf_group.specs.declared.shown.Shown.{Shown as GroupShown}
use Rattle.ddf_group.specs.Assembled.{config_of}
use Rattle.ddf_group.specs.Conflicts.{sequence_of, two_copies}
use Rattle.ddf_group.specs.Slots.{leaders, leads, sequence_in, shows_group, slot_at, view_in}
use Rattle.ddf_history.specs.Reading.{Each, IsCopyOf}
use Rattle.ddf_history.specs.Answered.{AreOfOneGroup}
use Rattle.ddf_history.specs.Groups.{groups, read_leaders}
use Rattle.ddf_history.specs.Leaders.{leading_copies, leading_copy}
use Rattle.ddf_history.specs.Scenes.{scene_in}
use Rattle.ddf_history.proofs.Leading.{each_leading, none_leading, some_leading, IsSome}
use Rattle.ddf_history.proofs.AnsweredConflicts.{leader_only}
use Rattle.ddf_history.proofs.AnsweredLists.{found_below, found_first, found_passes}
use Rattle.ddf_history.proofs.AnsweredSlots.{copy_within, is_lowest, is_standing, leader_leads, leading_copy as leads_by_copy, slot_sequence, slot_shows, slot_shows_by, IsLeading}

-- ---- the greatest of some numbers

-- It passes, and no number that passes gives more.
pub record IsGreatest (test : ℕ → Bool) (value : ℕ → ℕ) (count i : ℕ) : Type 0 where
  pub passes : test i ≡ true
  pub greatest : (j : ℕ) → j < count → test j ≡ true → value j ≤ value i

-- Of the numbers below a bound none passes, or one that does gives the most.
greatest_or_none : (test : ℕ → Bool) (value : ℕ → ℕ) (count : ℕ) → ((j : ℕ) → j < count → test j ≡ false) ⊎ ((i : ℕ) × IsGreatest test value count i)
greatest_or_none test value zero = inl (λ j below. absurd (omega arith))
greatest_or_none test value (suc count) = go (greatest_or_none test value count) (test count) refl
  where
    go : ((j : ℕ) → j < count → test j ≡ false) ⊎ ((i : ℕ) × IsGreatest test value count i) → (b : Bool) → test count ≡ b → ((j : ℕ) → j < suc count → test j ≡ false) ⊎ ((i : ℕ) × IsGreatest test value (suc count) i)
    go (inl none) false is = inl (λ j below. elim (cases_eq j count) [
      | inl here ↦ ap test here ∙ is
      | inr there ↦ none j (omega arith)
    ])
    go (inl none) true is = inr (
      count,
      record {
        passes = is;
        greatest = λ j below passes. elim (cases_eq j count) [
          | inl here ↦ (let same : value j ≡ value count = ap value here in omega arith)
          | inr there ↦ absurd (false≢true (sym (none j (omega arith)) ∙ passes))
        ];
      },
    )
    go (inr (i, most)) false is = inr (
      i,
      record {
        passes = most.passes;
        greatest = λ j below passes. elim (cases_eq j count) [
          | inl here ↦ absurd (false≢true (sym is ∙ ap test (sym here) ∙ passes))
          | inr there ↦ most.greatest j (omega arith) passes
        ];
      },
    )
    go (inr (i, most)) true is = elim (cases_lt (value i) (value count)) [
      | inl less ↦ inr (
        count,
        record {
          passes = is;
          greatest = λ j below passes. elim (cases_eq j count) [
            | inl here ↦ (let same : value j ≡ value count = ap value here in omega arith)
            | inr there ↦ (let le = most.greatest j (omega arith) passes in omega arith)
          ];
        },
      )
      | inr more ↦ inr (
        i,
        record {
          passes = most.passes;
          greatest = λ j below passes. elim (cases_eq j count) [
            | inl here ↦ (let same : value j ≡ value count = ap value here in omega arith)
            | inr there ↦ most.greatest j (omega arith) passes
          ];
        },
      )
    ]

-- ---- the leaders

module _ (group : List ℕ) (slots : List GroupShown) (alike : AreOfOneGroup slots) where
  -- Where a slot shows the group, one leads by a copy.
  pub some_leader : (t : ℕ) (other : View) → IsCopyOf (scene_in slots t) other → is_standing group other ≡ true → (slot : ℕ) × (copy : View) × IsLeading group slots alike slot copy
  some_leader t other is standing = elim (greatest_or_none shows_at sequence_at (length slots)) [
    | inl none ↦ absurd (false≢true (sym (none t (copy_within slots t other is)) ∙ slot_shows group slots alike t other is standing))
    | inr found ↦
        let by = slot_shows_by group slots alike found.0 found.1.passes in (
          found.0,
          by.0,
          record {
            is_copy = by.1;
            is_standing = by.2;
            greatest = λ u one is_one stands.
                let le = found.1.greatest u (copy_within slots u one is_one) (slot_shows group slots alike u one is_one stands) in
                let here = slot_sequence group slots alike found.0 by.0 by.1 in
                let there = slot_sequence group slots alike u one is_one in
                omega arith;
          },
        )
  ]
    where
      shows_at : ℕ → Bool
      shows_at slot = shows_group group (slot_at slots slot)

      sequence_at : ℕ → ℕ
      sequence_at slot = sequence_in (slot_at slots slot)

  -- The lowest of the leaders.
  pub record IsLowestLeading (slot : ℕ) (copy : View) : Type 0 where
    pub leads : IsLeading group slots alike slot copy
    pub lowest : (t : ℕ) (other : View) → IsLeading group slots alike t other → slot ≤ t

  -- Where a slot leads, there is a lowest one.
  pub lowest_leader : (t : ℕ) (other : View) → IsLeading group slots alike t other → (slot : ℕ) × (copy : View) × IsLowestLeading slot copy
  lowest_leader t other leading =
      let found = found_below (leads slots group) (length slots) t (copy_within slots t other leading.is_copy) (leader_leads group slots alike t other leading) in
      let by = leads_by_copy group slots alike found.0 (found_passes (leads slots group) (length slots) found.0 found.1) in (
        found.0,
        by.0,
        record { leads = by.1; lowest = λ u one leads_too. found_first (leads slots group) (length slots) found.0 found.1 u (leader_leads group slots alike u one leads_too) },
      )

  -- The sequence of the leaders is that of the lowest.
  pub leaders_sequence : (slot : ℕ) (copy : View) → IsLowestLeading slot copy → sequence_of slots group ≡ copy.sequence
  leaders_sequence slot copy lowest =
      ap (λ (o : Option ℕ). option_map_or (λ slot. sequence_in (slot_at slots slot)) o 0) (is_lowest group slots alike slot copy lowest.leads lowest.lowest)
      ∙ sym (slot_sequence group slots alike slot copy lowest.leads.is_copy)

  module _ (one_copy : two_copies slots group ≡ None) (leader : ℕ) (leading : View) (lowest : IsLowestLeading leader leading) where
    -- The copy that stands for a slot.
    abbrev view_at : ℕ → Option View
    view_at slot = view_in (slot_at slots slot)

    -- Leaders have one sequence.
    one_sequence : (slot : ℕ) (copy : View) → IsLeading group slots alike slot copy → copy.sequence ≡ leading.sequence
    one_sequence slot copy leads_too =
        let le = lowest.leads.greatest slot copy leads_too.is_copy leads_too.is_standing in
        let ge = leads_too.greatest leader leading lowest.leads.is_copy lowest.leads.is_standing in
        omega arith

    -- A copy with their sequence leads.
    with_sequence : (slot : ℕ) (copy : View) → IsCopyOf (scene_in slots slot) copy → is_standing group copy ≡ true → copy.sequence ≡ leading.sequence → IsLeading group slots alike slot copy
    with_sequence slot copy is standing same = record {
      is_copy = is;
      is_standing = standing;
      greatest = λ t other is_other stands. (let le = lowest.leads.greatest t other is_other stands in omega arith);
    }

    -- A leader gives its copy.
    leader_gives : (slot : ℕ) (copy : View) → IsLeading group slots alike slot copy → leading_copy (groups group) leading.sequence (scene_in slots slot) ≡ copy ∷ []
    leader_gives slot copy leads_too =
        let test : (is_standing group copy && (copy.sequence == leading.sequence)) ≡ true = and_from (is_standing group copy) (copy.sequence == leading.sequence) leads_too.is_standing (eq-eqb _ _ (one_sequence slot copy leads_too)) in
        ap (leading_copy (groups group) leading.sequence) (leader_only group slots alike one_copy slot copy leads_too).is_one ∙ ap (λ (b : Bool). if b then copy ∷ [] else []) test

    -- A slot gives its copy where it leads.
    slot_gives : (slot : ℕ) → filter_map view_at (filter (leads slots group) (slot ∷ [])) ≡ leading_copy (groups group) leading.sequence (scene_in slots slot)
    slot_gives slot = go (leads slots group slot) refl
      where
        go : (b : Bool) → leads slots group slot ≡ b → filter_map view_at (filter (leads slots group) (slot ∷ [])) ≡ leading_copy (groups group) leading.sequence (scene_in slots slot)
        go true is =
            let by = leads_by_copy group slots alike slot is in
            rw (is, (leader_only group slots alike one_copy slot by.0 by.1).is_view) (sym (leader_gives slot by.0 by.1))
        go false is =
            rw is (sym (none_leading (groups group) (scene_in slots) leading.sequence (scene_in slots slot) (λ copy is_copy stands same.
            false≢true (sym is ∙ leader_leads group slots alike slot copy (with_sequence slot copy is_copy stands same)))))

    -- The leaders' copies are those that assembly reads.
    same_copies : (count : ℕ) → filter_map view_at (filter (leads slots group) (range_with_len 0 count)) ≡ leading_copies (groups group) leading.sequence (scene_in slots) count
    same_copies zero = refl
    same_copies (suc count) =
        ap (λ (ns : List ℕ). filter_map view_at (filter (leads slots group) ns)) (range_below count)
        ∙ ap (filter_map view_at) (filter-append (leads slots group) (range_with_len 0 count) (count ∷ []))
        ∙ filter_map-append view_at (filter (leads slots group) (range_with_len 0 count)) (filter (leads slots group) (count ∷ []))
        ∙ ap (λ (views : List View). views ++ filter_map view_at (filter (leads slots group) (count ∷ []))) (same_copies count)
        ∙ ap (λ (views : List View). leading_copies (groups group) leading.sequence (scene_in slots) count ++ views) (slot_gives count)

    -- Views of one sequence are read at it.
    read_at : (views : List View) (n : ℕ) → IsSome views → Each (λ view. view.sequence ≡ n) views → read_leaders group views ≡ read group n views
    read_at [] n some each = (let none = some.are in absurd cc)
    read_at (view ∷ views) n some each = ap (λ (m : ℕ). read group m (view ∷ views)) each.0

    -- Assembly reads what histories read of the leaders.
    pub reads_leaders : read_leaders group (leading_copies (groups group) leading.sequence (scene_in slots) (length slots)) ≡ config_of slots group
    unfolding config_of leaders
    reads_leaders =
        let copies = leading_copies (groups group) leading.sequence (scene_in slots) (length slots) in
        let some = some_leading (groups group) (scene_in slots) leading.sequence leader leading (leader_only group slots alike one_copy leader leading lowest.leads).is_one lowest.leads.is_standing refl (length slots) (copy_within slots leader leading lowest.leads.is_copy) in
        let each = each_leading (groups group) (scene_in slots) leading.sequence (λ view. view.sequence ≡ leading.sequence) (λ slot copy is standing same. same) (length slots) in
        read_at copies leading.sequence some each
        ∙ ap (λ (n : ℕ). read group n copies) (sym (leaders_sequence leader leading lowest))
        ∙ ap (read group (sequence_of slots group)) (sym (same_copies (length slots)))
