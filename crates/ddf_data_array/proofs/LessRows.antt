-- Rows that are counted as rebuilt hold what they should where places of an array aren't available any more.
use Rattle.std.proofs.Common.{◌≡◌, ◌∙◌, ◌⊎◌, inl, inr, ⊎_elim, ℕ, ◌+◌, ◌≤◌, Bool, true, false, not, List, Some, refl, sym, ap, subst, arith, slice_get}
use Rattle.std.proofs.lemmas.Bool.{cases_eq, cases_lt, le-leb, leb-true, not-false}
use Rattle.std.proofs.lemmas.Option.{same_Some}
use Rattle.ddf_lemmas.proofs.Options.{no_first_of_and_some, none_some}
use Rattle.ddf_lemmas.proofs.Tests.{true_false}
use Rattle.ddf_bay.specs.Sectors.{Image}
use Rattle.ddf_config.specs.Within.{has_enough}
use Rattle.ddf_primary.specs.Placement.{Placement}
use Rattle.ddf_primary.specs.declared.layout.Layout.{Layout}
use Rattle.ddf_primary.specs.declared.need.Need.{Need}
use Rattle.ddf_primary.specs.Needs.{need_by}
use Rattle.ddf_primary.proofs.Needs.{parity_needs}
use Rattle.ddf_array.specs.declared.part.Part.{Part}
use Rattle.ddf_array.specs.declared.place.Place.{Place}
use Rattle.ddf_array.specs.Levels.{keeps_parity}
use Rattle.ddf_array.specs.Places.{is_available, site_at}
use Rattle.ddf_array.specs.Volume.{Volume, IsVolume}
use Rattle.ddf_array.specs.Within.{is_within}
use Rattle.ddf_array.specs.Redundant.{IsRedundant}
use Rattle.ddf_array.proofs.Enough.{only_one}
use Rattle.ddf_array.proofs.LossLevels.{away}
use Rattle.ddf_cells.specs.CellSources.{wanted}
use Rattle.ddf_rebuild.specs.Target.{IsInRows, IsTarget}
use Rattle.ddf_data_array.specs.Allowed.{Allowed}
use Rattle.ddf_data_array.specs.Fewer.{IsSamePlace, IsAlikePlace, IsFewerPlace, ArePlaces, IsFewer, LeavesParity, LeavesRows}
use Rattle.ddf_data_array.specs.Kept.{IsKeptData}
use Rattle.ddf_data_array.specs.Rows.{AreRowsKept, DoRowsCount, IsFirstOut, NoneAbsent}
use Rattle.ddf_data_array.proofs.Fewer.{HasPart, all_places, at_places, part_before, part_keeps, was_within}
use Rattle.ddf_data_array.proofs.Items.{none_where, own_none}
use Rattle.ddf_data_array.proofs.Lessened.{kept_but_rows, unmarked_before, wanted_alike, wanted_out}
use Rattle.ddf_data_array.proofs.RowsKept.{has_rebuilt, no_rows}

-- an element with parity is within its level where at most one place isn't available
pub few_away : (layout : Layout) (places : List Place) → keeps_parity layout ≡ true → has_enough (need_by layout) is_available places ≡ true → away places ≤ 1
few_away layout places parity e = leb-true (away places) 1 (ap (λ (n : Need). has_enough n is_available places) (sym (parity_needs layout parity)) ∙ e)

pub enough : (layout : Layout) (places : List Place) → keeps_parity layout ≡ true → away places ≤ 1 → has_enough (need_by layout) is_available places ≡ true
enough layout places parity few = ap (λ (n : Need). has_enough n is_available places) (parity_needs layout parity) ∙ le-leb (away places) 1 few

module _ (absent_before absent_after : ℕ → ℕ → Bool) (before after : Volume) (image : Image) (known : IsVolume after) (fewer : IsFewer before after)
    (leaves : LeavesParity absent_before absent_after before after) (leaves_rows : LeavesRows before after) (is : IsRedundant before image) (kept : AreRowsKept absent_before before image)
    (unmarked : after.marked ≡ false) (within : is_within after ≡ true)
    (element position : ℕ) (part : Part) (place : Place) (slot : ℕ) (target : IsTarget after element position part place slot) (counts : DoRowsCount absent_after element part) where
  there : HasPart before.parts element part
  there = part_before before.parts after.parts fewer.fewer_parts element part target.is_part

  -- the rows were counted before
  record Was (was : Place) : Type 0 where
    pub is_was : slice_get there.before.places position ≡ Some was
    pub same : IsSamePlace was place
    pub same_row : place.row ≡ was.row

  cases : (place.row ≡ 0) ⊎ ((was : Place) × Was was)
  cases =
      let own = at_places IsFewerPlace there.before.places part.places there.fewer position place target.is_place in
      ⊎_elim (λ none. inl none)
      (⊎_elim (λ synced. absurd (true_false place.synced synced target.is_out))
      (⊎_elim (λ gone. absurd (none_some place.slot slot gone target.is_there)) (λ same. inr (own.0, record { is_was = own.1; same = same.0; same_row = same.1 }))))
      (leaves_rows element position there.before part own.0 place there.is_part target.is_part own.1 target.is_place)

  module _ (was : Place) (it_was : Was was) where
    out_was : was.synced ≡ false
    out_was = sym it_was.same.0 ∙ target.is_out

    was_target : IsTarget before element position there.before was slot
    was_target = record { is_part = there.is_part; is_place = it_was.is_was; is_out = out_was; is_there = sym it_was.same.2 ∙ target.is_there }

    -- what the places of an element with parity were
    record Stays : Type 0 where
      pub alike : ArePlaces IsAlikePlace there.before.places part.places
      pub counted : DoRowsCount absent_before element there.before

    was_parity : keeps_parity part.shape.layout ≡ true → keeps_parity there.before.shape.layout ≡ true
    was_parity parity = ap (λ (s : Placement). keeps_parity s.layout) (sym there.same_shape) ∙ parity

    by_few : keeps_parity part.shape.layout ≡ true → away part.places ≤ 1 → Stays
    by_few parity few = record {
      alike = all_places IsFewerPlace IsAlikePlace there.before.places part.places there.fewer (λ k one other one_at other_at less.
          ⊎_elim
          (λ here.
          let same_one : was ≡ one = same_Some was one (sym it_was.is_was ∙ ap (slice_get there.before.places) (sym here) ∙ one_at) in
          let same_other : place ≡ other = same_Some place other (sym target.is_place ∙ ap (slice_get part.places) (sym here) ∙ other_at) in
          inr (subst (λ (x : Place). IsSamePlace x other) same_one (subst (IsSamePlace was) same_other it_was.same)))
          (λ apart.
          let available = not-false (is_available other) (only_one (λ (place : Place). not (is_available place)) part.places few position k place other target.is_place other_at
          (ap not (no_first_of_and_some place.synced place.slot target.is_out)) apart) in
          ⊎_elim (λ gone. absurd (true_false (is_available other) available gone)) (λ same. inr same) less)
          (cases_eq k position));
      counted = λ was_so. inl (part_keeps there.before part there.same_shape there.fewer (enough part.shape.layout part.places parity few));
    }

    stays : keeps_parity part.shape.layout ≡ true → (place.row ≡ 0) ⊎ Stays
    stays parity =
        ⊎_elim (λ enough_there. inr (by_few parity (few_away part.shape.layout part.places parity enough_there)))
        (λ (none : NoneAbsent absent_after element).
        ⊎_elim (λ few. inr (by_few parity (omega (arith, few))))
        (λ many. ⊎_elim (λ alike. inr (record { alike = alike.0; counted = λ was_so. inr alike.1 })) (λ left. inl (left position place target.is_place).1)
        (leaves.stays unmarked within element there.before part there.is_part target.is_part parity (omega (arith, many)) none))
        (cases_lt (away part.places) 2))
        (counts parity)

    held : (sector : ℕ) → IsInRows part.shape 0 place.row sector → DoRowsCount absent_before element there.before
        → wanted after image element part sector position ≡ wanted before image element there.before sector position
        → image slot (place.start + sector) ≡ wanted after image element part sector position
    held sector rows counted same =
        ap (λ (n : ℕ). image slot (n + sector)) it_was.same.1
        ∙ kept.rebuilt (unmarked_before before after fewer unmarked) (was_within before after fewer within) element position there.before was slot was_target counted there.before was slot sector was_target
        (subst (λ (n : ℕ). IsInRows there.before.shape 0 n sector) it_was.same_row (subst (λ (s : Placement). IsInRows s 0 place.row sector) there.same_shape rows))
        ∙ sym same

    by_parity : (sector : ℕ) → IsInRows part.shape 0 place.row sector → (b : Bool) → keeps_parity part.shape.layout ≡ b → image slot (place.start + sector) ≡ wanted after image element part sector position
    by_parity sector rows true parity =
        ⊎_elim (λ none. no_rows part place.row sector none rows)
        (λ (stay : Stays). held sector rows stay.counted (wanted_alike before after fewer known within image is element there.before part there.is_part target.is_part there.same_shape sector stay.alike position))
        (stays parity)
    by_parity sector rows false plain =
        let was_plain : keeps_parity there.before.shape.layout ≡ false = ap (λ (s : Placement). keeps_parity s.layout) (sym there.same_shape) ∙ plain in
        held sector rows (λ parity. absurd (true_false (keeps_parity there.before.shape.layout) parity was_plain))
        (wanted_out before after fewer known within image is element there.before part there.is_part target.is_part there.same_shape sector position was_plain
        (none_where (site_at part.places position sector) (own_none part.places position place target.is_place target.is_out sector))
        (none_where (site_at there.before.places position sector) (own_none there.before.places position was it_was.is_was out_was sector)))

    -- positions before it are in sync as they were
    first_by : keeps_parity part.shape.layout ≡ true → Stays → IsFirstOut before element position → IsFirstOut after element position
    first_by parity stay first other other_at other_parity earlier one less at =
        let same_part : part ≡ other = same_Some part other (sym target.is_part ∙ other_at) in
        let own = at_places IsAlikePlace there.before.places part.places stay.alike earlier one (ap (λ (x : Part). slice_get x.places earlier) same_part ∙ at) in
        let synced = first there.before there.is_part (was_parity parity) earlier own.0 less own.1 in
        ⊎_elim (λ none. none.2 ∙ synced) (λ same. same.0 ∙ synced) own.2

    first_was : (b : Bool) → keeps_parity part.shape.layout ≡ b → (place.row ≡ 0) ⊎ IsFirstOut after element position
    first_was true parity =
        ⊎_elim (λ none. inl none)
        (λ (stay : Stays).
        ⊎_elim (λ none. inl (it_was.same_row ∙ none)) (λ first. inr (first_by parity stay first))
        (kept.first (unmarked_before before after fewer unmarked) (was_within before after fewer within) element position there.before was slot was_target stay.counted))
        (stays parity)
    first_was false plain =
        inr (λ other other_at parity. absurd (true_false (keeps_parity part.shape.layout)
        (ap (λ (x : Part). keeps_parity x.shape.layout) (same_Some part other (sym target.is_part ∙ other_at)) ∙ parity) plain))

  each_held : (sector : ℕ) → IsInRows part.shape 0 place.row sector → image slot (place.start + sector) ≡ wanted after image element part sector position
  each_held sector rows = ⊎_elim (λ none. no_rows part place.row sector none rows) (λ was. by_parity was.0 was.1 sector rows (keeps_parity part.shape.layout) refl) cases

  stays_first : (place.row ≡ 0) ⊎ IsFirstOut after element position
  stays_first = ⊎_elim (λ none. inl none) (λ was. first_was was.0 was.1 (keeps_parity part.shape.layout) refl) cases

pub kept_less : (absent_before absent_after : ℕ → ℕ → Bool) (before after : Volume) (image : Image) (allowed : Allowed) → IsVolume after → IsFewer before after → LeavesParity absent_before absent_after before after
    → LeavesRows before after → IsKeptData absent_before before image allowed → IsKeptData absent_after after image allowed
kept_less absent_before absent_after before after image allowed known fewer leaves leaves_rows kept =
    kept_but_rows absent_before absent_after before after image allowed known fewer leaves kept (record {
      rebuilt = λ unmarked within element position part place slot target counts.
          has_rebuilt after image element position place.row part place slot target
          (each_held absent_before absent_after before after image known fewer leaves leaves_rows
          (kept.sound.redundant (unmarked_before before after fewer unmarked) (was_within before after fewer within)) kept.rows unmarked within element position part place slot target counts);
      first = λ unmarked within element position part place slot target counts.
          stays_first absent_before absent_after before after image known fewer leaves leaves_rows
          (kept.sound.redundant (unmarked_before before after fewer unmarked) (was_within before after fewer within)) kept.rows unmarked within element position part place slot target counts;
    })
