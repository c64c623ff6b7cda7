-- Where positions stay, or their disks are lost, the parity of elements stays.
use Rattle.std.proofs.Common.{◌≡◌, ◌∙◌, inl, inr, ⊎_elim, ℕ, zero, suc, Bool, true, false, List, [], ◌∷◌, Option, Some, None, refl, sym, ap, subst, map, slice_get, ◌&&◌}
use Rattle.std.specs.Prelude.{is_none}
use Rattle.ddf_lemmas.proofs.Options.{no_first_of_and_some}
use Rattle.ddf_lemmas.proofs.Tests.{true_false}
use Rattle.ddf_config.specs.declared.array.Array.{Array}
use Rattle.ddf_config.specs.declared.element.Position.{Position}
use Rattle.ddf_config.specs.declared.extent.Extent.{Extent}
use Rattle.ddf_config.specs.declared.member.Member.{Member}
use Rattle.ddf_config.specs.declared.seat.Seat.{Seat}
use Rattle.ddf_config.specs.ElementValue.{ElementValue}
use Rattle.ddf_config.specs.Extents.{extent}
use Rattle.ddf_config.specs.Members.{is_current}
use Rattle.ddf_array.specs.declared.place.Place.{Place}
use Rattle.ddf_array.specs.Losing.{AreFewer}
use Rattle.ddf_array.specs.Viewing.{place_of, seat_slot}
use Rattle.ddf_array.specs.Volume.{Volume}
use Rattle.ddf_data_array.specs.Fewer.{IsAlikePlace, ArePlaces, LeavesParity}
use Rattle.ddf_data_group.specs.Over.{AreCurrentSeats, IsOver, absent_in, lacks_disk, part_lacks}
use Rattle.ddf_data_group.specs.Lessening.{AllStay, AreLessParts, AreStaying, IsStaying}
use Rattle.ddf_data_group.proofs.Lessened.{slot_ends, slot_lost}
use Rattle.ddf_data_group.proofs.LessRows.{element_less}
use Rattle.ddf_data_group.proofs.Parts.{absent_is, of_part}

and_none : (a : Bool) (o : Option ℕ) → o ≡ None → (a && is_none o) ≡ false → a ≡ false
and_none true None e f = absurd (cc)
and_none true (Some s) e f = absurd (cc)
and_none false o e f = refl

module _ (members after_members : List (ℕ × Member)) (same_current : (reference : ℕ) → is_current after_members reference ≡ is_current members reference) (seats fewer : List Seat) (are : AreCurrentSeats members seats)
    (few : AreFewer seats fewer) where
  -- where no disk is missing that a current member has, the slot of an extent is as before
  slot_same : (one : Extent) → (is_current after_members one.reference && is_none (seat_slot fewer one)) ≡ false → seat_slot fewer one ≡ seat_slot seats one
  slot_same one lacks = ⊎_elim (λ same. same) (λ none. by (seat_slot seats one) refl none) (slot_lost seats fewer few one)
    where
      by : (o : Option ℕ) → seat_slot seats one ≡ o → seat_slot fewer one ≡ None → seat_slot fewer one ≡ seat_slot seats one
      by None is none = none ∙ sym is
      by (Some slot) is none =
          let end = slot_ends seats one slot is in
          absurd (true_false (is_current after_members one.reference) (same_current one.reference ∙ are.current one.reference end.0 end.1) (and_none (is_current after_members one.reference) (seat_slot fewer one) none lacks))

  extent_same : (blocks : ℕ) (before after : Position) → after.reference ≡ before.reference → after.start ≡ before.start → extent blocks after ≡ extent blocks before
  extent_same blocks before after r s =
      ap (λ (n : ℕ). record { reference = n; start = after.start; blocks = blocks }) r ∙ ap (λ (n : ℕ). record { reference = before.reference; start = n; blocks = blocks }) s

  module _ (one other : ElementValue) (same_blocks : other.blocks ≡ one.blocks) where
    lacks_by : (after : Position) → lacks_disk after_members fewer other after ≡ false → (is_current after_members after.reference && is_none (seat_slot fewer (extent one.blocks after))) ≡ false
    lacks_by after lacks = ap (λ (n : ℕ). is_current after_members after.reference && is_none (seat_slot fewer (extent n after))) (sym same_blocks) ∙ lacks

    alike : (before after : Position) → IsStaying (is_current members) before after → lacks_disk after_members fewer other after ≡ false
        → IsAlikePlace (place_of seats one.blocks before) (place_of fewer other.blocks after)
    alike before after staying lacks =
        ⊎_elim
        (λ out. inl (no_first_of_and_some after.synced (seat_slot fewer (extent other.blocks after)) out.0, no_first_of_and_some before.synced (seat_slot seats (extent one.blocks before)) out.1, out.0 ∙ sym out.1))
        (λ same. inr (
          same.0,
          same.2,
          ap (λ (n : ℕ). seat_slot fewer (extent n after)) same_blocks ∙ slot_same (extent one.blocks after) (lacks_by after lacks) ∙ ap (seat_slot seats) (extent_same one.blocks before after same.1 same.2),
        ))
        staying

    all_alike : (befores afters : List Position) → AreStaying (is_current members) befores afters → ((j : ℕ) (after : Position) → slice_get afters j ≡ Some after → lacks_disk after_members fewer other after ≡ false)
        → ArePlaces IsAlikePlace (map (place_of seats one.blocks) befores) (map (place_of fewer other.blocks) afters)
    all_alike [] [] staying none = tt
    all_alike [] (after ∷ afters) staying none = absurd staying
    all_alike (before ∷ befores) [] staying none = absurd staying
    all_alike (before ∷ befores) (after ∷ afters) staying none = (alike before after staying.0 (none 0 after refl), all_alike befores afters staying.1 (λ j x at. none (suc j) x at))

    -- and nothing lacked one before
    had_disk : (before after : Position) → IsStaying (is_current members) before after → lacks_disk after_members fewer other after ≡ false → lacks_disk members seats one before ≡ false
    had_disk before after staying lacks =
        ⊎_elim
        (λ out. ap (λ b. b && is_none (seat_slot seats (extent one.blocks before))) out.2)
        (λ same.
        ap (λ b. b && is_none (seat_slot seats (extent one.blocks before))) (ap (is_current members) (sym same.1) ∙ sym (same_current after.reference))
        ∙ ap (λ (o : Option ℕ). is_current after_members after.reference && is_none o) (ap (seat_slot seats) (sym (extent_same one.blocks before after same.1 same.2)) ∙ sym (slot_same (extent one.blocks after) (lacks_by after lacks)))
        ∙ lacks_by after lacks)
        staying

    all_had : (befores afters : List Position) → AreStaying (is_current members) befores afters → ((j : ℕ) (after : Position) → slice_get afters j ≡ Some after → lacks_disk after_members fewer other after ≡ false)
        → (j : ℕ) (before : Position) → slice_get befores j ≡ Some before → lacks_disk members seats one before ≡ false
    all_had [] [] staying none j before at = absurd (cc)
    all_had [] (after ∷ afters) staying none j before at = absurd staying
    all_had (b ∷ befores) [] staying none j before at = absurd staying
    all_had (b ∷ befores) (after ∷ afters) staying none zero before at =
        let same : b ≡ before = cc in subst (λ (x : Position). lacks_disk members seats one x ≡ false) same (had_disk b after staying.0 (none 0 after refl))
    all_had (b ∷ befores) (after ∷ afters) staying none (suc j) before at = all_had befores afters staying.1 (λ i x there. none (suc i) x there) j before at

  pub leaves_parity : (before after : Array) (old v : Volume) → AreLessParts before.elements after.elements → AllStay (is_current members) before.elements after.elements → IsOver seats before old → IsOver fewer after v
      → LeavesParity (absent_in members seats before.elements) (absent_in after_members fewer after.elements) old v
  leaves_parity before after old v less stay old_over over = record {
    stays = λ unmarked within k one other one_at other_at parity lacks none.
        let from = of_part seats before old old_over k one one_at in
        let to = of_part fewer after v over k other other_at in
        let blocks = (element_less before.elements after.elements less k from.element to.element from.is_element to.is_element).same_blocks in
        let staying = stay k from.element to.element from.is_element to.is_element in
        let has : (j : ℕ) (position : Position) → slice_get to.element.positions j ≡ Some position → lacks_disk after_members fewer to.element position ≡ false =
        λ j position at. sym (absent_is after_members fewer after.elements k j to.element position to.is_element at) ∙ none j in
        inl (
          subst (λ (l : List Place). ArePlaces IsAlikePlace l other.places) (sym from.places_are)
              (subst (ArePlaces IsAlikePlace (map (place_of seats from.element.blocks) from.element.positions)) (sym to.places_are)
              (all_alike from.element to.element blocks from.element.positions to.element.positions staying has)),
          λ j. by k j from.element from.is_element (all_had from.element to.element blocks from.element.positions to.element.positions staying has) (slice_get from.element.positions j) refl,
        );
  }
    where
      by : (k j : ℕ) (element : ElementValue) → slice_get before.elements k ≡ Some (Some element)
          → ((j : ℕ) (position : Position) → slice_get element.positions j ≡ Some position → lacks_disk members seats element position ≡ false)
          → (o : Option Position) → slice_get element.positions j ≡ o → absent_in members seats before.elements k j ≡ false
      by k j element at had None is =
          ap (λ (o : Option (Option ElementValue)). elim o [ None ↦ false | Some part ↦ part_lacks members seats j part ]) at
          ∙ ap (λ (o : Option Position). elim o [ None ↦ false | Some one ↦ lacks_disk members seats element one ]) is
      by k j element at had (Some position) is = absent_is members seats before.elements k j element position at is ∙ had j position is
