-- The array of an exercise may be used, and is seen so.
use Rattle.std.proofs.Common.{◌≡◌, ◌∙◌, ℕ, Bool, true, false, List, [], ◌∷◌, Some, None, Ok, refl, ap, sym, ◌⊎◌, inl, inr, ⊎_elim, zero, suc, slice_get}
use Rattle.std.proofs.lemmas.Bool.{eqb-false}
use Rattle.ddf_config.specs.declared.array.Array.{Array}
use Rattle.ddf_config.specs.declared.element.Position.{Position}
use Rattle.ddf_config.specs.declared.member.Member.{Member}
use Rattle.ddf_config.specs.declared.member.SpareUse.{SpareUse}
use Rattle.ddf_config.specs.declared.seat.Seat.{Seat}
use Rattle.ddf_config.specs.Extents.{extents, extent}
use Rattle.ddf_config.specs.Seats.{floor_of}
use Rattle.ddf_config.specs.States.{is_marked}
use Rattle.ddf_config.specs.Unusable.{is_served_on}
use Rattle.ddf_config.specs.declared.member.SpareUse.TheVariants.{No, Global}
use Rattle.ddf_config.proofs.Common.{same_self}
use Rattle.ddf_array.specs.Viewing.{is_array_within, is_seated, view_of}
use Rattle.ddf_request.specs.Named.{named_array}
use Rattle.ddf_request.specs.Usable.{bad_blocks, useless}
use Rattle.ddf_exercise_config.specs.Disks.{AreApart, Disks}
use Rattle.ddf_exercise_config.specs.Stages.{array, group_with, members, members_at, members_lost, position, positions_at, positions_begun, positions_lost, seats_at}
use Rattle.ddf_exercise_config.specs.Turns.{Loss, Turn, turn_behind}
use Rattle.ddf_exercise_config.specs.Turns.Loss.{OfSecond, OfThird}
use Rattle.ddf_exercise_config.specs.Turns.Turn.{Closing, Middle, Opening}
use Rattle.ddf_array.specs.Apart.{IsApart}
use Rattle.ddf_array.specs.declared.part.Part.{Part}
use Rattle.ddf_array.specs.declared.place.Place.{Place}
use Rattle.ddf_array.specs.Volume.{IsVolume}
use Rattle.ddf_exercise_config.specs.Views.{part, place, places_at, places_begun, view_at, view_begun, volume_on}
use Rattle.ddf_exercise_config.specs.Words.{word}
use Rattle.ddf_exercise_config.proofs.Bools.{same}
use Rattle.ddf_exercise_config.proofs.Seen as seen
use Rattle.ddf_exercise_config.proofs.Tables as tables
use Rattle.ddf_exercise_config.proofs.Trios as trios

-- no disk lists bad blocks
pub none_is_bad : (disks : Disks) (turn : Turn) (one : Array) → bad_blocks (seats_at disks turn) one ≡ None
none_is_bad disks Opening one = refl
none_is_bad disks Middle one = refl
none_is_bad disks Closing one = refl

-- the word names it
pub is_named : (guid : List ℕ) (positions : List Position) (state init : ℕ) → named_array ((guid, array positions state init) ∷ []) word ≡ Some (guid, array positions state init)
is_named guid positions state init = simp same_self

module _ (group : List ℕ) (disks : Disks) (apart : AreApart disks) (guid : List ℕ) where
  module _ (state init : ℕ) where
    opening_there : (sm tm : Bool) (fu hu : SpareUse) → is_served_on (members disks sm tm fu hu) (seats_at disks Opening) (extents ((guid, array (positions_at disks Opening) state init) ∷ [])) (array (positions_at disks Opening) state init) ≡ true
    opening_there sm tm fu hu =
        seen.is_there group 0 (members disks sm tm fu hu) guid (seats_at disks Opening) disks.first disks.second disks.third true true true state init (trios.opening_served disks apart sm tm fu hu true true true state init guid)
        (tables.stays_below (seats_at disks Opening) (extent 4096 (position disks.first true)) 0 (tables.opening_first disks apart true))
        (tables.stays_below (seats_at disks Opening) (extent 4096 (position disks.second true)) 1 (tables.opening_second disks apart true))
        (tables.stays_below (seats_at disks Opening) (extent 4096 (position disks.third true)) 2 (tables.opening_third disks apart true))

    middle_there : (sm tm : Bool) (fu hu : SpareUse) (synced : Bool) → is_served_on (members disks sm tm fu hu) (seats_at disks Middle) (extents ((guid, array (position disks.first true ∷ position disks.fourth synced ∷ position disks.third true ∷ []) state init) ∷ [])) (array (position disks.first true ∷ position disks.fourth synced ∷ position disks.third true ∷ []) state init) ≡ true
    middle_there sm tm fu hu synced =
        seen.is_there group 0 (members disks sm tm fu hu) guid (seats_at disks Middle) disks.first disks.fourth disks.third true synced true state init (trios.middle_served disks apart sm tm fu hu true synced true state init guid)
        (tables.stays_below (seats_at disks Middle) (extent 4096 (position disks.first true)) 0 (tables.middle_first disks apart true))
        (tables.stays_below (seats_at disks Middle) (extent 4096 (position disks.fourth synced)) 3 (tables.middle_fourth disks apart synced))
        (tables.stays_below (seats_at disks Middle) (extent 4096 (position disks.third true)) 2 (tables.middle_third disks apart true))

    closing_there : (sm tm : Bool) (fu hu : SpareUse) (synced : Bool) → is_served_on (members disks sm tm fu hu) (seats_at disks Closing) (extents ((guid, array (position disks.first true ∷ position disks.fourth true ∷ position disks.fifth synced ∷ []) state init) ∷ [])) (array (position disks.first true ∷ position disks.fourth true ∷ position disks.fifth synced ∷ []) state init) ≡ true
    closing_there sm tm fu hu synced =
        seen.is_there group 0 (members disks sm tm fu hu) guid (seats_at disks Closing) disks.first disks.fourth disks.fifth true true synced state init (trios.closing_served disks apart sm tm fu hu true true synced state init guid)
        (tables.stays_below (seats_at disks Closing) (extent 4096 (position disks.first true)) 0 (tables.closing_first disks apart true))
        (tables.stays_below (seats_at disks Closing) (extent 4096 (position disks.fourth true)) 3 (tables.closing_fourth disks apart true))
        (tables.stays_below (seats_at disks Closing) (extent 4096 (position disks.fifth synced)) 4 (tables.closing_fifth disks apart synced))

    -- behind a loss one position has no seat
    lost_there : (loss : Loss) → is_served_on (members_lost disks loss) (seats_at disks (turn_behind loss)) (extents ((guid, array (positions_lost disks loss) state init) ∷ [])) (array (positions_lost disks loss) state init) ≡ true
    lost_there OfSecond =
        seen.is_there group 0 (members disks true false Global Global) guid (seats_at disks Middle) disks.first disks.second disks.third true false true state init (trios.opening_served disks apart true false Global Global true false true state init guid)
        (tables.stays_below (seats_at disks Middle) (extent 4096 (position disks.first true)) 0 (tables.middle_first disks apart true))
        (tables.middle_second disks apart false)
        (tables.stays_below (seats_at disks Middle) (extent 4096 (position disks.third true)) 2 (tables.middle_third disks apart true))
    lost_there OfThird =
        seen.is_there group 0 (members disks true true No Global) guid (seats_at disks Closing) disks.first disks.fourth disks.third true true false state init (trios.middle_served disks apart true true No Global true true false state init guid)
        (tables.stays_below (seats_at disks Closing) (extent 4096 (position disks.first true)) 0 (tables.closing_first disks apart true))
        (tables.stays_below (seats_at disks Closing) (extent 4096 (position disks.fourth true)) 3 (tables.closing_fourth disks apart true))
        (tables.closing_third disks apart false)

    turn_there : (turn : Turn) → is_served_on (members_at disks turn) (seats_at disks turn) (extents ((guid, array (positions_at disks turn) state init) ∷ [])) (array (positions_at disks turn) state init) ≡ true
    turn_there Opening = opening_there false false Global Global
    turn_there Middle = middle_there true false No Global true
    turn_there Closing = closing_there true true No No true

    -- ---- useful

    useful : (table : List (ℕ × Member)) (seats : List Seat) (sequence : ℕ) (p q r : Position) → is_served_on table seats (extents ((guid, array (p ∷ q ∷ r ∷ []) state init) ∷ [])) (array (p ∷ q ∷ r ∷ []) state init) ≡ true
        → useless (group_with group sequence table guid (array (p ∷ q ∷ r ∷ []) state init)) seats guid (array (p ∷ q ∷ r ∷ []) state init) ≡ None
    useful table seats sequence p q r is = simp is

    pub early_useful : (sequence : ℕ) (sm tm : Bool) (fu hu : SpareUse) → useless (group_with group sequence (members disks sm tm fu hu) guid (array (positions_at disks Opening) state init)) (seats_at disks Opening) guid (array (positions_at disks Opening) state init) ≡ None
    early_useful sequence sm tm fu hu = useful (members disks sm tm fu hu) (seats_at disks Opening) sequence (position disks.first true) (position disks.second true) (position disks.third true) (opening_there sm tm fu hu)

    pub turn_useful : (sequence : ℕ) (turn : Turn) → useless (group_with group sequence (members_at disks turn) guid (array (positions_at disks turn) state init)) (seats_at disks turn) guid (array (positions_at disks turn) state init) ≡ None
    turn_useful sequence Opening = early_useful sequence false false Global Global
    turn_useful sequence Middle = useful (members_at disks Middle) (seats_at disks Middle) sequence (position disks.first true) (position disks.fourth true) (position disks.third true) (middle_there true false No Global true)
    turn_useful sequence Closing = useful (members_at disks Closing) (seats_at disks Closing) sequence (position disks.first true) (position disks.fourth true) (position disks.fifth true) (closing_there true true No No true)

    pub lost_useful : (sequence : ℕ) (loss : Loss) → useless (group_with group sequence (members_lost disks loss) guid (array (positions_lost disks loss) state init)) (seats_at disks (turn_behind loss)) guid (array (positions_lost disks loss) state init) ≡ None
    lost_useful sequence OfSecond = useful (members_lost disks OfSecond) (seats_at disks Middle) sequence (position disks.first true) (position disks.second false) (position disks.third true) (lost_there OfSecond)
    lost_useful sequence OfThird = useful (members_lost disks OfThird) (seats_at disks Closing) sequence (position disks.first true) (position disks.fourth true) (position disks.third false) (lost_there OfThird)

    -- ---- the level

    floors_are : (turn : Turn) → is_array_within (seats_at disks turn) (array (positions_at disks turn) state init) ≡ true
    floors_are Opening = simp (is_seated, floor_of, same, apart.first_second, apart.first_third, apart.second_third)
    floors_are Middle = simp (is_seated, floor_of, same, apart.first_fourth, apart.first_third, apart.third_fourth)
    floors_are Closing = simp (is_seated, floor_of, same, apart.first_fourth, apart.first_fifth, apart.fourth_fifth)

    pub lost_within : (loss : Loss) → is_array_within (seats_at disks (turn_behind loss)) (array (positions_lost disks loss) state init) ≡ true
    lost_within OfSecond = simp (is_seated, floor_of, same, apart.first_third)
    lost_within OfThird = simp (is_seated, floor_of, same, apart.first_fourth)

    pub turn_within : (turn : Turn) → is_array_within (seats_at disks turn) (array (positions_at disks turn) state init) ≡ true
    turn_within turn = floors_are turn

    -- ---- views

    pub early_view : (sequence : ℕ) (sm tm : Bool) (fu hu : SpareUse) → view_of (group_with group sequence (members disks sm tm fu hu) guid (array (positions_at disks Opening) state init)) guid (seats_at disks Opening) ≡ Ok (volume_on (is_marked (array (positions_at disks Opening) state init)) (places_at Opening))
    early_view sequence sm tm fu hu =
        seen.view group sequence (members disks sm tm fu hu) guid (seats_at disks Opening) disks.first disks.second disks.third true true true state init (trios.opening_served disks apart sm tm fu hu true true true state init guid)
        (tables.stays_below (seats_at disks Opening) (extent 4096 (position disks.first true)) 0 (tables.opening_first disks apart true))
        (tables.stays_below (seats_at disks Opening) (extent 4096 (position disks.second true)) 1 (tables.opening_second disks apart true))
        (tables.stays_below (seats_at disks Opening) (extent 4096 (position disks.third true)) 2 (tables.opening_third disks apart true))
        0 1 2 (tables.opening_first disks apart true) (tables.opening_second disks apart true) (tables.opening_third disks apart true)

    middle_view : (sequence : ℕ) (synced : Bool) → view_of (group_with group sequence (members_at disks Middle) guid (array (position disks.first true ∷ position disks.fourth synced ∷ position disks.third true ∷ []) state init)) guid (seats_at disks Middle)
        ≡ Ok (volume_on (is_marked (array [] state init)) (place 0 true ∷ place 3 synced ∷ place 2 true ∷ []))
    middle_view sequence synced =
        seen.view group sequence (members disks true false No Global) guid (seats_at disks Middle) disks.first disks.fourth disks.third true synced true state init (trios.middle_served disks apart true false No Global true synced true state init guid)
        (tables.stays_below (seats_at disks Middle) (extent 4096 (position disks.first true)) 0 (tables.middle_first disks apart true))
        (tables.stays_below (seats_at disks Middle) (extent 4096 (position disks.fourth synced)) 3 (tables.middle_fourth disks apart synced))
        (tables.stays_below (seats_at disks Middle) (extent 4096 (position disks.third true)) 2 (tables.middle_third disks apart true))
        0 3 2 (tables.middle_first disks apart true) (tables.middle_fourth disks apart synced) (tables.middle_third disks apart true)

    closing_view : (sequence : ℕ) (synced : Bool) → view_of (group_with group sequence (members_at disks Closing) guid (array (position disks.first true ∷ position disks.fourth true ∷ position disks.fifth synced ∷ []) state init)) guid (seats_at disks Closing)
        ≡ Ok (volume_on (is_marked (array [] state init)) (place 0 true ∷ place 3 true ∷ place 4 synced ∷ []))
    closing_view sequence synced =
        seen.view group sequence (members disks true true No No) guid (seats_at disks Closing) disks.first disks.fourth disks.fifth true true synced state init (trios.closing_served disks apart true true No No true true synced state init guid)
        (tables.stays_below (seats_at disks Closing) (extent 4096 (position disks.first true)) 0 (tables.closing_first disks apart true))
        (tables.stays_below (seats_at disks Closing) (extent 4096 (position disks.fourth true)) 3 (tables.closing_fourth disks apart true))
        (tables.stays_below (seats_at disks Closing) (extent 4096 (position disks.fifth synced)) 4 (tables.closing_fifth disks apart synced))
        0 3 4 (tables.closing_first disks apart true) (tables.closing_fourth disks apart true) (tables.closing_fifth disks apart synced)

    pub turn_view : (sequence : ℕ) (turn : Turn) → view_of (group_with group sequence (members_at disks turn) guid (array (positions_at disks turn) state init)) guid (seats_at disks turn) ≡ Ok (volume_on (is_marked (array [] state init)) (places_at turn))
    turn_view sequence Opening = early_view sequence false false Global Global
    turn_view sequence Middle = middle_view sequence true
    turn_view sequence Closing = closing_view sequence true

    pub begun_view : (sequence : ℕ) (loss : Loss) → view_of (group_with group sequence (members_at disks (turn_behind loss)) guid (array (positions_begun disks loss) state init)) guid (seats_at disks (turn_behind loss)) ≡ Ok (volume_on (is_marked (array [] state init)) (places_begun loss))
    begun_view sequence OfSecond = middle_view sequence false
    begun_view sequence OfThird = closing_view sequence false

-- ---- its extents don't meet

module _ (i j k : ℕ) (ij : i ≡ j → ⊥) (ik : i ≡ k → ⊥) (jk : j ≡ k → ⊥) (sx sy sz is_marked : Bool) where
  abbrev three : List Place
  three = place i sx ∷ place j sy ∷ place k sz ∷ []

  -- the slot of each
  slot_is : (position : ℕ) (one : Place) (slot : ℕ) → slice_get three position ≡ Some one → one.slot ≡ Some slot → ((position ≡ 0) × (i ≡ slot)) ⊎ ((position ≡ 1) × (j ≡ slot)) ⊎ ((position ≡ 2) × (k ≡ slot))
  slot_is zero one slot at on = let is : place i sx ≡ one = cc in let same_slot : Some i ≡ Some slot = ap (λ (p : Place). p.slot) is ∙ on in inl (refl, (cc))
  slot_is (suc zero) one slot at on = let is : place j sy ≡ one = cc in let same_slot : Some j ≡ Some slot = ap (λ (p : Place). p.slot) is ∙ on in inr (inl (refl, (cc)))
  slot_is (suc (suc zero)) one slot at on = let is : place k sz ≡ one = cc in let same_slot : Some k ≡ Some slot = ap (λ (p : Place). p.slot) is ∙ on in inr (inr (refl, (cc)))
  slot_is (suc (suc (suc position))) one slot at on = absurd (cc)

  same_position : (position other_position slot : ℕ) → ((position ≡ 0) × (i ≡ slot)) ⊎ ((position ≡ 1) × (j ≡ slot)) ⊎ ((position ≡ 2) × (k ≡ slot))
      → ((other_position ≡ 0) × (i ≡ slot)) ⊎ ((other_position ≡ 1) × (j ≡ slot)) ⊎ ((other_position ≡ 2) × (k ≡ slot)) → position ≡ other_position
  same_position position other_position slot p q =
      ⊎_elim
      (λ (a : (position ≡ 0) × (i ≡ slot)). ⊎_elim (λ (b : (other_position ≡ 0) × (i ≡ slot)). a.0 ∙ sym b.0)
      (⊎_elim (λ (b : (other_position ≡ 1) × (j ≡ slot)). absurd (ij (a.1 ∙ sym b.1))) (λ (b : (other_position ≡ 2) × (k ≡ slot)). absurd (ik (a.1 ∙ sym b.1)))) q)
      (⊎_elim
      (λ (a : (position ≡ 1) × (j ≡ slot)). ⊎_elim (λ (b : (other_position ≡ 0) × (i ≡ slot)). absurd (ij (b.1 ∙ sym a.1)))
      (⊎_elim (λ (b : (other_position ≡ 1) × (j ≡ slot)). a.0 ∙ sym b.0) (λ (b : (other_position ≡ 2) × (k ≡ slot)). absurd (jk (a.1 ∙ sym b.1)))) q)
      (λ (a : (position ≡ 2) × (k ≡ slot)). ⊎_elim (λ (b : (other_position ≡ 0) × (i ≡ slot)). absurd (ik (b.1 ∙ sym a.1)))
      (⊎_elim (λ (b : (other_position ≡ 1) × (j ≡ slot)). absurd (jk (b.1 ∙ sym a.1))) (λ (b : (other_position ≡ 2) × (k ≡ slot)). a.0 ∙ sym b.0)) q))
      p

  pub is_apart : IsApart (volume_on is_marked three)
  is_apart zero position zero other_position one other first second at_one at_first at_other at_second overlaps =
      let is_one : part three ≡ one = cc in
      let is_other : part three ≡ other = cc in
      let first_at : slice_get three position ≡ Some first = ap (λ (p : Part). slice_get p.places position) is_one ∙ at_first in
      let second_at : slice_get three other_position ≡ Some second = ap (λ (p : Part). slice_get p.places other_position) is_other ∙ at_second in
      (refl, same_position position other_position overlaps.slot (slot_is position first overlaps.slot first_at overlaps.on_one) (slot_is other_position second overlaps.slot second_at overlaps.on_other))
  is_apart zero position (suc e) other_position one other first second at_one at_first at_other at_second overlaps = absurd (cc)
  is_apart (suc e) position other_element other_position one other first second at_one at_first at_other at_second overlaps = absurd (cc)

-- ---- what every view keeps

pub is_apart_at : (turn : Turn) (is_marked : Bool) → IsApart (view_at turn is_marked)
is_apart_at Opening is_marked = is_apart 0 1 2 (eqb-false 0 1 refl) (eqb-false 0 2 refl) (eqb-false 1 2 refl) true true true is_marked
is_apart_at Middle is_marked = is_apart 0 3 2 (eqb-false 0 3 refl) (eqb-false 0 2 refl) (eqb-false 3 2 refl) true true true is_marked
is_apart_at Closing is_marked = is_apart 0 3 4 (eqb-false 0 3 refl) (eqb-false 0 4 refl) (eqb-false 3 4 refl) true true true is_marked

pub is_apart_begun : (loss : Loss) → IsApart (view_begun loss)
is_apart_begun OfSecond = is_apart 0 3 2 (eqb-false 0 3 refl) (eqb-false 0 2 refl) (eqb-false 3 2 refl) true false true false
is_apart_begun OfThird = is_apart 0 3 4 (eqb-false 0 3 refl) (eqb-false 0 4 refl) (eqb-false 3 4 refl) true true false false

pub is_volume_at : (turn : Turn) (is_marked : Bool) → IsVolume (view_at turn is_marked)
is_volume_at Opening is_marked = seen.is_volume 0 1 2 true true true is_marked
is_volume_at Middle is_marked = seen.is_volume 0 3 2 true true true is_marked
is_volume_at Closing is_marked = seen.is_volume 0 3 4 true true true is_marked

pub is_volume_begun : (loss : Loss) → IsVolume (view_begun loss)
is_volume_begun OfSecond = seen.is_volume 0 3 2 true false true false
is_volume_begun OfThird = seen.is_volume 0 3 4 true true false false
