-- The values of blocks once they are written, and a sound array.
use Rattle.std.proofs.Common.{◌≡◌, ◌≢◌, ◌∙◌, ℕ, ◌+◌, ◌/◌, ◌<◌, Bool, true, false, not, List, [], ◌∷◌, Some, None, refl, sym, ap, arith, length, slice_get}
use Rattle.std.specs.Prelude.{count_by, nat_lt, slice_index_or, if◌then◌else◌}
use Rattle.std.specs.List.{list_all}
use Rattle.std.proofs.lemmas.List.Sums.{sum_by-cons}
use Rattle.ddf_lemmas.proofs.Lists.{at_first}
use Rattle.ddf_lemmas.proofs.Tests.{and_first, and_second, second_of_and_not}
use Rattle.ddf_bay.specs.Sectors.{Image}
use Rattle.ddf_primary.proofs.Needs.{parity_keeps}
use Rattle.ddf_array.specs.declared.place.Place.{Place}
use Rattle.ddf_array.specs.declared.site.Site.{Site}
use Rattle.ddf_array.specs.Apart.{IsApart}
use Rattle.ddf_array.specs.Levels.{keeps_parity}
use Rattle.ddf_array.specs.Places.{is_available}
use Rattle.ddf_array.specs.Redundant.{IsRedundant}
use Rattle.ddf_array.specs.Sound.{AreSectors, IsSound}
use Rattle.ddf_array.specs.Sources.{copies}
use Rattle.ddf_array.specs.Values.{value}
use Rattle.ddf_array.specs.Volume.{Volume, IsVolume, capacity, volume}
use Rattle.ddf_array.specs.Within.{is_within}
use Rattle.ddf_read.specs.declared.fault.VolumeFault.{VolumeFault}
use Rattle.ddf_read.specs.declared.fault.VolumeFault.TheVariants.{Range, Lost, Degraded}
use Rattle.ddf_cells.specs.Degraded.{is_degraded}
use Rattle.ddf_write.specs.WriteRefused.{write_refusal}
use Rattle.ddf_write.specs.Writing.{HasWritten, IsLeftByWrite}
use Rattle.ddf_cells.proofs.DataCells.{value_first}
use Rattle.ddf_cells.proofs.Whole.{none_lacks}
use Rattle.ddf_write.proofs.WriteLeaves.{cell_stays, unmarked_redundant}

-- ---- values

pub value_written : (v : Volume) (start : ℕ) (sectors : List (List ℕ)) (sure : Type 0) (image : Image) → HasWritten v start sectors sure image → (k i : ℕ) (one : Site) → k < length sectors
    → slice_get (copies v (start + k)) i ≡ Some one → value v image (start + k) ≡ Some (slice_index_or sectors k [])
value_written v start sectors sure image written k i one below at =
    let first = at_first (copies v (start + k)) i one at in
    value_first v image (start + k) first.0 first.1 ∙ ap Some (written.cells k 0 first.0 below first.1)

pub value_kept : (v : Volume) → IsVolume v → IsApart v → (start : ℕ) (sectors : List (List ℕ)) (before after : Image) → IsLeftByWrite v start sectors before after → (block i : ℕ) (one : Site)
    → ((k : ℕ) → k < length sectors → block ≢ start + k) → slice_get (copies v block) i ≡ Some one → value v after block ≡ value v before block
value_kept v known apart start sectors before after left block i one other at =
    let first = at_first (copies v block) i one at in
    value_first v after block first.0 first.1 ∙ ap Some (cell_stays v known apart start sectors before after left block 0 first.0 other first.1) ∙ sym (value_first v before block first.0 first.1)

-- ---- a sound array

none_away : (places : List Place) → list_all is_available places ≡ true → count_by (λ place. not (is_available place)) places ≡ 0
none_away [] all = refl
none_away (p ∷ places) all =
    let here : is_available p ≡ true = and_first (is_available p) (list_all is_available places) all in
    let rest = none_away places (and_second (is_available p) (list_all is_available places) all) in
    sum_by-cons (λ (q : Place). if not (is_available q) then 1 else 0) p places ∙ ap (λ b. (if not b then 1 else 0) + count_by (λ place. not (is_available place)) places) here ∙ omega (arith, rest)

pub sound_after : (is_absent : ℕ → ℕ → Bool) (v : Volume) (marked : Bool) (image : Image) → is_degraded v ≡ false → AreSectors image → IsRedundant v image → IsSound is_absent (volume marked v.tiers v.parts) image
sound_after is_absent v marked image whole are redundant = record {
  are_sectors = are;
  redundant = λ unmarked within. unmarked_redundant v image marked redundant;
  parity = λ unmarked within element sector position part one is_part away absent is_parity below at holds.
      let lacks = none_lacks v.parts whole element part is_part in
      let keep = parity_keeps part.shape.layout part.shape.members (sector / part.shape.strip) position is_parity in
      let none = none_away part.places (second_of_and_not (keeps_parity part.shape.layout) (list_all is_available part.places) keep lacks) in
      absurd (omega (arith, away, none));
}

-- nor is one that isn't refused degraded, or not within its level
not_refused_by : (past within degraded : Bool) (a b c : VolumeFault) → (if past then Some a else (if not within then Some b else (if degraded then Some c else None))) ≡ None → (within ≡ true) × (degraded ≡ false)
not_refused_by true within degraded a b c none = absurd (cc)
not_refused_by false false degraded a b c none = absurd (cc)
not_refused_by false true true a b c none = absurd (cc)
not_refused_by false true false a b c none = (refl, refl)

pub not_refused : (v : Volume) (start count : ℕ) → write_refusal v start count ≡ None → (is_within v ≡ true) × (is_degraded v ≡ false)
not_refused v start count none = not_refused_by (nat_lt (capacity v) (start + count)) (is_within v) (is_degraded v) (Range (capacity v)) Lost Degraded none
