-- An array that a write found unmarked was redundant, where something was promised of it: so it is behind the write.
use Rattle.std.proofs.Common.{◌≡◌, ◌⊎◌, ◌∙◌, inl, inr, ℕ, zero, suc, Bool, true, false, List, [], ◌∷◌, map, Some, refl, ap, sym, subst}
use Rattle.std.specs.Prelude.{slice_get}
use Rattle.ddf_bay.specs.Sectors.{Image}
use Rattle.ddf_array.specs.declared.part.Part.{Part}
use Rattle.ddf_array.specs.declared.place.Place.{Place}
use Rattle.ddf_array.specs.Apart.{IsApart}
use Rattle.ddf_array.specs.Redundant.{IsRedundant}
use Rattle.ddf_array.specs.Sound.{AreSectors}
use Rattle.ddf_array.specs.Volume.{IsVolume, Volume, volume}
use Rattle.ddf_array.specs.Within.{is_within}
use Rattle.ddf_cells.specs.Degraded.{is_degraded}
use Rattle.ddf_write.specs.RowWrites.{HaveSectors, IsSure}
use Rattle.ddf_write.proofs.RedundantAfter.{redundant_after}
use Rattle.ddf_write.specs.Writing.{HasWritten, IsLeftByWrite}
use Rattle.ddf_data_array.specs.Allowed.{Allowed}
use Rattle.ddf_data_array.specs.Fewer.{AreFewerParts, ArePlaces, IsAlikePlace, IsFewer, IsFewerPlace, LeavesParity}
use Rattle.ddf_data_array.specs.Kept.{IsKeptData}
use Rattle.ddf_data_array.proofs.Lessened.{sound_less}
use Rattle.ddf_write_commands.proofs.Marked.{cleared, cleared_place, with_mark}

-- ---- an array without the rows that were rebuilt

same_places : (places : List Place) → ArePlaces IsFewerPlace places (map cleared_place places)
same_places [] = tt
same_places (place ∷ places) = (inr (refl, refl, refl), same_places places)

alike_places : (places : List Place) → ArePlaces IsAlikePlace places (map cleared_place places)
alike_places [] = tt
alike_places (place ∷ places) = (inr (refl, refl, refl), alike_places places)

same_parts : (parts : List Part) → AreFewerParts parts (map cleared parts)
same_parts [] = tt
same_parts (part ∷ parts) = ((refl, same_places part.places), same_parts parts)

cleared_at : (parts : List Part) (element : ℕ) (one other : Part) → slice_get parts element ≡ Some one → slice_get (map cleared parts) element ≡ Some other → cleared one ≡ other
cleared_at [] element one other at there = absurd cc
cleared_at (part ∷ parts) zero one other at there =
    let own : part ≡ one = cc in
    let next : cleared part ≡ other = cc in
    ap cleared (sym own) ∙ next
cleared_at (part ∷ parts) (suc element) one other at there = cleared_at parts element one other at there

-- It is the same, and is redundant where the array was.
abbrev unmarked : Volume → Volume
unmarked w = volume false w.tiers (map cleared w.parts)

is_fewer : (w : Volume) → w.marked ≡ false → IsFewer w (unmarked w)
is_fewer w mark = record { mark_is = inr (sym mark); same_tiers = refl; fewer_parts = same_parts w.parts }

leaves_parity : (is_absent : ℕ → ℕ → Bool) (w : Volume) → LeavesParity is_absent is_absent w (unmarked w)
leaves_parity is_absent w = record {
  stays = λ mark within element one other at there keeps lacks none. inl (
    subst (λ (part : Part). ArePlaces IsAlikePlace one.places part.places) (cleared_at w.parts element one other at there) (alike_places one.places),
    none,
  );
}

marked_redundant : (is_absent : ℕ → ℕ → Bool) (w : Volume) → IsVolume (with_mark w) → is_within (with_mark w) ≡ true → w.marked ≡ false → (image : Image) (allowed : Allowed) → IsKeptData is_absent w image allowed
    → IsRedundant (with_mark w) image
marked_redundant is_absent w known within mark image allowed kept =
    let known_unmarked : IsVolume (unmarked w) = record { array_is = known.array_is; has_sizes = known.has_sizes; are_parts = known.are_parts } in
    let less = sound_less is_absent is_absent w (unmarked w) image allowed known_unmarked (is_fewer w mark) (leaves_parity is_absent w) kept in
    let is = less.redundant refl within in
    record { agree = is.agree; sum_to_zero = is.sum_to_zero }

-- An unmarked array that keeps what is promised of it is redundant, also once it is marked.
pub before_redundant : (is_absent : ℕ → ℕ → Bool) (w v : Volume) → IsVolume v → is_within v ≡ true → w.marked ≡ false → (v ≡ w) ⊎ (v ≡ with_mark w) → (image : Image) (allowed : Allowed)
    → IsKeptData is_absent w image allowed → IsRedundant v image
before_redundant is_absent w v known within mark (inl same) image allowed kept =
    subst (λ (x : Volume). IsRedundant x image) (sym same) (kept.sound.redundant mark (ap is_within (sym same) ∙ within))
before_redundant is_absent w v known within mark (inr marked) image allowed kept =
    subst (λ (x : Volume). IsRedundant x image) (sym marked)
    (marked_redundant is_absent w (subst IsVolume marked known) (ap is_within (sym marked) ∙ within) mark image allowed kept)

-- So it is behind a write.
pub behind_redundant : (failed : ℕ → Type 0) (v : Volume) → IsVolume v → IsApart v → is_degraded v ≡ false → (start : ℕ) (sectors : List (List ℕ)) (before behind : Image) → HaveSectors v before → AreSectors behind → IsRedundant v before
    → IsLeftByWrite v start sectors before behind → HasWritten v start sectors (IsSure failed v before) behind → IsRedundant v behind
behind_redundant failed v known apart whole start sectors before behind were are redundant left has =
    redundant_after v known apart whole start sectors before behind are redundant left Unit tt (record { cells = has.cells; parity = λ sure. has.parity (inr (were, redundant)) })
