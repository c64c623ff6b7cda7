-- An array whose rebuild rows are set back keeps its data, and has none.
use Rattle.std.proofs.Common.{◌≡◌, ◌∙◌, inr, ℕ, zero, suc, Bool, List, [], ◌∷◌, Option, Some, None, refl, sym, ap, subst, map, slice_get}
use Rattle.std.specs.Prelude.{option_map}
use Rattle.ddf_bay.specs.Sectors.{Image}
use Rattle.ddf_config.specs.declared.array.Array.{Array}
use Rattle.ddf_config.specs.declared.member.Member.{Member}
use Rattle.ddf_config.specs.declared.seat.Seat.{Seat}
use Rattle.ddf_config.specs.ElementValue.{ElementValue}
use Rattle.ddf_config.specs.Members.{is_current}
use Rattle.ddf_plan.specs.Mark.{without_rows}
use Rattle.ddf_array.specs.declared.place.Place.{Place}
use Rattle.ddf_array.specs.Losing.{AreFewer}
use Rattle.ddf_array.specs.Viewing.{place_of}
use Rattle.ddf_array.specs.Volume.{Volume}
use Rattle.ddf_data_array.specs.Allowed.{Allowed}
use Rattle.ddf_data_array.specs.Rows.{HasNoRows}
use Rattle.ddf_data_group.specs.Kept.{KeepsArray}
use Rattle.ddf_data_group.specs.Lessening.{AllStay, AreStaying, IsLessArray}
use Rattle.ddf_data_group.specs.Over.{AreCurrentSeats, IsOver}
use Rattle.ddf_data_group.proofs.Keeping.{kept_staying}
use Rattle.ddf_data_group.proofs.Parts.{of_part}
use Rattle.ddf_data_group.proofs.Marked.{element_without, no_row}
use Rattle.ddf_data_group.proofs.Named.{parts_without, positions_stay}
use Rattle.ddf_stage_promise.specs.Rewinding.{set_back}

back_less : (array : Array) → IsLessArray array (set_back array)
back_less array = record { same_secondary = refl; mark_is = inr refl; less = parts_without array.elements }

stays_without : (c : ℕ → Bool) (known : List (Option ElementValue)) → AllStay c known (map (option_map without_rows) known)
stays_without c [] k before after at there = absurd (cc)
stays_without c (None ∷ known) zero before after at there = absurd (cc)
stays_without c (Some one ∷ known) zero before after at there =
    let same : one ≡ before = cc in
    let made : without_rows one ≡ after = cc in
    subst (λ (x : ElementValue). AreStaying c x.positions after.positions) same (subst (λ (x : ElementValue). AreStaying c one.positions x.positions) made (positions_stay c one.positions))
stays_without c (part ∷ known) (suc k) before after at there = stays_without c known k before after at there

pub back_keeps : (members after_members : List (ℕ × Member)) (seats fewer : List Seat) (array : Array) (image : Image) (allowed : Allowed)
    → ((reference : ℕ) → is_current after_members reference ≡ is_current members reference) → AreCurrentSeats members seats → AreFewer seats fewer
    → KeepsArray members seats array image allowed → KeepsArray after_members fewer (set_back array) image allowed
back_keeps members after_members seats fewer array image allowed current are few kept =
    kept_staying members after_members seats fewer array (set_back array) image allowed current are few (back_less array) (stays_without (is_current members) array.elements) kept

-- ---- no rows are left

pub back_none : (array : Array) (seats : List Seat) (v : Volume) → IsOver seats (set_back array) v → HasNoRows v
back_none array seats v over k j part place part_at place_at =
    let from = of_part seats (set_back array) v over k part part_at in
    let one = element_without array.elements k from.element from.is_element in
    no_row seats one.0.blocks one.0.positions j place
    (ap (λ (x : ElementValue). slice_get (map (place_of seats x.blocks) x.positions) j) (sym one.1) ∙ ap (λ (l : List Place). slice_get l j) (sym from.places_are) ∙ place_at)
