-- What an array keeps through losses of disks.
use Rattle.std.proofs.Common.{◌≡◌, ◌∙◌, inr, ℕ, Bool, true, false, List, [], ◌∷◌, Option, Some, None, refl, sym, subst, slice_get}
use Rattle.ddf_bay.specs.Sectors.{Image}
use Rattle.ddf_config.specs.declared.array.Array.{Array}
use Rattle.ddf_config.specs.declared.element.Position.{Position}
use Rattle.ddf_config.specs.declared.member.Member.{Member}
use Rattle.ddf_config.specs.declared.seat.Seat.{Seat}
use Rattle.ddf_config.specs.ElementValue.{ElementValue}
use Rattle.ddf_config.specs.Members.{is_current}
use Rattle.ddf_config.specs.States.{is_marked}
use Rattle.ddf_plan.specs.Lose.{lost_array}
use Rattle.ddf_array.specs.Losing.{AreFewer}
use Rattle.ddf_data_array.specs.Allowed.{Allowed}
use Rattle.ddf_data_array.proofs.LessRows.{kept_less}
use Rattle.ddf_data_group.specs.Over.{AreCurrentSeats, absent_in}
use Rattle.ddf_data_group.specs.Kept.{KeepsArray}
use Rattle.ddf_data_group.specs.Lessening.{AllStay, AreLessParts, AreLessPositions, AreStaying, IsLessArray}
use Rattle.ddf_data_group.proofs.Lessened.{lessened}
use Rattle.ddf_data_group.proofs.LessRows.{rows_left}
use Rattle.ddf_data_group.proofs.Lost.{is_less, lost_parity}
use Rattle.ddf_data_group.proofs.Staying.{leaves_parity}

-- every change that leaves less and lets positions stay: losses of disks, and changes that put a disk in the place of a missing one
pub kept_staying : (members after_members : List (ℕ × Member)) (seats fewer : List Seat) (before after : Array) (image : Image) (allowed : Allowed)
    → ((reference : ℕ) → is_current after_members reference ≡ is_current members reference) → AreCurrentSeats members seats → AreFewer seats fewer
    → IsLessArray before after → AllStay (is_current members) before.elements after.elements
    → KeepsArray members seats before image allowed → KeepsArray after_members fewer after image allowed
kept_staying members after_members seats fewer before after image allowed current are few less stay kept v over =
    let old = lessened members seats fewer before after v are few less over in
    kept_less (absent_in members seats before.elements) (absent_in after_members fewer after.elements) old.0 v image allowed over.is_volume old.2
    (leaves_parity members after_members current seats fewer are few before after old.0 v less.less stay old.1 over) (rows_left seats fewer few before after old.0 v less.less old.1 over) (kept old.0 old.1)

-- the same array

pub stay_position : (c : ℕ → Bool) (positions : List Position) → AreStaying c positions positions
stay_position c [] = tt
stay_position c (position ∷ positions) = (inr (refl, refl, refl), stay_position c positions)

pub less_position : (positions : List Position) → AreLessPositions positions positions
less_position [] = tt
less_position (position ∷ positions) = (inr (refl, refl, refl, inr refl), less_position positions)

pub less_parts : (known : List (Option ElementValue)) → AreLessParts known known
less_parts [] = tt
less_parts (None ∷ known) = (tt, less_parts known)
less_parts (Some element ∷ known) = (record { same_level = refl; same_qualifier = refl; same_strip = refl; same_blocks = refl; less = less_position element.positions }, less_parts known)

pub same_element : (o : Option (Option ElementValue)) (one other : ElementValue) → o ≡ Some (Some one) → o ≡ Some (Some other) → one ≡ other
same_element None one other a b = absurd (cc)
same_element (Some found) one other a b = cc

pub kept_as : (members after_members : List (ℕ × Member)) (seats fewer : List Seat) (array : Array) (image : Image) (allowed : Allowed)
    → ((reference : ℕ) → is_current after_members reference ≡ is_current members reference) → AreCurrentSeats members seats → AreFewer seats fewer
    → KeepsArray members seats array image allowed → KeepsArray after_members fewer array image allowed
kept_as members after_members seats fewer array image allowed current are few kept =
    kept_staying members after_members seats fewer array array image allowed current are few (record { same_secondary = refl; mark_is = inr refl; less = less_parts array.elements })
    (λ k one other a b. subst (λ (x : ElementValue). AreStaying (is_current members) one.positions x.positions) (same_element (slice_get array.elements k) one other a b) (stay_position (is_current members) one.positions)) kept

pub kept_fewer : (members : List (ℕ × Member)) (seats fewer : List Seat) (array : Array) (image : Image) (allowed : Allowed) → AreCurrentSeats members seats → AreFewer seats fewer
    → KeepsArray members seats array image allowed → KeepsArray members fewer array image allowed
kept_fewer members seats fewer array image allowed are few kept = kept_as members members seats fewer array image allowed (λ reference. refl) are few kept

-- members are counted as lost or failed
pub kept_lost : (members after_members : List (ℕ × Member)) (references : List ℕ) (seats fewer : List Seat) (array : Array) (image : Image) (allowed : Allowed)
    → AreCurrentSeats members seats → AreCurrentSeats after_members fewer → AreFewer seats fewer
    → KeepsArray members seats array image allowed → KeepsArray after_members fewer (lost_array after_members references array) image allowed
kept_lost members after_members references seats fewer array image allowed are after_are few kept v over =
    let old = lessened members seats fewer array (lost_array after_members references array) v are few (is_less references after_members array) over in
    kept_less (absent_in members seats array.elements) (absent_in after_members fewer (lost_array after_members references array).elements) old.0 v image allowed over.is_volume old.2
    (lost_parity (absent_in members seats array.elements) after_members fewer references array old.0 v after_are over)
    (rows_left seats fewer few array (lost_array after_members references array) old.0 v (is_less references after_members array).less old.1 over) (kept old.0 old.1)

-- an array that is marked
pub kept_marked : (members after_members : List (ℕ × Member)) (seats fewer : List Seat) (before after : Array) (image : Image) (allowed : Allowed) → AreCurrentSeats members seats → AreFewer seats fewer
    → IsLessArray before after → is_marked after ≡ true → KeepsArray members seats before image allowed → KeepsArray after_members fewer after image allowed
kept_marked members after_members seats fewer before after image allowed are few less marked kept v over =
    let old = lessened members seats fewer before after v are few less over in
    let is_v = over.marked_is ∙ marked in
    kept_less (absent_in members seats before.elements) (absent_in after_members fewer after.elements) old.0 v image allowed over.is_volume old.2
    (record { stays = λ unmarked within k one other one_at other_at parity lacks none. absurd (true_false (sym is_v ∙ unmarked)) }) (rows_left seats fewer few before after old.0 v less.less old.1 over) (kept old.0 old.1)
  where
    true_false : true ≡ false → ⊥
    true_false e = cc
