-- The disks of a group's seats show the copies that stand for their slots.
use Rattle.std.proofs.Common.{◌≡◌, ℕ, Bool, true, false, List, length, Option, Some, Ok, if◌then◌else◌, ap, sym, ◌∙◌, inl, subst}
use Rattle.std.proofs.lemmas.Option.{slice_get-map, same_Some}
use Rattle.std.specs.Prelude.{option_map, slice_get, unwrap_or}
use Rattle.ddf_bay.specs.State.{BayState}
use Rattle.ddf_copy.specs.declared.copy.DiskCopy.{DiskCopy}
use Rattle.ddf_copy.specs.declared.newest_copy.Newest.{Newest}
use Rattle.ddf_copy.specs.declared.newest_copy.Newest.TheVariants as newests
use Rattle.ddf_copy.specs.Copies.{standing_copy}
use Rattle.ddf_view.specs.View.{View, view_of}
use Rattle.ddf_group.specs.declared.shown.Shown.{Shown as GroupShown}
use Rattle.ddf_group.specs.declared.shown.Shown.TheVariants as shown
use Rattle.ddf_group.specs.Shown.{shown_of}
use Rattle.ddf_history.specs.Reading.{Shown, IsCopyOf}
use Rattle.ddf_history.specs.Reading.Shown.{Nothing}
use Rattle.ddf_history.specs.Scenes.{scene_of, told_of}
use Rattle.ddf_seats.specs.declared.seated.Seated.{Seated}
use Rattle.ddf_seats.specs.Group.{GroupValue}
use Rattle.ddf_assembly.specs.Group.{group_of}
use Rattle.ddf_seats.specs.Seated.{seated}
use Rattle.ddf_assembly.specs.Slots.{newest_from}
use Rattle.ddf_seats.proofs.CommittedSeats.{seated_is}
use Rattle.ddf_history_steps.specs.Kept.{is_read}
use Rattle.ddf_history_steps.proofs.Begun.{found_of}
use Rattle.ddf_history_steps.proofs.Told.{scene_told}

-- The copy that stands for a newest copy is told of it.
standing_told : (found : Newest) (copy : DiskCopy) → standing_copy found ≡ Some copy → IsCopyOf (told_of (shown_of (Some found))) (view_of copy)
unfolding shown_of
standing_told (newests.One which own) copy is = ap view_of (sym (same_Some own copy is))
standing_told (newests.Level own) copy is = ap view_of (sym (same_Some own copy is))
standing_told (newests.TwoDiffer primary secondary) copy is = inl (ap view_of (sym (same_Some primary copy is)))
standing_told (newests.Neither first second) copy is = absurd cc

-- A slot that is seen shows what is seen of it.
seen_shown : (read : Bool) (held : Shown View) (view : View) → IsCopyOf (if read then held else Nothing) view → IsCopyOf held view
seen_shown true held view is = is
seen_shown false held view is = absurd is

module _ {D : Type 0} (state : BayState D) (left : List Bool) (newest : List (Option Newest)) (long : length left ≡ length state.sizes) (is : newest ≡ newest_from state 0 left)
    (named : Option (List ℕ)) (found : GroupValue) (is_found : group_of newest named ≡ Ok found) where
  -- The group's newest copies are those that were read.
  newest_is : found.newest ≡ newest
  newest_is = sym (ap (λ (one : GroupValue). one.newest) (found_of newest named found is_found).is_group)

  -- Each seat's disk shows its copy.
  pub seat_shown : (place : ℕ) (disk : Seated) → slice_get (seated found) place ≡ Some disk → IsCopyOf (scene_of state.sizes state.held disk.seat.slot) (view_of disk.copy)
  seat_shown place disk at =
      let own = seated_is found place disk at in
      let there : slice_get newest disk.seat.slot ≡ Some (Some own.found) = ap (λ (all : List (Option Newest)). slice_get all disk.seat.slot) (sym newest_is) ∙ own.is_found in
      let told = ap (λ (o : Option GroupShown). told_of (unwrap_or o shown.Nothing)) (slice_get-map shown_of newest disk.seat.slot ∙ ap (option_map shown_of) there) in
      seen_shown (is_read left disk.seat.slot) (scene_of state.sizes state.held disk.seat.slot) (view_of disk.copy)
      (subst (λ (one : Shown View). IsCopyOf one (view_of disk.copy)) (sym told ∙ scene_told state left newest long is disk.seat.slot) (standing_told own.found disk.copy own.stands))
