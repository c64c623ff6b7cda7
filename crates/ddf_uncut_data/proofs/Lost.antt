-- An array of which a disk was lost, and is rebuilt on another one.
use Rattle.std.proofs.Common.{◌≡◌, ◌≢◌, ℕ, ◌≤◌, true, false, List, [], ◌∷◌, min, Some, sym, subst, arith, slice_get}
use Rattle.ddf_bay.specs.Sectors.{Image}
use Rattle.ddf_array.specs.declared.place.Place.{Place}
use Rattle.ddf_array.specs.Apart.{IsApart}
use Rattle.ddf_array.specs.Places.{is_available}
use Rattle.ddf_array.specs.Sound.{AreSectors}
use Rattle.ddf_array.specs.Volume.{IsVolume, Volume}
use Rattle.ddf_array.specs.Within.{is_mirrored, is_within}
use Rattle.ddf_rebuild.specs.Target.{IsOut}
use Rattle.ddf_data_array.specs.Changing.{in_sync}
use Rattle.ddf_data_array.specs.Rows.{HasNoRows, IsFirstOut}
use Rattle.ddf_seats.specs.Group.{GroupValue}
use Rattle.ddf_answer.specs.Call.{Work}
use Rattle.ddf_rebuild_command.specs.Asked.{rows_in}
use Rattle.ddf_rebuild_command.specs.Planned.{IsPlanned, first_row}
use Rattle.ddf_rebuild_command.specs.Rebuilt.{AreRoundsDone}
use Rattle.ddf_rebuild_command.specs.Rounds.{Round}
use Rattle.ddf_uncut_data.specs.Aside.{LieAside}
use Rattle.ddf_uncut_data.specs.Blocks.{HoldsBlocks}
use Rattle.ddf_uncut_data.specs.Going.{GoOn}
use Rattle.ddf_uncut_data.specs.Beside.{IsBeside}
use Rattle.ddf_uncut_data.specs.Replaced.{with_place}
use Rattle.ddf_uncut_data.specs.Whole.{IsWhole}
use Rattle.ddf_uncut_data.proofs.Held.{alike_beside, holds_same}
use Rattle.ddf_uncut_data.proofs.Replaced.{holds_replaced, no_rows_replaced, no_rows_synced, only_out, whole_but, whole_synced}
use Rattle.ddf_uncut_data.proofs.Rounds.{holds_rebuilt}

pub rebuilt_rows : (v : Volume) (element position : ℕ) (new : Place) → new.row ≡ 0 → HasNoRows v → HasNoRows (in_sync element position (with_place element position new v))
rebuilt_rows v element position new unset none = no_rows_synced (with_place element position new v) element position (no_rows_replaced v element position new unset none)

module _ (found : GroupValue) (timestamp : ℕ) (word : List ℕ) (plan : IsPlanned found timestamp word) (v : Volume) (new : Place) (is_view : plan.volume ≡ with_place plan.target.element plan.target.position new v)
    (whole : IsWhole v) where
  out : IsOut (with_place plan.target.element plan.target.position new v) plan.target.element plan.target.position
  out = subst (λ (w : Volume). IsOut w plan.target.element plan.target.position) is_view plan.is_out

  pub rebuilt_whole : IsWhole (in_sync plan.target.element plan.target.position (with_place plan.target.element plan.target.position new v))
  rebuilt_whole =
      whole_synced (with_place plan.target.element plan.target.position new v) plan.target.element plan.target.position out (whole_but v plan.target.element plan.target.position new whole)

  module _ (none : HasNoRows v) (unset : new.row ≡ 0) where
    now_rows : HasNoRows (with_place plan.target.element plan.target.position new v)
    now_rows = no_rows_replaced v plan.target.element plan.target.position new unset none

    plan_rows : HasNoRows plan.volume
    plan_rows = subst HasNoRows (sym is_view) now_rows

    goes_on : plan.kept ≡ 0 → GoOn plan.volume plan.target (first_row plan) plan.rounds
    goes_on fresh = record {
      counted = λ part place slot target.
          let low : first_row plan ≤ plan.kept = least plan.kept (rows_in plan.entry.1 plan.target.element) in
          omega (arith, low, fresh);
      behind = λ number part place slot target.
          let row = plan_rows plan.target.element plan.target.position part place target.is_part target.is_place in omega (arith, row);
    }
      where
        least : (a b : ℕ) → min a b ≤ a
        least a b = omega arith

    pub holds_lost : {D : Type 0} (work : Work D) (gone : ℕ) (before : Image) (blocks : ℕ → List ℕ) → is_available new ≡ false → is_mirrored v ≡ false → plan.kept ≡ 0 → IsBeside (with_place plan.target.element plan.target.position new v) gone
        → ((slot lba : ℕ) → slot ≢ gone → work.old.held slot lba ≡ before slot lba) → AreSectors work.old.held → work.new.tells_left → LieAside work.old.sizes plan.volume plan.first
        → ((number : ℕ) (round : Round) → slice_get plan.rounds number ≡ Some round → LieAside work.old.sizes plan.volume (round.step ∷ [])) → AreSectors work.new.held → AreRoundsDone work found plan
        → HoldsBlocks v before blocks → HoldsBlocks (in_sync plan.target.element plan.target.position (with_place plan.target.element plan.target.position new v)) work.new.held blocks
    holds_lost work gone before blocks away alone fresh beside same old_are tell aside each new_are done holds =
        let w = with_place plan.target.element plan.target.position new v in
        let less = holds_replaced v plan.target.element plan.target.position new before blocks away unset (subst IsVolume is_view plan.known) (subst IsApart is_view plan.apart)
        (subst (λ (x : Volume). is_within x ≡ true) is_view plan.within) alone holds in
        let there = holds_same w before work.old.held blocks old_are (alike_beside w gone before work.old.held beside same) less in
        let first = subst (λ (x : Volume). IsFirstOut x plan.target.element plan.target.position) (sym is_view)
        (only_out w plan.target.element plan.target.position (whole_but v plan.target.element plan.target.position new whole)) in
        subst (λ (x : Volume). HoldsBlocks (in_sync plan.target.element plan.target.position x) work.new.held blocks) is_view
        (holds_rebuilt work found timestamp word plan blocks tell aside each (goes_on fresh) first new_are done (subst (λ (x : Volume). HoldsBlocks x work.old.held blocks) (sym is_view) there))
