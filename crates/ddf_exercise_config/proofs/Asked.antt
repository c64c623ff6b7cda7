-- Nothing refuses what the commands of an exercise ask of its group.
use Rattle.std.proofs.Common.{◌≡◌, ◌∙◌, ℕ, ◌+◌, ◌≤◌, Bool, true, false, not, List, [], ◌∷◌, Option, None, Result, Ok, refl, ap, map, ◌++◌, nat_lt, lit≤, le-ltb}
use Rattle.ddf_config.specs.declared.array.Array.{Array}
use Rattle.ddf_config.specs.declared.element.Position.{Position}
use Rattle.ddf_config.specs.Configuration.{Configuration}
use Rattle.ddf_config.specs.Refusals.{first_refusal, refuse_if}
use Rattle.ddf_config.specs.States.{is_marked}
use Rattle.ddf_bytes.specs.declared.stamp.Stamp.{Stamp}
use Rattle.ddf_config.specs.declared.refusal.Refusal.{Refusal}
use Rattle.ddf_config.specs.declared.refusal.Refusal.TheVariants as refusals
use Rattle.ddf_config.specs.declared.member.SpareUse.TheVariants.{No, Global}
use Rattle.ddf_config.specs.Shapes.{array_capacity}
use Rattle.ddf_config.proofs.Common.{pass_more}
use Rattle.ddf_plan.specs.declared.change.Change.TheVariants as changes
use Rattle.ddf_words.specs.declared.command.SpareWord.TheVariants as spare_words
use Rattle.ddf_words.specs.declared.command.Wish.TheVariants as wishes
use Rattle.ddf_array.specs.Viewing.{is_array_within, view_of}
use Rattle.ddf_array.specs.Volume.{Volume}
use Rattle.ddf_cells.specs.Degraded.{is_degraded}
use Rattle.ddf_request.specs.Named.{named_array}
use Rattle.ddf_request.specs.NewArray.{new_array_guid}
use Rattle.ddf_request.specs.Usable.{bad_blocks, useless}
use Rattle.ddf_group_commands.specs.Requests.{at_most_one, request_for}
use Rattle.ddf_read_commands.specs.Use.{is_out_of_range}
use Rattle.ddf_read_commands.specs.Read.{block_refusals, needs_parity, read_refusal}
use Rattle.ddf_read_commands.specs.Scrub.{scrub_refusal}
use Rattle.ddf_exercise_config.specs.Disks.{AreApart, Disks}
use Rattle.ddf_exercise_config.specs.Stages.{array, created, founded, lost, lost_position, position, positions_at, positions_lost, resynced, seats_at, spare_disk, whole, with_spare}
use Rattle.ddf_exercise_config.specs.Turns.{Loss, Turn, turn_behind}
use Rattle.ddf_exercise_config.specs.Turns.Loss.{OfSecond, OfThird}
use Rattle.ddf_exercise_config.specs.Turns.Turn.{Closing, Middle, Opening}
use Rattle.ddf_array.specs.Within.{is_within}
use Rattle.ddf_rebuild.specs.Target.{IsTarget}
use Rattle.ddf_exercise_config.specs.Views.{part, place, places_begun, spare_slot, view_at, view_begun}
use Rattle.ddf_exercise_config.specs.Words.{creation, word}
use Rattle.ddf_repair.specs.declared.beginning.Begun.TheVariants.{Fresh}
use Rattle.ddf_repair.proofs.Begins.{three_pass}
use Rattle.ddf_write_commands.specs.Planned.{asked_of, lacks_position, unless_refused}
use Rattle.ddf_write_commands.specs.Resync.{resync_behind, resync_refusals, resync_request}
use Rattle.ddf_write_commands.specs.Write.{write_behind, write_refusals, write_request}
use Rattle.ddf_rebuild_command.specs.Asked.{rebuild_asked, rebuild_changes, rebuild_refusals, rebuild_request, rebuild_unless, rows_in}
use Rattle.ddf_rebuild_command.specs.Notes.{notes, upwards}
use Rattle.ddf_exercise_config.proofs.Bools.{pass_five_more}
use Rattle.ddf_exercise_config.proofs.Seen as seen
use Rattle.ddf_exercise_config.proofs.Spares as spares
use Rattle.ddf_exercise_config.proofs.Used as used
use Rattle.ddf_exercise_config.proofs.Wishes as wished

-- ---- wishes

module _ (group : List ℕ) (disks : Disks) (sequence : ℕ) (stamp : Stamp) where
  pub creation_is : (linux : List ℕ) → request_for 5 stamp (wishes.Create creation) linux (founded group disks sequence) (seats_at disks Opening)
      ≡ Ok (changes.Create (new_array_guid (founded group disks sequence) stamp) (array (positions_at disks Opening) 0 0) ∷ [])
  creation_is linux = ap at_most_one (wished.creation_asked group disks sequence stamp linux)

  pub first_spare_is : (guid linux : List ℕ) → request_for 5 stamp (wishes.Spare 3 spare_words.Global) linux (resynced group disks guid sequence) (seats_at disks Opening) ≡ Ok (changes.Spare disks.fourth.reference Global ∷ [])
  first_spare_is guid linux = ap at_most_one (wished.first_asked group disks sequence stamp guid linux)

  pub second_spare_is : (guid linux : List ℕ) → request_for 5 stamp (wishes.Spare 4 spare_words.Global) linux (with_spare group disks guid sequence) (seats_at disks Opening) ≡ Ok (changes.Spare disks.fifth.reference Global ∷ [])
  second_spare_is guid linux = ap at_most_one (wished.second_asked group disks sequence stamp guid linux)

-- ---- the range

in_range : (p q r : Position) (state init start count : ℕ) → start + count ≤ 8192
    → refuse_if (is_out_of_range (array (p ∷ q ∷ r ∷ []) state init) start count) (refusals.Range (array_capacity (array (p ∷ q ∷ r ∷ []) state init))) ≡ None
in_range p q r state init start count within =
    ap (λ (most : ℕ). refuse_if (nat_lt most (start + count)) (refusals.Range most)) (seen.array_holds p q r state init) ∙ ap (λ (b : Bool). refuse_if b (refusals.Range 8192)) (le-ltb 8192 (start + count) within)

module _ (disks : Disks) (state init start count : ℕ) (within : start + count ≤ 8192) where
  pub turn_range : (turn : Turn) → refuse_if (is_out_of_range (array (positions_at disks turn) state init) start count) (refusals.Range (array_capacity (array (positions_at disks turn) state init))) ≡ None
  turn_range Opening = in_range (position disks.first true) (position disks.second true) (position disks.third true) state init start count within
  turn_range Middle = in_range (position disks.first true) (position disks.fourth true) (position disks.third true) state init start count within
  turn_range Closing = in_range (position disks.first true) (position disks.fourth true) (position disks.fifth true) state init start count within

  pub lost_range : (loss : Loss) → refuse_if (is_out_of_range (array (positions_lost disks loss) state init) start count) (refusals.Range (array_capacity (array (positions_lost disks loss) state init))) ≡ None
  lost_range OfSecond = in_range (position disks.first true) (position disks.second false) (position disks.third true) state init start count within
  lost_range OfThird = in_range (position disks.first true) (position disks.fourth true) (position disks.third false) state init start count within

-- no position is lacking
pub healthy : (turn : Turn) (is_marked : Bool) → is_degraded (view_at turn is_marked) ≡ false
healthy Opening is_marked = refl
healthy Middle is_marked = refl
healthy Closing is_marked = refl

-- an element of so few rows has no notes
pub no_notes : notes 0 512 ≡ []
unfolding notes upwards
no_notes = refl

pub rows_are : (disks : Disks) (loss : Loss) → rows_in (array (positions_lost disks loss) 1 2) 0 ≡ 512
rows_are disks OfSecond = refl
rows_are disks OfThird = refl

pub is_target : (loss : Loss) → IsTarget (view_begun loss) 0 (lost_position loss) (part (places_begun loss)) (place (spare_slot loss) false) (spare_slot loss)
is_target OfSecond = record { is_part = refl; is_place = refl; is_out = refl; is_there = refl }
is_target OfThird = record { is_part = refl; is_place = refl; is_out = refl; is_there = refl }

pub stays_within : (loss : Loss) → is_within (view_begun loss) ≡ true
stays_within OfSecond = refl
stays_within OfThird = refl

module _ (group : List ℕ) (disks : Disks) (apart : AreApart disks) (guid : List ℕ) (sequence : ℕ) where
  -- ---- the array whole

  module _ (turn : Turn) where
    abbrev one : Array
    one = array (positions_at disks turn) 0 2

    abbrev config : Configuration
    config = whole group disks guid turn sequence

    -- enough of it is there
    pub level_is : refuse_if (not (is_array_within (seats_at disks turn) one)) refusals.Lost ≡ None
    level_is = ap (λ (b : Bool). refuse_if (not b) refusals.Lost) (used.turn_within group disks apart guid 0 2 turn)

    pub scrubs : scrub_refusal config (seats_at disks turn) (named_array config.arrays word) ≡ None
    scrubs =
        ap (scrub_refusal config (seats_at disks turn)) (used.is_named guid (positions_at disks turn) 0 2)
        ∙ pass_five_more (useless config (seats_at disks turn) guid one) (refuse_if (is_out_of_range one 0 0) (refusals.Range (array_capacity one))) (bad_blocks (seats_at disks turn) one) None None
        (refuse_if (not (is_array_within (seats_at disks turn) one)) refusals.Lost ∷ [])
        (used.turn_useful group disks apart guid 0 2 sequence turn) (turn_range disks 0 2 0 0 (lit≤ tt) turn) (used.none_is_bad disks turn one) refl refl
        (pass_more (refuse_if (not (is_array_within (seats_at disks turn) one)) refusals.Lost) [] level_is refl)

    sure : (start count : ℕ) → refuse_if (needs_parity (view_of config guid (seats_at disks turn)) start count) refusals.Unsure ≡ None
    sure start count = ap (λ (v : Result Volume Refusal). refuse_if (needs_parity v start count) refusals.Unsure) (used.turn_view group disks apart guid 0 2 sequence turn)

    pub reads : (start count : ℕ) → start + count ≤ 8192 → read_refusal config (seats_at disks turn) (named_array config.arrays word) start count ≡ None
    reads start count within =
        ap (λ (entry : Option (List ℕ × Array)). read_refusal config (seats_at disks turn) entry start count) (used.is_named guid (positions_at disks turn) 0 2)
        ∙ pass_five_more (useless config (seats_at disks turn) guid one) (refuse_if (is_out_of_range one start count) (refusals.Range (array_capacity one))) (bad_blocks (seats_at disks turn) one) None None
        (block_refusals config (seats_at disks turn) (guid, one) start count)
        (used.turn_useful group disks apart guid 0 2 sequence turn) (turn_range disks 0 2 start count within turn) (used.none_is_bad disks turn one) refl refl
        (pass_more (refuse_if (not (is_array_within (seats_at disks turn) one)) refusals.Lost) (refuse_if (needs_parity (view_of config guid (seats_at disks turn)) start count) refusals.Unsure ∷ []) level_is
        (pass_more (refuse_if (needs_parity (view_of config guid (seats_at disks turn)) start count) refusals.Unsure) [] (sure start count) refl))

    -- ---- a write

    pub writes : (start count : ℕ) → start + count ≤ 8192 → write_request word start count config (seats_at disks turn) ≡ Ok (changes.Mark guid ∷ changes.Unmark guid 2 ∷ [])
    writes start count within =
        ap (asked_of (write_refusals start count) write_behind config (seats_at disks turn)) (used.is_named guid (positions_at disks turn) 0 2)
        ∙ ap (unless_refused (changes.Mark guid ∷ changes.Unmark guid 2 ∷ []))
        (pass_five_more (useless config (seats_at disks turn) guid one) (refuse_if (is_out_of_range one start count) (refusals.Range (array_capacity one))) (bad_blocks (seats_at disks turn) one) None None
        (refuse_if (not (is_array_within (seats_at disks turn) one)) refusals.Lost ∷ None ∷ refuse_if (lacks_position (view_of config guid (seats_at disks turn))) refusals.Degraded ∷ [])
        (used.turn_useful group disks apart guid 0 2 sequence turn) (turn_range disks 0 2 start count within turn) (used.none_is_bad disks turn one) refl refl
        (three_pass (refuse_if (not (is_array_within (seats_at disks turn) one)) refusals.Lost) None (refuse_if (lacks_position (view_of config guid (seats_at disks turn))) refusals.Degraded) level_is refl
        (ap (λ (v : Result Volume Refusal). refuse_if (lacks_position v) refusals.Degraded) (used.turn_view group disks apart guid 0 2 sequence turn) ∙ ap (λ (b : Bool). refuse_if b refusals.Degraded) (healthy turn false))))

  -- ---- a resync

  abbrev new : Array
  new = array (positions_at disks Opening) 16 0

  abbrev before : Configuration
  before = created group disks guid sequence

  pub resyncs : resync_request word before (seats_at disks Opening) ≡ Ok (changes.Mark guid ∷ changes.Unmark guid 2 ∷ [])
  resyncs =
      ap (asked_of resync_refusals resync_behind before (seats_at disks Opening)) (used.is_named guid (positions_at disks Opening) 16 0)
      ∙ ap (unless_refused (changes.Mark guid ∷ changes.Unmark guid 2 ∷ []))
      (pass_five_more (useless before (seats_at disks Opening) guid new) (refuse_if (is_out_of_range new 0 0) (refusals.Range (array_capacity new))) (bad_blocks (seats_at disks Opening) new) None None
      (refuse_if (not (is_array_within (seats_at disks Opening) new)) refusals.Lost ∷ refuse_if (lacks_position (view_of before guid (seats_at disks Opening))) refusals.Unsure ∷ [])
      (used.early_useful group disks apart guid 16 0 sequence false false No No) (turn_range disks 16 0 0 0 (lit≤ tt) Opening) (used.none_is_bad disks Opening new) refl refl
      (pass_more (refuse_if (not (is_array_within (seats_at disks Opening) new)) refusals.Lost) (refuse_if (lacks_position (view_of before guid (seats_at disks Opening))) refusals.Unsure ∷ [])
      (ap (λ (b : Bool). refuse_if (not b) refusals.Lost) (used.turn_within group disks apart guid 16 0 Opening))
      (pass_more (refuse_if (lacks_position (view_of before guid (seats_at disks Opening))) refusals.Unsure) []
      (ap (λ (v : Result Volume Refusal). refuse_if (lacks_position v) refusals.Unsure) (used.early_view group disks apart guid 16 0 sequence false false No No)) refl)))

  -- ---- a rebuild

  module _ (loss : Loss) where
    abbrev left : Array
    left = array (positions_lost disks loss) 1 2

    abbrev behind : Configuration
    behind = lost group disks guid loss sequence

    none_refuses : first_refusal (rebuild_refusals behind (seats_at disks (turn_behind loss)) (guid, left)) ≡ None
    none_refuses =
        pass_five_more (useless behind (seats_at disks (turn_behind loss)) guid left) (refuse_if (is_out_of_range left 0 0) (refusals.Range (array_capacity left))) (bad_blocks (seats_at disks (turn_behind loss)) left) None None
        (refuse_if (not (is_array_within (seats_at disks (turn_behind loss)) left)) refusals.Lost ∷ None ∷ [])
        (used.lost_useful group disks apart guid 1 2 sequence loss) (lost_range disks 1 2 0 0 (lit≤ tt) loss) (used.none_is_bad disks (turn_behind loss) left) refl refl
        (pass_more (refuse_if (not (is_array_within (seats_at disks (turn_behind loss)) left)) refusals.Lost) (None ∷ [])
        (ap (λ (b : Bool). refuse_if (not b) refusals.Lost) (used.lost_within group disks apart guid 1 2 loss)) refl)

  changes_are : (loss : Loss) → rebuild_changes (seats_at disks (turn_behind loss)) (guid, array (positions_lost disks loss) 1 2)
      (Ok (Fresh (record { element = 0; position = lost_position loss }) (changes.Begin guid 0 (lost_position loss) (spare_disk disks loss) 0)))
      ≡ Ok (changes.Begin guid 0 (lost_position loss) (spare_disk disks loss) 0 ∷ changes.Finish guid 0 (lost_position loss) ∷ [])
  changes_are OfSecond = ap (λ (rows : List ℕ). Ok (changes.Begin guid 0 1 disks.fourth.reference 0 ∷ map (λ row. changes.Progress guid 0 1 row) rows ++ changes.Finish guid 0 1 ∷ [])) no_notes
  changes_are OfThird = ap (λ (rows : List ℕ). Ok (changes.Begin guid 0 2 disks.fifth.reference 0 ∷ map (λ row. changes.Progress guid 0 2 row) rows ++ changes.Finish guid 0 2 ∷ [])) no_notes

  pub rebuilds : (linux : List ℕ) (loss : Loss) → rebuild_request word linux (lost group disks guid loss sequence) (seats_at disks (turn_behind loss))
      ≡ Ok (changes.Begin guid 0 (lost_position loss) (spare_disk disks loss) 0 ∷ changes.Finish guid 0 (lost_position loss) ∷ [])
  rebuilds linux loss =
      ap (rebuild_asked (lost group disks guid loss sequence) (seats_at disks (turn_behind loss)) linux) (used.is_named guid (positions_lost disks loss) 1 2)
      ∙ ap (rebuild_unless (lost group disks guid loss sequence) (seats_at disks (turn_behind loss)) linux (guid, array (positions_lost disks loss) 1 2)) (none_refuses loss)
      ∙ ap (rebuild_changes (seats_at disks (turn_behind loss)) (guid, array (positions_lost disks loss) 1 2)) (spares.begins_beside group disks apart guid sequence linux loss)
      ∙ changes_are loss
