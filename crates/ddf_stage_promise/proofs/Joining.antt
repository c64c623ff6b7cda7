-- The data of a group are kept where members and arrays of another one join it, whichever gates stand open for the arrays that join.
use Rattle.std.proofs.Common.{◌≡◌, ◌∙◌, inl, inr, ⊎_elim, ℕ, ◌+◌, ◌<◌, ◌^◌, Bool, true, false, List, [], Option, Some, None, Result, Ok, Err, refl, sym, ap, subst, arith, length, slice_get}
use Rattle.std.specs.Prelude.{find, slice_index_or}
use Rattle.std.specs.Map.{lookup}
use Rattle.std.proofs.lemmas.Option.{slice_get_within}
use Rattle.ddf_lemmas.proofs.Options.{none_some}
use Rattle.ddf_bay.specs.Sectors.{Image}
use Rattle.ddf_config.specs.declared.array.Array.{Array}
use Rattle.ddf_config.specs.declared.refusal.Refusal.{Refusal}
use Rattle.ddf_config.specs.declared.seat.Seat.{Seat}
use Rattle.ddf_config.specs.Configuration.{Configuration}
use Rattle.ddf_config.specs.Members.{same_guid}
use Rattle.ddf_array.specs.Sound.{AreSectors}
use Rattle.ddf_array.specs.Viewing.{view_of}
use Rattle.ddf_array.specs.Volume.{Volume, IsVolume}
use Rattle.ddf_array.proofs.Elements.{parts_count}
use Rattle.ddf_cells.specs.Apart.{LiesAt}
use Rattle.ddf_data_array.specs.Allowed.{Allowed}
use Rattle.ddf_data_array.proofs.Same.{kept_same}
use Rattle.ddf_data_group.specs.Grouped.{KeepsArrays, Promises}
use Rattle.ddf_data_group.specs.Kept.{KeepsArray}
use Rattle.ddf_data_group.specs.Over.{IsOver, absent_in}
use Rattle.ddf_data_group.proofs.Agreed.{agreed}
use Rattle.ddf_data_group.proofs.Cleared.{same_marked}
use Rattle.ddf_history.specs.Groups.{groups}
use Rattle.ddf_history.specs.Issued.{Past, IsSince, issue}
use Rattle.ddf_history.proofs.Lists.{get_more}
use Rattle.ddf_data_history.proofs.Steps.{seats_are}
use Rattle.ddf_data_history.proofs.Viewed.{are_members}
use Rattle.ddf_stage.specs.declared.desk.Desk.{Desk}
use Rattle.ddf_stage.specs.declared.desk.StageCell.{StageCell}
use Rattle.ddf_stage.specs.declared.desk.Staged.{Staged}
use Rattle.ddf_stage.specs.Laid.{first_open, is_at, laid, on_desk}
use Rattle.ddf_stage_data.specs.Moments.{HaveSectors, IsStageCell, through}
use Rattle.ddf_stage_data.proofs.Laid.{found_at}
use Rattle.ddf_stage_data.proofs.Moments.{open_at}
use Rattle.ddf_stage_data.proofs.Stops.{open_before}
use Rattle.ddf_stage_promise.specs.Cells.{HasVolumes, cells_by, cells_in, cells_of}
use Rattle.ddf_stage_promise.specs.Footing.{Footing, guids_of}
use Rattle.ddf_stage_promise.specs.Joining.{AllStay, NoneForPromised}
use Rattle.ddf_stage_promise.specs.Staged.{KeepsStaged, NoneOpen, arrays_by, arrays_on, desks_on, does_count, laid_over, losing, seats_on}
use Rattle.ddf_stage_promise.proofs.Between.{aside}
use Rattle.ddf_stage_promise.proofs.Cells.{are_cells, found_cell}
use Rattle.ddf_stage_promise.proofs.Desks.{all_none, desk_before}
use Rattle.ddf_stage_promise.proofs.Laying.{laid_none, laid_some}
use Rattle.ddf_stage_promise.proofs.Losing.{names_none, through_none, through_some}

-- ---- the sectors of what is staged

-- each cell gets a sector that there is
pub have_sectors : (v : Volume) → IsVolume v → (staged : Staged) (cells : List StageCell) → ((k : ℕ) (cell : StageCell) → slice_get cells k ≡ Some cell → IsStageCell v staged cell) → HaveSectors cells
have_sectors v known staged cells are k cell at = by (are k cell at)
  where
    by : IsStageCell v staged cell → cell.from < 17
    by (inl of_block) = omega (arith, of_block.1)
    by (inr of_parity) =
        let below = slice_get_within v.parts of_parity.0 of_parity.2 of_parity.5.is_part in
        omega (arith, of_parity.3, below, parts_count v known, known.array_is.few)

-- what stands behind an open gate has whole sectors
pub staged_whole : (arrays : List (List ℕ)) (image : Image) → AreSectors image → (desk : Desk) (staged : Staged) → on_desk arrays image desk ≡ Some staged → (i : ℕ) → i < 17 → length (slice_index_or staged.sectors i []) ≡ 512
staged_whole arrays image are desk staged e i below = ap length (sym ((open_before arrays image desk staged e).behind i below)) ∙ are desk.slot (desk.lba + 1 + i)

-- so does what it is laid over
pub laid_are : (staged : Staged) (cells : List StageCell) (image : Image) → AreSectors image → HaveSectors cells → ((i : ℕ) → i < 17 → length (slice_index_or staged.sectors i []) ≡ 512) → AreSectors (laid staged cells image)
laid_are staged cells image are have whole s l = by (find (is_at s l) cells) refl
  where
    by : (o : Option StageCell) → find (is_at s l) cells ≡ o → length (laid staged cells image s l) ≡ 512
    by None e = ap length (laid_none staged cells image s l e) ∙ are s l
    by (Some cell) e = let found = found_at s l cells cell e in ap length (laid_some staged cells image s l cell e) ∙ whole cell.from (have found.number cell found.is_cell)

-- ---- a join

module _ (group : List ℕ) (footing : Footing) (small : (slot : ℕ) → footing.floor slot < 2 ^ 64) (past : Past (groups group)) (image : Image) (are : AreSectors image) (promises : Promises)
    (kept : KeepsStaged group footing past image promises) (none : NoneOpen group footing past image) (number : ℕ) (last next : Configuration) (since : IsSince past.changes number last) (known : HasVolumes next)
    (all_stay : AllStay group footing past last next promises) (shut : NoneForPromised group footing past next image promises) where
  module _ (lost : ℕ → Bool) (stay : (slot : ℕ) → past.lost slot ≡ true → lost slot ≡ true) (n : ℕ) where
    abbrev later : Past (groups group)
    later = losing group footing past lost

    abbrev seats : List Seat
    seats = seats_on group footing (losing group footing past lost) next

    abbrev here : List Desk
    here = desks_on group footing (losing group footing past lost) next

    abbrev named : List (List ℕ)
    named = arrays_by (does_count footing past.changes.own_from n) next

    -- what was kept before
    was_kept : KeepsArrays last (seats_on group footing (losing group footing past lost) last) image promises
    was_kept =
        let open_none = all_none (arrays_on group footing past number last) image (desks_on group footing (losing group footing past lost) last)
        (λ k desk at. let old = desk_before group footing past last lost stay k desk at in none number last since old.0 desk old.1) in
        subst (λ (x : Image). KeepsArrays last (seats_on group footing (losing group footing past lost) last) x promises)
        (through_none (desks_on group footing (losing group footing past lost) last) (arrays_on group footing past number last) (cells_in last (seats_on group footing (losing group footing past lost) last)) image open_none)
        (kept lost stay number last since)

    -- each array stays
    stays : (guid : List ℕ) (allowed : Allowed) (after : Array) → promises guid ≡ Some allowed → lookup (same_guid guid) next.arrays ≡ Some after → KeepsArray next.members seats after image allowed
    stays guid allowed after promised found =
        let staying = all_stay lost stay guid allowed after promised found in
        let old = seats_on group footing (losing group footing past lost) last in
        agreed last.members next.members old seats after image allowed staying.2.agree
        (same_marked last.members last.members old staying.0 after image allowed staying.2.same staying.2.same_mark (λ reference. refl) (was_kept guid allowed staying.0 promised staying.1))

    -- what is staged for an array that joins lies on no other
    module _ (staged : Staged) (nothing : promises staged.gate.array ≡ None) (whole : (i : ℕ) → i < 17 → length (slice_index_or staged.sectors i []) ≡ 512) where
      by_view : (r : Result Volume Refusal) → view_of next staged.gate.array seats ≡ r → (guid : List ℕ) (allowed : Allowed) (after : Array) → promises guid ≡ Some allowed → lookup (same_guid guid) next.arrays ≡ Some after
          → KeepsArray next.members seats after (laid staged (cells_by r staged.gate) image) allowed
      by_view (Err refusal) view guid allowed after promised found = stays guid allowed after promised found
      by_view (Ok v) view guid allowed after promised found =
          λ w over.
          let seated = seats_are group footing.floor small later next in
          let v_known = known staged.gate.array seats v seated.small view in
          let cells = are_cells v v_known staged in
          kept_same (absent_in next.members seats after.elements) w image (laid staged (cells_of v staged.gate) image) allowed over.is_volume
          (laid_are staged (cells_of v staged.gate) image are (have_sectors v v_known staged (cells_of v staged.gate) cells.are) whole)
          (λ e p x s l lies. by w over e p x s l (find (is_at s l) (cells_of v staged.gate)) refl lies) (stays guid allowed after promised found w over)
        where
          by : (w : Volume) → IsOver seats after w → (e p x s l : ℕ) → (o : Option StageCell) → find (is_at s l) (cells_of v staged.gate) ≡ o → LiesAt w e p x s l
              → image s l ≡ laid staged (cells_of v staged.gate) image s l
          by w over e p x s l None is lies = sym (laid_none staged (cells_of v staged.gate) image s l is)
          by w over e p x s l (Some cell) is lies =
              let seated = seats_are group footing.floor small later next in
              let v_known = known staged.gate.array seats v seated.small view in
              let there = found_cell v v_known staged s l cell (cells_of v staged.gate) (are_cells v v_known staged) is in
              absurd (aside next staged.gate.array seats v view v_known seated (are_members group footing.floor later next) s l there guid after w
              (λ same. none_some (promises guid) allowed (ap promises same ∙ nothing) promised) found over e p x lies)

      laid_keeps : KeepsArrays next seats (laid staged (cells_in next seats staged) image) promises
      laid_keeps guid allowed after promised found = by_view (view_of next staged.gate.array seats) refl guid allowed after promised found

    by_count : (b : Bool) (desk : Desk) (staged : Staged) → on_desk (arrays_by b next) image desk ≡ Some staged → on_desk (guids_of next) image desk ≡ Some staged
    by_count true desk staged e = e
    by_count false desk staged e = absurd (none_some (on_desk [] image desk) staged (names_none image desk) e)

    by_first : (o : Option Staged) → first_open named image here ≡ o → KeepsArrays next seats (through here named (cells_in next seats) image) promises
    by_first None e = subst (λ (x : Image). KeepsArrays next seats x promises) (sym (through_none here named (cells_in next seats) image e)) stays
    by_first (Some staged) e =
        let at = open_at named image here staged e in
        let old = desk_before group footing past next lost stay at.number at.desk at.is_desk in
        let opens = by_count (does_count footing past.changes.own_from n) at.desk staged at.stands in
        subst (λ (x : Image). KeepsArrays next seats x promises) (sym (through_some here named (cells_in next seats) image staged e))
        (laid_keeps staged (shut old.0 at.desk staged old.1 opens) (staged_whole (guids_of next) image are at.desk staged opens))

    join_by : KeepsArrays next seats (through here named (cells_in next seats) image) promises
    join_by = by_first (first_open named image here) refl

  pub join_keeps : KeepsStaged group footing (issue past next) image promises
  join_keeps lost stay n config issued =
      ⊎_elim
      (λ old. kept lost stay n config (record { late = issued.late; is_there = old }))
      (λ new.
      subst (λ (c : Configuration). KeepsArrays c (seats_on group footing (losing group footing past lost) c) (laid_over group footing (losing group footing past lost) n c image) promises) (sym new.1) (join_by lost stay n))
      (get_more past.changes.issued next n config issued.is_there)
