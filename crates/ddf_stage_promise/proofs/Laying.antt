-- What is staged, laid over what an array has, and over what remains of it.
use Rattle.std.proofs.Common.{◌≡◌, ◌∙◌, ◌⊎◌, inl, inr, ⊎_elim, ℕ, List, Option, Some, None, Ok, refl, sym, ap, subst, length}
use Rattle.std.specs.Prelude.{find}
use Rattle.std.specs.Map.{lookup}
use Rattle.ddf_lemmas.proofs.Options.{none_some, some_is, same_some}
use Rattle.ddf_bay.specs.Sectors.{Image}
use Rattle.ddf_config.specs.declared.array.Array.{Array}
use Rattle.ddf_config.specs.declared.seat.Seat.{Seat}
use Rattle.ddf_config.specs.Configuration.{Configuration}
use Rattle.ddf_config.specs.Members.{same_guid}
use Rattle.ddf_array.specs.Apart.{AreSeats, IsApart}
use Rattle.ddf_array.specs.Sound.{AreSectors}
use Rattle.ddf_array.specs.Viewing.{view_of}
use Rattle.ddf_array.specs.Volume.{Volume, IsVolume}
use Rattle.ddf_array.proofs.Apart.{view_apart}
use Rattle.ddf_cells.specs.Alike.{IsCell}
use Rattle.ddf_cells.specs.Apart.{LiesAt}
use Rattle.ddf_data_group.specs.Grouped.{KeepsArrays, Promises}
use Rattle.ddf_data_group.specs.Over.{AreCurrentSeats, IsOver}
use Rattle.ddf_data_group.proofs.Clearly.{used}
use Rattle.ddf_stage.specs.declared.desk.StageCell.{StageCell}
use Rattle.ddf_stage.specs.declared.desk.Staged.{Staged}
use Rattle.ddf_stage.specs.Laid.{is_at, laid, sector_of}
use Rattle.ddf_data_history.proofs.Viewed.{over_unique}
use Rattle.ddf_stage_promise.specs.Cells.{cells_of}
use Rattle.ddf_stage_promise.proofs.Between.{ArraysRemain, arrays_between}
use Rattle.ddf_stage_promise.proofs.Cells.{are_cells, fewer_is, found_cell, found_same}
use Rattle.ddf_stage_promise.proofs.Remains.{Remains}

pub laid_none : (staged : Staged) (cells : List StageCell) (image : Image) (s l : ℕ) → find (is_at s l) cells ≡ None → laid staged cells image s l ≡ image s l
laid_none staged cells image s l e = ap (λ (o : Option StageCell). elim o [ None ↦ image s l | Some cell ↦ sector_of staged cell ]) e

pub laid_some : (staged : Staged) (cells : List StageCell) (image : Image) (s l : ℕ) (cell : StageCell) → find (is_at s l) cells ≡ Some cell → laid staged cells image s l ≡ sector_of staged cell
laid_some staged cells image s l cell e = ap (λ (o : Option StageCell). elim o [ None ↦ image s l | Some cell ↦ sector_of staged cell ]) e

module _ (v w : Volume) (known : IsVolume v) (w_known : IsVolume w) (apart : IsApart v) (remains : Remains v w) (staged : Staged) (one other : Image) where
  abbrev cells : List StageCell
  cells = cells_of v staged.gate

  abbrev fewer : List StageCell
  fewer = cells_of w staged.gate

  still : (s l : ℕ) → IsCell w s l → find (is_at s l) (cells_of w staged.gate) ≡ find (is_at s l) (cells_of v staged.gate)
  still s l there = found_same v w known w_known apart remains staged (cells_of v staged.gate) (cells_of w staged.gate) (are_cells v known staged) (are_cells w w_known staged) s l there

  module _ (s l : ℕ) (agree : find (is_at s l) (cells_of v staged.gate) ≡ None → one s l ≡ other s l) where
    by : (o p : Option StageCell) → find (is_at s l) (cells_of v staged.gate) ≡ o → find (is_at s l) (cells_of w staged.gate) ≡ p
        → (laid staged (cells_of v staged.gate) one s l ≡ laid staged (cells_of w staged.gate) other s l) ⊎ (IsCell v s l × (IsCell w s l → ⊥))
    by None None is is' = inl (laid_none staged (cells_of v staged.gate) one s l is ∙ agree is ∙ sym (laid_none staged (cells_of w staged.gate) other s l is'))
    by None (Some cell) is is' =
        let there = fewer_is v w known w_known apart remains staged s l cell (cells_of w staged.gate) (are_cells w w_known staged) is' in
        absurd (none_some (find (is_at s l) (cells_of w staged.gate)) cell (still s l there ∙ is) is')
    by (Some cell) None is is' =
        inr (
          found_cell v known staged s l cell (cells_of v staged.gate) (are_cells v known staged) is,
          λ there. none_some (find (is_at s l) (cells_of w staged.gate)) cell is' (still s l there ∙ is),
        )
    by (Some cell) (Some found) is is' =
        let there = fewer_is v w known w_known apart remains staged s l found (cells_of w staged.gate) (are_cells w w_known staged) is' in
        let same : found ≡ cell = some_is (sym is' ∙ still s l there ∙ is) in
        inl (laid_some staged (cells_of v staged.gate) one s l cell is ∙ ap (sector_of staged) (sym same) ∙ sym (laid_some staged (cells_of w staged.gate) other s l found is'))

    pub laid_alike : (laid staged (cells_of v staged.gate) one s l ≡ laid staged (cells_of w staged.gate) other s l) ⊎ (IsCell v s l × (IsCell w s l → ⊥))
    laid_alike = by (find (is_at s l) (cells_of v staged.gate)) (find (is_at s l) (cells_of w staged.gate)) refl refl

  -- what is laid over has whole sectors, where it had
  pub laid_whole : AreSectors other → AreSectors (laid staged (cells_of v staged.gate) one) → AreSectors (laid staged (cells_of w staged.gate) other)
  laid_whole are_other are s l = whole (find (is_at s l) (cells_of w staged.gate)) refl
    where
      whole : (p : Option StageCell) → find (is_at s l) (cells_of w staged.gate) ≡ p → length (laid staged (cells_of w staged.gate) other s l) ≡ 512
      whole None is = ap length (laid_none staged (cells_of w staged.gate) other s l is) ∙ are_other s l
      whole (Some cell) is =
          let there = fewer_is v w known w_known apart remains staged s l cell (cells_of w staged.gate) (are_cells w w_known staged) is in
          ap length (laid_some staged (cells_of w staged.gate) other s l cell is ∙ sym (laid_some staged (cells_of v staged.gate) one s l cell (sym (still s l there) ∙ is))) ∙ are s l

-- ---- a group

-- what remains of an array over the later seats is of its view over the earlier ones
pub view_remains : (before after : Configuration) (seats fewer : List Seat) → ArraysRemain before after seats fewer → (guid : List ℕ) (v w : Volume) → view_of before guid seats ≡ Ok v → IsVolume v
    → view_of after guid fewer ≡ Ok w → IsVolume w → Remains v w
view_remains before after seats fewer remain guid v w view known after_view w_known =
    let use_of = used after guid fewer w after_view w_known in
    let was = remain guid use_of.array use_of.is_found in
    let from = was.2 w use_of.over in
    let old = used before guid seats v view known in
    let arrays : old.array ≡ was.0 = same_some (lookup (same_guid guid) before.arrays) old.array was.0 old.is_found was.1 in
    let same : from.0 ≡ v = over_unique seats was.0 from.0 v from.1 (subst (λ (a : Array). IsOver seats a v) arrays old.over) in
    subst (λ (u : Volume). Remains u w) same from.2

module _ (before after : Configuration) (seats fewer : List Seat) (are : AreCurrentSeats before.members seats) (seated : AreSeats before.members seats) (remain : ArraysRemain before after seats fewer)
    (Below : ℕ → ℕ → Type 0) (below : (array : Array) (w : Volume) → IsOver fewer array w → (e p x s l : ℕ) → LiesAt w e p x s l → Below s l)
    (guid : List ℕ) (v w : Volume) (view : view_of before guid seats ≡ Ok v) (known : IsVolume v) (after_view : view_of after guid fewer ≡ Ok w) (w_known : IsVolume w) (remains : Remains v w)
    (staged : Staged) (one other : Image) (are_other : AreSectors other) (promises : Promises) where
  its_own : (u : Volume) (array : Array) → lookup (same_guid guid) after.arrays ≡ Some array → IsOver fewer array u → u ≡ w
  its_own u array found over =
      let use_of = used after guid fewer w after_view w_known in
      let arrays : use_of.array ≡ array = same_some (lookup (same_guid guid) after.arrays) use_of.array array use_of.is_found found in
      over_unique fewer array u w over (subst (λ (a : Array). IsOver fewer a w) arrays use_of.over)

  pub laid_between : ((s l : ℕ) → Below s l → find (is_at s l) (cells_of v staged.gate) ≡ None → one s l ≡ other s l) → KeepsArrays after fewer (laid staged (cells_of v staged.gate) one) promises
      → KeepsArrays after fewer (laid staged (cells_of w staged.gate) other) promises
  laid_between agree kept =
      let apart = view_apart before guid seats v view seated in
      arrays_between before after seats fewer are seated remain Below below guid v view known (laid staged (cells_of v staged.gate) one) (laid staged (cells_of w staged.gate) other)
      (laid_whole v w known w_known apart remains staged one other are_other)
      (λ s l low. ⊎_elim inl
      (λ gone. inr (gone.0, λ u left cell array found over. gone.1 (subst (λ (x : Volume). IsCell x s l) (its_own u array found over) cell)))
      (laid_alike v w known w_known apart remains staged one other s l (agree s l low)))
      promises kept
