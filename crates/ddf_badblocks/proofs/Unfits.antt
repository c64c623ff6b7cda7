-- Why a log doesn't fit.
use Rattle.std.specs.Prelude.{◌≡◌, ◌⊎◌, ℕ, ◌+◌, Bool, true, false, not, ◌&&◌, nat_le, List, [], ◌∷◌, length, Option, Some, None, is_some, Result, Ok, Err, IfOk}
use Rattle.std.specs.List.{list_all}
use Rattle.std.proofs.Common.{refl, ◌∙◌, subst, inl, inr, ⊎_elim}
use Rattle.std.proofs.lemmas.Bool.{and_from, and_left, and_right}
use Rattle.ddf_tables.specs.declared.bad_blocks.BadBlock.{BadBlock}
use Rattle.ddf_tables.specs.BadBlocks.{LogValue}
use Rattle.ddf_badblocks.specs.declared.fitting.Stretch.{Stretch}
use Rattle.ddf_badblocks.specs.declared.range.Range.{Range}
use Rattle.ddf_badblocks.specs.declared.unfit.EntryFault.{EntryFault}
use Rattle.ddf_badblocks.specs.declared.unfit.Unfit.{Unfit}
use Rattle.ddf_badblocks.specs.declared.unfit.Unfit.TheVariants.{SpareArea, Entry, Shared}
use Rattle.ddf_badblocks.specs.Fits.{area_fits, entry_fits, fits, has_spare, meets_any, ranges_of}
use Rattle.ddf_badblocks.specs.Unfit.{TellsShared, TellsUnfit, fault_by, fault_of, first_wrong, wrong_or}
use Rattle.ddf_badblocks.proofs.LogFits.{fits_exchange, fits_not}

-- ---- what is wrong with an entry

by_none : (is_spared ends_before is_kept is_within : Bool) → fault_by is_spared ends_before is_kept is_within ≡ None → (is_spared && ends_before && not is_kept && is_within) ≡ true
by_none true true false true h = refl
by_none true true false false h = absurd cc
by_none true true true true h = absurd cc
by_none true true true false h = absurd cc
by_none true false false true h = absurd cc
by_none true false false false h = absurd cc
by_none true false true true h = absurd cc
by_none true false true false h = absurd cc
by_none false true false true h = absurd cc
by_none false true false false h = absurd cc
by_none false true true true h = absurd cc
by_none false true true false h = absurd cc
by_none false false false true h = absurd cc
by_none false false false false h = absurd cc
by_none false false true true h = absurd cc
by_none false false true false h = absurd cc

by_some : (is_spared ends_before is_kept is_within : Bool) (fault : EntryFault) → fault_by is_spared ends_before is_kept is_within ≡ Some fault → (is_spared && ends_before && not is_kept && is_within) ≡ false
by_some true true false true fault h = absurd cc
by_some true true false false fault h = refl
by_some true true true true fault h = refl
by_some true true true false fault h = refl
by_some true false false true fault h = refl
by_some true false false false fault h = refl
by_some true false true true fault h = refl
by_some true false true false fault h = refl
by_some false true false true fault h = refl
by_some false true false false fault h = refl
by_some false true true true fault h = refl
by_some false true true false fault h = refl
by_some false false false true fault h = refl
by_some false false false false fault h = refl
by_some false false true true fault h = refl
by_some false false true false fault h = refl

abbrev IsEntry : Unfit → Type 0
IsEntry (Entry place fault) = Unit {0}
IsEntry unfit = ⊥

none_case : (place : ℕ) (found : Option EntryFault) (fit : Bool) → (found ≡ None → fit ≡ true) → (later : Option Unfit) → wrong_or place found later ≡ None → (fit ≡ true) × (later ≡ None)
none_case place None fit is later h = (is refl, h)
none_case place (Some fault) fit is later h = absurd cc

some_case : (place : ℕ) (found : Option EntryFault) (fit : Bool) → ((fault : EntryFault) → found ≡ Some fault → fit ≡ false) → (later : Option Unfit) (unfit : Unfit) → wrong_or place found later ≡ Some unfit
    → (fit ≡ false) ⊎ (later ≡ Some unfit)
some_case place None fit is later unfit h = inr h
some_case place (Some fault) fit is later unfit h = inl (is fault refl)

entry_case : (place : ℕ) (found : Option EntryFault) (later : Option Unfit) (unfit : Unfit) → wrong_or place found later ≡ Some unfit → IsEntry unfit ⊎ (later ≡ Some unfit)
entry_case place None later unfit h = inr h
entry_case place (Some fault) later unfit h = let same : Entry place fault ≡ unfit = cc in inl (subst IsEntry same tt)

module _ (size spares : ℕ) (kept : List Stretch) where
  fits_none : (block : BadBlock) → fault_of size spares kept block ≡ None → entry_fits size spares kept block ≡ true
  fits_none block h = by_none (has_spare block) (nat_le (block.start + block.count) size) (meets_any kept block.start block.count) (nat_le (block.spare + block.count) spares) h

  fits_some : (block : BadBlock) (fault : EntryFault) → fault_of size spares kept block ≡ Some fault → entry_fits size spares kept block ≡ false
  fits_some block fault h = by_some (has_spare block) (nat_le (block.start + block.count) size) (meets_any kept block.start block.count) (nat_le (block.spare + block.count) spares) fault h

  pub wrong_none : (place : ℕ) (blocks : List BadBlock) → first_wrong size spares kept place blocks ≡ None → list_all (entry_fits size spares kept) blocks ≡ true
  wrong_none place [] h = refl
  wrong_none place (block ∷ blocks) h =
      let parts = none_case place (fault_of size spares kept block) (entry_fits size spares kept block) (fits_none block) (first_wrong size spares kept (place + 1) blocks) h in
      and_from (entry_fits size spares kept block) (list_all (entry_fits size spares kept) blocks) parts.0 (wrong_none (place + 1) blocks parts.1)

  pub wrong_some : (place : ℕ) (blocks : List BadBlock) (unfit : Unfit) → first_wrong size spares kept place blocks ≡ Some unfit → list_all (entry_fits size spares kept) blocks ≡ false
  wrong_some place [] unfit h = absurd cc
  wrong_some place (block ∷ blocks) unfit h = ⊎_elim
      (λ here. and_left (entry_fits size spares kept block) (list_all (entry_fits size spares kept) blocks) here)
      (λ later. and_right (entry_fits size spares kept block) (list_all (entry_fits size spares kept) blocks) (wrong_some (place + 1) blocks unfit later))
      (some_case place (fault_of size spares kept block) (entry_fits size spares kept block) (fits_some block) (first_wrong size spares kept (place + 1) blocks) unfit h)

  wrong_entry : (place : ℕ) (blocks : List BadBlock) (unfit : Unfit) → first_wrong size spares kept place blocks ≡ Some unfit → IsEntry unfit
  wrong_entry place [] unfit h = absurd cc
  wrong_entry place (block ∷ blocks) unfit h = ⊎_elim
      (λ is. is)
      (λ later. wrong_entry (place + 1) blocks unfit later)
      (entry_case place (fault_of size spares kept block) (first_wrong size spares kept (place + 1) blocks) unfit h)

-- ---- of a log

module _ (log : LogValue) (size : ℕ) (kept : List Stretch) (last : ℕ) (some : length log.entries ≡ 0 → ⊥) where
  abbrev wrong : Option Unfit
  wrong = first_wrong size log.spare_count kept 0 log.entries

  pub told_area : area_fits log size kept last ≡ false → TellsUnfit log size kept last (Some SpareArea)
  told_area area = (fits_not log size kept last (and_left (area_fits log size kept last) (list_all (entry_fits size log.spare_count kept) log.entries) area) some, area)

  told_by : (unfit : Unfit) → IsEntry unfit → area_fits log size kept last ≡ true → fits log size kept last ≡ false → wrong ≡ Some unfit → TellsUnfit log size kept last (Some unfit)
  told_by SpareArea is area fails found = absurd is
  told_by (Entry place fault) is area fails found = (fails, area, found)
  told_by (Shared place) is area fails found = absurd is

  told_wrong : (unfit : Unfit) → area_fits log size kept last ≡ true → wrong ≡ Some unfit → TellsUnfit log size kept last (Some unfit)
  told_wrong unfit area found =
      let wrong_one = and_right (area_fits log size kept last) (list_all (entry_fits size log.spare_count kept) log.entries) (wrong_some size log.spare_count kept 0 log.entries unfit found) in
      told_by unfit (wrong_entry size log.spare_count kept 0 log.entries unfit found) area (fits_not log size kept last wrong_one some) found

  pub told_found : (found : Option Unfit) → is_some found ≡ true → area_fits log size kept last ≡ true → wrong ≡ found → TellsUnfit log size kept last found
  told_found (Some unfit) is area found = told_wrong unfit area found
  told_found None is area found = absurd cc

  module _ (area : area_fits log size kept last ≡ true) (none : wrong ≡ None) where
    pub all_in_place : (area_fits log size kept last && list_all (entry_fits size log.spare_count kept) log.entries) ≡ true
    all_in_place = and_from (area_fits log size kept last) (list_all (entry_fits size log.spare_count kept) log.entries) area (wrong_none size log.spare_count kept 0 log.entries none)

    told_shared : (found : Option Unfit) → TellsShared last (ranges_of log) found → TellsUnfit log size kept last found
    told_shared None can = fits_exchange log size kept last all_in_place some ∙ can
    told_shared (Some (Shared place)) tells = (fits_exchange log size kept last all_in_place some ∙ tells.0, area, none, tells.1)
    told_shared (Some SpareArea) tells = absurd tells
    told_shared (Some (Entry place fault)) tells = absurd tells

    pub told_ok : {E : Type 0} (ranges : List Range) → ranges ≡ ranges_of log → (result : Result (Option Unfit) E) → IfOk result (TellsShared last ranges) → IfOk result (TellsUnfit log size kept last)
    told_ok ranges is (Ok found) tells = told_shared found (subst (λ (all : List Range). TellsShared last all found) is tells)
    told_ok ranges is (Err fault) tells = tt
