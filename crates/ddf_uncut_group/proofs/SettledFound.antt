-- A settled group that all of its disks tell, by what assembly finds.
use Rattle.std.proofs.Common.{◌≡◌, ℕ, ◌<◌, List, [], length, map, Option, Some, Result, Ok, Err, refl, ap, sym, ◌∙◌, subst, inl, arith}
use Rattle.std.proofs.lemmas.List.{length-map}
use Rattle.ddf_copy.specs.declared.newest_copy.Newest.{Newest}
use Rattle.ddf_config.specs.declared.seat.Seat.{Seat}
use Rattle.ddf_group.specs.declared.answer.Assembled.{Assembled}
use Rattle.ddf_group.specs.declared.answer.Assembly.{Assembly}
use Rattle.ddf_group.specs.Assembled.{assembled}
use Rattle.ddf_group.specs.Choice.{chosen}
use Rattle.ddf_group.specs.Shown.{shown_of}
use Rattle.ddf_seats.specs.declared.seated.Seated.{Seated}
use Rattle.ddf_assembly.specs.Assembled.{IsAssembledGroup}
use Rattle.ddf_seats.specs.Group.{GroupValue, seats_of}
use Rattle.ddf_assembly.specs.Group.{group_of, group_or_fault}
use Rattle.ddf_assembly.specs.Reading.{AreNewest}
use Rattle.ddf_seats.specs.Seated.{seated}
use Rattle.ddf_assembly.specs.Settled.{IsSettledGroup}
use Rattle.ddf_assembly.proofs.Assembled.{answer_assembled}
use Rattle.ddf_assembly.proofs.LeftBefore.{IsFoundAs, found_by, group_is}
use Rattle.ddf_assembly.proofs.Settled.{settled}
use Rattle.ddf_history_steps.proofs.Told.{made_of}
use Rattle.ddf_uncut_group.specs.Settled.{IsToldByAll}

-- ---- what is found can be recovered

-- A group that newest copies give is assembled as it is to be.
pub found_assembled : (newest : List (Option Newest)) (named : Option (List ℕ)) (group : GroupValue) → AreNewest newest → group_of newest named ≡ Ok group → IsAssembledGroup group
unfolding group_of
found_assembled newest named group are is = by (assembled (map shown_of newest) named) refl is
  where
    by : (answer : Result Assembled Assembly) → assembled (map shown_of newest) named ≡ answer → group_or_fault newest answer ≡ Ok group → IsAssembledGroup group
    by (Ok found) same made =
        subst IsAssembledGroup (made_of newest found group made)
        (answer_assembled newest are named found (inl (sym same)) (seats_of newest found.seats) newest refl refl)
    by (Err fault) same made = absurd cc

-- So it is settled, where nothing is absent and nothing lags.
pub found_settled : (newest : List (Option Newest)) (named : Option (List ℕ)) (group : GroupValue) → AreNewest newest → group_of newest named ≡ Ok group
    → group.absent ≡ [] → group.lagging ≡ [] → IsSettledGroup group
found_settled newest named group are is none_absent none_lags = settled group (found_assembled newest named group are is) none_absent none_lags

-- ---- a group that all of its disks tell

module _ (group : GroupValue) (told : IsToldByAll group) where
  -- It is found of its GUID.
  pub found_as : IsFoundAs group.config.group group
  unfolding group_of assembled
  found_as =
      let own = found_by group.newest group (chosen (map shown_of group.newest) (Some group.config.group)) told.is_found in
      let is : IsFoundAs own.0 group = record { not_contradicted = own.2.0; is_group = own.2.1 } in
      subst (λ (guid : List ℕ). IsFoundAs guid group) (sym (group_is group told.are_newest told.is_settled own.0 is)) is

  -- It has as many disks as seats.
  pub disks_counted : length (seated group) ≡ length group.seats
  disks_counted = sym (length-map (seated group) (λ (disk : Seated). disk.seat)) ∙ ap (λ (seats : List Seat). length seats) told.is_settled.are_seated

  pub some_disk : 0 < length (seated group)
  some_disk = let some = told.some_seat in let same = disks_counted in omega (arith, some, same)
