-- The disks that join, which the group knows.
use Rattle.std.proofs.Common.{◌≡◌, ℕ, ◌==◌, true, false, List, [], ◌∷◌, Option, Some, None, Result, Ok, refl, sym, ap, ◌∙◌}
use Rattle.std.specs.List.{AllByRecursion, list_any}
use Rattle.ddf_config.specs.declared.refusal.Refusal.TheVariants.{NoGroup, Unsettled}
use Rattle.ddf_config.specs.declared.seat.Seat.{Seat}
use Rattle.ddf_config.specs.Refusals.{first_refusal, refuse_if}
use Rattle.ddf_config.proofs.Firsts.{all_pass}
use Rattle.ddf_copy.specs.declared.newest_copy.Newest.{Newest}
use Rattle.ddf_import.specs.Clash.{join_cause}
use Rattle.ddf_seats.specs.Group.{GroupValue, is_kept}
use Rattle.ddf_assembly.specs.Group.{group_of}
use Rattle.ddf_joining.specs.Importing.{first_causes, has_own}
use Rattle.ddf_joining.specs.Joining.{config_joining, has_no_seats, has_strays}
use Rattle.ddf_recovery.specs.Recovery.{config_recovered}
use Rattle.ddf_assembly.specs.Slots.{first_left_out}
use Rattle.ddf_joining.proofs.SeatClash.{knows_disks}
use Rattle.ddf_answer.specs.declared.failure.Failure.{Failure}
use Rattle.ddf_answer.specs.Call.{Work}
use Rattle.ddf_import_command.specs.Import.{HasImported, keeps_disks}

kept_all : (native : GroupValue) (seats : List Seat) → AllByRecursion (λ seat. is_kept native.newest seat.slot ≡ true) seats
    → AllByRecursion (λ seat. list_any (λ own. own.slot == seat.slot) native.seats ≡ false) seats → keeps_disks native seats ≡ true
kept_all native [] kept apart = refl
kept_all native (seat ∷ seats) kept apart = rw (kept.0, apart.0, kept_all native seats kept.1 apart.1) refl

module _ {D : Type 0} (work : Work D) (told : work.tells) (named : Option (List ℕ)) (other : List ℕ) (timestamp : ℕ) (outcome : Result ℕ Failure) (native joined : GroupValue)
    (imported : HasImported work named other timestamp outcome) (is_group : group_of imported.first.newest named ≡ Ok native)
    (is_joined : group_of imported.second.newest (Some other) ≡ Ok joined) where
  -- Each is kept where nothing refuses the join before, and the look left none out.
  pub keeps_joining : first_refusal (first_causes native joined) ≡ None → first_left_out imported.first.left joined.seats ≡ None → keeps_disks native joined.seats ≡ true
  keeps_joining none seen =
      let clash : join_cause (config_recovered native) (config_joining joined) ≡ None = all_pass
      (refuse_if (has_no_seats native joined) NoGroup ∷ refuse_if (has_strays native joined) Unsettled ∷ []) (join_cause (config_recovered native) (config_joining joined)) (refuse_if (has_own native joined) Unsettled ∷ []) none in
      let knows = knows_disks work.old imported.first.left imported.second.left named (Some other) native joined (imported.first.every_slot ∙ sym imported.second.every_slot)
      (ap (λ (newest : List (Option Newest)). group_of newest named) (sym (imported.first.read told)) ∙ is_group)
      (ap (λ (newest : List (Option Newest)). group_of newest (Some other)) (sym (imported.second.read told)) ∙ is_joined) clash seen in
      kept_all native joined.seats knows.are_kept knows.are_apart
