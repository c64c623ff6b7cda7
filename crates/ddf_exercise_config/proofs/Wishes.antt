-- What a creation and spares ask of the group of an exercise.
use Rattle.std.proofs.Common.{◌≡◌, ℕ, List, [], Some, Ok, refl, ap, sym, lit<, arith}
use Rattle.ddf_bytes.specs.declared.stamp.Stamp.{Stamp}
use Rattle.ddf_config.specs.declared.member.SpareUse.TheVariants as uses
use Rattle.ddf_plan.specs.declared.change.Change.TheVariants as changes
use Rattle.ddf_words.specs.declared.command.SpareWord.TheVariants as spares
use Rattle.ddf_words.specs.declared.command.Wish.TheVariants as wishes
use Rattle.ddf_request.specs.NewArray.{least_number, new_array_guid}
use Rattle.ddf_request.specs.Request.{request_of}
use Rattle.ddf_request.proofs.Numbers.{least_is}
use Rattle.ddf_exercise_config.specs.Disks.{Disks}
use Rattle.ddf_exercise_config.specs.Stages.{array, founded, positions_at, resynced, seats_at, with_spare}
use Rattle.ddf_exercise_config.specs.Turns.Turn.{Opening}
use Rattle.ddf_exercise_config.specs.Words.{creation}

-- the first array has number 0
least : 0 ≡ least_number []
least = least_is [] 0 (lit< tt) (λ k below. absurd (omega arith)) refl

module _ (group : List ℕ) (disks : Disks) (sequence : ℕ) (stamp : Stamp) where
  pub creation_asked : (linux : List ℕ) → request_of 5 (founded group disks sequence) (seats_at disks Opening) linux stamp (wishes.Create creation)
      ≡ Ok (Some (changes.Create (new_array_guid (founded group disks sequence) stamp) (array (positions_at disks Opening) 0 0)))
  creation_asked linux =
      ap (λ (number : ℕ). Ok (Some (changes.Create (new_array_guid (founded group disks sequence) stamp) (record (array (positions_at disks Opening) 0 0) { number = number })))) (sym least)

  pub first_asked : (guid linux : List ℕ) → request_of 5 (resynced group disks guid sequence) (seats_at disks Opening) linux stamp (wishes.Spare 3 spares.Global) ≡ Ok (Some (changes.Spare disks.fourth.reference uses.Global))
  first_asked guid linux = refl

  pub second_asked : (guid linux : List ℕ) → request_of 5 (with_spare group disks guid sequence) (seats_at disks Opening) linux stamp (wishes.Spare 4 spares.Global) ≡ Ok (Some (changes.Spare disks.fifth.reference uses.Global))
  second_asked guid linux = refl
