-- The group that a label founds on the disks of an exercise.
use Rattle.std.proofs.Common.{◌≡◌, ℕ, ◌+◌, ◌-◌, ◌/◌, ◌%◌, ◌^◌, ◌<◌, false, eqb, refl, lit<, arith}
use Rattle.std.specs.Prelude.{replicate}
use Rattle.ddf_bytes.specs.declared.stamp.Stamp.{Stamp}
use Rattle.ddf_header.specs.declared.kind.Revision.{Revision}
use Rattle.ddf_update.specs.declared.new_layout.NewLayout.TheVariants.{Small}
use Rattle.ddf_update.specs.NewCopies.{group_of as name_of, new_copy, reference_at as new_reference}
use Rattle.ddf_rewrite.specs.Elements.{no_reference}
use Rattle.ddf_history_steps.specs.Founding.{founding_config}
use Rattle.ddf_history_steps.proofs.FoundingConfig.{founding_is}
use Rattle.ddf_exercise_config.specs.Disks.{AreApart, AreNamed}
use Rattle.ddf_exercise_config.specs.Founded.{new_disks}
use Rattle.ddf_exercise_config.specs.Stages.{founded}

pub is_founded : (revision : Revision) (stamp : Stamp) → founding_config (new_copy Small revision stamp (replicate 5 65536)) ≡ founded (name_of stamp) (new_disks stamp) 1
is_founded revision stamp = founding_is Small revision stamp (replicate 5 65536)

apart_from : (base one other : ℕ) → eqb one other ≡ false → eqb (base + one) (base + other) ≡ false
apart_from base one other e = grind arith

unnamed_not : (rest place : ℕ) → rest < 2 ^ 32 - 4098 → place < 5 → eqb (1 + rest + place) no_reference ≡ false
unnamed_not rest place below few = grind arith

below_is : (number : ℕ) → number % (2 ^ 32 - 4098) < 2 ^ 32 - 4098
below_is number = omega arith

module _ (stamp : Stamp) where
  differ : (one other : ℕ) → eqb one other ≡ false → eqb (new_reference stamp one) (new_reference stamp other) ≡ false
  differ one other e = apart_from (1 + (stamp.salt / 2 ^ 64) % (2 ^ 32 - 4098)) one other e

  names : (place : ℕ) → place < 5 → eqb (new_reference stamp place) no_reference ≡ false
  names place few = unnamed_not ((stamp.salt / 2 ^ 64) % (2 ^ 32 - 4098)) place (below_is (stamp.salt / 2 ^ 64)) few

  pub are_apart : AreApart (new_disks stamp)
  are_apart = record {
    first_second = differ 0 1 refl;
    first_third = differ 0 2 refl;
    first_fourth = differ 0 3 refl;
    first_fifth = differ 0 4 refl;
    second_third = differ 1 2 refl;
    second_fourth = differ 1 3 refl;
    second_fifth = differ 1 4 refl;
    third_fourth = differ 2 3 refl;
    third_fifth = differ 2 4 refl;
    fourth_fifth = differ 3 4 refl;
  }

  pub are_named : AreNamed (new_disks stamp)
  are_named = record { first = names 0 (lit< tt); second = names 1 (lit< tt); third = names 2 (lit< tt); fourth = names 3 (lit< tt); fifth = names 4 (lit< tt) }
