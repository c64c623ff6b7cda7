-- Where nothing refuses a join, no joining member and no joining array is there.
use Rattle.std.proofs.Common.{◌≡◌, ℕ, ◌+◌, ◌≤◌, Bool, true, false, cond, List, [], ◌∷◌, Some, None, find, is_some, nat_eq, refl}
use Rattle.std.specs.Map.{lookup}
use Rattle.std.specs.List.{AllByRecursion}
use Rattle.ddf_lemmas.proofs.Lists.{all_weaken}
use Rattle.ddf_lemmas.proofs.Options.{none_from_not_some, none_from_map}
use Rattle.ddf_lemmas.proofs.Tests.{or_second}
use Rattle.ddf_config.specs.declared.member.Member.{Member}
use Rattle.ddf_config.specs.declared.array.Array.{Array}
use Rattle.ddf_config.specs.declared.refusal.Refusal.TheVariants.{NameTaken}
use Rattle.ddf_config.specs.Configuration.{Configuration}
use Rattle.ddf_config.specs.Members.{same_guid}
use Rattle.ddf_config.specs.Refusals.{refuse_if}
use Rattle.ddf_config.proofs.Entries.{absent_changed}
use Rattle.ddf_config.proofs.Firsts.{all_pass}
use Rattle.ddf_plan.specs.Refusals.{greatest_sequence, spent}
use Rattle.ddf_plan.proofs.Afters.{room_left}
use Rattle.ddf_import.specs.Clash.{array_clash, bound_in, disk_clash, has_array, has_guid, is_there, join_cause, join_refusal, takes_name}
use Rattle.ddf_import.specs.Joined.{kept_member, kept_members}

none_passes : {X : Type 0} (p : X → Bool) (xs : List X) → find p xs ≡ None → AllByRecursion (λ x. p x ≡ false) xs
none_passes p [] h = tt
none_passes {X} p (x ∷ xs) h = by (p x) refl h (none_passes p xs)
  where
    by : (b : Bool) → p x ≡ b → cond b (Some x) (find p xs) ≡ None → (find p xs ≡ None → AllByRecursion (λ y. p y ≡ false) xs) → (p x ≡ false) × AllByRecursion (λ y. p y ≡ false) xs
    by true e h rest = absurd cc
    by false e h rest = (e, rest h)

module _ (config joining : Configuration) (free : join_cause config joining ≡ None) where
  pub members_fresh : AllByRecursion (λ (entry : ℕ × Member). lookup (nat_eq entry.0) (kept_members config) ≡ None) joining.members
  members_fresh =
      all_weaken (λ entry. is_there config.members entry ≡ false) (λ (entry : ℕ × Member). lookup (nat_eq entry.0) (kept_members config) ≡ None)
      (λ entry away. absent_changed (kept_member config) (nat_eq entry.0) config.members
      (none_from_not_some (lookup (nat_eq entry.0) config.members) (or_second (has_guid config.members entry.1.guid) (is_some (lookup (nat_eq entry.0) config.members)) away)))
      joining.members
      (none_passes (is_there config.members) joining.members
      (none_from_map _ (find (is_there config.members) joining.members)
      (all_pass [] (disk_clash config.members joining.members)
      (array_clash config.arrays joining.arrays ∷ bound_in config joining ∷ bound_in joining config ∷ refuse_if (takes_name config joining) NameTaken ∷ []) free)))

  pub arrays_fresh : AllByRecursion (λ (entry : List ℕ × Array). lookup (same_guid entry.0) config.arrays ≡ None) joining.arrays
  arrays_fresh =
      all_weaken (λ entry. has_array config.arrays entry ≡ false) (λ (entry : List ℕ × Array). lookup (same_guid entry.0) config.arrays ≡ None)
      (λ entry away. none_from_not_some (lookup (same_guid entry.0) config.arrays) away) joining.arrays
      (none_passes (has_array config.arrays) joining.arrays
      (none_from_map _ (find (has_array config.arrays) joining.arrays)
      (all_pass (disk_clash config.members joining.members ∷ []) (array_clash config.arrays joining.arrays)
      (bound_in config joining ∷ bound_in joining config ∷ refuse_if (takes_name config joining) NameTaken ∷ []) free)))

module _ (config joining : Configuration) (free : join_refusal config joining ≡ None) where
  pub no_cause : join_cause config joining ≡ None
  no_cause = all_pass [] (join_cause config joining) (spent config.sequence 1 ∷ []) free

  pub has_step : config.sequence + 1 ≤ greatest_sequence
  has_step = room_left config.sequence 1 (all_pass (join_cause config joining ∷ []) (spent config.sequence 1) [] free)
