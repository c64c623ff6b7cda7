-- What refuses a join whatever the tables of the disks hold, by its parts.
use Rattle.std.proofs.Common.{◌≡◌, Bool, true, false, ℕ, List, [], ◌∷◌, Option, Some, None, refl, sym, ap, subst, ◌∙◌, if◌then◌else◌}
use Rattle.std.specs.List.{AllByRecursion, list_any}
use Rattle.std.specs.Str.{bytes_eq}
use Rattle.std.proofs.lemmas.Bool.{or_parts}
use Rattle.ddf_config.specs.declared.refusal.Refusal.{Refusal}
use Rattle.ddf_config.specs.declared.refusal.Refusal.TheVariants as refusals
use Rattle.ddf_config.specs.Configuration.{Configuration}
use Rattle.ddf_config.specs.Refusals.{first_refusal, refuse_if}
use Rattle.ddf_config.proofs.Firsts.{all_pass}
use Rattle.ddf_plan.proofs.Made.{not_refused}
use Rattle.ddf_import.specs.Clash.{join_cause}
use Rattle.ddf_seats.specs.declared.seated.Seated.{Seated}
use Rattle.ddf_seats.specs.Group.{GroupValue}
use Rattle.ddf_joining.specs.Importing.{IsOfAnother, first_causes, has_own}
use Rattle.ddf_joining.specs.Joining.{config_joining, has_no_seats, has_strays, join_config}
use Rattle.ddf_recovery.specs.Recovery.{config_lost, config_recovered}
use Rattle.ddf_seats.specs.Leading.{some}
use Rattle.ddf_seats.specs.Seated.{seated}

-- the first of the first two before others
pub first_of_two : (first second : Option Refusal) (behind : List (Option Refusal)) → first_refusal (first_refusal (first ∷ second ∷ []) ∷ behind) ≡ first_refusal (first ∷ second ∷ behind)
first_of_two None None behind = refl
first_of_two None (Some refusal) behind = refl
first_of_two (Some refusal) second behind = refl

-- none of these disks' copies is of a group
none_of : (config : Configuration) (disks : List Seated) → list_any (λ disk. bytes_eq disk.copy.header.guid config.group) disks ≡ false → IsOfAnother config disks
none_of config [] h = tt
none_of config (disk ∷ disks) h =
    let parts = or_parts (bytes_eq disk.copy.header.guid config.group) (list_any (λ other. bytes_eq other.copy.header.guid config.group) disks) h in
    (parts.0, none_of config disks parts.1)

-- The group stays the one that is joined.
join_group : (native other : GroupValue) → (join_config native other).group ≡ native.config.group
unfolding config_recovered
join_group native other = by (some native.absent)
  where
    by : (b : Bool) → (if b then config_lost native else native.config).group ≡ native.config.group
    by true = refl
    by false = refl

-- Where nothing refuses it the disks that join are of another group.
pub joins_another : (native other : GroupValue) → first_refusal (first_causes native other) ≡ None → IsOfAnother (join_config native other) (seated other)
joins_another native other none =
    let passes : refuse_if (has_own native other) refusals.Unsettled ≡ None = all_pass (refuse_if (has_no_seats native other) refusals.NoGroup ∷ refuse_if (has_strays native other) refusals.Unsettled ∷ join_cause (config_recovered native) (config_joining other) ∷ [])
    (refuse_if (has_own native other) refusals.Unsettled) [] none in
    let another : IsOfAnother native.config (seated other) = none_of native.config (seated other) (not_refused (has_own native other) refusals.Unsettled passes) in
    subst (λ (group : List ℕ). AllByRecursion (λ disk. bytes_eq disk.copy.header.guid group ≡ false) (seated other)) (sym (join_group native other)) another

-- The first of what its parts answer is the first of all.
pub first_is : (native other : GroupValue) (result first clash own : Option Refusal) → result ≡ first_refusal (first ∷ clash ∷ own ∷ [])
    → first ≡ first_refusal (refuse_if (has_no_seats native other) refusals.NoGroup ∷ refuse_if (has_strays native other) refusals.Unsettled ∷ [])
    → clash ≡ join_cause (config_recovered native) (config_joining other) → own ≡ refuse_if (has_own native other) refusals.Unsettled → result ≡ first_refusal (first_causes native other)
first_is native other result first clash own is first_are clash_is own_is =
    is
    ∙ ap (λ (one : Option Refusal). first_refusal (one ∷ clash ∷ own ∷ [])) first_are
    ∙ first_of_two (refuse_if (has_no_seats native other) refusals.NoGroup) (refuse_if (has_strays native other) refusals.Unsettled) (clash ∷ own ∷ [])
    ∙ ap (λ (one : Option Refusal). first_refusal (refuse_if (has_no_seats native other) refusals.NoGroup ∷ refuse_if (has_strays native other) refusals.Unsettled ∷ one ∷ own ∷ [])) clash_is
    ∙ ap (λ (one : Option Refusal). first_refusal (refuse_if (has_no_seats native other) refusals.NoGroup ∷ refuse_if (has_strays native other) refusals.Unsettled ∷ join_cause (config_recovered native) (config_joining other) ∷ one ∷ [])) own_is
