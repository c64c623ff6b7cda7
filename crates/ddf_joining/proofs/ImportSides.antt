-- The two sides of an import: the group behind its recovery, and the other one as it is, once its absent members are lost.
use Rattle.std.proofs.Common.{◌≡◌, ℕ, ◌^◌, ◌<◌, Bool, true, false, not, ◌&&◌, filter, List, [], ◌∷◌, Option, None, Result, Ok, Err, refl, ap, subst, ◌∙◌}
use Rattle.std.proofs.lemmas.Bool.{and_parts, not-false}
use Rattle.std.specs.Prelude.{IfSome, option_map}
use Rattle.std.specs.List.{AllByRecursion}
use Rattle.ddf_config.specs.declared.refusal.FullTable.{FullTable}
use Rattle.ddf_config.specs.declared.refusal.Refusal.TheVariants.{Full, NoGroup}
use Rattle.ddf_config.specs.Configuration.{Configuration}
use Rattle.ddf_config.specs.Refusals.{first_refusal, refuse_if}
use Rattle.ddf_config.proofs.Firsts.{first_of_one}
use Rattle.ddf_plan.specs.declared.change.Change.TheVariants.{Lose}
use Rattle.ddf_plan.specs.Changes.{changed_at}
use Rattle.ddf_import.specs.Joined.{without_lost}
use Rattle.ddf_rewrite.specs.Hold.{IsHoldable}
use Rattle.ddf_rewrite.specs.Wanted.{all_wanted}
use Rattle.ddf_seats.specs.declared.fault.GroupFault.{GroupFault}
use Rattle.ddf_seats.specs.declared.fault.GroupFault.TheVariants.{Refused, SequenceSpent, Memory}
use Rattle.ddf_seats.specs.declared.seated.Seated.{Seated}
use Rattle.ddf_assembly.specs.Assembled.{IsAssembledGroup}
use Rattle.ddf_seats.specs.Changing.{record_length, CanBeChanged, CanBeHeldOn, HaveLength}
use Rattle.ddf_seats.specs.Group.{GroupValue}
use Rattle.ddf_joining.specs.Joining.{config_joining, has_no_seats}
use Rattle.ddf_steps.specs.Ready.{ReadyStep}
use Rattle.ddf_recovery.specs.Recovery.{config_lost, config_recovered, disks_recovered, full_of_recovery, recovery_of}
use Rattle.ddf_seats.specs.Leading.{leading_disks, leads, some}
use Rattle.ddf_seats.specs.Seated.{seated}
use Rattle.ddf_joining.specs.Telling.{IsMade, IsMadeBehind, IsSide, SideValue, native_side, other_side, refusal_behind, sides_full}
use Rattle.ddf_steps.specs.Trying.{Follows}
use Rattle.ddf_recovery.proofs.Behind.{is_behind}
use Rattle.ddf_steps.proofs.Following.{copies_are}
use Rattle.ddf_assembly.proofs.Leaders.{held_on, leading_copies, leading_length}
use Rattle.ddf_recovery.proofs.Lost.{lost_held}

-- ---- the group behind its recovery

pub native_is_side : (timestamp : ℕ) → timestamp < 2 ^ 32 → (group : GroupValue) → IsAssembledGroup group → (next : Option ReadyStep) → option_map (λ one. one.step) next ≡ recovery_of timestamp group
    → full_of_recovery timestamp group ≡ None → IfSome next (Follows (seated group)) → some (disks_recovered timestamp group) ≡ true → IsSide (native_side timestamp group)
native_is_side timestamp time group is next same free follows there =
    let behind = is_behind timestamp time group is next same free follows in
    let changed : CanBeChanged (config_recovered group) (disks_recovered timestamp group) =
    subst (λ (config : Configuration). CanBeChanged config (disks_recovered timestamp group)) behind.config_is (subst (CanBeChanged _) behind.disks_are behind.changed) in
    record {
      some_disk = there;
      are_copies = copies_are (config_recovered group) (disks_recovered timestamp group) changed.of_group;
      are_leaders = copies_are (config_recovered group) (disks_recovered timestamp group) changed.of_group;
      same_length = λ sectors same. same;
      can_hold = changed.can_hold;
    }

-- ---- the other one

-- A configuration can be held at another sequence number too.
numbered_anew : (most : ℕ) (config : Configuration) (sequence : ℕ) → sequence < 2 ^ 32 → IsHoldable most config → IsHoldable most (record config { sequence = sequence })
unfolding all_wanted
numbered_anew most config sequence fits is = record {
  can_hold = record {
    group = is.can_hold.group;
    sequence = fits;
    members = is.can_hold.members;
    references = is.can_hold.references;
    guids = is.can_hold.guids;
    arrays = is.can_hold.arrays;
    plans = is.can_hold.plans;
  };
  names = record { guids = is.names.guids; elements = is.names.elements };
  readable = is.readable;
  rebuilt = is.rebuilt;
  spares = record { apart = is.spares.apart; named = is.spares.named; listed = is.spares.listed; held = is.spares.held };
}

module _ (other : GroupValue) (is : IsAssembledGroup other) where
  abbrev disks : List Seated
  disks = seated other

  -- where a configuration can be held, and its own one can
  both_hold : (config : Configuration) (some_disks : List Seated) → AllByRecursion (λ disk. HaveLength (record_length disk) disks → IsHoldable disk.copy.header.geometry.max_members config) some_disks
      → AllByRecursion (λ disk. HaveLength (record_length disk) disks → IsHoldable disk.copy.header.geometry.max_members other.config) some_disks
      → AllByRecursion (λ disk. HaveLength (record_length disk) disks → IsHoldable disk.copy.header.geometry.max_members (record config { sequence = other.config.sequence })) some_disks
  both_hold config [] held own = tt
  both_hold config (disk ∷ some_disks) held own =
      (λ same. numbered_anew disk.copy.header.geometry.max_members config other.config.sequence (own.0 same).can_hold.sequence (held.0 same), both_hold config some_disks held.1 own.1)

  joining_held : CanBeHeldOn (config_joining other) disks
  joining_held = by other.absent refl
    where
      by : (absent : List ℕ) → other.absent ≡ absent → CanBeHeldOn (without_lost other.config absent) disks
      by [] e = held_on other is
      by (reference ∷ references) e =
          subst (λ (lost : List ℕ). CanBeHeldOn (changed_at other.config (Lose lost) other.config.sequence) disks) e
          (both_hold (config_lost other) disks (lost_held other is) (held_on other is))

  pub other_is_side : some disks ≡ true → IsSide (other_side other)
  other_is_side there = record {
    some_disk = there;
    are_copies = is.are_copies;
    are_leaders = leading_copies other is;
    same_length = leading_length other is;
    can_hold = joining_held;
  }

-- ---- seats

pub both_seated : (group other : GroupValue) → has_no_seats group other ≡ false → (some (seated group) ≡ true) × (some (seated other) ≡ true)
both_seated group other h = and_parts (some (seated group)) (some (seated other)) (not-false (some (seated group) && some (seated other)) h)

-- ---- the step

-- A side by its parts.
pub side_is : (side : SideValue) (config : Configuration) (disks leaders : List Seated) → config ≡ side.config → disks ≡ side.disks → leaders ≡ side.leaders
    → record { config = config; disks = disks; leaders = leaders } ≡ side
side_is side config disks leaders e f g =
    ap (λ (c : Configuration). as_side c disks leaders) e ∙ ap (λ (l : List Seated). as_side side.config l leaders) f ∙ ap (λ (l : List Seated). as_side side.config side.disks l) g
  where
    as_side : Configuration → List Seated → List Seated → SideValue
    as_side c l m = record { config = c; disks = l; leaders = m }

refused_behind : (timestamp : ℕ) (group other : GroupValue) → some (disks_recovered timestamp group) ≡ true
    → refusal_behind timestamp group other ≡ first_refusal (option_map Full (sides_full timestamp (native_side timestamp group) (other_side other)) ∷ [])
refused_behind timestamp group other there =
    ap (λ (b : Bool). first_refusal (refuse_if (not b) NoGroup ∷ option_map Full (sides_full timestamp (native_side timestamp group) (other_side other)) ∷ [])) there

-- The step of both sides is the one behind the recovery.
pub made_behind : (timestamp : ℕ) (group other : GroupValue) (result : Result ReadyStep GroupFault) → some (disks_recovered timestamp group) ≡ true
    → IsMade timestamp (native_side timestamp group) (other_side other) result → IsMadeBehind timestamp group other result
made_behind timestamp group other (Ok one) there made =
    (refused_behind timestamp group other there ∙ ap (λ (full : Option FullTable). first_refusal (option_map Full full ∷ [])) made.0, made.1)
made_behind timestamp group other (Err Memory) there made = tt
made_behind timestamp group other (Err (Refused refusal)) there made =
    refused_behind timestamp group other there ∙ first_of_one (option_map Full (sides_full timestamp (native_side timestamp group) (other_side other))) ∙ made
made_behind timestamp group other (Err SequenceSpent) there made = absurd made

pub none_left : (timestamp : ℕ) (group other : GroupValue) → some (disks_recovered timestamp group) ≡ false → IsMadeBehind timestamp group other (Err (Refused NoGroup))
none_left timestamp group other none =
    ap (λ (b : Bool). first_refusal (refuse_if (not b) NoGroup ∷ option_map Full (sides_full timestamp (native_side timestamp group) (other_side other)) ∷ [])) none

pub leaders_are : (other : GroupValue) (config : Configuration) (disks leaders : List Seated) → config ≡ other.config → disks ≡ seated other → leaders ≡ filter (leads config) disks → leaders ≡ leading_disks other
unfolding leading_disks
leaders_are other config disks leaders e f g = g ∙ ap (λ (c : Configuration). filter (leads c) disks) e ∙ ap (filter (leads other.config)) f
