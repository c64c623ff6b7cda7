-- Each disk of both groups can have its new copy where the join was readied.
use Rattle.std.proofs.Common.{◌≡◌, ℕ, ◌<◌, ◌^◌, Bool, true, false, not, List, [], ◌∷◌, ◌++◌, Option, Some, None, Ok, refl, ap, sym, subst}
use Rattle.std.specs.Prelude.{IfSome, option_map, slice_get}
use Rattle.std.specs.List.{AllByRecursion}
use Rattle.std.proofs.lemmas.Bool.{not-false}
use Rattle.ddf_lemmas.proofs.Options.{none_of_both}
use Rattle.ddf_config.specs.declared.member.Member.{Member}
use Rattle.ddf_config.specs.declared.refusal.Refusal.{Refusal}
use Rattle.ddf_config.specs.declared.refusal.Refusal.TheVariants as refusals
use Rattle.ddf_config.specs.Configuration.{Configuration}
use Rattle.ddf_config.specs.Refusals.{refuse_if}
use Rattle.ddf_config.proofs.Firsts.{all_pass}
use Rattle.ddf_copy.specs.Written.{CanBeCopy}
use Rattle.ddf_plan.proofs.Made.{not_refused}
use Rattle.ddf_import.specs.Clash.{join_cause}
use Rattle.ddf_rewrite.specs.Before.{Before}
use Rattle.ddf_rewrite.specs.Changing.{CanChange}
use Rattle.ddf_rewrite.specs.Copies.{changed_copy}
use Rattle.ddf_rewrite.specs.Hold.{IsHoldable}
use Rattle.ddf_rewrite.proofs.Lists.{all_at}
use Rattle.ddf_rewrite.proofs.Roomy.{change_can, roomy_change_can}
use Rattle.ddf_seats.specs.declared.seated.Seated.{Seated}
use Rattle.ddf_assembly.specs.Assembled.{IsAssembledGroup}
use Rattle.ddf_steps.specs.Full.{full_of, full_where_written, lengths_differ}
use Rattle.ddf_seats.specs.Changing.{record_length, HaveLength}
use Rattle.ddf_seats.specs.Group.{GroupValue}
use Rattle.ddf_joining.specs.Importing.{was_readied}
use Rattle.ddf_joining.specs.Joining.{Joining, bad_refusal, config_joining, full_of_entries, full_of_join, has_no_seats, has_strays, join_config, join_disks, join_leaders, join_refusal, join_spent, join_step, joining, joining_of, joining_unless, many_arrays, many_disks, numbers_differ}
use Rattle.ddf_joining.specs.JoinValue.{JoinValue}
use Rattle.ddf_recovery.specs.Ready.{ReadyValue}
use Rattle.ddf_recovery.specs.Recovery.{config_recovered, disks_recovered, full_of_recovery, recovery_of}
use Rattle.ddf_seats.specs.Leading.{some}
use Rattle.ddf_seats.specs.Seated.{seated}
use Rattle.ddf_steps.specs.Steps.{disks_after, stays_in}
use Rattle.ddf_joining.specs.Telling.{IsSide, native_side, other_side}
use Rattle.ddf_steps.specs.Trying.{CanTry, Follows}
use Rattle.ddf_joining.proofs.BothSides.{both_copies, both_held, both_led, few_arrays, have_both}
use Rattle.ddf_joining.proofs.ImportSides.{both_seated, native_is_side, other_is_side}
use Rattle.ddf_steps.proofs.OneLength.{HasRoom, can_try_all, has_room, one_length, own_length, room_on}
use Rattle.ddf_steps.proofs.Rewritten.{capacities}
use Rattle.ddf_joining.proofs.JoinReadied.{none_full}

-- What an answer that is Ok says.
record IsUnrefused (timestamp : ℕ) (native other : GroupValue) (made : Joining) : Type 0 where
  free : join_refusal timestamp native other ≡ None
  is_made : joining_of timestamp native other ≡ made

unrefused_by : (timestamp : ℕ) (native other : GroupValue) (made : Joining) (refusal : Option Refusal) (spent : Bool) → join_refusal timestamp native other ≡ refusal
    → joining_unless refusal spent (joining_of timestamp native other) ≡ Ok made → IsUnrefused timestamp native other made
unrefused_by timestamp native other made (Some refusal) spent e h = absurd cc
unrefused_by timestamp native other made None true e h = absurd cc
unrefused_by timestamp native other made None false e h = record { free = e; is_made = let same : joining_of timestamp native other ≡ made = cc in same }

is_unrefused : (timestamp : ℕ) (native other : GroupValue) (made : Joining) → joining timestamp native other ≡ Ok made → IsUnrefused timestamp native other made
unfolding joining
is_unrefused timestamp native other made h = unrefused_by timestamp native other made (join_refusal timestamp native other) (join_spent timestamp native other) refl h

-- Of a list of disks with one holdable configuration, some disk holds it.
some_holds : (config : Configuration) (sectors : ℕ) (disks : List Seated) → some disks ≡ true → HaveLength sectors disks
    → AllByRecursion (λ disk. HaveLength (record_length disk) disks → IsHoldable disk.copy.header.geometry.max_members config) disks → (most : ℕ) × IsHoldable most config
some_holds config sectors [] there same held = absurd cc
some_holds config sectors (disk ∷ disks) there same held =
    (disk.copy.header.geometry.max_members, held.0 (own_length sectors (disk ∷ disks) disk same same.0))

module _ (timestamp : ℕ) (time : timestamp < 2 ^ 32) (native other : GroupValue) (recovery : ReadyValue) (join : JoinValue)
    (ready : joining timestamp native other ≡ Ok (was_readied recovery join)) (native_is : IsAssembledGroup native) (other_is : IsAssembledGroup other)
    (recovers : IfSome recovery.recovery (Follows (seated native))) where
  is : IsUnrefused timestamp native other (was_readied recovery join)
  is = is_unrefused timestamp native other (was_readied recovery join) ready

  abbrev leaders : Before
  leaders = join_leaders timestamp native other

  abbrev next : Configuration
  next = join_config native other

  abbrev both : List Seated
  both = join_disks timestamp native other

  abbrev cause : Option Refusal
  cause = join_cause (config_recovered native) (config_joining other)

  abbrev no_seats : Option Refusal
  no_seats = refuse_if (has_no_seats native other) refusals.NoGroup

  abbrev stray : Option Refusal
  stray = refuse_if (has_strays native other) refusals.Unsettled

  abbrev geometry : Option Refusal
  geometry = refuse_if (numbers_differ (seated native ++ seated other)) refusals.Geometry

  abbrev none_left : Option Refusal
  none_left = refuse_if (not (some (disks_recovered timestamp native))) refusals.NoGroup

  abbrev behind_full : List (Option Refusal)
  behind_full = none_left ∷ option_map refusals.Full (full_of_join timestamp native other) ∷ bad_refusal other.seats ∷ []

  have_seats : has_no_seats native other ≡ false
  unfolding join_refusal
  have_seats =
      not_refused (has_no_seats native other) refusals.NoGroup
      (all_pass [] no_seats (stray ∷ cause ∷ geometry ∷ option_map refusals.Full (full_of_recovery timestamp native) ∷ behind_full) is.free)

  -- Nothing of the other group is there.
  pub free : join_cause (config_recovered native) (config_joining other) ≡ None
  unfolding join_refusal
  free = all_pass (no_seats ∷ stray ∷ []) cause (geometry ∷ option_map refusals.Full (full_of_recovery timestamp native) ∷ behind_full) is.free

  recovery_fits : full_of_recovery timestamp native ≡ None
  unfolding join_refusal
  recovery_fits =
      none_full (full_of_recovery timestamp native)
      (all_pass (no_seats ∷ stray ∷ cause ∷ geometry ∷ []) (option_map refusals.Full (full_of_recovery timestamp native)) behind_full is.free)

  some_native : some (disks_recovered timestamp native) ≡ true
  unfolding join_refusal
  some_native =
      not-false (some (disks_recovered timestamp native))
      (not_refused (not (some (disks_recovered timestamp native))) refusals.NoGroup
      (all_pass (no_seats ∷ stray ∷ cause ∷ geometry ∷ option_map refusals.Full (full_of_recovery timestamp native) ∷ []) none_left
      (option_map refusals.Full (full_of_join timestamp native other) ∷ bad_refusal other.seats ∷ []) is.free))

  join_fits : full_of_join timestamp native other ≡ None
  unfolding join_refusal
  join_fits =
      none_full (full_of_join timestamp native other)
      (all_pass (no_seats ∷ stray ∷ cause ∷ geometry ∷ option_map refusals.Full (full_of_recovery timestamp native) ∷ none_left ∷ [])
      (option_map refusals.Full (full_of_join timestamp native other)) (bad_refusal other.seats ∷ []) is.free)

  -- The step is this one.
  pub step_is : join.one.step ≡ record { config = join_config native other; disks = disks_after timestamp (join_leaders timestamp native other) (join_config native other) (join_disks timestamp native other) }
  unfolding join_step
  step_is = ap (λ (made : Joining). made.step) (sym is.is_made)

  -- The seats that join are the other group's.
  pub joining_is : join.joining ≡ other.seats
  joining_is = ap (λ (made : Joining). made.joining) (sym is.is_made)

  recovery_is : option_map (λ one. one.step) recovery.recovery ≡ recovery_of timestamp native
  recovery_is = ap (λ (made : Joining). made.recovery) (sym is.is_made)

  -- ---- the sides

  own_side : IsSide (native_side timestamp native)
  own_side = native_is_side timestamp time native native_is recovery.recovery recovery_is recovery_fits recovers some_native

  its_side : IsSide (other_side other)
  its_side = other_is_side other other_is (both_seated native other have_seats).1

  full_none : (full_of_entries (many_disks timestamp native other) (many_arrays native other) ≡ None) × (full_of timestamp leaders next both ≡ None)
  full_none = none_of_both (full_of_entries (many_disks timestamp native other) (many_arrays native other)) (full_of timestamp leaders next both) join_fits

  room : HasRoom timestamp leaders next both
  room = has_room timestamp leaders next both full_none.1

  tries : AllByRecursion (CanTry leaders next) both
  tries =
      can_try_all leaders next both (both_copies (native_side timestamp native) (other_side other) own_side its_side) room.same
      (both_led (native_side timestamp native) (other_side other) own_side its_side)
      (both_held (native_side timestamp native) (other_side other) own_side its_side free (few_arrays (native_side timestamp native) (other_side other) full_none.0))

  -- Each disk that is a member of both can have its new copy.
  pub join_can_change : (place : ℕ) (disk : Seated) → slice_get (join_disks timestamp native other) place ≡ Some disk → stays_in (join_config native other) disk ≡ true
      → CanChange disk.copy (join_leaders timestamp native other) (join_config native other) timestamp
  join_can_change place disk at stays =
      let try = all_at (CanTry leaders next) both place disk tries at in
      change_can disk.copy leaders next timestamp try.is_copy try.holdable
      (room_on leaders next timestamp disk stays (all_at (λ (one : Seated). full_where_written leaders next timestamp one ≡ None) both place disk room.none at))

  -- This can be written.
  pub join_is_copy : (place : ℕ) (disk : Seated) → slice_get (join_disks timestamp native other) place ≡ Some disk → stays_in (join_config native other) disk ≡ true
      → CanBeCopy (changed_copy disk.copy (join_leaders timestamp native other) (join_config native other) timestamp)
  join_is_copy place disk at stays =
      let try = all_at (CanTry leaders next) both place disk tries at in
      roomy_change_can disk.copy leaders next timestamp try.is_copy try.holdable try.leaders_held time
      (λ n wanted there none. capacities disk.copy.header.geometry.max_members next try.holdable n wanted there)
      (room_on leaders next timestamp disk stays (all_at (λ (one : Seated). full_where_written leaders next timestamp one ≡ None) both place disk room.none at))

  -- ---- the group's own members

  both_sized : (sectors : ℕ) × HaveLength sectors both
  both_sized = by both refl
    where
      by : (disks : List Seated) → both ≡ disks → (sectors : ℕ) × HaveLength sectors both
      by [] none = (0, subst (λ (disks : List Seated). HaveLength 0 disks) (sym none) tt)
      by (disk ∷ disks) some_are = (
        record_length disk,
        subst (λ (all : List Seated). HaveLength (record_length disk) all) (sym some_are)
            (one_length disk disks (subst (λ (all : List Seated). lengths_differ all ≡ false) some_are room.same)),
      )

  -- No reference is that of two members of it.
  pub members_apart : (i j : ℕ) (one also : ℕ × Member) → slice_get (config_recovered native).members i ≡ Some one → slice_get (config_recovered native).members j ≡ Some also
      → one.0 ≡ also.0 → one ≡ also
  members_apart =
      let own = (have_both (λ disk. record_length disk ≡ both_sized.0) (disks_recovered timestamp native) (seated other) both_sized.1).0 in
      let holds = some_holds (config_recovered native) both_sized.0 (disks_recovered timestamp native) some_native own own_side.can_hold in
      holds.1.spares.apart
