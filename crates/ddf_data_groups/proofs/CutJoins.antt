-- What the history of a group promised of its arrays they keep where an import of it was cut, or failed, in the history of the group that it joins.
use Rattle.std.proofs.Common.{◌≡◌, ◌∙◌, ◌⊎◌, inl, inr, ⊎_elim, ℕ, zero, suc, ◌==◌, not, Bool, true, false, List, [], ◌∷◌, ◌++◌, cond, filter, Option, Some, None, if◌then◌else◌, refl, ap, sym, subst, arith}
use Rattle.std.specs.Prelude.{option_to_list, slice_get}
use Rattle.std.specs.List.{AllByRecursion}
use Rattle.std.specs.Map.{lookup}
use Rattle.ddf_lemmas.proofs.Lists.{filter_get, in_map}
use Rattle.ddf_lemmas.proofs.Options.{none_some}
use Rattle.ddf_bytes.specs.Streams.{SourceState}
use Rattle.ddf_bay.specs.Sectors.{Image, IsLeft}
use Rattle.ddf_bay.specs.State.{BayState}
use Rattle.ddf_config.specs.declared.array.Array.{Array}
use Rattle.ddf_config.specs.Configuration.{Configuration}
use Rattle.ddf_config.specs.Extents.{extents}
use Rattle.ddf_config.specs.Members.{same_guid}
use Rattle.ddf_import.specs.Joined.{arrays_joined}
use Rattle.ddf_import.proofs.Apart.{arrays_fresh}
use Rattle.ddf_data_array.specs.Allowed.{Allowed}
use Rattle.ddf_data_group.specs.Kept.{KeepsArray}
use Rattle.ddf_data_group.proofs.Entries.{guid_is}
use Rattle.ddf_history.specs.Groups.{Disk, has_current}
use Rattle.ddf_history.specs.Issued.{IsSince}
use Rattle.ddf_history.specs.Scenes.{scene_of}
use Rattle.ddf_data_history.specs.Carried.{IsAllData}
use Rattle.ddf_data_history.specs.Promised.{KeepsData, is_seat, seats_in}
use Rattle.ddf_data_history.proofs.Steps.{below_floors}
use Rattle.ddf_joining.specs.Joining.{config_joining, join_config}
use Rattle.ddf_recovery.specs.Recovery.{config_lost, config_recovered, lost_step, mending_step, recovery_of}
use Rattle.ddf_assembly.specs.Slots.{first_left_out}
use Rattle.ddf_seats.specs.Group.{GroupValue}
use Rattle.ddf_seats.specs.Leading.{some}
use Rattle.ddf_steps.specs.Steps.{Step}
use Rattle.ddf_history_steps.specs.Going.{Goes, KeepsSlots}
use Rattle.ddf_history_joins.specs.Joins.{AdmitsBoth}
use Rattle.ddf_history_steps.specs.Kept.{is_read}
use Rattle.ddf_history_steps.specs.Steps.{recovery_changes}
use Rattle.ddf_history_steps.proofs.SlotsKept.{ends_slots}
use Rattle.ddf_group_commands.specs.Change.{is_done}
use Rattle.ddf_data_events.specs.Calls.{JoinCall, joins_in}
use Rattle.ddf_data_events.specs.Events.{KeepsAt}
use Rattle.ddf_data_events.specs.Joins.{JoinsWholly}
use Rattle.ddf_data_events.specs.Moments.{KeepsAll, Moment}
use Rattle.ddf_data_events.proofs.Bays.{AreBays, sectors}
use Rattle.ddf_data_events.proofs.JoinAsked.{IsUnrefused, is_readied}
use Rattle.ddf_data_events.proofs.JoinBrought.{brought_keeps}
use Rattle.ddf_data_events.proofs.JoinKept.{IsImportOf, join_below, next_is, unrefused}
use Rattle.ddf_data_events.proofs.JoinStaying.{array_from}
use Rattle.ddf_data_events.proofs.JoinTheirs as both
use Rattle.ddf_data_events.proofs.Joined.{took}
use Rattle.ddf_data_lives.proofs.Since.{goes_since}

-- An array that joins has the GUID of none that is there.
none_there : (guid : List ℕ) (arrays others : List (List ℕ × Array)) (array : Array) → lookup (same_guid guid) others ≡ Some array
    → AllByRecursion (λ (entry : List ℕ × Array). lookup (same_guid entry.0) arrays ≡ None) others → lookup (same_guid guid) arrays ≡ None
none_there guid arrays [] array found fresh = absurd cc
none_there guid arrays (entry ∷ others) array found fresh = go (λ later. none_there guid arrays others array later fresh.1) (same_guid guid entry.0) refl found
  where
    go : (lookup (same_guid guid) others ≡ Some array → lookup (same_guid guid) arrays ≡ None) → (b : Bool) → same_guid guid entry.0 ≡ b
        → cond b (Some entry.1) (lookup (same_guid guid) others) ≡ Some array → lookup (same_guid guid) arrays ≡ None
    go later true same here = subst (λ (one : List ℕ). lookup (same_guid one) arrays ≡ None) (sym (guid_is guid entry.0 same)) fresh.0
    go later false differs there = later there

-- ---- what a recovery issues

only_step : (next : Option Step) (place : ℕ) (step : Step) → slice_get (option_to_list next) place ≡ Some step → next ≡ Some step
only_step None place step at = absurd cc
only_step (Some one) zero step at = at
only_step (Some one) (suc place) step at = absurd cc

-- It is the group as it is recovered.
recovery_is : (timestamp : ℕ) (native : GroupValue) (step : Step) → recovery_of timestamp native ≡ Some step → step.config ≡ config_recovered native
unfolding recovery_of config_recovered
recovery_is timestamp native step is = by (some native.absent) (some native.lagging) is
  where
    by : (absent lagging : Bool) → ◌≡◌ {A = Option Step} (if absent then Some (lost_step timestamp native) else if lagging then Some (mending_step timestamp native) else None) (Some step)
        → step.config ≡ (if absent then config_lost native else native.config)
    by true lagging at = let same : lost_step timestamp native ≡ step = cc in sym (ap (λ (one : Step). one.config) same)
    by false true at = let same : mending_step timestamp native ≡ step = cc in sym (ap (λ (one : Step). one.config) same)
    by false false at = absurd cc

recovery_issues : (timestamp : ℕ) (native : GroupValue) (place : ℕ) (config : Configuration) → slice_get (recovery_changes timestamp native) place ≡ Some config → config ≡ config_recovered native
recovery_issues timestamp native place config at =
    let later : Step → Bool = λ step. not (step.config.sequence == native.config.sequence) in
    let one = in_map (λ (step : Step). step.config) (filter later (option_to_list (recovery_of timestamp native))) place config at in
    let from = filter_get later (option_to_list (recovery_of timestamp native)) place one.0 one.1 in
    sym one.2 ∙ recovery_is timestamp native one.0 (only_step (recovery_of timestamp native) from.0 one.0 from.1)

-- what holds of all of a list and of one more holds of each
one_more : (P : Configuration → Type 0) (xs : List Configuration) (last : Configuration) → ((place : ℕ) (config : Configuration) → slice_get xs place ≡ Some config → P config) → P last
    → (place : ℕ) (config : Configuration) → slice_get (xs ++ last ∷ []) place ≡ Some config → P config
one_more P [] last all is zero config at = let same : last ≡ config = cc in subst P same is
one_more P [] last all is (suc place) config at = absurd cc
one_more P (first ∷ xs) last all is zero config at = all 0 config at
one_more P (first ∷ xs) last all is (suc place) config at = one_more P xs last (λ k one there. all (suc k) one there) is place config at

module _ {B : Type 0} {tells : Type 0} (told : tells) (disks : B → BayState B) {S : Type 0} (tells_bytes : Type 0) (streams : S → SourceState) (guid : List ℕ) (are : AreBays disks)
    (old : Moment guid B) (all : KeepsAll disks old) (call : JoinCall told disks tells_bytes streams guid old) (new : Moment guid B) (same_floor : new.floor ≡ old.floor)
    (was_left : (image : Image) → IsLeft (disks new.bay).may_hold image → (disks call.join.exit).left_since (disks old.bay).moment image)
    (goes : Goes guid old.past (is_read call.join.imported.first.left) call.join.group (joins_in told disks tells_bytes streams guid call) new.past)
    (theirs : Moment call.join.other B) (wholly : JoinsWholly disks old call.join.other call.join.imported.second.left call.join.joining theirs) where
  abbrev readable : ℕ → Bool
  readable = is_read call.join.imported.first.left

  abbrev next : Configuration
  next = call.join.made.step.config

  abbrev config : Configuration
  config = config_recovered call.join.group

  abbrev joining : Configuration
  joining = config_joining call.join.joining

  slots : KeepsSlots guid old.past new.past readable call.join.group
  slots = ends_slots guid old.past readable call.join.group (joins_in told disks tells_bytes streams guid call) false new.past goes

  import : IsImportOf guid (disks old.bay) (disks call.join.exit) old.past old.floor old.promises call.join.group call.join.joining call.join.timestamp call.join.made call.join.imported.first.left
      (is_done call.join.outcome)
  import = took told disks tells_bytes streams guid are old all call

  asked : IsUnrefused call.join.timestamp call.join.group call.join.joining call.join.made
  asked =
      unrefused guid (disks old.bay) (disks call.join.exit) old.past old.floor old.promises call.join.group call.join.joining call.join.timestamp call.join.made call.join.imported.first.left
      (is_done call.join.outcome) import

  config_is : call.join.made.step.config ≡ join_config call.join.group call.join.joining
  config_is =
      next_is guid (disks old.bay) (disks call.join.exit) old.past old.floor old.promises call.join.group call.join.joining call.join.timestamp call.join.made call.join.imported.first.left
      (is_done call.join.outcome) import

  -- ---- what both histories know

  none_out : first_left_out call.join.imported.first.left call.join.joining.seats ≡ None
  none_out = (is_readied call.join.timestamp call.join.imported.first.left call.join.group call.join.joining call.join.made call.join.are_asked).1

  admits : AdmitsBoth guid old.past (scene_of (disks old.bay).sizes (disks old.bay).held) call.join.group call.join.joining
  admits = call.join.admits_join (disks old.bay).held ((are old.bay).held call.tells_left)

  all_joins : config_joining call.join.joining ≡ call.join.joining.config
  all_joins =
      both.all_joins guid call.join.other (disks old.bay) call.join.imported.first.left call.join.imported.second.left call.join.imported.first.every_slot call.join.imported.second.every_slot
      call.join.imported.second.newest (call.join.imported.second.read told) call.join.group call.join.joining call.join.is_joining old.past admits theirs.past wholly.admitted wholly.none_absent none_out

  their_since : (number : ℕ) × IsSince theirs.past.changes number call.join.joining.config
  their_since =
      both.their_since guid call.join.other (disks old.bay) call.join.imported.first.left call.join.imported.second.left call.join.imported.first.every_slot call.join.imported.second.every_slot
      call.join.imported.second.newest (call.join.imported.second.read told) call.join.group call.join.joining call.join.is_joining old.past admits theirs.past wholly.admitted wholly.none_absent none_out

  same_count : new.past.slots ≡ theirs.past.slots
  same_count = slots.same_slots ∙ call.join.admitted.same_slots ∙ sym wholly.admitted.same_slots

  brought : (slot : ℕ) → is_seat call.join.other theirs.past joining slot ≡ true → (new.past.disk slot ≡ theirs.past.disk slot) × (new.past.lost slot ≡ false)
  brought slot here =
      let one =
      both.brought guid call.join.other (disks old.bay) call.join.imported.first.left call.join.imported.second.left call.join.imported.first.every_slot call.join.imported.second.every_slot
      call.join.imported.second.newest (call.join.imported.second.read told) call.join.group call.join.joining call.join.is_joining old.past admits theirs.past wholly.admitted wholly.none_absent none_out slot
      (subst (λ (made : Configuration). is_seat call.join.other theirs.past made slot ≡ true) all_joins here) in (
        ap (λ (disk : ℕ → Disk). disk slot) slots.same_disks ∙ one.0,
        slots.not_lost slot one.1 ∙ call.join.admitted.may_read.not_lost slot one.1,
      )

  known : (slot : ℕ) → has_current joining (new.past.disk slot) ≡ true → (new.past.disk slot ≡ theirs.past.disk slot) × (theirs.past.lost slot ≡ false)
  known slot current =
      let same = ap (λ (disk : ℕ → Disk). disk slot) slots.same_disks in
      let one =
      both.known guid call.join.other (disks old.bay) call.join.imported.first.left call.join.imported.second.left call.join.imported.first.every_slot call.join.imported.second.every_slot
      call.join.imported.second.newest (call.join.imported.second.read told) call.join.group call.join.joining call.join.is_joining old.past admits theirs.past wholly.admitted wholly.none_absent none_out slot
      (subst (λ (made : Configuration). has_current made (old.past.disk slot) ≡ true) all_joins (ap (has_current joining) (sym same) ∙ current)) in
      (same ∙ one.0, one.1)

  -- ---- the data of the other group

  their_entry : IsAllData call.join.other theirs.past old.floor (disks old.bay) theirs.promises
  their_entry =
      subst (λ (bay : B). IsAllData call.join.other theirs.past old.floor (disks bay) theirs.promises) wholly.same_bay
      (subst (λ (floor : ℕ → ℕ). IsAllData call.join.other theirs.past floor (disks theirs.bay) theirs.promises) wholly.same_floor wholly.keeps.keeps)

  their_data : (image : Image) → IsLeft (disks new.bay).may_hold image → KeepsData call.join.other theirs.past old.floor image theirs.promises
  their_data image left = ⊎_elim
      (λ first. their_entry image ((are old.bay).only_now image first))
      (λ writing.
      below_floors call.join.other old.floor old.small theirs.past writing.before theirs.promises (their_entry writing.before writing.is_left) image (sectors disks are new.bay image left)
      (join_below guid (disks old.bay) (disks call.join.exit) old.past old.floor old.promises call.join.group call.join.joining call.join.timestamp call.join.made call.join.imported.first.left
      (is_done call.join.outcome) import image writing))
      ((import).leaves.since (disks old.bay).moment image (omega arith) (was_left image left))

  -- ---- an array that joins

  module _ (array : List ℕ) (fresh : (number : ℕ) (one : Configuration) → IsSince old.past.changes number one → lookup (same_guid array) one.arrays ≡ None) (entry : Array)
      (there : lookup (same_guid array) call.join.joining.config.arrays ≡ Some entry) where
    in_joining : lookup (same_guid array) joining.arrays ≡ Some entry
    in_joining = subst (λ (made : Configuration). lookup (same_guid array) made.arrays ≡ Some entry) (sym all_joins) there

    none_native : lookup (same_guid array) config.arrays ≡ None
    none_native = none_there array config.arrays joining.arrays entry in_joining (arrays_fresh config joining (asked).free)

    -- No configuration has it but that of both groups.
    abbrev IsWithoutOrBoth : Configuration → Type 0
    IsWithoutOrBoth one = (lookup (same_guid array) one.arrays ≡ None) ⊎ (one ≡ next)

    issued_each : (place : ℕ) (one : Configuration) → slice_get (joins_in told disks tells_bytes streams guid call) place ≡ Some one → IsWithoutOrBoth one
    issued_each =
        one_more IsWithoutOrBoth (recovery_changes call.join.timestamp call.join.group) next
        (λ place one at. inl (ap (λ (made : Configuration). lookup (same_guid array) made.arrays) (recovery_issues call.join.timestamp call.join.group place one at) ∙ none_native)) (inr refl)

    only : (number : ℕ) (one : Configuration) (after : Array) → IsSince new.past.changes number one → lookup (same_guid array) one.arrays ≡ Some after → one ≡ next
    only number one after since is = ⊎_elim
        (λ none. absurd (none_some (lookup (same_guid array) one.arrays) after none is))
        (λ same. same)
        (goes_since guid old.past readable call.join.group IsWithoutOrBoth (λ n before from. inl (fresh n before from)) (joins_in told disks tells_bytes streams guid call) issued_each new.past goes number one since)

    -- So it is kept by the history of the group that both become.
    pub cut_keeps_at : (allowed : Allowed) → theirs.promises array ≡ Some allowed → KeepsAt disks new array allowed
    cut_keeps_at allowed promised image left number one after since is =
        let one_is = only number one after since is in
        subst (λ (made : Configuration). KeepsArray made.members (seats_in guid new.past new.floor made) after image allowed) (sym one_is)
        (subst (λ (floor : ℕ → ℕ). KeepsArray next.members (seats_in guid new.past floor next) after image allowed) (sym same_floor)
        (⊎_elim
        (λ own. absurd (none_some (lookup (same_guid array) config.arrays) own.0 none_native own.1))
        (λ joins.
        brought_keeps config joining next (asked).free (ap (λ (made : Configuration). made.members) config_is) guid call.join.other old.floor new.past theirs.past same_count brought known array joins.0 joins.2
        (extents (arrays_joined config joining)) joins.1 after joins.3 image allowed
        (subst (λ (made : Configuration). KeepsArray made.members (seats_in call.join.other theirs.past old.floor made) joins.0 image allowed) (sym all_joins)
        (their_data image left (their_since).0 call.join.joining.config (their_since).1 array allowed joins.0 promised
        (subst (λ (made : Configuration). lookup (same_guid array) made.arrays ≡ Some joins.0) all_joins joins.2))))
        (array_from config joining next (asked).free (ap (λ (made : Configuration). made.members) config_is) (ap (λ (made : Configuration). made.arrays) config_is) array after
        (subst (λ (made : Configuration). lookup (same_guid array) made.arrays ≡ Some after) one_is is))))
