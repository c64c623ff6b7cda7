-- What the history of a group that joined promised of its arrays they keep in the history of the group that it joined.
use Rattle.std.proofs.Common.{◌≡◌, ◌∙◌, ⊎_elim, ℕ, Bool, true, false, List, [], ◌∷◌, cond, Option, Some, None, slice_get, refl, ap, sym, subst, arith}
use Rattle.std.specs.List.{AllByRecursion}
use Rattle.std.specs.Map.{lookup}
use Rattle.std.proofs.lemmas.Option.{slice_get_within}
use Rattle.ddf_bytes.specs.Streams.{SourceState}
use Rattle.ddf_bay.specs.Sectors.{Image, IsLeft}
use Rattle.ddf_bay.specs.State.{BayState}
use Rattle.ddf_config.specs.declared.array.Array.{Array}
use Rattle.ddf_config.specs.Configuration.{Configuration}
use Rattle.ddf_config.specs.Extents.{extents}
use Rattle.ddf_config.specs.Members.{same_guid}
use Rattle.ddf_import.specs.Joined.{arrays_joined}
use Rattle.ddf_import.proofs.Apart.{arrays_fresh}
use Rattle.ddf_data_array.specs.Allowed.{Allowed}
use Rattle.ddf_data_group.specs.Kept.{KeepsArray}
use Rattle.ddf_data_group.proofs.Entries.{guid_is}
use Rattle.ddf_rewrite.proofs.Lists.{some_same}
use Rattle.ddf_history.specs.Groups.{Disk, has_current}
use Rattle.ddf_history.specs.Issued.{IsSince}
use Rattle.ddf_history.specs.Scenes.{scene_of}
use Rattle.ddf_data_history.specs.Carried.{IsAllData}
use Rattle.ddf_data_history.specs.Promised.{KeepsData, is_seat, seats_in}
use Rattle.ddf_data_history.proofs.Steps.{below_floors}
use Rattle.ddf_joining.specs.Joining.{config_joining, join_config}
use Rattle.ddf_recovery.specs.Recovery.{config_recovered}
use Rattle.ddf_assembly.specs.Slots.{first_left_out}
use Rattle.ddf_history_steps.specs.Going.{IsOver, KeepsSlots}
use Rattle.ddf_history_joins.specs.Joins.{AdmitsBoth}
use Rattle.ddf_history_steps.specs.Kept.{is_read}
use Rattle.ddf_history_steps.specs.Steps.{recovery_changes}
use Rattle.ddf_history_steps.proofs.LastIssued.{last_more, over_last, over_length}
use Rattle.ddf_history_steps.proofs.SlotsKept.{ends_slots}
use Rattle.ddf_group_commands.specs.Change.{is_done}
use Rattle.ddf_data_events.specs.Calls.{JoinCall, joins_in}
use Rattle.ddf_data_events.specs.Events.{KeepsAt}
use Rattle.ddf_data_events.specs.Joins.{JoinsWholly}
use Rattle.ddf_data_events.specs.Moments.{KeepsAll, Moment}
use Rattle.ddf_data_events.proofs.Bays.{AreBays, sectors}
use Rattle.ddf_data_events.proofs.JoinAsked.{IsUnrefused, is_readied}
use Rattle.ddf_data_events.proofs.JoinBrought.{brought_keeps}
use Rattle.ddf_data_events.proofs.JoinKept.{IsImportOf, join_below, next_is, unrefused}
use Rattle.ddf_data_events.proofs.JoinStaying.{array_from}
use Rattle.ddf_data_events.proofs.JoinTheirs as both
use Rattle.ddf_data_events.proofs.Joined.{took}

-- An array that joins has the GUID of none that is there.
none_there : (guid : List ℕ) (arrays others : List (List ℕ × Array)) (array : Array) → lookup (same_guid guid) others ≡ Some array
    → AllByRecursion (λ (entry : List ℕ × Array). lookup (same_guid entry.0) arrays ≡ None) others → lookup (same_guid guid) arrays ≡ None
none_there guid arrays [] array found fresh = absurd cc
none_there guid arrays (entry ∷ others) array found fresh = go (λ later. none_there guid arrays others array later fresh.1) (same_guid guid entry.0) refl found
  where
    go : (lookup (same_guid guid) others ≡ Some array → lookup (same_guid guid) arrays ≡ None) → (b : Bool) → same_guid guid entry.0 ≡ b
        → cond b (Some entry.1) (lookup (same_guid guid) others) ≡ Some array → lookup (same_guid guid) arrays ≡ None
    go later true same here = subst (λ (one : List ℕ). lookup (same_guid one) arrays ≡ None) (sym (guid_is guid entry.0 same)) fresh.0
    go later false differs there = later there

module _ {B : Type 0} {tells : Type 0} (told : tells) (disks : B → BayState B) {S : Type 0} (tells_bytes : Type 0) (streams : S → SourceState) (guid : List ℕ) (are : AreBays disks)
    (old : Moment guid B) (all : KeepsAll disks old) (call : JoinCall told disks tells_bytes streams guid old) (new : Moment guid B) (same_bay : new.bay ≡ call.join.exit) (same_floor : new.floor ≡ old.floor)
    (over : IsOver guid old.past (is_read call.join.imported.first.left) call.join.group (joins_in told disks tells_bytes streams guid call) new.past)
    (theirs : Moment call.join.other B) (wholly : JoinsWholly disks old call.join.other call.join.imported.second.left call.join.joining theirs) where
  abbrev readable : ℕ → Bool
  readable = is_read call.join.imported.first.left

  abbrev next : Configuration
  next = call.join.made.step.config

  abbrev config : Configuration
  config = config_recovered call.join.group

  abbrev joining : Configuration
  joining = config_joining call.join.joining

  slots : KeepsSlots guid old.past new.past readable call.join.group
  slots = ends_slots guid old.past readable call.join.group (joins_in told disks tells_bytes streams guid call) true new.past over

  import : IsImportOf guid (disks old.bay) (disks call.join.exit) old.past old.floor old.promises call.join.group call.join.joining call.join.timestamp call.join.made call.join.imported.first.left
      (is_done call.join.outcome)
  import = took told disks tells_bytes streams guid are old all call

  asked : IsUnrefused call.join.timestamp call.join.group call.join.joining call.join.made
  asked =
      unrefused guid (disks old.bay) (disks call.join.exit) old.past old.floor old.promises call.join.group call.join.joining call.join.timestamp call.join.made call.join.imported.first.left
      (is_done call.join.outcome) import

  config_is : call.join.made.step.config ≡ join_config call.join.group call.join.joining
  config_is =
      next_is guid (disks old.bay) (disks call.join.exit) old.past old.floor old.promises call.join.group call.join.joining call.join.timestamp call.join.made call.join.imported.first.left
      (is_done call.join.outcome) import

  -- The configuration of both is the only one since the last acknowledged one.
  only : (number : ℕ) (one : Configuration) → IsSince new.past.changes number one → one ≡ next
  only number one since =
      let last = over_last guid old.past readable call.join.group (joins_in told disks tells_bytes streams guid call) new.past over
      ∙ last_more call.join.group.config (recovery_changes call.join.timestamp call.join.group) next in
      let long = over_length guid old.past readable call.join.group (joins_in told disks tells_bytes streams guid call) new.past over in
      let within = slice_get_within new.past.changes.issued number one since.is_there in
      let late = since.late in
      let same : number ≡ new.past.changes.acked = omega (arith, long, within, late) in
      some_same (ap (slice_get new.past.changes.issued) (sym same) ∙ since.is_there) last

  -- ---- what both histories know

  none_out : first_left_out call.join.imported.first.left call.join.joining.seats ≡ None
  none_out = (is_readied call.join.timestamp call.join.imported.first.left call.join.group call.join.joining call.join.made call.join.are_asked).1

  admits : AdmitsBoth guid old.past (scene_of (disks old.bay).sizes (disks old.bay).held) call.join.group call.join.joining
  admits = call.join.admits_join (disks old.bay).held ((are old.bay).held call.tells_left)

  all_joins : config_joining call.join.joining ≡ call.join.joining.config
  all_joins =
      both.all_joins guid call.join.other (disks old.bay) call.join.imported.first.left call.join.imported.second.left call.join.imported.first.every_slot call.join.imported.second.every_slot
      call.join.imported.second.newest (call.join.imported.second.read told) call.join.group call.join.joining call.join.is_joining old.past admits theirs.past wholly.admitted wholly.none_absent none_out

  their_since : (number : ℕ) × IsSince theirs.past.changes number call.join.joining.config
  their_since =
      both.their_since guid call.join.other (disks old.bay) call.join.imported.first.left call.join.imported.second.left call.join.imported.first.every_slot call.join.imported.second.every_slot
      call.join.imported.second.newest (call.join.imported.second.read told) call.join.group call.join.joining call.join.is_joining old.past admits theirs.past wholly.admitted wholly.none_absent none_out

  same_count : new.past.slots ≡ theirs.past.slots
  same_count = slots.same_slots ∙ call.join.admitted.same_slots ∙ sym wholly.admitted.same_slots

  brought : (slot : ℕ) → is_seat call.join.other theirs.past joining slot ≡ true → (new.past.disk slot ≡ theirs.past.disk slot) × (new.past.lost slot ≡ false)
  brought slot here =
      let one =
      both.brought guid call.join.other (disks old.bay) call.join.imported.first.left call.join.imported.second.left call.join.imported.first.every_slot call.join.imported.second.every_slot
      call.join.imported.second.newest (call.join.imported.second.read told) call.join.group call.join.joining call.join.is_joining old.past admits theirs.past wholly.admitted wholly.none_absent none_out slot
      (subst (λ (made : Configuration). is_seat call.join.other theirs.past made slot ≡ true) all_joins here) in (
        ap (λ (disk : ℕ → Disk). disk slot) slots.same_disks ∙ one.0,
        slots.not_lost slot one.1 ∙ call.join.admitted.may_read.not_lost slot one.1,
      )

  known : (slot : ℕ) → has_current joining (new.past.disk slot) ≡ true → (new.past.disk slot ≡ theirs.past.disk slot) × (theirs.past.lost slot ≡ false)
  known slot current =
      let same = ap (λ (disk : ℕ → Disk). disk slot) slots.same_disks in
      let one =
      both.known guid call.join.other (disks old.bay) call.join.imported.first.left call.join.imported.second.left call.join.imported.first.every_slot call.join.imported.second.every_slot
      call.join.imported.second.newest (call.join.imported.second.read told) call.join.group call.join.joining call.join.is_joining old.past admits theirs.past wholly.admitted wholly.none_absent none_out slot
      (subst (λ (made : Configuration). has_current made (old.past.disk slot) ≡ true) all_joins (ap (has_current joining) (sym same) ∙ current)) in
      (same ∙ one.0, one.1)

  -- ---- the data of the other group

  their_entry : IsAllData call.join.other theirs.past old.floor (disks old.bay) theirs.promises
  their_entry =
      subst (λ (bay : B). IsAllData call.join.other theirs.past old.floor (disks bay) theirs.promises) wholly.same_bay
      (subst (λ (floor : ℕ → ℕ). IsAllData call.join.other theirs.past floor (disks theirs.bay) theirs.promises) wholly.same_floor wholly.keeps.keeps)

  their_data : (image : Image) → IsLeft (disks call.join.exit).may_hold image → KeepsData call.join.other theirs.past old.floor image theirs.promises
  their_data image left = ⊎_elim
      (λ first. their_entry image ((are old.bay).only_now image first))
      (λ writing.
      below_floors call.join.other old.floor old.small theirs.past writing.before theirs.promises (their_entry writing.before writing.is_left) image (sectors disks are call.join.exit image left)
      (join_below guid (disks old.bay) (disks call.join.exit) old.past old.floor old.promises call.join.group call.join.joining call.join.timestamp call.join.made call.join.imported.first.left
      (is_done call.join.outcome) import image writing))
      ((import).leaves.since (disks old.bay).moment image (omega arith) ((are call.join.exit).counts (disks old.bay).moment image (import).leaves.later left))

  -- So it is kept by the history of the group that both have become.
  pub keeps_at : (array : List ℕ) (allowed : Allowed) (entry : Array) → theirs.promises array ≡ Some allowed → lookup (same_guid array) call.join.joining.config.arrays ≡ Some entry → KeepsAt disks new array allowed
  keeps_at array allowed entry promised there image left number one after since is =
      let one_is = only number one since in
      subst (λ (made : Configuration). KeepsArray made.members (seats_in guid new.past new.floor made) after image allowed) (sym one_is)
      (subst (λ (floor : ℕ → ℕ). KeepsArray next.members (seats_in guid new.past floor next) after image allowed) (sym same_floor)
      (⊎_elim
      (λ own. absurd (none_some (lookup (same_guid array) config.arrays) own.0 (none_there array config.arrays joining.arrays entry in_joining (arrays_fresh config joining (asked).free)) own.1))
      (λ joins.
      brought_keeps config joining next (asked).free (ap (λ (made : Configuration). made.members) config_is) guid call.join.other old.floor new.past theirs.past same_count brought known array joins.0 joins.2
      (extents (arrays_joined config joining)) joins.1 after joins.3 image allowed
      (subst (λ (made : Configuration). KeepsArray made.members (seats_in call.join.other theirs.past old.floor made) joins.0 image allowed) (sym all_joins)
      (their_data image (subst (λ (bay : B). IsLeft (disks bay).may_hold image) same_bay left) (their_since).0 call.join.joining.config (their_since).1 array allowed joins.0 promised
      (subst (λ (made : Configuration). lookup (same_guid array) made.arrays ≡ Some joins.0) all_joins joins.2))))
      (array_from config joining next (asked).free (ap (λ (made : Configuration). made.members) config_is) (ap (λ (made : Configuration). made.arrays) config_is) array after
      (subst (λ (made : Configuration). lookup (same_guid array) made.arrays ≡ Some after) one_is is))))
    where
      none_some : (found : Option Array) (value : Array) → found ≡ None → found ≡ Some value → ⊥
      none_some found value none some_of = cc

      in_joining : lookup (same_guid array) joining.arrays ≡ Some entry
      in_joining = subst (λ (made : Configuration). lookup (same_guid array) made.arrays ≡ Some entry) (sym all_joins) there
