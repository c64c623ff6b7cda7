-- A group that is labelled beside another one.
use Rattle.std.proofs.Common.{◌≡◌, ◌∙◌, ℕ, zero, suc, ◌+◌, ◌-◌, ◌<◌, ◌≤◌, ◌^◌, not, ◌&&◌, eqb, Bool, true, false, List, [], ◌∷◌, length, Some, if◌then◌else◌, refl, sym, ap, subst, arith}
use Rattle.std.proofs.lemmas.Bool.{and_parts, eqb-true, false_from_ne_true, false≢true}
use Rattle.std.proofs.lemmas.List.{length-map}
use Rattle.std.proofs.lemmas.Slice.Eq.{bytes_eq-Decides}
use Rattle.std.specs.Prelude.{slice_get, slice_index}
use Rattle.std.specs.Map.{lookup}
use Rattle.std.specs.Option.{option_map_or}
use Rattle.std.specs.Str.{bytes_eq}
use Rattle.ddf_lemmas.proofs.Lists.{some_at_place}
use Rattle.ddf_lemmas.proofs.Options.{value_there}
use Rattle.ddf_bytes.specs.Streams.{SourceState}
use Rattle.ddf_bytes.specs.declared.stamp.Stamp.{Stamp}
use Rattle.ddf_bay.specs.Moments.{StopsLeave}
use Rattle.ddf_bay.specs.Sectors.{Image, IsLeft}
use Rattle.ddf_bay.specs.State.{BayState}
use Rattle.ddf_config.specs.declared.member.Member.{Member}
use Rattle.ddf_config.specs.declared.member.SpareUse.TheVariants.{No}
use Rattle.ddf_config.specs.Configuration.{Configuration}
use Rattle.ddf_copy.specs.declared.copy.DiskCopy.{DiskCopy}
use Rattle.ddf_header.specs.declared.kind.Revision.{Revision}
use Rattle.ddf_rewrite.proofs.Lists.{some_same}
use Rattle.ddf_update.specs.declared.new_layout.NewLayout.{NewLayout}
use Rattle.ddf_update.specs.Group.{IsLeftFoundingAll, slot_sizes}
use Rattle.ddf_update.specs.NewCopies.{disk_guid, group_of, new_copy, reference_at}
use Rattle.ddf_update.specs.NewLayouts.{workspace_back}
use Rattle.ddf_view.specs.View.{view_of}
use Rattle.ddf_history.specs.Groups.{Disk, disk_of, groups, has_current}
use Rattle.ddf_history.specs.Calls.{IsAside}
use Rattle.ddf_history.specs.History.{Moment as HistoryMoment}
use Rattle.ddf_history.specs.Issued.{IsSince, Past}
use Rattle.ddf_history.specs.Scenes.{scene_of}
use Rattle.ddf_history_steps.specs.Founding.{IsNewGroup, founding_config}
use Rattle.ddf_history_steps.specs.Kept.{is_slot}
use Rattle.ddf_history_steps.proofs.Founding.{founded_since}
use Rattle.ddf_history_steps.proofs.FoundingConfig.{founding_is, members_from}
use Rattle.ddf_history_steps.proofs.FoundingRows.{new_view}
use Rattle.ddf_disk_commands.specs.Label.{label_copy, label_slots}
use Rattle.ddf_disk_commands.specs.LabelRefusal.{label_layout}
use Rattle.ddf_disk_commands.proofs.Chosen.{chosen_once}
use Rattle.ddf_command.specs.History.{OtherCall as CallBeside}
use Rattle.ddf_data_events.specs.Beginnings.{Begins, none_promised}
use Rattle.ddf_data_events.specs.Calls.{OtherCall}
use Rattle.ddf_data_events.specs.Calls.Call.{Others}
use Rattle.ddf_data_events.specs.Events.Event.{Ended}
use Rattle.ddf_data_events.specs.Moments.{KeepsAll, Moment}
use Rattle.ddf_data_events.proofs.Bays.{AreBays}
use Rattle.ddf_data_events.proofs.Beginning.{all_in, founded_begins}
use Rattle.ddf_data_events.proofs.Happening.{keeps_on}
use Rattle.ddf_data_groups.specs.Beside.{AreApart, AreBeside, Both, HasItsMembers, Known, known_of, moment_of}
use Rattle.ddf_data_groups.specs.Labelled.{IsLabelBeside}
use Rattle.ddf_data_groups.proofs.Going.{unchanged}

-- ---- a new group

-- Where one configuration was issued alone, each that stands since the last acknowledged one is that.
only_one : (first config : Configuration) (number : ℕ) → slice_get (first ∷ []) number ≡ Some config → first ≡ config
only_one first config zero at = some_same refl at
only_one first config (suc number) at = absurd cc

module _ (group : List ℕ) (past : Past (groups group)) (sizes slots : List ℕ) (copy : ℕ → DiskCopy) (founded : ℕ → Bool) (is_new : IsNewGroup group past sizes slots copy founded) where
  is_founding : (number : ℕ) (config : Configuration) → slice_get past.changes.issued number ≡ Some config → founding_config copy ≡ config
  is_founding number config at =
      only_one (founding_config copy) config number (subst (λ (issued : List Configuration). slice_get issued number ≡ Some config) is_new.issued_is at)

  -- It has its members.
  pub new_members : HasItsMembers group past
  new_members = record {
    own = let from = is_new.own in let acked = is_new.acked_is in omega (arith, from, acked);
    none_joins = λ number config last disk since current is.
        subst (λ (one : Configuration). has_current one disk ≡ true) (sym (is_founding number config since.is_there) ∙ is_founding past.changes.acked last is) current;
  }

  -- Its members are in slots that are founded.
  member_founded : (slot number : ℕ) (config : Configuration) → IsSince past.changes number config → has_current config (past.disk slot) ≡ true → founded slot ≡ true
  member_founded slot number config since current = by (founded slot) refl
    where
      by : (here : Bool) → founded slot ≡ here → founded slot ≡ true
      by true here = here
      by false none =
          absurd (false≢true (sym (is_new.no_member slot none)
          ∙ subst (λ (one : Configuration). has_current one (past.disk slot) ≡ true) (sym (is_founding number config since.is_there)) current))

-- ---- the disks of the founding configuration

abbrev disk_by : List ℕ → ℕ → Disk
disk_by guid reference = record { guid = guid; reference = reference }

same_disk : (guid other : List ℕ) (reference number : ℕ) → guid ≡ other → reference ≡ number → disk_by guid reference ≡ disk_by other number
same_disk guid other reference number one two = ap (λ (n : ℕ). disk_by guid n) two ∙ ap (λ (g : List ℕ). disk_by g number) one

module _ (layout : NewLayout) (revision : Revision) (stamp : Stamp) where
  -- the disk at a place
  abbrev disk_at : (place : ℕ) → Disk
  disk_at place = disk_by (disk_guid stamp place) (reference_at stamp place)

  -- Each member is that of one of the disks.
  member_at : (disk : Disk) (first : ℕ) (sizes : List ℕ) (member : Member) → lookup (λ (reference : ℕ). eqb reference disk.reference) (members_from layout stamp first sizes) ≡ Some member
      → (place : ℕ) × (place < length sizes) × (reference_at stamp (first + place) ≡ disk.reference) × (member.guid ≡ disk_guid stamp (first + place))
  member_at disk first [] member found = absurd cc
  member_at disk first (size ∷ sizes) member found = by (member_at disk (suc first) sizes member) (eqb (reference_at stamp first) disk.reference) refl found
    where
      zero_more : first + 0 ≡ first
      zero_more = omega arith

      by : (lookup (λ (reference : ℕ). eqb reference disk.reference) (members_from layout stamp (suc first) sizes) ≡ Some member
          → (place : ℕ) × (place < length sizes) × (reference_at stamp (suc first + place) ≡ disk.reference) × (member.guid ≡ disk_guid stamp (suc first + place)))
          → (here : Bool) → eqb (reference_at stamp first) disk.reference ≡ here
          → (if here then Some (record { guid = disk_guid stamp first; size = size - workspace_back layout; missing = false; spare = No })
          else lookup (λ (reference : ℕ). eqb reference disk.reference) (members_from layout stamp (suc first) sizes)) ≡ Some member
          → (place : ℕ) × (place < suc (length sizes)) × (reference_at stamp (first + place) ≡ disk.reference) × (member.guid ≡ disk_guid stamp (first + place))
      by later true is e = (
        0,
        omega arith,
        subst (λ (n : ℕ). reference_at stamp n ≡ disk.reference) (sym zero_more) (eqb-true (reference_at stamp first) disk.reference is),
        subst (λ (n : ℕ). member.guid ≡ disk_guid stamp n) (sym zero_more) (sym (ap (λ (one : Member). one.guid) (some_same refl e))),
      )
      by later false is e =
          let rest = later e in
          let one : suc first + rest.0 ≡ first + suc rest.0 = omega arith in (
            suc rest.0,
            omega (arith, rest.1),
            subst (λ (n : ℕ). reference_at stamp n ≡ disk.reference) one rest.2,
            subst (λ (n : ℕ). member.guid ≡ disk_guid stamp n) one rest.3,
          )

  -- So each disk that is a current member is one of them.
  named_disk : (sizes : List ℕ) (disk : Disk) → has_current (founding_config (new_copy layout revision stamp sizes)) disk ≡ true
      → (place : ℕ) × (place < length sizes) × (disk ≡ disk_of (view_of (new_copy layout revision stamp sizes place)))
  named_disk sizes disk current =
      let members : (founding_config (new_copy layout revision stamp sizes)).members ≡ members_from layout stamp 0 sizes =
      ap (λ (config : Configuration). config.members) (founding_is layout revision stamp sizes) in
      let listed = subst (λ (all : List (ℕ × Member)). option_map_or (λ (member : Member). bytes_eq member.guid disk.guid && not member.missing)
      (lookup (λ (reference : ℕ). eqb reference disk.reference) all) false ≡ true) members current in
      let there =
      value_there (λ (member : Member). bytes_eq member.guid disk.guid && not member.missing) (lookup (λ (reference : ℕ). eqb reference disk.reference) (members_from layout stamp 0 sizes)) listed in
      let at = member_at disk 0 sizes there.0 there.1 in
      let first : 0 + at.0 ≡ at.0 = omega arith in
      let guid : there.0.guid ≡ disk.guid = (bytes_eq-Decides there.0.guid disk.guid).0 (and_parts (bytes_eq there.0.guid disk.guid) (not there.0.missing) there.2).0 in
      let same : disk_at at.0 ≡ disk =
      same_disk (disk_guid stamp at.0) disk.guid (reference_at stamp at.0) disk.reference (sym (subst (λ (n : ℕ). there.0.guid ≡ disk_guid stamp n) first at.3) ∙ guid) (subst (λ (n : ℕ). reference_at stamp n ≡ disk.reference) first at.2) in
      (at.0, at.1, sym same ∙ sym (ap disk_of (new_view layout revision stamp sizes at.0)))

-- ---- a label beside a group

-- what is known of a `label` of another group than that of a history: it doesn't take this one
abbrev AreLabelsAside : {B : Type 0} {tells : Type 0} (told : tells) (disks : B → BayState B) → Type 0
AreLabelsAside {B = B} {tells = tells} told disks =
    (group : List ℕ) (old : HistoryMoment (groups group) B) (exit : B) (large : Bool) (revision : Revision) (stamp : Stamp) (named : List ℕ)
    → StopsLeave (disks old.bay) (disks exit) (IsLeftFoundingAll (disks old.bay) (label_slots (disks old.bay).sizes named) (label_copy large revision stamp (disks old.bay).sizes named))
    → IsLeft (disks old.bay).may_hold (disks old.bay).held → bytes_eq group (group_of stamp) ≡ false
    → ((image : Image) → IsLeft (disks old.bay).may_hold image → (slot : ℕ) → is_slot (label_slots (disks old.bay).sizes named) slot ≡ true
    → IsAside old.past slot (scene_of (disks old.bay).sizes image slot))
    → ((place slot number : ℕ) (config : Configuration) → slice_get (label_slots (disks old.bay).sizes named) place ≡ Some slot → IsSince old.past.changes number config
    → has_current config (disk_of (view_of (label_copy large revision stamp (disks old.bay).sizes named place))) ≡ true → ⊥)
    → (call : CallBeside told disks group old) × (call.exit ≡ exit) × (call.written ≡ label_slots (disks old.bay).sizes named)

module _ {B : Type 0} {tells : Type 0} (told : tells) (disks : B → BayState B) {S : Type 0} (tells_bytes : Type 0) (streams : S → SourceState) (are : AreBays disks) (labels : AreLabelsAside told disks)
    (sized : (bay : B) (slot : ℕ) → slice_index (disks bay).sizes slot ≤ 2 ^ 55) (one : List ℕ) (old : Moment one B) (keeps : KeepsAll disks old) (its : HasItsMembers one old.past)
    (large : Bool) (revision : Revision) (stamp : Stamp) (named : List ℕ) (new : B) (label : IsLabelBeside tells (disks old.bay) (disks new) one old.past large revision stamp named)
    (past : Past (groups (group_of stamp)))
    (is_new : IsNewGroup (group_of stamp) past (disks old.bay).sizes (label_slots (disks old.bay).sizes named) (label_copy large revision stamp (disks old.bay).sizes named)
    (is_slot (label_slots (disks old.bay).sizes named))) where
  abbrev before : BayState B
  before = disks old.bay

  abbrev slots : List ℕ
  slots = label_slots before.sizes named

  abbrev copy : ℕ → DiskCopy
  copy = label_copy large revision stamp before.sizes named

  abbrev layout : NewLayout
  layout = label_layout large before.sizes named

  is_held : IsLeft before.may_hold before.held
  is_held = (are old.bay).held label.told

  begins : Begins (group_of stamp) disks past new
  begins =
      let done = label.tried told in
      founded_begins disks are sized (group_of stamp) past new label.told_then before.sizes slots label.same_sizes copy (is_slot slots) is_new
      (λ image left. all_in before (disks new) slots copy done.1 image left)
      (founded_since layout revision stamp before (disks new) label.same_sizes slots (chosen_once before.sizes named) done.1 past is_new is_held label.names_new)

  -- ---- the other group

  is_another : bytes_eq one (group_of stamp) ≡ false
  is_another = false_from_ne_true (bytes_eq one (group_of stamp)) (λ same. label.another ((bytes_eq-Decides one (group_of stamp)).0 same))

  call : (call : CallBeside told disks one (record { past = old.past; bay = old.bay })) × (call.exit ≡ new) × (call.written ≡ slots)
  call =
      labels one (record { past = old.past; bay = old.bay }) new large revision stamp named label.any_moment is_held is_another label.are_aside label.names_none

  aside : OtherCall told disks tells_bytes streams one old
  aside = record {
    beside = (call).0;
    same_sizes = subst (λ (bay : B). (disks bay).sizes ≡ before.sizes) (sym (call).1) label.same_sizes;
    no_member = λ slot number config here since current.
        (label.are_aside before.held is_held slot (subst (λ (written : List ℕ). is_slot written slot ≡ true) (call).2 here)).no_member number config since current;
  }

  -- Its history goes on.
  keeps_then : KeepsAll disks (moment_of (known_of old) new)
  unfolding aside
  keeps_then =
      let exit_told = subst (λ (bay : B). (disks bay).tells_left) (sym (call).1) label.told_then in
      let exit_sizes = subst (λ (bay : B). (disks bay).sizes ≡ before.sizes) (sym (call).1) label.same_sizes in
      let on = (keeps_on told disks tells_bytes streams one are (suc zero) old keeps).1 (Ended (Others aside) exit_told exit_sizes) in
      unchanged disks (known_of old) on.0 new on.1.comes (on.1.is_bay ∙ (call).1) on.1.is_promised on.1.is_floor on.3

  apart : AreApart one (group_of stamp) old.past past
  apart = record {
    another = label.another;
    no_slot = λ slot m n config next since later current also.
        (label.are_aside before.held is_held slot (member_founded (group_of stamp) past before.sizes slots copy (is_slot slots) is_new slot n next later also)).no_member m config since current;
    no_disk = λ disk m n config next since later current also.
        let founding = subst (λ (made : Configuration). has_current made disk ≡ true) (sym (is_founding (group_of stamp) past before.sizes slots copy (is_slot slots) is_new n next later.is_there)) also in
        let is = named_disk layout revision stamp (slot_sizes before.sizes slots) disk founding in
        let counted = length-map slots (slice_index before.sizes) in
        let slot = some_at_place slots is.0 (omega (arith, is.1, counted)) in
        label.names_none is.0 slot.0 m config slot.1 since (subst (λ (each : Disk). has_current config each ≡ true) is.2 current);
  }

  -- Both stand side by side.
  pub labelled_beside : (both : Both one (group_of stamp) B) × AreBeside disks both × (both.bay ≡ new) × (both.ours ≡ known_of old) × (both.theirs.past ≡ past) × (both.theirs.promises ≡ none_promised)
  labelled_beside =
      let new_known : Known (group_of stamp) = record { past = past; promises = none_promised; floor = (begins).floor; small = (begins).small } in (
        record { bay = new; ours = known_of old; theirs = new_known },
        record {
          keeps = keeps_then;
          keeps_theirs = (begins).keeps;
          members = its;
          their_members = new_members (group_of stamp) past before.sizes slots copy (is_slot slots) is_new;
          apart = apart;
        },
        refl,
        refl,
        refl,
        refl,
      )
