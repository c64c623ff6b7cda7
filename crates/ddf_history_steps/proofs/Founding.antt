-- Once disks have the first copies of a new group, whatever a stop leaves shows what it should: a history of the group begins.
use Rattle.std.proofs.Common.{◌≡◌, ◌≢◌, ℕ, ◌<◌, Bool, true, false, List, [], ◌∷◌, length, None, Some, ap, sym, ◌∙◌, subst, inl, inr, arith}
use Rattle.std.proofs.lemmas.Bool.{and_from, true≢false}
use Rattle.std.proofs.lemmas.Option.{slice_get_within}
use Rattle.std.proofs.lemmas.List.{length-map}
use Rattle.std.proofs.Math.Path.{fun_ext}
use Rattle.std.specs.Prelude.{slice_get, slice_index}
use Rattle.std.specs.Str.{bytes_eq}
use Rattle.ddf_lemmas.proofs.Lists.{bytes_same}
use Rattle.ddf_bytes.specs.declared.stamp.Stamp.{Stamp}
use Rattle.ddf_header.specs.declared.kind.Revision.{Revision}
use Rattle.ddf_bay.specs.Sectors.{Image, IsLeft}
use Rattle.ddf_bay.specs.State.{BayState, size_of}
use Rattle.ddf_config.specs.Configuration.{Configuration}
use Rattle.ddf_copy.specs.declared.copy.DiskCopy.{DiskCopy}
use Rattle.ddf_copy.specs.Headers.{anchor_header}
use Rattle.ddf_update.specs.Group.{AreSlots, HaveFirstCopies, slot_sizes}
use Rattle.ddf_update.specs.declared.new_layout.NewLayout.{NewLayout}
use Rattle.ddf_update.specs.NewCopies.{disk_guid, group_of, new_copy, reference_at}
use Rattle.ddf_view.specs.View.{View, lists_current}
use Rattle.ddf_view.specs.Reading.{read}
use Rattle.ddf_view.specs.Differ.{difference}
use Rattle.ddf_history.specs.Reading.{Scene, Shown, IsCopyOf, stands}
use Rattle.ddf_history.specs.Reading.Shown.{One}
use Rattle.ddf_history.specs.Issued.{Past}
use Rattle.ddf_history.specs.Promise.{IsKept, IsStanding}
use Rattle.ddf_history.specs.Calls.{IsFounded, IsStart}
use Rattle.ddf_history.specs.Groups.{Disk, ShowsFully, disk_of, groups, has_current}
use Rattle.ddf_history.specs.Scenes.{scene_of}
use Rattle.ddf_history.specs.Steps.{IsShown}
use Rattle.ddf_history.proofs.Since.{which}
use Rattle.ddf_history.proofs.Sound.{groups_are_sound}
use Rattle.ddf_history.proofs.Starting.{founded_kept as kept_at_start}
use Rattle.ddf_history_steps.specs.Founding.{AreNamesNew, IsNewGroup, founding_config}
use Rattle.ddf_history_steps.specs.Kept.{AreAllKept, is_slot}
use Rattle.ddf_history_steps.proofs.FoundingNames.{names_stay}
use Rattle.ddf_history_steps.proofs.FoundingRows.{new_disk_list, new_lists, new_references, new_view}
use Rattle.ddf_history_steps.proofs.FoundingViews.{plain_agree, plain_shows, plain_view}
use Rattle.ddf_history_steps.proofs.ShownCopies.{both_show, shows_at}
use Rattle.ddf_history_steps.proofs.Slots.{slot_placed}
use Rattle.ddf_history_steps.proofs.Stops.{scene_at}

-- ---- what new copies say

module _ (layout : NewLayout) (revision : Revision) (stamp : Stamp) (sizes : List ℕ) where
  -- the view of the copy at a place
  abbrev pub view_at : (place : ℕ) → View
  view_at place = plain_view (group_of stamp) (disk_guid stamp place) (reference_at stamp place) (new_disk_list layout revision stamp sizes)

  -- what the first gives
  abbrev config : Configuration
  config = founding_config (new_copy layout revision stamp sizes)

  -- The founding configuration is what the first view gives.
  config_is : config ≡ read (group_of stamp) 1 (view_at 0 ∷ [])
  config_is = ap (λ (view : View). read (group_of stamp) 1 (view ∷ [])) (new_view layout revision stamp sizes 0)

  -- Each view shows it fully.
  pub view_shows : (place : ℕ) → ShowsFully (view_at place) config
  view_shows place =
      subst (λ (given : Configuration). ShowsFully (view_at place) given) (sym config_is)
      (plain_shows (group_of stamp) (disk_guid stamp 0) (disk_guid stamp place) (reference_at stamp 0) (reference_at stamp place) (new_disk_list layout revision stamp sizes)
      (new_references layout revision stamp sizes))

  -- The disk of each view is a current member.
  pub view_is_member : (place : ℕ) → place < length sizes → has_current config (disk_of (view_at place)) ≡ true
  view_is_member place lt =
      sym ((groups_are_sound (group_of stamp)).same_current (view_at place) config (disk_of (view_at place)) (view_shows place).shows)
      ∙ new_lists layout revision stamp sizes (group_of stamp) (disk_guid stamp place) (reference_at stamp place) place lt

  -- By each its disk shows the group.
  pub view_stands : (place : ℕ) → place < length sizes → stands (groups (group_of stamp)) (view_at place) ≡ true
  view_stands place lt =
      and_from (bytes_eq (group_of stamp) (group_of stamp)) (lists_current (view_at place) (disk_guid stamp place) (reference_at stamp place))
      (bytes_same (group_of stamp)) (new_lists layout revision stamp sizes (group_of stamp) (disk_guid stamp place) (reference_at stamp place) place lt)

  -- No two views are of one disk.
  one_place : (one other : ℕ) → disk_of (view_at one) ≡ disk_of (view_at other) → one ≡ other
  one_place one other same = let reference : reference_at stamp one ≡ reference_at stamp other = ap (λ (disk : Disk). disk.reference) same in omega arith

-- ---- slots of which some have them

module _ (layout : NewLayout) (revision : Revision) (stamp : Stamp) (sizes slots : List ℕ) (founded : ℕ → Bool) (among : (slot : ℕ) → founded slot ≡ true → is_slot slots slot ≡ true)
    (past : Past (groups (group_of stamp))) (is_new : IsNewGroup (group_of stamp) past sizes slots (new_copy layout revision stamp (slot_sizes sizes slots)) founded) where
  -- the sizes of the disks
  abbrev disk_sizes : List ℕ
  disk_sizes = slot_sizes sizes slots

  -- their copies
  abbrev copy : ℕ → DiskCopy
  copy = new_copy layout revision stamp disk_sizes

  -- the founding configuration
  abbrev founding : Configuration
  founding = config layout revision stamp disk_sizes

  -- what the copy at a place says
  abbrev view : (place : ℕ) → View
  view place = view_at layout revision stamp disk_sizes place

  -- There are as many as slots.
  counted : length disk_sizes ≡ length slots
  counted = length-map slots (slice_index sizes)

  -- The disk of a founded slot is the one that its copy names.
  named : (place slot : ℕ) → slice_get slots place ≡ Some slot → founded slot ≡ true → past.disk slot ≡ disk_of (view place)
  named place slot at here = is_new.names place slot at here ∙ ap disk_of (new_view layout revision stamp disk_sizes place)

  -- It is a current member.
  slot_is_member : (place slot : ℕ) → slice_get slots place ≡ Some slot → founded slot ≡ true → has_current founding (past.disk slot) ≡ true
  slot_is_member place slot at here =
      let within = slice_get_within slots place slot at in
      ap (has_current founding) (named place slot at here) ∙ view_is_member layout revision stamp disk_sizes place (omega (arith, counted, within))

  -- Only the founded slots have members.
  member_founded : (slot : ℕ) → has_current founding (past.disk slot) ≡ true → founded slot ≡ true
  member_founded slot now = elim (which (founded slot)) [
    | inl here ↦ here
    | inr none ↦ absurd (true≢false (sym now ∙ is_new.no_member slot none))
  ]

  member_placed : (slot : ℕ) → has_current founding (past.disk slot) ≡ true → (place : ℕ) × (slice_get slots place ≡ Some slot)
  member_placed slot now = slot_placed slots slot (among slot (member_founded slot now))

  -- A slot whose disk is no member isn't founded.
  none_founded : (slot : ℕ) → has_current founding (past.disk slot) ≡ false → founded slot ≡ false
  none_founded slot out = elim (which (founded slot)) [
    | inl here ↦ let place = slot_placed slots slot (among slot here) in absurd (true≢false (sym (slot_is_member place.0 slot place.1 here) ∙ out))
    | inr none ↦ none
  ]

  -- No member is in two slots.
  alone : (s t : ℕ) → has_current founding (past.disk s) ≡ true → past.disk s ≡ past.disk t → s ≡ t
  alone s t now same =
      let also = ap (has_current founding) (sym same) ∙ now in
      let one = member_placed s now in
      let other = member_placed t also in
      let place = one_place layout revision stamp disk_sizes one.0 other.0 (sym (named one.0 s one.1 (member_founded s now)) ∙ same ∙ named other.0 t other.1 (member_founded t also)) in
      let both : Some s ≡ Some t = sym one.1 ∙ ap (slice_get slots) place ∙ other.1 in
      cc

  -- The history begins with the founding configuration.
  is_start : IsStart past founding
  is_start = record {
    issued_is = is_new.issued_is;
    acked_is = is_new.acked_is;
    own = omega (arith, is_new.own);
    lost_none = is_new.lost_none;
    returned_none = is_new.returned_none;
    alone = alone;
  }

  module _ (scene : Scene View) (shows : (place slot : ℕ) → slice_get slots place ≡ Some slot → founded slot ≡ true → scene slot ≡ One (view place)) where
    -- A member's slot shows the configuration fully.
    member_shows : (slot : ℕ) → has_current founding (past.disk slot) ≡ true
        → IsShown (groups (group_of stamp)) (past.disk slot) (Unit {0}) (scene slot) founding
    member_shows slot now =
        let here = member_founded slot now in
        let place = member_placed slot now in
        let full = view_shows layout revision stamp disk_sizes place.0 in
        record {
          copy = view place.0;
          is_only = shows place.0 slot place.1 here;
          is_ours = bytes_same (group_of stamp);
          names = sym (named place.0 slot place.1 here);
          shows = full.shows;
          is_full = λ own. full;
        }

    module _ (names_new : AreNamesNew (group_of stamp) founded copy scene) where
      -- A slot that shows the group is founded, and shows its copy.
      standing_shows : (slot : ℕ) (one : View) → IsStanding past scene slot one → (place : ℕ) × (one ≡ view place)
      standing_shows slot one standing = elim (which (founded slot)) [
        | inl here ↦
            let place = slot_placed slots slot (among slot here) in
            (place.0, subst (λ (shown : Shown View). IsCopyOf shown one) (shows place.0 slot place.1 here) standing.is_copy)
        | inr none ↦ absurd (names_new.shows_none slot one none standing.is_copy standing.is_standing)
      ]

      -- What two slots show agrees.
      standing_agree : (s t : ℕ) (one other : View) → s ≢ t → IsStanding past scene s one → IsStanding past scene t other → difference one other ≡ None
      standing_agree s t one other differ first_stands other_stands =
          let its = standing_shows s one first_stands in
          let of = standing_shows t other other_stands in
          ap (λ (first : View). difference first other) its.1 ∙ ap (difference (view its.0)) of.1
          ∙ plain_agree (group_of stamp) (disk_guid stamp its.0) (disk_guid stamp of.0) (reference_at stamp its.0) (reference_at stamp of.0)
          (new_disk_list layout revision stamp disk_sizes)

      -- The group is founded.
      is_founded : IsFounded past scene founding
      is_founded = record {
        own = is_new.own;
        members = member_shows;
        others = λ slot other out is_copy stand. names_new.shows_none slot other (none_founded slot out) is_copy stand;
        names_none = λ slot other out is_copy now. names_new.names_none slot other (none_founded slot out) is_copy now;
        agree = standing_agree;
      }

      -- Each slot shows what it should.
      pub scene_kept : IsKept past scene
      scene_kept = kept_at_start (groups (group_of stamp)) (groups_are_sound (group_of stamp)) past scene founding is_start is_founded

-- ---- disks that all have them

module _ {D : Type 0} (layout : NewLayout) (revision : Revision) (stamp : Stamp) (old new : BayState D) (same_sizes : new.sizes ≡ old.sizes) (slots : List ℕ) (are : AreSlots old.sizes slots)
    (first : HaveFirstCopies old new slots (new_copy layout revision stamp (slot_sizes old.sizes slots)) (length slots))
    (past : Past (groups (group_of stamp))) (is_new : IsNewGroup (group_of stamp) past old.sizes slots (new_copy layout revision stamp (slot_sizes old.sizes slots)) (is_slot slots)) where
  -- the new copies
  abbrev copies : ℕ → DiskCopy
  copies = new_copy layout revision stamp (slot_sizes old.sizes slots)

  module _ (image : Image) (left : IsLeft new.may_hold image) where
    -- A stop leaves what the slots hold.
    first_holds : (place slot : ℕ) → slice_get slots place ≡ Some slot → image slot ≡ new.held slot
    first_holds place slot at = fun_ext (λ l. first.are_settled place slot (slice_get_within slots place slot at) at l (image slot l) (left slot l))

    -- Each of them shows its copy.
    first_shows : (place slot : ℕ) → slice_get slots place ≡ Some slot → scene_of new.sizes image slot ≡ One (view_at layout revision stamp (slot_sizes old.sizes slots) place)
    first_shows place slot at =
        ap (λ (sizes : List ℕ). scene_of sizes image slot) same_sizes
        ∙ scene_at old.sizes image slot (are.there place slot at)
        ∙ ap (shows_at (size_of old slot)) (first_holds place slot at)
        ∙ both_show (size_of old slot) (new.held slot) (anchor_header (copies place)) (copies place)
        (first.are_both place slot (slice_get_within slots place slot at) at)
        ∙ ap (λ (one : View). One one) (new_view layout revision stamp (slot_sizes old.sizes slots) place)

  -- Whatever a stop leaves shows the new group, where the names of the group are new.
  pub founded_kept : ((image : Image) → IsLeft new.may_hold image → AreNamesNew (group_of stamp) (is_slot slots) copies (scene_of new.sizes image))
      → AreAllKept (group_of stamp) past new
  founded_kept names_new = λ image left.
      scene_kept layout revision stamp old.sizes slots (is_slot slots) (λ slot here. here) past is_new (scene_of new.sizes image)
      (λ place slot at here. first_shows image left place slot at) (names_new image left)

  -- So it does where they were new before to whatever a stop might have left, what the disks held among it.
  pub founded_since : IsLeft old.may_hold old.held
      → ((before : Image) → IsLeft old.may_hold before → AreNamesNew (group_of stamp) (is_slot slots) copies (scene_of old.sizes before))
      → AreAllKept (group_of stamp) past new
  founded_since is_left were_new =
      founded_kept (λ image left. names_stay (group_of stamp) old new same_sizes slots copies first is_left image left were_new)
