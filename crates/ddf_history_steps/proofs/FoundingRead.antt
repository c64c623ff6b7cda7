-- Assembly of disks of a new group, of which some have their copies, gives the founding configuration.
use Rattle.std.proofs.Common.{◌≡◌, ℕ, zero, suc, ◌<◌, ◌==◌, ◌&&◌, not, Bool, true, false, List, [], ◌∷◌, length, Option, None, Some, Result, Ok, Err, refl, ap, sym, ◌∙◌, subst, arith}
use Rattle.std.proofs.lemmas.Bool.{and_parts, false≢true, ltb-true, ne_eqb}
use Rattle.std.specs.Prelude.{nat_lt, slice_get, slice_index_or}
use Rattle.std.specs.Map.{lookup}
use Rattle.std.specs.Option.{option_map_or}
use Rattle.std.specs.Str.{bytes_eq}
use Rattle.std.proofs.lemmas.Option.{same_Some}
use Rattle.ddf_lemmas.proofs.Lists.{bytes_same}
use Rattle.ddf_bytes.specs.declared.stamp.Stamp.{Stamp}
use Rattle.ddf_header.specs.declared.kind.Revision.{Revision}
use Rattle.ddf_bay.specs.State.{BayState}
use Rattle.ddf_config.specs.declared.member.Member.{Member}
use Rattle.ddf_config.specs.Configuration.{Configuration}
use Rattle.ddf_copy.specs.declared.copy.DiskCopy.{DiskCopy}
use Rattle.ddf_update.specs.Group.{AreSlots, slot_sizes}
use Rattle.ddf_update.specs.declared.new_layout.NewLayout.{NewLayout}
use Rattle.ddf_update.specs.NewCopies.{group_of, new_copy, reference_at}
use Rattle.ddf_view.specs.View.{View, view_of}
use Rattle.ddf_group.specs.declared.answer.Assembly.{Assembly}
use Rattle.ddf_group.specs.declared.answer.Assembly.TheVariants as faults
use Rattle.ddf_history.specs.Answer.{HasMember, IsPromised, IsReadable}
use Rattle.ddf_history.specs.Groups.{Disk, disk_of, groups, has_current}
use Rattle.ddf_history.specs.Issued.{Past}
use Rattle.ddf_history.specs.Promise.{IsKept}
use Rattle.ddf_history.specs.Reading.{IsCopyOf, Shown}
use Rattle.ddf_history.specs.Reading.Shown.{One}
use Rattle.ddf_history.specs.Scenes.{scene_of}
use Rattle.ddf_seats.specs.Group.{GroupValue}
use Rattle.ddf_assembly.specs.Group.{group_of as group_in}
use Rattle.ddf_assembly.specs.Slots.{newest_from}
use Rattle.ddf_history_steps.specs.Founding.{IsNewGroup, founding_config}
use Rattle.ddf_history_steps.specs.Kept.{is_read, is_slot, told_answer}
use Rattle.ddf_history_steps.proofs.Begun.{group_answered}
use Rattle.ddf_history_steps.proofs.Founding.{view_at, view_shows, view_stands}
use Rattle.ddf_history_steps.proofs.FoundingConfig.{founding_is, members_from}
use Rattle.ddf_history_steps.proofs.Slots.{slot_placed}

-- ---- a disk that is no member

-- No member has the reference 0.
none_looked_up : (layout : NewLayout) (stamp : Stamp) (place : ℕ) (sizes : List ℕ) → lookup (λ reference. reference == 0) (members_from layout stamp place sizes) ≡ None
none_looked_up layout stamp place [] = refl
none_looked_up layout stamp place (size ∷ sizes) =
    let differs : (reference_at stamp place == 0) ≡ false = ne_eqb (reference_at stamp place) 0 (λ (same : reference_at stamp place ≡ 0). absurd (omega (arith, same))) in
    rw differs (none_looked_up layout stamp (suc place) sizes)

-- a disk with it
abbrev no_disk : Disk
no_disk = record { guid = []; reference = 0 }

no_member : (layout : NewLayout) (revision : Revision) (stamp : Stamp) (sizes : List ℕ) → has_current (founding_config (new_copy layout revision stamp sizes)) no_disk ≡ false
no_member layout revision stamp sizes =
    ap (λ (config : Configuration). has_current config no_disk) (founding_is layout revision stamp sizes)
    ∙ ap (λ (found : Option Member). option_map_or (λ (member : Member). bytes_eq member.guid [] && not member.missing) found false) (none_looked_up layout stamp 0 sizes)

module _ (layout : NewLayout) (revision : Revision) (stamp : Stamp) (sizes slots : List ℕ) (are : AreSlots sizes slots) (founded : ℕ → Bool) (among : (slot : ℕ) → founded slot ≡ true → is_slot slots slot ≡ true) where
  abbrev disk_sizes : List ℕ
  disk_sizes = slot_sizes sizes slots

  abbrev copy : ℕ → DiskCopy
  copy = new_copy layout revision stamp disk_sizes

  abbrev founding : Configuration
  founding = founding_config copy

  -- ---- a history that begins with the group

  -- the disk of a slot: the one that its copy names, where it is founded
  pub disk_by : (slot : ℕ) (here : Bool) → founded slot ≡ here → Disk
  disk_by slot true is = disk_of (view_of (copy (slot_placed slots slot (among slot is)).0))
  disk_by slot false is = no_disk

  abbrev pub first_past : Past (groups (group_of stamp))
  first_past = record {
    changes = record { issued = founding ∷ []; acked = 0; own_from = 0 };
    slots = length sizes;
    disk = λ slot. disk_by slot (founded slot) refl;
    lost = λ slot. false;
    returned = λ slot. false;
  }

  disk_named : (place slot : ℕ) → slice_get slots place ≡ Some slot → (here : Bool) (is : founded slot ≡ here) → founded slot ≡ true → disk_by slot here is ≡ disk_of (view_of (copy place))
  unfolding disk_by
  disk_named place slot at true is has =
      let own = slot_placed slots slot (among slot is) in
      ap (λ (n : ℕ). disk_of (view_of (copy n))) (are.differ own.0 place slot own.1 at)
  disk_named place slot at false is has = absurd (false≢true (sym is ∙ has))

  disk_out : (slot : ℕ) (here : Bool) (is : founded slot ≡ here) → founded slot ≡ false → has_current founding (disk_by slot here is) ≡ false
  unfolding disk_by
  disk_out slot true is none = absurd (false≢true (sym none ∙ is))
  disk_out slot false is none = no_member layout revision stamp disk_sizes

  pub first_is_new : IsNewGroup (group_of stamp) first_past sizes slots copy founded
  first_is_new = record {
    issued_is = refl;
    acked_is = refl;
    own = refl;
    lost_none = λ slot. refl;
    returned_none = λ slot. refl;
    same_slots = refl;
    names = λ place slot at has. disk_named place slot at (founded slot) refl has;
    no_member = λ slot none. disk_out slot (founded slot) refl none;
  }

  -- ---- what assembly answers

  -- Only the founding configuration was issued.
  only_founding : (number : ℕ) (config : Configuration) → slice_get (founding ∷ []) number ≡ Some config → config ≡ founding
  only_founding zero config is = same_Some config founding (sym is)
  only_founding (suc number) config is = absurd cc

  -- Nothing contradicts it.
  only_answer : (readable : ℕ → Bool) (answer : Result GroupValue Assembly) → IsPromised first_past readable (told_answer answer)
      → (found : GroupValue) × (answer ≡ Ok found) × (found.config ≡ founding)
  only_answer readable (Ok found) promised = (found, refl, only_founding promised.0 found.config promised.1.is_there)
  only_answer readable (Err faults.NoGroup) promised = absurd promised
  only_answer readable (Err (faults.SeveralGroups one other)) promised = absurd promised
  only_answer readable (Err (faults.Conflict i j sequence differ)) promised = absurd (false≢true promised.is_returned)
  only_answer readable (Err (faults.Split i j)) promised = absurd (false≢true promised.is_returned)
  only_answer readable (Err faults.Memory) promised = absurd promised

  module _ {D : Type 0} (disks : BayState D) (same_sizes : disks.sizes ≡ sizes) (kept : IsKept first_past (scene_of disks.sizes disks.held))
      (left : List Bool) (long : length left ≡ length disks.sizes) where
    may_read : IsReadable first_past (scene_of disks.sizes disks.held) (is_read left)
    may_read = record {
      below = λ slot readable.
          let within = ltb-true slot (length left) (and_parts (nat_lt slot (length left)) (not (slice_index_or left slot false)) readable).0 in
          let counted : length left ≡ length sizes = long ∙ ap length same_sizes in
          omega (arith, within, counted);
      not_lost = λ slot readable. refl;
      all_young = λ young. absurd (omega (arith, young));
    }

    -- A founded slot is read.
    module _ (place slot : ℕ) (within : place < length disk_sizes) (shows : scene_of disks.sizes disks.held slot ≡ One (view_at layout revision stamp disk_sizes place))
        (readable : is_read left slot ≡ true) where
      member : HasMember first_past (scene_of disks.sizes disks.held) (is_read left)
      member = record {
        slot = slot;
        is_readable = readable;
        is_here = refl;
        number = 0;
        config = founding;
        since = record { late = omega arith; is_there = refl };
        copy = view_at layout revision stamp disk_sizes place;
        is_copy = subst (λ (shown : Shown View). IsCopyOf shown (view_at layout revision stamp disk_sizes place)) (sym shows) refl;
        is_standing = view_stands layout revision stamp disk_sizes place within;
        shows = (view_shows layout revision stamp disk_sizes place).shows;
      }

      -- So assembly gives the founding configuration.
      pub founding_read : (found : GroupValue) × (group_in (newest_from disks 0 left) (Some (group_of stamp)) ≡ Ok found) × (found.config ≡ founding)
      founding_read =
          only_answer (is_read left) (group_in (newest_from disks 0 left) (Some (group_of stamp)))
          (group_answered (group_of stamp) disks left (newest_from disks 0 left) long refl first_past (ap length (sym same_sizes)) kept may_read member
          (group_of stamp) (bytes_same (group_of stamp)))
