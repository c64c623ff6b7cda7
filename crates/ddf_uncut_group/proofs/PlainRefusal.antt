-- What refuses a change of plain disks is what its configuration and its seats refuse, where the tables have room.
use Rattle.std.proofs.Common.{◌≡◌, ℕ, ◌<◌, ◌≤◌, Bool, true, false, List, [], ◌∷◌, length, map, fold, max, Option, Some, None, if◌then◌else◌, refl, ap, ◌∙◌, arith}
use Rattle.std.proofs.lemmas.List.{length-map}
use Rattle.std.proofs.lemmas.List.FromFn.{length-enumerate_from}
use Rattle.std.specs.Prelude.{option_map, slice_index}
use Rattle.std.specs.List.{enumerate_from}
use Rattle.ddf_lemmas.proofs.Lists.{all_from}
use Rattle.ddf_bytes.specs.declared.stamp.Stamp.{Stamp}
use Rattle.ddf_header.specs.declared.geometry.Geometry.{Geometry}
use Rattle.ddf_config.specs.declared.member.Member.{Member}
use Rattle.ddf_config.specs.declared.refusal.FullTable.{FullTable}
use Rattle.ddf_config.specs.declared.refusal.Refusal.{Refusal}
use Rattle.ddf_config.specs.declared.refusal.Refusal.TheVariants.{Full}
use Rattle.ddf_config.specs.Configuration.{Configuration}
use Rattle.ddf_config.specs.Refusals.{first_refusal}
use Rattle.ddf_plan.specs.declared.change.Change.{Change}
use Rattle.ddf_plan.specs.Causes.{causes}
use Rattle.ddf_plan.specs.Floors.{extents_refusal}
use Rattle.ddf_plan.specs.Same.{is_step}
use Rattle.ddf_rewrite.specs.Before.{before}
use Rattle.ddf_rewrite.specs.Spares.{arrays_of_spare}
use Rattle.ddf_rewrite.specs.Wanted.{all_wanted}
use Rattle.ddf_rewrite.proofs.Lists.{all_mapped}
use Rattle.ddf_seats.specs.declared.seated.Seated.{Seated}
use Rattle.ddf_steps.specs.Full.{full_of}
use Rattle.ddf_seats.specs.Group.{GroupValue}
use Rattle.ddf_recovery.specs.Recovery.{config_lost, full_of_mending, full_of_recovery}
use Rattle.ddf_seats.specs.Leading.{leading, some}
use Rattle.ddf_steps.specs.Refusing.{most_members, room_refusal, step_refusal}
use Rattle.ddf_seats.specs.Seated.{seated, seats_in, views_in}
use Rattle.ddf_steps.specs.Steps.{config_after}
use Rattle.ddf_uncut_group.specs.Labelled.{labelled_config, labelled_member}
use Rattle.ddf_uncut_group.specs.Plain.{ArePlain, HasRoom, IsPlain}
use Rattle.ddf_uncut_group.proofs.PlainRoom.{plain_full}

module _ (sizes : List ℕ) where
  -- A record of a plain disk has room for 16 members of an element.
  sixteen : (disk : Seated) → IsPlain (slice_index sizes disk.seat.slot) disk.copy → disk.copy.header.geometry.max_members ≡ 16
  sixteen disk is = ap (λ (geometry : Geometry). geometry.max_members) is.same_geometry

  -- One more such disk leaves it at that.
  most_from : (most : ℕ) (disks : List Seated) → most ≡ 16 → ArePlain sizes disks → fold (λ most disk. max most disk.copy.header.geometry.max_members) most disks ≡ 16
  most_from most [] is are = is
  most_from most (disk ∷ disks) is are =
      most_from (max most disk.copy.header.geometry.max_members) disks (ap (λ (n : ℕ). max n disk.copy.header.geometry.max_members) is ∙ ap (max 16) (sixteen disk are.0)) are.1

  -- So is the most of some.
  pub most_plain : (disks : List Seated) → 0 < length disks → ArePlain sizes disks → most_members disks ≡ 16
  most_plain [] there are = absurd (omega (arith, there))
  most_plain (disk ∷ disks) there are = most_from (max 0 disk.copy.header.geometry.max_members) disks (ap (max 0) (sixteen disk are.0)) are.1

  -- Nothing refuses a change of them that its configuration and its seats don't refuse.
  pub plain_unrefused : (timestamp : ℕ) (config : Configuration) (disks : List Seated) (change : Change) → ArePlain sizes disks → 0 < length disks → HasRoom (config_after config change)
      → causes (Some 16) config change (seats_in disks) ≡ None → extents_refusal config change (seats_in disks) (seats_in disks) ≡ None → step_refusal timestamp None config disks change ≡ None
  unfolding step_refusal
  plain_unrefused timestamp config disks change are there room free lie =
      let full = plain_full sizes (before (views_in disks)) (config_after config change) room timestamp disks are in
      none_of (causes (Some (most_members disks)) config change (seats_in disks)) (room_refusal timestamp config disks change) (is_step config change)
      (ap (λ (most : ℕ). causes (Some most) config change (seats_in disks)) (most_plain disks there are) ∙ free)
      (none_both (full_of timestamp (before (views_in disks)) (config_after config change) disks) (extents_refusal config change (seats_in disks) (seats_in disks)) full lie)
    where
      none_both : (table : Option FullTable) (other : Option Refusal) → table ≡ None → other ≡ None → first_refusal (option_map Full table ∷ other ∷ []) ≡ None
      none_both table other p q = rw (p, q) refl

      none_of : (first last : Option Refusal) (counts : Bool) → first ≡ None → last ≡ None → first_refusal (first ∷ option_map Full None ∷ (if counts then last else None) ∷ []) ≡ None
      none_of first last true p q = rw (p, q) refl
      none_of first last false p q = rw p refl

  -- No table is full for a recovery of them that has nothing to mend.
  pub recovery_roomy : (timestamp : ℕ) (group : GroupValue) → ArePlain sizes (seated group) → HasRoom (config_lost group) → group.lagging ≡ [] → full_of_recovery timestamp group ≡ None
  unfolding full_of_recovery
  recovery_roomy timestamp group are room none = by (some group.absent) (some group.lagging) (ap (λ (slots : List ℕ). some slots) none)
    where
      by : (lacks behind : Bool) → behind ≡ false
          → ◌≡◌ {A = Option FullTable} (if lacks then full_of timestamp (leading group) (config_lost group) (seated group) else (if behind then full_of_mending group else None)) None
      by true behind is = plain_full sizes (leading group) (config_lost group) room timestamp (seated group) are
      by false behind is = rw is refl

-- There is room for the group of disks that were just labelled.
pub labelled_room : (stamp : Stamp) (sizes : List ℕ) → length sizes ≤ 15 → HasRoom (labelled_config stamp sizes)
unfolding all_wanted
labelled_room stamp sizes few =
    let members : length (map (labelled_member stamp) (enumerate_from 0 sizes)) ≡ length sizes = length-map (enumerate_from 0 sizes) (labelled_member stamp) ∙ length-enumerate_from 0 sizes in
    record {
      members = omega (arith, members, few);
      arrays = omega arith;
      elements = omega arith;
      none_dedicated = all_mapped (λ (entry : ℕ × Member). arrays_of_spare entry.1.spare ≡ []) (labelled_member stamp) (enumerate_from 0 sizes)
          (all_from (λ (disk : ℕ × ℕ). arrays_of_spare (labelled_member stamp disk).1.spare ≡ []) (enumerate_from 0 sizes) (λ k disk at. refl));
    }
