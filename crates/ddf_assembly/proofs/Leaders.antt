-- What the leaders of an assembled group record, and what copies can hold of it.
use Rattle.std.proofs.Common.{◌≡◌, ℕ, ◌≤◌, true, eqb, List, [], ◌∷◌, length, map, refl, ap, sym, ◌∙◌, subst, arith}
use Rattle.std.proofs.lemmas.Bool.{eqb-true}
use Rattle.std.proofs.lemmas.List.{length-map}
use Rattle.std.specs.List.{AllByRecursion}
use Rattle.std.specs.Str.{bytes_eq}
use Rattle.ddf_lemmas.proofs.Lists.{all_filter, filter_pass}
use Rattle.ddf_header.specs.declared.geometry.Geometry.{Geometry}
use Rattle.ddf_header.specs.Geometry.{IsSound}
use Rattle.ddf_config.specs.Configuration.{Configuration}
use Rattle.ddf_copy.specs.declared.copy.DiskCopy.{DiskCopy}
use Rattle.ddf_copy.specs.Written.{CanBeCopy}
use Rattle.ddf_view.specs.Reading.{disks_in, member_entry_in, read}
use Rattle.ddf_view.specs.View.{View, lists_itself, view_of}
use Rattle.ddf_view.proofs.Tests.{and_three, same_bytes}
use Rattle.ddf_rewrite.specs.Before.{before}
use Rattle.ddf_rewrite.specs.Hold.{AreDisks, AreHeld, IsHoldable}
use Rattle.ddf_rewrite.proofs.Leaders.{leader_disks}
use Rattle.ddf_rewrite.proofs.Whole.{read_is_holdable}
use Rattle.ddf_rewrite.proofs.Premises.{is_sound}
use Rattle.ddf_seats.specs.declared.seated.Seated.{Seated}
use Rattle.ddf_assembly.specs.Assembled.{IsAssembledGroup}
use Rattle.ddf_seats.specs.Changing.{record_length, AreCopies, CanBeHeldOn, CanBeLed, HaveLength}
use Rattle.ddf_seats.specs.Group.{GroupValue}
use Rattle.ddf_seats.specs.Leading.{leading, leading_disks, leading_views, leads, some}
use Rattle.ddf_seats.specs.Seated.{seated, views_in}
use Rattle.ddf_seats.proofs.RecordsHeld.{held_under, leaders_all, views_are}

-- A leader is of the group and of its sequence number, and lists its own disk.
pub record IsLeading (config : Configuration) (disk : Seated) : Type 0 where
  pub in_group : disk.copy.header.guid ≡ config.group
  pub at_sequence : disk.copy.header.sequence ≡ config.sequence
  pub is_listed : lists_itself (view_of disk.copy) ≡ true

pub leads_is : (config : Configuration) (disk : Seated) → leads config disk ≡ true → IsLeading config disk
leads_is config disk h =
    let parts = and_three (bytes_eq disk.copy.header.guid config.group) (eqb disk.copy.header.sequence config.sequence) (lists_itself (view_of disk.copy)) h in
    record {
      in_group = same_bytes disk.copy.header.guid config.group parts.0;
      at_sequence = eqb-true disk.copy.header.sequence config.sequence parts.1;
      is_listed = parts.2;
    }

module _ (group : GroupValue) (is : IsAssembledGroup group) where
  abbrev disks : List Seated
  disks = seated group

  pub leading_copies : AreCopies (leading_disks group)
  unfolding leading_disks
  leading_copies = all_filter (λ disk. CanBeCopy disk.copy) (leads group.config) disks is.are_copies

  pub leading_length : (sectors : ℕ) → HaveLength sectors disks → HaveLength sectors (leading_disks group)
  unfolding leading_disks
  leading_length sectors same = all_filter (λ disk. record_length disk ≡ sectors) (leads group.config) disks same

  leading_lead : AllByRecursion (λ disk. leads group.config disk ≡ true) (leading_disks group)
  unfolding leading_disks
  leading_lead = filter_pass (leads group.config) disks

  -- The records of the leaders can stand in those of each disk, where the records of all have one length.
  pub led_on : CanBeLed (leading group) disks
  led_on = each disks is.are_copies
    where
      each : (some_disks : List Seated) → AreCopies some_disks → AllByRecursion (λ disk. HaveLength (record_length disk) disks → AreHeld disk.copy.header.geometry (leading group)) some_disks
      each [] are = tt
      each (disk ∷ others) are = (
        λ same. held_under disk.copy.header.geometry (leading_disks group) (is_sound disk.copy are.0) leading_copies (leading_length (record_length disk) same),
        each others are.1,
      )

  -- ---- where a disk leads

  module _ (first : Seated) (rest : List Seated) (e : leading_disks group ≡ first ∷ rest) where
    first_leads : IsLeading group.config first
    first_leads = leads_is group.config first (subst (λ (some_disks : List Seated). AllByRecursion (λ disk. leads group.config disk ≡ true) some_disks) e leading_lead).0

    abbrev copies : List DiskCopy
    copies = map (λ (disk : Seated). disk.copy) rest

    views_from : map view_of (first.copy ∷ copies) ≡ leading_views group
    views_from = views_are (first ∷ rest) ∙ ap (λ (some_disks : List Seated). views_in some_disks) (sym e)

    -- A geometry with records of their length can hold the configuration.
    config_held : (geometry : Geometry) → IsSound geometry → HaveLength geometry.record_length disks → IsHoldable geometry.max_members group.config
    config_held geometry sound same =
        let all = leaders_all geometry (first ∷ rest) (subst AreCopies e leading_copies) (subst (HaveLength geometry.record_length) e (leading_length geometry.record_length same)) in
        let held = read_is_holdable geometry first.copy copies sound all in
        let in_group = subst (λ (guid : List ℕ). IsHoldable geometry.max_members (read guid first.copy.header.sequence (map view_of (first.copy ∷ copies)))) first_leads.in_group held in
        let at_sequence = subst (λ (sequence : ℕ). IsHoldable geometry.max_members (read group.config.group sequence (map view_of (first.copy ∷ copies)))) first_leads.at_sequence in_group in
        subst (IsHoldable geometry.max_members) is.is_read
        (subst (λ (views : List View). IsHoldable geometry.max_members (read group.config.group group.config.sequence views)) views_from at_sequence)

    -- The entries of its disks can be written.
    disks_fit : AreDisks (leading group).disks
    disks_fit = subst (λ (views : List View). AreDisks (before views).disks) views_from (leader_disks first.copy (map view_of copies) (subst AreCopies e leading_copies).0)

  members_many : (config : Configuration) (views : List View) → read config.group config.sequence views ≡ config → length config.members ≡ length (disks_in views)
  unfolding read
  members_many config views same =
      ap (λ (one : Configuration). length one.members) (sym same) ∙ length-map (disks_in views) (member_entry_in views)

  -- There are as many members as entries of disks.
  pub leading_many : length (leading group).disks ≤ length group.config.members
  leading_many = let many = members_many group.config (leading_views group) is.is_read in omega (arith, many)

  -- ---- where there is a seat

  held_by : (some_leading : List Seated) → leading_disks group ≡ some_leading → (disk : Seated) → CanBeCopy disk.copy → some disks ≡ true → HaveLength (record_length disk) disks
      → IsHoldable disk.copy.header.geometry.max_members group.config
  held_by [] e disk is_copy seats same =
      let lead : some {X = Seated} [] ≡ true = ap (λ (some_disks : List Seated). some some_disks) (sym e) ∙ is.some_lead seats in absurd cc
  held_by (first ∷ rest) e disk is_copy seats same = config_held first rest e disk.copy.header.geometry (is_sound disk.copy is_copy) same

  -- The copies of the disks can hold the configuration, where their records have one length.
  pub held_on : CanBeHeldOn group.config disks
  held_on = from disks refl
    where
      each : some disks ≡ true → (some_disks : List Seated) → AreCopies some_disks
          → AllByRecursion (λ disk. HaveLength (record_length disk) disks → IsHoldable disk.copy.header.geometry.max_members group.config) some_disks
      each seats [] are = tt
      each seats (disk ∷ others) are = (held_by (leading_disks group) refl disk are.0 seats, each seats others are.1)

      from : (all : List Seated) → disks ≡ all → CanBeHeldOn group.config disks
      from [] e = subst (λ (all : List Seated). CanBeHeldOn group.config all) (sym e) tt
      from (disk ∷ others) e = each (ap (λ (all : List Seated). some all) e) disks is.are_copies

  disks_by : (some_leading : List Seated) → leading_disks group ≡ some_leading → some disks ≡ true → AreDisks (leading group).disks
  disks_by [] e seats =
      let lead : some {X = Seated} [] ≡ true = ap (λ (some_disks : List Seated). some some_disks) (sym e) ∙ is.some_lead seats in absurd cc
  disks_by (first ∷ rest) e seats = disks_fit first rest e

  -- The entries of the leaders' disks can be written.
  pub leading_fit : some disks ≡ true → AreDisks (leading group).disks
  leading_fit seats = disks_by (leading_disks group) refl seats
