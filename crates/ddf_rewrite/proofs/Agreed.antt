-- The copies that a recovery gives two disks agree.
use Rattle.std.proofs.Common.{◌≡◌, ℕ, Bool, true, false, not, eqb, List, Option, Some, None, refl, ap, sym, ◌∙◌, subst}
use Rattle.std.proofs.lemmas.Bool.{and_from}
use Rattle.std.specs.Prelude.{slice_get, option_map}
use Rattle.std.specs.Option.{option_eq}
use Rattle.std.specs.Int.{w16}
use Rattle.ddf_bytes.specs.Bytes.{number_at}
use Rattle.ddf_tables.specs.declared.disks.DiskEntry.{DiskEntry}
use Rattle.ddf_tables.specs.declared.arrays.ArrayEntry.{ArrayEntry}
use Rattle.ddf_tables.specs.declared.layout.TheConstants.{DISK_BLOCK_SIZE_AT}
use Rattle.ddf_config_records.specs.ElementValue.{ElementValue}
use Rattle.ddf_copy.specs.declared.copy.DiskCopy.{DiskCopy}
use Rattle.ddf_config.specs.Configuration.{Configuration}
use Rattle.ddf_view.specs.Differ.{difference, element_differs, held_differ, numbered_array, numbered_disk, same_array, same_disk, same_held, same_record}
use Rattle.ddf_view.specs.Reading.{disks_in, read}
use Rattle.ddf_view.specs.View.{HeldRecord, View, find_held, view_of}
use Rattle.ddf_view.proofs.Common.{disk_itself}
use Rattle.ddf_rewrite.specs.Arrays.{arrays_after}
use Rattle.ddf_rewrite.specs.Before.{before}
use Rattle.ddf_rewrite.specs.Copies.{own_record, recovered_copy, recovered_holding}
use Rattle.ddf_rewrite.specs.Disks.{disk_on, disks_for, recovered_disks}
use Rattle.ddf_rewrite.specs.Hold.{CanBeRecovered}
use Rattle.ddf_rewrite.specs.Notes.{Holding, note_of}
use Rattle.ddf_rewrite.specs.Wanted.{Wanted, all_wanted}
use Rattle.ddf_rewrite.proofs.Agreeing.{arrays_alike, find_alike, held_alike}
use Rattle.ddf_rewrite.proofs.Differences.{elements_alike, no_difference}
use Rattle.ddf_rewrite.proofs.Filled.{both_filled}
use Rattle.ddf_rewrite.proofs.Holdings.{AreSame, same_again, same_back, same_on}
use Rattle.ddf_rewrite.proofs.Led.{is_led, led_same}
use Rattle.ddf_rewrite.proofs.Lists.{some_same}
use Rattle.ddf_rewrite.proofs.Plans.{plan_noted}
use Rattle.ddf_rewrite.proofs.ReadHas.{read_rebuilt}
use Rattle.ddf_rewrite.proofs.Recovered.{held_as, made_plan, recovered_arrays, recovered_away, recovered_disks_are, recovered_found}

module _ (old other : DiskCopy) (group : List ℕ) (sequence : ℕ) (views : List View) (timestamp : ℕ) (can : CanBeRecovered old (before views) (read group sequence views) timestamp) (other_can : CanBeRecovered other (before views) (read group sequence views) timestamp) where
  abbrev config : Configuration
  config = read group sequence views

  abbrev view : View
  view = view_of (recovered_copy old (before views) config timestamp)

  abbrev other_view : View
  other_view = view_of (recovered_copy other (before views) config timestamp)

  -- what is made of one element for two disks
  made_alike : (n : ℕ) (wanted : Wanted) (one two : Holding) → slice_get (all_wanted config) n ≡ Some wanted → recovered_holding old (before views) wanted ≡ Some one → recovered_holding other (before views) wanted ≡ Some two
      → same_held (held_as (before views).noted one) (held_as (before views).noted two) ≡ true
  made_alike n wanted one two at made also = go (before views).noted
    where
      same : same_record one.element two.element ≡ true
      same =
          let led = is_led old (before views) wanted one made in
          let other_led = is_led other (before views) wanted two also in
          let first : AreSame led.leader.element one.element = subst (λ (x : ElementValue). AreSame led.leader.element x) (sym led.element_is) (led_same old.header.geometry (own_record old wanted) led.leader.element) in
          let second : AreSame other_led.leader.element two.element = subst (λ (x : ElementValue). AreSame other_led.leader.element x) (sym other_led.element_is) (led_same other.header.geometry (own_record other wanted) other_led.leader.element) in
          let leader : led.leader ≡ other_led.leader = some_same led.leads other_led.leads in
          same_again one.element two.element (same_on (same_back first) (subst (λ (x : HeldRecord). AreSame x.element two.element) (sym leader) second))

      go : (noted : Bool) → same_held (held_as noted one) (held_as noted two) ≡ true
      go false = and_from (same_record one.element two.element) true same refl
      go true =
          let led = is_led old (before views) wanted one made in
          let other_led = is_led other (before views) wanted two also in
          let rebuilt = read_rebuilt group sequence views n wanted at in
          let plan = plan_noted one.copied wanted.plan one.element rebuilt (made_plan old group sequence views timestamp can n wanted one at made) in
          let other_plan = plan_noted two.copied wanted.plan two.element rebuilt (made_plan other group sequence views timestamp other_can n wanted two at also) in
          let alike = held_alike wanted.plan one.copied two.copied one.element two.element same plan other_plan in
          subst (λ (w : Wanted). same_held (record { element = one.element; note = Some (note_of one.copied w.plan) }) (held_as true two) ≡ true) (sym led.wanted_is)
          (subst (λ (w : Wanted). same_held (record { element = one.element; note = Some (note_of one.copied wanted.plan) }) (record { element = two.element; note = Some (note_of two.copied w.plan) }) ≡ true) (sym other_led.wanted_is) alike)

  -- what both disks hold of one element is alike
  holdings_alike : (n : ℕ) (wanted : Wanted) → slice_get (all_wanted config) n ≡ Some wanted → element_differs view.elements other_view.elements (wanted.guid, wanted.index) ≡ false
  holdings_alike n wanted at =
      ap (λ o. held_differ o (find_held wanted.guid wanted.index other_view.elements)) (recovered_found old group sequence views timestamp can n wanted at)
      ∙ ap (held_differ (option_map (held_as (before views).noted) (recovered_holding old (before views) wanted))) (recovered_found other group sequence views timestamp other_can n wanted at)
      ∙ go (recovered_holding old (before views) wanted) refl (recovered_holding other (before views) wanted) refl
    where
      go : (o : Option Holding) → recovered_holding old (before views) wanted ≡ o → (p : Option Holding) → recovered_holding other (before views) wanted ≡ p
          → held_differ (option_map (held_as (before views).noted) (recovered_holding old (before views) wanted)) (option_map (held_as (before views).noted) (recovered_holding other (before views) wanted)) ≡ false
      go None e p f = ap (λ o. held_differ (option_map (held_as (before views).noted) o) (option_map (held_as (before views).noted) (recovered_holding other (before views) wanted))) e
      go (Some one) e None f =
          ap (λ o. held_differ (option_map (held_as (before views).noted) o) (option_map (held_as (before views).noted) (recovered_holding other (before views) wanted))) e
          ∙ ap (λ o. held_differ (Some (held_as (before views).noted one)) (option_map (held_as (before views).noted) o)) f
      go (Some one) e (Some two) f =
          ap (λ o. held_differ (option_map (held_as (before views).noted) o) (option_map (held_as (before views).noted) (recovered_holding other (before views) wanted))) e
          ∙ ap (λ o. held_differ (Some (held_as (before views).noted one)) (option_map (held_as (before views).noted) o)) f
          ∙ ap not (made_alike n wanted one two at e f)

  -- the entries of both are the leader's
  disks_led : (reference : ℕ) → not (option_eq same_disk (numbered_disk reference (recovered_disks (disks_in views) (view_of old).disks)) (numbered_disk reference (recovered_disks (disks_in views) (view_of other).disks))) ≡ false
  unfolding recovered_disks
  disks_led reference =
      ap not (find_alike (λ pair. eqb pair.1.reference reference) same_disk (λ disk. disk_on (view_of old).disks (number_at w16 disk.rest DISK_BLOCK_SIZE_AT) disk) (λ disk. disk_on (view_of other).disks (number_at w16 disk.rest DISK_BLOCK_SIZE_AT) disk)
      (λ n disk. refl) one_disk 0 (disks_in views))
    where
      one_disk : (n : ℕ) (disk : DiskEntry) → same_disk (n, disk_on (view_of old).disks (number_at w16 disk.rest DISK_BLOCK_SIZE_AT) disk) (n, disk_on (view_of other).disks (number_at w16 disk.rest DISK_BLOCK_SIZE_AT) disk) ≡ true
      one_disk n disk = disk_itself (n, disk)

  -- The copies that a recovery gives two disks agree.
  pub recovered_agree : difference view other_view ≡ None
  recovered_agree = no_difference view other_view (record {
    disks = λ reference.
        ap (λ (list : List DiskEntry). not (option_eq same_disk (numbered_disk reference list) (numbered_disk reference other_view.disks))) (recovered_disks_are old group sequence views timestamp can)
        ∙ ap (λ (list : List DiskEntry). not (option_eq same_disk (numbered_disk reference (disks_for old.header.revision (before views).noted config (recovered_disks (disks_in views) (view_of old).disks))) (numbered_disk reference list))) (recovered_disks_are other group sequence views timestamp other_can)
        ∙ ap not (both_filled config old.header.revision other.header.revision (before views).noted (before views).noted (recovered_disks (disks_in views) (view_of old).disks) (recovered_disks (disks_in views) (view_of other).disks) reference)
        ∙ disks_led reference;
    arrays = λ guid.
        ap (λ (list : List ArrayEntry). not (option_eq same_array (numbered_array guid list) (numbered_array guid other_view.arrays))) (recovered_arrays old group sequence views timestamp can)
        ∙ ap (λ (list : List ArrayEntry). not (option_eq same_array (numbered_array guid (arrays_after config (view_of old).arrays)) (numbered_array guid list))) (recovered_arrays other group sequence views timestamp other_can)
        ∙ ap not (arrays_alike config (view_of old).arrays (view_of other).arrays guid);
    elements = elements_alike config view.elements other_view.elements holdings_alike (recovered_away old group sequence views timestamp can);
  })
