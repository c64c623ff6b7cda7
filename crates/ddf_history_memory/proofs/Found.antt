-- A group that was found whole on disks begins a history.
use Rattle.std.proofs.Common.{◌≡◌, ◌⊎◌, ◌∙◌, ℕ, suc, ◌<◌, ◌≤◌, ◌&&◌, not, nat_lt, eqb, Bool, true, false, List, [], ◌∷◌, length, map, Option, Some, None, if◌then◌else◌, refl, sym, ap, subst, inl, inr, arith}
use Rattle.std.proofs.Math.Path.{fun_ext}
use Rattle.std.proofs.lemmas.Bool.{and_parts, cases_eq, cases_lt, eqb-true, false≢true, le-ltb}
use Rattle.std.specs.Prelude.{IfSome, filter, slice_get, slice_index}
use Rattle.std.specs.List.{list_any}
use Rattle.std.specs.Map.{lookup}
use Rattle.std.specs.Str.{bytes_eq}
use Rattle.ddf_lemmas.proofs.Lists.{filtered_passes, mapped_at}
use Rattle.ddf_lemmas.proofs.Options.{value_there}
use Rattle.ddf_bay.specs.Sectors.{Image}
use Rattle.ddf_bay.specs.State.{BayState}
use Rattle.ddf_config.specs.declared.member.Member.{Member}
use Rattle.ddf_copy.specs.declared.newest_copy.Newest.{Newest}
use Rattle.ddf_copy.specs.declared.newest_copy.Newest.TheVariants as newests
use Rattle.ddf_copy.specs.Copies.{newest_at}
use Rattle.ddf_copy.specs.Whole.{IsNewestCopy, IsNewestUnder}
use Rattle.ddf_header.specs.declared.reading.Header.{Header}
use Rattle.ddf_rewrite.proofs.Lists.{all_at}
use Rattle.ddf_view.specs.Differ.{difference}
use Rattle.ddf_view.specs.View.{View, view_of}
use Rattle.ddf_view.specs.declared.difference.Difference.{Difference}
use Rattle.ddf_view.proofs.Names.{names_differ}
use Rattle.ddf_group.specs.declared.shown.Shown.{Shown as GroupShown}
use Rattle.ddf_group.specs.Assembled.{absent, assembled, assembled_as, config_of, has_reference, is_absent}
use Rattle.ddf_group.specs.Choice.{chosen}
use Rattle.ddf_group.specs.Conflicts.{contradiction}
use Rattle.ddf_group.specs.Shown.{shown_of}
use Rattle.ddf_group.specs.Slots.{claimed, claims, numbers, slot_at, view_in}
use Rattle.ddf_history.specs.Answer.{IsAnswer, IsClaimed, IsLeader, IsReadAs}
use Rattle.ddf_history.specs.Answer.Answer.{Is}
use Rattle.ddf_history.specs.Answered.{AreOfOneGroup}
use Rattle.ddf_history.specs.Calls.{IsFound, IsStart}
use Rattle.ddf_history.specs.Groups.{Disk, Shows, disk_of, groups, has_current}
use Rattle.ddf_history.specs.Issued.{Past}
use Rattle.ddf_history.specs.Leaders.{seen}
use Rattle.ddf_history.specs.Reading.{IsCopyOf, IsFirstOf, Scene, Shown}
use Rattle.ddf_history.specs.Reading.Shown.{Differ, Nothing, One}
use Rattle.ddf_history.specs.Scenes.{answer_of, scene_in, scene_of, told_of}
use Rattle.ddf_history.proofs.AnsweredSlots.{claimed_by, copy_within, leader_leads}
use Rattle.ddf_history.proofs.Since.{first_is_copy, first_there}
use Rattle.ddf_history.proofs.Sound.{groups_are_sound}
use Rattle.ddf_history.proofs.Starting.{found_kept}
use Rattle.ddf_seats.specs.Group.{GroupValue}
use Rattle.ddf_assembly.specs.Group.{group_as, group_of}
use Rattle.ddf_assembly.specs.Reading.{AreNewest}
use Rattle.ddf_assembly.specs.Settled.{IsSettledGroup}
use Rattle.ddf_assembly.specs.Slots.{newest_from}
use Rattle.ddf_assembly.proofs.LeftBefore as groups_left
use Rattle.ddf_assembly.proofs.LeftBefore.{IsClaimedDisk, IsFoundAs, claimed_disk, disks_claimed, found_by, leader_claimed, level_at, none_gone}
use Rattle.ddf_assembly.proofs.Settled.{settled}
use Rattle.ddf_seats.specs.Seated.{seated}
use Rattle.ddf_history_steps.specs.Kept.{is_read}
use Rattle.ddf_history_steps.proofs.Begun.{IsMadeOf, found_named}
use Rattle.ddf_history_steps.proofs.Claimed.{entry_there, has_its_reference}
use Rattle.ddf_history_steps.proofs.Filtered.{any_kept}
use Rattle.ddf_history_steps.proofs.Told.{assembled_told, found_name, one_group, scene_is}
use Rattle.ddf_history_memory.specs.Found.{BeginsFound, IsFoundWhole, shown_on}
use Rattle.ddf_history_memory.proofs.Slots.{read_at}
use Rattle.ddf_history_memory.proofs.Strangers.{strange, stranger}

-- ---- copies that can be written again

under_is_copy : (size : ℕ) (anchor : Header) (newest : Newest) → IsNewestUnder size anchor newest → IsNewestCopy newest
under_is_copy size anchor (newests.One which copy) under = under.is_copy
under_is_copy size anchor (newests.Level copy) under = under.is_copy
under_is_copy size anchor (newests.TwoDiffer primary secondary) under = (under.0.is_copy, under.1.is_copy)
under_is_copy size anchor (newests.Neither first second) under = tt

are_copies : (all : List (Option Newest)) → ((slot : ℕ) (newest : Newest) → slice_get all slot ≡ Some (Some newest) → IsNewestCopy newest) → AreNewest all
are_copies [] each = tt
are_copies (None ∷ all) each = (tt, are_copies all (λ slot newest at. each (suc slot) newest at))
are_copies (Some newest ∷ all) each = (each 0 newest refl, are_copies all (λ slot newest at. each (suc slot) newest at))

-- the disk that a slot shows, by its first copy
abbrev disk_shown : Disk → Shown View → Disk
disk_shown other Nothing = other
disk_shown other (One copy) = disk_of copy
disk_shown other (Differ primary secondary) = disk_of primary

first_disk : (other : Disk) (shows : Shown View) (copy : View) → IsFirstOf shows copy → disk_shown other shows ≡ disk_of copy
first_disk other Nothing copy is = absurd is
first_disk other (One view) copy is = ap disk_of (sym is)
first_disk other (Differ primary secondary) copy is = ap disk_of (sym is)

-- a slot that shows something has a first copy
some_shown : (other : Disk) (shows : Shown View) → (disk_shown other shows ≡ other) ⊎ ((copy : View) × IsFirstOf shows copy)
some_shown other Nothing = inl refl
some_shown other (One copy) = inr (copy, refl)
some_shown other (Differ primary secondary) = inr (primary, refl)

-- a slot that shows something is one of the slots
pub shown_within : (sizes : List ℕ) (image : Image) (slot : ℕ) (copy : View) → IsCopyOf (scene_of sizes image slot) copy → slot < length sizes
shown_within sizes image slot copy is = elim (cases_lt slot (length sizes)) [
  | inl low ↦ low
  | inr past ↦ absurd (subst (λ (shows : Shown View). IsCopyOf shows copy)
      (ap (λ (b : Bool). if b then told_of (shown_of (newest_at (slice_index sizes slot) (image slot))) else Nothing) (le-ltb slot (length sizes) past)) is)
]

agree_or_not : (found : Option Difference) → (found ≡ None) ⊎ (found ≡ None → ⊥)
agree_or_not None = inl refl
agree_or_not (Some one) = inr (λ none. absurd cc)

module _ (group : List ℕ) {D : Type 0} (state : BayState D) (left : List Bool) (g : GroupValue) (whole : IsFoundWhole group state left g) where
  abbrev held : Scene View
  held = shown_on state

  abbrev read : List (Option Newest)
  read = newest_from state 0 left

  is_settled : IsSettledGroup g
  is_settled = settled g whole.recovers whole.none_absent whole.none_lags

  are : AreNewest g.newest
  are = are_copies g.newest (λ slot newest at. let has = (whole.under slot newest at).1 in under_is_copy _ has.anchor newest has.under)

  made : IsMadeOf read (Some group) g
  made = found_named read (Some group) group g whole.is_found (found_name read group g whole.is_found)

  newest_is : g.newest ≡ read
  newest_is = sym (ap (λ (one : GroupValue). one.newest) made.is_group)

  abbrev slots : List GroupShown
  slots = map shown_of g.newest

  -- ---- what is seen is what the slots show

  all_seen : seen (is_read left) held ≡ held
  all_seen = fun_ext (λ slot. elim (cases_lt slot (length left)) [
    | inl low ↦ ap (λ (b : Bool). if b then held slot else Nothing) (read_at left slot low (whole.none_left slot low))
    | inr past ↦ beyond slot past (is_read left slot)
  ])
    where
      beyond : (slot : ℕ) → length left ≤ slot → (b : Bool) → ◌≡◌ {A = Shown View} (if b then held slot else Nothing) (held slot)
      beyond slot past true = refl
      beyond slot past false =
          let long = whole.every_slot in
          let out : nat_lt slot (length state.sizes) ≡ false = le-ltb slot (length state.sizes) (omega (arith, past, long)) in
          sym (ap (λ (b : Bool). if b then told_of (shown_of (newest_at (slice_index state.sizes slot) (state.held slot))) else Nothing) out)

  slots_shown : scene_in slots ≡ held
  slots_shown =
      ap (λ (newest : List (Option Newest)). scene_in (map shown_of newest)) newest_is ∙ scene_is state left read whole.every_slot refl ∙ all_seen

  alike : AreOfOneGroup slots
  alike = subst (λ (newest : List (Option Newest)). AreOfOneGroup (map shown_of newest)) (sym newest_is) (one_group state left read whole.every_slot refl)

  is_answer : IsReadAs (groups group) (length state.sizes) held g.config
  is_answer =
      let config_is : answer_of (assembled (map shown_of read) (Some group)) ≡ Is g.config =
      ap answer_of made.is_answer ∙ ap (λ (one : GroupValue). Is one.config) made.is_group in
      subst (λ (scene : Scene View). IsAnswer (groups group) (length state.sizes) scene (Is g.config)) all_seen
      (subst (IsAnswer (groups group) (length state.sizes) (seen (is_read left) held)) config_is (assembled_told state left read whole.every_slot refl group (length state.sizes) refl))

  -- ---- what it claims

  found : (guid : List ℕ) × IsFoundAs guid g
  unfolding group_of assembled
  found =
      let own = found_by read g (chosen (map shown_of read) (Some group)) whole.is_found in
      let parts =
      subst (λ (copies : List (Option Newest)). (contradiction (map shown_of copies) own.0 ≡ None) × (group_as copies (assembled_as (map shown_of copies) (claimed (map shown_of copies) own.0) (config_of (map shown_of copies) own.0)) ≡ g))
      (sym newest_is) own.2 in
      (own.0, record { not_contradicted = parts.0; is_group = parts.1 })

  own_guid : found.0 ≡ group
  own_guid = sym (groups_left.group_is g are is_settled found.0 found.1) ∙ found_name read group g whole.is_found

  found_as : IsFoundAs group g
  found_as = subst (λ (guid : List ℕ). IsFoundAs guid g) own_guid found.1

  -- A slot that the group claims shows one copy, which shows the configuration.
  record IsClaimedOne (slot : ℕ) : Type 0 where
    copy : View
    is_one : held slot ≡ One copy
    is_view : view_in (slot_at slots slot) ≡ Some copy
    shows : Shows copy g.config
    is_claimed : IsClaimed (groups group) held slot copy

  claimed_one : (slot : ℕ) → claims slots group slot ≡ true → IsClaimedOne slot
  claimed_one slot claimed_is =
      let by = claimed_by group slots alike slot claimed_is in
      let below = copy_within slots slot by.0 (first_is_copy (scene_in slots slot) by.0 by.2.is_first) in
      let disk = claimed_disk g are is_settled group found_as slot below claimed_is in
      let own : IsClaimedDisk g group disk.1 = all_at (IsClaimedDisk g group) (seated g) disk.0 disk.1 (disks_claimed g are is_settled group found_as) disk.2 in
      let newest = subst (λ (n : ℕ). slice_get g.newest n ≡ Some (Some (newests.Level disk.1.copy))) disk.3 own.is_newest in
      let level = level_at g.newest slot disk.1.copy newest in
      let is_copy = all_at (λ (one : Option Newest). IfSome one IsNewestCopy) g.newest slot (Some (newests.Level disk.1.copy)) are newest in
      let view : view_in (slot_at slots slot) ≡ Some (view_of disk.1.copy) = ap view_in level in
      let same : by.0 ≡ view_of disk.1.copy = let both = sym by.1 ∙ view in cc in
      record {
        copy = view_of disk.1.copy;
        is_one = ap (λ (scene : Scene View). scene slot) (sym slots_shown) ∙ ap told_of level;
        is_view = view;
        shows = record { shows = own.is_shown; names = names_differ disk.1.copy [] is_copy };
        is_claimed =
            subst (IsClaimed (groups group) held slot) same
            (subst (λ (scene : Scene View). IsClaimed (groups group) scene slot by.0) slots_shown by.2);
      }

  -- So does each slot that leads.
  leader_one : (slot : ℕ) (copy : View) → IsLeader (groups group) held slot copy → IsClaimedOne slot
  leader_one slot copy leads_here =
      claimed_one slot (leader_claimed g are is_settled group found_as slot
      (leader_leads group slots alike slot copy (subst (λ (scene : Scene View). IsLeader (groups group) scene slot copy) (sym slots_shown) leads_here)))

  leader_shows : (slot : ℕ) (copy : View) → IsLeader (groups group) held slot copy → Shows copy g.config
  leader_shows slot copy leads_here =
      let one = leader_one slot copy leads_here in
      let same : copy ≡ one.copy = subst (λ (shows : Shown View). IsCopyOf shows copy) one.is_one leads_here.is_copy in
      subst (λ (view : View). Shows view g.config) (sym same) one.shows

  -- The lowest leader lists the disks of the configuration,
  lowest_one : IsClaimedOne is_answer.leader
  lowest_one = leader_one is_answer.leader is_answer.leading is_answer.leads

  lowest_first : IsFirstOf (held is_answer.leader) is_answer.leading
  lowest_first =
      let same : is_answer.leading ≡ lowest_one.copy = subst (λ (shows : Shown View). IsCopyOf shows is_answer.leading) lowest_one.is_one is_answer.leads.is_copy in
      subst (λ (shows : Shown View). IsFirstOf shows is_answer.leading) (sym lowest_one.is_one) same

  lists_alike : (disk : Disk) → (groups group).lists_current is_answer.leading disk ≡ has_current g.config disk
  lists_alike disk = (groups_are_sound group).same_current is_answer.leading g.config disk (leader_shows is_answer.leader is_answer.leading is_answer.leads)

  -- so it claims the slot of each current member.
  current_claimed : (slot : ℕ) (copy : View) → IsFirstOf (held slot) copy → has_current g.config (disk_of copy) ≡ true → IsClaimed (groups group) held slot copy
  current_claimed slot copy is_first current = record {
    leader = is_answer.leader;
    leading = is_answer.leading;
    is_lowest = record { leads = (is_answer.leading, is_answer.leads); lowest = is_answer.lowest; is_first = lowest_first };
    is_first = is_first;
    is_listed = lists_alike (disk_of copy) ∙ current;
  }

  -- And each that it claims is one.
  claimed_current : (slot : ℕ) (one : IsClaimedOne slot) → has_current g.config (disk_of one.copy) ≡ true
  claimed_current slot one =
      let is = one.is_claimed in
      let first = is.is_lowest.lowest is_answer.leader is_answer.leading is_answer.leads in
      let other = is_answer.lowest is.leader is.is_lowest.leads.0 is.is_lowest.leads.1 in
      let same : is.leader ≡ is_answer.leader = omega (arith, first, other) in
      let there = first_is_copy (held is.leader) is.leading is.is_lowest.is_first in
      let here : is.leading ≡ lowest_one.copy =
      subst (λ (shows : Shown View). IsCopyOf shows is.leading) lowest_one.is_one (subst (λ (s : ℕ). IsCopyOf (held s) is.leading) same there) in
      let shows : Shows is.leading g.config = subst (λ (view : View). Shows view g.config) (sym here) lowest_one.shows in
      sym ((groups_are_sound group).same_current is.leading g.config (disk_of one.copy) shows) ∙ is.is_listed

  -- ---- the disks

  abbrev disk_in : ℕ → Disk
  disk_in slot = disk_shown (stranger g.config) (held slot)

  -- The slot of a current member shows it.
  record ShowsMember (slot : ℕ) : Type 0 where
    copy : View
    is_first : IsFirstOf (held slot) copy
    is_disk : disk_in slot ≡ disk_of copy
    is_claimed : IsClaimed (groups group) held slot copy

  member_shown : (slot : ℕ) → has_current g.config (disk_in slot) ≡ true → ShowsMember slot
  member_shown slot current = elim (some_shown (stranger g.config) (held slot)) [
    | inl none ↦ absurd (false≢true (sym (strange g.config) ∙ ap (has_current g.config) (sym none) ∙ current))
    | inr some ↦ (
        let is = first_disk (stranger g.config) (held slot) some.0 some.1 in
        record { copy = some.0; is_first = some.1; is_disk = is; is_claimed = current_claimed slot some.0 some.1 (ap (has_current g.config) (sym is) ∙ current) })
  ]

  -- No member is in two slots.
  alone : (s t : ℕ) → has_current g.config (disk_in s) ≡ true → disk_in s ≡ disk_in t → s ≡ t
  alone s t current same = elim (cases_eq s t) [
    | inl is ↦ is
    | inr apart ↦ (
        let one = member_shown s current in
        let other = member_shown t (ap (has_current g.config) (sym same) ∙ current) in
        absurd (is_answer.no_conflict (inr (inl (record {
          s = s;
          t = t;
          apart = apart;
          one = one.copy;
          other = other.copy;
          one_is = inr one.is_claimed;
          other_is = inr other.is_claimed;
          same = ap (λ (disk : Disk). disk.reference) (sym one.is_disk ∙ same ∙ other.is_disk);
        })))))
  ]

  -- A copy names the disk of its slot.
  named : (slot : ℕ) (copy : View) → IsCopyOf (held slot) copy → disk_of copy ≡ disk_in slot
  named slot copy is =
      let first = first_there (held slot) copy is in
      whole.one_disk slot copy first.0 is (first_is_copy (held slot) first.0 first.1) ∙ sym (first_disk (stranger g.config) (held slot) first.0 first.1)

  -- ---- each current member is there

  module _ (disk : Disk) (current : has_current g.config disk ≡ true) where
    abbrev claimed_slots : List ℕ
    claimed_slots = filter (claims slots group) (numbers slots)

    entry : (member : Member) × (lookup (λ reference. eqb reference disk.reference) g.config.members ≡ Some member) × ((bytes_eq member.guid disk.guid && not member.missing) ≡ true)
    entry = value_there (λ (one : Member). bytes_eq one.guid disk.guid && not one.missing) (lookup (λ reference. eqb reference disk.reference) g.config.members) current

    at_place : (place key : ℕ) × (slice_get g.config.members place ≡ Some (key, entry.0)) × (eqb key disk.reference ≡ true)
    at_place = entry_there (λ reference. eqb reference disk.reference) g.config.members entry.0 entry.1

    none_absent : absent slots claimed_slots g.config.members ≡ []
    unfolding claimed
    none_absent = none_gone g are is_settled group found_as

    is_there : (slot : ℕ) × (copy : View) × IsClaimed (groups group) held slot copy × (disk_of copy ≡ disk)
    is_there = by (list_any (has_reference slots at_place.1) claimed_slots) refl
      where
        by : (any : Bool) → list_any (has_reference slots at_place.1) claimed_slots ≡ any → (slot : ℕ) × (copy : View) × IsClaimed (groups group) held slot copy × (disk_of copy ≡ disk)
        by true any =
            let slot = any_kept (claims slots group) (has_reference slots at_place.1) (numbers slots) any in
            let one = claimed_one slot.0 slot.1 in
            let reference = has_its_reference slots at_place.1 slot.0 one.copy one.is_view slot.2 ∙ eqb-true at_place.1 disk.reference at_place.3 in
            (slot.0, one.copy, one.is_claimed, (groups_are_sound group).one_reference g.config (disk_of one.copy) disk (claimed_current slot.0 one) current reference)
        by false none =
            let here = (and_parts (bytes_eq entry.0.guid disk.guid) (not entry.0.missing) entry.2).1 in
            let passes : is_absent slots claimed_slots (at_place.1, entry.0) ≡ true = rw (here, none) refl in
            let there = filtered_passes (is_absent slots claimed_slots) g.config.members at_place.0 (at_place.1, entry.0) at_place.2 passes in
            let listed = mapped_at (λ (one : ℕ × Member). one.0) (filter (is_absent slots claimed_slots) g.config.members) there.0 (at_place.1, entry.0) there.1 in
            let nothing : slice_get [] there.0 ≡ Some at_place.1 = subst (λ (all : List ℕ). slice_get all there.0 ≡ Some at_place.1) none_absent listed in
            absurd (let impossible = nothing in cc)

  -- ---- the beginning

  abbrev begins : Past (groups group)
  begins = record {
    changes = record { issued = g.config ∷ []; acked = 0; own_from = 1 };
    slots = length state.sizes;
    disk = disk_in;
    lost = λ slot. false;
    returned = λ slot. false;
  }

  is_start : IsStart begins g.config
  is_start = record { issued_is = refl; acked_is = refl; own = omega arith; lost_none = λ slot. refl; returned_none = λ slot. refl; alone = alone }

  is_found : IsFound begins held g.config
  is_found = record {
    own = refl;
    is_read = is_answer;
    members = λ slot current.
        let shows = member_shown slot current in
        record { copy = shows.copy; is_copy = first_is_copy (held slot) shows.copy shows.is_first; all = λ other is. named slot other is };
    named = named;
    misses_none = whole.misses_none;
    leaders_show = leader_shows;
    are_present = λ disk current. let there = is_there disk current in (there.0, there.1, inr there.2, there.3);
    agree_or = λ one other. agree_or_not (difference one other);
  }

  pub begins_found : BeginsFound group state g
  begins_found = record {
    past = begins;
    kept = found_kept (groups group) (groups_are_sound group) begins held g.config is_start is_found;
    issued_is = refl;
    acked_is = refl;
    own = refl;
    same_slots = refl;
    lost_none = λ slot. refl;
    returned_none = λ slot. refl;
    are_present = λ disk current.
        let there = is_there disk current in
        (there.0, first_disk (stranger g.config) (held there.0) there.1 there.2.is_first ∙ there.3);
    leads =
        let same : is_answer.leading ≡ lowest_one.copy = subst (λ (shows : Shown View). IsCopyOf shows is_answer.leading) lowest_one.is_one is_answer.leads.is_copy in
        let sequence = (groups_are_sound group).same_sequence is_answer.leading g.config (leader_shows is_answer.leader is_answer.leading is_answer.leads) in
        record {
          slot = is_answer.leader;
          there = shown_within state.sizes state.held is_answer.leader is_answer.leading is_answer.leads.is_copy;
          config = g.config;
          is_last = refl;
          is_current =
              ap (has_current g.config) (first_disk (stranger g.config) (held is_answer.leader) is_answer.leading lowest_first ∙ ap disk_of same)
              ∙ claimed_current is_answer.leader lowest_one;
          copy = is_answer.leading;
          is_copy = is_answer.leads.is_copy;
          is_standing = is_answer.leads.is_standing;
          late = omega (arith, sequence);
        };
  }
