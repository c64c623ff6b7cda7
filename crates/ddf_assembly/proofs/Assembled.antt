-- A group is assembled as it is to be: so it can be recovered, and where nothing is absent and nothing lags it is settled.
use Rattle.std.proofs.Common.{◌≡◌, ℕ, Bool, true, false, not, eqb, nat_eq, List, [], ◌∷◌, length, map, Option, Some, None, Result, Ok, Err, refl, ap, sym, ◌∙◌, subst, ⊎_elim, arith}
use Rattle.std.proofs.lemmas.Bool.{and_parts, eq-eqb, eqb-true}
use Rattle.std.specs.Prelude.{IfSome, filter, filter_map, slice_get}
use Rattle.std.specs.List.{AllByRecursion, IsDistinct, cons_option, list_any}
use Rattle.std.specs.Option.{option_map_or}
use Rattle.std.specs.Str.{bytes_eq}
use Rattle.std.specs.Cmp.Derive.{one_truth}
use Rattle.ddf_lemmas.proofs.Lists.{all_from, all_weaken, bytes_same, filter_get, filter_none, filter_pass}
use Rattle.ddf_lemmas.proofs.Tests.{all_three}
use Rattle.ddf_tables.specs.declared.disks.DiskEntry.{DiskEntry}
use Rattle.ddf_config.specs.declared.member.Member.{Member}
use Rattle.ddf_config.specs.declared.seat.Seat.{Seat}
use Rattle.ddf_config.specs.Configuration.{Configuration}
use Rattle.ddf_config.specs.Members.{is_current}
use Rattle.ddf_copy.specs.declared.copy.DiskCopy.{DiskCopy}
use Rattle.ddf_copy.specs.declared.newest_copy.Newest.{Newest}
use Rattle.ddf_copy.specs.declared.newest_copy.Newest.TheVariants as newests
use Rattle.ddf_copy.specs.Copies.{standing_copy}
use Rattle.ddf_copy.specs.Written.{CanBeCopy}
use Rattle.ddf_view.specs.Readable.{DoNamesDiffer}
use Rattle.ddf_view.specs.Reading.{disks_in, member_entry_in, read}
use Rattle.ddf_view.specs.Shows.{shows}
use Rattle.ddf_view.specs.View.{View, lists_current, lists_itself, view_of}
use Rattle.ddf_view.proofs.Tests.{and_three, same_bytes}
use Rattle.ddf_group.specs.declared.shown.Shown.{Shown}
use Rattle.ddf_group.specs.declared.answer.Assembled.{Assembled as Found}
use Rattle.ddf_group.specs.declared.answer.Assembly.{Assembly}
use Rattle.ddf_group.specs.Assembled.{UpToMemory as FoundUpToMemory, absent, assembled, assembled_as, assembled_group, config_of, has_config, has_reference, is_absent, lagging, leading_views as views_leading, unless_contradicted}
use Rattle.ddf_group.specs.Choice.{chosen}
use Rattle.ddf_group.specs.Names.{IsNamed}
use Rattle.ddf_group.specs.Conflicts.{contradiction, has_two, sequence_of}
use Rattle.ddf_group.specs.Shown.{shown_of}
use Rattle.ddf_group.specs.Slots.{claimed, claims, claims_by, leaders, leading_view, leads as leads_at, lists_disk_of, none_later, numbers, sequence_in, shows_group, slot_at, view_in}
use Rattle.ddf_group.proofs.Named.{named_at as slot_named}
use Rattle.ddf_rewrite.proofs.Lists.{all_at, all_mapped, some_same}
use Rattle.ddf_rewrite.proofs.NamesCan.{own_references}
use Rattle.ddf_rewrite.proofs.ReadCan.{same_names}
use Rattle.ddf_seats.specs.declared.seated.Seated.{Seated}
use Rattle.ddf_assembly.specs.Assembled.{HasOneNewest, IsAsGroup, IsAssembledGroup, IsNoLater}
use Rattle.ddf_seats.specs.Group.{GroupValue, seat_at, seats_of}
use Rattle.ddf_assembly.specs.Group.{group_as}
use Rattle.ddf_assembly.specs.Reading.{AreNewest}
use Rattle.ddf_seats.specs.Leading.{lags, leading_disks, leading_views, leads, some}
use Rattle.ddf_seats.specs.Seated.{seated, seated_at, seats_in, views_in}
use Rattle.ddf_assembly.proofs.AssembledLists.{among_kept, first_of_reference, some_mapped}
use Rattle.ddf_assembly.proofs.ClaimedDisks.{HasDisk, disk_at, disks_have, found_twice, has_disk, own_disk, own_is, own_view, seats_are, seats_rise, view_at}
use Rattle.ddf_assembly.proofs.ClaimedLeaders.{HasFirst, alone, IsSeen, claimed_view, has_first, lead_alike, leader_parts, leader_view, none_above, seen_alike, shows_by}
use Rattle.ddf_assembly.proofs.LeftBefore.{shown_at}
use Rattle.ddf_assembly.proofs.LeftMembers.{IsCurrentIn, lists_from, read_current}
use Rattle.ddf_assembly.proofs.Named.{shown_named}
use Rattle.ddf_assembly.proofs.SettledLeaders.{leaders_claimed, lowest_leads, none_claimed}
use Rattle.ddf_assembly.proofs.SettledSeats.{Rise, filter_rises, level_on, same_group, same_sequence}

-- ---- the group

module _ (newest : List (Option Newest)) (are : AreNewest newest) (guid : List ℕ) (none : contradiction (map shown_of newest) guid ≡ None) where
  abbrev slots : List Shown
  slots = map shown_of newest

  abbrev seats : List ℕ
  seats = claimed slots guid

  abbrev config : Configuration
  config = config_of slots guid

  abbrev group : GroupValue
  group = record {
    config = config;
    seats = seats_of newest seats;
    absent = absent slots seats config.members;
    lagging = lagging slots seats config;
    newest = newest;
  }

  in_group : config.group ≡ guid
  unfolding config_of read
  in_group = refl

  at_sequence : config.sequence ≡ sequence_of slots guid
  unfolding config_of read
  at_sequence = refl

  -- ---- a slot that is claimed

  has : (slot : ℕ) → claims slots guid slot ≡ true → HasDisk newest slot
  has slot h = let view = claimed_view slots guid slot h in has_disk newest slot are view.0 view.1

  module _ (slot : ℕ) (h : claims slots guid slot ≡ true) where
    abbrev copy : DiskCopy
    copy = (has slot h).copy

    -- The slot is of the sequence number of its copy.
    sequence_is : sequence_in (slot_at slots slot) ≡ copy.header.sequence
    unfolding view_of
    sequence_is = ap (λ (found : Option View). option_map_or (λ view. view.sequence) found 0) (own_view newest slot (has slot h))

    -- Its disk leads where it does.
    disk_leads : leads_at slots guid slot ≡ true → leads config (own_disk newest slot (has slot h)) ≡ true
    unfolding view_of
    disk_leads leading =
        let own = leader_view slots (shown_named newest are) guid none slot leading in
        let says : own.view ≡ view_of copy = some_same own.is_shown (own_view newest slot (has slot h)) in
        let named : guid ≡ own.view.group = same_bytes guid own.view.group own.in_group in
        let of : copy.header.guid ≡ config.group = sym (in_group ∙ named ∙ ap (λ (view : View). view.group) says) in
        let first = has_first slots guid slot h in
        let alike = lead_alike slots guid slot first.first leading first.leading in
        all_three (bytes_eq copy.header.guid config.group) (eqb copy.header.sequence config.sequence) (lists_itself (view_of copy))
        (ap (λ (g : List ℕ). bytes_eq g config.group) of ∙ bytes_same config.group)
        (eq-eqb copy.header.sequence config.sequence (sym sequence_is ∙ alike ∙ sym first.sequence_is ∙ sym at_sequence))
        (ap (λ (view : View). lists_itself view) (sym says) ∙ own.is_listed)

    -- A disk that shows the group is on a slot that does, and its copy is no later than the leaders'.
    disk_shows : copy.header.guid ≡ config.group → lists_itself (view_of copy) ≡ true → shows_group guid (slot_at slots slot) ≡ true
    unfolding view_of
    disk_shows of listed = shows_by guid (slot_at slots slot) (view_of copy) (own_view newest slot (has slot h)) listed (ap (bytes_eq guid) (of ∙ in_group) ∙ bytes_same guid)

    first_sequence : (first : HasFirst slots guid) → sequence_in (slot_at slots first.first) ≡ config.sequence
    first_sequence first = sym first.sequence_is ∙ sym at_sequence

    no_later : IsNoLater group (own_disk newest slot (has slot h))
    no_later = λ of listed.
        let first = has_first slots guid slot h in
        let below = none_above slots guid (sequence_in (slot_at slots first.first)) (leader_parts slots guid first.first first.leading).1 slot (disk_shows of listed) in
        omega (arith, below, sequence_is, first_sequence first)

    -- The slot leads where its disk does.
    slot_leads : leads config (own_disk newest slot (has slot h)) ≡ true → leads_at slots guid slot ≡ true
    slot_leads leading =
        let parts = and_three (bytes_eq copy.header.guid config.group) (eqb copy.header.sequence config.sequence) (lists_itself (view_of copy)) leading in
        let shown = disk_shows (same_bytes copy.header.guid config.group parts.0) parts.2 in
        let first = has_first slots guid slot h in
        let alike : sequence_in (slot_at slots first.first) ≡ sequence_in (slot_at slots slot) = first_sequence first ∙ sym (eqb-true copy.header.sequence config.sequence parts.1) ∙ sym sequence_is in
        let none_over = subst (λ (n : ℕ). none_later slots guid n ≡ true) alike (leader_parts slots guid first.first first.leading).1 in
        rw (shown, none_over) refl

    -- The slot is seen by its disk.
    seen : IsSeen (leads_at slots guid) (leads config) (disk_at newest) (view_at newest) (λ (disk : Seated). view_of disk.copy) slot
    seen = record {
      one = own_disk newest slot (has slot h);
      is_one = own_is newest slot (has slot h);
      is_seen = own_view newest slot (has slot h);
      agrees = one_truth (leads config (own_disk newest slot (has slot h))) (leads_at slots guid slot) slot_leads disk_leads;
    }

  -- ---- the claimed slots

  all_claimed : AllByRecursion (λ slot. claims slots guid slot ≡ true) seats
  unfolding claimed
  all_claimed = filter_pass (claims slots guid) (numbers slots)

  have : AllByRecursion (HasDisk newest) seats
  have = all_weaken (λ slot. claims slots guid slot ≡ true) (HasDisk newest) has seats all_claimed

  -- The disks of the seats are those of the claimed slots.
  disks_are : seated group ≡ filter_map (disk_at newest) seats
  unfolding seated
  disks_are = found_twice (seated_at newest) (seat_at newest) seats

  -- Disks of claimed slots have what each has.
  all_have : (P : Seated → Type 0) → ((slot : ℕ) (h : claims slots guid slot ≡ true) → P (own_disk newest slot (has slot h))) → AllByRecursion P (seated group)
  all_have P each =
      subst (λ (disks : List Seated). AllByRecursion P disks) (sym disks_are)
      (disks_have newest P seats
      (all_weaken (λ slot. claims slots guid slot ≡ true) (λ slot. (one : HasDisk newest slot) × P (own_disk newest slot one)) (λ slot h. (has slot h, each slot h)) seats all_claimed))

  -- ---- the leaders

  views_same : leading_views group ≡ views_leading slots guid
  unfolding leading_disks claimed leaders
  views_same =
      ap (λ (disks : List Seated). views_in (filter (leads config) disks)) disks_are
      ∙ seen_alike (leads_at slots guid) (claims slots guid) (leads config) (disk_at newest) (view_at newest) (λ (disk : Seated). view_of disk.copy) seen
      (numbers slots) (leaders_claimed slots (shown_named newest are) guid none)

  config_read : read config.group config.sequence (leading_views group) ≡ config
  unfolding config_of read
  config_read = ap (λ (views : List View). read guid (sequence_of slots guid) views) views_same

  first_leads : (first : ℕ) (rest : List ℕ) → leaders slots guid ≡ first ∷ rest → leads_at slots guid first ≡ true
  unfolding leaders
  first_leads first rest e = (subst (λ (all : List ℕ). AllByRecursion (λ slot. leads_at slots guid slot ≡ true) all) e (filter_pass (leads_at slots guid) (numbers slots))).0

  some_by : (leading : List ℕ) → leaders slots guid ≡ leading → some (seated group) ≡ true → some (leading_disks group) ≡ true
  unfolding claimed leaders
  some_by [] e seated_some =
      let no_seats : seats ≡ [] = filter_none (claims slots guid) (numbers slots) (none_claimed slots (shown_named newest are) guid none e) in
      let no_disks : seated group ≡ [] = disks_are ∙ ap (λ (some_slots : List ℕ). filter_map (disk_at newest) some_slots) no_seats in
      absurd (let nothing : some {X = Seated} [] ≡ true = subst (λ (disks : List Seated). some disks ≡ true) no_disks seated_some in cc)
  some_by (first ∷ rest) e seated_some =
      let own = leader_view slots (shown_named newest are) guid none first (first_leads first rest e) in
      some_mapped (λ (disk : Seated). view_of disk.copy) (leading_disks group) own.view (filter_map (λ slot. view_in (slot_at slots slot)) rest)
      (views_same
      ∙ ap (λ (all : List ℕ). filter_map (λ slot. view_in (slot_at slots slot)) all) e
      ∙ ap (λ (found : Option View). cons_option found (filter_map (λ slot. view_in (slot_at slots slot)) rest)) own.is_shown)

  -- ---- seats that don't lag

  -- A disk on a seat that doesn't lag is as the group is.
  as_group : (i slot : ℕ) → slice_get seats i ≡ Some slot → (one : HasDisk newest slot) → lags group (own_disk newest slot one) ≡ false → IsAsGroup group (own_disk newest slot one)
  as_group i slot at one kept = by (has_config config (slot_at slots slot)) refl
    where
      by : (b : Bool) → has_config config (slot_at slots slot) ≡ b → IsAsGroup group (own_disk newest slot one)
      by false e =
          let among : lags group (own_disk newest slot one) ≡ true = among_kept (λ (n : ℕ). not (has_config config (slot_at slots n))) seats i slot at (ap not e) in
          absurd (let no : true ≡ false = sym among ∙ kept in cc)
      by true e =
          let level = level_on group are slot e in
          let found : newests.Level level.copy ≡ one.found = let same : Some (newests.Level level.copy) ≡ Some one.found = some_same level.is_newest one.is_found in cc in
          let copy : level.copy ≡ one.copy = let stands : Some level.copy ≡ Some one.copy = subst (λ (n : Newest). standing_copy n ≡ Some one.copy) (sym found) one.stands in cc in
          record {
            is_newest = subst (λ (c : DiskCopy). slice_get newest slot ≡ Some (Some (newests.Level c))) copy level.is_newest;
            is_shown = subst (λ (c : DiskCopy). shows config (view_of c) ≡ true) copy level.is_shown;
          }

  unless_lagging : AllByRecursion (λ disk. lags group disk ≡ false → IsAsGroup group disk) (seated group)
  unless_lagging =
      subst (λ (disks : List Seated). AllByRecursion (λ disk. lags group disk ≡ false → IsAsGroup group disk) disks) (sym disks_are)
      (disks_have newest (λ disk. lags group disk ≡ false → IsAsGroup group disk) seats
      (all_from (λ slot. (one : HasDisk newest slot) × (lags group (own_disk newest slot one) ≡ false → IsAsGroup group (own_disk newest slot one))) seats
      (λ i slot at. let one = all_at (HasDisk newest) seats i slot have at in (one, as_group i slot at one))))

  -- ---- what is absent

  named_at : (leading : List ℕ) → leaders slots guid ≡ leading → IsDistinct nat_eq (map (λ (disk : DiskEntry). disk.reference) (disks_in (filter_map (λ slot. view_in (slot_at slots slot)) leading)))
  unfolding leaders IsDistinct
  named_at [] e = tt
  named_at (first ∷ rest) e =
      let own = leader_view slots (shown_named newest are) guid none first (first_leads first rest e) in
      let names : IsNamed (slot_at slots first) = slot_named slots (shown_named newest are) first in
      let apart : DoNamesDiffer (own.view ∷ []) = subst (λ (found : Option View). IfSome found (λ view. DoNamesDiffer (view ∷ []))) own.is_shown names in
      subst (λ (found : Option View). IsDistinct nat_eq (map (λ (disk : DiskEntry). disk.reference) (disks_in (cons_option found (filter_map (λ slot. view_in (slot_at slots slot)) rest))))) (sym own.is_shown)
      apart.references

  references_apart : IsDistinct nat_eq (map (λ (entry : ℕ × Member). entry.0) config.members)
  unfolding config_of read
  references_apart =
      let views = views_leading slots guid in
      subst (λ (l : List ℕ). IsDistinct nat_eq l) (sym (same_names (member_entry_in views) (λ (disk : DiskEntry). disk.reference) (λ disk. refl) (disks_in views))) (named_at (leaders slots guid) refl)

  current_each : (members : List (ℕ × Member)) → ((i : ℕ) (entry : ℕ × Member) → slice_get members i ≡ Some entry → is_absent slots seats entry ≡ true → is_current config.members entry.0 ≡ true)
      → AllByRecursion (λ reference. is_current config.members reference ≡ true) (absent slots seats members)
  current_each members each =
      all_mapped (λ (reference : ℕ). is_current config.members reference ≡ true) (λ (entry : ℕ × Member). entry.0) (filter (is_absent slots seats) members)
      (all_from (λ (entry : ℕ × Member). is_current config.members entry.0 ≡ true) (filter (is_absent slots seats) members)
      (λ k entry at.
      let passes = all_at (λ (one : ℕ × Member). is_absent slots seats one ≡ true) (filter (is_absent slots seats) members) k entry (filter_pass (is_absent slots seats) members) at in
      let place = filter_get (is_absent slots seats) members k entry at in
      each place.0 entry place.1 passes))

  -- What is absent are current members.
  absent_current : AllByRecursion (λ reference. is_current config.members reference ≡ true) group.absent
  absent_current = current_each config.members (λ i entry at passes.
      let parts = and_parts (not entry.1.missing) (not (list_any (has_reference slots entry.0) seats)) passes in
      ap (λ (found : Option Member). elim found [ None ↦ false | Some member ↦ not member.missing ]) (first_of_reference config.members references_apart i entry at) ∙ parts.0)

  -- ---- a seat whose copy shows the configuration

  -- The disk of a slot that is claimed is a current member.
  current_by : (leading : List ℕ) → leaders slots guid ≡ leading → (slot : ℕ) (h : claims slots guid slot ≡ true)
      → IsCurrentIn config.members (view_of (copy slot h)).guid (view_of (copy slot h)).reference
  unfolding config_of
  current_by [] e slot h = absurd (let no : true ≡ false = sym h ∙ none_claimed slots (shown_named newest are) guid none e slot in cc)
  current_by (first ∷ rest) e slot h =
      let leading : leads_at slots guid first ≡ true = first_leads first rest e in
      let own = leader_view slots (shown_named newest are) guid none first leading in
      let led : leading_view slots guid ≡ Some own.view = lowest_leads slots (shown_named newest are) guid none first rest e ∙ own.is_shown in
      let others : List View = filter_map (λ one. view_in (slot_at slots one)) rest in
      let views : views_leading slots guid ≡ own.view ∷ others =
      ap (λ (all : List ℕ). filter_map (λ one. view_in (slot_at slots one)) all) e ∙ ap (λ (found : Option View). cons_option found others) own.is_shown in
      let listed : lists_current own.view (view_of (copy slot h)).guid (view_of (copy slot h)).reference ≡ true =
      sym (ap (λ (leader : Option View). claims_by leader (slot_at slots slot)) led ∙ ap (λ (found : Option View). option_map_or (lists_disk_of own.view) found false) (own_view newest slot (has slot h))) ∙ h in
      subst (λ (all : List View). IsCurrentIn (read guid (sequence_of slots guid) all).members (view_of (copy slot h)).guid (view_of (copy slot h)).reference) (sym views)
      (read_current guid (sequence_of slots guid) own.view others (view_of (copy slot h)).guid (view_of (copy slot h)).reference listed)

  -- Where it shows the configuration its slot leads, so the two copies there don't differ.
  one_newest : (slot : ℕ) (h : claims slots guid slot ≡ true) → HasOneNewest group (own_disk newest slot (has slot h))
  unfolding shown_of
  one_newest slot h shown primary secondary at =
      let own = copy slot h in
      let view = view_of own in
      let listed = lists_from config view view.guid view.reference shown (own_references config references_apart) (current_by (leaders slots guid) refl slot h) in
      let leading =
      slot_leads slot h
      (all_three (bytes_eq own.header.guid config.group) (eqb own.header.sequence config.sequence) (lists_itself view)
      (ap (λ (g : List ℕ). bytes_eq g config.group) (same_group config own shown) ∙ bytes_same config.group)
      (eq-eqb own.header.sequence config.sequence (same_sequence config own shown)) listed) in
      let differ = shown_at newest slot (Some (newests.TwoDiffer primary secondary)) at in
      let two : has_two (slot_at slots slot) ≡ true = ap has_two differ in
      let one = alone slots (shown_named newest are) guid none slot leading in
      let no : true ≡ false = sym two ∙ one in
      cc

  -- ---- all of it

  rise : Rise seats
  unfolding claimed
  rise = filter_rises (claims slots guid) 0 (length slots)

  -- It is assembled as it is to be.
  pub is_assembled : IsAssembledGroup group
  is_assembled = record {
    slots_rise = seats_rise newest seats rise;
    are_seated = ap seats_in disks_are ∙ seats_are newest seats have;
    are_copies = all_have (λ disk. CanBeCopy disk.copy) (λ slot h. (has slot h).is_copy);
    is_read = config_read;
    some_lead = some_by (leaders slots guid) refl;
    none_later = all_have (IsNoLater group) no_later;
    unless_lags = unless_lagging;
    have_one = all_have (HasOneNewest group) one_newest;
    are_current = absent_current;
  }

-- ---- what is answered

module _ (newest : List (Option Newest)) (are : AreNewest newest) where
  -- What is found of a group that nothing contradicts is assembled as it is to be.
  by_contradiction : (guid : List ℕ) (fault : Option Assembly) → contradiction (map shown_of newest) guid ≡ fault
      → (found : Found) → unless_contradicted (map shown_of newest) guid fault ≡ Ok found → IsAssembledGroup (group_as newest found)
  unfolding assembled_as
  by_contradiction guid None e found h =
      let same : assembled_as (map shown_of newest) (claimed (map shown_of newest) guid) (config_of (map shown_of newest) guid) ≡ found = cc in
      subst (λ (one : Found). IsAssembledGroup (group_as newest one)) same (is_assembled newest are guid e)
  by_contradiction guid (Some fault) e found h = absurd cc

  -- So is what is found of the group that is meant.
  by_choice : (choice : Result (List ℕ) Assembly) (found : Found) → assembled_group (map shown_of newest) choice ≡ Ok found → IsAssembledGroup (group_as newest found)
  by_choice (Ok guid) found h = by_contradiction guid (contradiction (map shown_of newest) guid) refl found h
  by_choice (Err fault) found h = absurd cc

  -- So is what newest copies give.
  found_assembled : (named : Option (List ℕ)) (found : Found) → assembled (map shown_of newest) named ≡ Ok found → IsAssembledGroup (group_as newest found)
  unfolding assembled
  found_assembled named found h = by_choice (chosen (map shown_of newest) named) found h

  -- So is what is answered, with its seats and its newest copies.
  pub answer_assembled : (named : Option (List ℕ)) (found : Found) → FoundUpToMemory (Ok found) (assembled (map shown_of newest) named)
      → (seats : List Seat) (kept : List (Option Newest)) → seats ≡ seats_of newest found.seats → kept ≡ newest
      → IsAssembledGroup (record { config = found.config; seats = seats; absent = found.absent; lagging = found.lagging; newest = kept })
  answer_assembled named found is seats kept same_seats same_newest =
      rw (same_seats, same_newest) (⊎_elim (λ same. found_assembled named found (sym same)) (λ none. absurd cc) is)
