-- A settled group that was assembled: its leaders, its claims, and what its slots list.
use Rattle.std.proofs.Common.{◌≡◌, ℕ, zero, suc, ◌<◌, ◌≤◌, true, false, not, ◌||◌, nat_le, List, [], ◌∷◌, length, map, Option, Some, None, Result, Ok, Err, refl, ap, sym, ◌∙◌, subst, arith, zero-add}
use Rattle.std.proofs.lemmas.Bool.{and_parts, false≢true, not-false, cond-true}
use Rattle.std.proofs.lemmas.Option.{slice_get-map}
use Rattle.std.specs.Prelude.{filter_map, option_map, slice_get, unwrap_or}
use Rattle.std.specs.List.{AllByRecursion}
use Rattle.std.specs.Option.{option_and_then, option_map_or}
use Rattle.std.specs.Str.{bytes_eq}
use Rattle.ddf_lemmas.proofs.Lists.{all_fail, all_weaken, bytes_same, filter_pass, filtered_passes, found_place, in_map, list_all_read}
use Rattle.ddf_copy.specs.declared.copy.DiskCopy.{DiskCopy}
use Rattle.ddf_copy.specs.declared.newest_copy.Newest.{Newest}
use Rattle.ddf_copy.specs.declared.newest_copy.Newest.TheVariants as newests
use Rattle.ddf_config.specs.declared.seat.Seat.{Seat}
use Rattle.ddf_config.specs.Configuration.{Configuration}
use Rattle.ddf_view.specs.Reading.{read}
use Rattle.ddf_view.specs.Shows.{shows}
use Rattle.ddf_view.specs.View.{View, lists_itself, view_of}
use Rattle.ddf_view.proofs.Agreement.{shown_from}
use Rattle.ddf_group.specs.declared.answer.Assembly.{Assembly}
use Rattle.ddf_group.specs.declared.shown.Shown.{Shown}
use Rattle.ddf_group.specs.declared.shown.Shown.TheVariants.{Level, Nothing}
use Rattle.ddf_group.specs.Assembled.{absent, assembled_as, assembled_group, config_of, has_config, lagging, unless_contradicted}
use Rattle.ddf_group.specs.Conflicts.{contradiction, sequence_of}
use Rattle.ddf_group.specs.Shown.{shown_of}
use Rattle.ddf_group.specs.Slots.{claimed, claims, claims_by, group_shown, leaders, lists_disk_of, leading_view, leads, none_later, numbers, sequence_in, shows_group, slot_at, view_in}
use Rattle.ddf_rewrite.proofs.Lists.{all_at, get_range}
use Rattle.ddf_seats.specs.declared.seated.Seated.{Seated}
use Rattle.ddf_seats.specs.Group.{GroupValue, seat_of}
use Rattle.ddf_assembly.specs.Group.{group_as, group_or_fault}
use Rattle.ddf_assembly.specs.Reading.{AreNewest}
use Rattle.ddf_seats.specs.Seated.{seated, seated_at, slots_in}
use Rattle.ddf_assembly.specs.Settled.{IsSettledGroup}
use Rattle.ddf_assembly.proofs.LeftMembers.{AreApart, IsCurrentIn, current_from, lists_from}
use Rattle.ddf_assembly.proofs.Named.{shown_named}
use Rattle.ddf_assembly.proofs.SettledLeaders.{leaders_claimed, none_claimed}
use Rattle.ddf_assembly.proofs.SettledLists.{all_among, find_kept, find_none}
use Rattle.ddf_assembly.proofs.LevelDisks.{AreLevelOn, disks_are, level_disks, seats_are}
use Rattle.ddf_assembly.proofs.SettledSeats.{IsLevelOn, level_on}

-- ---- slots

-- What a slot shows is what its newest copy does.
pub shown_at : (newest : List (Option Newest)) (slot : ℕ) (one : Option Newest) → slice_get newest slot ≡ Some one → slot_at (map shown_of newest) slot ≡ shown_of one
shown_at newest slot one at =
    ap (λ (found : Option Shown). unwrap_or found Nothing) (slice_get-map shown_of newest slot)
    ∙ ap (λ (found : Option (Option Newest)). unwrap_or (option_map shown_of found) Nothing) at

-- So do two level copies.
pub level_at : (newest : List (Option Newest)) (slot : ℕ) (copy : DiskCopy) → slice_get newest slot ≡ Some (Some (newests.Level copy)) → slot_at (map shown_of newest) slot ≡ Level (view_of copy)
unfolding shown_of
level_at newest slot copy at = shown_at newest slot (Some (newests.Level copy)) at

-- A slot that shows anything is one of the slots.
pub view_within : (slots : List Shown) (slot : ℕ) (view : View) → view_in (slot_at slots slot) ≡ Some view → slot < length slots
view_within [] slot view h = absurd cc
view_within (shown ∷ slots) zero view h = omega arith
view_within (shown ∷ slots) (suc slot) view h = let below = view_within slots slot view h in omega (arith, below)

pub shows_within : (group : List ℕ) (slots : List Shown) (slot : ℕ) → shows_group group (slot_at slots slot) ≡ true → slot < length slots
shows_within group [] slot h = absurd cc
shows_within group (shown ∷ slots) zero h = omega arith
shows_within group (shown ∷ slots) (suc slot) h = let below = shows_within group slots slot h in omega (arith, below)

-- A slot that is claimed is one of the slots.
pub claims_within : (slots : List Shown) (group : List ℕ) (slot : ℕ) → claims slots group slot ≡ true → slot < length slots
claims_within slots group slot h = by (view_in (slot_at slots slot)) refl
  where
    none : (led : Option View) → claims_by led (slot_at slots slot) ≡ true → view_in (slot_at slots slot) ≡ None → slot < length slots
    none None at e = absurd (false≢true at)
    none (Some view) at e = absurd (false≢true (sym (ap (λ (one : Option View). option_map_or (lists_disk_of view) one false) e) ∙ at))

    by : (view : Option View) → view_in (slot_at slots slot) ≡ view → slot < length slots
    by None e = none (leading_view slots group) h e
    by (Some view) e = view_within slots slot view e

-- What a slot shows whose copies show a configuration, where its disk is a current member.
pub group_own : (config : Configuration) (view : View) → shows config view ≡ true → AreApart config.members → IsCurrentIn config.members view.guid view.reference → group_shown (Level view) ≡ Some config.group
group_own config view shown apart current =
    ap (option_map (λ (one : View). one.group)) (cond-true (lists_itself view) (Some view) None (lists_from config view view.guid view.reference shown apart current))
    ∙ ap (λ (group : List ℕ). Some group) (shown_from config view shown).group

-- A slot shows the group of a configuration that its copies show, where its disk is a current member.
pub shows_own : (config : Configuration) (view : View) → shows config view ≡ true → AreApart config.members → IsCurrentIn config.members view.guid view.reference → shows_group config.group (Level view) ≡ true
shows_own config view shown apart current =
    let itself : lists_itself view ≡ true = lists_from config view view.guid view.reference shown apart current in
    ap (λ (found : Option View). option_map_or (bytes_eq config.group) (option_map (λ (one : View). one.group) found) false) (cond-true (lists_itself view) (Some view) None itself)
    ∙ ap (λ (group : List ℕ). bytes_eq config.group group) (shown_from config view shown).group ∙ bytes_same config.group

-- ---- a group that was found

-- Newest copies give this group, of this GUID, and nothing contradicts it.
pub record IsFoundAs (guid : List ℕ) (group : GroupValue) : Type 0 where
  pub not_contradicted : contradiction (map shown_of group.newest) guid ≡ None
  pub is_group : group_as group.newest (assembled_as (map shown_of group.newest) (claimed (map shown_of group.newest) guid) (config_of (map shown_of group.newest) guid)) ≡ group

module _ (newest : List (Option Newest)) (group : GroupValue) where
  abbrev IsFoundIn : List ℕ → Type 0
  IsFoundIn guid = (contradiction (map shown_of newest) guid ≡ None) × (group_as newest (assembled_as (map shown_of newest) (claimed (map shown_of newest) guid) (config_of (map shown_of newest) guid)) ≡ group)

  found_unless : (guid : List ℕ) (fault : Option Assembly) → contradiction (map shown_of newest) guid ≡ fault → group_or_fault newest (unless_contradicted (map shown_of newest) guid fault) ≡ Ok group → IsFoundIn guid
  found_unless guid None e h = (e, cc)
  found_unless guid (Some fault) e h = absurd cc

  -- A group is found of the GUID that is chosen.
  pub found_by : (choice : Result (List ℕ) Assembly) → group_or_fault newest (assembled_group (map shown_of newest) choice) ≡ Ok group → (guid : List ℕ) × (choice ≡ Ok guid) × IsFoundIn guid
  found_by (Ok guid) h = (guid, refl, found_unless guid (contradiction (map shown_of newest) guid) refl h)
  found_by (Err fault) h = absurd cc

-- A disk of the group is on a slot that the group claims, which shows the configuration in two level copies.
pub record IsClaimedDisk (group : GroupValue) (guid : List ℕ) (disk : Seated) : Type 0 where
  pub is_claimed : claims (map shown_of group.newest) guid disk.seat.slot ≡ true
  pub is_seat : disk.seat ≡ seat_of disk.seat.slot disk.copy
  pub is_newest : slice_get group.newest disk.seat.slot ≡ Some (Some (newests.Level disk.copy))
  pub is_shown : shows group.config (view_of disk.copy) ≡ true

module _ (group : GroupValue) (guid : List ℕ) where
  claimed_disks : (some : List ℕ) (are : AreLevelOn group some) → AllByRecursion (λ (slot : ℕ). claims (map shown_of group.newest) guid slot ≡ true) some → AllByRecursion (IsClaimedDisk group guid) (level_disks group some are)
  claimed_disks [] are all = tt
  claimed_disks (slot ∷ some) are all =
      (record { is_claimed = all.0; is_seat = refl; is_newest = are.0.is_newest; is_shown = are.0.is_shown }, claimed_disks some are.1 all.1)

  slots_of_disks : (some : List ℕ) (are : AreLevelOn group some) → slots_in (level_disks group some are) ≡ some
  slots_of_disks [] are = refl
  slots_of_disks (slot ∷ some) are = ap (λ (others : List ℕ). slot ∷ others) (slots_of_disks some are.1)

module _ (group : GroupValue) (are : AreNewest group.newest) (settled : IsSettledGroup group) (guid : List ℕ) (found : IsFoundAs guid group) where
  abbrev slots : List Shown
  slots = map shown_of group.newest

  config_is : config_of slots guid ≡ group.config
  unfolding assembled_as
  config_is = ap (λ (one : GroupValue). one.config) found.is_group

  -- The group is the one that was found.
  pub group_is : group.config.group ≡ guid
  unfolding config_of read
  group_is = sym (ap (λ (one : Configuration). one.group) config_is)

  -- Its sequence number is that of its leaders.
  sequence_is : sequence_of slots guid ≡ group.config.sequence
  unfolding config_of read
  sequence_is = ap (λ (one : Configuration). one.sequence) config_is

  none_lag : lagging slots (claimed slots guid) group.config ≡ []
  unfolding assembled_as
  none_lag = ap (lagging slots (claimed slots guid)) (sym config_is) ∙ ap (λ (one : GroupValue). one.lagging) found.is_group ∙ settled.none_lags

  pub none_gone : absent slots (claimed slots guid) group.config.members ≡ []
  unfolding assembled_as
  none_gone = ap (λ (one : Configuration). absent slots (claimed slots guid) one.members) (sym config_is) ∙ ap (λ (one : GroupValue). one.absent) found.is_group ∙ settled.none_absent

  -- Each slot that it claims is level.
  level : AreLevelOn group (claimed slots guid)
  level =
      all_weaken (λ (slot : ℕ). not (has_config group.config (slot_at slots slot)) ≡ false) (IsLevelOn group)
      (λ slot kept. level_on group are slot (not-false (has_config group.config (slot_at slots slot)) kept)) (claimed slots guid)
      (all_fail (λ (slot : ℕ). not (has_config group.config (slot_at slots slot))) (claimed slots guid) none_lag)

  disks_are_level : seated group ≡ level_disks group (claimed slots guid) level
  unfolding seated assembled_as
  disks_are_level =
      ap (λ (some : List Seat). filter_map (seated_at group.newest) some) (sym (ap (λ (one : GroupValue). one.seats) found.is_group) ∙ seats_are group (claimed slots guid) level)
      ∙ disks_are group (claimed slots guid) level

  -- Its disks are on the slots that it claims.
  pub disks_claimed : AllByRecursion (IsClaimedDisk group guid) (seated group)
  unfolding claimed
  disks_claimed = subst (λ (disks : List Seated). AllByRecursion (IsClaimedDisk group guid) disks) (sym disks_are_level) (claimed_disks group guid (claimed slots guid) level (filter_pass (claims slots guid) (numbers slots)))

  pub slots_claimed : slots_in (seated group) ≡ claimed slots guid
  slots_claimed = ap slots_in disks_are_level ∙ slots_of_disks group guid (claimed slots guid) level

  -- Each slot that it claims is that of a disk.
  pub claimed_disk : (slot : ℕ) → slot < length slots → claims slots guid slot ≡ true → (k : ℕ) × (disk : Seated) × (slice_get (seated group) k ≡ Some disk) × (disk.seat.slot ≡ slot)
  unfolding claimed
  claimed_disk slot below h =
      let there = get_range 0 (length slots) slot below in
      let number : slice_get (numbers slots) slot ≡ Some slot = there.2 ∙ ap (λ (n : ℕ). Some n) (there.1 ∙ zero-add slot) in
      let kept = filtered_passes (claims slots guid) (numbers slots) slot slot number h in
      let also : slice_get (slots_in (seated group)) kept.0 ≡ Some slot = ap (λ (some : List ℕ). slice_get some kept.0) slots_claimed ∙ kept.1 in
      let disk = in_map (λ (one : Seated). one.seat.slot) (seated group) kept.0 slot also in
      (kept.0, disk.0, disk.1, disk.2)

  -- ---- its leaders

  leaders_level : AreLevelOn group (leaders slots guid)
  unfolding leaders claimed
  leaders_level = all_among (IsLevelOn group) (leads slots guid) (claims slots guid) (numbers slots) (leaders_claimed slots (shown_named group.newest are) guid found.not_contradicted) level

  -- The lowest leader shows the configuration.
  leader_shows : (leading : List ℕ) → leaders slots guid ≡ leading → AreLevelOn group leading → (view : View) → leading_view slots guid ≡ Some view → shows group.config view ≡ true
  unfolding leaders leading_view
  leader_shows [] e all view led =
      let none : leading_view slots guid ≡ None = ap (λ (lowest : Option ℕ). option_and_then (λ slot. view_in (slot_at slots slot)) lowest) (find_none (leads slots guid) (numbers slots) e) in
      absurd cc
  leader_shows (first ∷ rest) e all view led =
      let lowest : leading_view slots guid ≡ view_in (slot_at slots first) = ap (λ (lowest : Option ℕ). option_and_then (λ slot. view_in (slot_at slots slot)) lowest) (find_kept (leads slots guid) (numbers slots) first rest e) in
      let own : view_in (slot_at slots first) ≡ Some (view_of all.0.copy) = ap view_in (level_at group.newest first all.0.copy all.0.is_newest) in
      let same : Some (view_of all.0.copy) ≡ Some view = sym (lowest ∙ own) ∙ led in
      let is : view_of all.0.copy ≡ view = cc in
      subst (λ (one : View). shows group.config one ≡ true) is all.0.is_shown

  -- A slot that leads is claimed.
  pub leader_claimed : (slot : ℕ) → leads slots guid slot ≡ true → claims slots guid slot ≡ true
  unfolding leaders
  leader_claimed slot h =
      let below = shows_within guid slots slot (and_parts (shows_group guid (slot_at slots slot)) (none_later slots guid (sequence_in (slot_at slots slot))) h).0 in
      let there = get_range 0 (length slots) slot below in
      let number : slice_get (numbers slots) slot ≡ Some slot = there.2 ∙ ap (λ (n : ℕ). Some n) (there.1 ∙ zero-add slot) in
      let place = filtered_passes (leads slots guid) (numbers slots) slot slot number h in
      all_at (λ (one : ℕ). claims slots guid one ≡ true) (leaders slots guid) place.0 slot (leaders_claimed slots (shown_named group.newest are) guid found.not_contradicted) place.1

  -- The leading view, which shows the configuration.
  pub record HasLeader : Type 0 where
    pub view : View
    pub leads_all : leading_view slots guid ≡ Some view
    pub is_shown : shows group.config view ≡ true

  -- Where a slot is claimed there is a leading view.
  pub has_leader : (slot : ℕ) → claims slots guid slot ≡ true → HasLeader
  has_leader slot h = by (leading_view slots guid) refl h
    where
      by : (led : Option View) → leading_view slots guid ≡ led → claims_by led (slot_at slots slot) ≡ true → HasLeader
      by None e at = absurd (false≢true at)
      by (Some view) e at = record { view = view; leads_all = e; is_shown = leader_shows (leaders slots guid) refl leaders_level view e }

  -- The disk of a slot that is claimed is a current member.
  pub claimed_current : (disk : Seated) → IsClaimedDisk group guid disk → IsCurrentIn group.config.members (view_of disk.copy).guid (view_of disk.copy).reference
  claimed_current disk is =
      let leader = has_leader disk.seat.slot is.is_claimed in
      let view = view_of disk.copy in
      current_from group.config leader.view view.guid view.reference leader.is_shown
      (sym (ap (λ (led : Option View). claims_by led (slot_at slots disk.seat.slot)) leader.leads_all ∙ ap (claims_by (Some leader.view)) (level_at group.newest disk.seat.slot disk.copy is.is_newest)) ∙ is.is_claimed)

  -- The disk of a view that is a current member is claimed.
  pub current_claimed : (apart : AreApart group.config.members) (leader : HasLeader) (slot : ℕ) (view : View) → view_in (slot_at slots slot) ≡ Some view → IsCurrentIn group.config.members view.guid view.reference → claims slots guid slot ≡ true
  current_claimed apart leader slot view shown current =
      ap (λ (led : Option View). claims_by led (slot_at slots slot)) leader.leads_all
      ∙ by (slot_at slots slot) shown
    where
      by : (one : Shown) → view_in one ≡ Some view → claims_by (Some leader.view) one ≡ true
      by one h = rw h (lists_from group.config leader.view view.guid view.reference leader.is_shown apart current)

  -- No slot that shows the group is ahead of the configuration, where a slot is claimed.
  pub none_ahead : (slot : ℕ) → claims slots guid slot ≡ true → none_later slots guid group.config.sequence ≡ true
  unfolding leaders
  none_ahead slot h = by (leaders slots guid) refl
    where
      by : (leading : List ℕ) → leaders slots guid ≡ leading → none_later slots guid group.config.sequence ≡ true
      by [] e = absurd (false≢true (sym (none_claimed slots (shown_named group.newest are) guid found.not_contradicted e slot) ∙ h))
      by (first ∷ rest) e =
          let lowest = find_kept (leads slots guid) (numbers slots) first rest e in
          let own = (found_place (leads slots guid) (numbers slots) first lowest).2 in
          let number : sequence_in (slot_at slots first) ≡ group.config.sequence = sym (ap (λ (o : Option ℕ). option_map_or (λ n. sequence_in (slot_at slots n)) o 0) lowest) ∙ sequence_is in
          sym (ap (none_later slots guid) number) ∙ (and_parts (shows_group guid (slot_at slots first)) (none_later slots guid (sequence_in (slot_at slots first))) own).1

  pub not_ahead : (slot : ℕ) → none_later slots guid group.config.sequence ≡ true → shows_group guid (slot_at slots slot) ≡ true → sequence_in (slot_at slots slot) ≤ group.config.sequence
  not_ahead slot all shown =
      let there = get_range 0 (length slots) slot (shows_within guid slots slot shown) in
      let number : slice_get (numbers slots) slot ≡ Some slot = there.2 ∙ ap (λ (n : ℕ). Some n) (there.1 ∙ zero-add slot) in
      let passes = list_all_read (λ n. not (shows_group guid (slot_at slots n)) || nat_le (sequence_in (slot_at slots n)) group.config.sequence) (numbers slots) slot slot all number in
      let within : nat_le (sequence_in (slot_at slots slot)) group.config.sequence ≡ true = sym (ap (λ b. not b || nat_le (sequence_in (slot_at slots slot)) group.config.sequence) shown) ∙ passes in
      grind (arith, within)
