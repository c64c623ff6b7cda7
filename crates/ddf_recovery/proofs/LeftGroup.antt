-- A settled group that a step was written to is assembled again to the configuration after the change.
use Rattle.std.proofs.Common.{◌≡◌, ℕ, ◌<◌, Bool, true, false, not, ◌&&◌, ◌||◌, eqb, List, [], ◌∷◌, length, map, filter, fold, Option, Some, None, Result, Ok, Err, refl, ap, sym, ◌∙◌, subst, arith, zero-add, if◌then◌else◌, inl, inr}
use Rattle.std.proofs.lemmas.Bool.{eqb-true, false≢true}
use Rattle.std.specs.Prelude.{filter_map, option_map, slice_get}
use Rattle.std.specs.List.{AllByRecursion, list_any}
use Rattle.std.specs.Option.{option_and_then, option_map_or}
use Rattle.ddf_copy.specs.declared.copy.DiskCopy.{DiskCopy}
use Rattle.ddf_copy.specs.declared.newest_copy.Newest.{Newest}
use Rattle.ddf_copy.specs.Copies.{standing_copy}
use Rattle.ddf_config.specs.declared.member.Member.{Member}
use Rattle.ddf_config.specs.declared.refusal.Refusal.{Refusal}
use Rattle.ddf_config.specs.declared.seat.Seat.{Seat}
use Rattle.ddf_config.specs.Configuration.{Configuration}
use Rattle.ddf_config.specs.Members.{is_current}
use Rattle.ddf_plan.specs.declared.change.Change.{Change}
use Rattle.ddf_plan.specs.Same.{is_step}
use Rattle.ddf_view.specs.Reading.{read}
use Rattle.ddf_view.specs.Shows.{shows}
use Rattle.ddf_view.specs.View.{View, view_of, lists_current}
use Rattle.ddf_view.proofs.Agreement.{shown_from}
use Rattle.ddf_group.specs.declared.shown.Shown.{Shown}
use Rattle.ddf_group.specs.declared.shown.Shown.TheVariants.{Level}
use Rattle.ddf_group.specs.declared.answer.Assembly.{Assembly}
use Rattle.ddf_group.specs.declared.answer.Assembly.TheVariants.{NoGroup}
use Rattle.ddf_group.specs.Assembled.{absent, assembled, assembled_as, assembled_group, config_of, has_config, has_reference, is_absent, lagging, leading_views, unless_contradicted}
use Rattle.ddf_group.specs.Choice.{chosen, is_shown}
use Rattle.ddf_group.specs.Conflicts.{contradiction, sequence_of}
use Rattle.ddf_group.specs.Shown.{shown_of}
use Rattle.ddf_group.specs.Slots.{claimed, leaders, leads, numbers, reference_at, sequence_in, shows_group, slot_at, view_in, claims, claims_by, group_shown}
use Rattle.ddf_rewrite.specs.Before.{Before, before}
use Rattle.ddf_rewrite.specs.Changing.{CanChange}
use Rattle.ddf_rewrite.specs.Copies.{changed_copy}
use Rattle.ddf_rewrite.proofs.Fully.{changed_together}
use Rattle.ddf_rewrite.proofs.Lists.{all_at, all_mapped, get_range}
use Rattle.ddf_seats.specs.declared.fault.GroupFault.{GroupFault}
use Rattle.ddf_seats.specs.declared.fault.GroupFault.TheVariants.{SequenceSpent}
use Rattle.ddf_seats.specs.declared.seated.Seated.{Seated}
use Rattle.ddf_steps.specs.Asked.{CanBeAsked}
use Rattle.ddf_seats.specs.Group.{GroupValue, seat_at, seat_of, seats_of}
use Rattle.ddf_assembly.specs.Group.{group_as, group_of, group_or_fault}
use Rattle.ddf_assembly.specs.Reading.{AreNewest}
use Rattle.ddf_steps.specs.Ready.{group_after, is_spent, unless_spent, with_step}
use Rattle.ddf_recovery.specs.Ready.{readied}
use Rattle.ddf_seats.specs.Seated.{with_level, seated, seats_in, slots_in, views_in}
use Rattle.ddf_steps.specs.Refusing.{step_refusal}
use Rattle.ddf_assembly.specs.Settled.{IsSettledGroup}
use Rattle.ddf_steps.specs.Steps.{Step, config_after, disks_after, rewritten, stays_in, step_of}
use Rattle.ddf_assembly.proofs.LeftBefore.{IsFoundAs, found_by, group_is, level_at, none_gone, shows_within, slots_claimed, claimed_current, claimed_disk, claims_within, group_own}
use Rattle.ddf_recovery.proofs.LeftChoice.{ShowAlike, same_chosen}
use Rattle.ddf_recovery.proofs.LeftLists.{IsNoneOf, one_or_none}
use Rattle.std.specs.Str.{bytes_eq}
use Rattle.std.proofs.lemmas.Map.Keys.{any_passes_from_place}
use Rattle.ddf_lemmas.proofs.Lists.{all_fail, all_from, any_place, filter_all, filter_get, filter_pass, in_map, map_empty, mapped_at, none_kept}
use Rattle.ddf_lemmas.proofs.Options.{value_there}
use Rattle.ddf_assembly.proofs.LeftMembers.{IsCurrentIn, table_current, was_current}
use Rattle.ddf_recovery.proofs.LeftSlots.{IsLeft, IsWritten, claimed_are, leaders_are, not_contradicted, claims_other, claims_written}
use Rattle.ddf_recovery.proofs.LeftStep.{IsOf, shown_of_slot, slot_of, IsMade, apart_next, can_change, claimed_is, left, level_now, made_is, made_shows, own_reference, same_seat, same_view, stays_made, apart_before, made_current, made_guid, made_reference, shown_before, was_claimed}
use Rattle.ddf_recovery.proofs.Recovered.{settled_readied}
use Rattle.ddf_assembly.proofs.SettledHeld.{newest_kept}
use Rattle.ddf_assembly.proofs.SettledLists.{find_kept}

-- ---- lists

-- A list that has a first item begins with it.
begins : {X : Type 0} (xs : List X) (x : X) → slice_get xs 0 ≡ Some x → (rest : List X) × (xs ≡ x ∷ rest)
begins [] x at = absurd cc
begins {X = X} (y ∷ ys) x at = let same : y ≡ x = cc in (ys, ap (λ (z : X). z ∷ ys) same)

-- ---- what the new copies give

module _ (leaders_before : Before) (config : Configuration) (timestamp : ℕ) where
  views_are : (disks : List Seated) → map (λ (made : Seated). view_of made.copy) (map (rewritten leaders_before config timestamp) disks) ≡ map (λ (other : DiskCopy). view_of (changed_copy other leaders_before config timestamp)) (map (λ (disk : Seated). disk.copy) disks)
  views_are [] = refl
  views_are (disk ∷ disks) =
      ap (λ (rest : List View). view_of (rewritten leaders_before config timestamp disk).copy ∷ rest) (views_are disks)
      ∙ ap (λ (view : View). view ∷ map (λ (other : DiskCopy). view_of (changed_copy other leaders_before config timestamp)) (map (λ (one : Seated). one.copy) disks)) (same_view leaders_before config timestamp disk)

  together : (disks : List Seated) → AllByRecursion (λ (disk : Seated). CanChange disk.copy leaders_before config timestamp) disks → (some : Seated) → slice_get (map (rewritten leaders_before config timestamp) disks) 0 ≡ Some some
      → read config.group config.sequence (map (λ (made : Seated). view_of made.copy) (map (rewritten leaders_before config timestamp) disks)) ≡ config
  together [] can some at = absurd cc
  together (disk ∷ disks) can some at =
      ap (read config.group config.sequence) (views_are (disk ∷ disks))
      ∙ changed_together disk.copy leaders_before config timestamp can.0 (map (λ (one : Seated). one.copy) disks)
      (all_mapped (λ (other : DiskCopy). CanChange other leaders_before config timestamp) (λ (one : Seated). one.copy) disks can.1)

-- ---- the group again

module _ (group : GroupValue) (are : AreNewest group.newest) (settled : IsSettledGroup group) (guid : List ℕ) (found : IsFoundAs guid group)
    (timestamp : ℕ) (change : Change) (asked : CanBeAsked change) (free : step_refusal timestamp None group.config (seated group) change ≡ None) (is : is_step group.config change ≡ true)
    (kept : is_spent (step_of timestamp group.config (seated group) change) ≡ false)
    (some : Seated) (first : slice_get (disks_after timestamp (before (views_in (seated group))) (config_after group.config change) (seated group)) 0 ≡ Some some) where
  abbrev disks : List Seated
  disks = seated group

  abbrev next : Configuration
  next = config_after group.config change

  abbrev led : Before
  led = before (views_in disks)

  abbrev new : List Seated
  new = disks_after timestamp led next disks

  abbrev slots : List Shown
  slots = map shown_of group.newest

  abbrev newest : List (Option Newest)
  newest = fold with_level group.newest new

  abbrev after : List Shown
  after = map shown_of newest

  what_is_left : IsLeft guid next.sequence slots after (slots_in new)
  what_is_left = left group are settled guid found timestamp change asked free is kept some first

  made : (k : ℕ) (one : Seated) → slice_get new k ≡ Some one → IsMade group are settled guid found timestamp change asked free is kept one
  made k one at = made_is group are settled guid found timestamp change asked free is kept k one at

  shown_here : (k : ℕ) (one : Seated) → slice_get new k ≡ Some one → slot_at after one.seat.slot ≡ Level (view_of one.copy)
  shown_here k one at = level_at newest one.seat.slot one.copy (level_now group are settled guid found timestamp change asked free is kept k one at)

  one_shows : (k : ℕ) (one : Seated) → slice_get new k ≡ Some one → shows next (view_of one.copy) ≡ true
  one_shows k one at = made_shows group are settled guid found timestamp change asked free is kept one (made k one at)

  -- The first disk's slot is the first.
  behind : (rest : List Seated) × (new ≡ some ∷ rest)
  behind = begins new some first

  slots_are : slots_in new ≡ some.seat.slot ∷ slots_in behind.0
  slots_are = ap slots_in behind.1

  left_first : IsLeft guid next.sequence slots after (some.seat.slot ∷ slots_in behind.0)
  left_first = subst (IsLeft guid next.sequence slots after) slots_are what_is_left

  leaders_now : leaders after guid ≡ some.seat.slot ∷ slots_in behind.0
  leaders_now = leaders_are guid next.sequence slots after some.seat.slot (slots_in behind.0) left_first

  claimed_now : claimed after guid ≡ slots_in new
  claimed_now = claimed_are guid next.sequence slots after some.seat.slot (slots_in behind.0) left_first ∙ sym slots_are

  none_contradicts : contradiction after guid ≡ None
  none_contradicts = not_contradicted guid next.sequence slots after some.seat.slot (slots_in behind.0) left_first

  -- ---- its configuration

  sequence_now : sequence_of after guid ≡ next.sequence
  unfolding leaders
  sequence_now =
      ap (λ (o : Option ℕ). option_map_or (λ n. sequence_in (slot_at after n)) o 0) (find_kept (leads after guid) (numbers after) some.seat.slot (slots_in behind.0) leaders_now)
      ∙ ap sequence_in (shown_here 0 some first)
      ∙ (shown_from next (view_of some.copy) (one_shows 0 some first)).sequence

  views_now : leading_views after guid ≡ map (λ (one : Seated). view_of one.copy) new
  views_now =
      ap (λ (l : List ℕ). filter_map (λ slot. view_in (slot_at after slot)) l) (leaders_now ∙ sym slots_are)
      ∙ filter_all (λ slot. view_in (slot_at after slot)) (λ (one : Seated). one.seat.slot) (λ (one : Seated). view_of one.copy) new (λ k one at. ap view_in (shown_here k one at))

  all_can : AllByRecursion (λ (disk : Seated). CanChange disk.copy led next timestamp) (filter (stays_in next) disks)
  all_can =
      all_from (λ (disk : Seated). CanChange disk.copy led next timestamp) (filter (stays_in next) disks)
      (λ k disk at.
      let there = filter_get (stays_in next) disks k disk at in
      can_change group are settled guid found timestamp change asked free is kept there.0 disk there.1
      (all_at (λ (one : Seated). stays_in next one ≡ true) (filter (stays_in next) disks) k disk (filter_pass (stays_in next) disks) at))

  read_now : read next.group next.sequence (map (λ (one : Seated). view_of one.copy) new) ≡ next
  unfolding disks_after
  read_now = together led next timestamp (filter (stays_in next) disks) all_can some first

  config_now : config_of after guid ≡ next
  unfolding config_of
  config_now =
      ap (λ (n : ℕ). read guid n (leading_views after guid)) sequence_now
      ∙ ap (read guid next.sequence) views_now
      ∙ ap (λ (g : List ℕ). read g next.sequence (map (λ (one : Seated). view_of one.copy) new)) (sym (group_is group are settled guid found))
      ∙ read_now

  -- ---- its seats

  seat_now : (k : ℕ) (one : Seated) → slice_get new k ≡ Some one → seat_at newest one.seat.slot ≡ Some one.seat
  seat_now k one at =
      let own = made k one at in
      let claim = claimed_is group are settled guid found timestamp change asked free is kept own.place own.disk own.at in
      let same : seat_of own.disk.seat.slot (rewritten led next timestamp own.disk).copy ≡ own.disk.seat = same_seat led next timestamp own.disk ∙ sym claim.is_seat in
      let seat : seat_of one.seat.slot one.copy ≡ one.seat = subst (λ (disk : Seated). seat_of disk.seat.slot disk.copy ≡ disk.seat) own.is_made same in
      ap (λ (there : Option (Option Newest)). option_map (seat_of one.seat.slot) (option_and_then (λ copies. option_and_then standing_copy copies) there)) (level_now group are settled guid found timestamp change asked free is kept k one at)
      ∙ ap (λ (s : Seat). Some s) seat

  seats_now : seats_of newest (slots_in new) ≡ seats_in new
  seats_now = filter_all (seat_at newest) (λ (one : Seated). one.seat.slot) (λ (one : Seated). one.seat) new seat_now

  -- No seat lags.
  none_lags_now : lagging after (slots_in new) next ≡ []
  none_lags_now =
      none_kept (λ (slot : ℕ). not (has_config next (slot_at after slot))) (slots_in new)
      (λ k slot at.
      let of = in_map (λ (one : Seated). one.seat.slot) new k slot at in
      ap (λ (shown : Shown). not (has_config next shown)) (sym (ap (slot_at after) of.2) ∙ shown_here k of.0 of.1) ∙ ap not (one_shows k of.0 of.1))

  -- ---- nothing is absent

  seated_now : (entry : ℕ × Member) → IsCurrentIn next.members entry.1.guid entry.0 → list_any (has_reference after entry.0) (slots_in new) ≡ true
  seated_now entry current =
      let was = was_current group.config change entry.1.guid entry.0 current in
      let none = map_empty (λ (member : ℕ × Member). member.0) (filter (is_absent slots (claimed slots guid)) group.config.members) (none_gone group are settled guid found) in
      let fails = all_at (λ (member : ℕ × Member). is_absent slots (claimed slots guid) member ≡ false) group.config.members was.place (entry.0, was.member) (all_fail (is_absent slots (claimed slots guid)) group.config.members none) was.at in
      let here = any_place (has_reference slots entry.0) (claimed slots guid) (seat_there was.member.missing (list_any (has_reference slots entry.0) (claimed slots guid)) was.is_here fails) in
      let slot = here.1 in
      let in_disks : slice_get (slots_in disks) here.0 ≡ Some slot = ap (λ (l : List ℕ). slice_get l here.0) (slots_claimed group are settled guid found) ∙ here.2 in
      let disk = in_map (λ (one : Seated). one.seat.slot) disks here.0 slot in_disks in
      let claim = claimed_is group are settled guid found timestamp change asked free is kept here.0 disk.0 disk.1 in
      let told = value_there (λ one. eqb one entry.0) (reference_at slots slot) here.3 in
      let shown : reference_at slots slot ≡ Some (view_of disk.0.copy).reference =
      ap (λ (one : Shown). option_map (λ (view : View). view.reference) (view_in one)) (ap (slot_at slots) (sym disk.2) ∙ level_at group.newest disk.0.seat.slot disk.0.copy claim.is_newest) in
      let same : Some told.0 ≡ Some (view_of disk.0.copy).reference = sym told.1 ∙ shown in
      let number : told.0 ≡ (view_of disk.0.copy).reference = cc in
      let reference : disk.0.seat.reference ≡ entry.0 =
      ap (λ (seat : Seat). seat.reference) claim.is_seat ∙ own_reference disk.0.seat.slot disk.0.copy ∙ sym number ∙ eqb-true told.0 entry.0 told.2 in
      let apart = apart_next group are settled guid found timestamp change asked free is kept some (made 0 some first) in
      let stays : stays_in next disk.0 ≡ true = ap (is_current next.members) reference ∙ table_current next.members entry.1.guid entry.0 apart current in
      let there = stays_made group are settled guid found timestamp change asked free is kept here.0 disk.0 disk.1 stays in
      let at : slice_get (slots_in new) there.0 ≡ Some slot = mapped_at (λ (one : Seated). one.seat.slot) new there.0 (rewritten led next timestamp disk.0) there.1 ∙ ap (λ (n : ℕ). Some n) disk.2 in
      any_passes_from_place (has_reference after entry.0) (slots_in new) there.0 slot at
      (ap (λ (o : Option ℕ). option_map_or (λ one. eqb one entry.0) o false) (what_is_left.same_references there.0 slot at) ∙ here.3)
    where
      seat_there : (missing any : Bool) → missing ≡ false → (not missing && not any) ≡ false → any ≡ true
      seat_there false true e h = refl
      seat_there false false e h = sym h
      seat_there true any e h = absurd (false≢true (sym e))

  none_absent_now : absent after (slots_in new) next.members ≡ []
  none_absent_now =
      ap (λ (l : List (ℕ × Member)). map (λ (member : ℕ × Member). member.0) l)
      (none_kept (is_absent after (slots_in new)) next.members (λ k entry at. by k entry at entry.1.missing refl))
    where
      by : (k : ℕ) (entry : ℕ × Member) → slice_get next.members k ≡ Some entry → (b : Bool) → entry.1.missing ≡ b → is_absent after (slots_in new) entry ≡ false
      by k entry at true e = ap (λ b. not b && not (list_any (has_reference after entry.0) (slots_in new))) e
      by k entry at false e =
          ap (λ b. not b && not (list_any (has_reference after entry.0) (slots_in new))) e
          ∙ ap not (seated_now entry (record { place = k; member = entry.1; at = at; same_guid = refl; is_here = e }))

  -- ---- it is found

  is_shown_now : is_shown after guid ≡ true
  is_shown_now =
      let written : IsWritten after (slots_in new) some.seat.slot (view_of some.copy) = record { place = 0; at = mapped_at (λ (one : Seated). one.seat.slot) new 0 some first; shown = shown_here 0 some first } in
      let shown : shows_group guid (slot_at after some.seat.slot) ≡ true = ap (shows_group guid) (shown_here 0 some first) ∙ what_is_left.shows some.seat.slot (view_of some.copy) written in
      let there = get_range 0 (length after) some.seat.slot (shows_within guid after some.seat.slot shown) in
      any_passes_from_place (λ slot. shows_group guid (slot_at after slot)) (numbers after) some.seat.slot some.seat.slot (there.2 ∙ ap (λ (n : ℕ). Some n) (there.1 ∙ zero-add some.seat.slot)) shown

  abbrev as_group : List Seat → List ℕ → List ℕ → GroupValue
  as_group seats gone behind_it = record { config = next; seats = seats; absent = gone; lagging = behind_it; newest = newest }

  -- What the slots give again is the group after the step.
  found_rest : group_or_fault newest (assembled_group after (Ok guid)) ≡ Ok (group_after group (step_of timestamp group.config (seated group) change))
  unfolding assembled_as
  found_rest =
      ap (λ (fault : Option Assembly). group_or_fault newest (unless_contradicted after guid fault)) none_contradicts
      ∙ ap (λ (seats : List ℕ). Ok (group_as newest (assembled_as after seats (config_of after guid)))) claimed_now
      ∙ ap (λ (config : Configuration). Ok (group_as newest (assembled_as after (slots_in new) config))) config_now
      ∙ ap (λ (seats : List Seat). Ok (as_group seats (absent after (slots_in new) next.members) (lagging after (slots_in new) next))) seats_now
      ∙ ap (λ (gone : List ℕ). Ok (as_group (seats_in new) gone (lagging after (slots_in new) next))) (none_absent_now ∙ sym settled.none_absent)
      ∙ ap (λ (behind_it : List ℕ). Ok (as_group (seats_in new) group.absent behind_it)) (none_lags_now ∙ sym settled.none_lags)

  -- So it is where the group is named.
  pub found_again : group_of newest (Some guid) ≡ Ok (group_after group (step_of timestamp group.config (seated group) change))
  unfolding group_of assembled chosen
  found_again = ap (λ (b : Bool). group_or_fault newest (assembled_group after (if b then Ok guid else Err NoGroup))) is_shown_now ∙ found_rest

  -- ---- the group that is meant

  own_guid : Some group.config.group ≡ Some guid
  own_guid = ap (λ (g : List ℕ). Some g) (group_is group are settled guid found)

  -- A slot that was written showed the group, and shows it.
  group_before : (slot : ℕ) → IsOf group are settled guid found timestamp change asked free is kept slot → group_shown (slot_at slots slot) ≡ Some guid
  group_before slot of =
      let own = made of.place of.made of.at in
      let claim = claimed_is group are settled guid found timestamp change asked free is kept own.place own.disk own.at in
      ap group_shown (sym (ap (slot_at slots) of.same_slot) ∙ shown_before group are settled guid found timestamp change asked free is kept of.made own)
      ∙ group_own group.config (view_of own.disk.copy) claim.is_shown (apart_before group are settled guid found timestamp change asked free is kept of.made own) (claimed_current group are settled guid found own.disk claim)
      ∙ own_guid

  group_now : (slot : ℕ) → IsOf group are settled guid found timestamp change asked free is kept slot → group_shown (slot_at after slot) ≡ Some guid
  group_now slot of =
      let own = made of.place of.made of.at in
      ap group_shown (shown_of_slot group are settled guid found timestamp change asked free is kept slot of)
      ∙ group_own next (view_of of.made.copy) (one_shows of.place of.made of.at) (apart_next group are settled guid found timestamp change asked free is kept of.made own) (made_current group are settled guid found timestamp change asked free is kept of.made own)
      ∙ own_guid

  of_place : (place slot : ℕ) → slice_get (slots_in new) place ≡ Some slot → IsOf group are settled guid found timestamp change asked free is kept slot
  of_place place slot at = slot_of group are settled guid found timestamp change asked free is kept place slot at

  same_group : (slot : ℕ) → group_shown (slot_at after slot) ≡ group_shown (slot_at slots slot)
  same_group slot = elim (one_or_none (slots_in new) slot) [
    | inl there ↦ group_now slot (of_place there.0 slot there.1) ∙ sym (group_before slot (of_place there.0 slot there.1))
    | inr none ↦ ap group_shown (what_is_left.others slot none)
  ]

  same_else : (slot : ℕ) (other : List ℕ) → bytes_eq other guid ≡ false → shows_group other (slot_at slots slot) ≡ true → slot_at after slot ≡ slot_at slots slot
  same_else slot other differs shown = elim (one_or_none (slots_in new) slot) [
    | inl there ↦
        let fails : shows_group other (slot_at slots slot) ≡ false = ap (λ (one : Option (List ℕ)). option_map_or (bytes_eq other) one false) (group_before slot (of_place there.0 slot there.1)) ∙ differs in
        absurd (false≢true (sym fails ∙ shown))
    | inr none ↦ what_is_left.others slot none
  ]

  same_claim : (slot : ℕ) (leader : Option View) → claims_by leader (slot_at after slot) ≡ claims_by leader (slot_at slots slot)
  same_claim slot None = refl
  same_claim slot (Some leader) = elim (one_or_none (slots_in new) slot) [
    | inl there ↦
        let of = of_place there.0 slot there.1 in
        let own = made of.place of.made of.at in
        ap (claims_by (Some leader)) (shown_of_slot group are settled guid found timestamp change asked free is kept slot of)
        ∙ ap (λ (g : List ℕ). lists_current leader g (view_of of.made.copy).reference) (made_guid group are settled guid found timestamp change asked free is kept of.made own)
        ∙ ap (λ (n : ℕ). lists_current leader (view_of own.disk.copy).guid n) (made_reference group are settled guid found timestamp change asked free is kept of.made own)
        ∙ sym (ap (claims_by (Some leader)) (sym (ap (slot_at slots) of.same_slot) ∙ shown_before group are settled guid found timestamp change asked free is kept of.made own))
    | inr none ↦ ap (claims_by (Some leader)) (what_is_left.others slot none)
  ]

  claims_own : (slot : ℕ) → claims slots guid slot ≡ true → group_shown (slot_at slots slot) ≡ Some guid
  claims_own slot h =
      let disk = claimed_disk group are settled guid found slot (claims_within slots guid slot h) h in
      let claim = claimed_is group are settled guid found timestamp change asked free is kept disk.0 disk.1 disk.2 in
      let apart = apart_before group are settled guid found timestamp change asked free is kept some (made 0 some first) in
      ap group_shown (ap (slot_at slots) (sym disk.3) ∙ level_at group.newest disk.1.seat.slot disk.1.copy claim.is_newest)
      ∙ group_own group.config (view_of disk.1.copy) claim.is_shown apart (claimed_current group are settled guid found disk.1 claim)
      ∙ own_guid

  claims_own_after : (slot : ℕ) → claims after guid slot ≡ true → group_shown (slot_at slots slot) ≡ Some guid
  claims_own_after slot h = elim (one_or_none (slots_in new) slot) [
    | inl there ↦ group_before slot (of_place there.0 slot there.1)
    | inr none ↦
        let fails = claims_other guid next.sequence slots after some.seat.slot (slots_in behind.0) left_first slot (subst (λ (l : List ℕ). IsNoneOf l slot) slots_are none) in
        absurd (false≢true (sym fails ∙ h))
  ]

  -- The slots show the same groups as before.
  shows_alike : ShowAlike guid slots after
  shows_alike = record {
    same_length = what_is_left.same_length;
    same_group = same_group;
    same_else = same_else;
    same_claim = same_claim;
    claims_own = claims_own;
    claims_own_after = claims_own_after;
    one = some.seat.slot;
    is_there = (subst (λ (l : List ℕ). AllByRecursion (λ slot. slot < length slots) l) slots_are what_is_left.within).0;
    is_claimed = was_claimed group are settled guid found timestamp change asked free is kept some (made 0 some first);
    is_claimed_after = claims_written guid next.sequence slots after some.seat.slot (slots_in behind.0) left_first some.seat.slot (view_of some.copy)
        (record { place = 0; at = refl; shown = shown_here 0 some first });
  }

  -- The group is found again, named or not, as it was found before.
  pub found_same : (named : Option (List ℕ)) → chosen slots named ≡ Ok guid → group_of newest named ≡ Ok (group_after group (step_of timestamp group.config (seated group) change))
  unfolding group_of assembled
  found_same named choice =
      ap (λ (one : Result (List ℕ) Assembly). group_or_fault newest (assembled_group after one)) (same_chosen guid slots after shows_alike named ∙ choice) ∙ found_rest

-- ---- what was readied

abbrev spent_fault : Result (List Step) GroupFault
spent_fault = Err SequenceSpent

-- A change that was readied as one step is that step: nothing refuses it, and it isn't spent.
pub record IsOneStep (timestamp : ℕ) (group : GroupValue) (change : Change) (step : Step) : Type 0 where
  pub free : step_refusal timestamp None group.config (seated group) change ≡ None
  pub is : is_step group.config change ≡ true
  pub step_is : step_of timestamp group.config (seated group) change ≡ step
  pub kept : is_spent (step_of timestamp group.config (seated group) change) ≡ false

pub one_step : (timestamp : ℕ) (group : GroupValue) (change : Change) (step : Step) → IsSettledGroup group → readied group (change ∷ []) timestamp ≡ Ok (step ∷ [])
    → IsOneStep timestamp group change step
one_step timestamp group change step settled h =
    by (step_refusal timestamp None group.config (seated group) change) refl (is_step group.config change) refl (sym (settled_readied group settled (change ∷ []) timestamp) ∙ h)
  where
    its : Step
    its = step_of timestamp group.config (seated group) change

    spent : (b : Bool) → is_spent its ≡ b → step_refusal timestamp None group.config (seated group) change ≡ None → is_step group.config change ≡ true
        → ◌≡◌ {A = Result (List Step) GroupFault} (unless_spent (Ok (its ∷ []))) (Ok (step ∷ [])) → IsOneStep timestamp group change step
    spent true e free is at =
        let no : spent_fault ≡ Ok (step ∷ []) = sym (ap (λ (b : Bool). if b || false then spent_fault else Ok (its ∷ [])) e) ∙ at in
        absurd cc
    spent false e free is at =
        let same : ◌≡◌ {A = Result (List Step) GroupFault} (Ok (its ∷ [])) (Ok (step ∷ [])) = sym (ap (λ (b : Bool). if b || false then spent_fault else Ok (its ∷ [])) e) ∙ at in
        let own : its ≡ step = cc in
        record { free = free; is = is; step_is = own; kept = e }

    by : (refusal : Option Refusal) → step_refusal timestamp None group.config (seated group) change ≡ refusal → (b : Bool) → is_step group.config change ≡ b
        → ◌≡◌ {A = Result (List Step) GroupFault} (unless_spent (elim refusal [ Some one ↦ Err one | None ↦ if b then with_step its (Ok []) else Ok [] ])) (Ok (step ∷ [])) → IsOneStep timestamp group change step
    by (Some one) free b is at = absurd cc
    by None free false is at = absurd cc
    by None free true is at = spent (is_spent its) refl free is at

-- A disk of a step that has some is the first.
first_disk : (all : List Seated) → 0 < length all → (some : Seated) × (slice_get all 0 ≡ Some some)
first_disk [] h = absurd (omega (arith, h))
first_disk (disk ∷ others) h = (disk, refl)

-- What a change left is assembled to the configuration after it.
module _ (group : GroupValue) (are : AreNewest group.newest) (settled : IsSettledGroup group) (change : Change) (timestamp : ℕ) (asked : CanBeAsked change) (guid : List ℕ) (found : IsFoundAs guid group)
    (step : Step) (one : IsOneStep timestamp group change step) (there : 0 < length step.disks) where
  abbrev own_step : Step
  own_step = step_of timestamp group.config (seated group) change

  first_of_step : (some : Seated) × (slice_get own_step.disks 0 ≡ Some some)
  first_of_step = first_disk own_step.disks (subst (λ (s : Step). 0 < length s.disks) (sym one.step_is) there)

  by_guid : group_of (group_after group step).newest (Some group.config.group) ≡ Ok (group_after group step)
  by_guid =
      let again = found_again group are settled guid found timestamp change asked one.free one.is one.kept first_of_step.0 first_of_step.1 in
      subst (λ (s : Step). group_of (group_after group s).newest (Some group.config.group) ≡ Ok (group_after group s)) one.step_is
      (ap (λ (g : List ℕ). group_of (group_after group own_step).newest (Some g)) (group_is group are settled guid found) ∙ again)

  by_choice : (named : Option (List ℕ)) → chosen (map shown_of group.newest) named ≡ Ok guid → group_of (group_after group step).newest named ≡ Ok (group_after group step)
  by_choice named choice =
      let again = found_same group are settled guid found timestamp change asked one.free one.is one.kept first_of_step.0 first_of_step.1 named choice in
      subst (λ (s : Step). group_of (group_after group s).newest named ≡ Ok (group_after group s)) one.step_is again

module _ (newest : List (Option Newest)) (named : Option (List ℕ)) (group : GroupValue) (change : Change) (timestamp : ℕ) (step : Step)
    (are : AreNewest newest) (h : group_of newest named ≡ Ok group) (settled : IsSettledGroup group) (asked : CanBeAsked change) (ready : readied group (change ∷ []) timestamp ≡ Ok (step ∷ [])) (there : 0 < length step.disks) where
  same_newest : group.newest ≡ newest
  same_newest = newest_kept newest named group h

  chosen_before : (guid : List ℕ) × (chosen (map shown_of group.newest) named ≡ Ok guid) × IsFoundAs guid group
  unfolding group_of assembled
  chosen_before =
      let own = found_by newest group (chosen (map shown_of newest) named) h in
      let parts =
      subst (λ (copies : List (Option Newest)). (contradiction (map shown_of copies) own.0 ≡ None) × (group_as copies (assembled_as (map shown_of copies) (claimed (map shown_of copies) own.0) (config_of (map shown_of copies) own.0)) ≡ group))
      (sym same_newest) own.2 in
      (own.0, ap (λ (copies : List (Option Newest)). chosen (map shown_of copies) named) same_newest ∙ own.1, record { not_contradicted = parts.0; is_group = parts.1 })

  -- By the group's GUID it is.
  pub assembled_by_guid : group_of (group_after group step).newest (Some group.config.group) ≡ Ok (group_after group step)
  assembled_by_guid = by_guid group (subst AreNewest (sym same_newest) are) settled change timestamp asked chosen_before.0 chosen_before.2 step (one_step timestamp group change step settled ready) there

  -- By what it was assembled by before it is.
  pub assembled_again : group_of (group_after group step).newest named ≡ Ok (group_after group step)
  assembled_again = by_choice group (subst AreNewest (sym same_newest) are) settled change timestamp asked chosen_before.0 chosen_before.2 step (one_step timestamp group change step settled ready) there named chosen_before.1
