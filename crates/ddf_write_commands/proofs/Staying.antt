-- The seats of a group stay, through its recovery and through steps that lose no member: each of them is a current member's.
use Rattle.std.proofs.Common.{◌≡◌, ℕ, suc, ◌<◌, Bool, true, false, not, ◌||◌, cond, eqb, List, [], ◌∷◌, length, map, Option, Some, None, Ok, nat_eq, refl, sym, ap, subst, ◌∙◌, if◌then◌else◌, zero-add}
use Rattle.std.proofs.lemmas.Bool.{false≢true, and_parts, eq-eqb, eqb-true}
use Rattle.std.proofs.lemmas.Option.{slice_get_within}
use Rattle.std.specs.Prelude.{filter, is_some, option_map, slice_get, unwrap_or}
use Rattle.std.specs.List.{IsDistinct, list_any}
use Rattle.std.specs.Map.{lookup}
use Rattle.std.specs.Option.{option_map_or}
use Rattle.std.proofs.lemmas.Map.Keys.{any_passes_from_place}
use Rattle.ddf_lemmas.proofs.Lists.{comes_first, filter_pass, filtered_passes, in_map}
use Rattle.ddf_lemmas.proofs.Options.{some_is}
use Rattle.ddf_tables.specs.declared.disks.DiskEntry.{DiskEntry}
use Rattle.ddf_copy.specs.declared.copy.DiskCopy.{DiskCopy}
use Rattle.ddf_copy.specs.declared.newest_copy.Newest.{Newest}
use Rattle.ddf_config.specs.declared.member.Member.{Member}
use Rattle.ddf_config.specs.declared.seat.Seat.{Seat}
use Rattle.ddf_config.specs.Configuration.{Configuration}
use Rattle.ddf_config.specs.Entries.{changed_entries}
use Rattle.ddf_config.specs.Members.{is_current}
use Rattle.ddf_plan.specs.declared.change.Change.{Change}
use Rattle.ddf_plan.specs.declared.change.Change.TheVariants.{Mark}
use Rattle.ddf_plan.specs.Lose.{is_among}
use Rattle.ddf_plan.specs.Members.{member_after, members_after}
use Rattle.ddf_view.specs.Reading.{disks_in, member_entry_in, read}
use Rattle.ddf_view.specs.View.{View, lists_current, view_of}
use Rattle.ddf_group.specs.declared.shown.Shown.{Shown}
use Rattle.ddf_group.specs.declared.shown.Shown.TheVariants.{Nothing}
use Rattle.ddf_group.specs.Assembled.{absent, assembled_as, config_of, has_reference, is_absent}
use Rattle.ddf_group.specs.Conflicts.{sequence_of}
use Rattle.ddf_group.specs.Shown.{shown_of}
use Rattle.ddf_group.specs.Slots.{claimed, claims, claims_by, leaders, leading_view, leads, lists_disk_of, numbers, slot_at, view_in}
use Rattle.ddf_rewrite.specs.Before.{Before}
use Rattle.ddf_rewrite.proofs.AllWanted.{filter_map_get}
use Rattle.ddf_rewrite.proofs.Lists.{all_at, get_range}
use Rattle.ddf_rewrite.proofs.ReadCan.{same_names}
use Rattle.ddf_seats.specs.declared.seated.Seated.{Seated}
use Rattle.ddf_assembly.specs.Assembled.{IsAssembledGroup}
use Rattle.ddf_seats.specs.Group.{GroupValue, copy_at, seat_at, seat_of, seats_of}
use Rattle.ddf_assembly.specs.Group.{group_of}
use Rattle.ddf_recovery.specs.Recovery.{config_lost, config_recovered}
use Rattle.ddf_seats.specs.Leading.{leading_views, some}
use Rattle.ddf_seats.specs.Seated.{seated, seats_in}
use Rattle.ddf_steps.specs.Steps.{disks_after, rewritten, stays_in}
use Rattle.ddf_assembly.proofs.AssembledLists.{first_of_reference}
use Rattle.ddf_assembly.proofs.LeftMembers.{IsCurrentIn, read_current}
use Rattle.ddf_assembly.proofs.Leaders.{leading_fit}
use Rattle.ddf_history_steps.proofs.Begun.{IsMadeOf, found_named}
use Rattle.ddf_history_steps.proofs.Seats.{absent_are, group_made, seat_claims, view_at}
use Rattle.ddf_history_steps.proofs.RecoveringLoss.{lose_leaves}

-- ---- lists

among_at : (reference : ℕ) (references : List ℕ) → is_among references reference ≡ true → (k : ℕ) × (slice_get references k ≡ Some reference)
among_at reference [] is = absurd (false≢true is)
among_at reference (first ∷ references) is = by (nat_eq reference first) refl is (among_at reference references)
  where
    by : (b : Bool) → nat_eq reference first ≡ b → (b || is_among references reference) ≡ true → (is_among references reference ≡ true → (k : ℕ) × (slice_get references k ≡ Some reference))
        → (k : ℕ) × (slice_get (first ∷ references) k ≡ Some reference)
    by true e either later = (0, ap Some (sym (eqb-true reference first e)))
    by false e either later = let rest = later either in (suc rest.0, rest.1)

-- A member that is looked up is looked up behind what a change makes of each.
looked_member : (k : ℕ → Member → Member) (reference : ℕ) (members : List (ℕ × Member)) (member : Member) → lookup (nat_eq reference) members ≡ Some member
    → lookup (nat_eq reference) (changed_entries (λ r m. Some (k r m)) members) ≡ Some (k reference member)
looked_member k reference [] member found = absurd cc
looked_member k reference (entry ∷ members) member found = by (nat_eq reference entry.0) refl found (looked_member k reference members member)
  where
    by : (b : Bool) → nat_eq reference entry.0 ≡ b → cond b (Some entry.1) (lookup (nat_eq reference) members) ≡ Some member
        → (lookup (nat_eq reference) members ≡ Some member → lookup (nat_eq reference) (changed_entries (λ r m. Some (k r m)) members) ≡ Some (k reference member))
        → cond b (Some (k entry.0 entry.1)) (lookup (nat_eq reference) (changed_entries (λ r m. Some (k r m)) members)) ≡ Some (k reference member)
    by true e is later =
        let same : entry.1 ≡ member = some_is is in
        ap (λ (n : ℕ). Some (k n entry.1)) (sym (eqb-true reference entry.0 e)) ∙ ap (λ (m : Member). Some (k reference m)) same
    by false e is later = later is

-- what it is to be current, by what is looked up
found_current : (members : List (ℕ × Member)) (reference : ℕ) → is_current members reference ≡ true → (member : Member) × (lookup (nat_eq reference) members ≡ Some member) × (not member.missing ≡ true)
found_current members reference current = by (lookup (nat_eq reference) members) refl current
  where
    by : (found : Option Member) → lookup (nat_eq reference) members ≡ found → elim found [ None ↦ false | Some member ↦ not member.missing ] ≡ true
        → (member : Member) × (lookup (nat_eq reference) members ≡ Some member) × (not member.missing ≡ true)
    by None is e = absurd (false≢true e)
    by (Some member) is e = (member, is, e)

pub member_there : (members : List (ℕ × Member)) (reference : ℕ) → is_current members reference ≡ true → is_some (lookup (nat_eq reference) members) ≡ true
member_there members reference current = ap is_some (found_current members reference current).1

-- A current member that a change doesn't lose stays current.
stays_by : (config : Configuration) (change : Change) (reference : ℕ) → is_current config.members reference ≡ true
    → ((member : Member) → member.missing ≡ false → (member_after config change reference member).missing ≡ false) → is_current (members_after config change) reference ≡ true
stays_by config change reference current keeps =
    let found = found_current config.members reference current in
    let here : found.0.missing ≡ false = by found.0.missing found.2 in
    ap (λ (one : Option Member). elim one [ None ↦ false | Some member ↦ not member.missing ]) (looked_member (member_after config change) reference config.members found.0 found.1)
    ∙ ap not (keeps found.0 here)
  where
    by : (b : Bool) → not b ≡ true → b ≡ false
    by true e = absurd (false≢true e)
    by false e = refl

-- A mark loses no member.
pub mark_keeps : (config : Configuration) (guid : List ℕ) (reference : ℕ) → is_current config.members reference ≡ true → is_current (members_after config (Mark guid)) reference ≡ true
mark_keeps config guid reference current = stays_by config (Mark guid) reference current (λ member here. here)

-- ---- disks that stay

-- Where each disk stays a step keeps its seats.
pub seats_stay : (timestamp : ℕ) (leaders : Before) (config : Configuration) (disks : List Seated)
    → ((k : ℕ) (disk : Seated) → slice_get disks k ≡ Some disk → stays_in config disk ≡ true) → seats_in (disks_after timestamp leaders config disks) ≡ seats_in disks
unfolding disks_after
seats_stay timestamp leaders config [] stay = refl
seats_stay timestamp leaders config (disk ∷ disks) stay = by (stays_in config disk) (stay 0 disk refl) (seats_stay timestamp leaders config disks (λ k one at. stay (suc k) one at))
  where
    by : (b : Bool) → b ≡ true → seats_in (map (rewritten leaders config timestamp) (filter (stays_in config) disks)) ≡ seats_in disks
        → seats_in (map (rewritten leaders config timestamp) (cond b (disk ∷ filter (stays_in config) disks) (filter (stays_in config) disks))) ≡ disk.seat ∷ seats_in disks
    by true e rest = ap (λ (seats : List Seat). disk.seat ∷ seats) rest
    by false e rest = absurd (false≢true e)

-- ---- the seats of a group that was found

module _ (newest : List (Option Newest)) (named : Option (List ℕ)) (g : GroupValue) (is : group_of newest named ≡ Ok g) (assembled : IsAssembledGroup g) where
  abbrev own : List ℕ
  own = g.config.group

  abbrev slots : List Shown
  slots = map shown_of newest

  made : IsMadeOf newest (Some own) g
  made = found_named newest named own g is refl

  config_is : g.config ≡ config_of slots own
  unfolding assembled_as
  config_is = sym (ap (λ (one : GroupValue). one.config) (group_made newest own g made))

  seats_are : g.seats ≡ seats_of newest (claimed slots own)
  unfolding assembled_as
  seats_are = sym (ap (λ (one : GroupValue). one.seats) (group_made newest own g made))

  -- Each reference is of one member.
  references_apart : some (seated g) ≡ true → IsDistinct nat_eq (map (λ (entry : ℕ × Member). entry.0) g.config.members)
  unfolding read
  references_apart seats =
      let apart = (leading_fit g assembled seats).apart in
      subst (λ (config : Configuration). IsDistinct nat_eq (map (λ (entry : ℕ × Member). entry.0) config.members)) assembled.is_read
      (subst (λ (l : List ℕ). IsDistinct nat_eq l)
      (sym (same_names (member_entry_in (leading_views g)) (λ (disk : DiskEntry). disk.reference) (λ disk. refl) (disks_in (leading_views g)))) apart)

  -- What the lowest leader lists is what the configuration was read from.
  listed : (guid : List ℕ) (reference : ℕ) (leader : View) → leading_view slots own ≡ Some leader → lists_current leader guid reference ≡ true → IsCurrentIn g.config.members guid reference
  unfolding leading_view leaders config_of
  listed guid reference leader led lists =
      let first = comes_first (λ slot. view_in (slot_at slots slot)) (leads slots own) (numbers slots) leader led in
      subst (λ (config : Configuration). IsCurrentIn config.members guid reference) (sym config_is)
      (subst (λ (views : List View). IsCurrentIn (read own (sequence_of slots own) views).members guid reference) (sym first.1)
      (read_current own (sequence_of slots own) leader first.0 guid reference lists))

  module _ (place : ℕ) (seat : Seat) (at : slice_get g.seats place ≡ Some seat) where
    -- the seat is that of the copy of its slot
    own_copy : (copy : DiskCopy) × (copy_at newest seat.slot ≡ Some copy) × (seat_of seat.slot copy ≡ seat)
    own_copy =
        let from = filter_map_get (seat_at newest) (claimed slots own) place seat (sym (ap (λ (seats : List Seat). slice_get seats place) seats_are) ∙ at) in
        let there = by (copy_at newest from.1) refl from.3 in
        let slot_is : from.1 ≡ seat.slot = ap (λ (one : Seat). one.slot) there.2 in
        (there.0, subst (λ (n : ℕ). copy_at newest n ≡ Some there.0) slot_is there.1, subst (λ (n : ℕ). seat_of n there.0 ≡ seat) slot_is there.2)
      where
        by : {slot : ℕ} (copy : Option DiskCopy) → copy_at newest slot ≡ copy → option_map (seat_of slot) copy ≡ Some seat
            → (one : DiskCopy) × (copy_at newest slot ≡ Some one) × (seat_of slot one ≡ seat)
        by None e makes = absurd cc
        by (Some one) e makes = (one, e, some_is makes)

    view_there : view_in (slot_at slots seat.slot) ≡ Some (view_of own_copy.0)
    view_there = view_at newest seat.slot ∙ ap (option_map view_of) own_copy.1

    same_reference : (view_of own_copy.0).reference ≡ seat.reference
    unfolding view_of
    same_reference = ap (λ (one : Seat). one.reference) own_copy.2

    is_claimed : claims slots own seat.slot ≡ true
    is_claimed = seat_claims newest own g made place seat at

    -- The lowest leader lists its disk as a current member.
    current_listed : IsCurrentIn g.config.members (view_of own_copy.0).guid (view_of own_copy.0).reference
    current_listed = by (leading_view slots own) refl (sym (ap (claims_by (leading_view slots own)) refl) ∙ is_claimed)
      where
        by : (leader : Option View) → leading_view slots own ≡ leader → claims_by leader (slot_at slots seat.slot) ≡ true
            → IsCurrentIn g.config.members (view_of own_copy.0).guid (view_of own_copy.0).reference
        by None e claims = absurd (false≢true claims)
        by (Some leader) e claims =
            listed (view_of own_copy.0).guid (view_of own_copy.0).reference leader e
            (sym (ap (λ (view : Option View). option_map_or (lists_disk_of leader) view false) view_there) ∙ claims)

    some_seat : some (seated g) ≡ true
    some_seat =
        let found = in_map (λ (disk : Seated). disk.seat) (seated g) place seat (ap (λ (seats : List Seat). slice_get seats place) assembled.are_seated ∙ at) in
        by (seated g) place found.0 found.1
      where
        by : (disks : List Seated) (k : ℕ) (disk : Seated) → slice_get disks k ≡ Some disk → some disks ≡ true
        by [] k disk there = absurd cc
        by (one ∷ others) k disk there = refl

    -- It is a current member's,
    pub seat_current : is_current g.config.members seat.reference ≡ true
    seat_current =
        let current = current_listed in
        let found = first_of_reference g.config.members (references_apart some_seat) current.place ((view_of own_copy.0).reference, current.member) current.at in
        ap (is_current g.config.members) (sym same_reference)
        ∙ ap (λ (one : Option Member). elim one [ None ↦ false | Some member ↦ not member.missing ]) found ∙ ap not current.is_here

    -- and none that is absent.
    pub seat_there : is_among g.absent seat.reference ≡ false
    seat_there = by (is_among g.absent seat.reference) refl
      where
        below : seat.slot < length slots
        below = within (slice_get slots seat.slot) refl view_there
          where
            within : (shown : Option Shown) → slice_get slots seat.slot ≡ shown → view_in (unwrap_or shown Nothing) ≡ Some (view_of own_copy.0) → seat.slot < length slots
            within None e view = absurd cc
            within (Some shown) e view = slice_get_within slots seat.slot shown e

        number : slice_get (numbers slots) seat.slot ≡ Some seat.slot
        number = let at = get_range 0 (length slots) seat.slot below in at.2 ∙ ap Some (at.1 ∙ zero-add seat.slot)

        has : has_reference slots seat.reference seat.slot ≡ true
        has =
            ap (λ (view : Option View). option_map_or (λ (reference : ℕ). eqb reference seat.reference) (option_map (λ (one : View). one.reference) view) false) view_there
            ∙ eq-eqb (view_of own_copy.0).reference seat.reference same_reference

        by : (b : Bool) → is_among g.absent seat.reference ≡ b → b ≡ false
        by false e = refl
        by true e =
            let here = subst (λ (all : List ℕ). is_among all seat.reference ≡ true) (absent_are newest own g made) e in
            let place_of = among_at seat.reference (absent slots (filter (claims slots own) (numbers slots)) g.config.members) here in
            let entry = in_map (λ (one : ℕ × Member). one.0) (filter (is_absent slots (filter (claims slots own) (numbers slots))) g.config.members) place_of.0 seat.reference place_of.1 in
            let passes = all_at (λ (one : ℕ × Member). is_absent slots (filter (claims slots own) (numbers slots)) one ≡ true)
            (filter (is_absent slots (filter (claims slots own) (numbers slots))) g.config.members) place_of.0 entry.0
            (filter_pass (is_absent slots (filter (claims slots own) (numbers slots))) g.config.members) entry.1 in
            let free = (and_parts (not entry.0.1.missing) (not (list_any (has_reference slots entry.0.0) (filter (claims slots own) (numbers slots)))) passes).1 in
            let kept = filtered_passes (claims slots own) (numbers slots) seat.slot seat.slot number is_claimed in
            let any = any_passes_from_place (has_reference slots seat.reference) (filter (claims slots own) (numbers slots)) kept.0 seat.slot kept.1 has in
            let same : list_any (has_reference slots entry.0.0) (filter (claims slots own) (numbers slots)) ≡ true =
            ap (λ (n : ℕ). list_any (has_reference slots n) (filter (claims slots own) (numbers slots))) entry.2 ∙ any in
            absurd (false≢true (sym (ap not same) ∙ free))

  current_by : (lost : Bool) → some g.absent ≡ lost → (reference : ℕ) → is_current g.config.members reference ≡ true → is_among g.absent reference ≡ false
      → is_current (if lost then config_lost g else g.config).members reference ≡ true
  current_by true e reference current there = lose_leaves g.config g.absent reference there current
  current_by false e reference current there = current

  -- Once the group is recovered it is a current member's still.
  pub current_recovered : (place : ℕ) (seat : Seat) → slice_get g.seats place ≡ Some seat → is_current (config_recovered g).members seat.reference ≡ true
  unfolding config_recovered
  current_recovered place seat at = current_by (some g.absent) refl seat.reference (seat_current place seat at) (seat_there place seat at)
