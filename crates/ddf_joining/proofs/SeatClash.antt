-- A slot that is a seat of two groups: they can't be joined, since the disk of the one is there in the other.
use Rattle.std.proofs.Common.{◌≡◌, ℕ, zero, suc, Bool, true, false, nat_eq, cond, List, [], ◌∷◌, length, ◌==◌, map, filter, filter_map, Option, Some, None, Result, Ok, Err, refl, sym, ap, subst, ◌∙◌, ◌||◌, if◌then◌else◌}
use Rattle.std.proofs.lemmas.Bool.{eqb-true}
use Rattle.std.proofs.lemmas.Option.{slice_get-map}
use Rattle.std.specs.Prelude.{is_some, option_map, slice_get, slice_index_or, unwrap_or}
use Rattle.std.specs.Map.{lookup}
use Rattle.std.specs.List.{cons_option, list_any}
use Rattle.std.specs.Option.{option_and_then, option_map_or}
use Rattle.std.proofs.lemmas.Map.Keys.{any_passes_from_place}
use Rattle.ddf_lemmas.proofs.Lists.{all_from, comes_first, some_found}
use Rattle.ddf_bay.specs.State.{BayState}
use Rattle.ddf_copy.specs.declared.copy.DiskCopy.{DiskCopy}
use Rattle.ddf_copy.specs.declared.newest_copy.Newest.{Newest}
use Rattle.ddf_copy.specs.Copies.{standing_copy}
use Rattle.ddf_config.specs.declared.member.Member.{Member}
use Rattle.ddf_config.specs.declared.refusal.Refusal.{Refusal}
use Rattle.ddf_config.specs.declared.refusal.Refusal.TheVariants.{Clash, NameTaken}
use Rattle.ddf_config.specs.declared.seat.Seat.{Seat}
use Rattle.ddf_config.specs.Configuration.{Configuration}
use Rattle.ddf_config.specs.Entries.{changed_entries}
use Rattle.ddf_config.specs.Members.{same_guid}
use Rattle.ddf_config.specs.Refusals.{first_refusal, refuse_if}
use Rattle.ddf_config.proofs.Common.{same_self}
use Rattle.ddf_plan.specs.declared.change.Change.{Change}
use Rattle.ddf_plan.specs.declared.change.Change.TheVariants.{Lose}
use Rattle.ddf_plan.specs.Members.{member_after, members_after}
use Rattle.ddf_import.specs.Clash.{array_clash, bound_in, is_there, join_cause, takes_name}
use Rattle.ddf_import.specs.Joined.{without_lost}
use Rattle.ddf_view.specs.Reading.{read}
use Rattle.ddf_view.specs.View.{View, lists_current}
use Rattle.ddf_group.specs.declared.answer.Assembly.{Assembly}
use Rattle.ddf_group.specs.declared.shown.Shown.{Shown}
use Rattle.ddf_group.specs.declared.shown.Shown.TheVariants.{Nothing}
use Rattle.ddf_group.specs.Assembled.{assembled, assembled_as, assembled_group, config_of, unless_contradicted}
use Rattle.ddf_group.specs.Choice.{chosen}
use Rattle.ddf_group.specs.Conflicts.{contradiction, sequence_of}
use Rattle.ddf_group.specs.Shown.{shown_of}
use Rattle.ddf_group.specs.Slots.{claimed, claims, claims_by, leaders, leading_view, leads, lists_disk_of, numbers, slot_at, view_in}
use Rattle.ddf_seats.specs.Group.{GroupValue, copy_at, is_kept, seat_at, seat_of, seats_of}
use Rattle.ddf_assembly.specs.Group.{group_as, group_of, group_or_fault}
use Rattle.ddf_joining.specs.Importing.{KnowsDisks}
use Rattle.ddf_joining.specs.Joining.{config_joining}
use Rattle.ddf_recovery.specs.Recovery.{config_lost, config_recovered}
use Rattle.ddf_seats.specs.Leading.{some}
use Rattle.ddf_assembly.specs.Slots.{first_left_out, newest_from}
use Rattle.ddf_rewrite.proofs.Lists.{all_at}
use Rattle.ddf_assembly.proofs.LeftMembers.{IsCurrentIn, read_current}
use Rattle.ddf_assembly.proofs.LeftOut.{both_kept, none_left_out}
use Rattle.ddf_assembly.proofs.SettledHeld.{newest_kept}

-- ---- lists

-- What is found of those that pass a test is found of one that passes it.
of_one : {X Y : Type 0} (f : X → Option Y) (test : X → Bool) (xs : List X) (place : ℕ) (y : Y) → slice_get (filter_map f (filter test xs)) place ≡ Some y → (x : X) × ((test x ≡ true) × (f x ≡ Some y))
of_one f test [] place y h = absurd cc
of_one {X = X} {Y = Y} f test (x ∷ xs) place y h = by (test x) refl (of_one f test xs) h
  where
    rest : List Y
    rest = filter_map f (filter test xs)

    one : test x ≡ true → (found : Option Y) → f x ≡ found → ((n : ℕ) (z : Y) → slice_get (filter_map f (filter test xs)) n ≡ Some z → (w : X) × ((test w ≡ true) × (f w ≡ Some z))) → (n : ℕ)
        → slice_get (cons_option found (filter_map f (filter test xs))) n ≡ Some y → (w : X) × ((test w ≡ true) × (f w ≡ Some y))
    one passes None e later n at = later n y at
    one passes (Some first) e later zero at = (x, (passes, e ∙ at))
    one passes (Some first) e later (suc n) at = later n y at

    by : (b : Bool) → test x ≡ b → ((n : ℕ) (z : Y) → slice_get (filter_map f (filter test xs)) n ≡ Some z → (w : X) × ((test w ≡ true) × (f w ≡ Some z)))
        → slice_get (filter_map f (cond b (x ∷ filter test xs) (filter test xs))) place ≡ Some y → (w : X) × ((test w ≡ true) × (f w ≡ Some y))
    by true e later at = one e (f x) refl later place at
    by false e later at = later place y at

-- ---- a seat of a group

-- A group that was found is that of these slots by its GUID.
record IsFoundAs (newest : List (Option Newest)) (g : GroupValue) : Type 0 where
  group : List ℕ
  made : group_as newest (assembled_as (map shown_of newest) (claimed (map shown_of newest) group) (config_of (map shown_of newest) group)) ≡ g

found_as : (newest : List (Option Newest)) (named : Option (List ℕ)) (g : GroupValue) → group_of newest named ≡ Ok g → IsFoundAs newest g
unfolding group_of assembled
found_as newest named g is = by (chosen (map shown_of newest) named) is
  where
    by_fault : (group : List ℕ) (fault : Option Assembly) → group_or_fault newest (unless_contradicted (map shown_of newest) group fault) ≡ Ok g → IsFoundAs newest g
    by_fault group None h = record { group = group; made = cc }
    by_fault group (Some fault) h = absurd cc

    by : (answer : Result (List ℕ) Assembly) → group_or_fault newest (assembled_group (map shown_of newest) answer) ≡ Ok g → IsFoundAs newest g
    by (Ok group) h = by_fault group (contradiction (map shown_of newest) group) h
    by (Err fault) h = absurd cc

-- The slot of a seat shows a disk that is a current member.
record IsSeatOf (newest : List (Option Newest)) (g : GroupValue) (slot : ℕ) : Type 0 where
  view : View
  is_shown : view_in (slot_at (map shown_of newest) slot) ≡ Some view
  is_current : IsCurrentIn g.config.members view.guid view.reference

module _ (newest : List (Option Newest)) (g : GroupValue) (own : IsFoundAs newest g) where
  abbrev slots : List Shown
  slots = map shown_of newest

  seats_are : g.seats ≡ seats_of newest (filter (claims slots own.group) (numbers slots))
  unfolding assembled_as claimed
  seats_are = sym (ap (λ (one : GroupValue). one.seats) own.made)

  config_is : g.config ≡ config_of slots own.group
  unfolding assembled_as
  config_is = sym (ap (λ (one : GroupValue). one.config) own.made)

  listed : (leader : View) → leading_view slots own.group ≡ Some leader → (guid : List ℕ) (reference : ℕ) → lists_current leader guid reference ≡ true → IsCurrentIn g.config.members guid reference
  unfolding leading_view leaders config_of
  listed leader led guid reference lists =
      let first = comes_first (λ slot. view_in (slot_at slots slot)) (leads slots own.group) (numbers slots) leader led in
      subst (λ (config : Configuration). IsCurrentIn config.members guid reference) (sym config_is)
      (subst (λ (views : List View). IsCurrentIn (read own.group (sequence_of slots own.group) views).members guid reference) (sym first.1)
      (read_current own.group (sequence_of slots own.group) leader first.0 guid reference lists))

  claimed_is : (slot : ℕ) → claims slots own.group slot ≡ true → IsSeatOf newest g slot
  claimed_is slot h = by (leading_view slots own.group) refl h
    where
      by_view : (leader : View) → leading_view slots own.group ≡ Some leader → (found : Option View) → view_in (slot_at slots slot) ≡ found
          → option_map_or (lists_disk_of leader) found false ≡ true → IsSeatOf newest g slot
      by_view leader led None e lists = absurd cc
      by_view leader led (Some view) e lists = record { view = view; is_shown = e; is_current = listed leader led view.guid view.reference lists }

      by : (found : Option View) → leading_view slots own.group ≡ found → claims_by found (slot_at slots slot) ≡ true → IsSeatOf newest g slot
      by None e lists = absurd cc
      by (Some leader) e lists = by_view leader e (view_in (slot_at slots slot)) refl lists

  seat_on : (slot : ℕ) (copy : Option DiskCopy) (seat : Seat) → option_map (seat_of slot) copy ≡ Some seat → slot ≡ seat.slot
  seat_on slot None seat h = absurd cc
  seat_on slot (Some copy) seat h = let same : seat_of slot copy ≡ seat = cc in ap (λ (one : Seat). one.slot) same

  is_seat : (place : ℕ) (seat : Seat) → slice_get g.seats place ≡ Some seat → IsSeatOf newest g seat.slot
  is_seat place seat at =
      let from = of_one (seat_at newest) (claims slots own.group) (numbers slots) place seat (sym (ap (λ (seats : List Seat). slice_get seats place) seats_are) ∙ at) in
      subst (IsSeatOf newest g) (seat_on from.0 (copy_at newest from.0) seat from.1.1) (claimed_is from.0 from.1.0)

-- ---- its disk in the table

-- A member has this GUID.
record HasDiskIn (members : List (ℕ × Member)) (guid : List ℕ) : Type 0 where
  place : ℕ
  entry : ℕ × Member
  at : slice_get members place ≡ Some entry
  same : entry.1.guid ≡ guid

changed_at_place : (config : Configuration) (change : Change) (entries : List (ℕ × Member)) (place : ℕ) (entry : ℕ × Member) → slice_get entries place ≡ Some entry
    → slice_get (changed_entries (λ reference member. Some (member_after config change reference member)) entries) place ≡ Some (entry.0, member_after config change entry.0 entry.1)
changed_at_place config change [] place entry at = absurd cc
changed_at_place config change (first ∷ entries) zero entry at =
    let same : first ≡ entry = cc in ap (λ (one : ℕ × Member). Some (one.0, member_after config change one.0 one.1)) same
changed_at_place config change (first ∷ entries) (suc place) entry at = changed_at_place config change entries place entry at

after_has : (config : Configuration) (change : Change) (guid : List ℕ) → HasDiskIn config.members guid → HasDiskIn (members_after config change) guid
after_has config change guid has = record {
  place = has.place;
  entry = (has.entry.0, member_after config change has.entry.0 has.entry.1);
  at = changed_at_place config change config.members has.place has.entry has.at;
  same = has.same;
}

recovered_has : (g : GroupValue) (guid : List ℕ) → HasDiskIn g.config.members guid → HasDiskIn (config_recovered g).members guid
unfolding config_recovered
recovered_has g guid has = by (some g.absent)
  where
    by : (b : Bool) → HasDiskIn (if b then config_lost g else g.config).members guid
    by true = after_has g.config (Lose g.absent) guid has
    by false = has

joining_has : (config : Configuration) (lost : List ℕ) (guid : List ℕ) → HasDiskIn config.members guid → HasDiskIn (without_lost config lost).members guid
joining_has config [] guid has = has
joining_has config (reference ∷ lost) guid has = after_has config (Lose (reference ∷ lost)) guid has

abbrev behind : Configuration → Configuration → List (Option Refusal)
behind config joining =
    array_clash config.arrays joining.arrays ∷ bound_in config joining ∷ bound_in joining config ∷ refuse_if (takes_name config joining) NameTaken ∷ []

clash : (config joining : Configuration) (guid : List ℕ) → HasDiskIn config.members guid → HasDiskIn joining.members guid → (refusal : Refusal) × (join_cause config joining ≡ Some refusal)
clash config joining guid own its =
    let has = any_passes_from_place (λ (entry : ℕ × Member). same_guid entry.1.guid its.entry.1.guid) config.members own.place own.entry own.at
    (ap (λ (one : List ℕ). same_guid own.entry.1.guid one) (its.same ∙ sym own.same) ∙ same_self own.entry.1.guid) in
    let there : is_there config.members its.entry ≡ true = ap (λ (b : Bool). b || is_some (lookup (nat_eq its.entry.0) config.members)) has in
    let found = some_found (is_there config.members) joining.members its.place its.entry its.at there in
    (Clash found.0.1.guid, ap (λ (first : Option (ℕ × Member)). first_refusal (option_map (λ (entry : ℕ × Member). Clash entry.1.guid) first ∷ behind config joining)) found.1)

-- ---- both

module _ (newest also : List (Option Newest)) (named called : Option (List ℕ)) (native other : GroupValue) (is : group_of newest named ≡ Ok native) (is_other : group_of also called ≡ Ok other) where
  -- A slot that is a seat of both, and of which both know the same, refuses a join.
  pub seat_of_both : (k j : ℕ) (seat one : Seat) → slice_get native.seats k ≡ Some seat → slice_get other.seats j ≡ Some one → seat.slot ≡ one.slot
      → slice_get newest seat.slot ≡ slice_get also seat.slot → (refusal : Refusal) × (join_cause (config_recovered native) (config_joining other) ≡ Some refusal)
  seat_of_both k j seat one at at_other on same =
      let own = is_seat newest native (found_as newest named native is) k seat at in
      let its = subst (IsSeatOf also other) (sym on) (is_seat also other (found_as also called other is_other) j one at_other) in
      let shown : view_in (slot_at (map shown_of newest) seat.slot) ≡ view_in (slot_at (map shown_of also) seat.slot) =
      ap (λ (found : Option Shown). view_in (unwrap_or found Nothing)) (slice_get-map shown_of newest seat.slot ∙ ap (option_map shown_of) same ∙ sym (slice_get-map shown_of also seat.slot)) in
      let views : Some own.view ≡ Some its.view = sym own.is_shown ∙ shown ∙ its.is_shown in
      let guids : own.view.guid ≡ its.view.guid = let view : own.view ≡ its.view = cc in ap (λ (v : View). v.guid) view in
      clash (config_recovered native) (config_joining other) own.view.guid
      (recovered_has native own.view.guid (record { place = own.is_current.place; entry = (own.view.reference, own.is_current.member); at = own.is_current.at; same = own.is_current.same_guid }))
      (joining_has other.config other.absent own.view.guid
      (record { place = its.is_current.place; entry = (its.view.reference, its.is_current.member); at = its.is_current.at; same = its.is_current.same_guid ∙ sym guids }))

-- ---- groups that two looks at the same disks found

some_copy : (slot : ℕ) (copy : Option DiskCopy) (seat : Seat) → option_map (seat_of slot) copy ≡ Some seat → is_some copy ≡ true
some_copy slot None seat h = absurd cc
some_copy slot (Some copy) seat h = refl

-- The copy of each seat's slot is kept.
seat_kept : (newest : List (Option Newest)) (named : Option (List ℕ)) (g : GroupValue) → group_of newest named ≡ Ok g → (place : ℕ) (seat : Seat) → slice_get g.seats place ≡ Some seat
    → is_kept newest seat.slot ≡ true
seat_kept newest named g is place seat at =
    let own = found_as newest named g is in
    let from = of_one (seat_at newest) (claims (map shown_of newest) own.group) (numbers (map shown_of newest)) place seat
    (sym (ap (λ (seats : List Seat). slice_get seats place) (seats_are newest g own)) ∙ at) in
    subst (λ (slot : ℕ). is_kept newest slot ≡ true) (seat_on newest g own from.0 (copy_at newest from.0) seat from.1.1) (some_copy from.0 (copy_at newest from.0) seat from.1.1)

none_is : {X : Type 0} (test : X → Bool) (xs : List X) → ((k : ℕ) (x : X) → slice_get xs k ≡ Some x → test x ≡ true → ⊥) → list_any test xs ≡ false
none_is test [] none = refl
none_is test (x ∷ xs) none = by (test x) refl (none_is test xs (λ k y at. none (suc k) y at))
  where
    by : (b : Bool) → test x ≡ b → list_any test xs ≡ false → (b || list_any test xs) ≡ false
    by true e rest = absurd (none 0 x refl e)
    by false e rest = rest

module _ {D : Type 0} (disks : BayState D) (left also : List Bool) (named called : Option (List ℕ)) (native other : GroupValue) (long : length left ≡ length also)
    (is : group_of (newest_from disks 0 left) named ≡ Ok native) (is_other : group_of (newest_from disks 0 also) called ≡ Ok other)
    (none : join_cause (config_recovered native) (config_joining other) ≡ None) (seen : first_left_out left other.seats ≡ None) where
  abbrev newest : List (Option Newest)
  newest = newest_from disks 0 left

  abbrev others : List (Option Newest)
  others = newest_from disks 0 also

  module _ (place : ℕ) (seat : Seat) (at : slice_get other.seats place ≡ Some seat) where
    kept : is_kept others seat.slot ≡ true
    kept = seat_kept others called other is_other place seat at

    same : slice_get newest seat.slot ≡ slice_get others seat.slot
    same = both_kept disks left also seat.slot long (all_at (λ (one : Seat). slice_index_or left one.slot false ≡ false) other.seats place seat (none_left_out left other.seats seen) at) kept

    same_there : slice_get native.newest seat.slot ≡ slice_get other.newest seat.slot
    same_there =
        ap (λ (all : List (Option Newest)). slice_get all seat.slot) (newest_kept newest named native is) ∙ same
        ∙ sym (ap (λ (all : List (Option Newest)). slice_get all seat.slot) (newest_kept others called other is_other))

    kept_too : is_kept native.newest seat.slot ≡ true
    kept_too =
        ap (λ (all : List (Option Newest)). is_kept all seat.slot) (newest_kept newest named native is)
        ∙ ap (λ (found : Option (Option Newest)). is_some (option_and_then (λ one. option_and_then standing_copy one) found)) same ∙ kept

    not_own : list_any (λ own. own.slot == seat.slot) native.seats ≡ false
    not_own = none_is (λ (own : Seat). own.slot == seat.slot) native.seats (λ k own own_at equal.
        let on : own.slot ≡ seat.slot = eqb-true own.slot seat.slot equal in
        let here : slice_get newest own.slot ≡ slice_get others own.slot = subst (λ (slot : ℕ). slice_get newest slot ≡ slice_get others slot) (sym on) same in
        let refused = seat_of_both newest others named called native other is is_other k place own seat own_at at on here in
        let both : None ≡ Some refused.0 = sym none ∙ refused.1 in
        absurd cc)

  -- The one knows the disks that join it as the other does, where it left none of them out and nothing of the other's is there.
  pub knows_disks : KnowsDisks native other
  knows_disks = record {
    same_newest = all_from (λ (seat : Seat). slice_get native.newest seat.slot ≡ slice_get other.newest seat.slot) other.seats same_there;
    are_kept = all_from (λ (seat : Seat). is_kept native.newest seat.slot ≡ true) other.seats kept_too;
    are_apart = all_from (λ (seat : Seat). list_any (λ own. own.slot == seat.slot) native.seats ≡ false) other.seats not_own;
  }
