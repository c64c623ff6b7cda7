-- The disks of a settled group that all of them tell: each leads, is a current member of its own, and agrees with every other.
use Rattle.std.proofs.Common.{◌≡◌, ℕ, zero, suc, ◌+◌, ◌<◌, ◌≤◌, Bool, true, false, ◌&&◌, eqb, nat_eq, List, [], ◌∷◌, length, map, filter, Option, Some, None, refl, ap, sym, ◌∙◌, subst, inl, inr, arith}
use Rattle.std.proofs.lemmas.Bool.{and_parts, cases_eq, cases_lt, eq-eqb, eqb-true, false≢true, cond-false, cond-true, or_right}
use Rattle.std.specs.Prelude.{option_map, slice_get}
use Rattle.std.specs.List.{IsDistinct, range_with_len}
use Rattle.std.specs.Cmp.Lexicographic.{pointwise}
use Rattle.ddf_lemmas.proofs.Lists.{mapped_at, some_at_place}
use Rattle.ddf_lemmas.proofs.Options.{none_from_map, none_of_both}
use Rattle.ddf_lemmas.proofs.Tests.{eqb_self}
use Rattle.ddf_bytes.proofs.Nones.{none_first, none_when}
use Rattle.ddf_tables.specs.declared.disks.DiskEntry.{DiskEntry}
use Rattle.ddf_copy.specs.declared.copy.DiskCopy.{DiskCopy}
use Rattle.ddf_copy.specs.declared.newest_copy.Newest.TheVariants.{Level}
use Rattle.ddf_config.specs.declared.member.Member.{Member}
use Rattle.ddf_config.specs.declared.seat.Seat.{Seat}
use Rattle.ddf_view.specs.Differ.{difference}
use Rattle.ddf_view.specs.Shows.{gives_member, same_flag}
use Rattle.ddf_view.specs.View.{View, is_missing, view_of}
use Rattle.ddf_view.proofs.Agreement.{shown_from}
use Rattle.ddf_view.proofs.Tests.{and_four}
use Rattle.ddf_group.specs.declared.shown.Shown.{Shown}
use Rattle.ddf_group.specs.declared.shown.Shown.TheVariants as shows_as
use Rattle.ddf_group.specs.declared.answer.Differ.TheVariants as differs
use Rattle.ddf_group.specs.Conflicts.{contradiction, differ_at, differ_of, difference_of, differing, in_conflict, is_concerned, same_reference, split_in, twin_of, twins, two_copies}
use Rattle.ddf_group.specs.Pairs.{first_pair, first_with}
use Rattle.ddf_group.specs.Shown.{shown_of}
use Rattle.ddf_group.specs.Slots.{claims, leaders, leads, none_later, numbers, reference_at, sequence_in, shows_group, slot_at, view_in}
use Rattle.ddf_history.specs.Groups.{ShowsFully}
use Rattle.ddf_rewrite.proofs.Differences.{agrees, agrees_back, agrees_self, no_difference}
use Rattle.ddf_rewrite.proofs.Lists.{all_at, one_place, some_same}
use Rattle.ddf_seats.specs.declared.seated.Seated.{Seated}
use Rattle.ddf_seats.specs.Group.{GroupValue}
use Rattle.ddf_seats.specs.Seated.{seated}
use Rattle.ddf_assembly.proofs.LeftBefore.{IsClaimedDisk, IsFoundAs, claimed_current, claims_within, disks_claimed, level_at, none_ahead, shows_own}
use Rattle.ddf_assembly.proofs.LeftMembers.{AreApart, IsCurrentIn}
use Rattle.ddf_recovery.proofs.LeftStep.{own_reference}
use Rattle.ddf_uncut_group.specs.Settled.{IsToldByAll}
use Rattle.ddf_uncut_group.proofs.SettledFound.{found_as, some_disk}

-- ---- pairs of a range

-- Where nothing is found of what a test keeps of a range, nothing is found of a number that passes.
none_kept : {Y : Type 0} (test : ℕ → Option Y) (keep : ℕ → Bool) (first count n : ℕ) → first_with test (filter keep (range_with_len first count)) ≡ None
    → first ≤ n → n < first + count → keep n ≡ true → test n ≡ None
none_kept test keep first zero n none low high kept = absurd (omega (arith, low, high))
none_kept test keep first (suc count) n none low high kept = by (none_kept test keep (first + 1) count n) (keep first) refl
  where
    by : (first_with test (filter keep (range_with_len (first + 1) count)) ≡ None → first + 1 ≤ n → n < first + 1 + count → keep n ≡ true → test n ≡ None) → (b : Bool) → keep first ≡ b → test n ≡ None
    by later true e =
        let both = none_of_both (test first) (first_with test (filter keep (range_with_len (first + 1) count)))
        (sym (ap (first_with test) (cond-true (keep first) (first ∷ filter keep (range_with_len (first + 1) count)) (filter keep (range_with_len (first + 1) count)) e)) ∙ none) in
        elim (cases_eq n first) [
          | inl same ↦ ap test same ∙ both.0
          | inr differ ↦ later both.1 (omega (arith, low, differ)) (omega (arith, high)) kept
        ]
    by later false e =
        let rest = sym (ap (first_with test) (cond-false (keep first) (first ∷ filter keep (range_with_len (first + 1) count)) (filter keep (range_with_len (first + 1) count)) e)) ∙ none in
        elim (cases_eq n first) [
          | inl same ↦ absurd (false≢true (sym e ∙ ap keep (sym same) ∙ kept))
          | inr differ ↦ later rest (omega (arith, low, differ)) (omega (arith, high)) kept
        ]

-- So it is with its pairs.
pub pair_of_range : {Y : Type 0} (test : ℕ → ℕ → Option Y) (keep : ℕ → Bool) (first count s t : ℕ) → first_pair test (filter keep (range_with_len first count)) ≡ None
    → first ≤ s → s < t → t < first + count → keep s ≡ true → keep t ≡ true → test s t ≡ None
pair_of_range test keep first zero s t none low less high one other = absurd (omega (arith, low, less, high))
pair_of_range test keep first (suc count) s t none low less high one other = by (pair_of_range test keep (first + 1) count s t) (keep first) refl
  where
    by : (first_pair test (filter keep (range_with_len (first + 1) count)) ≡ None → first + 1 ≤ s → s < t → t < first + 1 + count → keep s ≡ true → keep t ≡ true → test s t ≡ None)
        → (b : Bool) → keep first ≡ b → test s t ≡ None
    by later true e =
        let both = none_of_both (first_with (test first) (filter keep (range_with_len (first + 1) count))) (first_pair test (filter keep (range_with_len (first + 1) count)))
        (sym (ap (first_pair test) (cond-true (keep first) (first ∷ filter keep (range_with_len (first + 1) count)) (filter keep (range_with_len (first + 1) count)) e)) ∙ none) in
        elim (cases_eq s first) [
          | inl same ↦
              ap (λ (n : ℕ). test n t) same
              ∙ none_kept (test first) keep (first + 1) count t both.0 (omega (arith, same, less)) (omega (arith, high)) other
          | inr differ ↦ later both.1 (omega (arith, low, differ)) less (omega (arith, high)) one other
        ]
    by later false e =
        let rest = sym (ap (first_pair test) (cond-false (keep first) (first ∷ filter keep (range_with_len (first + 1) count)) (filter keep (range_with_len (first + 1) count)) e)) ∙ none in
        elim (cases_eq s first) [
          | inl same ↦ absurd (false≢true (sym e ∙ ap keep (sym same) ∙ one))
          | inr differ ↦ later rest (omega (arith, low, differ)) less (omega (arith, high)) one other
        ]

-- ---- the members of a configuration

-- Entries that give members have their references.
same_keys : (disks : List DiskEntry) (members : List (ℕ × Member)) → pointwise gives_member disks members ≡ true → map (λ (disk : DiskEntry). disk.reference) disks ≡ map (λ (entry : ℕ × Member). entry.0) members
same_keys [] [] gives = refl
same_keys [] (entry ∷ members) gives = absurd (false≢true gives)
same_keys (disk ∷ disks) [] gives = absurd (false≢true gives)
same_keys (disk ∷ disks) (entry ∷ members) gives =
    let parts = and_parts (gives_member disk entry) (pointwise gives_member disks members) gives in
    let here = and_four (eqb disk.reference entry.0) _ (eqb disk.size entry.1.size) (same_flag (is_missing disk) entry.1.missing) parts.0 in
    let key : disk.reference ≡ entry.0 = eqb-true disk.reference entry.0 here.0 in
    ap (λ (n : ℕ). n ∷ map (λ (one : DiskEntry). one.reference) disks) key ∙ ap (λ (keys : List ℕ). entry.0 ∷ keys) (same_keys disks members parts.1)

module _ (group : GroupValue) (told : IsToldByAll group) where
  abbrev guid : List ℕ
  guid = group.config.group

  abbrev slots : List Shown
  slots = map shown_of group.newest

  abbrev found : IsFoundAs guid group
  found = found_as group told

  -- ---- its members

  -- No two members have one reference.
  pub distinct : IsDistinct nat_eq (map (λ (entry : ℕ × Member). entry.0) group.config.members)
  distinct =
      let disk = some_at_place (seated group) 0 (some_disk group told) in
      let full = all_at (λ (one : Seated). ShowsFully (view_of one.copy) group.config) (seated group) 0 disk.0 told.are_full disk.1 in
      subst (λ (keys : List ℕ). IsDistinct nat_eq keys) (same_keys (view_of disk.0.copy).disks group.config.members (shown_from group.config (view_of disk.0.copy) full.shows.shows).members) full.shows.names.references

  pub member_place : (i j : ℕ) (one other : ℕ × Member) → slice_get group.config.members i ≡ Some one → slice_get group.config.members j ≡ Some other → one.0 ≡ other.0 → i ≡ j
  member_place i j one other at also same =
      one_place nat_eq eqb_self (map (λ (entry : ℕ × Member). entry.0) group.config.members) distinct i j one.0
      (mapped_at (λ (entry : ℕ × Member). entry.0) group.config.members i one at)
      (mapped_at (λ (entry : ℕ × Member). entry.0) group.config.members j other also ∙ ap (λ (n : ℕ). Some n) (sym same))

  pub apart : AreApart group.config.members
  apart i j one other at also same =
      let place = member_place i j one other at also same in
      some_same (ap (λ (n : ℕ). slice_get group.config.members n) (sym place) ∙ at) also

  -- ---- its disks

  module _ (k : ℕ) (disk : Seated) (at : slice_get (seated group) k ≡ Some disk) where
    pub claim : IsClaimedDisk group guid disk
    claim = all_at (IsClaimedDisk group guid) (seated group) k disk (disks_claimed group told.are_newest told.is_settled guid found) at

    pub current : IsCurrentIn group.config.members (view_of disk.copy).guid (view_of disk.copy).reference
    current = claimed_current group told.are_newest told.is_settled guid found disk claim

    pub full : ShowsFully (view_of disk.copy) group.config
    full = all_at (λ (one : Seated). ShowsFully (view_of one.copy) group.config) (seated group) k disk told.are_full at

    pub shown_at : slot_at slots disk.seat.slot ≡ shows_as.Level (view_of disk.copy)
    shown_at = level_at group.newest disk.seat.slot disk.copy claim.is_newest

    pub its_reference : disk.seat.reference ≡ (view_of disk.copy).reference
    its_reference = ap (λ (seat : Seat). seat.reference) claim.is_seat ∙ own_reference disk.seat.slot disk.copy

    within : disk.seat.slot < length slots
    within = claims_within slots guid disk.seat.slot claim.is_claimed

    -- It leads.
    pub disk_leads : leads slots guid disk.seat.slot ≡ true
    disk_leads =
        let shown : shows_group guid (shows_as.Level (view_of disk.copy)) ≡ true = shows_own group.config (view_of disk.copy) claim.is_shown apart current in
        let none : none_later slots guid (view_of disk.copy).sequence ≡ true =
        ap (none_later slots guid) (shown_from group.config (view_of disk.copy) claim.is_shown).sequence
        ∙ none_ahead group told.are_newest told.is_settled guid found disk.seat.slot claim.is_claimed in
        subst (λ (one : Shown). (shows_group guid one && none_later slots guid (sequence_in one)) ≡ true) (sym shown_at) (both (shows_group guid (shows_as.Level (view_of disk.copy))) _ shown none)
      where
        both : (a b : Bool) → a ≡ true → b ≡ true → (a && b) ≡ true
        both a b p q = ap (λ x. x && b) p ∙ q

    pub disk_concerned : is_concerned slots guid disk.seat.slot ≡ true
    disk_concerned = or_right (shows_group guid (slot_at slots disk.seat.slot)) (claims slots guid disk.seat.slot) claim.is_claimed

  -- ---- two of them

  pub no_twins : twins slots guid ≡ None
  unfolding contradiction
  no_twins = (none_first (two_copies slots guid ∷ twins slots guid ∷ differing slots guid ∷ split_in slots guid ∷ []) found.not_contradicted).1.0

  none_differ : first_pair (differ_at slots guid) (filter (leads slots guid) (numbers slots)) ≡ None
  unfolding contradiction leaders
  none_differ = (none_first (two_copies slots guid ∷ twins slots guid ∷ differing slots guid ∷ split_in slots guid ∷ []) found.not_contradicted).1.1.0

  module _ (i j : ℕ) (one other : Seated) (at : slice_get (seated group) i ≡ Some one) (also : slice_get (seated group) j ≡ Some other) where
    view_one : view_in (slot_at slots one.seat.slot) ≡ Some (view_of one.copy)
    view_one = ap view_in (shown_at i one at)

    view_other : view_in (slot_at slots other.seat.slot) ≡ Some (view_of other.copy)
    view_other = ap view_in (shown_at j other also)

    -- The copy of the one on the lower slot doesn't differ from the other's.
    agree_less : one.seat.slot < other.seat.slot → difference (view_of one.copy) (view_of other.copy) ≡ None
    agree_less less =
        let below = within j other also in
        let none = pair_of_range (differ_at slots guid) (leads slots guid) 0 (length slots) one.seat.slot other.seat.slot none_differ (omega arith) less (omega (arith, below))
        (disk_leads i one at) (disk_leads j other also) in
        sym (ap (λ (view : Option View). difference_of view (view_in (slot_at slots other.seat.slot))) view_one ∙ ap (difference_of (Some (view_of one.copy))) view_other)
        ∙ none_from_map (λ found. in_conflict slots guid one.seat.slot other.seat.slot (differ_of found)) (difference_of (view_in (slot_at slots one.seat.slot)) (view_in (slot_at slots other.seat.slot))) none

    -- The one on the lower slot has another reference.
    apart_less : one.seat.slot < other.seat.slot → eqb one.seat.reference other.seat.reference ≡ false
    apart_less less =
        let below = within j other also in
        let none = pair_of_range (twin_of slots guid) (is_concerned slots guid) 0 (length slots) one.seat.slot other.seat.slot no_twins (omega arith) less (omega (arith, below))
        (disk_concerned i one at) (disk_concerned j other also) in
        let same = none_from_map (λ (reference : ℕ). in_conflict slots guid one.seat.slot other.seat.slot (differs.Twin reference)) (same_reference (reference_at slots one.seat.slot) (reference_at slots other.seat.slot)) none in
        let parts : same_reference (Some (view_of one.copy).reference) (Some (view_of other.copy).reference) ≡ None =
        sym (ap (λ (view : Option View). same_reference (option_map (λ (v : View). v.reference) view) (reference_at slots other.seat.slot)) view_one
        ∙ ap (λ (view : Option View). same_reference (Some (view_of one.copy).reference) (option_map (λ (v : View). v.reference) view)) view_other) ∙ same in
        ap (λ (n : ℕ). eqb n other.seat.reference) (its_reference i one at) ∙ ap (λ (n : ℕ). eqb (view_of one.copy).reference n) (its_reference j other also)
        ∙ none_when (eqb (view_of one.copy).reference (view_of other.copy).reference) (view_of one.copy).reference parts

  -- No two disks differ.
  pub agree_all : (i j : ℕ) (one other : Seated) → slice_get (seated group) i ≡ Some one → slice_get (seated group) j ≡ Some other → difference (view_of one.copy) (view_of other.copy) ≡ None
  agree_all i j one other at also = elim (cases_lt one.seat.slot other.seat.slot) [
    | inl less ↦ agree_less i j one other at also less
    | inr past ↦ elim (cases_lt other.seat.slot one.seat.slot) [
      | inl more ↦
          no_difference (view_of one.copy) (view_of other.copy)
          (agrees_back (view_of other.copy) (view_of one.copy) (agrees (view_of other.copy) (view_of one.copy) (agree_less j i other one also at more)))
      | inr least ↦
          let same_slot : one.seat.slot ≡ other.seat.slot = omega (arith, past, least) in
          let own = (claim i one at).is_newest in
          let its = (claim j other also).is_newest in
          let copies : Some (Level one.copy) ≡ Some (Level other.copy) = some_same own (ap (λ (n : ℕ). slice_get group.newest n) same_slot ∙ its) in
          let copy : one.copy ≡ other.copy = cc in
          ap (λ (other_copy : DiskCopy). difference (view_of one.copy) (view_of other_copy)) (sym copy)
          ∙ no_difference (view_of one.copy) (view_of one.copy) (agrees_self (view_of one.copy))
    ]
  ]

  -- Two disks of one reference are on one slot.
  pub one_slot : (i j : ℕ) (one other : Seated) → slice_get (seated group) i ≡ Some one → slice_get (seated group) j ≡ Some other → one.seat.reference ≡ other.seat.reference → one.seat.slot ≡ other.seat.slot
  one_slot i j one other at also same = elim (cases_lt one.seat.slot other.seat.slot) [
    | inl less ↦ absurd (false≢true (sym (apart_less i j one other at also less) ∙ eq-eqb one.seat.reference other.seat.reference same))
    | inr past ↦ elim (cases_lt other.seat.slot one.seat.slot) [
      | inl more ↦ absurd (false≢true (sym (apart_less j i other one also at more) ∙ eq-eqb other.seat.reference one.seat.reference (sym same)))
      | inr least ↦ omega (arith, past, least)
    ]
  ]
