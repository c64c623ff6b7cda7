-- What contradicts a group, as assembly finds it and as histories tell of it.
use Rattle.std.proofs.Common.{◌≡◌, ℕ, ◌<◌, ◌==◌, Bool, true, false, not, ◌&&◌, ◌||◌, List, length, Option, Some, None, option_map, Err, refl, ap, sym, ◌∙◌, inl, inr, arith, subst}
use Rattle.std.proofs.lemmas.Bool.{cases_lt, and_from, and_parts, eqb-true, eq-eqb, false≢true, false_from_ne_true, not-true, not_from_false, or_left, or_right, true≢false}
use Rattle.std.specs.Prelude.{find}
use Rattle.ddf_lemmas.proofs.Options.{none_from_map, none_some}
use Rattle.ddf_bytes.specs.Choices.{when}
use Rattle.ddf_view.specs.View.{View, lists_missing}
use Rattle.ddf_view.proofs.Tests.{and_three}
use Rattle.ddf_view.specs.Differ.{difference}
use Rattle.ddf_view.specs.declared.difference.Difference.{Difference}
use Rattle.ddf_group.specs.declared.shown.Shown.{Shown as GroupShown}
use Rattle.ddf_group.specs.declared.shown.Shown.TheVariants as shown
use Rattle.ddf_group.specs.declared.answer.Differ.TheVariants as causes
use Rattle.ddf_group.specs.declared.answer.Assembly.{Assembly}
use Rattle.ddf_group.specs.declared.answer.Assembly.TheVariants as faults
use Rattle.ddf_group.specs.Conflicts.{difference_of, differ_at, differ_of, differing, has_two, in_conflict, is_concerned, leads_with_two, lists_disk_missing, lists_missing_in, same_reference, split_from, split_in, splits_from, twin_of, twins, two_copies}
use Rattle.ddf_group.specs.Slots.{claims, leaders, leads, numbers, reference_at, shows_group, slot_at, view_in}
use Rattle.ddf_history.specs.Reading.{IsCopyOf}
use Rattle.ddf_history.specs.Reading.Shown.{One, Differ}
use Rattle.ddf_history.specs.Answer.{HasCopies, HasDispute, HasSplit, HasTwin, IsPart}
use Rattle.ddf_history.specs.Answer.Answer.{Conflict, Split}
use Rattle.ddf_history.specs.Answered.{AreOfOneGroup}
use Rattle.ddf_history.specs.Groups.{groups}
use Rattle.ddf_history.specs.Scenes.{answer_of, scene_in, told_of}
use Rattle.ddf_history.proofs.AnsweredLists.{found_pair, found_passes, found_with, map_some, missed_below, missed_pair, missed_with}
use Rattle.ddf_history.proofs.AnsweredSlots.{claimed_by, claimed_claims, copy_within, first_is_view, is_standing, leader_leads, leading_copy, leads_by, nothing_past, slot_shows, slot_shows_by, view_is_first, IsLeading}
use Rattle.ddf_history.proofs.AnsweredTurned.{difference_turned}

-- ---- one slot

-- A slot has two copies that differ.
two_differ : (one : GroupShown) → has_two one ≡ true → (primary : View) × (secondary : View) × (told_of one ≡ Differ primary secondary)
two_differ shown.Nothing two = absurd (false≢true two)
two_differ (shown.One view) two = absurd (false≢true two)
two_differ (shown.Level view) two = absurd (false≢true two)
two_differ (shown.TwoDiffer primary secondary) two = (primary, secondary, refl)

-- A slot of which two copies differ has two.
differ_two : (one : GroupShown) (primary secondary : View) → told_of one ≡ Differ primary secondary → has_two one ≡ true
differ_two shown.Nothing primary secondary is = absurd cc
differ_two (shown.One view) primary secondary is = absurd cc
differ_two (shown.Level view) primary secondary is = absurd cc
differ_two (shown.TwoDiffer first second) primary secondary is = refl

-- The only copy of a slot.
pub record IsOnly (one : GroupShown) (copy : View) : Type 0 where
  pub is_view : view_in one ≡ Some copy
  pub is_one : told_of one ≡ One copy

-- A copy of a slot without two that differ is its only one.
only_copy : (one : GroupShown) (copy : View) → has_two one ≡ false → IsCopyOf (told_of one) copy → IsOnly one copy
only_copy shown.Nothing copy two is = absurd is
only_copy (shown.One view) copy two is = record { is_view = ap Some (sym is); is_one = ap (λ (view : View). One view) (sym is) }
only_copy (shown.Level view) copy two is = record { is_view = ap Some (sym is); is_one = ap (λ (view : View). One view) (sym is) }
only_copy (shown.TwoDiffer primary secondary) copy two is = absurd (true≢false two)

-- A slot with a copy has one that stands for it.
view_there : (one : GroupShown) (copy : View) → IsCopyOf (told_of one) copy → (view : View) × (view_in one ≡ Some view)
view_there shown.Nothing copy is = absurd is
view_there (shown.One view) copy is = (view, refl)
view_there (shown.Level view) copy is = (view, refl)
view_there (shown.TwoDiffer primary secondary) copy is = (primary, refl)

-- Of a test and a false one the first is the one that holds.
or_first : (b : Bool) → (b || false) ≡ true → b ≡ true
or_first true holds = refl
or_first false holds = holds

-- A copy of a slot lists a disk as missing.
missing_by : (one : GroupShown) (guid : List ℕ) (reference : ℕ) → lists_missing_in one guid reference ≡ true → (copy : View) × IsCopyOf (told_of one) copy × (lists_missing copy guid reference ≡ true)
missing_by shown.Nothing guid reference lists = absurd (false≢true lists)
missing_by (shown.One view) guid reference lists = (view, refl, or_first (lists_missing view guid reference) lists)
missing_by (shown.Level view) guid reference lists = (view, refl, or_first (lists_missing view guid reference) lists)
missing_by (shown.TwoDiffer primary secondary) guid reference lists = go (lists_missing primary guid reference) refl
  where
    go : (b : Bool) → lists_missing primary guid reference ≡ b → (copy : View) × IsCopyOf (told_of (shown.TwoDiffer primary secondary)) copy × (lists_missing copy guid reference ≡ true)
    go true is = (primary, inl refl, is)
    go false is = (secondary, inr refl, or_first (lists_missing secondary guid reference) (rw is at lists))

-- A disk that a copy of a slot lists as missing is listed so in the slot.
missing_in : (one : GroupShown) (copy : View) (guid : List ℕ) (reference : ℕ) → IsCopyOf (told_of one) copy → lists_missing copy guid reference ≡ true → lists_missing_in one guid reference ≡ true
missing_in shown.Nothing copy guid reference is lists = absurd is
missing_in (shown.One view) copy guid reference is lists = or_left (lists_missing view guid reference) false (ap (λ (view : View). lists_missing view guid reference) (sym is) ∙ lists)
missing_in (shown.Level view) copy guid reference is lists = or_left (lists_missing view guid reference) false (ap (λ (view : View). lists_missing view guid reference) (sym is) ∙ lists)
missing_in (shown.TwoDiffer primary secondary) copy guid reference (inl is) lists =
    or_left (lists_missing primary guid reference) (lists_missing secondary guid reference || false) (ap (λ (view : View). lists_missing view guid reference) (sym is) ∙ lists)
missing_in (shown.TwoDiffer primary secondary) copy guid reference (inr is) lists =
    or_right (lists_missing primary guid reference) (lists_missing secondary guid reference || false)
    (or_left (lists_missing secondary guid reference) false (ap (λ (view : View). lists_missing view guid reference) (sym is) ∙ lists))

-- ---- references

-- Two slots have one reference.
same_some : (o p : Option ℕ) (n : ℕ) → same_reference o p ≡ Some n → (o ≡ Some n) × (p ≡ Some n)
same_some None p n same = absurd cc
same_some (Some one) None n same = absurd cc
same_some (Some one) (Some other) n same = go (one == other) refl
  where
    go : (b : Bool) → (one == other) ≡ b → (Some one ≡ Some n) × (Some other ≡ Some n)
    go true is =
        let first : Some one ≡ Some n = rw is at same in
        (first, ap Some (sym (eqb-true one other is)) ∙ first)
    go false is = absurd (let none : None ≡ Some n = rw is at same in cc)

-- Slots with one reference are found so.
same_found : (o p : Option ℕ) (m n : ℕ) → o ≡ Some m → p ≡ Some n → m ≡ n → same_reference o p ≡ None → ⊥
same_found o p m n one other same none =
    let test = eq-eqb m n same in
    let found : when (m == n) m ≡ None = sym (rw (one, other) refl) ∙ none in
    let some : Some m ≡ None = rw test at found in
    absurd cc

module _ (group : List ℕ) (slots : List GroupShown) (alike : AreOfOneGroup slots) where
  -- It is a conflict that assembly answers.
  abbrev pub IsConflict : Assembly → Type 0
  IsConflict fault = answer_of (Err fault) ≡ Conflict

  -- ---- two copies of a leader

  -- Assembly finds a leader with two copies that differ.
  pub copies_found : (fault : Assembly) → two_copies slots group ≡ Some fault → IsConflict fault × HasCopies (groups group) (scene_in slots)
  copies_found fault found =
      let slot = map_some (λ slot. in_conflict slots group slot slot causes.Copies) (find (leads_with_two slots group) (numbers slots)) fault found in
      let parts = and_parts (has_two (slot_at slots slot.0)) (leads slots group slot.0) (found_passes (leads_with_two slots group) (length slots) slot.0 slot.1) in
      let by = leading_copy group slots alike slot.0 parts.1 in
      let differ = two_differ (slot_at slots slot.0) parts.0 in (
        ap (λ (fault : Assembly). answer_of (Err fault)) (sym slot.2),
        record { slot = slot.0; copy = by.0; leads = by.1; primary = differ.0; secondary = differ.1; differ = differ.2 },
      )

  module _ (one_copy : two_copies slots group ≡ None) where
    -- A leader has one copy.
    one_of_leader : (slot : ℕ) → leads slots group slot ≡ true → has_two (slot_at slots slot) ≡ false
    one_of_leader slot leading = false_from_ne_true (has_two (slot_at slots slot)) (λ two.
        let by = leading_copy group slots alike slot leading in
        let none = none_from_map (λ slot. in_conflict slots group slot slot causes.Copies) (find (leads_with_two slots group) (numbers slots)) one_copy in
        let fails = missed_below (leads_with_two slots group) (length slots) none slot (copy_within slots slot by.0 by.1.is_copy) in
        false≢true (sym fails ∙ and_from (has_two (slot_at slots slot)) (leads slots group slot) two leading))

    -- No leader's two copies differ.
    pub no_copies : HasCopies (groups group) (scene_in slots) → ⊥
    no_copies has = false≢true (sym (one_of_leader has.slot (leader_leads group slots alike has.slot has.copy has.leads)) ∙ differ_two (slot_at slots has.slot) has.primary has.secondary has.differ)

    -- The copy of a leader is its only one.
    pub leader_only : (slot : ℕ) (copy : View) → IsLeading group slots alike slot copy → IsOnly (slot_at slots slot) copy
    leader_only slot copy leading = only_copy (slot_at slots slot) copy (one_of_leader slot (leader_leads group slots alike slot copy leading)) leading.is_copy

    -- ---- two leaders that differ

    -- Two copies that stand for slots differ.
    differ_some : (o p : Option View) (found : Difference) → difference_of o p ≡ Some found → (one : View) × (other : View) × (o ≡ Some one) × (p ≡ Some other) × (difference one other ≡ Some found)
    differ_some None p found is = absurd cc
    differ_some (Some one) None found is = absurd cc
    differ_some (Some one) (Some other) found is = (one, other, refl, refl, is)

    -- The copy that stands for a leader leads.
    view_leads : (slot : ℕ) (copy : View) → leads slots group slot ≡ true → view_in (slot_at slots slot) ≡ Some copy → IsLeading group slots alike slot copy
    view_leads slot copy leading is =
        let by = leading_copy group slots alike slot leading in
        let only = leader_only slot by.0 by.1 in
        let both : Some by.0 ≡ Some copy = sym only.is_view ∙ is in
        let same : by.0 ≡ copy = cc in
        subst (λ (view : View). IsLeading group slots alike slot view) same by.1

    -- Assembly finds two leaders that differ.
    pub dispute_found : (fault : Assembly) → differing slots group ≡ Some fault → IsConflict fault × HasDispute (groups group) (scene_in slots)
    unfolding leaders
    dispute_found fault found =
        let pair = found_pair (leads slots group) (differ_at slots group) (length slots) fault found in
        let made = map_some (λ found. in_conflict slots group pair.i pair.j (differ_of found)) (difference_of (view_in (slot_at slots pair.i)) (view_in (slot_at slots pair.j))) fault pair.is_made in
        let both = differ_some (view_in (slot_at slots pair.i)) (view_in (slot_at slots pair.j)) made.0 made.1 in
        let below = pair.below in (
          ap (λ (fault : Assembly). answer_of (Err fault)) (sym made.2),
          record {
            s = pair.i;
            t = pair.j;
            apart = λ (same : pair.i ≡ pair.j). omega arith;
            one = both.0;
            other = both.1;
            one_leads = view_leads pair.i both.0 pair.first_passes both.2;
            other_leads = view_leads pair.j both.1 pair.second_passes both.3;
            differ = λ agree. none_some (difference both.0 both.1) made.0 agree both.4;
          },
        )

    -- Two leaders agree, the lower one first.
    agree_in_order : differing slots group ≡ None → (s t : ℕ) (one other : View) → s < t → IsLeading group slots alike s one → IsLeading group slots alike t other → difference one other ≡ None
    unfolding leaders
    agree_in_order none s t one other less first second =
        let missed = missed_pair (leads slots group) (differ_at slots group) (length slots) none s t less (copy_within slots t other second.is_copy) (leader_leads group slots alike s one first) (leader_leads group slots alike t other second) in
        let nothing = none_from_map (λ found. in_conflict slots group s t (differ_of found)) (difference_of (view_in (slot_at slots s)) (view_in (slot_at slots t))) missed in
        rw ((leader_only s one first).is_view, (leader_only t other second).is_view) at nothing

    -- No two leaders differ.
    pub no_dispute : differing slots group ≡ None → HasDispute (groups group) (scene_in slots) → ⊥
    no_dispute none has = elim (cases_lt has.s has.t) [
      | inl less ↦ has.differ (agree_in_order none has.s has.t has.one has.other less has.one_leads has.other_leads)
      | inr more ↦ elim (cases_lt has.t has.s) [
        | inl less ↦ has.differ (difference_turned has.other has.one (agree_in_order none has.t has.s has.other has.one less has.other_leads has.one_leads))
        | inr also ↦ absurd (has.apart (omega arith))
      ]
    ]

    -- ---- an older slot that lists a leader as missing

    -- What lists a leader's disk as missing lists the disk of a copy.
    missing_disk : (one : GroupShown) (o : Option View) → lists_disk_missing one o ≡ true → (disk : View) × (o ≡ Some disk) × (lists_missing_in one disk.guid disk.reference ≡ true)
    missing_disk one None lists = absurd (false≢true lists)
    missing_disk one (Some disk) lists = (disk, refl, lists)

    -- A slot that doesn't lead is older than a leader.
    not_leading_older : (s t : ℕ) (older leading : View) → leads slots group s ≡ false → IsCopyOf (scene_in slots s) older → is_standing group older ≡ true → IsLeading group slots alike t leading → older.sequence < leading.sequence
    not_leading_older s t older leading not_leads is standing leader = elim (cases_lt older.sequence leading.sequence) [
      | inl less ↦ less
      | inr more ↦
          let also : IsLeading group slots alike s older = record { is_copy = is; is_standing = standing; greatest = λ u other is_other stands. (let le = leader.greatest u other is_other stands in omega arith) } in
          absurd (false≢true (sym not_leads ∙ leader_leads group slots alike s older also))
    ]

    -- A slot that is older than a leader doesn't lead.
    older_not_leading : (s t : ℕ) (older leading : View) → IsCopyOf (scene_in slots s) older → is_standing group older ≡ true → IsLeading group slots alike t leading → older.sequence < leading.sequence → leads slots group s ≡ false
    older_not_leading s t older leading is standing leader less = false_from_ne_true (leads slots group s) (λ leads_too.
        let le = (leads_by group slots alike s older leads_too is standing).greatest t leading leader.is_copy leader.is_standing in
        omega arith)

    -- Assembly finds an older slot that lists a leader as missing.
    pub split_found : (fault : Assembly) → split_in slots group ≡ Some fault → (answer_of (Err fault) ≡ Split) × HasSplit (groups group) (scene_in slots)
    unfolding leaders
    split_found fault found =
        let leader = found_with (leads slots group) (split_from slots group) (length slots) fault found in
        let slot = map_some (λ slot. faults.Split leader.0 slot) (find (splits_from slots group leader.0) (numbers slots)) fault leader.2 in
        split_at leader.0 slot.0 leader.1 (found_passes (splits_from slots group leader.0) (length slots) slot.0 slot.1) (ap (λ (fault : Assembly). answer_of (Err fault)) (sym slot.2))
      where
        split_at : (leader slot : ℕ) → leads slots group leader ≡ true → splits_from slots group leader slot ≡ true → answer_of (Err fault) ≡ Split → (answer_of (Err fault) ≡ Split) × HasSplit (groups group) (scene_in slots)
        split_at leader slot leading splits answer =
            let parts = and_three (shows_group group (slot_at slots slot)) (lists_disk_missing (slot_at slots slot) (view_in (slot_at slots leader))) (not (leads slots group slot)) splits in
            let disk = missing_disk (slot_at slots slot) (view_in (slot_at slots leader)) parts.1 in
            let by = missing_by (slot_at slots slot) disk.0.guid disk.0.reference disk.2 in
            let shows = slot_shows_by group slots alike slot parts.0 in
            let leads_there = view_leads leader disk.0 leading disk.1 in (
              answer,
              record {
                s = slot;
                t = leader;
                older = shows.0;
                leading = disk.0;
                is_copy = shows.1;
                is_standing = shows.2;
                leads = leads_there;
                is_older = not_leading_older slot leader shows.0 disk.0 (not-true (leads slots group slot) parts.2) shows.1 shows.2 leads_there;
                missing = by.0;
                is_missing = by.1;
                misses = by.2;
              },
            )

    -- No older slot lists a leader as missing.
    pub no_split : split_in slots group ≡ None → HasSplit (groups group) (scene_in slots) → ⊥
    unfolding leaders
    no_split none has =
        let leading = leader_leads group slots alike has.t has.leading has.leads in
        let missed = missed_with (leads slots group) (split_from slots group) (length slots) none has.t (copy_within slots has.t has.leading has.leads.is_copy) leading in
        let nothing = none_from_map (λ slot. faults.Split has.t slot) (find (splits_from slots group has.t) (numbers slots)) missed in
        let fails = missed_below (splits_from slots group has.t) (length slots) nothing has.s (copy_within slots has.s has.older has.is_copy) in
        let shows = slot_shows group slots alike has.s has.older has.is_copy has.is_standing in
        let lists = missing_in (slot_at slots has.s) has.missing has.leading.guid has.leading.reference has.is_missing has.misses in
        let there : lists_disk_missing (slot_at slots has.s) (view_in (slot_at slots has.t)) ≡ true = rw (leader_only has.t has.leading has.leads).is_view lists in
        let older = older_not_leading has.s has.t has.older has.leading has.is_copy has.is_standing has.leads has.is_older in
        let splits = and_from (shows_group group (slot_at slots has.s) && lists_disk_missing (slot_at slots has.s) (view_in (slot_at slots has.t))) (not (leads slots group has.s))
        (and_from (shows_group group (slot_at slots has.s)) (lists_disk_missing (slot_at slots has.s) (view_in (slot_at slots has.t))) shows there) (not_from_false (leads slots group has.s) older) in
        false≢true (sym fails ∙ splits)

  -- ---- two slots of one reference

  -- A slot past the last has no reference.
  reference_within : (slot n : ℕ) → reference_at slots slot ≡ Some n → slot < length slots
  reference_within slot n is = elim (cases_lt slot (length slots)) [
    | inl less ↦ less
    | inr past ↦ absurd (none_some (reference_at slots slot) n (ap (λ (one : GroupShown). option_map (λ view. view.reference) (view_in one)) (nothing_past slots slot past)) is)
  ]

  -- A slot that the group concerns is a part of it, by a copy with its reference.
  concerned_part : (slot n : ℕ) → is_concerned slots group slot ≡ true → reference_at slots slot ≡ Some n → (copy : View) × IsPart (groups group) (scene_in slots) slot copy × (copy.reference ≡ n)
  concerned_part slot n concerns is = go (shows_group group (slot_at slots slot)) refl
    where
      same : (copy : View) → reference_at slots slot ≡ Some copy.reference → copy.reference ≡ n
      same copy also = let both : Some copy.reference ≡ Some n = sym also ∙ is in cc

      go : (b : Bool) → shows_group group (slot_at slots slot) ≡ b → (copy : View) × IsPart (groups group) (scene_in slots) slot copy × (copy.reference ≡ n)
      go true shows =
          let by = slot_shows_by group slots alike slot shows in
          let view = view_there (slot_at slots slot) by.0 by.1 in
          (view.0, inl (view_is_first (slot_at slots slot) view.0 view.1, record { copy = by.0; is_copy = by.1; is_standing = by.2 }), same view.0 (ap (option_map (λ (view : View). view.reference)) view.1))
      go false shows =
          let by = claimed_by group slots alike slot (rw shows at concerns) in
          (by.0, inr by.2, same by.0 (ap (option_map (λ (view : View). view.reference)) by.1))

  -- Two slots of one reference that the group concerns are a twin.
  twin_at : (i j n : ℕ) → i < j → is_concerned slots group i ≡ true → is_concerned slots group j ≡ true → reference_at slots i ≡ Some n → reference_at slots j ≡ Some n → HasTwin (groups group) (scene_in slots)
  twin_at i j n below first second here there =
      let one = concerned_part i n first here in
      let other = concerned_part j n second there in
      record { s = i; t = j; apart = λ (same : i ≡ j). omega arith; one = one.0; other = other.0; one_is = one.1; other_is = other.1; same = one.2 ∙ sym other.2 }

  -- Assembly finds two slots of one reference.
  pub twins_found : (fault : Assembly) → twins slots group ≡ Some fault → IsConflict fault × HasTwin (groups group) (scene_in slots)
  twins_found fault found =
      let pair = found_pair (is_concerned slots group) (twin_of slots group) (length slots) fault found in
      let made = map_some (λ reference. in_conflict slots group pair.i pair.j (causes.Twin reference)) (same_reference (reference_at slots pair.i) (reference_at slots pair.j)) fault pair.is_made in
      let both = same_some (reference_at slots pair.i) (reference_at slots pair.j) made.0 made.1 in
      (ap (λ (fault : Assembly). answer_of (Err fault)) (sym made.2), twin_at pair.i pair.j made.0 pair.below pair.first_passes pair.second_passes both.0 both.1)

  -- A part of the group is a slot that it concerns, with the reference of its copy.
  part_concerned : (slot : ℕ) (copy : View) → IsPart (groups group) (scene_in slots) slot copy → (is_concerned slots group slot ≡ true) × (reference_at slots slot ≡ Some copy.reference)
  part_concerned slot copy (inl by) = (
    or_left (shows_group group (slot_at slots slot)) (claims slots group slot) (slot_shows group slots alike slot by.1.copy by.1.is_copy by.1.is_standing),
    ap (option_map (λ (view : View). view.reference)) (first_is_view (slot_at slots slot) copy by.0),
  )
  part_concerned slot copy (inr by) = (
    or_right (shows_group group (slot_at slots slot)) (claims slots group slot) (claimed_claims group slots alike slot copy by),
    ap (option_map (λ (view : View). view.reference)) (first_is_view (slot_at slots slot) copy by.is_first),
  )

  -- Two parts of the group have two references, the lower slot first.
  apart_in_order : twins slots group ≡ None → (s t : ℕ) (one other : View) → s < t → IsPart (groups group) (scene_in slots) s one → IsPart (groups group) (scene_in slots) t other → one.reference ≡ other.reference → ⊥
  apart_in_order none s t one other less first second same =
      let here = part_concerned s one first in
      let there = part_concerned t other second in
      let missed = missed_pair (is_concerned slots group) (twin_of slots group) (length slots) none s t less (reference_within t other.reference there.1) here.0 there.0 in
      let nothing = none_from_map (λ reference. in_conflict slots group s t (causes.Twin reference)) (same_reference (reference_at slots s) (reference_at slots t)) missed in
      same_found (reference_at slots s) (reference_at slots t) one.reference other.reference here.1 there.1 same nothing

  -- No two parts have one reference.
  pub no_twin : twins slots group ≡ None → HasTwin (groups group) (scene_in slots) → ⊥
  no_twin none has = elim (cases_lt has.s has.t) [
    | inl less ↦ apart_in_order none has.s has.t has.one has.other less has.one_is has.other_is has.same
    | inr more ↦ elim (cases_lt has.t has.s) [
      | inl less ↦ apart_in_order none has.t has.s has.other has.one less has.other_is has.one_is (sym has.same)
      | inr also ↦ absurd (has.apart (omega arith))
    ]
  ]
