-- The start of a history: a group that was founded, or one from elsewhere.
use Rattle.std.proofs.Common.{◌≡◌, ◌≢◌, ℕ, zero, suc, ◌<◌, ◌≤◌, ◌==◌, ◌&&◌, ◌∷◌, [], Bool, not, true, false, if◌then◌else◌, Some, slice_get, refl, sym, ap, ◌∙◌, inl, inr, ⊎_elim, arith, subst}
use Rattle.std.proofs.lemmas.Bool.{cases_eq, and_from, and_parts, eqb-true, eq-eqb, or_from}
use Rattle.std.proofs.lemmas.Option.{same_Some}
use Rattle.ddf_history.specs.Reading.{Reading, Scene, Shown, IsCopyOf, IsFirstOf, IsSound, stands}
use Rattle.ddf_history.specs.Reading.Shown.{Nothing, One, Differ}
use Rattle.ddf_history.specs.Issued.{Past, IsSince, IsChain, is_away}
use Rattle.ddf_history.specs.Leaders.{seen, leading_copy, leading_copies}
use Rattle.ddf_history.specs.Promise.{IsKept, IsOn, IsOutside, IsLagging, IsRight}
use Rattle.ddf_history.specs.Answer.{IsLeader, IsPart}
use Rattle.ddf_history.specs.Calls.{IsStart, IsFounded, IsFound}
use Rattle.ddf_history.proofs.Since.{first_is_copy, first_there, which}
use Rattle.ddf_history.proofs.Leading.{same_leading}

-- A list of one element has no other.
only_one : {A : Type 0} (x y : A) (i : ℕ) → slice_get (x ∷ []) i ≡ Some y → (i ≡ 0) × (y ≡ x)
only_one x y zero e = (refl, same_Some y x (sym e))
only_one x y (suc i) e = absurd cc

module _ (r : Reading) (sound : IsSound r) (past : Past r) (scene : Scene r.Copy) (c : r.Config) (start : IsStart past c) where
  -- Only the first configuration was issued.
  only : (i : ℕ) (d : r.Config) → IsSince past.changes i d → (i ≡ 0) × (d ≡ c)
  only i d at = only_one c d i (rw start.issued_is at at.is_there)

  -- It is the last acknowledged one.
  first_is : slice_get past.changes.issued past.changes.acked ≡ Some c
  first_is = rw (start.issued_is, start.acked_is) refl

  -- It is one since itself.
  since_first : IsSince past.changes 0 c
  since_first = record { late = omega (arith, start.acked_is); is_there = rw start.issued_is refl }

  -- No slot is away.
  here : (s : ℕ) → is_away past s ≡ false
  here s = or_from _ _ (start.lost_none s) (start.returned_none s)

  -- One configuration is a chain.
  chain : IsChain past.changes
  chain = record {
    rises = λ i j d e at there lt. absurd (omega (arith, (only i d at).0, (only j e there).0));
    stays_missing = λ i j d e disk at there le gone now. sound.not_both c disk (rw (only j e there).1 at now) (rw (only i d at).1 at gone);
    stays_gone = λ i j l d e f disk at mid there le le' first later. rw (only j e mid).1 (rw (only i d at).1 at first);
    joins_first = λ i j d e disk at there le less now. absurd (omega (arith, (only i d at).0));
    one_reference = λ i j d e one other at there has has' same. sound.one_reference c one other (rw (only i d at).1 at has) (rw (only j e there).1 at has') same;
  }

  -- No member is in two slots.
  first_alone : (s t j : ℕ) (d : r.Config) → IsSince past.changes j d → r.has_current d (past.disk s) ≡ true → past.disk s ≡ past.disk t → s ≡ t
  first_alone s t j d at now same = start.alone s t (rw (only j d at).1 at now) same

  -- No slot has returned.
  none_gone : (s j : ℕ) (d : r.Config) → past.returned s ≡ true → IsSince past.changes j d → r.has_missing d (past.disk s) ≡ true
  none_gone s j d back at = let stays = start.returned_none s in absurd cc

  -- No disk joins.
  none_enters : (s t : ℕ) → is_away past s ≡ false → is_away past t ≡ false → IsOn past.changes (past.disk s) (scene s) → r.has_current c (past.disk s) ≡ false
      → (on : IsOn past.changes (past.disk t) (scene t)) → r.has_current c (past.disk t) ≡ true → past.changes.acked < on.number
  none_enters s t is_here there on joins other native = let now : r.has_current c (past.disk s) ≡ true = rw (only on.number on.config on.since).1 at on.is_member in absurd cc

  -- The last acknowledged configuration is the first one.
  last_c : (d : r.Config) → slice_get past.changes.issued past.changes.acked ≡ Some d → d ≡ c
  last_c d at = same_Some d c (sym at ∙ first_is)

  -- ---- a new group

  module _ (founded : IsFounded past scene c) where
    -- A member of a new group shows one copy.
    shown_copy : (s : ℕ) (now : r.has_current c (past.disk s) ≡ true) (copy : r.Copy) → IsCopyOf (scene s) copy → copy ≡ (founded.members s now).copy
    shown_copy s now copy is = subst (λ (x : Shown r.Copy). IsCopyOf x copy) (founded.members s now).is_only is

    -- A slot that shows a new group is a member.
    stands_member : (s : ℕ) (copy : r.Copy) → IsCopyOf (scene s) copy → stands r copy ≡ true → r.has_current c (past.disk s) ≡ true
    stands_member s copy is stand = elim (which (r.has_current c (past.disk s))) [
      | inl now ↦ now
      | inr out ↦ absurd (founded.others s copy out is stand)
    ]

    -- With a new group each slot shows what it should.
    pub founded_kept : IsKept past scene
    founded_kept = record {
      last = c;
      is_last = first_is;
      own_next = omega (arith, start.own);
      chain = chain;
      each = λ s is_here. elim (which (r.has_current c (past.disk s))) [
        | inl now ↦ let shown = founded.members s now in inl (record { number = 0; config = c; since = since_first; copy = shown.copy; is_only = shown.is_only; is_ours = shown.is_ours; names = shown.names; shows = shown.shows; is_full = λ own. shown.is_full tt; is_member = now })
        | inr out ↦ inr (inl (record {
          no_member = λ d at now. let is : r.has_current c (past.disk s) ≡ true = rw (last_c d at) at now in absurd cc;
          shows_some = λ i d at now. let is : r.has_current c (past.disk s) ≡ true = rw (only i d at).1 at now in absurd cc;
          joins_later = λ i d copy at now. let is : r.has_current c (past.disk s) ≡ true = rw (only i d at).1 at now in absurd cc;
          is_behind = λ copy is stand. absurd (founded.others s copy out is stand);
          misses_none = λ copy i d member is shows. absurd (founded.others s shows.copy out shows.is_copy shows.is_standing);
        }))
      ];
      agree = λ s t i one other d apart one_stands other_stands at one_shows other_shows. founded.agree s t one other apart one_stands other_stands;
      apart = λ s t one other apart one_stands other_stands same.
          let now = stands_member s one one_stands.is_copy one_stands.is_standing in
          let now' = stands_member t other other_stands.is_copy other_stands.is_standing in
          apart (start.alone s t now (sound.one_reference c (past.disk s) (past.disk t) now now' same));
      named = λ s copy is which_is. elim (which (r.has_current c (past.disk s))) [
        | inl now ↦ ap r.disk_of (shown_copy s now copy is) ∙ (founded.members s now).names
        | inr out ↦ absurd (⊎_elim (λ shows. founded.others s shows.copy out shows.is_copy shows.is_standing) (λ member. founded.names_none s copy out is (rw (only member.0 member.1 member.2).1 at member.3)) which_is)
      ];
      alone = first_alone;
      gone = none_gone;
      entered = none_enters;
      remain = λ i d joined s at now fresh. let is : r.has_current c joined ≡ true = rw (only i d at).1 at now in absurd cc;
      give = λ young. absurd (omega (arith, founded.own));
    }

  -- ---- a group from elsewhere

  module _ (found : IsFound past scene c) where
    -- The leaders of a found group have the sequence that is read.
    leading_is : r.sequence_of found.is_read.leading ≡ r.sequence c
    leading_is = sound.same_sequence found.is_read.leading c (found.leaders_show found.is_read.leader found.is_read.leading found.is_read.leads)

    -- A slot that shows the group with this sequence leads.
    leads : (s : ℕ) (copy : r.Copy) → IsCopyOf (scene s) copy → stands r copy ≡ true → r.sequence_of copy ≡ r.sequence c → IsLeader r scene s copy
    leads s copy is stand same = record { is_copy = is; is_standing = stand; greatest = λ t other is_other on_other. let le = found.is_read.leads.greatest t other is_other on_other in omega (arith, leading_is) }

    -- No slot that shows the group has a greater sequence.
    most : (s : ℕ) (copy : r.Copy) → IsCopyOf (scene s) copy → stands r copy ≡ true → r.sequence_of copy ≤ r.sequence c
    most s copy is stand = let le = found.is_read.leads.greatest s copy is stand in omega (arith, leading_is)

    -- A member that shows no such copy lags.
    lagging : (s : ℕ) → r.has_current c (past.disk s) ≡ true → ((copy : r.Copy) → IsCopyOf (scene s) copy → stands r copy ≡ true → r.sequence_of copy ≢ r.sequence c) → IsLagging past.changes (past.disk s) (scene s)
    lagging s now differs = record {
      is_young = omega (arith, found.own, start.acked_is);
      shows_some = found.members s now;
      is_member = λ d at. rw (last_c d at) now;
      is_older = λ copy d is stand at. let le = most s copy is stand in let apart = differs copy is stand in rw (last_c d at) (omega arith);
      misses_none = λ copy i d member is shows at has missing. found.misses_none s copy member is shows (rw (only i d at).1 at has) missing;
    }

    -- A member that shows such a copy alone shows the configuration.
    on_first : (s : ℕ) (copy : r.Copy) → scene s ≡ One copy → stands r copy ≡ true → r.sequence_of copy ≡ r.sequence c → r.has_current c (past.disk s) ≡ true → IsOn past.changes (past.disk s) (scene s)
    on_first s copy only_is stand same now =
        let is : IsCopyOf (scene s) copy = rw only_is refl in
        record {
          number = 0;
          config = c;
          since = since_first;
          copy = copy;
          is_only = only_is;
          is_ours = (and_parts _ _ stand).0;
          names = found.named s copy is;
          shows = found.leaders_show s copy (leads s copy is stand same);
          is_full = λ own. absurd (omega (arith, own, found.own));
          is_member = now;
        }

    -- A member shows what it should.
    member_right : (s : ℕ) (shown : Shown r.Copy) → scene s ≡ shown → r.has_current c (past.disk s) ≡ true → IsRight past.changes (past.disk s) (scene s)
    member_right s Nothing at now = inr (inr (lagging s now (λ copy is. absurd (subst (λ (x : Shown r.Copy). IsCopyOf x copy) at is))))
    member_right s (One x) at now = elim (which (stands r x && (r.sequence_of x == r.sequence c))) [
      | inl both ↦ let parts = and_parts (stands r x) (r.sequence_of x == r.sequence c) both in inl (on_first s x at parts.0 (eqb-true _ _ parts.1) now)
      | inr differ ↦ inr (inr (lagging s now (λ copy is stand same.
          let copy_is : copy ≡ x = subst (λ (y : Shown r.Copy). IsCopyOf y copy) at is in
          let both : (stands r x && (r.sequence_of x == r.sequence c)) ≡ true = and_from (stands r x) (r.sequence_of x == r.sequence c) (rw copy_is at stand) (eq_test (r.sequence_of x) (r.sequence c) (rw copy_is at same)) in
          absurd cc)))
    ]
      where
        eq_test : (m n : ℕ) → m ≡ n → (m == n) ≡ true
        eq_test m n e = eq-eqb m n e
    member_right s (Differ p q) at now = inr (inr (lagging s now (λ copy is stand same.
        found.is_read.no_conflict (inl (record { slot = s; copy = copy; leads = leads s copy is stand same; primary = p; secondary = q; differ = at })))))

    -- So does a slot that is no member.
    outside_right : (s : ℕ) → r.has_current c (past.disk s) ≡ false → IsOutside past.changes (past.disk s) (scene s)
    outside_right s out = record {
      no_member = λ d at now. no_now (rw (last_c d at) at now);
      shows_some = λ i d at now. absurd (no_now (rw (only i d at).1 at now));
      joins_later = λ i d copy at now. absurd (no_now (rw (only i d at).1 at now));
      is_behind = λ copy is stand. record {
        is_older = λ d at. rw (last_c d at) (elim (cases_eq (r.sequence_of copy) (r.sequence c)) [
          | inl same ↦
              let shows = found.leaders_show s copy (leads s copy is stand same) in
              let listed = (and_parts _ _ stand).1 in
              let now : r.has_current c (past.disk s) ≡ true = rw (found.named s copy is) at (sym (sound.same_current copy c (r.disk_of copy) shows) ∙ listed) in
              absurd (no_now now)
          | inr differ ↦ let le = most s copy is stand in omega arith
        ]);
        is_other = λ i d member at has same.
            let there = found.are_present member (rw (only i d at).1 at has) in
            let first = first_there (scene s) copy is in
            let first_is = found.named s first.0 (first_copy (scene s) first.0 first.1) in
            let references : r.reference (r.disk_of there.1) ≡ r.reference (r.disk_of first.0) = ap r.reference there.3 ∙ same ∙ ap r.reference (sym first_is) in
            let apart : there.0 ≢ s = λ (e : there.0 ≡ s).
            let part_copy = part_is there.0 there.1 there.2 in
            let disks : past.disk s ≡ member = ap past.disk (sym e) ∙ sym (found.named there.0 there.1 part_copy) ∙ there.3 in
            no_now (rw disks (rw (only i d at).1 at has)) in
            found.is_read.no_conflict (inr (inl (record { s = there.0; t = s; apart = apart; one = there.1; other = first.0; one_is = there.2; other_is = inl (first.1, record { copy = copy; is_copy = is; is_standing = stand }); same = references })));
      };
      misses_none = λ copy i d member is shows at has missing. found.misses_none s copy member is shows (rw (only i d at).1 at has) missing;
    }
      where
        no_now : r.has_current c (past.disk s) ≡ true → ⊥
        no_now now = absurd cc

        first_copy : (shown : Shown r.Copy) (copy : r.Copy) → Rattle.ddf_history.specs.Reading.IsFirstOf shown copy → IsCopyOf shown copy
        first_copy Nothing copy is = is
        first_copy (One x) copy is = is
        first_copy (Differ p q) copy is = inl is

        part_is : (t : ℕ) (copy : r.Copy) → IsPart r scene t copy → IsCopyOf (scene t) copy
        part_is t copy (inl shows) = first_copy (scene t) copy shows.0
        part_is t copy (inr claimed) = first_copy (scene t) copy claimed.is_first

    -- The first copy of a slot names its disk.
    first_named : (s : ℕ) (copy : r.Copy) (is : IsCopyOf (scene s) copy) → r.disk_of (first_there (scene s) copy is).0 ≡ past.disk s
    first_named s copy is = found.named s (first_there (scene s) copy is).0 (first_is_copy (scene s) (first_there (scene s) copy is).0 (first_there (scene s) copy is).1)

    -- All slots are seen.
    all_here : (s : ℕ) → (if not (is_away past s) then scene s else Nothing) ≡ scene s
    all_here s = ap (λ (b : Bool). if not b then scene s else Nothing) (here s)

    -- With a found group each slot shows what it should.
    pub found_kept : IsKept past scene
    found_kept = record {
      last = c;
      is_last = first_is;
      own_next = omega (arith, start.own);
      chain = chain;
      each = λ s is_here. elim (which (r.has_current c (past.disk s))) [
        | inl now ↦ member_right s (scene s) refl now
        | inr out ↦ inr (inl (outside_right s out))
      ];
      agree = λ s t i one other d apart one_stands other_stands at one_shows other_shows. ⊎_elim
          (λ agree. agree)
          (λ differ.
          let one_same : r.sequence_of one ≡ r.sequence c = sound.same_sequence one d one_shows ∙ ap r.sequence (only i d at).1 in
          let other_same : r.sequence_of other ≡ r.sequence c = sound.same_sequence other d other_shows ∙ ap r.sequence (only i d at).1 in
          absurd (found.is_read.no_conflict (inr (inr (record {
            s = s;
            t = t;
            apart = apart;
            one = one;
            other = other;
            one_leads = leads s one one_stands.is_copy one_stands.is_standing one_same;
            other_leads = leads t other other_stands.is_copy other_stands.is_standing other_same;
            differ = differ;
          })))))
          (found.agree_or one other);
      apart = λ s t one other apart one_stands other_stands same. found.is_read.no_conflict (inr (inl (record {
        s = s;
        t = t;
        apart = apart;
        one = (first_there (scene s) one one_stands.is_copy).0;
        other = (first_there (scene t) other other_stands.is_copy).0;
        one_is = inl ((first_there (scene s) one one_stands.is_copy).1, record { copy = one; is_copy = one_stands.is_copy; is_standing = one_stands.is_standing });
        other_is = inl ((first_there (scene t) other other_stands.is_copy).1, record { copy = other; is_copy = other_stands.is_copy; is_standing = other_stands.is_standing });
        same = ap r.reference (first_named s one one_stands.is_copy) ∙ same ∙ ap r.reference (sym (first_named t other other_stands.is_copy));
      })));
      named = λ s copy is which_is. found.named s copy is;
      alone = first_alone;
      gone = none_gone;
      entered = none_enters;
      remain = λ i d joined s at now fresh. let is : r.has_current c joined ≡ true = rw (only i d at).1 at now in absurd cc;
      give = λ young none.
          ap r.read (same_leading r (r.sequence c) (seen (λ s. not (is_away past s)) scene) scene (λ s. ap (leading_copy r (r.sequence c)) (all_here s)) past.slots)
          ∙ ap (λ (n : ℕ). r.read (leading_copies r n scene past.slots)) (sym leading_is) ∙ found.is_read.is_read;
    }
