-- Copies of an issued configuration are written, to whichever of its seats.
use Rattle.std.proofs.Common.{◌≡◌, ◌≢◌, ◌⊎◌, ℕ, ◌<◌, ◌≤◌, Bool, not, true, false, if◌then◌else◌, refl, sym, ap, ◌∙◌, inl, inr, ⊎_elim, arith, subst}
use Rattle.std.proofs.lemmas.Bool.{and_from, cases_eq, cases_lt}
use Rattle.ddf_history.specs.Reading.{Reading, Scene, Shown, ShowsGroup, IsCopyOf, IsSound, stands}
use Rattle.ddf_history.specs.Reading.Shown.{Nothing, One}
use Rattle.ddf_history.specs.Issued.{Changes, Past, IsSince, is_away}
use Rattle.ddf_history.specs.Promise.{IsKept, IsNamed, IsOn, IsRight, IsStanding}
use Rattle.ddf_history.specs.Leaders.{seen, leading_copy, leading_copies}
use Rattle.ddf_history.specs.Steps.{IsPart, AreWritten, MayWrite, JoinLast, GivesAfter}
use Rattle.ddf_history.proofs.Since.{in_order, same_number, same_sequence_same, last_since, on_copy}
use Rattle.ddf_history.proofs.Leading.{none_leading, same_leading}

-- A single copy is one thing.
pub one_is : {A : Type 0} (x y : A) → One x ≡ One y → x ≡ y
one_is x y e = cc

-- what a slot shows of two copies is one of them
part_copy : {A : Type 0} (before after : Shown A) → IsPart before after → (copy : A) → IsCopyOf after copy → IsCopyOf before copy
part_copy before after part copy is =
    let same : copy ≡ part.copy = subst (λ (s : Shown _). IsCopyOf s copy) part.is_only is in
    subst (IsCopyOf before) (sym same) part.is_copy

module _ {r : Reading} (changes : Changes r) (disk : r.Disk) (before after : Shown r.Copy) (part : IsPart before after) where
  -- A slot that shows a configuration goes on to show it.
  abbrev part_on : IsOn changes disk before → IsOn changes disk after
  part_on on = record {
    number = on.number;
    config = on.config;
    since = on.since;
    copy = on.copy;
    is_only = part.is_only ∙ ap (λ (x : r.Copy). One x) (on_copy disk before on part.copy part.is_copy);
    is_ours = on.is_ours;
    names = on.names;
    shows = on.shows;
    is_full = on.is_full;
    is_member = on.is_member;
  }

  -- The copy that is left is shown.
  only_copy : IsCopyOf after part.copy
  only_copy = rw part.is_only refl

  -- Copies that name a disk go on to name it.
  part_named : IsNamed r disk before → IsNamed r disk after
  part_named named = record { copy = part.copy; is_copy = only_copy; all = λ other is. named.all other (part_copy before after part other is) }

  -- A slot that shows the group showed it.
  part_shows : ShowsGroup r after → ShowsGroup r before
  part_shows shows = record { copy = shows.copy; is_copy = part_copy before after part shows.copy shows.is_copy; is_standing = shows.is_standing }

  -- a slot that shows less of what it showed is as it should
  pub part_right : IsRight changes disk before → IsRight changes disk after
  part_right (inl on) = inl (part_on on)
  part_right (inr (inl outside)) = inr (inl (record {
    no_member = outside.no_member;
    shows_some = λ j c at current. part_named (outside.shows_some j c at current);
    joins_later = λ j c copy at current is. outside.joins_later j c copy at current (part_copy before after part copy is);
    is_behind = λ copy is. outside.is_behind copy (part_copy before after part copy is);
    misses_none = λ copy j c member is shows. outside.misses_none copy j c member (part_copy before after part copy is) (part_shows shows);
  }))
  part_right (inr (inr lagging)) = inr (inr (record {
    is_young = lagging.is_young;
    shows_some = part_named lagging.shows_some;
    is_member = lagging.is_member;
    is_older = λ copy c is. lagging.is_older copy c (part_copy before after part copy is);
    misses_none = λ copy j c member is shows. lagging.misses_none copy j c member (part_copy before after part copy is) (part_shows shows);
  }))

module _ (r : Reading) (sound : IsSound r) (past : Past r) (before after : Scene r.Copy) (kept : IsKept past before) (j : ℕ) (c : r.Config) (seats : ℕ → Bool) (new : ℕ → r.Copy)
    (may : MayWrite past before j c seats new) (written : AreWritten seats new before after) where
  -- a copy that stands after it stood before, or is new
  abbrev IsEither : ℕ → r.Copy → Type 0
  IsEither s copy = IsStanding past before s copy ⊎ ((seats s ≡ true) × (copy ≡ new s))

  -- A copy that is shown after was shown before, or is new.
  copy_either : (s : ℕ) (copy : r.Copy) → IsCopyOf (after s) copy → IsCopyOf (before s) copy ⊎ ((seats s ≡ true) × (copy ≡ new s))
  copy_either s copy is = ⊎_elim
      (λ same. inl (subst (λ (shown : Shown r.Copy). IsCopyOf shown copy) same is))
      (λ wrote. ⊎_elim
      (λ part. inl (part_copy (before s) (after s) part copy is))
      (λ only. inr (wrote.0, subst (λ (shown : Shown r.Copy). IsCopyOf shown copy) only is))
      wrote.1)
      (written s)

  -- So is one by which a disk shows the group.
  either : (s : ℕ) (copy : r.Copy) → IsStanding past after s copy → IsEither s copy
  either s copy stand = ⊎_elim (λ was. inl (record { is_here = stand.is_here; is_copy = was; is_standing = stand.is_standing })) inr (copy_either s copy stand.is_copy)

  -- whoever shows a configuration beside a new copy shows that one
  shows_that : (s : ℕ) (copy : r.Copy) (i : ℕ) (d : r.Config) → seats s ≡ true → IsSince past.changes i d → r.Shows (new s) d → r.Shows copy d → r.Shows copy c
  shows_that s copy i d seat at new_is copy_is =
      let one = sound.same_sequence (new s) c (may.show s seat) in
      let other = sound.same_sequence (new s) d new_is in
      let same = same_sequence_same kept.chain i j d c at may.at_last.since (omega arith) in
      subst (r.Shows copy) same.1 copy_is

  -- Slots that show one configuration agree after.
  agree_after : (s t i : ℕ) (one other : r.Copy) (d : r.Config) → s ≢ t → IsStanding past after s one → IsStanding past after t other → IsSince past.changes i d → r.Shows one d → r.Shows other d → r.Agree one other
  agree_after s t i one other d apart one_stands other_stands at one_shows other_shows = both (either s one one_stands) (either t other other_stands)
    where
      both : IsEither s one → IsEither t other → r.Agree one other
      both (inl old) (inl older) = kept.agree s t i one other d apart old older at one_shows other_shows
      both (inl old) (inr wrote) =
          let shows = shows_that t one i d wrote.0 at (rw wrote.1 at other_shows) one_shows in
          rw wrote.1 (may.agree_after t s one (λ same. apart (sym same)) wrote.0 old shows)
      both (inr wrote) (inl old) =
          let shows = shows_that s other i d wrote.0 at (rw wrote.1 at one_shows) other_shows in
          rw wrote.1 (may.agree_before s t other apart wrote.0 old shows)
      both (inr one_wrote) (inr other_wrote) = rw (one_wrote.1, other_wrote.1) (may.agree s t apart one_wrote.0 other_wrote.0)

  -- a slot that gets a copy has a reference of its own
  member_apart : (s t : ℕ) (other : r.Copy) → s ≢ t → seats s ≡ true → IsStanding past before t other → r.reference (past.disk s) ≢ r.reference (past.disk t)
  member_apart s t other apart seat stand same = ⊎_elim
      (λ on. apart (kept.alone s t j c may.at_last.since (may.are_members s seat) (kept.chain.one_reference j on.number c on.config (past.disk s) (past.disk t) may.at_last.since on.since (may.are_members s seat) on.is_member same)))
      (⊎_elim
      (λ outside. (outside.is_behind other stand.is_copy stand.is_standing).is_other j c (past.disk s) may.at_last.since (may.are_members s seat) same)
      (λ lagging.
      let member = lagging.is_member kept.last kept.is_last in
      apart (kept.alone s t j c may.at_last.since (may.are_members s seat) (kept.chain.one_reference j past.changes.acked c kept.last (past.disk s) (past.disk t) may.at_last.since (last_since past before kept) (may.are_members s seat) member same))))
      (kept.each t stand.is_here)

  -- No two slots have one reference after.
  apart_after : (s t : ℕ) (one other : r.Copy) → s ≢ t → IsStanding past after s one → IsStanding past after t other → r.reference (past.disk s) ≢ r.reference (past.disk t)
  apart_after s t one other apart one_stands other_stands = both (either s one one_stands) (either t other other_stands)
    where
      both : IsEither s one → IsEither t other → r.reference (past.disk s) ≢ r.reference (past.disk t)
      both (inl old) (inl older) = kept.apart s t one other apart old older
      both (inl old) (inr wrote) = λ same. member_apart t s one (λ e. apart (sym e)) wrote.0 old (sym same)
      both (inr wrote) (inl old) = member_apart s t other apart wrote.0 old
      both (inr one_wrote) (inr other_wrote) = λ same.
          apart (kept.alone s t j c may.at_last.since (may.are_members s one_wrote.0) (kept.chain.one_reference j j c c (past.disk s) (past.disk t) may.at_last.since may.at_last.since (may.are_members s one_wrote.0) (may.are_members t other_wrote.0) same))

  -- A slot with its new copy shows the last configuration.
  abbrev new_on : (s : ℕ) → seats s ≡ true → after s ≡ One (new s) → IsOn past.changes (past.disk s) (after s)
  new_on s seat only = record { number = j; config = c; since = may.at_last.since; copy = new s; is_only = only; is_ours = may.are_ours s seat; names = may.names s seat; shows = may.show s seat; is_full = may.are_full s seat; is_member = may.are_members s seat }

  -- a slot that shows a configuration showed it before, or has its new copy
  pub on_either : (s : ℕ) → (on : IsOn past.changes (past.disk s) (after s)) → is_away past s ≡ false
      → ((was : IsOn past.changes (past.disk s) (before s)) × (was.number ≡ on.number)) ⊎ ((seats s ≡ true) × (after s ≡ One (new s)) × (on.number ≡ j))
  on_either s on here = ⊎_elim
      (λ same. inl (record { number = on.number; config = on.config; since = on.since; copy = on.copy; is_only = sym same ∙ on.is_only; is_ours = on.is_ours; names = on.names; shows = on.shows; is_full = on.is_full; is_member = on.is_member }, refl))
      (λ wrote. ⊎_elim
      (λ part.
      let copy_is : part.copy ≡ on.copy = one_is part.copy on.copy (sym part.is_only ∙ on.is_only) in
      let is : IsCopyOf (before s) on.copy = subst (IsCopyOf (before s)) copy_is part.is_copy in
      let listed : r.lists_current on.copy (r.disk_of on.copy) ≡ true = sound.same_current on.copy on.config (r.disk_of on.copy) on.shows ∙ ap (r.has_current on.config) on.names ∙ on.is_member in
      let stand : stands r on.copy ≡ true = and_from _ _ on.is_ours listed in
      let same = sound.same_sequence on.copy on.config on.shows in
      let le = in_order kept.chain past.changes.acked on.number kept.last on.config (last_since past before kept) on.since on.since.late in
      ⊎_elim
      (λ was.
      let was_copy = on_copy (past.disk s) (before s) was on.copy is in
      let was_same = sound.same_sequence was.copy was.config was.shows in
      let e : r.sequence_of on.copy ≡ r.sequence_of was.copy = ap r.sequence_of was_copy in
      inl (was, (same_sequence_same kept.chain was.number on.number was.config on.config was.since on.since (omega arith)).0))
      (λ rest. absurd (⊎_elim
      (λ outside. let older = (outside.is_behind on.copy is stand).is_older kept.last kept.is_last in omega arith)
      (λ lagging. let older = lagging.is_older on.copy kept.last is stand kept.is_last in omega arith)
      rest))
      (kept.each s here))
      (λ only.
      let copy_is : new s ≡ on.copy = one_is (new s) on.copy (sym only ∙ on.is_only) in
      let same = sound.same_sequence on.copy on.config on.shows in
      let new_same = sound.same_sequence (new s) c (may.show s wrote.0) in
      let e : r.sequence_of (new s) ≡ r.sequence_of on.copy = ap r.sequence_of copy_is in
      inr (wrote.0, only, (same_sequence_same kept.chain on.number j on.config c on.since may.at_last.since (omega arith)).0))
      wrote.1)
      (written s)

  module _ (join_last : JoinLast past seats new after) (gives : GivesAfter past j c after) where
    -- Where a disk that joins shows such a configuration, each other member shows a later one than the last acknowledged.
    entered_after : (s t : ℕ) → is_away past s ≡ false → is_away past t ≡ false → IsOn past.changes (past.disk s) (after s) → r.has_current kept.last (past.disk s) ≡ false
        → (on : IsOn past.changes (past.disk t) (after t)) → r.has_current kept.last (past.disk t) ≡ true → past.changes.acked < on.number
    entered_after s t here there on joins other native = ⊎_elim
        (λ was. ⊎_elim
        (λ other_was. let lt = kept.entered s t here there was.0 joins other_was.0 native in omega (arith, other_was.1))
        (λ wrote.
        -- the slot that joins shows a later one than the last acknowledged, and the new copies are the last
        let le = may.at_last.none_later was.0.number was.0.config was.0.since in
        let late = was.0.since.late in
        elim (cases_eq was.0.number past.changes.acked) [
          | inl same ↦
              let is : was.0.config ≡ kept.last = same_number was.0.number past.changes.acked was.0.config kept.last was.0.since (last_since past before kept) same in
              let now : r.has_current kept.last (past.disk s) ≡ true = rw is at was.0.is_member in
              absurd cc
          | inr differ ↦ omega (arith, wrote.2)
        ])
        (on_either t other there))
        (λ wrote. join_last kept.last s t kept.is_last here wrote.0 joins wrote.1 there native other)
        (on_either s on here)

    -- a slot leads with the first configuration as it did, where no slot shows a later one
    same_slot : past.changes.acked < past.changes.own_from → past.changes.own_from ≤ j → ((s : ℕ) → is_away past s ≡ false → (on : IsOn past.changes (past.disk s) (after s)) → on.number ≡ past.changes.acked)
        → (s : ℕ) (away : Bool) → is_away past s ≡ away → leading_copy r (r.sequence kept.last) (if not away then after s else Nothing) ≡ leading_copy r (r.sequence kept.last) (if not away then before s else Nothing)
    same_slot young own none s true away = refl
    same_slot young own none s false here = ⊎_elim
        (λ same. ap (leading_copy r (r.sequence kept.last)) same)
        (λ wrote. ⊎_elim
        (λ part. ⊎_elim
        (λ on. ap (leading_copy r (r.sequence kept.last)) (part.is_only ∙ ap (λ (x : r.Copy). One x) (on_copy (past.disk s) (before s) on part.copy part.is_copy) ∙ sym on.is_only))
        (λ rest.
        let none_before : (copy : r.Copy) → IsCopyOf (before s) copy → stands r copy ≡ true → r.sequence_of copy ≡ r.sequence kept.last → ⊥ = λ copy is stand same. ⊎_elim
        (λ outside. let older = (outside.is_behind copy is stand).is_older kept.last kept.is_last in omega arith)
        (λ lagging. let older = lagging.is_older copy kept.last is stand kept.is_last in omega arith)
        rest in
        none_leading r after (r.sequence kept.last) (after s) (λ copy is. none_before copy (part_copy (before s) (after s) part copy is)) ∙ sym (none_leading r before (r.sequence kept.last) (before s) none_before))
        (kept.each s here))
        (λ only. let is = none s here (new_on s wrote.0 only) in absurd (omega (arith, is)))
        wrote.1)
        (written s)

    -- Where the first configuration is from elsewhere, the slots that show it give it together after.
    give_after : past.changes.acked < past.changes.own_from → ((s : ℕ) → is_away past s ≡ false → (on : IsOn past.changes (past.disk s) (after s)) → on.number ≡ past.changes.acked)
        → r.read (leading_copies r (r.sequence kept.last) (seen (λ s. not (is_away past s)) after) past.slots) ≡ kept.last
    give_after young none = elim (cases_lt j past.changes.own_from) [
      | inl first ↦
          let late = may.at_last.since.late in
          let next = kept.own_next in
          let is : c ≡ kept.last = same_number j past.changes.acked c kept.last may.at_last.since (last_since past before kept) (omega arith) in
          subst (λ (x : r.Config). r.read (leading_copies r (r.sequence x) (seen (λ s. not (is_away past s)) after) past.slots) ≡ x) is (gives first)
      | inr own ↦
          ap r.read (same_leading r (r.sequence kept.last) (seen (λ s. not (is_away past s)) after) (seen (λ s. not (is_away past s)) before) (λ s. same_slot young own none s (is_away past s) refl) past.slots)
          ∙ kept.give young (λ s here on.
          -- what it showed before is no later, or it would show it still
          none_before none own s here on)
    ]
      where
        none_before : ((s : ℕ) → is_away past s ≡ false → (on : IsOn past.changes (past.disk s) (after s)) → on.number ≡ past.changes.acked) → past.changes.own_from ≤ j → (s : ℕ) → is_away past s ≡ false → (on : IsOn past.changes (past.disk s) (before s)) → on.number ≡ past.changes.acked
        none_before none own s here on = ⊎_elim
            (λ same. none s here (record { number = on.number; config = on.config; since = on.since; copy = on.copy; is_only = same ∙ on.is_only; is_ours = on.is_ours; names = on.names; shows = on.shows; is_full = on.is_full; is_member = on.is_member }))
            (λ wrote. ⊎_elim
            (λ part. none s here (part_on past.changes (past.disk s) (before s) (after s) part on))
            (λ only. let is = none s here (new_on s wrote.0 only) in absurd (omega (arith, is, young, own)))
            wrote.1)
            (written s)

    -- A copy names a current member.
    abbrev NamesMember : r.Copy → Type 0
    NamesMember copy = (number : ℕ) × (config : r.Config) × IsSince past.changes number config × (r.has_current config (r.disk_of copy) ≡ true)

    -- Each slot shows what it should after.
    pub written_kept : IsKept past after
    written_kept = record {
      last = kept.last;
      is_last = kept.is_last;
      own_next = kept.own_next;
      chain = kept.chain;
      each = λ s here. ⊎_elim
          (λ same. subst (λ (shown : Shown r.Copy). IsRight past.changes (past.disk s) shown) (sym same) (kept.each s here))
          (λ wrote. ⊎_elim
          (λ part. part_right past.changes (past.disk s) (before s) (after s) part (kept.each s here))
          (λ only. inl (new_on s wrote.0 only))
          wrote.1)
          (written s);
      agree = agree_after;
      apart = apart_after;
      named = λ s copy is which. ⊎_elim
          (λ same. subst (λ (shown : Shown r.Copy). IsCopyOf shown copy → ShowsGroup r shown ⊎ NamesMember copy → r.disk_of copy ≡ past.disk s) (sym same) (kept.named s copy) is which)
          (λ wrote. ⊎_elim
          (λ part. kept.named s copy (part_copy (before s) (after s) part copy is) (⊎_elim (λ shows. inl (part_shows past.changes (past.disk s) (before s) (after s) part shows)) inr which))
          (λ only. ap r.disk_of (subst (λ (shown : Shown r.Copy). IsCopyOf shown copy) only is) ∙ may.names s wrote.0)
          wrote.1)
          (written s);
      alone = kept.alone;
      gone = kept.gone;
      entered = entered_after;
      remain = kept.remain;
      give = give_after;
    }
