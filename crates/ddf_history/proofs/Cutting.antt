-- Changes are acknowledged, or taken off.
use Rattle.std.proofs.Common.{◌≡◌, ◌⊎◌, ℕ, ◌<◌, ◌≤◌, ◌+◌, ◌||◌, ◌&&◌, ◌==◌, not, Bool, true, false, Some, slice_get, refl, sym, ap, ◌∙◌, inl, inr, ⊎_elim, arith}
use Rattle.std.proofs.lemmas.Bool.{cases_eq, or_parts, or_from, and_parts, eqb-true, true≢false}
use Rattle.std.proofs.lemmas.Option.{same_Some}
use Rattle.ddf_history.specs.Reading.{Reading, Scene, IsSound}
use Rattle.ddf_history.specs.Issued.{Changes, Past, IsSince, IsChain, is_away, cut, take_off, acknowledged, acknowledge, with_slots, leave_out, lose, give_back}
use Rattle.ddf_history.specs.Promise.{IsKept, IsOn, IsOutside, IsRight, IsStanding}
use Rattle.ddf_history.specs.Steps.{NoneLater, AllShow, IsLast}
use Rattle.ddf_history.proofs.Since.{which, in_order, same_number, last_since, on_shows}
use Rattle.ddf_history.proofs.Lists.{get_taken, taken_get}

-- ---- the end of the list is taken off

module _ {r : Reading} (changes : Changes r) (j : ℕ) where
  -- What is left was there before.
  pub since_cut : (i : ℕ) (d : r.Config) → IsSince (cut changes j) i d → IsSince changes i d × (i ≤ j)
  since_cut i d at = let was = get_taken changes.issued (j + 1) i d at.is_there in (record { late = at.late; is_there = was.0 }, omega (arith, was.1))

  -- What was there up to the number is left.
  pub cut_since : (i : ℕ) (d : r.Config) → IsSince changes i d → i ≤ j → IsSince (cut changes j) i d
  cut_since i d at le = record { late = at.late; is_there = taken_get changes.issued (j + 1) i d at.is_there (omega arith) }

  -- What is left is a chain.
  pub chain_cut : IsChain changes → IsChain (cut changes j)
  chain_cut chain = record {
    rises = λ i l d e at there. chain.rises i l d e (since_cut i d at).0 (since_cut l e there).0;
    stays_missing = λ i l d e disk at there. chain.stays_missing i l d e disk (since_cut i d at).0 (since_cut l e there).0;
    stays_gone = λ i l m d e f disk at mid there. chain.stays_gone i l m d e f disk (since_cut i d at).0 (since_cut l e mid).0 (since_cut m f there).0;
    joins_first = λ i l d e disk at there. chain.joins_first i l d e disk (since_cut i d at).0 (since_cut l e there).0;
    one_reference = λ i l d e one other at there. chain.one_reference i l d e one other (since_cut i d at).0 (since_cut l e there).0;
  }

module _ (r : Reading) (past : Past r) (scene : Scene r.Copy) (kept : IsKept past scene) (j : ℕ) (late : past.changes.acked ≤ j) (none_later : NoneLater past scene j) where
  -- The last acknowledged configuration is the one that it was.
  acked_before : (d : r.Config) → slice_get (cut past.changes j).issued past.changes.acked ≡ Some d → slice_get past.changes.issued past.changes.acked ≡ Some d
  acked_before d at = (get_taken past.changes.issued (j + 1) past.changes.acked d at).0

  -- A slot shows what it showed.
  abbrev on_was : (s : ℕ) → IsOn (cut past.changes j) (past.disk s) (scene s) → IsOn past.changes (past.disk s) (scene s)
  on_was s on = record {
    number = on.number;
    config = on.config;
    since = (since_cut past.changes j on.number on.config on.since).0;
    copy = on.copy;
    is_only = on.is_only;
    is_ours = on.is_ours;
    names = on.names;
    shows = on.shows;
    is_full = on.is_full;
    is_member = on.is_member;
  }

  -- Each slot shows what it should, where none shows a change that is taken off.
  pub cut_kept : IsKept (take_off past j) scene
  cut_kept = record {
    last = kept.last;
    is_last = taken_get past.changes.issued (j + 1) past.changes.acked kept.last kept.is_last (omega arith);
    chain = chain_cut past.changes j kept.chain;
    each = λ s here. ⊎_elim
        (λ on. inl (record {
          number = on.number;
          config = on.config;
          since = cut_since past.changes j on.number on.config on.since (none_later s here on);
          copy = on.copy;
          is_only = on.is_only;
          is_ours = on.is_ours;
          names = on.names;
          shows = on.shows;
          is_full = on.is_full;
          is_member = on.is_member;
        }))
        (⊎_elim
        (λ outside. inr (inl (record {
          no_member = λ d at. outside.no_member d (acked_before d at);
          shows_some = λ i d at. outside.shows_some i d (since_cut past.changes j i d at).0;
          joins_later = λ i d copy at. outside.joins_later i d copy (since_cut past.changes j i d at).0;
          is_behind = λ copy is stand. let behind = outside.is_behind copy is stand in record {
            is_older = λ d at. behind.is_older d (acked_before d at);
            is_other = λ i d member at. behind.is_other i d member (since_cut past.changes j i d at).0;
          };
          misses_none = λ copy i d member is shows at. outside.misses_none copy i d member is shows (since_cut past.changes j i d at).0;
        })))
        (λ lagging. inr (inr (record {
          is_young = lagging.is_young;
          shows_some = lagging.shows_some;
          is_member = λ d at. lagging.is_member d (acked_before d at);
          is_older = λ copy d is stand at. lagging.is_older copy d is stand (acked_before d at);
          misses_none = λ copy i d member is shows at. lagging.misses_none copy i d member is shows (since_cut past.changes j i d at).0;
        }))))
        (kept.each s here);
    agree = λ s t i one other d apart one_stands other_stands at. kept.agree s t i one other d apart (stood s one one_stands) (stood t other other_stands) (since_cut past.changes j i d at).0;
    apart = λ s t one other apart one_stands other_stands. kept.apart s t one other apart (stood s one one_stands) (stood t other other_stands);
    named = λ s copy is. ⊎_elim (λ stand. kept.named s copy is (inl stand)) (λ member. kept.named s copy is (inr (member.0, member.1, (since_cut past.changes j member.0 member.1 member.2).0, member.3)));
    alone = λ s t i d at. kept.alone s t i d (since_cut past.changes j i d at).0;
    gone = λ s i d back at. kept.gone s i d back (since_cut past.changes j i d at).0;
    own_next = kept.own_next;
    entered = λ s t here there on joins other. kept.entered s t here there (on_was s on) joins (on_was t other);
    remain = λ i d joined s at. kept.remain i d joined s (since_cut past.changes j i d at).0;
    give = λ young none. kept.give young (λ s here on. none s here (record {
      number = on.number;
      config = on.config;
      since = cut_since past.changes j on.number on.config on.since (none_later s here on);
      copy = on.copy;
      is_only = on.is_only;
      is_ours = on.is_ours;
      names = on.names;
      shows = on.shows;
      is_full = on.is_full;
      is_member = on.is_member;
    }));
  }
    where
      stood : (s : ℕ) (copy : r.Copy) → IsStanding (take_off past j) scene s copy → IsStanding past scene s copy
      stood s copy stand = record { is_here = stand.is_here; is_copy = stand.is_copy; is_standing = stand.is_standing }

-- ---- a change is acknowledged

module _ (r : Reading) (sound : IsSound r) (past : Past r) (scene : Scene r.Copy) (kept : IsKept past scene) (j : ℕ) (c : r.Config) (at_last : IsLast past.changes j c) (all : AllShow past scene j c) where
  -- The changes with the last one acknowledged.
  abbrev after : Changes r
  after = acknowledged past.changes j

  -- What is since the new acknowledged configuration was since the old one.
  was_since : (i : ℕ) (d : r.Config) → IsSince after i d → IsSince past.changes i d
  was_since i d at = let early = at_last.since.late in let late = at.late in record { late = omega arith; is_there = at.is_there }

  -- there is no other
  only : (i : ℕ) (d : r.Config) → IsSince after i d → d ≡ c
  only i d at =
      let was = was_since i d at in
      let late = at.late in
      let le = at_last.none_later i d was in
      same_number i j d c was at_last.since (omega arith)

  -- They are a chain.
  chain_after : IsChain after
  chain_after = record {
    rises = λ i l d e at there. kept.chain.rises i l d e (was_since i d at) (was_since l e there);
    stays_missing = λ i l d e disk at there. kept.chain.stays_missing i l d e disk (was_since i d at) (was_since l e there);
    stays_gone = λ i l m d e f disk at mid there. kept.chain.stays_gone i l m d e f disk (was_since i d at) (was_since l e mid) (was_since m f there);
    joins_first = λ i l d e disk at there le less now. rw (only i d at) (rw (only l e there) at now);
    one_reference = λ i l d e one other at there. kept.chain.one_reference i l d e one other (was_since i d at) (was_since l e there);
  }

  -- The acknowledged configuration is the last one.
  same_last : (d : r.Config) → slice_get after.issued after.acked ≡ Some d → d ≡ c
  same_last d at = same_Some d c (sym at ∙ at_last.since.is_there)

  -- It is not older than the one that was acknowledged before.
  no_older : r.sequence kept.last ≤ r.sequence c
  no_older = in_order kept.chain past.changes.acked j kept.last c (last_since past scene kept) at_last.since at_last.since.late

  -- a slot that shows an older configuration isn't a member any more
  older_outside : (s : ℕ) (on : IsOn past.changes (past.disk s) (scene s)) → on.number < j → r.has_current c (past.disk s) ≡ false → IsOutside after (past.disk s) (scene s)
  older_outside s on less gone = record {
    no_member = λ d at now. no (rw (same_last d at) at now);
    shows_some = λ i d at now. absurd (no (rw (only i d at) at now));
    joins_later = λ i d copy at now is ours. no (rw (only i d at) at now);
    is_behind = λ copy is stand.
        let shows = on_shows (past.disk s) (scene s) on copy is in
        let same = sound.same_sequence copy on.config shows in
        let rise = kept.chain.rises on.number j on.config c on.since at_last.since less in
        record {
          is_older = λ d at. rw (same_last d at) (omega arith);
          is_other = λ i d member at now same_reference.
              let disks = kept.chain.one_reference j on.number c on.config member (past.disk s) at_last.since on.since (rw (only i d at) at now) on.is_member same_reference in
              no (rw (disks, only i d at) at now);
        };
    misses_none = λ copy i d member is stands at now missing.
        let shows = on_shows (past.disk s) (scene s) on copy is in
        let was = sym (sound.same_missing copy on.config member shows) ∙ missing in
        kept.chain.stays_missing on.number j on.config c member on.since at_last.since (omega arith) was (rw (only i d at) at now);
  }
    where
      no : r.has_current c (past.disk s) ≡ true → ⊥
      no now = absurd cc

  -- Each slot that is not away shows what it should.
  each_after : (s : ℕ) → is_away past s ≡ false → IsRight past.changes (past.disk s) (scene s) → (r.has_current c (past.disk s) ≡ true) ⊎ (r.has_current c (past.disk s) ≡ false) → IsRight after (past.disk s) (scene s)
  each_after s here was (inl now) =
      let shown = all s here now in
      inl (record {
        number = j;
        config = c;
        since = record { late = omega arith; is_there = at_last.since.is_there };
        copy = shown.copy;
        is_only = shown.is_only;
        is_ours = shown.is_ours;
        names = shown.names;
        shows = shown.shows;
        is_full = shown.is_full;
        is_member = now;
      })
  each_after s here (inl on) (inr gone) = elim (cases_eq on.number j) [
    | inl same ↦
        let is : on.config ≡ c = same_number on.number j on.config c on.since at_last.since same in
        let now : r.has_current c (past.disk s) ≡ true = rw is at on.is_member in
        absurd cc
    | inr differ ↦ let le = at_last.none_later on.number on.config on.since in inr (inl (older_outside s on (omega arith) gone))
  ]
  each_after s here (inr (inl outside)) (inr gone) = inr (inl (record {
    no_member = λ d at now. absurd (no (rw (same_last d at) at now));
    shows_some = λ i d at now. absurd (no (rw (only i d at) at now));
    joins_later = λ i d copy at now is ours. absurd (no (rw (only i d at) at now));
    is_behind = λ copy is stand. let behind = outside.is_behind copy is stand in record {
      is_older = λ d at. let older = behind.is_older kept.last kept.is_last in rw (same_last d at) (omega (arith, no_older));
      is_other = λ i d member at. behind.is_other i d member (was_since i d at);
    };
    misses_none = λ copy i d member is shows at. outside.misses_none copy i d member is shows (was_since i d at);
  }))
    where
      no : r.has_current c (past.disk s) ≡ true → ⊥
      no now = absurd cc
  each_after s here (inr (inr lagging)) (inr gone) = inr (inl (record {
    no_member = λ d at now. absurd (no (rw (same_last d at) at now));
    shows_some = λ i d at now. absurd (no (rw (only i d at) at now));
    joins_later = λ i d copy at now is ours. absurd (no (rw (only i d at) at now));
    is_behind = λ copy is stand. record {
      is_older = λ d at. let older = lagging.is_older copy kept.last is stand kept.is_last in rw (same_last d at) (omega (arith, no_older));
      is_other = λ i d member at now same.
          let was = lagging.is_member kept.last kept.is_last in
          let disks = kept.chain.one_reference j past.changes.acked c kept.last member (past.disk s) at_last.since (last_since past scene kept) (rw (only i d at) at now) was same in
          no (rw (disks, only i d at) at now);
    };
    misses_none = λ copy i d member is shows at. lagging.misses_none copy i d member is shows (was_since i d at);
  }))
    where
      no : r.has_current c (past.disk s) ≡ true → ⊥
      no now = absurd cc

  -- All slots do.
  pub acknowledged_kept : IsKept (acknowledge past j) scene
  acknowledged_kept = record {
    last = c;
    is_last = at_last.since.is_there;
    chain = chain_after;
    each = λ s here. each_after s here (kept.each s here) (which (r.has_current c (past.disk s)));
    agree = λ s t i one other d apart one_stands other_stands at. kept.agree s t i one other d apart (stood s one one_stands) (stood t other other_stands) (was_since i d at);
    apart = λ s t one other apart one_stands other_stands. kept.apart s t one other apart (stood s one one_stands) (stood t other other_stands);
    named = λ s copy is. ⊎_elim (λ stand. kept.named s copy is (inl stand)) (λ member. kept.named s copy is (inr (member.0, member.1, was_since member.0 member.1 member.2, member.3)));
    alone = λ s t i d at. kept.alone s t i d (was_since i d at);
    gone = λ s i d back at. kept.gone s i d back (was_since i d at);
    own_next = let late = at_last.since.late in let next = kept.own_next in omega arith;
    -- what a slot shows is that change, so none joins later
    entered = λ s t here there on joins. absurd (never s on joins);
    remain = λ i d joined s at now fresh. let is : r.has_current c joined ≡ true = rw (only i d at) at now in absurd cc;
    give = λ young none.
        let late = at_last.since.late in
        let next = kept.own_next in
        let is : c ≡ kept.last = same_number j past.changes.acked c kept.last at_last.since (last_since past scene kept) (omega arith) in
        rw is (kept.give (omega arith) (λ s here on. let le = at_last.none_later on.number on.config on.since in let from = on.since.late in omega arith));
  }
    where
      never : (s : ℕ) → IsOn after (past.disk s) (scene s) → r.has_current c (past.disk s) ≡ false → ⊥
      never s on joins = let now : r.has_current c (past.disk s) ≡ true = rw (only on.number on.config on.since) at on.is_member in absurd cc

      stood : (s : ℕ) (copy : r.Copy) → IsStanding (acknowledge past j) scene s copy → IsStanding past scene s copy
      stood s copy stand = record { is_here = stand.is_here; is_copy = stand.is_copy; is_standing = stand.is_standing }

-- ---- slots are lost, and return

-- What is promised of fewer slots holds, where each that has returned is listed as missing.
pub slots_kept : {r : Reading} (past : Past r) (scene : Scene r.Copy) (lost returned : ℕ → Bool)
    → ((s : ℕ) → (lost s || returned s) ≡ false → is_away past s ≡ false)
    → ((s j : ℕ) (c : r.Config) → returned s ≡ true → IsSince past.changes j c → r.has_missing c (past.disk s) ≡ true)
    → past.changes.own_from ≤ past.changes.acked → IsKept past scene → IsKept (with_slots past lost returned) scene
slots_kept {r} past scene lost returned fewer gone old kept = record {
  last = kept.last;
  is_last = kept.is_last;
  chain = kept.chain;
  each = λ s here. kept.each s (fewer s here);
  agree = λ s t i one other d apart one_stands other_stands. kept.agree s t i one other d apart (stood s one one_stands) (stood t other other_stands);
  apart = λ s t one other apart one_stands other_stands. kept.apart s t one other apart (stood s one one_stands) (stood t other other_stands);
  named = kept.named;
  alone = kept.alone;
  gone = gone;
  own_next = kept.own_next;
  entered = λ s t here there. kept.entered s t (fewer s here) (fewer t there);
  remain = λ i d joined s at now fresh here. kept.remain i d joined s at now fresh (fewer s here);
  give = λ young. absurd (omega arith);
}
  where
    stood : (s : ℕ) (copy : r.Copy) → IsStanding (with_slots past lost returned) scene s copy → IsStanding past scene s copy
    stood s copy stand = record { is_here = fewer s stand.is_here; is_copy = stand.is_copy; is_standing = stand.is_standing }

-- Slots that a call leaves out may count as lost.
pub left_out_kept : {r : Reading} (past : Past r) (scene : Scene r.Copy) (readable : ℕ → Bool) (c : r.Config) → past.changes.own_from ≤ past.changes.acked → IsKept past scene → IsKept (leave_out past readable c) scene
left_out_kept {r} past scene readable c old kept =
    let out : ℕ → Bool = λ slot. not (readable slot) && r.has_current c (past.disk slot) in
    slots_kept past scene (λ slot. past.lost slot || out slot) past.returned
    (λ s here.
    let parts = or_parts (past.lost s || out s) (past.returned s) here in
    or_from _ _ (or_parts (past.lost s) (out s) parts.0).0 parts.1)
    kept.gone old kept

-- A slot may be lost.
pub lost_kept : {r : Reading} (past : Past r) (scene : Scene r.Copy) (slot : ℕ) → past.changes.own_from ≤ past.changes.acked → IsKept past scene → IsKept (lose past slot) scene
lost_kept past scene slot old kept = slots_kept past scene (λ s. past.lost s || (s == slot)) (λ s. past.returned s && not (s == slot))
    (λ s here.
    let parts = or_parts (past.lost s || (s == slot)) (past.returned s && not (s == slot)) here in
    let lost = or_parts (past.lost s) (s == slot) parts.0 in
    or_from _ _ lost.0 (still (past.returned s) (s == slot) lost.1 parts.1))
    (λ s j c back. kept.gone s j c (and_parts (past.returned s) (not (s == slot)) back).0) old kept
  where
    still : (b here : Bool) → here ≡ false → (b && not here) ≡ false → b ≡ false
    still true here isnt both = absurd (true≢false (sym (ap not isnt) ∙ both))
    still false here isnt both = refl

-- A lost slot may return that is listed as missing.
pub given_back_kept : {r : Reading} (past : Past r) (scene : Scene r.Copy) (slot : ℕ) → past.changes.own_from ≤ past.changes.acked → IsKept past scene
    → ((j : ℕ) (c : r.Config) → IsSince past.changes j c → r.has_missing c (past.disk slot) ≡ true) → IsKept (give_back past slot) scene
given_back_kept {r} past scene slot old kept missing = slots_kept past scene (λ s. past.lost s && not (s == slot)) (λ s. past.returned s || (s == slot))
    (λ s here.
    let parts = or_parts (past.lost s && not (s == slot)) (past.returned s || (s == slot)) here in
    let back = or_parts (past.returned s) (s == slot) parts.1 in
    or_from _ _ (still (past.lost s) (s == slot) back.1 parts.0) back.0)
    (λ s j c back at. elim (which (past.returned s)) [
      | inl was ↦ kept.gone s j c was at
      | inr not_yet ↦
          let same : s ≡ slot = eqb-true s slot (sym (ap (λ (b : Bool). b || (s == slot)) not_yet) ∙ back) in
          rw same (missing j c at)
    ]) old kept
  where
    still : (b here : Bool) → here ≡ false → (b && not here) ≡ false → b ≡ false
    still true here isnt both = absurd (true≢false (sym (ap not isnt) ∙ both))
    still false here isnt both = refl
