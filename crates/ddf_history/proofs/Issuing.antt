-- A change is issued.
use Rattle.std.proofs.Common.{◌≡◌, ◌≢◌, ◌⊎◌, ℕ, ◌<◌, ◌≤◌, ◌∷◌, [], true, false, length, Some, slice_get, refl, sym, ap, ◌∙◌, inl, inr, ⊎_elim, arith}
use Rattle.std.proofs.lemmas.Bool.{and_from, true≢false}
use Rattle.std.proofs.lemmas.Option.{same_Some, slice_get_within}
use Rattle.ddf_lemmas.proofs.Lists.{first_get}
use Rattle.ddf_history.specs.Reading.{Reading, Scene, Shown, ShowsGroup, IsCopyOf, IsSound}
use Rattle.ddf_history.specs.Issued.{Changes, Past, IsSince, IsChain, is_away, issued, issue}
use Rattle.ddf_history.specs.Promise.{IsKept, IsNamed, IsOn, IsOutside, IsLagging, IsStanding}
use Rattle.ddf_history.specs.Steps.{DoRemain, IsLast, MayFollow, MayJoin}
use Rattle.ddf_history.proofs.Since.{in_order, same_number, last_since, on_shows}
use Rattle.ddf_history.proofs.Lists.{get_more}

-- What a change owes to what was issued before it, and to what the slots show.
pub record MayIssue {r : Reading} (past : Past r) (scene : Scene r.Copy) (c : r.Config) : Type 0 where
  pub rises : (i : ℕ) (d : r.Config) → IsSince past.changes i d → r.sequence d < r.sequence c
  pub stays_missing : (i : ℕ) (d : r.Config) (disk : r.Disk) → IsSince past.changes i d → r.has_missing d disk ≡ true → r.has_current c disk ≡ true → ⊥
  pub stays_gone : (i j : ℕ) (d e : r.Config) (disk : r.Disk) → IsSince past.changes i d → IsSince past.changes j e → i ≤ j → r.has_current d disk ≡ true → r.has_current c disk ≡ true → r.has_current e disk ≡ true
  pub one_reference : (i : ℕ) (d : r.Config) (one other : r.Disk) → IsSince past.changes i d → r.has_current d one ≡ true → r.has_current c other ≡ true → r.reference one ≡ r.reference other → one ≡ other
  pub is_free : (s : ℕ) (copy : r.Copy) (disk : r.Disk) → IsStanding past scene s copy → IsOutside past.changes (past.disk s) (scene s) → r.has_current c disk ≡ true → r.reference disk ≢ r.reference (past.disk s)
  pub joins_first : (i : ℕ) (d : r.Config) (disk : r.Disk) → IsSince past.changes i d → past.changes.acked < i → r.has_current c disk ≡ true → r.has_current d disk ≡ true
  pub misses_none : (s : ℕ) (copy : r.Copy) (disk : r.Disk) → is_away past s ≡ false → IsCopyOf (scene s) copy → ShowsGroup r (scene s) → IsOutside past.changes (past.disk s) (scene s) ⊎ IsLagging past.changes (past.disk s) (scene s) → r.has_current c disk ≡ true → r.lists_missing copy disk ≡ true → ⊥
  pub shows_some : (s : ℕ) → is_away past s ≡ false → IsOutside past.changes (past.disk s) (scene s) → r.has_current c (past.disk s) ≡ true → IsNamed r (past.disk s) (scene s)
  pub joins_later : (s : ℕ) (copy : r.Copy) → is_away past s ≡ false → IsOutside past.changes (past.disk s) (scene s) → r.has_current c (past.disk s) ≡ true → IsCopyOf (scene s) copy → r.is_ours copy ≡ true → ⊥
  pub named : (s : ℕ) (copy : r.Copy) → IsCopyOf (scene s) copy → r.has_current c (r.disk_of copy) ≡ true → r.disk_of copy ≡ past.disk s
  pub alone : (s t : ℕ) → r.has_current c (past.disk s) ≡ true → past.disk s ≡ past.disk t → s ≡ t
  pub gone : (s : ℕ) → past.returned s ≡ true → r.has_missing c (past.disk s) ≡ true
  pub remain : (last : r.Config) (joined : r.Disk) (s : ℕ) → slice_get past.changes.issued past.changes.acked ≡ Some last → r.has_current c joined ≡ true → r.has_current last joined ≡ false
      → is_away past s ≡ false → r.has_current last (past.disk s) ≡ true → r.has_current c (past.disk s) ≡ true

module _ {r : Reading} (changes : Changes r) (c : r.Config) where
  -- a change since the last acknowledged one was issued before, or is the new one
  pub since_more : (i : ℕ) (d : r.Config) → IsSince (issued changes c) i d → IsSince changes i d ⊎ ((i ≡ length changes.issued) × (d ≡ c))
  since_more i d at = ⊎_elim (λ was. inl (record { late = at.late; is_there = was })) inr (get_more changes.issued c i d at.is_there)

  -- What was issued stays so.
  pub since_kept : (i : ℕ) (d : r.Config) → IsSince changes i d → IsSince (issued changes c) i d
  since_kept i d at = record { late = at.late; is_there = first_get changes.issued (c ∷ []) i d at.is_there }

  -- What was issued has a number below that of the new change.
  pub since_before : (i : ℕ) (d : r.Config) → IsSince changes i d → i < length changes.issued
  since_before i d at = slice_get_within changes.issued i d at.is_there

module _ (r : Reading) (sound : IsSound r) (past : Past r) (scene : Scene r.Copy) (kept : IsKept past scene) (c : r.Config) (may : MayIssue past scene c) where
  -- The changes with the new one.
  abbrev next : Changes r
  next = issued past.changes c

  -- They are a chain.
  chain_next : IsChain next
  chain_next = record {
    rises = λ i j d e at there lt. rises i j d e lt (since_more past.changes c i d at) (since_more past.changes c j e there);
    stays_missing = λ i j d e disk at there le. missing i j d e disk le (since_more past.changes c i d at) (since_more past.changes c j e there);
    stays_gone = λ i j l d e f disk at mid there le le'. gone i j l d e f disk le le' (since_more past.changes c i d at) (since_more past.changes c j e mid) (since_more past.changes c l f there);
    joins_first = λ i j d e disk at there le less. first i j d e disk le less (since_more past.changes c i d at) (since_more past.changes c j e there);
    one_reference = λ i j d e one other at there. reference i j d e one other (since_more past.changes c i d at) (since_more past.changes c j e there);
  }
    where
      rises : (i j : ℕ) (d e : r.Config) → i < j → IsSince past.changes i d ⊎ ((i ≡ length past.changes.issued) × (d ≡ c)) → IsSince past.changes j e ⊎ ((j ≡ length past.changes.issued) × (e ≡ c)) → r.sequence d < r.sequence e
      rises i j d e lt (inl at) (inl there) = kept.chain.rises i j d e at there lt
      rises i j d e lt (inl at) (inr last) = rw last.1 (may.rises i d at)
      rises i j d e lt (inr last) (inl there) = let before = since_before past.changes c j e there in absurd (omega (arith, last.0))
      rises i j d e lt (inr last) (inr also) = absurd (omega (arith, last.0, also.0))

      missing : (i j : ℕ) (d e : r.Config) (disk : r.Disk) → i ≤ j → IsSince past.changes i d ⊎ ((i ≡ length past.changes.issued) × (d ≡ c)) → IsSince past.changes j e ⊎ ((j ≡ length past.changes.issued) × (e ≡ c)) → r.has_missing d disk ≡ true → r.has_current e disk ≡ true → ⊥
      missing i j d e disk le (inl at) (inl there) = kept.chain.stays_missing i j d e disk at there le
      missing i j d e disk le (inl at) (inr last) = λ gone now. may.stays_missing i d disk at gone (rw last.1 at now)
      missing i j d e disk le (inr last) (inl there) = let before = since_before past.changes c j e there in absurd (omega (arith, last.0))
      missing i j d e disk le (inr last) (inr also) = λ gone now. sound.not_both c disk (rw also.1 at now) (rw last.1 at gone)

      gone : (i j l : ℕ) (d e f : r.Config) (disk : r.Disk) → i ≤ j → j ≤ l → IsSince past.changes i d ⊎ ((i ≡ length past.changes.issued) × (d ≡ c)) → IsSince past.changes j e ⊎ ((j ≡ length past.changes.issued) × (e ≡ c)) → IsSince past.changes l f ⊎ ((l ≡ length past.changes.issued) × (f ≡ c))
          → r.has_current d disk ≡ true → r.has_current f disk ≡ true → r.has_current e disk ≡ true
      gone i j l d e f disk le le' (inl at) (inl mid) (inl there) = kept.chain.stays_gone i j l d e f disk at mid there le le'
      gone i j l d e f disk le le' (inl at) (inl mid) (inr last) = λ first then. may.stays_gone i j d e disk at mid le first (rw last.1 at then)
      gone i j l d e f disk le le' (inl at) (inr last) (inl there) = let before = since_before past.changes c l f there in absurd (omega (arith, last.0))
      gone i j l d e f disk le le' (inl at) (inr last) (inr also) = λ first then. rw last.1 (rw also.1 at then)
      gone i j l d e f disk le le' (inr last) (inl mid) there = let before = since_before past.changes c j e mid in absurd (omega (arith, last.0))
      gone i j l d e f disk le le' (inr last) (inr also) there = λ first then. rw also.1 (rw last.1 at first)

      first : (i j : ℕ) (d e : r.Config) (disk : r.Disk) → i ≤ j → past.changes.acked < i → IsSince past.changes i d ⊎ ((i ≡ length past.changes.issued) × (d ≡ c)) → IsSince past.changes j e ⊎ ((j ≡ length past.changes.issued) × (e ≡ c)) → r.has_current e disk ≡ true → r.has_current d disk ≡ true
      first i j d e disk le less (inl at) (inl there) = kept.chain.joins_first i j d e disk at there le less
      first i j d e disk le less (inl at) (inr last) = λ now. may.joins_first i d disk at less (rw last.1 at now)
      first i j d e disk le less (inr last) (inl there) = let before = since_before past.changes c j e there in absurd (omega (arith, last.0))
      first i j d e disk le less (inr last) (inr also) = λ now. rw last.1 (rw also.1 at now)

      reference : (i j : ℕ) (d e : r.Config) (one other : r.Disk) → IsSince past.changes i d ⊎ ((i ≡ length past.changes.issued) × (d ≡ c)) → IsSince past.changes j e ⊎ ((j ≡ length past.changes.issued) × (e ≡ c)) → r.has_current d one ≡ true → r.has_current e other ≡ true → r.reference one ≡ r.reference other → one ≡ other
      reference i j d e one other (inl at) (inl there) = kept.chain.one_reference i j d e one other at there
      reference i j d e one other (inl at) (inr last) = λ has has' same. may.one_reference i d one other at has (rw last.1 at has') same
      reference i j d e one other (inr last) (inl there) = λ has has' same. sym (may.one_reference j e other one there has' (rw last.1 at has) (sym same))
      reference i j d e one other (inr last) (inr also) = λ has has' same. sound.one_reference c one other (rw last.1 at has) (rw also.1 at has') same

  -- The last acknowledged configuration stays.
  last_is : (d : r.Config) → slice_get next.issued next.acked ≡ Some d → d ≡ kept.last
  last_is d at = same_Some d kept.last (sym at ∙ first_get past.changes.issued (c ∷ []) past.changes.acked kept.last kept.is_last)

  -- A slot that shows a configuration goes on to show it.
  abbrev on_next : (disk : r.Disk) (shown : Shown r.Copy) → IsOn past.changes disk shown → IsOn next disk shown
  on_next disk shown on = record {
    number = on.number;
    config = on.config;
    since = since_kept past.changes c on.number on.config on.since;
    copy = on.copy;
    is_only = on.is_only;
    is_ours = on.is_ours;
    names = on.names;
    shows = on.shows;
    is_full = on.is_full;
    is_member = on.is_member;
  }

  -- A slot that is outside stays so.
  outside_next : (s : ℕ) → is_away past s ≡ false → IsOutside past.changes (past.disk s) (scene s) → IsOutside next (past.disk s) (scene s)
  outside_next s here outside = record {
    no_member = λ d at now. outside.no_member kept.last kept.is_last (rw (last_is d at) at now);
    shows_some = λ i d at now. ⊎_elim
        (λ was. outside.shows_some i d was now)
        (λ last. may.shows_some s here outside (rw last.1 at now))
        (since_more past.changes c i d at);
    joins_later = λ i d copy at now is ours. ⊎_elim
        (λ was. outside.joins_later i d copy was now is ours)
        (λ last. may.joins_later s copy here outside (rw last.1 at now) is ours)
        (since_more past.changes c i d at);
    is_behind = λ copy is stand.
        let behind = outside.is_behind copy is stand in
        let standing : IsStanding past scene s copy = record { is_here = here; is_copy = is; is_standing = stand } in
        record {
          is_older = λ d at. rw (last_is d at) (behind.is_older kept.last kept.is_last);
          is_other = λ i d member at now same. ⊎_elim
              (λ was. behind.is_other i d member was now same)
              (λ last. may.is_free s copy member standing outside (rw last.1 at now) same)
              (since_more past.changes c i d at);
        };
    misses_none = λ copy i d member is shows at now gone. ⊎_elim
        (λ was. outside.misses_none copy i d member is shows was now gone)
        (λ last. may.misses_none s copy member here is shows (inl outside) (rw last.1 at now) gone)
        (since_more past.changes c i d at);
  }

  -- A slot that lags goes on to lag.
  lagging_next : (s : ℕ) → is_away past s ≡ false → IsLagging past.changes (past.disk s) (scene s) → IsLagging next (past.disk s) (scene s)
  lagging_next s here lagging = record {
    is_young = lagging.is_young;
    shows_some = lagging.shows_some;
    is_member = λ d at. rw (last_is d at) (lagging.is_member kept.last kept.is_last);
    is_older = λ copy d is stand at. rw (last_is d at) (lagging.is_older copy kept.last is stand kept.is_last);
    misses_none = λ copy i d member is shows at now gone. ⊎_elim
        (λ was. lagging.misses_none copy i d member is shows was now gone)
        (λ last. may.misses_none s copy member here is shows (inr lagging) (rw last.1 at now) gone)
        (since_more past.changes c i d at);
  }

  -- A copy that stands stood before.
  stood : (s : ℕ) (copy : r.Copy) → IsStanding (issue past c) scene s copy → IsStanding past scene s copy
  stood s copy stand = record { is_here = stand.is_here; is_copy = stand.is_copy; is_standing = stand.is_standing }

  -- no slot shows the change yet
  not_yet : (s : ℕ) (copy : r.Copy) → IsStanding past scene s copy → r.Shows copy c → ⊥
  not_yet s copy stand shows =
      let same = sound.same_sequence copy c shows in
      let less = may.rises past.changes.acked kept.last (last_since past scene kept) in
      ⊎_elim
      (λ on.
      let also = sound.same_sequence copy on.config (on_shows (past.disk s) (scene s) on copy stand.is_copy) in
      let rise = may.rises on.number on.config on.since in
      omega arith)
      (⊎_elim
      (λ outside. let older = (outside.is_behind copy stand.is_copy stand.is_standing).is_older kept.last kept.is_last in omega arith)
      (λ lagging. let older = lagging.is_older copy kept.last stand.is_copy stand.is_standing kept.is_last in omega arith))
      (kept.each s stand.is_here)

  -- what a slot shows, it showed before
  on_was : (s : ℕ) → is_away past s ≡ false → (on : IsOn next (past.disk s) (scene s)) → (was : IsOn past.changes (past.disk s) (scene s)) × (was.number ≡ on.number)
  on_was s here on = ⊎_elim
      (λ was. (record { number = on.number; config = on.config; since = was; copy = on.copy; is_only = on.is_only; is_ours = on.is_ours; names = on.names; shows = on.shows; is_full = on.is_full; is_member = on.is_member }, refl))
      (λ last.
      let is : IsCopyOf (scene s) on.copy = rw on.is_only refl in
      let listed : r.lists_current on.copy (r.disk_of on.copy) ≡ true = sound.same_current on.copy on.config (r.disk_of on.copy) on.shows ∙ ap (r.has_current on.config) on.names ∙ on.is_member in
      absurd (not_yet s on.copy (record { is_here = here; is_copy = is; is_standing = and_from _ _ on.is_ours listed }) (rw last.1 at on.shows)))
      (since_more past.changes c on.number on.config on.since)

  -- Each slot shows what it should.
  pub issued_kept : IsKept (issue past c) scene
  issued_kept = record {
    last = kept.last;
    is_last = first_get past.changes.issued (c ∷ []) past.changes.acked kept.last kept.is_last;
    own_next = kept.own_next;
    chain = chain_next;
    each = λ s here. ⊎_elim
        (λ on. inl (on_next (past.disk s) (scene s) on))
        (⊎_elim (λ outside. inr (inl (outside_next s here outside))) (λ lagging. inr (inr (lagging_next s here lagging))))
        (kept.each s here);
    agree = λ s t i one other d apart one_stands other_stands at one_shows other_shows. ⊎_elim
        (λ was. kept.agree s t i one other d apart (stood s one one_stands) (stood t other other_stands) was one_shows other_shows)
        (λ last. absurd (not_yet s one (stood s one one_stands) (rw last.1 at one_shows)))
        (since_more past.changes c i d at);
    apart = λ s t one other apart one_stands other_stands. kept.apart s t one other apart (stood s one one_stands) (stood t other other_stands);
    named = λ s copy is. ⊎_elim
        (λ shows. kept.named s copy is (inl shows))
        (λ member. ⊎_elim
        (λ was. kept.named s copy is (inr (member.0, member.1, was, member.3)))
        (λ last. may.named s copy is (rw last.1 at member.3))
        (since_more past.changes c member.0 member.1 member.2));
    alone = λ s t i d at now same. ⊎_elim
        (λ was. kept.alone s t i d was now same)
        (λ last. may.alone s t (rw last.1 at now) same)
        (since_more past.changes c i d at);
    gone = λ s i d back at. ⊎_elim
        (λ was. kept.gone s i d back was)
        (λ last. rw last.1 (may.gone s back))
        (since_more past.changes c i d at);
    entered = λ s t here there on joins other native.
        let was = on_was t there other in
        let lt = kept.entered s t here there (on_was s here on).0 joins was.0 native in omega (arith, was.1);
    remain = λ i d joined s at now fresh here native. ⊎_elim
        (λ was. kept.remain i d joined s was now fresh here native)
        (λ last. rw last.1 (may.remain kept.last joined s kept.is_last (rw last.1 at now) fresh here native))
        (since_more past.changes c i d at);
    give = λ young none. kept.give young (λ s here on. none s here (on_next (past.disk s) (scene s) on));
  }

-- A change that makes no member current may be issued.
pub follows : (r : Reading) (past : Past r) (scene : Scene r.Copy) → IsKept past scene → (j : ℕ) (last c : r.Config) → IsLast past.changes j last → MayFollow r last c
    → (j ≡ past.changes.acked) ⊎ DoRemain r (λ s. is_away past s ≡ false) past.disk last c → MayIssue past scene c
follows r past scene kept j last c at may remains = record {
  rises = λ i d was. let le = in_order kept.chain i j d last was at.since (at.none_later i d was) in let less = may.rises in omega arith;
  stays_missing = λ i d disk was gone now. kept.chain.stays_missing i j d last disk was at.since (at.none_later i d was) gone (may.no_more disk now);
  stays_gone = λ i l d e disk was mid le first then. kept.chain.stays_gone i l j d e last disk was mid at.since le (at.none_later l e mid) first (may.no_more disk then);
  one_reference = λ i d one other was has has' same. kept.chain.one_reference i j d last one other was at.since has (may.no_more other has') same;
  is_free = λ s copy disk stand outside now. (outside.is_behind copy stand.is_copy stand.is_standing).is_other j last disk at.since (may.no_more disk now);
  joins_first = λ i d disk was less now. kept.chain.joins_first i j d last disk was at.since (at.none_later i d was) less (may.no_more disk now);
  misses_none = λ s copy disk here is shows which now. ⊎_elim
      (λ outside. outside.misses_none copy j last disk is shows at.since (may.no_more disk now))
      (λ lagging. lagging.misses_none copy j last disk is shows at.since (may.no_more disk now))
      which;
  shows_some = λ s here outside now. outside.shows_some j last at.since (may.no_more (past.disk s) now);
  joins_later = λ s copy here outside now. outside.joins_later j last copy at.since (may.no_more (past.disk s) now);
  named = λ s copy is now. kept.named s copy is (inr (j, last, at.since, may.no_more (r.disk_of copy) now));
  alone = λ s t now same. kept.alone s t j last at.since (may.no_more (past.disk s) now) same;
  gone = λ s back. may.stays_missing (past.disk s) (kept.gone s j last back at.since);
  remain = λ first joined s is_first now fresh here native. ⊎_elim
      (λ acked.
      let same : last ≡ first = same_Some last first (sym at.since.is_there ∙ ap (slice_get past.changes.issued) acked ∙ is_first) in
      let was : r.has_current last joined ≡ true = may.no_more joined now in
      absurd (true≢false (sym was ∙ ap (λ (x : r.Config). r.has_current x joined) same ∙ fresh)))
      (λ stays.
      let same : kept.last ≡ first = same_Some kept.last first (sym kept.is_last ∙ is_first) in
      stays s here (kept.remain j last joined s at.since (may.no_more joined now) (ap (λ (x : r.Config). r.has_current x joined) same ∙ fresh) here (ap (λ (x : r.Config). r.has_current x (past.disk s)) same ∙ native)))
      remains;
}

-- A change that takes in members may be issued where all before it are acknowledged.
pub joins : (r : Reading) (past : Past r) (scene : Scene r.Copy) → IsKept past scene → (last c : r.Config) → IsLast past.changes past.changes.acked last → MayJoin past scene last c → MayIssue past scene c
joins r past scene kept last c at may = record {
  rises = λ i d was. rw (only i d was) may.rises;
  stays_missing = λ i d disk was gone now. may.not_again disk (rw (only i d was) at gone) now;
  stays_gone = λ i l d e disk was mid le first then. rw (only l e mid) (rw (only i d was) at first);
  one_reference = λ i d one other was has has' same. may.is_new one other (rw (only i d was) at has) has' same;
  is_free = may.is_free;
  joins_first = λ i d disk was less now. let le = at.none_later i d was in absurd (omega arith);
  misses_none = λ s copy disk here is shows. ⊎_elim (may.misses_none s copy disk here is shows) (λ lagging. absurd (may.none_lags s here lagging));
  shows_some = may.shows_some;
  joins_later = may.joins_later;
  named = may.named;
  alone = may.alone;
  gone = may.gone;
  remain = λ first joined s is_first now fresh here native. may.keeps (past.disk s) (rw (same_Some first last (sym is_first ∙ at.since.is_there)) at native);
}
  where
    only : (i : ℕ) (d : r.Config) → IsSince past.changes i d → d ≡ last
    only i d was = let le = at.none_later i d was in let ge = was.late in same_number i past.changes.acked d last was at.since (omega arith)
