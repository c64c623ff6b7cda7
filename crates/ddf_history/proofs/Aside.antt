-- Calls that don't take the group.
use Rattle.std.proofs.Common.{◌≡◌, ℕ, Bool, not, true, false, if◌then◌else◌, refl, sym, ap, ◌∙◌, inl, inr, ⊎_elim, arith, subst, ◌⊎◌}
use Rattle.ddf_history.specs.Reading.{Reading, Scene, Shown, ShowsGroup, IsCopyOf, IsSound, stands}
use Rattle.ddf_history.specs.Reading.Shown.{Nothing}
use Rattle.ddf_history.specs.Issued.{Past, IsSince, is_away}
use Rattle.ddf_history.specs.Leaders.{seen, leading_copy}
use Rattle.ddf_history.specs.Promise.{IsKept, IsOn, IsOutside, IsRight, IsStanding}
use Rattle.ddf_history.specs.Calls.{IsAside, AreAside}
use Rattle.ddf_history.proofs.Leading.{none_leading, same_leading}

module _ (r : Reading) (sound : IsSound r) (past : Past r) (before after : Scene r.Copy) (kept : IsKept past before) (aside : AreAside past before after) where
  -- A copy that stands after stood before.
  stood : (s : ℕ) (copy : r.Copy) → IsStanding past after s copy → IsStanding past before s copy
  stood s copy stand = ⊎_elim
      (λ same. record { is_here = stand.is_here; is_copy = subst (λ (shown : Shown r.Copy). IsCopyOf shown copy) same stand.is_copy; is_standing = stand.is_standing })
      (λ out. absurd (out.shows_none copy stand.is_copy stand.is_standing))
      (aside s)

  -- a member's slot stays
  stays : (s : ℕ) → (on : IsOn past.changes (past.disk s) (after s)) → after s ≡ before s
  stays s on = ⊎_elim (λ same. same) (λ out. absurd (out.no_member on.number on.config on.since on.is_member)) (aside s)

  -- A slot that showed a configuration stays.
  stayed : (s : ℕ) → (on : IsOn past.changes (past.disk s) (before s)) → after s ≡ before s
  stayed s on = ⊎_elim (λ same. same) (λ out. absurd (out.no_member on.number on.config on.since on.is_member)) (aside s)

  -- A slot that shows a configuration showed it before.
  abbrev was_on : (s : ℕ) → (on : IsOn past.changes (past.disk s) (after s)) → IsOn past.changes (past.disk s) (before s)
  was_on s on = record { number = on.number; config = on.config; since = on.since; copy = on.copy; is_only = sym (stays s on) ∙ on.is_only; is_ours = on.is_ours; names = on.names; shows = on.shows; is_full = on.is_full; is_member = on.is_member }

  -- A slot that showed a configuration shows it.
  abbrev now_on : (s : ℕ) → (on : IsOn past.changes (past.disk s) (before s)) → IsOn past.changes (past.disk s) (after s)
  now_on s on = record { number = on.number; config = on.config; since = on.since; copy = on.copy; is_only = stayed s on ∙ on.is_only; is_ours = on.is_ours; names = on.names; shows = on.shows; is_full = on.is_full; is_member = on.is_member }

  -- A slot that such a call wrote is outside.
  out_is : (s : ℕ) → IsAside past s (after s) → IsOutside past.changes (past.disk s) (after s)
  out_is s out = record {
    no_member = λ c at. out.no_member past.changes.acked c (record { late = omega arith; is_there = at });
    shows_some = λ j c at now. absurd (out.no_member j c at now);
    joins_later = λ j c copy at now. absurd (out.no_member j c at now);
    is_behind = λ copy is stand. absurd (out.shows_none copy is stand);
    misses_none = λ copy i d member is shows. absurd (out.shows_none shows.copy shows.is_copy shows.is_standing);
  }

  -- A slot leads with the last acknowledged configuration as it did.
  same_slot : (s : ℕ) (away : Bool) → is_away past s ≡ away → leading_copy r (r.sequence kept.last) (if not away then after s else Nothing) ≡ leading_copy r (r.sequence kept.last) (if not away then before s else Nothing)
  same_slot s true away = refl
  same_slot s false here = ⊎_elim
      (λ same. ap (leading_copy r (r.sequence kept.last)) same)
      (λ out.
      let none_before : (copy : r.Copy) → IsCopyOf (before s) copy → stands r copy ≡ true → r.sequence_of copy ≡ r.sequence kept.last → ⊥ = λ copy is stand same. ⊎_elim
      (λ on. out.no_member on.number on.config on.since on.is_member)
      (⊎_elim
      (λ outside. let older = (outside.is_behind copy is stand).is_older kept.last kept.is_last in omega arith)
      (λ lagging. let older = lagging.is_older copy kept.last is stand kept.is_last in omega arith))
      (kept.each s here) in
      none_leading r after (r.sequence kept.last) (after s) (λ copy is stand same. out.shows_none copy is stand) ∙ sym (none_leading r before (r.sequence kept.last) (before s) none_before))
      (aside s)

  -- A copy names a current member.
  abbrev NamesMember : r.Copy → Type 0
  NamesMember copy = (number : ℕ) × (config : r.Config) × IsSince past.changes number config × (r.has_current config (r.disk_of copy) ≡ true)

  -- Each slot shows what it should after.
  pub aside_kept : IsKept past after
  aside_kept = record {
    last = kept.last;
    is_last = kept.is_last;
    own_next = kept.own_next;
    chain = kept.chain;
    each = λ s here. ⊎_elim
        (λ same. subst (λ (shown : Shown r.Copy). IsRight past.changes (past.disk s) shown) (sym same) (kept.each s here))
        (λ out. inr (inl (out_is s out)))
        (aside s);
    agree = λ s t j one other c apart one_stands other_stands. kept.agree s t j one other c apart (stood s one one_stands) (stood t other other_stands);
    apart = λ s t one other apart one_stands other_stands. kept.apart s t one other apart (stood s one one_stands) (stood t other other_stands);
    named = λ s copy is which. ⊎_elim
        (λ same. subst (λ (shown : Shown r.Copy). IsCopyOf shown copy → ShowsGroup r shown ⊎ NamesMember copy → r.disk_of copy ≡ past.disk s) (sym same) (kept.named s copy) is which)
        (λ out. absurd (⊎_elim (λ shows. out.shows_none shows.copy shows.is_copy shows.is_standing) (λ member. out.names_none copy member.0 member.1 is member.2 member.3) which))
        (aside s);
    alone = kept.alone;
    gone = kept.gone;
    entered = λ s t here there on joins other. kept.entered s t here there (was_on s on) joins (was_on t other);
    remain = kept.remain;
    give = λ young none.
        ap r.read (same_leading r (r.sequence kept.last) (seen (λ s. not (is_away past s)) after) (seen (λ s. not (is_away past s)) before) (λ s. same_slot s (is_away past s) refl) past.slots)
        ∙ kept.give young (λ s here on. none s here (now_on s on));
  }
