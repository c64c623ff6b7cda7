-- A call on a group makes no disk a current member that was none since the last acknowledged configuration, and keeps missing what was missing.
use Rattle.std.proofs.Common.{◌≡◌, ◌⊎◌, ℕ, suc, ◌+◌, ◌≤◌, ◌==◌, not, Bool, true, false, List, [], ◌∷◌, length, filter, take, Option, Some, None, Ok, if◌then◌else◌, refl, ap, sym, subst, inl, inr, ⊎_elim, arith}
use Rattle.std.specs.Prelude.{slice_get}
use Rattle.ddf_lemmas.proofs.Lists.{filter_get, in_map}
use Rattle.ddf_config.specs.Configuration.{Configuration}
use Rattle.ddf_plan.specs.declared.change.Change.{Change}
use Rattle.ddf_history.specs.Groups.{Disk, groups, has_current, has_missing}
use Rattle.ddf_history.specs.Issued.{IsSince, Past, issue, leave_out, take_off}
use Rattle.ddf_history.proofs.Following.{changes_follow}
use Rattle.ddf_history.proofs.Lists.{get_more, get_taken}
use Rattle.ddf_seats.specs.Group.{GroupValue}
use Rattle.ddf_recovery.specs.Ready.{readied}
use Rattle.ddf_recovery.specs.Recovery.{config_lost, config_recovered, loss, lost_step, mending_step, recovery_of}
use Rattle.ddf_seats.specs.Leading.{some}
use Rattle.ddf_steps.specs.Steps.{Step, config_after}
use Rattle.ddf_history_steps.specs.Members.{KeepsMembers}
use Rattle.ddf_history_steps.proofs.AllSteps.{AllSteps, readied_all}
use Rattle.ddf_history_steps.proofs.SlotsKept.{ends_slots}
use Rattle.ddf_history_steps.specs.Going.{Ends, Goes, IsOver, begun, changes_in, issue_all}

-- ---- the steps

-- Each current member of the later configuration is one of the earlier, and a member that was missing is so.
pub record IsFrom (earlier later : Configuration) : Type 0 where
  pub no_more : (disk : Disk) → has_current later disk ≡ true → has_current earlier disk ≡ true
  pub stays_missing : (disk : Disk) → has_missing earlier disk ≡ true → has_missing later disk ≡ true

as_it_is : (config : Configuration) → IsFrom config config
as_it_is config = record { no_more = λ disk is. is; stays_missing = λ disk is. is }

one_after_another : (first middle last : Configuration) → IsFrom first middle → IsFrom middle last → IsFrom first last
one_after_another first middle last one other = record {
  no_more = λ disk is. one.no_more disk (other.no_more disk is);
  stays_missing = λ disk is. other.stays_missing disk (one.stays_missing disk is);
}

-- A change gives such a configuration.
pub change_from : (config : Configuration) (change : Change) → IsFrom config (config_after config change)
change_from config change =
    let follow = changes_follow config.group config change (config.sequence + 1) (omega arith) in
    record { no_more = follow.no_more; stays_missing = follow.stays_missing }

module _ (found : GroupValue) (timestamp : ℕ) where
  recovery_from : (step : Step) → recovery_of timestamp found ≡ Some step → IsFrom found.config step.config
  unfolding recovery_of
  recovery_from step is = by (some found.absent) (some found.lagging) is
    where
      by : (absent lagging : Bool)
          → ◌≡◌ {A = Option Step} (if absent then Some (lost_step timestamp found) else if lagging then Some (mending_step timestamp found) else None) (Some step)
          → IsFrom found.config step.config
      by true lagging is = let same : lost_step timestamp found ≡ step = cc in subst (λ (one : Step). IsFrom found.config one.config) same (change_from found.config (loss found))
      by false true is = let same : mending_step timestamp found ≡ step = cc in subst (λ (one : Step). IsFrom found.config one.config) same (as_it_is found.config)
      by false false is = absurd cc

  behind_from : IsFrom found.config (config_recovered found)
  unfolding config_recovered
  behind_from = by (some found.absent)
    where
      by : (absent : Bool) → IsFrom found.config (if absent then config_lost found else found.config)
      by true = change_from found.config (loss found)
      by false = as_it_is found.config

  steps_from_found : (changes : List Change) (steps : List Step) → readied found changes timestamp ≡ Ok steps → AllSteps (λ step. IsFrom found.config step.config) steps
  steps_from_found = readied_all (λ step. IsFrom found.config step.config) (λ config disks. IsFrom found.config config) timestamp
      (λ config disks change from. let here = one_after_another found.config config (config_after config change) from (change_from config change) in (here, here))
      found (λ own. recovery_from) (λ own. behind_from)

-- ---- the history

module _ (group : List ℕ) where
  -- The configuration is made of one since the last acknowledged one: it is that one, or one of these changes.
  pub record HadMembers (past : Past (groups group)) (changes : List Configuration) (config : Configuration) : Type 0 where
    pub number : ℕ
    pub earlier : Configuration
    pub since : IsSince past.changes number earlier
    pub within : IsFrom earlier config
    pub origin : (earlier ≡ config) ⊎ ((i : ℕ) × (slice_get changes i ≡ Some config))

  -- An issued change is an earlier one, or one of these.
  issued_one : (past : Past (groups group)) (changes : List Configuration) (n : ℕ) (config : Configuration) → slice_get (issue_all group past changes).changes.issued n ≡ Some config
      → (slice_get past.changes.issued n ≡ Some config) ⊎ ((i : ℕ) × (slice_get changes i ≡ Some config))
  issued_one past [] n config at = inl at
  issued_one past (next ∷ others) n config at = elim (issued_one (issue past next) others n config at) [
    | inl before ↦ elim (get_more past.changes.issued next n config before) [
      | inl older ↦ inl older
      | inr new ↦ inr (0, ap Some (sym new.1))
    ]
    | inr later ↦ inr (suc later.0, later.1)
  ]

  module _ (past : Past (groups group)) (readable : ℕ → Bool) (found : GroupValue) where
    begun_one : (number n : ℕ) (config : Configuration) → slice_get (begun group past readable found number).changes.issued n ≡ Some config → slice_get past.changes.issued n ≡ Some config
    begun_one number n config at = by (some found.absent) at
      where
        by : (absent : Bool) → slice_get (if absent then take_off (leave_out past readable found.config) number else take_off past number).changes.issued n ≡ Some config
            → slice_get past.changes.issued n ≡ Some config
        by true is = (get_taken past.changes.issued (number + 1) n config is).0
        by false is = (get_taken past.changes.issued (number + 1) n config is).0

    module _ (number : ℕ) (since : IsSince past.changes number found.config) (changes : List Configuration)
        (within : (i : ℕ) (config : Configuration) → slice_get changes i ≡ Some config → IsFrom found.config config) where
      had_members : (acked n : ℕ) (config : Configuration) → (acked ≡ past.changes.acked) ⊎ (number ≤ acked) → acked ≤ n
          → slice_get (issue_all group (begun group past readable found number) changes).changes.issued n ≡ Some config → HadMembers past changes config
      had_members acked n config stands late at = elim (issued_one (begun group past readable found number) changes n config at) [
        | inl older ↦
            let from = since.late in
            record {
              number = n;
              earlier = config;
              since = record { late = ⊎_elim (λ same. omega (arith, same, late)) (λ far. omega (arith, far, from, late)) stands; is_there = begun_one number n config older };
              within = as_it_is config;
              origin = inl refl;
            }
        | inr new ↦ record { number = number; earlier = found.config; since = since; within = within new.0 config new.1; origin = inr new }
      ]

    module _ (changes : List Configuration) (within : (i : ℕ) (config : Configuration) → slice_get changes i ≡ Some config → IsFrom found.config config) where
      goes_had : (now : Past (groups group)) → Goes group past readable found changes now → (n : ℕ) (config : Configuration) → IsSince now.changes n config → HadMembers past changes config
      goes_had now (inl same) n config since =
          record { number = n; earlier = config; since = subst (λ (one : Past (groups group)). IsSince one.changes n config) same since; within = as_it_is config; origin = inl refl }
      goes_had now (inr is) n config since =
          let at = subst (λ (one : Past (groups group)). IsSince one.changes n config) is.is_now since in
          let was = had_members is.number is.since (take is.issued changes) (λ i one there. within i one (get_taken changes is.issued i one there).0)
          is.acked n config is.stands at.late at.is_there in
          record {
            number = was.number;
            earlier = was.earlier;
            since = was.since;
            within = was.within;
            origin = ⊎_elim inl (λ new. inr (new.0, (get_taken changes is.issued new.0 config new.1).0)) was.origin;
          }

      over_had : (now : Past (groups group)) → IsOver group past readable found changes now → (n : ℕ) (config : Configuration) → IsSince now.changes n config → HadMembers past changes config
      over_had now is n config since =
          let at = subst (λ (one : Past (groups group)). IsSince one.changes n config) is.is_now since in
          had_members is.number is.since changes within (is.number + length changes) n config (inr (omega arith)) at.late at.is_there

  -- A change is one of the steps.
  changed_step : (found : GroupValue) (steps : List Step) (i : ℕ) (config : Configuration) → slice_get (changes_in found steps) i ≡ Some config
      → (number : ℕ) × (step : Step) × (slice_get steps number ≡ Some step) × (step.config ≡ config)
  changed_step found steps i config at =
      let later : Step → Bool = λ step. not (step.config.sequence == found.config.sequence) in
      let one = in_map (λ (step : Step). step.config) (filter later steps) i config at in
      let from = filter_get later steps i one.0 one.1 in
      (from.0, one.0, from.1, one.2)

  changed_within : (found : GroupValue) (steps : List Step) → AllSteps (λ step. IsFrom found.config step.config) steps → (i : ℕ) (config : Configuration) → slice_get (changes_in found steps) i ≡ Some config
      → IsFrom found.config config
  changed_within found steps within i config at =
      let from = changed_step found steps i config at in
      subst (IsFrom found.config) from.3 (within from.0 from.1 from.2)

  -- So is each behind a call of the group, however far that came.
  module _ (past now : Past (groups group)) (readable : ℕ → Bool) (found : GroupValue) (asked : List Change) (timestamp : ℕ) (steps : List Step) (are : readied found asked timestamp ≡ Ok steps) where
    abbrev within : (i : ℕ) (config : Configuration) → slice_get (changes_in found steps) i ≡ Some config → IsFrom found.config config
    within = changed_within found steps (steps_from_found found timestamp asked steps are)

    pub had : (done : Bool) → Ends group past readable found (changes_in found steps) done now → (n : ℕ) (config : Configuration) → IsSince now.changes n config → HadMembers past (changes_in found steps) config
    had true over = over_had past readable found (changes_in found steps) within now over
    had false goes = goes_had past readable found (changes_in found steps) within now goes

    -- So members are kept.
    pub members_kept : (done : Bool) → Ends group past readable found (changes_in found steps) done now → KeepsMembers group past now steps
    members_kept done ends =
        let same_disks = (ends_slots group past readable found (changes_in found steps) done now ends).same_disks in
        record {
          makes_none = λ disk none n config since current. let was = had done ends n config since in none was.number was.earlier was.since (was.within.no_more disk current);
          stays_current = λ disk current keep n config since.
              let was = had done ends n config since in
              elim was.origin [
                | inl same ↦ subst (λ (one : Configuration). has_current one disk ≡ true) same (current was.number was.earlier was.since)
                | inr new ↦
                    let from = changed_step found steps new.0 config new.1 in
                    subst (λ (one : Configuration). has_current one disk ≡ true) from.3 (keep from.0 from.1 from.2)
              ];
          stays_missing = λ disk missing n config since. let was = had done ends n config since in was.within.stays_missing disk (missing was.number was.earlier was.since);
          stays_aside = λ slot shown aside. record {
            no_member = λ n config since current.
                let was = had done ends n config since in
                aside.no_member was.number was.earlier was.since
                (was.within.no_more (past.disk slot) (subst (λ (disk : ℕ → Disk). has_current config (disk slot) ≡ true) same_disks current));
            shows_none = aside.shows_none;
            names_none = λ copy n config is since current. let was = had done ends n config since in aside.names_none copy was.number was.earlier is was.since (was.within.no_more _ current);
          };
        }
