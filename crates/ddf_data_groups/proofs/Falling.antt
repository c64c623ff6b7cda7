-- A call that takes its group makes no disk a current member of a configuration that it issues which isn't one of the configuration before that.
use Rattle.std.proofs.Common.{◌≡◌, ◌∙◌, ℕ, zero, suc, ◌+◌, ◌-◌, ◌≤◌, ◌==◌, not, Bool, true, false, List, [], ◌∷◌, ◌++◌, length, map, filter, take, cond, Option, Some, None, Result, Ok, Err, if◌then◌else◌, refl, sym, ap, subst, inl, inr, ⊎_elim, arith}
use Rattle.std.proofs.lemmas.List.{length-append}
use Rattle.std.proofs.lemmas.Option.{slice_get_within}
use Rattle.std.specs.Prelude.{option_to_list, slice_get}
use Rattle.ddf_lemmas.proofs.Lists.{get_last}
use Rattle.ddf_config.specs.declared.refusal.Refusal.{Refusal}
use Rattle.ddf_config.specs.Configuration.{Configuration}
use Rattle.ddf_plan.specs.declared.change.Change.{Change}
use Rattle.ddf_plan.specs.Same.{is_step}
use Rattle.ddf_rewrite.proofs.Lists.{some_same}
use Rattle.ddf_history.specs.Groups.{Disk, groups, has_current}
use Rattle.ddf_history.specs.Issued.{IsSince, Past, acknowledge, issue}
use Rattle.ddf_history.proofs.Lists.{get_taken}
use Rattle.ddf_seats.specs.declared.seated.Seated.{Seated}
use Rattle.ddf_seats.specs.Group.{GroupValue}
use Rattle.ddf_seats.specs.Leading.{some}
use Rattle.ddf_seats.specs.Seated.{levelled}
use Rattle.ddf_steps.specs.Ready.{steps_from, with_step}
use Rattle.ddf_steps.specs.Refusing.{step_refusal}
use Rattle.ddf_steps.specs.Steps.{Step, step_of}
use Rattle.ddf_recovery.specs.Ready.{readied}
use Rattle.ddf_recovery.specs.Recovery.{config_lost, config_recovered, disks_recovered, loss, lost_step, mending_step, recovery_of}
use Rattle.ddf_recovery.proofs.ReadiedSteps.{are_tried, behind, steps_are}
use Rattle.ddf_history_steps.specs.Going.{Ends, Goes, begun, changes_in, issue_all}
use Rattle.ddf_history_steps.proofs.Acked.{ends_keeps, goes_keeps, issued_stays}
use Rattle.ddf_history_steps.proofs.LastIssued.{begun_last}
use Rattle.ddf_history_steps.proofs.MembersKept.{change_from, had}
use Rattle.ddf_history_steps.proofs.SlotsKept.{ends_slots}
use Rattle.ddf_data_groups.specs.Beside.{HasItsMembers}

module _ (disk : Disk) where
  -- ---- lists of configurations

  -- Where a configuration has the disk as a current member, the one before it has.
  abbrev pub Fall : Configuration → List Configuration → Type 0
  Fall first [] = Unit {0}
  Fall first (next ∷ others) = (has_current next disk ≡ true → has_current first disk ≡ true) × Fall next others

  fall_from : (first : Configuration) (changes : List Configuration) → Fall first changes → (place : ℕ) (config : Configuration) → slice_get (first ∷ changes) place ≡ Some config
      → has_current config disk ≡ true → has_current first disk ≡ true
  fall_from first changes falls zero config at current = let same : first ≡ config = some_same refl at in subst (λ (one : Configuration). has_current one disk ≡ true) (sym same) current
  fall_from first [] falls (suc place) config at current = absurd cc
  fall_from first (next ∷ others) falls (suc place) config at current = falls.0 (fall_from next others falls.1 place config at current)

  pub fall_at : (first : Configuration) (changes : List Configuration) → Fall first changes → (i j : ℕ) (config next : Configuration) → i ≤ j → slice_get (first ∷ changes) i ≡ Some config
      → slice_get (first ∷ changes) j ≡ Some next → has_current next disk ≡ true → has_current config disk ≡ true
  fall_at first changes falls zero j config next low here there current =
      let same : first ≡ config = some_same refl here in
      subst (λ (one : Configuration). has_current one disk ≡ true) same (fall_from first changes falls j next there current)
  fall_at first changes falls (suc i) zero config next low here there current = absurd (omega (arith, low))
  fall_at first [] falls (suc i) (suc j) config next low here there current = absurd cc
  fall_at first (one ∷ others) falls (suc i) (suc j) config next low here there current = fall_at one others falls.1 i j config next (omega (arith, low)) here there current

  taken_falls : (first : Configuration) (changes : List Configuration) (many : ℕ) → Fall first changes → Fall first (take many changes)
  taken_falls first changes zero falls = tt
  taken_falls first [] (suc many) falls = tt
  taken_falls first (next ∷ others) (suc many) falls = (falls.0, taken_falls next others many falls.1)

  -- ---- steps

  abbrev pub FallSteps : Configuration → List Step → Type 0
  FallSteps first [] = Unit {0}
  FallSteps first (step ∷ others) = (has_current step.config disk ≡ true → has_current first disk ≡ true) × FallSteps step.config others

  earlier : (first before : Configuration) (steps : List Step) → (has_current first disk ≡ true → has_current before disk ≡ true) → FallSteps first steps → FallSteps before steps
  earlier first before [] from falls = tt
  earlier first before (step ∷ others) from falls = ((λ current. from (falls.0 current)), falls.1)

  -- The changes of such steps fall, of which those count that raise the sequence number.
  changes_fall : (found : GroupValue) (first : Configuration) (steps : List Step) → FallSteps first steps → Fall first (changes_in found steps)
  changes_fall found first [] falls = tt
  changes_fall found first (step ∷ steps) falls =
      go (changes_fall found step.config steps falls.1) (changes_fall found first steps (earlier step.config first steps falls.0 falls.1)) (not (step.config.sequence == found.config.sequence))
    where
      go : Fall step.config (changes_in found steps) → Fall first (changes_in found steps) → (b : Bool)
          → Fall first (map (λ (one : Step). one.config) (cond b (step ∷ filter (λ (one : Step). not (one.config.sequence == found.config.sequence)) steps)
          (filter (λ (one : Step). not (one.config.sequence == found.config.sequence)) steps)))
      go behind_it aside true = (falls.0, behind_it)
      go behind_it aside false = aside

  -- ---- what is readied

  made_falls : (first : Configuration) (made : Step) (rest : Result (List Step) Refusal) (steps : List Step) → (has_current made.config disk ≡ true → has_current first disk ≡ true)
      → ((others : List Step) → rest ≡ Ok others → FallSteps made.config others) → with_step made rest ≡ Ok steps → FallSteps first steps
  made_falls first made (Err refusal) steps here all is = absurd cc
  made_falls first made (Ok others) steps here all is = let same : made ∷ others ≡ steps = cc in subst (FallSteps first) same (here, all others refl)

  next_falls : (first : Configuration) (refusal : Option Refusal) (alters : Bool) (made : Step) (rest stay : Result (List Step) Refusal) (steps : List Step)
      → (has_current made.config disk ≡ true → has_current first disk ≡ true)
      → ((others : List Step) → rest ≡ Ok others → FallSteps made.config others) → ((others : List Step) → stay ≡ Ok others → FallSteps first others)
      → ◌≡◌ {A = Result (List Step) Refusal} (elim refusal [ Some one ↦ Err one | None ↦ if alters then with_step made rest else stay ]) (Ok steps) → FallSteps first steps
  next_falls first (Some one) alters made rest stay steps here all same is = absurd cc
  next_falls first None true made rest stay steps here all same is = made_falls first made rest steps here all is
  next_falls first None false made rest stay steps here all same is = same steps is

  tried_fall : (timestamp : ℕ) (changes : List Change) (config : Configuration) (disks : List Seated) (steps : List Step) → steps_from timestamp None changes config disks ≡ Ok steps → FallSteps config steps
  tried_fall timestamp [] config disks steps is = let same : [] ≡ steps = cc in subst (FallSteps config) same tt
  tried_fall timestamp (change ∷ changes) config disks steps is =
      let made = step_of timestamp config disks change in
      next_falls config (step_refusal timestamp None config disks change) (is_step config change) made (steps_from timestamp None changes made.config (map levelled made.disks))
      (steps_from timestamp None changes config disks) steps ((change_from config change).no_more disk)
      (λ others are. tried_fall timestamp changes made.config (map levelled made.disks) others are)
      (λ others are. tried_fall timestamp changes config disks others are)
      is

  with_recovery : (found : GroupValue) (timestamp : ℕ) (others : List Step) → FallSteps (config_recovered found) others → FallSteps found.config (option_to_list (recovery_of timestamp found) ++ others)
  unfolding recovery_of config_recovered
  with_recovery found timestamp others falls = by (some found.absent) (some found.lagging) falls
    where
      by : (absent lagging : Bool) → FallSteps (if absent then config_lost found else found.config) others
          → FallSteps found.config (option_to_list (if absent then Some (lost_step timestamp found) else if lagging then Some (mending_step timestamp found) else None) ++ others)
      by true lagging rest = ((change_from found.config (loss found)).no_more disk, rest)
      by false true rest = ((λ current. current), rest)
      by false false rest = rest

  pub readied_fall : (found : GroupValue) (changes : List Change) (timestamp : ℕ) (steps : List Step) → readied found changes timestamp ≡ Ok steps → Fall found.config (changes_in found steps)
  readied_fall found changes timestamp steps are =
      changes_fall found found.config steps
      (subst (FallSteps found.config) (sym (steps_are found changes timestamp steps are))
      (with_recovery found timestamp (behind found changes timestamp steps are)
      (tried_fall timestamp changes (config_recovered found) (disks_recovered timestamp found) (behind found changes timestamp steps are) (are_tried found changes timestamp steps are))))

-- ---- the history

module _ (group : List ℕ) where
  -- What stands behind the last of some changes, once more are issued, is one of these.
  issued_at : (past : Past (groups group)) (n : ℕ) (first : Configuration) (changes : List Configuration) → slice_get past.changes.issued n ≡ Some first → length past.changes.issued ≡ n + 1
      → (i : ℕ) (config : Configuration) → slice_get (issue_all group past changes).changes.issued (n + i) ≡ Some config → slice_get (first ∷ changes) i ≡ Some config
  issued_at past n first changes at long zero config there =
      let same : n + 0 ≡ n = omega arith in
      some_at (issued_stays group past changes n first at) (subst (λ (place : ℕ). slice_get (issue_all group past changes).changes.issued place ≡ Some config) same there)
    where
      some_at : {o : Option Configuration} → o ≡ Some first → o ≡ Some config → slice_get (first ∷ changes) 0 ≡ Some config
      some_at one other = ap Some (some_same one other)
  issued_at past n first [] at long (suc i) config there =
      let within = slice_get_within past.changes.issued (n + suc i) config there in absurd (omega (arith, within, long))
  issued_at past n first (next ∷ others) at long (suc i) config there =
      let here : slice_get (past.changes.issued ++ next ∷ []) (n + 1) ≡ Some next =
      subst (λ (place : ℕ). slice_get (past.changes.issued ++ next ∷ []) place ≡ Some next) long (get_last past.changes.issued next) in
      let more = length-append past.changes.issued (next ∷ []) in
      let same : n + suc i ≡ n + 1 + i = omega arith in
      issued_at (issue past next) (n + 1) next others here (omega (arith, more, long)) i config
      (subst (λ (place : ℕ). slice_get (issue_all group (issue past next) others).changes.issued place ≡ Some config) same there)

  module _ (past : Past (groups group)) (readable : ℕ → Bool) (found : GroupValue) where
    -- what a call under way has made of its history
    abbrev start : (number : ℕ) → Past (groups group)
    start number = begun group past readable found number

    -- The last acknowledged configuration is behind what was found: each disk that is a current member since then is one by that, where the changes fall.
    issued_joins_none : (now : Past (groups group)) (number acked : ℕ) (taken : List Configuration) → IsSince past.changes number found.config → number ≤ acked
        → now ≡ acknowledge (issue_all group (start number) taken) acked → ((disk : Disk) → Fall disk found.config taken)
        → (n : ℕ) (config last : Configuration) (disk : Disk) → IsSince now.changes n config → has_current config disk ≡ true → slice_get now.changes.issued now.changes.acked ≡ Some last
        → has_current last disk ≡ true
    issued_joins_none now number acked taken since low is_now falls n config last disk is current at =
        let from = begun_last group past readable found number since in
        let here : slice_get (issue_all group (start number) taken).changes.issued acked ≡ Some last = subst (λ (one : Past (groups group)). slice_get one.changes.issued one.changes.acked ≡ Some last) is_now at in
        let there : IsSince (acknowledge (issue_all group (start number) taken) acked).changes n config = subst (λ (one : Past (groups group)). IsSince one.changes n config) is_now is in
        let late : acked ≤ n = there.late in
        let near : acked ≡ number + (acked - number) = omega (arith, low) in
        let far : n ≡ number + (n - number) = omega (arith, late, low) in
        fall_at disk found.config taken (falls disk) (acked - number) (n - number) last config (omega (arith, late, low))
        (issued_at (start number) number found.config taken from.0 from.1 (acked - number) last
        (subst (λ (place : ℕ). slice_get (issue_all group (start number) taken).changes.issued place ≡ Some last) near here))
        (issued_at (start number) number found.config taken from.0 from.1 (n - number) config
        (subst (λ (place : ℕ). slice_get (issue_all group (start number) taken).changes.issued place ≡ Some config) far there.is_there))
        current

    module _ (its : HasItsMembers group past) (first : Configuration) (first_is : slice_get past.changes.issued past.changes.acked ≡ Some first)
        (asked : List Change) (timestamp : ℕ) (steps : List Step) (are : readied found asked timestamp ≡ Ok steps) where
      abbrev issued : List Configuration
      issued = changes_in found steps

      falls : (disk : Disk) → Fall disk found.config issued
      falls disk = readied_fall disk found asked timestamp steps are

      -- Where the last acknowledged configuration is that of before, each is a member by that.
      still_joins_none : (done : Bool) (now : Past (groups group)) → Ends group past readable found issued done now → now.changes.acked ≡ past.changes.acked
          → (n : ℕ) (config last : Configuration) (disk : Disk) → IsSince now.changes n config → has_current config disk ≡ true → slice_get now.changes.issued now.changes.acked ≡ Some last
          → has_current last disk ≡ true
      still_joins_none done now ends same n config last disk is current at =
          let was = had group past now readable found asked timestamp steps are done ends n config is in
          let kept = ends_keeps group past now readable found issued done ends in
          let stays : slice_get now.changes.issued now.changes.acked ≡ Some first =
          subst (λ (place : ℕ). slice_get now.changes.issued place ≡ Some first) (sym same) (kept.same past.changes.acked first (omega arith) first_is) in
          subst (λ (one : Configuration). has_current one disk ≡ true) (some_same stays at)
          (its.none_joins was.number was.earlier first disk was.since (was.within.no_more disk current) first_is)

      joins_none : (done : Bool) (now : Past (groups group)) → Ends group past readable found issued done now
          → (n : ℕ) (config last : Configuration) (disk : Disk) → IsSince now.changes n config → has_current config disk ≡ true → slice_get now.changes.issued now.changes.acked ≡ Some last
          → has_current last disk ≡ true
      joins_none true now is = issued_joins_none now is.number (is.number + length issued) issued is.since (omega arith) is.is_now falls
      joins_none false now (inl same) = still_joins_none false now (inl same) (ap (λ (one : Past (groups group)). one.changes.acked) same)
      joins_none false now (inr is) = ⊎_elim
          (λ same. still_joins_none false now (inr is) (ap (λ (one : Past (groups group)). one.changes.acked) is.is_now ∙ same))
          (λ low. issued_joins_none now is.number is.acked (take is.issued issued) is.since low is.is_now (λ disk. taken_falls disk found.config issued is.issued (falls disk)))
          is.stands

      -- So the group has its own members behind a call, however far that came.
      pub members_behind : (done : Bool) (now : Past (groups group)) → Ends group past readable found issued done now → HasItsMembers group now
      members_behind done now ends =
          let later = (ends_keeps group past now readable found issued done ends).later in
          let same = (ends_slots group past readable found issued done now ends).same_own in
          let own = its.own in
          record { own = omega (arith, later, same, own); none_joins = joins_none done now ends }

    -- ---- what is true of the last acknowledged configuration

    -- What is true of it before a call, of what the call found and of each configuration that it issues, is true of it behind the call.
    module _ (P : Configuration → Type 0) (first : Configuration) (first_is : slice_get past.changes.issued past.changes.acked ≡ Some first) (before : P first) (of_found : P found.config)
        (issued : List Configuration) (each : (place : ℕ) (config : Configuration) → slice_get issued place ≡ Some config → P config) where
      of_listed : (place : ℕ) (config : Configuration) → slice_get (found.config ∷ issued) place ≡ Some config → P config
      of_listed zero config at = subst P (some_same refl at) of_found
      of_listed (suc place) config at = each place config at

      listed_taken : (many place : ℕ) (config : Configuration) → slice_get (found.config ∷ take many issued) place ≡ Some config → slice_get (found.config ∷ issued) place ≡ Some config
      listed_taken many zero config at = at
      listed_taken many (suc place) config at = (get_taken issued many place config at).0

      still_last : (now : Past (groups group)) → Goes group past readable found issued now → now.changes.acked ≡ past.changes.acked → (last : Configuration)
          → slice_get now.changes.issued now.changes.acked ≡ Some last → P last
      still_last now goes same last at =
          let kept = goes_keeps group past now readable found issued goes in
          let stays : slice_get now.changes.issued now.changes.acked ≡ Some first =
          subst (λ (place : ℕ). slice_get now.changes.issued place ≡ Some first) (sym same) (kept.same past.changes.acked first (omega arith) first_is) in
          subst P (some_same stays at) before

      pub last_behind : (now : Past (groups group)) → Goes group past readable found issued now → (last : Configuration) → slice_get now.changes.issued now.changes.acked ≡ Some last → P last
      last_behind now (inl same) last at = still_last now (inl same) (ap (λ (one : Past (groups group)). one.changes.acked) same) last at
      last_behind now (inr is) last at = ⊎_elim
          (λ same. still_last now (inr is) (ap (λ (one : Past (groups group)). one.changes.acked) is.is_now ∙ same) last at)
          (λ low.
          let from = begun_last group past readable found is.number is.since in
          let here : slice_get (issue_all group (start is.number) (take is.issued issued)).changes.issued is.acked ≡ Some last =
          subst (λ (one : Past (groups group)). slice_get one.changes.issued one.changes.acked ≡ Some last) is.is_now at in
          let near : is.acked ≡ is.number + (is.acked - is.number) = omega (arith, low) in
          of_listed (is.acked - is.number) last
          (listed_taken is.issued (is.acked - is.number) last
          (issued_at (start is.number) is.number found.config (take is.issued issued) from.0 from.1 (is.acked - is.number) last
          (subst (λ (place : ℕ). slice_get (issue_all group (start is.number) (take is.issued issued)).changes.issued place ≡ Some last) near here))))
          is.stands
