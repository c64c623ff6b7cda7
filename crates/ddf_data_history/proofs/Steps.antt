-- Each step of a history keeps the data of its group.
use Rattle.std.proofs.Common.{◌≡◌, ◌∙◌, ⊎_elim, ℕ, zero, suc, ◌+◌, ◌<◌, ◌≤◌, ◌^◌, Bool, true, false, not, List, [], ◌∷◌, Option, Some, refl, sym, ap, subst, arith, slice_get, ◌&&◌}
use Rattle.std.proofs.Math.Path.{fun_ext}
use Rattle.std.specs.Prelude.{filter_map, ◌==◌, if◌then◌else◌}
use Rattle.std.specs.List.{range_with_len}
use Rattle.std.specs.Map.{lookup}
use Rattle.std.proofs.lemmas.Bool.{cases_eq, ne_eqb, and_from, not-true}
use Rattle.ddf_lemmas.proofs.Tests.{and_first, and_second, not_back, true_false}
use Rattle.ddf_bay.specs.Sectors.{Image}
use Rattle.ddf_config.specs.declared.array.Array.{Array}
use Rattle.ddf_config.specs.Configuration.{Configuration}
use Rattle.ddf_config.specs.Members.{same_guid}
use Rattle.ddf_config.proofs.Common.{same_self}
use Rattle.ddf_plan.specs.Changes.{changed_at}
use Rattle.ddf_array.specs.Losing.{AreFewer}
use Rattle.ddf_array.specs.Volume.{Volume}
use Rattle.ddf_array.specs.Sound.{AreSectors}
use Rattle.ddf_data_array.specs.Allowed.{Allowed}
use Rattle.ddf_data_array.specs.Rows.{AreAlikeThroughout}
use Rattle.ddf_data_array.proofs.Same.{kept_same}
use Rattle.ddf_data_array.proofs.Histories.{by_step}
use Rattle.ddf_data_group.specs.Over.{AreCurrentSeats, IsOver, absent_in}
use Rattle.ddf_data_group.specs.Kept.{KeepsArray}
use Rattle.ddf_data_group.specs.Grouped.{KeepsArrays, Promises}
use Rattle.ddf_data_group.proofs.Agreed.{agreed}
use Rattle.ddf_data_group.proofs.Changed.{changed_keeps}
use Rattle.ddf_data_group.proofs.Clearly.{below_floor}
use Rattle.ddf_data_group.proofs.Cleared.{same_marked}
use Rattle.ddf_data_group.proofs.Entries.{guid_is}
use Rattle.ddf_data_group.proofs.Keeping.{kept_fewer}
use Rattle.ddf_history.specs.Issued.{Past, IsSince, acknowledge, give_back, issue, take_off, with_slots}
use Rattle.ddf_history.specs.Groups.{Disk, groups, has_current, has_missing}
use Rattle.ddf_history.proofs.Following.{changes_follow}
use Rattle.ddf_history.proofs.Lists.{get_more, get_taken}
use Rattle.ddf_history.proofs.Sound.{groups_are_sound}
use Rattle.ddf_data_history.specs.Promised.{AreAlone, IsAlone, KeepsData, OthersStay, SameBelow, is_seat, seat_if, seats_in, with_promise}
use Rattle.ddf_data_history.specs.History.{Moment, IsJoin, IsPlanned, IsIssue, IsSettling, IsLoss, IsReturn, IsRecords, IsData, IsDropped, IsPromised, IsStep, IsHistory, Keeps}
use Rattle.ddf_data_history.proofs.Seats.{are_current, are_fewer, is_at}

same_text_back : (xs ys : List ℕ) → xs ≡ ys → same_guid xs ys ≡ true
same_text_back xs ys e = subst (λ (l : List ℕ). same_guid xs l ≡ true) e (same_self xs)

module _ (group : List ℕ) (floor : ℕ → ℕ) (small : (slot : ℕ) → floor slot < 2 ^ 64) where
  -- the seats of a configuration are current members'
  pub seats_are : (past : Past (groups group)) (config : Configuration) → AreCurrentSeats config.members (seats_in group past floor config)
  seats_are past config = are_current floor past.disk config (is_seat group past config) past.slots (λ slot e. and_second (not (past.lost slot)) (has_current config (past.disk slot)) e) small

  -- no two of them have one reference
  one_slot : (past : Past (groups group)) → AreAlone group past → (number : ℕ) (config : Configuration) → IsSince past.changes number config → (s t : ℕ) → is_seat group past config s ≡ true → is_seat group past config t ≡ true
      → (past.disk s).reference ≡ (past.disk t).reference → s ≡ t
  one_slot past alone number config since s t a b same =
      let one = and_second (not (past.lost s)) (has_current config (past.disk s)) a in
      let other = and_second (not (past.lost t)) (has_current config (past.disk t)) b in
      alone s t number config since one ((groups_are_sound group).one_reference config (past.disk s) (past.disk t) one other same)

  module _ (past : Past (groups group)) (image : Image) (promises : Promises) (kept : KeepsData group past floor image promises) where
    -- ---- slots

    pub by_loss : AreAlone group past → (lost returned : ℕ → Bool) → ((slot : ℕ) → past.lost slot ≡ true → lost slot ≡ true) → KeepsData group (with_slots past lost returned) floor image promises
    by_loss alone lost returned stay number config since guid allowed array promised found =
        let old : IsSince past.changes number config = record { late = since.late; is_there = since.is_there } in
        kept_fewer config.members (seats_in group past floor config) (seats_in group (with_slots past lost returned) floor config) array image allowed (seats_are past config)
        (are_fewer floor past.disk (is_seat group past config) (is_seat group (with_slots past lost returned) config) past.slots
        (λ slot e. and_from (not (past.lost slot)) (has_current config (past.disk slot))
        (not_back (past.lost slot) (λ gone. true_false (lost slot) (stay slot gone) (not-true (lost slot) (and_first (not (lost slot)) (has_current config (past.disk slot)) e))))
        (and_second (not (lost slot)) (has_current config (past.disk slot)) e))
        (one_slot past alone number config old))
        (kept number config old guid allowed array promised found)

    pub by_return : (slot : ℕ) → ((number : ℕ) (config : Configuration) → IsSince past.changes number config → has_missing config (past.disk slot) ≡ true) → KeepsData group (give_back past slot) floor image promises
    by_return slot missing number config since guid allowed array promised found =
        let old : IsSince past.changes number config = record { late = since.late; is_there = since.is_there } in
        subst (λ (here : ℕ → Bool). KeepsArray config.members (filter_map (λ s. seat_if (here s) floor (past.disk s) s) (range_with_len 0 past.slots)) array image allowed) (fun_ext (same number config old))
        (kept number config old guid allowed array promised found)
      where
        by_current : (a b c : Bool) → c ≡ false → (not a && c) ≡ (not (a && b) && c)
        by_current a b true e = absurd (cc)
        by_current true true false e = refl
        by_current true false false e = refl
        by_current false b false e = refl

        by_other : (a b c : Bool) → b ≡ true → (not a && c) ≡ (not (a && b) && c)
        by_other true true c e = refl
        by_other true false c e = absurd (cc)
        by_other false b c e = refl

        not_current : (b : Bool) → (b ≡ true → ⊥) → b ≡ false
        not_current true never = absurd (never refl)
        not_current false never = refl

        same : (number : ℕ) (config : Configuration) → IsSince past.changes number config → (s : ℕ) → is_seat group past config s ≡ is_seat group (give_back past slot) config s
        same number config since s =
            ⊎_elim
            (λ on. by_current (past.lost s) (not (s == slot)) (has_current config (past.disk s))
            (not_current (has_current config (past.disk s)) (λ current. (groups_are_sound group).not_both config (past.disk s) current (ap (λ (k : ℕ). has_missing config (past.disk k)) on ∙ missing number config since))))
            (λ apart. by_other (past.lost s) (not (s == slot)) (has_current config (past.disk s)) (ap not (ne_eqb s slot apart))) (cases_eq s slot)

    -- ---- what was issued

    pub by_acknowledge : (number : ℕ) → past.changes.acked ≤ number → KeepsData group (acknowledge past number) floor image promises
    by_acknowledge n later number config since =
        let old : IsSince past.changes number config = record { late = omega (arith, later, since.late); is_there = since.is_there } in kept number config old

    pub by_taking : (number : ℕ) → KeepsData group (take_off past number) floor image promises
    by_taking n number config since =
        let old : IsSince past.changes number config = record { late = since.late; is_there = (get_taken past.changes.issued (n + 1) number config since.is_there).0 } in kept number config old

    -- a change behind the last
    pub by_issue : (next : Configuration) → KeepsArrays next (seats_in group past floor next) image promises → KeepsData group (issue past next) floor image promises
    by_issue next keeps number config since =
        ⊎_elim
        (λ old. kept number config (record { late = since.late; is_there = old }))
        (λ new. subst (λ (c : Configuration). KeepsArrays c (seats_in group past floor c) image promises) (sym new.1) keeps)
        (get_more past.changes.issued next number config since.is_there)

    -- ---- sectors

    module _ (after : Image) (are : AreSectors after) where
      same_array : (config : Configuration) (array : Array) (allowed : Allowed) → ((volume : Volume) → IsOver (seats_in group past floor config) array volume → AreAlikeThroughout volume image after)
          → KeepsArray config.members (seats_in group past floor config) array image allowed → KeepsArray config.members (seats_in group past floor config) array after allowed
      same_array config array allowed same keeps volume over =
          kept_same (absent_in config.members (seats_in group past floor config) array.elements) volume image after allowed over.is_volume are (same volume over) (keeps volume over)

      pub by_records : ((number : ℕ) (config : Configuration) → IsSince past.changes number config → (guid : List ℕ) (array : Array) (volume : Volume) → lookup (same_guid guid) config.arrays ≡ Some array
          → IsOver (seats_in group past floor config) array volume → AreAlikeThroughout volume image after) → KeepsData group past floor after promises
      by_records stay number config since guid allowed array promised found =
          same_array config array allowed (λ volume over. stay number config since guid array volume found over) (kept number config since guid allowed array promised found)

      -- records lie at or past the floors
      pub below_floors : SameBelow floor image after → KeepsData group past floor after promises
      below_floors same = by_records (λ number config since guid array volume found over element position sector slot lba lies.
          let below = below_floor (seats_in group past floor config) array volume over element position sector slot lba lies in
          let at = is_at floor past.disk (is_seat group past config) past.slots below.0 below.1 slot below.2 below.3 in
          sym (same slot lba (subst (λ (n : ℕ). lba < n) at.is_floor below.4)))

      pub by_data : (config : Configuration) → IsAlone group past config → (guid : List ℕ) (new : Allowed)
          → ((array : Array) → lookup (same_guid guid) config.arrays ≡ Some array → (number : ℕ) → IsSince past.changes number config → KeepsArray config.members (seats_in group past floor config) array after new)
          → OthersStay group config (seats_in group past floor config) promises guid image after
          → KeepsData group past floor after (with_promise promises guid (Some new))
      by_data config alone guid new own others number c since other allowed array promised found =
          let is = alone number c since in
          by is (same_guid guid other) refl promised
        where
          kept_at : (b : Bool) → same_guid guid other ≡ b → ◌≡◌ {A = Option Allowed} (if b then Some new else promises other) (Some allowed) → IsSince past.changes number config → lookup (same_guid other) config.arrays ≡ Some array
              → KeepsArray config.members (seats_in group past floor config) array after allowed
          kept_at true same e here there =
              let one = guid_is guid other same in
              let allowed_is : new ≡ allowed = cc in
              subst (KeepsArray config.members (seats_in group past floor config) array after) allowed_is
              (own array (ap (λ (g : List ℕ). lookup (same_guid g) config.arrays) one ∙ there) number here)
          kept_at false differs e here there =
              same_array config array allowed (λ volume over. others other array volume (λ same. true_false (same_guid guid other) (same_text_back guid other (sym same)) differs) there over)
              (kept number config here other allowed array e there)

          by : c ≡ config → (b : Bool) → same_guid guid other ≡ b → ◌≡◌ {A = Option Allowed} (if b then Some new else promises other) (Some allowed) → KeepsArray c.members (seats_in group past floor c) array after allowed
          by is b same e =
              subst (λ (x : Configuration). KeepsArray x.members (seats_in group past floor x) array after allowed) (sym is)
              (kept_at b same e (subst (IsSince past.changes number) is since) (subst (λ (x : Configuration). lookup (same_guid other) x.arrays ≡ Some array) is found))

  -- ---- changes, by the arrays

  plan_fewer : (past : Past (groups group)) → AreAlone group past → (number : ℕ) (last : Configuration) → IsSince past.changes number last → (next : Configuration)
      → ((disk : Disk) → has_current next disk ≡ true → has_current last disk ≡ true) → AreFewer (seats_in group past floor last) (seats_in group past floor next)
  plan_fewer past alone number last since next less =
      are_fewer floor past.disk (is_seat group past last) (is_seat group past next) past.slots
      (λ slot e. and_from (not (past.lost slot)) (has_current last (past.disk slot)) (and_first (not (past.lost slot)) (has_current next (past.disk slot)) e)
      (less (past.disk slot) (and_second (not (past.lost slot)) (has_current next (past.disk slot)) e)))
      (one_slot past alone number last since)

  module _ (old : Moment group) (kept : Keeps group floor old) (number : ℕ) (last next : Configuration) (since : IsSince old.past.changes number last) (alone : AreAlone group old.past) where
    by_plan : IsPlanned group floor old last next → KeepsArrays next (seats_in group old.past floor next) old.image old.promises
    by_plan planned =
        let follows = changes_follow group last planned.change planned.sequence planned.rises in
        let seats = seats_in group old.past floor (changed_at last planned.change planned.sequence) in
        subst (λ (c : Configuration). KeepsArrays c (seats_in group old.past floor c) old.image old.promises) (sym planned.is_next)
        (changed_keeps last (seats_in group old.past floor last) seats old.image old.promises (seats_are old.past last)
        (plan_fewer old.past alone number last since (changed_at last planned.change planned.sequence) follows.no_more) (kept number last since)
        planned.change planned.sequence (seats_are old.past (changed_at last planned.change planned.sequence)) planned.may)

    by_join : IsJoin group floor old last next → KeepsArrays next (seats_in group old.past floor next) old.image old.promises
    by_join join guid allowed after promised found =
        let stays = join.stays guid allowed after promised found in
        let seats = seats_in group old.past floor last in
        agreed last.members next.members seats (seats_in group old.past floor next) after old.image allowed stays.1.1.agree
        (same_marked last.members last.members seats stays.0 after old.image allowed stays.1.1.same stays.1.1.same_mark (λ reference. refl) (kept number last since guid allowed stays.0 promised stays.1.0))

  -- ---- steps

  moved : (old new : Moment group) (past : Past (groups group)) (promises : Promises) → new.past ≡ past → new.image ≡ old.image → new.promises ≡ promises → KeepsData group past floor old.image promises → Keeps group floor new
  moved old new past promises a b c kept =
      subst (λ x. KeepsData group x floor new.image new.promises) (sym a) (subst (λ x. KeepsData group past floor x new.promises) (sym b) (subst (KeepsData group past floor old.image) (sym c) kept))

  module _ (old new : Moment group) (kept : Keeps group floor old) where
    issued : IsIssue group floor old new → Keeps group floor new
    issued is =
        moved old new (issue old.past is.next) old.promises is.is_issued is.same_image is.same_promises
        (by_issue old.past old.image old.promises kept is.next
        (⊎_elim (λ plan. by_plan old kept is.number is.last is.next is.is_last.since is.alone plan) (λ join. by_join old kept is.number is.last is.next is.is_last.since is.alone join) is.how))

    settled : IsSettling group floor old new → Keeps group floor new
    settled is =
        ⊎_elim
        (λ acks. moved old new (acknowledge old.past is.number) old.promises acks.1 is.same_image is.same_promises (by_acknowledge old.past old.image old.promises kept is.number acks.0))
        (λ takes. moved old new (take_off old.past is.number) old.promises takes is.same_image is.same_promises (by_taking old.past old.image old.promises kept is.number)) is.how

    lost : IsLoss group floor old new → Keeps group floor new
    lost is =
        moved old new (with_slots old.past is.lost is.returned) old.promises is.is_lost is.same_image is.same_promises
        (by_loss old.past old.image old.promises kept is.alone is.lost is.returned is.stay_lost)

    back : IsReturn group floor old new → Keeps group floor new
    back is =
        moved old new (give_back old.past is.slot) old.promises is.is_back is.same_image is.same_promises (by_return old.past old.image old.promises kept is.slot is.is_missing)

    records : IsRecords group floor old new → Keeps group floor new
    records is =
        subst (λ x. KeepsData group x floor new.image new.promises) (sym is.same_past)
        (subst (KeepsData group old.past floor new.image) (sym is.same_promises) (by_records old.past old.image old.promises kept new.image is.are_sectors is.stay))

    data_step : IsData group floor old new → Keeps group floor new
    data_step is =
        subst (λ x. KeepsData group x floor new.image new.promises) (sym is.same_past)
        (subst (KeepsData group old.past floor new.image) (sym is.are_promises)
        (by_data old.past old.image old.promises kept new.image is.are_sectors is.config is.is_alone is.guid is.after
        (λ array found number since volume over. by_step _ _ (kept number is.config since is.guid is.before array is.promised found volume over) (is.step array volume found over)) is.others))

    dropped : IsDropped group floor old new → Keeps group floor new
    dropped is =
        subst (λ x. KeepsData group x floor new.image new.promises) (sym is.same_past)
        (subst (λ x. KeepsData group old.past floor x new.promises) (sym is.same_image)
        (λ number config since guid allowed array promised found. kept number config since guid allowed array (is.fewer guid allowed promised) found))

    begin_keeps : (is : IsPromised group floor old new) → KeepsData group old.past floor old.image (with_promise old.promises is.guid (Some is.allowed))
    begin_keeps is number config since other allowed array promised found = by (same_guid is.guid other) refl promised
      where
        by : (b : Bool) → same_guid is.guid other ≡ b → ◌≡◌ {A = Option Allowed} (if b then Some is.allowed else old.promises other) (Some allowed)
            → KeepsArray config.members (seats_in group old.past floor config) array old.image allowed
        by true same e =
            let one = guid_is is.guid other same in
            let allowed_is : is.allowed ≡ allowed = cc in
            subst (KeepsArray config.members (seats_in group old.past floor config) array old.image) allowed_is
            (is.begins number config since array (ap (λ (g : List ℕ). lookup (same_guid g) config.arrays) one ∙ found))
        by false differs e = kept number config since other allowed array e found

    begun : IsPromised group floor old new → Keeps group floor new
    begun is = moved old new old.past (with_promise old.promises is.guid (Some is.allowed)) is.same_past is.same_image is.are_promises (begin_keeps is)

    pub step_keeps : IsStep group floor old new → Keeps group floor new
    step_keeps step =
        ⊎_elim (λ a. issued a) (λ b. ⊎_elim (λ a. settled a) (λ b. ⊎_elim (λ a. lost a) (λ b. ⊎_elim (λ a. back a) (λ b. ⊎_elim (λ a. records a) (λ b. ⊎_elim (λ a. data_step a)
        (λ b. ⊎_elim (λ a. dropped a) (λ a. begun a) b) b) b) b) b) b) step

  pub history_keeps : (start : Moment group) (rest : List (Moment group)) → IsHistory group floor start rest → Keeps group floor start → (k : ℕ) (moment : Moment group) → slice_get (start ∷ rest) k ≡ Some moment
      → Keeps group floor moment
  history_keeps start rest history kept zero moment at = let same : start ≡ moment = cc in subst (Keeps group floor) same kept
  history_keeps start [] history kept (suc k) moment at = absurd (cc)
  history_keeps start (next ∷ rest) history kept (suc k) moment at = history_keeps next rest history.1 (step_keeps start next kept history.0) k moment at
