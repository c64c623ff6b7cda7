-- Where each slot shows what it should, assembly answers as promised.
use Rattle.std.proofs.Common.{◌≡◌, ◌≢◌, ◌⊎◌, ℕ, ◌<◌, ◌≤◌, Bool, not, true, false, List, if◌then◌else◌, refl, sym, ap, ◌∙◌, inl, inr, ⊎_elim, arith, subst}
use Rattle.std.proofs.lemmas.Bool.{cases_eq, cases_lt, or_from, and_from, and_parts, true≢false}
use Rattle.ddf_history.specs.Reading.{Reading, Scene, Shown, ShowsGroup, IsCopyOf, IsSound, Each, stands}
use Rattle.ddf_history.specs.Reading.Shown.{Nothing, One, Differ}
use Rattle.ddf_history.specs.Issued.{Past, IsSince, is_away}
use Rattle.ddf_history.specs.Promise.{IsKept, IsOn, IsBehind, IsStanding}
use Rattle.ddf_history.specs.Leaders.{seen, leading_copy, leading_copies}
use Rattle.ddf_history.specs.Answer.{Answer, IsLeader, IsPart, HasCopies, HasTwin, HasDispute, HasConflict, HasSplit, IsReadAs, IsAnswer, IsReadable, HasMember, HasReturned, IsPromised}
use Rattle.ddf_history.specs.Answer.Answer.{NoGroup, Conflict, Split, Is}
use Rattle.ddf_history.proofs.Since.{which, first_is_copy, in_order, same_number, same_sequence_same, before_by_sequence, on_copy, on_shows, last_since}
use Rattle.ddf_history.proofs.Leading.{each_leading, some_leading, none_leading, same_leading, IsSome}

-- What is seen of a slot is there, and the slot is readable.
pub seen_at : {A : Type 0} (b : Bool) (shown : Shown A) (copy : A) → IsCopyOf (if b then shown else Nothing) copy → (b ≡ true) × IsCopyOf shown copy
seen_at true shown copy is = (refl, is)
seen_at false shown copy is = absurd is

-- One copy is no two that differ.
one_or_differ : {A : Type 0} (x y z : A) → One x ≡ Differ y z → ⊥
one_or_differ x y z e = absurd cc

module _ (r : Reading) (sound : IsSound r) (past : Past r) (scene : Scene r.Copy) (kept : IsKept past scene) (readable : ℕ → Bool) (may : IsReadable past scene readable) where
  -- What the call reads.
  abbrev read_scene : Scene r.Copy
  read_scene = seen readable scene

  -- A readable slot that has not returned is not away.
  here : (s : ℕ) → readable s ≡ true → past.returned s ≡ false → is_away past s ≡ false
  here s there back = or_from _ _ (may.not_lost s there) back

  -- What a readable slot shows is read.
  in_seen : (s : ℕ) (copy : r.Copy) → readable s ≡ true → IsCopyOf (scene s) copy → IsCopyOf (read_scene s) copy
  in_seen s copy there is = rw there is

  -- What is read is what a readable slot shows.
  seen_there : (s : ℕ) (copy : r.Copy) → IsCopyOf (read_scene s) copy → (readable s ≡ true) × IsCopyOf (scene s) copy
  seen_there s copy is = seen_at (readable s) (scene s) copy is

  -- A copy that is read, and by which its disk shows the group, stands where its slot has not returned.
  standing : (s : ℕ) (copy : r.Copy) → IsCopyOf (read_scene s) copy → stands r copy ≡ true → past.returned s ≡ false → IsStanding past scene s copy
  standing s copy is on back = let there = seen_there s copy is in record { is_here = here s there.0 back; is_copy = there.1; is_standing = on }

  module _ (member : HasMember past scene readable) where
    -- The member that is read is not older than the last acknowledged configuration.
    not_older : r.sequence kept.last ≤ r.sequence_of member.copy
    not_older =
        let same = sound.same_sequence member.copy member.config member.shows in
        let le = in_order kept.chain past.changes.acked member.number kept.last member.config (last_since past scene kept) member.since member.since.late in
        omega arith

    -- The member is read.
    member_seen : IsCopyOf (read_scene member.slot) member.copy
    member_seen = in_seen member.slot member.copy member.is_readable member.is_copy

    -- a leader that hasn't returned shows a configuration since the last acknowledged one
    leader_on : (s : ℕ) (copy : r.Copy) → IsLeader r read_scene s copy → past.returned s ≡ false → IsOn past.changes (past.disk s) (scene s)
    leader_on s copy leads back =
        let there = seen_there s copy leads.is_copy in
        let greatest = leads.greatest member.slot member.copy member_seen member.is_standing in
        ⊎_elim
        (λ on. on)
        (λ rest. absurd (⊎_elim
        (λ outside. let older = (outside.is_behind copy there.1 leads.is_standing).is_older kept.last kept.is_last in omega (arith, not_older))
        (λ lagging. let older = lagging.is_older copy kept.last there.1 leads.is_standing kept.is_last in omega (arith, not_older))
        rest))
        (kept.each s (here s there.0 back))

    -- where one that has returned leads, there is a conflict or a split
    returned_leads : (s : ℕ) (copy : r.Copy) → IsLeader r read_scene s copy → past.returned s ≡ true → HasConflict r read_scene ⊎ HasSplit r read_scene
    returned_leads s copy leads back =
        let there = seen_there s copy leads.is_copy in
        let misses : r.lists_missing member.copy (r.disk_of copy) ≡ true = sound.same_missing member.copy member.config (r.disk_of copy) member.shows ∙ ap (r.has_missing member.config) (kept.named s copy there.1 (inl (record { copy = copy; is_copy = there.1; is_standing = leads.is_standing }))) ∙ kept.gone s member.number member.config back member.since in
        let listed : r.lists_current copy (r.disk_of copy) ≡ true = (and_parts (r.is_ours copy) (r.lists_current copy (r.disk_of copy)) leads.is_standing).1 in
        let apart : member.slot ≢ s = λ (same : member.slot ≡ s). true≢false (sym back ∙ ap past.returned (sym same) ∙ member.is_here) in
        let most : r.sequence_of member.copy ≤ r.sequence_of copy = leads.greatest member.slot member.copy member_seen member.is_standing in
        elim (cases_eq (r.sequence_of member.copy) (r.sequence_of copy)) [
          | inl same ↦ inl (inr (inr (record {
            s = member.slot;
            t = s;
            apart = apart;
            one = member.copy;
            other = copy;
            one_leads = record { is_copy = member_seen; is_standing = member.is_standing; greatest = λ t other is on. let le = leads.greatest t other is on in omega arith };
            other_leads = leads;
            differ = sound.differ member.copy copy member.config (r.disk_of copy) member.shows misses listed;
          })))
          | inr less ↦ inr (record { s = member.slot; t = s; older = member.copy; leading = copy; is_copy = member_seen; is_standing = member.is_standing; leads = leads; is_older = omega arith; missing = member.copy; is_missing = member_seen; misses = misses })
        ]

    -- A leader whose two copies differ has returned.
    from_copies : HasCopies r read_scene → HasReturned past readable
    from_copies found =
        let there = seen_there found.slot found.copy found.leads.is_copy in
        elim (which (past.returned found.slot)) [
          | inl back ↦ record { slot = found.slot; is_readable = there.0; is_returned = back }
          | inr back ↦
              let on = leader_on found.slot found.copy found.leads back in
              let shown : read_scene found.slot ≡ scene found.slot = ap (λ (b : Bool). if b then scene found.slot else Nothing) there.0 in
              absurd (one_or_differ on.copy found.primary found.secondary (sym on.is_only ∙ sym shown ∙ found.differ))
        ]

    -- a slot's disk is a current member since the last acknowledged configuration
    record IsMember (s : ℕ) : Type 0 where
      number : ℕ
      config : r.Config
      since : IsSince past.changes number config
      is_member : r.has_current config (past.disk s) ≡ true

    -- a slot shows the group by a copy that is out of the way
    abbrev IsOlder : ℕ → Type 0
    IsOlder s = (copy : r.Copy) × IsStanding past scene s copy × IsBehind past.changes (past.disk s) copy

    -- what takes part and hasn't returned names its disk, which is a member, or out of the way
    abbrev IsPlaced : ℕ → r.Copy → Type 0
    IsPlaced s copy = (r.disk_of copy ≡ past.disk s) × (IsMember s ⊎ IsOlder s)

    -- What takes part is placed, or a slot that has returned is read.
    part_is : (s : ℕ) (copy : r.Copy) → IsPart r read_scene s copy → past.returned s ≡ false → HasReturned past readable ⊎ IsPlaced s copy
    part_is s copy (inl shows) back =
        let by = shows.1 in
        let stand = standing s by.copy by.is_copy by.is_standing back in
        let there = seen_there s copy (first_is_copy (read_scene s) copy shows.0) in
        let named = kept.named s copy there.1 (inl (record { copy = by.copy; is_copy = stand.is_copy; is_standing = by.is_standing })) in
        ⊎_elim
        (λ on. inr (named, inl (record { number = on.number; config = on.config; since = on.since; is_member = on.is_member })))
        (⊎_elim
        (λ outside. inr (named, inr (by.copy, stand, outside.is_behind by.copy stand.is_copy by.is_standing)))
        (λ lagging. inr (named, inl (record { number = past.changes.acked; config = kept.last; since = last_since past scene kept; is_member = lagging.is_member kept.last kept.is_last }))))
        (kept.each s stand.is_here)
    part_is s copy (inr claimed) back =
        let leads = claimed.is_lowest.leads.1 in
        let leading = claimed.is_lowest.leads.0 in
        let lead_there = seen_there claimed.leader leading leads.is_copy in
        let there = seen_there s copy (first_is_copy (read_scene s) copy claimed.is_first) in
        elim (which (past.returned claimed.leader)) [
          | inl away ↦ inl (record { slot = claimed.leader; is_readable = lead_there.0; is_returned = away })
          | inr stays ↦
              let on = leader_on claimed.leader leading leads stays in
              let first = seen_there claimed.leader claimed.leading (first_is_copy (read_scene claimed.leader) claimed.leading claimed.is_lowest.is_first) in
              let shows = on_shows (past.disk claimed.leader) (scene claimed.leader) on claimed.leading first.1 in
              let current = sym (sound.same_current claimed.leading on.config (r.disk_of copy) shows) ∙ claimed.is_listed in
              let named = kept.named s copy there.1 (inr (on.number, on.config, on.since, current)) in
              inr (named, inl (record { number = on.number; config = on.config; since = on.since; is_member = rw named at current }))
        ]

    -- What takes part is readable.
    part_there : (s : ℕ) (copy : r.Copy) → IsPart r read_scene s copy → readable s ≡ true
    part_there s copy (inl shows) = (seen_there s shows.1.copy shows.1.is_copy).0
    part_there s copy (inr claimed) = (seen_there s copy (first_is_copy (read_scene s) copy claimed.is_first)).0

    -- Of two slots with one reference one has returned, or the leader that claims it.
    from_twin : HasTwin r read_scene → HasReturned past readable
    from_twin twin =
        let one_there = part_there twin.s twin.one twin.one_is in
        let other_there = part_there twin.t twin.other twin.other_is in
        elim (which (past.returned twin.s)) [
          | inl back ↦ record { slot = twin.s; is_readable = one_there; is_returned = back }
          | inr one_stays ↦ elim (which (past.returned twin.t)) [
            | inl back ↦ record { slot = twin.t; is_readable = other_there; is_returned = back }
            | inr other_stays ↦
                ⊎_elim
                (λ back. back)
                (λ one. ⊎_elim
                (λ back. back)
                (λ other. absurd (both (sym (ap r.reference one.0) ∙ twin.same ∙ ap r.reference other.0) one.1 other.1))
                (part_is twin.t twin.other twin.other_is other_stays))
                (part_is twin.s twin.one twin.one_is one_stays)
          ]
        ]
      where
        both : r.reference (past.disk twin.s) ≡ r.reference (past.disk twin.t)
            → IsMember twin.s ⊎ IsOlder twin.s
            → IsMember twin.t ⊎ IsOlder twin.t
            → ⊥
        both same (inl one) (inl other) =
            let disks = kept.chain.one_reference one.number other.number one.config other.config (past.disk twin.s) (past.disk twin.t) one.since other.since one.is_member other.is_member same in
            twin.apart (kept.alone twin.s twin.t one.number one.config one.since one.is_member disks)
        both same (inl one) (inr other) = other.2.is_other one.number one.config (past.disk twin.s) one.since one.is_member same
        both same (inr one) (inl other) = one.2.is_other other.number other.config (past.disk twin.t) other.since other.is_member (sym same)
        both same (inr one) (inr other) = kept.apart twin.s twin.t one.0 other.0 twin.apart one.1 other.1 same

    -- Of two leaders that differ one has returned.
    from_dispute : HasDispute r read_scene → HasReturned past readable
    from_dispute found =
        let one_there = seen_there found.s found.one found.one_leads.is_copy in
        let other_there = seen_there found.t found.other found.other_leads.is_copy in
        elim (which (past.returned found.s)) [
          | inl back ↦ record { slot = found.s; is_readable = one_there.0; is_returned = back }
          | inr one_stays ↦ elim (which (past.returned found.t)) [
            | inl back ↦ record { slot = found.t; is_readable = other_there.0; is_returned = back }
            | inr other_stays ↦
                let one_on = leader_on found.s found.one found.one_leads one_stays in
                let other_on = leader_on found.t found.other found.other_leads other_stays in
                let one_shows = on_shows (past.disk found.s) (scene found.s) one_on found.one one_there.1 in
                let other_shows = on_shows (past.disk found.t) (scene found.t) other_on found.other other_there.1 in
                let up = found.one_leads.greatest found.t found.other found.other_leads.is_copy found.other_leads.is_standing in
                let down = found.other_leads.greatest found.s found.one found.one_leads.is_copy found.one_leads.is_standing in
                let one_same = sound.same_sequence found.one one_on.config one_shows in
                let other_same = sound.same_sequence found.other other_on.config other_shows in
                let same = same_sequence_same kept.chain one_on.number other_on.number one_on.config other_on.config one_on.since other_on.since (omega arith) in
                absurd (found.differ (kept.agree found.s found.t one_on.number found.one found.other one_on.config found.apart
                (standing found.s found.one found.one_leads.is_copy found.one_leads.is_standing one_stays)
                (standing found.t found.other found.other_leads.is_copy found.other_leads.is_standing other_stays)
                one_on.since one_shows (rw (← same.1) at other_shows)))
          ]
        ]

    -- Where a slot lists a leader as missing, one of them has returned.
    from_split : HasSplit r read_scene → HasReturned past readable
    from_split found =
        let older_there = seen_there found.s found.older found.is_copy in
        let leading_there = seen_there found.t found.leading found.leads.is_copy in
        elim (which (past.returned found.s)) [
          | inl back ↦ record { slot = found.s; is_readable = older_there.0; is_returned = back }
          | inr older_stays ↦ elim (which (past.returned found.t)) [
            | inl back ↦ record { slot = found.t; is_readable = leading_there.0; is_returned = back }
            | inr leading_stays ↦
                let on = leader_on found.t found.leading found.leads leading_stays in
                let shows = on_shows (past.disk found.t) (scene found.t) on found.leading leading_there.1 in
                let names = kept.named found.t found.leading leading_there.1 (inl (record { copy = found.leading; is_copy = leading_there.1; is_standing = found.leads.is_standing })) in
                let misses : r.lists_missing found.missing (past.disk found.t) ≡ true = rw names at found.misses in
                let missing_there = seen_there found.s found.missing found.is_missing in
                let older_shown : ShowsGroup r (scene found.s) = record { copy = found.older; is_copy = older_there.1; is_standing = found.is_standing } in
                ⊎_elim
                (λ older_on.
                let older_shows = on_shows (past.disk found.s) (scene found.s) older_on found.older older_there.1 in
                let older_same = sound.same_sequence found.older older_on.config older_shows in
                let leading_same = sound.same_sequence found.leading on.config shows in
                let older = found.is_older in
                let before = before_by_sequence kept.chain older_on.number on.number older_on.config on.config older_on.since on.since (omega arith) in
                let missing_shows = on_shows (past.disk found.s) (scene found.s) older_on found.missing missing_there.1 in
                let listed = sound.same_missing found.missing older_on.config (past.disk found.t) missing_shows in
                let missing : r.has_missing older_on.config (past.disk found.t) ≡ true = rw listed at misses in
                absurd (kept.chain.stays_missing older_on.number on.number older_on.config on.config (past.disk found.t) older_on.since on.since (omega arith) missing on.is_member))
                (⊎_elim
                (λ outside. absurd (outside.misses_none found.missing on.number on.config (past.disk found.t) missing_there.1 older_shown on.since on.is_member misses))
                (λ lagging. absurd (lagging.misses_none found.missing on.number on.config (past.disk found.t) missing_there.1 older_shown on.since on.is_member misses)))
                (kept.each found.s (here found.s older_there.0 older_stays))
          ]
        ]

    -- With a conflict a slot that has returned is read.
    from_conflict : HasConflict r read_scene → HasReturned past readable
    from_conflict (inl copies) = from_copies copies
    from_conflict (inr (inl twin)) = from_twin twin
    from_conflict (inr (inr dispute)) = from_dispute dispute

    -- a copy of the group that shows a configuration fully
    abbrev IsFull : r.Config → r.Copy → Type 0
    IsFull c copy = (r.is_ours copy ≡ true) × r.ShowsFully copy c

    -- Copies of the group that all show a configuration fully give it.
    read_is : (copies : List r.Copy) (c : r.Config) → IsSome copies → Each (IsFull c) copies → r.read copies ≡ c
    read_is copies c some each = ap r.read some.are ∙ sound.reads some.head some.rest c (subst (Each (IsFull c)) some.are each)

    -- all leaders stay where one does
    leader_stays : (s : ℕ) (copy : r.Copy) → (HasConflict r read_scene → ⊥) → (HasSplit r read_scene → ⊥) → IsLeader r read_scene s copy → past.returned s ≡ false
    leader_stays s copy no_conflict no_split leads = elim (which (past.returned s)) [
      | inl back ↦ absurd (⊎_elim no_conflict no_split (returned_leads s copy leads back))
      | inr stays ↦ stays
    ]

    -- all leaders show what one shows
    leader_shows : (found_slot : ℕ) (found_copy : r.Copy) (on : IsOn past.changes (past.disk found_slot) (scene found_slot)) → (HasConflict r read_scene → ⊥) → (HasSplit r read_scene → ⊥)
        → IsLeader r read_scene found_slot found_copy → (s : ℕ) (copy : r.Copy) → IsCopyOf (read_scene s) copy → stands r copy ≡ true → r.sequence_of copy ≡ r.sequence_of found_copy → past.changes.own_from ≤ on.number → r.ShowsFully copy on.config
    leader_shows slot leading on no_conflict no_split leads s copy is stand same own =
        let there = seen_there s copy is in
        let first = seen_there slot leading leads.is_copy in
        let other_leads : IsLeader r read_scene s copy = record { is_copy = is; is_standing = stand; greatest = λ t other is_other on_other. let le = leads.greatest t other is_other on_other in omega arith } in
        let stays = leader_stays s copy no_conflict no_split other_leads in
        let on_too = leader_on s copy other_leads stays in
        let shows = on_shows (past.disk slot) (scene slot) on leading first.1 in
        let shows_too = on_shows (past.disk s) (scene s) on_too copy there.1 in
        let one_same = sound.same_sequence leading on.config shows in
        let other_same = sound.same_sequence copy on_too.config shows_too in
        let config = same_sequence_same kept.chain on_too.number on.number on_too.config on.config on_too.since on.since (omega arith) in
        let copy_is = on_copy (past.disk s) (scene s) on_too copy there.1 in
        rw (copy_is, ← config.1) (on_too.is_full (omega (arith, config.0)))

    -- a slot gives the same leader to this call as to all that aren't away
    same_slot : (slot : ℕ) (leading : r.Copy) → (HasConflict r read_scene → ⊥) → (HasSplit r read_scene → ⊥) → IsLeader r read_scene slot leading → past.changes.acked < past.changes.own_from
        → (s : ℕ) (read away : Bool) → readable s ≡ read → is_away past s ≡ away → leading_copy r (r.sequence_of leading) (if read then scene s else Nothing) ≡ leading_copy r (r.sequence_of leading) (if not away then scene s else Nothing)
    same_slot slot leading no_conflict no_split leads young s true false read away = refl
    same_slot slot leading no_conflict no_split leads young s false true read away = refl
    same_slot slot leading no_conflict no_split leads young s false false read away =
        sym (none_leading r scene (r.sequence_of leading) (scene s) (λ copy is stand same. true≢false (sym (may.all_young young s copy is stand) ∙ read)))
    same_slot slot leading no_conflict no_split leads young s true true read away =
        none_leading r scene (r.sequence_of leading) (scene s) (λ copy is stand same.
        let other_leads : IsLeader r read_scene s copy = record { is_copy = in_seen s copy read is; is_standing = stand; greatest = λ t other is_other on_other. let le = leads.greatest t other is_other on_other in omega arith } in
        let stays = leader_stays s copy no_conflict no_split other_leads in
        true≢false (sym away ∙ here s read stays))

    -- where the first configuration is from elsewhere and leads, all that show it are read together
    from_young : (slot : ℕ) (leading : r.Copy) (on : IsOn past.changes (past.disk slot) (scene slot)) → (HasConflict r read_scene → ⊥) → (HasSplit r read_scene → ⊥) → IsLeader r read_scene slot leading → on.number < past.changes.own_from
        → r.read (leading_copies r (r.sequence_of leading) read_scene past.slots) ≡ on.config
    from_young slot leading on no_conflict no_split leads young =
        let late = on.since.late in
        let next = kept.own_next in
        let there = seen_there slot leading leads.is_copy in
        let shows = on_shows (past.disk slot) (scene slot) on leading there.1 in
        let same = sound.same_sequence leading on.config shows in
        let number_is : on.number ≡ past.changes.acked = omega arith in
        let config_is : on.config ≡ kept.last = same_number on.number past.changes.acked on.config kept.last on.since (last_since past scene kept) number_is in
        let sequence_is : r.sequence_of leading ≡ r.sequence kept.last = same ∙ ap r.sequence config_is in
        let none_later : (s : ℕ) → is_away past s ≡ false → (other : IsOn past.changes (past.disk s) (scene s)) → other.number ≡ past.changes.acked = λ s is_here other.
        let other_late = other.since.late in
        let is : IsCopyOf (scene s) other.copy = rw other.is_only refl in
        let listed : r.lists_current other.copy (r.disk_of other.copy) ≡ true = sound.same_current other.copy other.config (r.disk_of other.copy) other.shows ∙ ap (r.has_current other.config) other.names ∙ other.is_member in
        let stand : stands r other.copy ≡ true = and_from _ _ other.is_ours listed in
        let read = may.all_young (omega arith) s other.copy is stand in
        let most = leads.greatest s other.copy (in_seen s other.copy read is) stand in
        let other_same = sound.same_sequence other.copy other.config other.shows in
        elim (cases_lt on.number other.number) [
          | inl less ↦ let rise = kept.chain.rises on.number other.number on.config other.config on.since other.since less in absurd (omega arith)
          | inr ge ↦ omega arith
        ] in
        let given = kept.give (omega arith) none_later in
        let lists = same_leading r (r.sequence_of leading) read_scene (seen (λ s. not (is_away past s)) scene) (λ s. same_slot slot leading no_conflict no_split leads (omega arith) s (readable s) (is_away past s) refl refl) past.slots in
        ap r.read lists ∙ ap (λ (n : ℕ). r.read (leading_copies r n (seen (λ s. not (is_away past s)) scene) past.slots)) sequence_is ∙ given ∙ sym config_is

    -- the configuration that is read is one that a leader shows
    pub read_as : (c : r.Config) → (found : IsReadAs r past.slots read_scene c) → (j : ℕ) × IsSince past.changes j c × (r.sequence_of found.leading ≡ r.sequence c) × (past.returned found.leader ≡ false) × (on : IsOn past.changes (past.disk found.leader) (scene found.leader)) × (on.number ≡ j)
    read_as c found =
        let there = seen_there found.leader found.leading found.leads.is_copy in
        let stays = leader_stays found.leader found.leading found.no_conflict found.no_split found.leads in
        let on = leader_on found.leader found.leading found.leads stays in
        let copy_is = on_copy (past.disk found.leader) (scene found.leader) on found.leading there.1 in
        let shows = on_shows (past.disk found.leader) (scene found.leader) on found.leading there.1 in
        let only : read_scene found.leader ≡ One found.leading = ap (λ (b : Bool). if b then scene found.leader else Nothing) there.0 ∙ on.is_only ∙ ap (λ (x : r.Copy). One x) (sym copy_is) in
        let some = some_leading r read_scene (r.sequence_of found.leading) found.leader found.leading only found.leads.is_standing refl past.slots (may.below found.leader there.0) in
        let is : r.read (leading_copies r (r.sequence_of found.leading) read_scene past.slots) ≡ on.config = elim (cases_lt on.number past.changes.own_from) [
          | inl young ↦ from_young found.leader found.leading on found.no_conflict found.no_split found.leads young
          | inr own ↦
              read_is (leading_copies r (r.sequence_of found.leading) read_scene past.slots) on.config some
              (each_leading r read_scene (r.sequence_of found.leading) (IsFull on.config) (λ s copy is stand same. ((and_parts _ _ stand).0, leader_shows found.leader found.leading on found.no_conflict found.no_split found.leads s copy is stand same own)) past.slots)
        ] in
        let config_is : on.config ≡ c = sym is ∙ found.is_read in
        (on.number, subst (IsSince past.changes on.number) config_is on.since, sound.same_sequence found.leading on.config shows ∙ ap r.sequence config_is, stays, on, refl)

    -- Assembly answers as promised.
    pub promised : (answer : Answer r.Config) → IsAnswer r past.slots read_scene answer → IsPromised past readable answer
    promised NoGroup none = none member.slot member.copy member_seen member.is_standing
    promised Conflict conflict = from_conflict conflict
    promised Split split = from_split split.1
    promised (Is c) found = let is = read_as c found in (is.0, is.1)
