-- What the slots show that a call assembled from, once each seat is sure and where no member is absent.
use Rattle.std.proofs.Common.{◌≡◌, ◌≢◌, ℕ, ◌<◌, ◌≤◌, Bool, true, false, if◌then◌else◌, refl, sym, ap, ◌∙◌, inl, inr, ⊎_elim, arith, subst}
use Rattle.std.proofs.lemmas.Bool.{and_parts, or_from, true≢false}
use Rattle.ddf_history.specs.Reading.{Reading, Scene, Shown, IsCopyOf, IsFirstOf, IsSound, stands}
use Rattle.ddf_history.specs.Reading.Shown.{Nothing, One}
use Rattle.ddf_history.specs.Issued.{Past, IsSince, is_away, take_off}
use Rattle.ddf_history.specs.Leaders.{seen}
use Rattle.ddf_history.specs.Promise.{IsKept, IsOn}
use Rattle.ddf_history.specs.Answer.{IsClaimed}
use Rattle.ddf_history.specs.Steps.{IsLast}
use Rattle.ddf_history.specs.Calls.{IsAssembled, AreSure, NoneAbsent}
use Rattle.ddf_history.proofs.Since.{which, first_is_copy, in_order, same_sequence_same, last_since, on_copy, on_shows}
use Rattle.ddf_history.proofs.Assembling.{read_as, seen_at}
use Rattle.ddf_history.proofs.Calls.{cut_none_absent, last_cut}
use Rattle.ddf_history_steps.proofs.TheoryClaimed.{seen_first}

-- A single copy is one thing.
pub one_is : {A : Type 0} (x y : A) → One x ≡ One y → x ≡ y
one_is x y e = cc

module _ (r : Reading) (past : Past r) (held scene : Scene r.Copy) (readable : ℕ → Bool) (j : ℕ) (c : r.Config) where
  -- the slot of the lowest leader shows the configuration
  record IsLed (assembled : IsAssembled past held readable c) : Type 0 where
    stays : past.returned assembled.is_read.leader ≡ false
    is_only : seen readable held assembled.is_read.leader ≡ One assembled.is_read.leading
    shows : r.Shows assembled.is_read.leading c
    same : r.sequence_of assembled.is_read.leading ≡ r.sequence c

  -- the disk of a claimed slot is a member, and was read
  pub record IsSeat (s : ℕ) (copy : r.Copy) : Type 0 where
    pub is_read : readable s ≡ true
    pub is_first : IsFirstOf (held s) copy
    pub names : r.disk_of copy ≡ past.disk s
    pub is_member : r.has_current c (past.disk s) ≡ true
    pub is_here : is_away past s ≡ false
    pub is_sure : scene s ≡ held s

  -- the slot showed the configuration to the call, and shows it still
  pub record IsShowing (s : ℕ) (copy : r.Copy) : Type 0 where
    pub is_read : readable s ≡ true
    pub is_here : is_away past s ≡ false
    pub is_held : seen readable held s ≡ One copy
    pub is_only : scene s ≡ One copy
    pub is_standing : stands r copy ≡ true
    pub same : r.sequence_of copy ≡ r.sequence c
    pub names : r.disk_of copy ≡ past.disk s
    pub shows : r.Shows copy c
    pub is_full : past.changes.own_from ≤ j → r.ShowsFully copy c
    pub is_member : r.has_current c (past.disk s) ≡ true

module _ (r : Reading) (sound : IsSound r) (past : Past r) (held scene : Scene r.Copy) (readable : ℕ → Bool) (j : ℕ) (c : r.Config)
    (assembled : IsAssembled past held readable c) (at : IsSince past.changes j c) (kept : IsKept past scene) (sure : AreSure r readable held scene) (none_absent : NoneAbsent r readable held c) where
  -- what the call read
  abbrev pub read_scene : Scene r.Copy
  read_scene = seen readable held

  -- The changes behind the one that was assembled are taken off.
  pub cut_kept : IsKept (take_off past j) scene
  cut_kept = cut_none_absent r sound past held scene readable j c assembled at kept sure none_absent

  -- That one is the last.
  pub cut_last : IsLast (take_off past j).changes j c
  cut_last = last_cut past.changes j c at

  -- The slot of the lowest leader shows the configuration.
  lowest_led : IsLed r past held scene readable j c assembled
  lowest_led =
      let is = read_as r sound past held assembled.is_kept readable assembled.may_read assembled.member c assembled.is_read in
      let leader = assembled.is_read.leader in
      let leading = assembled.is_read.leading in
      let there = seen_at (readable leader) (held leader) leading assembled.is_read.leads.is_copy in
      let copy_is = on_copy (past.disk leader) (held leader) is.4 leading there.1 in
      let shows = on_shows (past.disk leader) (held leader) is.4 leading there.1 in
      let one = sound.same_sequence leading is.4.config shows in
      let config_is = (same_sequence_same assembled.is_kept.chain is.4.number j is.4.config c is.4.since at (omega (arith, one, is.2))).1 in
      record {
        stays = is.3;
        is_only = ap (λ (b : Bool). if b then held leader else Nothing) there.0 ∙ is.4.is_only ∙ ap (λ (x : r.Copy). One x) (sym copy_is);
        shows = subst (r.Shows leading) config_is shows;
        same = is.2;
      }

  -- ---- slots that are claimed

  -- The copy of a claimed slot names a member.
  claims_member : (s : ℕ) (copy : r.Copy) → IsClaimed r read_scene s copy → r.has_current c (r.disk_of copy) ≡ true
  claims_member s copy claimed =
      let up = claimed.is_lowest.lowest assembled.is_read.leader assembled.is_read.leading assembled.is_read.leads in
      let down = assembled.is_read.lowest claimed.leader claimed.is_lowest.leads.0 claimed.is_lowest.leads.1 in
      let slot_is : claimed.leader ≡ assembled.is_read.leader = omega arith in
      let only : read_scene claimed.leader ≡ One assembled.is_read.leading = ap read_scene slot_is ∙ lowest_led.is_only in
      let leading_is : claimed.leading ≡ assembled.is_read.leading = subst (λ (shown : Shown r.Copy). IsFirstOf shown claimed.leading) only claimed.is_lowest.is_first in
      sym (sound.same_current assembled.is_read.leading c (r.disk_of copy) lowest_led.shows) ∙ ap (λ (x : r.Copy). r.lists_current x (r.disk_of copy)) (sym leading_is) ∙ claimed.is_listed

  -- A slot whose disk is a member has not returned.
  member_here : (s : ℕ) → readable s ≡ true → r.has_current c (past.disk s) ≡ true → is_away past s ≡ false
  member_here s read now = or_from _ _ (assembled.may_read.not_lost s read) (elim (which (past.returned s)) [
    | inl back ↦ absurd (sound.not_both c (past.disk s) now (kept.gone s j c back at))
    | inr stays ↦ stays
  ])

  -- A claimed slot is a seat.
  pub seat_of : (s : ℕ) (copy : r.Copy) → IsClaimed r read_scene s copy → IsSeat r past held scene readable j c s copy
  seat_of s copy claimed =
      let first = seen_first (readable s) (held s) copy claimed.is_first in
      let now = claims_member s copy claimed in
      let names = assembled.is_kept.named s copy (first_is_copy (held s) copy first.1) (inr (j, c, at, now)) in
      let member : r.has_current c (past.disk s) ≡ true = ap (r.has_current c) (sym names) ∙ now in
      record { is_read = first.0; is_first = first.1; names = names; is_member = member; is_here = member_here s first.0 member; is_sure = sure s copy claimed }

  -- A slot that isn't away and whose disk is a member is a seat.
  pub member_seat : (s : ℕ) → r.has_current c (past.disk s) ≡ true → (copy : r.Copy) × IsClaimed r read_scene s copy × IsSeat r past held scene readable j c s copy
  member_seat s now =
      let there = none_absent (past.disk s) now in
      let seat = seat_of there.0 there.1 there.2 in
      let same : s ≡ there.0 = kept.alone s there.0 j c at now (sym there.3 ∙ seat.names) in
      let claimed : IsClaimed r read_scene s there.1 = subst (λ (t : ℕ). IsClaimed r read_scene t there.1) (sym same) there.2 in
      (there.1, claimed, seat_of s there.1 claimed)

  -- ---- slots that show the configuration

  -- A copy of the sequence that was read, on a slot that isn't away, shows the configuration.
  on_this : (shown : Scene r.Copy) (keeps : IsKept past shown) (s : ℕ) (copy : r.Copy) → is_away past s ≡ false → IsCopyOf (shown s) copy → stands r copy ≡ true → r.sequence_of copy ≡ r.sequence c
      → (on : IsOn past.changes (past.disk s) (shown s)) × (on.config ≡ c) × (on.number ≡ j) × (copy ≡ on.copy)
  on_this shown keeps s copy here is stand same =
      let le = in_order keeps.chain past.changes.acked j keeps.last c (last_since past shown keeps) at at.late in
      ⊎_elim
      (λ on.
      let shows = on_shows (past.disk s) (shown s) on copy is in
      let one = sound.same_sequence copy on.config shows in
      let both = same_sequence_same keeps.chain on.number j on.config c on.since at (omega arith) in
      (on, both.1, both.0, on_copy (past.disk s) (shown s) on copy is))
      (λ rest. absurd (⊎_elim
      (λ outside. let older = (outside.is_behind copy is stand).is_older keeps.last keeps.is_last in omega arith)
      (λ lagging. let older = lagging.is_older copy keeps.last is stand keeps.is_last in omega arith)
      rest))
      (keeps.each s here)

  -- A leader has not returned.
  leader_stays : (s : ℕ) (copy : r.Copy) → IsCopyOf (read_scene s) copy → stands r copy ≡ true → r.sequence_of copy ≡ r.sequence c → past.returned s ≡ false
  leader_stays s copy is stand same = elim (which (past.returned s)) [
    | inr stays ↦ stays
    | inl back ↦
        let there = seen_at (readable s) (held s) copy is in
        let names = assembled.is_kept.named s copy there.1 (inl (record { copy = copy; is_copy = there.1; is_standing = stand })) in
        let leading = assembled.is_read.leading in
        let misses : r.lists_missing leading (r.disk_of copy) ≡ true = sound.same_missing leading c (r.disk_of copy) lowest_led.shows ∙ ap (r.has_missing c) names ∙ kept.gone s j c back at in
        let listed : r.lists_current copy (r.disk_of copy) ≡ true = (and_parts (r.is_ours copy) (r.lists_current copy (r.disk_of copy)) stand).1 in
        let apart : assembled.is_read.leader ≢ s = λ (e : assembled.is_read.leader ≡ s). true≢false (sym back ∙ ap past.returned (sym e) ∙ lowest_led.stays) in
        let led = lowest_led.same in
        absurd (assembled.is_read.no_conflict (inr (inr (record {
          s = assembled.is_read.leader;
          t = s;
          apart = apart;
          one = leading;
          other = copy;
          one_leads = assembled.is_read.leads;
          other_leads = record { is_copy = is; is_standing = stand; greatest = λ t other is_other on_other. let le = assembled.is_read.leads.greatest t other is_other on_other in omega arith };
          differ = sound.differ leading copy c (r.disk_of copy) lowest_led.shows misses listed;
        }))))
  ]

  -- A slot that was read to lead shows the configuration.
  pub leads_showing : (s : ℕ) (copy : r.Copy) → IsCopyOf (read_scene s) copy → stands r copy ≡ true → r.sequence_of copy ≡ r.sequence c → IsShowing r past held scene readable j c s copy
  leads_showing s copy is stand same =
      let there = seen_at (readable s) (held s) copy is in
      let here : is_away past s ≡ false = or_from _ _ (assembled.may_read.not_lost s there.0) (leader_stays s copy is stand same) in
      let on = on_this held assembled.is_kept s copy here there.1 stand same in
      let member : r.has_current c (past.disk s) ≡ true = ap (λ (x : r.Config). r.has_current x (past.disk s)) (sym on.1) ∙ on.0.is_member in
      let held_is : held s ≡ One copy = on.0.is_only ∙ ap (λ (x : r.Copy). One x) (sym on.3) in
      let seat = member_seat s member in
      record {
        is_read = there.0;
        is_here = here;
        is_held = ap (λ (b : Bool). if b then held s else Nothing) there.0 ∙ held_is;
        is_only = seat.2.is_sure ∙ held_is;
        is_standing = stand;
        same = same;
        names = ap r.disk_of on.3 ∙ on.0.names;
        shows = subst (λ (x : r.Copy). r.Shows x c) (sym on.3) (subst (r.Shows on.0.copy) on.1 on.0.shows);
        is_full = λ own. subst (λ (x : r.Copy). r.ShowsFully x c) (sym on.3) (subst (r.ShowsFully on.0.copy) on.1 (on.0.is_full (omega (arith, on.2, own))));
        is_member = member;
      }

  -- So does a slot that shows such a copy now.
  pub stands_showing : (s : ℕ) (copy : r.Copy) → is_away past s ≡ false → IsCopyOf (scene s) copy → stands r copy ≡ true → r.sequence_of copy ≡ r.sequence c → IsShowing r past held scene readable j c s copy
  stands_showing s copy here is stand same =
      let on = on_this scene kept s copy here is stand same in
      let member : r.has_current c (past.disk s) ≡ true = ap (λ (x : r.Config). r.has_current x (past.disk s)) (sym on.1) ∙ on.0.is_member in
      let seat = (member_seat s member).2 in
      let was : IsCopyOf (held s) copy = subst (λ (shown : Shown r.Copy). IsCopyOf shown copy) seat.is_sure is in
      leads_showing s copy (subst (λ (b : Bool). IsCopyOf (if b then held s else Nothing) copy) (sym seat.is_read) was) stand same

  -- Two that show it agree.
  pub showing_agree : (s t : ℕ) (one other : r.Copy) → s ≢ t → IsShowing r past held scene readable j c s one → IsShowing r past held scene readable j c t other → r.Agree one other
  showing_agree s t one other apart one_shows other_shows = kept.agree s t j one other c apart
      (record { is_here = one_shows.is_here; is_copy = subst (λ (shown : Shown r.Copy). IsCopyOf shown one) (sym one_shows.is_only) refl; is_standing = one_shows.is_standing })
      (record { is_here = other_shows.is_here; is_copy = subst (λ (shown : Shown r.Copy). IsCopyOf shown other) (sym other_shows.is_only) refl; is_standing = other_shows.is_standing })
      at one_shows.shows other_shows.shows

  -- The lowest leader shows it.
  pub lowest_showing : IsShowing r past held scene readable j c assembled.is_read.leader assembled.is_read.leading
  lowest_showing = leads_showing assembled.is_read.leader assembled.is_read.leading assembled.is_read.leads.is_copy assembled.is_read.leads.is_standing lowest_led.same

  -- Its slot is one of those that are read.
  pub showing_below : (s : ℕ) (copy : r.Copy) → IsShowing r past held scene readable j c s copy → s < past.slots
  showing_below s copy shows = assembled.may_read.below s shows.is_read
