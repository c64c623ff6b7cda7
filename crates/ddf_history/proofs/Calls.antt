-- Recovery, changes and imports, from their parts.
use Rattle.std.proofs.Common.{◌≡◌, ℕ, ◌<◌, ◌≤◌, ◌||◌, ◌&&◌, not, Bool, true, false, if◌then◌else◌, length, Some, slice_get, refl, sym, ap, ◌∙◌, inl, inr, ⊎_elim, arith, subst}
use Rattle.std.proofs.lemmas.Bool.{cases_lt, cases_eq, and_from, and_left, or_from, or_parts}
use Rattle.std.proofs.lemmas.Option.{slice_get_within}
use Rattle.ddf_lemmas.proofs.Lists.{get_last}
use Rattle.ddf_history.specs.Reading.{Reading, Scene, Shown, IsCopyOf, IsFirstOf, IsSound, stands}
use Rattle.ddf_history.specs.Reading.Shown.{Nothing, One}
use Rattle.ddf_history.specs.Issued.{Changes, Past, IsSince, is_away, issued, issue, cut, take_off, leave_out}
use Rattle.ddf_history.specs.Leaders.{seen}
use Rattle.ddf_history.specs.Promise.{IsKept, IsNamed, IsOn, IsRight}
use Rattle.ddf_history.specs.Answer.{IsClaimed}
use Rattle.ddf_history.specs.Steps.{DoRemain, IsLast, MayFollow, NoneLater}
use Rattle.ddf_history.specs.Calls.{IsAssembled, AreSure, AreSeated, NoneAbsent}
use Rattle.ddf_history.proofs.Since.{which, first_is_copy, same_number, same_sequence_same, last_since, on_copy, on_shows, first_there}
use Rattle.ddf_history.proofs.Assembling.{read_as}
use Rattle.ddf_history.proofs.Issuing.{issued_kept, follows, joins, since_more}
use Rattle.ddf_history.proofs.Cutting.{cut_kept, since_cut, cut_since, left_out_kept}

-- Where the changes behind a number are taken off, its change is the last.
pub last_cut : {r : Reading} (changes : Changes r) (j : ℕ) (c : r.Config) → IsSince changes j c → IsLast (cut changes j) j c
last_cut changes j c at = record { since = cut_since changes j j c at (omega arith); none_later = λ i d there. (since_cut changes j i d there).1 }

-- A change that is issued is the last.
pub last_issued : {r : Reading} (changes : Changes r) (last c : r.Config) → slice_get changes.issued changes.acked ≡ Some last → IsLast (issued changes c) (length changes.issued) c
last_issued changes last c there = record {
  since = let within = slice_get_within changes.issued changes.acked last there in record { late = omega arith; is_there = get_last changes.issued c };
  none_later = λ i d at. ⊎_elim (λ was. let within = slice_get_within changes.issued i d was.is_there in omega arith) (λ is. omega (arith, is.0)) (since_more changes c i d at);
}

-- A slot of which a copy is seen is readable.
pub seen_read : {A : Type 0} (b : Bool) (shown : Shown A) (copy : A) → IsCopyOf (if b then shown else Nothing) copy → b ≡ true
seen_read true shown copy is = refl
seen_read false shown copy is = absurd is

-- A copy that is seen is one that its slot shows.
pub seen_copy : {A : Type 0} (b : Bool) (shown : Shown A) (copy : A) → IsCopyOf (if b then shown else Nothing) copy → IsCopyOf shown copy
seen_copy true shown copy is = is
seen_copy false shown copy is = absurd is

-- A single copy is the one by which its disk is known.
only_first : {A : Type 0} (shown : Shown A) (copy : A) → shown ≡ One copy → IsFirstOf shown copy
only_first shown copy is = rw is refl

module _ (r : Reading) (sound : IsSound r) (past : Past r) (held : Scene r.Copy) (readable : ℕ → Bool) (c : r.Config) (assembled : IsAssembled past held readable c)
    (j : ℕ) (at : IsSince past.changes j c) (stays : past.returned assembled.is_read.leader ≡ false)
    (leader : IsOn past.changes (past.disk assembled.is_read.leader) (held assembled.is_read.leader)) (number_is : leader.number ≡ j) where
  -- a current member that isn't away, and was read, is claimed
  pub claims : (s : ℕ) → is_away past s ≡ false → readable s ≡ true → r.has_current c (past.disk s) ≡ true → (copy : r.Copy) × IsClaimed r (seen readable held) s copy
  claims s here read now =
      let some = shows_some (assembled.is_kept.each s here) in
      let first = first_there (held s) some.copy some.is_copy in
      let named = some.all first.0 (first_is_copy (held s) first.0 first.1) in
      let leader_is : leader.config ≡ c = same_number leader.number j leader.config c leader.since at number_is in
      let leading_read = seen_read (readable assembled.is_read.leader) (held assembled.is_read.leader) assembled.is_read.leading assembled.is_read.leads.is_copy in
      let leading_held : IsCopyOf (held assembled.is_read.leader) assembled.is_read.leading = rw leading_read at assembled.is_read.leads.is_copy in
      let leading_is : assembled.is_read.leading ≡ leader.copy = on_copy (past.disk assembled.is_read.leader) (held assembled.is_read.leader) leader assembled.is_read.leading leading_held in
      let only : seen readable held assembled.is_read.leader ≡ One assembled.is_read.leading = ap (λ (b : Bool). if b then held assembled.is_read.leader else Nothing) leading_read ∙ leader.is_only ∙ ap (λ (x : r.Copy). One x) (sym leading_is) in
      let shows : r.Shows assembled.is_read.leading leader.config = on_shows (past.disk assembled.is_read.leader) (held assembled.is_read.leader) leader assembled.is_read.leading leading_held in (
        first.0,
        record {
          leader = assembled.is_read.leader;
          leading = assembled.is_read.leading;
          is_lowest = record { leads = (assembled.is_read.leading, assembled.is_read.leads); lowest = assembled.is_read.lowest; is_first = only_first (seen readable held assembled.is_read.leader) assembled.is_read.leading only };
          is_first = rw read first.1;
          is_listed = sound.same_current assembled.is_read.leading leader.config (r.disk_of first.0) shows ∙ ap (r.has_current leader.config) named ∙ ap (λ (x : r.Config). r.has_current x (past.disk s)) leader_is ∙ now;
        },
      )
    where
      shows_some : IsRight past.changes (past.disk s) (held s) → IsNamed r (past.disk s) (held s)
      shows_some (inl on) = record { copy = on.copy; is_copy = rw on.is_only refl; all = λ other is. ap r.disk_of (on_copy (past.disk s) (held s) on other is) ∙ on.names }
      shows_some (inr (inl outside)) = outside.shows_some j c at now
      shows_some (inr (inr lagging)) = lagging.shows_some

-- where no member is absent each is seated
pub seated_where_none_absent : (r : Reading) (past : Past r) (held : Scene r.Copy) (readable : ℕ → Bool) (j : ℕ) (c : r.Config) → IsKept past held → IsSince past.changes j c → NoneAbsent r readable held c → AreSeated past readable c
seated_where_none_absent r past held readable j c kept at none s here now =
    let seat = none (past.disk s) now in
    let there = seen_copy (readable seat.0) (held seat.0) seat.1 (first_is_copy (seen readable held seat.0) seat.1 seat.2.is_first) in
    let disks : past.disk s ≡ past.disk seat.0 = sym seat.3 ∙ kept.named seat.0 seat.1 there (inr (j, c, at, rw seat.3 now)) in
    let same : s ≡ seat.0 = kept.alone s seat.0 j c at now disks in
    rw same (seen_read (readable seat.0) (held seat.0) seat.1 (first_is_copy (seen readable held seat.0) seat.1 seat.2.is_first))

-- where the slots that weren't read count as lost, the others were read
pub seated_where_left_out : {r : Reading} (past : Past r) (readable : ℕ → Bool) (c : r.Config) → AreSeated (leave_out past readable c) readable c
seated_where_left_out {r} past readable c s here now =
    let out = not (readable s) && r.has_current c (past.disk s) in
    let lost = (or_parts (past.lost s || out) (past.returned s) here).0 in
    was_read (readable s) (r.has_current c (past.disk s)) (or_parts (past.lost s) out lost).1 now
  where
    was_read : (b member : Bool) → (not b && member) ≡ false → member ≡ true → b ≡ true
    was_read true member e is = refl
    was_read false true e is = sym e
    was_read false false e is = is

-- ---- what a call read is what is left, once each seat is sure

module _ (r : Reading) (sound : IsSound r) (past : Past r) (held scene : Scene r.Copy) (readable : ℕ → Bool) (c : r.Config) (assembled : IsAssembled past held readable c) (kept : IsKept past scene)
    (sure : AreSure r readable held scene) (seated : AreSeated past readable c) where
  -- the number of the configuration that was assembled
  pub number_of : (j : ℕ) × IsSince past.changes j c
  number_of = let is = read_as r sound past held assembled.is_kept readable assembled.may_read assembled.member c assembled.is_read in (is.0, is.1)

  -- no slot shows a later one
  not_later : (j : ℕ) → IsSince past.changes j c → r.sequence_of assembled.is_read.leading ≡ r.sequence c → past.returned assembled.is_read.leader ≡ false
      → (leader : IsOn past.changes (past.disk assembled.is_read.leader) (held assembled.is_read.leader)) → leader.number ≡ j → NoneLater past scene j
  not_later j at sequence_is stays leader number_is s here on = elim (cases_lt j on.number) [
    | inl later ↦
        let is : IsCopyOf (scene s) on.copy = rw on.is_only refl in
        let listed : r.lists_current on.copy (r.disk_of on.copy) ≡ true = sound.same_current on.copy on.config (r.disk_of on.copy) on.shows ∙ ap (r.has_current on.config) on.names ∙ on.is_member in
        let stand : stands r on.copy ≡ true = and_from _ _ on.is_ours listed in
        let now = current s here on later in
        let read = seated s here now in
        let in_held : IsCopyOf (held s) on.copy = subst (λ (shown : Shown r.Copy). IsCopyOf shown on.copy) (sure_of s here read now) is in
        let in_seen : IsCopyOf (seen readable held s) on.copy = rw read in_held in
        let most = assembled.is_read.leads.greatest s on.copy in_seen stand in
        let same = sound.same_sequence on.copy on.config on.shows in
        let rise = kept.chain.rises j on.number c on.config at on.since later in
        absurd (omega arith)
    | inr ge ↦ ge
  ]
    where
      leader_is : leader.config ≡ c
      leader_is = same_number leader.number j leader.config c leader.since at number_is

      leader_read : readable assembled.is_read.leader ≡ true
      leader_read = seen_read (readable assembled.is_read.leader) (held assembled.is_read.leader) assembled.is_read.leading assembled.is_read.leads.is_copy

      leader_here : is_away past assembled.is_read.leader ≡ false
      leader_here = or_from _ _ (assembled.may_read.not_lost assembled.is_read.leader leader_read) stays

      sure_of : (s : ℕ) → is_away past s ≡ false → readable s ≡ true → r.has_current c (past.disk s) ≡ true → scene s ≡ held s
      sure_of s here read now = let claimed = claims r sound past held readable c assembled j at stays leader number_is s here read now in sure s claimed.0 claimed.1

      leader_now : IsOn past.changes (past.disk assembled.is_read.leader) (scene assembled.is_read.leader)
      leader_now = record {
        number = leader.number;
        config = leader.config;
        since = leader.since;
        copy = leader.copy;
        is_only = sure_of assembled.is_read.leader leader_here leader_read (rw leader_is at leader.is_member) ∙ leader.is_only;
        is_ours = leader.is_ours;
        names = leader.names;
        shows = leader.shows;
        is_full = leader.is_full;
        is_member = leader.is_member;
      }

      current : (s : ℕ) → is_away past s ≡ false → (on : IsOn past.changes (past.disk s) (scene s)) → j < on.number → r.has_current c (past.disk s) ≡ true
      current s here on later = elim (cases_eq j past.changes.acked) [
        | inr differ ↦ let late = at.late in kept.chain.joins_first j on.number c on.config (past.disk s) at on.since (omega arith) (omega arith) on.is_member
        | inl same ↦
            let is : c ≡ kept.last = same_number j past.changes.acked c kept.last at (last_since past scene kept) same in
            elim (which (r.has_current kept.last (past.disk s))) [
              | inl native ↦ rw is native
              | inr joins ↦
                  let leader_native : r.has_current kept.last (past.disk assembled.is_read.leader) ≡ true = rw (leader_is ∙ is) at leader.is_member in
                  let lt = kept.entered s assembled.is_read.leader here leader_here on joins leader_now leader_native in
                  absurd (omega (arith, number_is))
            ]
      ]

  -- No slot shows a later configuration than the one that was assembled.
  pub none_later : NoneLater past scene (number_of.0)
  unfolding number_of
  none_later =
      let is = read_as r sound past held assembled.is_kept readable assembled.may_read assembled.member c assembled.is_read in
      not_later is.0 is.1 is.2 is.3 is.4 is.5

  -- the changes behind it are taken off
  pub cut_here : IsKept (take_off past (number_of.0)) scene
  cut_here = cut_kept r past scene kept (number_of.0) (number_of.1).late none_later

-- ---- the same with the number given

module _ (r : Reading) (sound : IsSound r) (past : Past r) (held scene : Scene r.Copy) (readable : ℕ → Bool) (j : ℕ) (c : r.Config) (assembled : IsAssembled past held readable c) (at : IsSince past.changes j c) (kept : IsKept past scene)
    (sure : AreSure r readable held scene) where
  -- The changes behind the one that was assembled are taken off.
  pub cut_at : AreSeated past readable c → IsKept (take_off past j) scene
  cut_at seated =
      let number = number_of r sound past held scene readable c assembled kept sure seated in
      let same = (same_sequence_same kept.chain number.0 j c c number.1 at refl).0 in
      subst (λ (n : ℕ). IsKept (take_off past n) scene) same (cut_here r sound past held scene readable c assembled kept sure seated)

  -- So they are where no member is absent.
  pub cut_none_absent : NoneAbsent r readable held c → IsKept (take_off past j) scene
  cut_none_absent none = cut_at (seated_where_none_absent r past held readable j c assembled.is_kept at none)

-- what was assembled stays so where what wasn't read counts as lost
pub assembled_left_out : {r : Reading} (past : Past r) (held : Scene r.Copy) (readable : ℕ → Bool) (c : r.Config) → past.changes.own_from ≤ past.changes.acked → IsAssembled past held readable c → IsAssembled (leave_out past readable c) held readable c
assembled_left_out {r} past held readable c own assembled = record {
  is_kept = left_out_kept past held readable c own assembled.is_kept;
  may_read = record {
    below = assembled.may_read.below;
    not_lost = λ s read. or_from (past.lost s) (not (readable s) && r.has_current c (past.disk s)) (assembled.may_read.not_lost s read) (and_left (not (readable s)) (r.has_current c (past.disk s)) (ap not read));
    all_young = assembled.may_read.all_young;
  };
  member = record {
    slot = assembled.member.slot;
    is_readable = assembled.member.is_readable;
    is_here = assembled.member.is_here;
    number = assembled.member.number;
    config = assembled.member.config;
    since = assembled.member.since;
    copy = assembled.member.copy;
    is_copy = assembled.member.is_copy;
    is_standing = assembled.member.is_standing;
    shows = assembled.member.shows;
  };
  is_read = assembled.is_read;
}

-- A member that doesn't count as lost was read.
read_where : {r : Reading} (past : Past r) (readable : ℕ → Bool) (c : r.Config) (s : ℕ) → is_away (leave_out past readable c) s ≡ false → r.has_current c (past.disk s) ≡ true → readable s ≡ true
read_where {r = r} past readable c s here now = by (readable s) (past.lost s) (past.returned s) (r_now) now here
  where
    r_now : Bool
    r_now = r.has_current c (past.disk s)

    by : (read lost back current : Bool) → current ≡ true → (lost || not read && current || back) ≡ false → read ≡ true
    by true lost back current is h = refl
    by false true back current is h = absurd cc
    by false false back true is h = absurd cc
    by false false back false is h = absurd cc

-- The loss of absent members is issued behind the change that was assembled.
pub loss_at : (r : Reading) (sound : IsSound r) (past : Past r) (held scene : Scene r.Copy) (readable : ℕ → Bool) (j : ℕ) (c loss : r.Config) → IsAssembled past held readable c → IsSince past.changes j c → IsKept past scene
    → AreSure r readable held scene → past.changes.own_from ≤ past.changes.acked → MayFollow r c loss → DoRemain r (λ s. readable s ≡ true) past.disk c loss → IsKept (issue (take_off (leave_out past readable c) j) loss) scene
loss_at r sound past held scene readable j c loss assembled at kept sure own follow remain =
    let left = left_out_kept past scene readable c own kept in
    let cut_left = cut_at r sound (leave_out past readable c) held scene readable j c (assembled_left_out past held readable c own assembled) at left sure (seated_where_left_out past readable c) in
    issued_kept r sound (take_off (leave_out past readable c) j) scene cut_left loss (follows r (take_off (leave_out past readable c) j) scene cut_left j c loss (last_cut past.changes j c at) follow (inr (λ s here now. remain s (read_where past readable c s here now) now)))
