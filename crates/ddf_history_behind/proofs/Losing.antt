-- A change that loses a member counts one more of those that are lost.
use Rattle.std.proofs.Common.{◌≡◌, ℕ, ◌+◌, ◌≤◌, ◌&&◌, not, Bool, true, false, eqb, nat_eq, Option, Some, None, refl, ap, sym, ◌∙◌}
use Rattle.std.proofs.lemmas.Bool.{and_from, and_parts, eqb-true, false_from_ne_true, false≢true, or_left, or_right}
use Rattle.std.proofs.Math.Path.{fun_ext}
use Rattle.std.specs.Prelude.{count_by, slice_get}
use Rattle.std.specs.Map.{lookup}
use Rattle.std.specs.Str.{bytes_eq}
use Rattle.ddf_lemmas.proofs.Lists.{bytes_same}
use Rattle.ddf_lemmas.proofs.Tests.{eqb_turned}
use Rattle.ddf_config.specs.declared.member.Member.{Member}
use Rattle.ddf_config.specs.Configuration.{Configuration}
use Rattle.ddf_config.specs.Members.{is_current}
use Rattle.ddf_plan.specs.declared.change.Change.{Change}
use Rattle.ddf_plan.specs.Changes.{changed_at}
use Rattle.ddf_plan.specs.Lose.{is_among}
use Rattle.ddf_plan.specs.Members.{lost_by, member_after}
use Rattle.ddf_steps.proofs.MembersAfter.{changed_map}
use Rattle.ddf_history.specs.Groups.{Disk, has_current, has_missing}
use Rattle.ddf_history_steps.proofs.Claimed.{entry_there}
use Rattle.ddf_history_behind.specs.Behind.{disk_in, is_lost_between}
use Rattle.ddf_history_behind.proofs.Counts.{one_more}

-- ---- the entry of a current member

-- The reference of a current member has its entry in the table.
record HasEntry (config : Configuration) (reference : ℕ) : Type 0 where
  entry : ℕ × Member
  place : ℕ
  there : slice_get config.members place ≡ Some entry
  key : entry.0 ≡ reference
  current : entry.1.missing ≡ false
  has : has_current config (disk_in entry) ≡ true

has_entry : (config : Configuration) (reference : ℕ) → is_current config.members reference ≡ true → HasEntry config reference
has_entry config reference is = go (lookup (nat_eq reference) config.members) refl is
  where
    not_so : (b : Bool) → not b ≡ true → b ≡ false
    not_so false e = refl
    not_so true e = absurd (false≢true e)

    -- The entry that the look-up by its own number finds is that one.
    own : (key : ℕ) (member : Member) → key ≡ reference → lookup (nat_eq reference) config.members ≡ Some member → not member.missing ≡ true → has_current config (disk_in (key, member)) ≡ true
    own key member same found here =
        let tests : nat_eq key ≡ (λ (other : ℕ). eqb other key) = fun_ext (λ (other : ℕ). eqb_turned key other) in
        let is_found : lookup (λ (other : ℕ). eqb other key) config.members ≡ Some member =
        sym (ap (λ (test : ℕ → Bool). lookup test config.members) tests) ∙ ap (λ (n : ℕ). lookup (nat_eq n) config.members) same ∙ found in
        rw is_found (and_from (bytes_eq member.guid member.guid) (not member.missing) (bytes_same member.guid) here)

    go : (found : Option Member) → lookup (nat_eq reference) config.members ≡ found → (elim found [ None ↦ false | Some member ↦ not member.missing ]) ≡ true → HasEntry config reference
    go None none here = absurd (false≢true here)
    go (Some member) found here =
        let at = entry_there (nat_eq reference) config.members member found in
        let same : at.1 ≡ reference = sym (eqb-true reference at.1 at.3) in
        record {
          entry = (at.1, member);
          place = at.0;
          there = at.2;
          key = same;
          current = not_so member.missing here;
          has = own at.1 member same found here;
        }

-- ---- the count

module _ (earlier config : Configuration) (change : Change) where
  -- what becomes of an entry
  abbrev after : (ℕ × Member) → (ℕ × Member)
  after entry = (entry.0, member_after config change entry.0 entry.1)

  -- One that is missing stays so.
  still_lost : (entry : ℕ × Member) → is_lost_between earlier entry ≡ true → is_lost_between earlier (after entry) ≡ true
  still_lost entry is =
      let parts = and_parts entry.1.missing (not (has_missing earlier (disk_in entry))) is in
      and_from _ _ (or_right (is_among (lost_by change) entry.0) entry.1.missing parts.0) parts.1

  -- A current member that the change loses, and that the earlier configuration doesn't list as missing, is one more.
  pub lost_more : (sequence reference : ℕ) → is_current config.members reference ≡ true → is_among (lost_by change) reference ≡ true
      → ((disk : Disk) → has_current config disk ≡ true → has_missing earlier disk ≡ true → ⊥)
      → count_by (is_lost_between earlier) config.members + 1 ≤ count_by (is_lost_between earlier) (changed_at config change sequence).members
  lost_more sequence reference current among never =
      let own = has_entry config reference current in
      let one = own.entry in
      let gone : (after one).1.missing ≡ true = or_left (is_among (lost_by change) one.0) one.1.missing (ap (is_among (lost_by change)) own.key ∙ among) in
      let new : not (has_missing earlier (disk_in one)) ≡ true =
      ap not (false_from_ne_true (has_missing earlier (disk_in one)) (λ missing. never (disk_in one) own.has missing)) in
      let before : is_lost_between earlier one ≡ false = ap (λ (b : Bool). b && not (has_missing earlier (disk_in one))) own.current in
      rw (changed_map (member_after config change) config.members)
      (one_more (is_lost_between earlier) after still_lost config.members own.place one own.there before (and_from _ _ gone new))
