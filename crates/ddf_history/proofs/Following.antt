-- A change may follow the configuration that it changes.
use Rattle.std.proofs.Common.{◌≡◌, ℕ, ◌<◌, Bool, true, false, not, ◌&&◌, ◌||◌, eqb, List, [], ◌∷◌, Option, Some, refl, ap, sym, ◌∙◌}
use Rattle.std.proofs.lemmas.Bool.{and_from, and_parts, eq-eqb, eqb-true, false≢true, or_right}
use Rattle.std.specs.Map.{lookup}
use Rattle.std.specs.Option.{option_map_or}
use Rattle.std.specs.Str.{bytes_eq}
use Rattle.ddf_config.specs.declared.member.Member.{Member}
use Rattle.ddf_config.specs.Configuration.{Configuration}
use Rattle.ddf_config.specs.Entries.{changed_entries}
use Rattle.ddf_plan.specs.declared.change.Change.{Change}
use Rattle.ddf_plan.specs.declared.change.Change.TheVariants.{Lose, Fail}
use Rattle.ddf_plan.specs.Changes.{changed_at}
use Rattle.ddf_plan.specs.Lose.{is_among}
use Rattle.ddf_plan.specs.Members.{lost_by, member_after}
use Rattle.ddf_history.specs.Groups.{Disk, groups, has_current, has_missing}
use Rattle.ddf_history.specs.Steps.{MayFollow}

-- ---- one member

-- A member keeps its GUID, and stays missing where it was.
record IsSameMember (before after : Member) : Type 0 where
  guid : after.guid ≡ before.guid
  missing : before.missing ≡ true → after.missing ≡ true

-- Each change keeps each member.
member_kept : (config : Configuration) (change : Change) (reference : ℕ) (member : Member) → (after : Member) × (Some (member_after config change reference member) ≡ Some after) × IsSameMember member after
member_kept config change reference member =
    (member_after config change reference member, refl, record { guid = refl; missing = or_right (is_among (lost_by change) reference) member.missing })

-- ---- all members

module _ (change : ℕ → Member → Option Member) (kept : (reference : ℕ) (member : Member) → (after : Member) × (change reference member ≡ Some after) × IsSameMember member after) (guid : List ℕ) (asked : ℕ → Bool) where
  -- The first member that is asked for has the GUID and is current.
  abbrev is_current_by : List (ℕ × Member) → Bool
  is_current_by members = option_map_or (λ (member : Member). bytes_eq member.guid guid && not member.missing) (lookup asked members) false

  -- The first member that is asked for has the GUID and is missing.
  abbrev is_missing_by : List (ℕ × Member) → Bool
  is_missing_by members = option_map_or (λ (member : Member). bytes_eq member.guid guid && member.missing) (lookup asked members) false

  -- a member that is current was so before
  was_current : (members : List (ℕ × Member)) → is_current_by (changed_entries change members) ≡ true → is_current_by members ≡ true
  was_current [] is = is
  was_current (entry ∷ members) is = go (kept entry.0 entry.1) (was_current members) (asked entry.0) refl
    where
      stays : (before after : Bool) → (before ≡ true → after ≡ true) → not after ≡ true → not before ≡ true
      stays false after same was = refl
      stays true after same was = sym (ap not (same refl)) ∙ was

      go : (after : Member) × (change entry.0 entry.1 ≡ Some after) × IsSameMember entry.1 after → (is_current_by (changed_entries change members) ≡ true → is_current_by members ≡ true)
          → (here : Bool) → asked entry.0 ≡ here → is_current_by (entry ∷ members) ≡ true
      go after later true here =
          let changed : (bytes_eq after.0.guid guid && not after.0.missing) ≡ true = rw (after.1, here) at is in
          let parts = and_parts (bytes_eq after.0.guid guid) (not after.0.missing) changed in
          let named : bytes_eq entry.1.guid guid ≡ true = ap (λ (name : List ℕ). bytes_eq name guid) (sym after.2.guid) ∙ parts.0 in
          rw here (and_from _ _ named (stays entry.1.missing after.0.missing after.2.missing parts.1))
      go after later false here = rw here (later (rw (after.1, here) at is))

  -- a member that was missing is so
  still_missing : (members : List (ℕ × Member)) → is_missing_by members ≡ true → is_missing_by (changed_entries change members) ≡ true
  still_missing [] is = is
  still_missing (entry ∷ members) is = go (kept entry.0 entry.1) (still_missing members) (asked entry.0) refl
    where
      go : (after : Member) × (change entry.0 entry.1 ≡ Some after) × IsSameMember entry.1 after → (is_missing_by members ≡ true → is_missing_by (changed_entries change members) ≡ true)
          → (here : Bool) → asked entry.0 ≡ here → is_missing_by (changed_entries change (entry ∷ members)) ≡ true
      go after later true here =
          let parts = and_parts (bytes_eq entry.1.guid guid) entry.1.missing (rw here at is) in
          let named : bytes_eq after.0.guid guid ≡ true = ap (λ (name : List ℕ). bytes_eq name guid) after.2.guid ∙ parts.0 in
          rw (after.1, here) (and_from _ _ named (after.2.missing parts.1))
      go after later false here = rw (after.1, here) (later (rw here at is))

-- ---- members that are lost

-- the entry of the disk's reference has its GUID and passes the test
abbrev is_listed : (Member → Bool) → Disk → List (ℕ × Member) → Bool
is_listed test disk members = option_map_or (λ (member : Member). bytes_eq member.guid disk.guid && test member) (lookup (λ reference. eqb reference disk.reference) members) false

-- A current member whose reference is among those that a change loses is missing then.
lost_listed : (config : Configuration) (change : Change) (disk : Disk) → is_among (lost_by change) disk.reference ≡ true → (members : List (ℕ × Member)) → is_listed (λ member. not member.missing) disk members ≡ true
    → is_listed (λ member. member.missing) disk (changed_entries (λ reference member. Some (member_after config change reference member)) members) ≡ true
lost_listed config change disk among [] is = absurd (false≢true is)
lost_listed config change disk among (entry ∷ members) is = go (lost_listed config change disk among members) (eqb entry.0 disk.reference) refl
  where
    go : (is_listed (λ member. not member.missing) disk members ≡ true
        → is_listed (λ member. member.missing) disk (changed_entries (λ reference member. Some (member_after config change reference member)) members) ≡ true)
        → (here : Bool) → eqb entry.0 disk.reference ≡ here
        → is_listed (λ member. member.missing) disk (changed_entries (λ reference member. Some (member_after config change reference member)) (entry ∷ members)) ≡ true
    go later true here =
        let own : is_among (lost_by change) entry.0 ≡ true = ap (is_among (lost_by change)) (eqb-true entry.0 disk.reference here) ∙ among in
        let parts = and_parts (bytes_eq entry.1.guid disk.guid) (not entry.1.missing) (rw here at is) in
        rw (here, own) (and_from _ _ parts.0 refl)
    go later false here = rw here (later (rw here at is))

-- So it is behind the change that loses it,
pub lost_missing : (config : Configuration) (references : List ℕ) (sequence : ℕ) (disk : Disk) → has_current config disk ≡ true → is_among references disk.reference ≡ true
    → has_missing (changed_at config (Lose references) sequence) disk ≡ true
lost_missing config references sequence disk current among = lost_listed config (Lose references) disk among config.members current

-- and behind the one that fails it.
pub failed_missing : (config : Configuration) (failed sequence : ℕ) (disk : Disk) → has_current config disk ≡ true → disk.reference ≡ failed
    → has_missing (changed_at config (Fail failed) sequence) disk ≡ true
failed_missing config failed sequence disk current same =
    let among : is_among (failed ∷ []) disk.reference ≡ true = rw same (ap (λ (b : Bool). b || false) (eq-eqb failed failed refl)) in
    lost_listed config (Fail failed) disk among config.members current

-- A change may follow the configuration that it changes, at a greater sequence.
pub changes_follow : (group : List ℕ) (config : Configuration) (change : Change) (sequence : ℕ) → config.sequence < sequence → MayFollow (groups group) config (changed_at config change sequence)
changes_follow group config change sequence less = record {
  rises = less;
  no_more = λ disk is. was_current (λ reference member. Some (member_after config change reference member)) (member_kept config change) disk.guid (λ reference. eqb reference disk.reference) config.members is;
  stays_missing = λ disk is. still_missing (λ reference member. Some (member_after config change reference member)) (member_kept config change) disk.guid (λ reference. eqb reference disk.reference) config.members is;
}
