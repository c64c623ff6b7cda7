-- The members of a configuration that another group's has joined: those of both, and none twice.
use Rattle.std.proofs.Common.{◌≡◌, ◌⊎◌, ℕ, zero, suc, ◌||◌, ◌&&◌, not, Bool, true, false, eqb, nat_eq, List, [], ◌∷◌, ◌++◌, Option, Some, None, if◌then◌else◌, refl, ap, sym, ◌∙◌, inl, inr, subst}
use Rattle.std.proofs.lemmas.Bool.{and_parts, eqb-true, false≢true, or_left}
use Rattle.std.proofs.Math.Path.{fun_ext}
use Rattle.std.specs.Prelude.{find, is_some, option_map, slice_get}
use Rattle.std.specs.Map.{lookup}
use Rattle.std.specs.Option.{option_map_or, option_or}
use Rattle.std.specs.Str.{bytes_eq}
use Rattle.std.proofs.lemmas.Option.{same_Some}
use Rattle.ddf_lemmas.proofs.Lists.{none_found}
use Rattle.ddf_lemmas.proofs.Options.{value_there}
use Rattle.ddf_lemmas.proofs.Tests.{eqb_turned}
use Rattle.ddf_config.specs.declared.member.Member.{Member}
use Rattle.ddf_config.specs.declared.refusal.Refusal.TheVariants.{Clash, NameTaken}
use Rattle.ddf_config.specs.Configuration.{Configuration}
use Rattle.ddf_config.specs.Entries.{changed_entries}
use Rattle.ddf_config.specs.Refusals.{refuse_if}
use Rattle.ddf_config.proofs.Firsts.{all_pass}
use Rattle.ddf_import.specs.Clash.{array_clash, bound_in, disk_clash, has_guid, is_there, join_cause, takes_name}
use Rattle.ddf_import.specs.Joined.{kept_members, stays}
use Rattle.ddf_plan.specs.Spare.{holds_extent}
use Rattle.ddf_history.specs.Groups.{Disk, has_current, is_member}
use Rattle.ddf_joining.specs.Joining.{config_joined}
use Rattle.ddf_history_steps.proofs.Claimed.{entry_there}

-- ---- look-ups

-- whether a reference is that of a disk
abbrev pub of_disk : Disk → ℕ → Bool
of_disk disk reference = eqb reference disk.reference

pub lookup_both : (test : ℕ → Bool) (xs ys : List (ℕ × Member)) → lookup test (xs ++ ys) ≡ option_or (lookup test xs) (lookup test ys)
lookup_both test [] ys = refl
lookup_both test (entry ∷ xs) ys = by (test entry.0) (lookup_both test xs ys)
  where
    by : (b : Bool) → lookup test (xs ++ ys) ≡ option_or (lookup test xs) (lookup test ys)
        → (if b then Some entry.1 else lookup test (xs ++ ys)) ≡ option_or (if b then Some entry.1 else lookup test xs) (lookup test ys)
    by true rest = refl
    by false rest = rest

-- Where nothing is found no entry passes.
none_passes : (test : ℕ → Bool) (entries : List (ℕ × Member)) → lookup test entries ≡ None → (place key : ℕ) (member : Member) → slice_get entries place ≡ Some (key, member)
    → test key ≡ true → ⊥
none_passes test [] none place key member at passes = absurd cc
none_passes test (entry ∷ entries) none place key member at passes = go (none_passes test entries) (test entry.0) refl none place at
  where
    go : (lookup test entries ≡ None → (k key : ℕ) (m : Member) → slice_get entries k ≡ Some (key, m) → test key ≡ true → ⊥) → (b : Bool) → test entry.0 ≡ b
        → (if b then Some entry.1 else lookup test entries) ≡ None → (k : ℕ) → slice_get (entry ∷ entries) k ≡ Some (key, member) → ⊥
    go later true is none k here = absurd cc
    go later false is none zero here =
        let same : entry ≡ (key, member) = cc in
        false≢true (sym is ∙ ap (λ (one : ℕ × Member). test one.0) same ∙ passes)
    go later false is none (suc k) here = later none k key member here passes

-- ---- entries that are kept

module _ (keeps : ℕ → Member → Bool) where
  abbrev keep : ℕ → Member → Option Member
  keep reference member = if keeps reference member then Some member else None

  abbrev kept : List (ℕ × Member) → List (ℕ × Member)
  kept entries = changed_entries keep entries

  -- The entry that a look-up finds is found among those that are kept, where it is.
  kept_there : (test : ℕ → Bool) (entries : List (ℕ × Member)) (member : Member) → lookup test entries ≡ Some member → ((key : ℕ) → test key ≡ true → keeps key member ≡ true)
      → lookup test (kept entries) ≡ Some member
  kept_there test [] member found all = absurd cc
  kept_there test (entry ∷ entries) member found all = go (λ rest. kept_there test entries member rest all) (test entry.0) refl (keeps entry.0 entry.1) refl found
    where
      go : (lookup test entries ≡ Some member → lookup test (kept entries) ≡ Some member) → (b : Bool) → test entry.0 ≡ b → (k : Bool) → keeps entry.0 entry.1 ≡ k
          → (if b then Some entry.1 else lookup test entries) ≡ Some member → lookup test (kept (entry ∷ entries)) ≡ Some member
      go later true is true stay same = rw (stay, is) same
      go later true is false stay same =
          let own : entry.1 ≡ member = cc in
          absurd (false≢true (sym stay ∙ ap (keeps entry.0) own ∙ all entry.0 is))
      go later false is true stay same = rw (stay, is) (later same)
      go later false is false stay same = rw stay (later same)

  -- What isn't there isn't kept.
  kept_none : (test : ℕ → Bool) (entries : List (ℕ × Member)) → lookup test entries ≡ None → lookup test (kept entries) ≡ None
  kept_none test [] none = refl
  kept_none test (entry ∷ entries) none = go (kept_none test entries) (test entry.0) refl (keeps entry.0 entry.1) refl none
    where
      go : (lookup test entries ≡ None → lookup test (kept entries) ≡ None) → (b : Bool) → test entry.0 ≡ b → (k : Bool) → keeps entry.0 entry.1 ≡ k
          → (if b then Some entry.1 else lookup test entries) ≡ None → lookup test (kept (entry ∷ entries)) ≡ None
      go later true is k stay same = absurd cc
      go later false is true stay same = rw (stay, is) (later same)
      go later false is false stay same = rw stay (later same)

  -- What is found among them is an entry of those before.
  kept_from : (test : ℕ → Bool) (entries : List (ℕ × Member)) (member : Member) → lookup test (kept entries) ≡ Some member
      → (place key : ℕ) × (slice_get entries place ≡ Some (key, member)) × (test key ≡ true)
  kept_from test [] member found = absurd cc
  kept_from test (entry ∷ entries) member found = go (kept_from test entries member) (test entry.0) refl (keeps entry.0 entry.1) refl found
    where
      rest : (place key : ℕ) × (slice_get entries place ≡ Some (key, member)) × (test key ≡ true)
          → (place key : ℕ) × (slice_get (entry ∷ entries) place ≡ Some (key, member)) × (test key ≡ true)
      rest from = (suc from.0, from.1, from.2, from.3)

      go : (lookup test (kept entries) ≡ Some member → (place key : ℕ) × (slice_get entries place ≡ Some (key, member)) × (test key ≡ true)) → (b : Bool) → test entry.0 ≡ b
          → (k : Bool) → keeps entry.0 entry.1 ≡ k → lookup test (kept (entry ∷ entries)) ≡ Some member
          → (place key : ℕ) × (slice_get (entry ∷ entries) place ≡ Some (key, member)) × (test key ≡ true)
      go later true is true stay at =
          let own : entry.1 ≡ member = same_Some entry.1 member (rw (stay, is) at at) in
          (0, entry.0, ap (λ (m : Member). Some (entry.0, m)) own, is)
      go later b is false stay at = rest (later (rw stay at at))
      go later false is true stay at = rest (later (rw (stay, is) at at))

-- ---- a join

no_first : (found : Option (ℕ × Member)) → option_map (λ (entry : ℕ × Member). Clash entry.1.guid) found ≡ None → found ≡ None
no_first None is = refl
no_first (Some entry) is = absurd cc

nothing_there : (found : Option Member) (b : Bool) → (b || is_some found) ≡ false → found ≡ None
nothing_there None b is = refl
nothing_there (Some member) true is = absurd cc
nothing_there (Some member) false is = absurd cc

module _ (config joining : Configuration) (free : join_cause config joining ≡ None)
    (apart : (i j : ℕ) (one other : ℕ × Member) → slice_get config.members i ≡ Some one → slice_get config.members j ≡ Some other → one.0 ≡ other.0 → one ≡ other) where
  abbrev next : Configuration
  next = config_joined config joining

  -- a current member
  abbrev is_here : Disk → Member → Bool
  is_here disk member = bytes_eq member.guid disk.guid && not member.missing

  all_found : (disk : Disk) → lookup (of_disk disk) next.members ≡ option_or (lookup (of_disk disk) (kept_members config)) (lookup (of_disk disk) joining.members)
  all_found disk = lookup_both (of_disk disk) (kept_members config) joining.members

  -- Each current member stays one.
  pub keeps_current : (disk : Disk) → has_current config disk ≡ true → has_current next disk ≡ true
  keeps_current disk was =
      let there = value_there (is_here disk) (lookup (of_disk disk) config.members) was in
      let present = (and_parts (bytes_eq there.0.guid disk.guid) (not there.0.missing) there.2).1 in
      let found = kept_there (stays config) (of_disk disk) config.members there.0 there.1 (λ key is. or_left (not there.0.missing) (holds_extent config key) present) in
      ap (λ (one : Option Member). option_map_or (is_here disk) one false) (all_found disk ∙ ap (λ (one : Option Member). option_or one (lookup (of_disk disk) joining.members)) found)
      ∙ there.2

  -- A joining entry has no reference of the group's members.
  no_entry : (place key : ℕ) (member : Member) → slice_get joining.members place ≡ Some (key, member) → lookup (nat_eq key) config.members ≡ None
  no_entry place key member at =
      let none : disk_clash config.members joining.members ≡ None =
      all_pass [] (disk_clash config.members joining.members)
      (array_clash config.arrays joining.arrays ∷ bound_in config joining ∷ bound_in joining config ∷ refuse_if (takes_name config joining) NameTaken ∷ []) free in
      let not_there = none_found (is_there config.members) joining.members (no_first (find (is_there config.members) joining.members) none) place (key, member) at in
      nothing_there (lookup (nat_eq key) config.members) (has_guid config.members member.guid) not_there

  -- So a joining disk has none.
  pub joins_new : (disk : Disk) → has_current joining disk ≡ true → lookup (of_disk disk) config.members ≡ None
  joins_new disk now =
      let there = value_there (is_here disk) (lookup (of_disk disk) joining.members) now in
      let from = entry_there (of_disk disk) joining.members there.0 there.1 in
      let key : from.1 ≡ disk.reference = eqb-true from.1 disk.reference from.3 in
      ap (λ (test : ℕ → Bool). lookup test config.members) (sym (fun_ext (λ (reference : ℕ). eqb_turned disk.reference reference)))
      ∙ subst (λ (n : ℕ). lookup (nat_eq n) config.members ≡ None) key (no_entry from.0 from.1 there.0 from.2)

  -- It is a current member then,
  pub joins_current : (disk : Disk) → has_current joining disk ≡ true → has_current next disk ≡ true
  joins_current disk now =
      let none = kept_none (stays config) (of_disk disk) config.members (joins_new disk now) in
      ap (λ (one : Option Member). option_map_or (is_here disk) one false) (all_found disk ∙ ap (λ (one : Option Member). option_or one (lookup (of_disk disk) joining.members)) none)
      ∙ now

  -- and was no member before.
  pub joins_no_member : (test : Member → Bool) (disk : Disk) → has_current joining disk ≡ true → is_member test config disk ≡ true → ⊥
  joins_no_member test disk now was =
      false≢true (sym (ap (λ (one : Option Member). option_map_or (λ (member : Member). bytes_eq member.guid disk.guid && test member) one false) (joins_new disk now)) ∙ was)

  -- An entry that is kept is the one that was found.
  was_found : (disk : Disk) (member : Member) → lookup (of_disk disk) (kept_members config) ≡ Some member → lookup (of_disk disk) config.members ≡ Some member
  was_found disk member at = go (lookup (of_disk disk) config.members) refl
    where
      from : (place key : ℕ) × (slice_get config.members place ≡ Some (key, member)) × (of_disk disk key ≡ true)
      from = kept_from (stays config) (of_disk disk) config.members member at

      go : (found : Option Member) → lookup (of_disk disk) config.members ≡ found → lookup (of_disk disk) config.members ≡ Some member
      go None is = absurd (none_passes (of_disk disk) config.members is from.0 from.1 member from.2 from.3)
      go (Some other) is =
          let there = entry_there (of_disk disk) config.members other is in
          let keys : there.1 ≡ from.1 = eqb-true there.1 disk.reference there.3 ∙ sym (eqb-true from.1 disk.reference from.3) in
          let same = apart there.0 from.0 (there.1, other) (from.1, member) there.2 from.2 keys in
          is ∙ ap (λ (entry : ℕ × Member). Some entry.1) same

  -- A current member is one of the group's or of those that join.
  pub of_either : (disk : Disk) → has_current next disk ≡ true → (has_current config disk ≡ true) ⊎ (has_current joining disk ≡ true)
  of_either disk now = go (lookup (of_disk disk) (kept_members config)) refl
    where
      at_next : option_map_or (is_here disk) (option_or (lookup (of_disk disk) (kept_members config)) (lookup (of_disk disk) joining.members)) false ≡ true
      at_next = sym (ap (λ (one : Option Member). option_map_or (is_here disk) one false) (all_found disk)) ∙ now

      go : (found : Option Member) → lookup (of_disk disk) (kept_members config) ≡ found → (has_current config disk ≡ true) ⊎ (has_current joining disk ≡ true)
      go None is = inr (sym (ap (λ (one : Option Member). option_map_or (is_here disk) (option_or one (lookup (of_disk disk) joining.members)) false) is) ∙ at_next)
      go (Some member) is =
          inl
          (ap (λ (one : Option Member). option_map_or (is_here disk) one false) (was_found disk member is)
          ∙ sym (ap (λ (one : Option Member). option_map_or (is_here disk) (option_or one (lookup (of_disk disk) joining.members)) false) is)
          ∙ at_next)
