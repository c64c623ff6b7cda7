-- No reference is that of two members of a group that a call found, and recovers.
use Rattle.std.proofs.Common.{◌≡◌, ℕ, Bool, true, false, ◌&&◌, eqb, nat_eq, List, [], ◌∷◌, length, map, slice_get, Option, Some, Ok, if◌then◌else◌, refl, subst}
use Rattle.std.proofs.lemmas.Bool.{and_parts, eqb-true, false≢true}
use Rattle.std.specs.Cmp.Lexicographic.{pointwise}
use Rattle.std.specs.List.{IsDistinct}
use Rattle.std.specs.Str.{bytes_eq}
use Rattle.ddf_bay.specs.State.{BayState}
use Rattle.ddf_config.specs.declared.member.Member.{Member}
use Rattle.ddf_config.specs.Configuration.{Configuration}
use Rattle.ddf_config.proofs.Entries.{distinct_changed}
use Rattle.ddf_copy.specs.declared.newest_copy.Newest.{Newest}
use Rattle.ddf_plan.specs.Members.{member_after}
use Rattle.ddf_tables.specs.declared.disks.DiskEntry.{DiskEntry}
use Rattle.ddf_view.specs.View.{is_missing}
use Rattle.ddf_view.specs.Shows.{gives_member, same_flag}
use Rattle.ddf_view.proofs.Agreement.{shown_from}
use Rattle.ddf_rewrite.proofs.NamesCan.{own_references}
use Rattle.ddf_history.specs.Answer.{HasMember, IsReadable}
use Rattle.ddf_history.specs.Groups.{groups}
use Rattle.ddf_history.specs.Issued.{Past}
use Rattle.ddf_history.specs.Promise.{IsKept}
use Rattle.ddf_history.specs.Scenes.{scene_of}
use Rattle.ddf_history.proofs.Assembling.{read_as}
use Rattle.ddf_history.proofs.Since.{same_number}
use Rattle.ddf_history.proofs.Sound.{groups_are_sound}
use Rattle.ddf_seats.specs.Group.{GroupValue}
use Rattle.ddf_assembly.specs.Group.{group_of}
use Rattle.ddf_recovery.specs.Recovery.{config_lost, config_recovered, loss}
use Rattle.ddf_seats.specs.Leading.{some}
use Rattle.ddf_assembly.specs.Slots.{newest_from}
use Rattle.ddf_history_steps.specs.Kept.{is_read}
use Rattle.ddf_history_steps.proofs.Begun.{assembled_kept}

abbrev references : List (ℕ × Member) → List ℕ
references members = map (λ (entry : ℕ × Member). entry.0) members

-- The entries that a table gives have its references.
given_references : (disks : List DiskEntry) (members : List (ℕ × Member)) → pointwise gives_member disks members ≡ true → map (λ (disk : DiskEntry). disk.reference) disks ≡ references members
given_references [] [] given = refl
given_references [] (entry ∷ members) given = absurd (false≢true given)
given_references (disk ∷ disks) [] given = absurd (false≢true given)
given_references (disk ∷ disks) (entry ∷ members) given =
    let parts = and_parts (gives_member disk entry) (pointwise gives_member disks members) given in
    let first : disk.reference ≡ entry.0 = eqb-true disk.reference entry.0 (first_of disk entry parts.0) in
    let rest = given_references disks members parts.1 in
    rw (first, rest) refl
  where
    first_of : (one : DiskEntry) (of : ℕ × Member) → gives_member one of ≡ true → eqb one.reference of.0 ≡ true
    first_of one of gives = by (eqb one.reference of.0) gives
      where
        by : (same : Bool) → (same && bytes_eq one.guid of.1.guid && eqb one.size of.1.size && same_flag (is_missing one) of.1.missing) ≡ true → same ≡ true
        by true e = refl
        by false e = absurd (false≢true e)

module _ (group : List ℕ) {D : Type 0} (state : BayState D) (left : List Bool) (newest : List (Option Newest))
    (long : length left ≡ length state.sizes) (is : newest ≡ newest_from state 0 left)
    (past : Past (groups group)) (counted : past.slots ≡ length state.sizes) (kept : IsKept past (scene_of state.sizes state.held))
    (may : IsReadable past (scene_of state.sizes state.held) (is_read left)) (member : HasMember past (scene_of state.sizes state.held) (is_read left))
    (named : Option (List ℕ)) (found : GroupValue) (at : group_of newest named ≡ Ok found) (own : found.config.group ≡ group) where
  -- Its configuration is what the copy of a leader shows, which names each disk once.
  found_apart : IsDistinct nat_eq (references found.config.members)
  found_apart =
      let assembled = assembled_kept group state left newest long is past counted kept may member named found at own in
      let read = read_as (groups group) (groups_are_sound group) past (scene_of state.sizes state.held) kept (is_read left) may member found.config assembled.is_read in
      let on = read.4 in
      let same : on.config ≡ found.config = same_number on.number read.0 on.config found.config on.since read.1 read.5 in
      let shown = shown_from on.config on.copy on.shows.shows in
      subst (λ (config : Configuration). IsDistinct nat_eq (references config.members)) same
      (subst (λ (all : List ℕ). IsDistinct nat_eq all) (given_references on.copy.disks on.config.members shown.members) on.shows.names.references)

  recovered_apart : IsDistinct nat_eq (references (config_recovered found).members)
  unfolding config_recovered
  recovered_apart = by (some found.absent)
    where
      by : (absent : Bool) → IsDistinct nat_eq (references (if absent then config_lost found else found.config).members)
      by true = distinct_changed (λ (reference : ℕ) (one : Member). Some (member_after found.config (loss found) reference one)) nat_eq found.config.members found_apart
      by false = found_apart

  pub members_apart : (i j : ℕ) (one other : ℕ × Member) → slice_get (config_recovered found).members i ≡ Some one → slice_get (config_recovered found).members j ≡ Some other → one.0 ≡ other.0 → one ≡ other
  members_apart = own_references (config_recovered found) recovered_apart
