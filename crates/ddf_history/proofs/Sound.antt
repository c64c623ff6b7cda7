-- What the definitions of a group owe to the laws of histories.
use Rattle.std.proofs.Common.{◌≡◌, ℕ, Bool, true, not, ◌&&◌, eqb, List, [], ◌∷◌, Option, Some, refl, ap, sym, ◌∙◌}
use Rattle.std.proofs.lemmas.Bool.{and_parts, true≢false}
use Rattle.std.specs.List.{AllByRecursion}
use Rattle.std.specs.Map.{lookup}
use Rattle.std.specs.Str.{bytes_eq}
use Rattle.ddf_lemmas.proofs.Options.{value_there}
use Rattle.ddf_config.specs.declared.member.Member.{Member}
use Rattle.ddf_config.specs.Configuration.{Configuration}
use Rattle.ddf_view.specs.View.{View}
use Rattle.ddf_view.specs.Reading.{read}
use Rattle.ddf_view.specs.Shows.{shows}
use Rattle.ddf_view.proofs.Agreement.{read_together}
use Rattle.ddf_view.proofs.Tests.{same_bytes}
use Rattle.ddf_history.specs.Reading.{IsSound, Each}
use Rattle.ddf_history.specs.Groups.{Disk, ShowsFully, groups, has_current, has_missing, is_member, read_leaders}
use Rattle.ddf_history.proofs.Differing.{agreeing_list_alike}
use Rattle.ddf_history.proofs.Listed.{current_alike, gives_tables, missing_alike}

-- ---- the members of a configuration

-- the entry of a member
abbrev entry_of : Configuration → (reference : ℕ) → Option Member
entry_of config reference = lookup (λ one. eqb one reference) config.members

-- A disk that is a member has an entry with its GUID.
record HasEntry (test : Member → Bool) (config : Configuration) (disk : Disk) : Type 0 where
  member : Member
  there : entry_of config disk.reference ≡ Some member
  guid : member.guid ≡ disk.guid
  passes : test member ≡ true

-- A disk that is a member has its entry.
has_entry : (test : Member → Bool) (config : Configuration) (disk : Disk) → is_member test config disk ≡ true → HasEntry test config disk
has_entry test config disk is =
    let found = value_there (λ (member : Member). bytes_eq member.guid disk.guid && test member) (entry_of config disk.reference) is in
    let parts = and_parts (bytes_eq found.0.guid disk.guid) (test found.0) found.2 in
    record { member = found.0; there = found.1; guid = same_bytes found.0.guid disk.guid parts.0; passes = parts.1 }

-- No member is current and missing.
not_both : (config : Configuration) (disk : Disk) → has_current config disk ≡ true → has_missing config disk ≡ true → ⊥
not_both config disk current missing =
    let one = has_entry (λ member. not member.missing) config disk current in
    let other = has_entry (λ member. member.missing) config disk missing in
    let both : Some one.member ≡ Some other.member = sym one.there ∙ other.there in
    let same : one.member ≡ other.member = cc in
    true≢false (sym one.passes ∙ ap (λ (member : Member). not member.missing) same ∙ ap not other.passes)

-- A disk by its parts.
make_disk : (guid : List ℕ) (reference : ℕ) → Disk
make_disk guid reference = record { guid = guid; reference = reference }

-- Two current members of one reference are one disk.
one_reference : (config : Configuration) (first second : Disk) → has_current config first ≡ true → has_current config second ≡ true → first.reference ≡ second.reference → first ≡ second
unfolding make_disk
one_reference config first second first_is second_is references =
    let one = has_entry (λ member. not member.missing) config first first_is in
    let other = has_entry (λ member. not member.missing) config second second_is in
    let both : Some one.member ≡ Some other.member = sym one.there ∙ ap (entry_of config) references ∙ other.there in
    let same : one.member ≡ other.member = cc in
    let guids : first.guid ≡ second.guid = sym one.guid ∙ ap (λ (member : Member). member.guid) same ∙ other.guid in
    let made : make_disk first.guid first.reference ≡ make_disk second.guid second.reference = rw (guids, references) refl in
    made

-- ---- what leaders give

-- Leaders that show a configuration fully show it.
all_show : (group : List ℕ) (config : Configuration) (views : List View) → Each (λ view. (bytes_eq group view.group ≡ true) × ShowsFully view config) views → AllByRecursion (λ view. shows config view ≡ true) views
all_show group config [] each = tt
all_show group config (view ∷ views) each = (each.0.1.shows.shows, all_show group config views each.1)

-- Leaders of the group that all show a configuration fully give it.
leaders_give : (group : List ℕ) (view : View) (views : List View) (config : Configuration) → Each (λ one. (bytes_eq group one.group ≡ true) × ShowsFully one config) (view ∷ views) → read_leaders group (view ∷ views) ≡ config
leaders_give group view views config each =
    let first = each.0.1 in
    let tables = gives_tables view config first.shows.shows in
    let groups_same : group ≡ config.group = same_bytes group view.group each.0.0 ∙ tables.group in
    ap (λ (name : List ℕ). read name view.sequence (view ∷ views)) groups_same ∙ ap (λ (n : ℕ). read config.group n (view ∷ views)) tables.sequence
    ∙ read_together config view views first.readable first.notes first.fully (all_show group config views each.1)

-- ---- all

-- The definitions of a group give what a reading owes.
pub groups_are_sound : (group : List ℕ) → IsSound (groups group)
groups_are_sound group = record {
  fully_shows = λ copy config full. full.shows;
  same_sequence = λ copy config shown. (gives_tables copy config shown.shows).sequence;
  same_current = λ copy config disk shown. current_alike copy config disk shown;
  same_missing = λ copy config disk shown. missing_alike copy config disk shown;
  not_both = not_both;
  one_reference = one_reference;
  differ = λ one other config disk shown misses lists agree. agreeing_list_alike one other disk.guid disk.reference shown.names.references agree misses lists;
  reads = leaders_give group;
}
