-- The current members of a configuration, before and after a change, and in views that show it.
use Rattle.std.proofs.Common.{◌≡◌, ℕ, zero, suc, Bool, true, false, not, ◌&&◌, eqb, nat_eq, cond, List, [], ◌∷◌, Option, Some, None, refl, ap, sym, ◌∙◌}
use Rattle.std.proofs.lemmas.Bool.{and_parts, eq-eqb, eqb-true, false≢true}
use Rattle.std.specs.Prelude.{slice_get}
use Rattle.std.specs.Map.{lookup}
use Rattle.std.specs.Option.{option_map_or}
use Rattle.std.specs.Str.{bytes_eq}
use Rattle.std.specs.Cmp.Lexicographic.{pointwise}
use Rattle.ddf_lemmas.proofs.Lists.{bytes_same, found_place, mapped_at, some_found}
use Rattle.ddf_lemmas.proofs.Options.{value_there}
use Rattle.ddf_tables.specs.declared.disks.DiskEntry.{DiskEntry}
use Rattle.ddf_config.specs.declared.member.Member.{Member}
use Rattle.ddf_config.specs.Configuration.{Configuration}
use Rattle.ddf_config.specs.Entries.{changed_entries}
use Rattle.ddf_config.specs.Members.{is_current}
use Rattle.ddf_plan.specs.declared.change.Change.{Change}
use Rattle.ddf_plan.specs.Members.{member_after, members_after}
use Rattle.ddf_plan.proofs.Kept.{missing_stays}
use Rattle.ddf_view.specs.Reading.{member_entry_in, member_in, read}
use Rattle.ddf_view.specs.Shows.{gives_member, same_flag, shows}
use Rattle.ddf_view.specs.View.{View, entry_in, is_missing, lists_current, lists_missing}
use Rattle.ddf_view.proofs.Agreement.{shown_from}
use Rattle.ddf_view.proofs.Shown.{flag_same}
use Rattle.ddf_view.proofs.Tests.{and_four, same_bytes}

-- ---- a member

-- A member of this reference and GUID is current.
pub record IsCurrentIn (members : List (ℕ × Member)) (guid : List ℕ) (reference : ℕ) : Type 0 where
  pub place : ℕ
  pub member : Member
  pub at : slice_get members place ≡ Some (reference, member)
  pub same_guid : member.guid ≡ guid
  pub is_here : member.missing ≡ false

-- Each reference is of one member.
abbrev pub AreApart : List (ℕ × Member) → Type 0
AreApart members = (i j : ℕ) (one other : ℕ × Member) → slice_get members i ≡ Some one → slice_get members j ≡ Some other → one.0 ≡ other.0 → one ≡ other

-- ---- views

-- Of two lists that match the second has an item at each place of the first.
pair_right : {X Y : Type 0} (m : X → Y → Bool) (xs : List X) (ys : List Y) → pointwise m xs ys ≡ true → (i : ℕ) (x : X) → slice_get xs i ≡ Some x → (y : Y) × (slice_get ys i ≡ Some y) × (m x y ≡ true)
pair_right m [] ys h i x at = absurd cc
pair_right m (x' ∷ xs) [] h i x at = absurd (false≢true h)
pair_right m (x' ∷ xs) (y ∷ ys) h zero x at =
    let same : x' ≡ x = cc in
    (y, refl, ap (λ z. m z y) (sym same) ∙ (and_parts (m x' y) (pointwise m xs ys) h).0)
pair_right m (x' ∷ xs) (y ∷ ys) h (suc i) x at = pair_right m xs ys (and_parts (m x' y) (pointwise m xs ys) h).1 i x at

-- The first has one at each of the second.
pair_left : {X Y : Type 0} (m : X → Y → Bool) (xs : List X) (ys : List Y) → pointwise m xs ys ≡ true → (i : ℕ) (y : Y) → slice_get ys i ≡ Some y → (x : X) × (slice_get xs i ≡ Some x) × (m x y ≡ true)
pair_left m xs [] h i y at = absurd cc
pair_left m [] (y' ∷ ys) h i y at = absurd (false≢true h)
pair_left m (x ∷ xs) (y' ∷ ys) h zero y at =
    let same : y' ≡ y = cc in
    (x, refl, ap (λ z. m x z) (sym same) ∙ (and_parts (m x y') (pointwise m xs ys) h).0)
pair_left m (x ∷ xs) (y' ∷ ys) h (suc i) y at = pair_left m xs ys (and_parts (m x y') (pointwise m xs ys) h).1 i y at

-- What an entry and its member have in common.
record AreAlike (disk : DiskEntry) (entry : ℕ × Member) : Type 0 where
  same_reference : disk.reference ≡ entry.0
  same_guid : disk.guid ≡ entry.1.guid
  same_missing : is_missing disk ≡ entry.1.missing

are_alike : (disk : DiskEntry) (entry : ℕ × Member) → gives_member disk entry ≡ true → AreAlike disk entry
are_alike disk entry h =
    let given = and_four (eqb disk.reference entry.0) (bytes_eq disk.guid entry.1.guid) (eqb disk.size entry.1.size) (same_flag (is_missing disk) entry.1.missing) h in
    record { same_reference = eqb-true disk.reference entry.0 given.0; same_guid = same_bytes disk.guid entry.1.guid given.1; same_missing = flag_same (is_missing disk) entry.1.missing given.3 }

-- An entry is that of a disk.
abbrev is_entry : (guid : List ℕ) → (reference : ℕ) → DiskEntry → Bool
is_entry guid reference disk = eqb disk.reference reference && bytes_eq disk.guid guid

-- What a view lists as current is a current member of the configuration that it shows.
pub current_from : (config : Configuration) (view : View) (guid : List ℕ) (reference : ℕ) → shows config view ≡ true → lists_current view guid reference ≡ true → IsCurrentIn config.members guid reference
unfolding lists_current
current_from config view guid reference shown listed =
    let there = value_there (λ disk. not (is_missing disk)) (entry_in view guid reference) listed in
    let place = found_place (is_entry guid reference) view.disks there.0 there.1 in
    let own = and_parts (eqb there.0.reference reference) (bytes_eq there.0.guid guid) place.2 in
    let pair = pair_right gives_member view.disks config.members (shown_from config view shown).members place.0 there.0 place.1 in
    let alike = are_alike there.0 pair.0 pair.2 in
    let references : pair.0.0 ≡ reference = sym alike.same_reference ∙ eqb-true there.0.reference reference own.0 in
    record {
      place = place.0;
      member = pair.0.1;
      at = pair.1 ∙ ap (λ (n : ℕ). Some (n, pair.0.1)) references;
      same_guid = sym alike.same_guid ∙ same_bytes there.0.guid guid own.1;
      is_here = sym alike.same_missing ∙ not_true (is_missing there.0) there.2;
    }
  where
    not_true : (b : Bool) → not b ≡ true → b ≡ false
    not_true true h = absurd cc
    not_true false h = refl

-- What the first view lists as current is a current member of the configuration that views give.
pub read_current : (group : List ℕ) (sequence : ℕ) (first : View) (rest : List View) (guid : List ℕ) (reference : ℕ) → lists_current first guid reference ≡ true
    → IsCurrentIn (read group sequence (first ∷ rest)).members guid reference
unfolding lists_current read
read_current group sequence first rest guid reference listed =
    let there = value_there (λ disk. not (is_missing disk)) (entry_in first guid reference) listed in
    let place = found_place (is_entry guid reference) first.disks there.0 there.1 in
    let own = and_parts (eqb there.0.reference reference) (bytes_eq there.0.guid guid) place.2 in
    let member = member_in (first ∷ rest) there.0 in
    record {
      place = place.0;
      member = member;
      at = mapped_at (member_entry_in (first ∷ rest)) first.disks place.0 there.0 place.1 ∙ ap (λ (n : ℕ). Some (n, member)) (eqb-true there.0.reference reference own.0);
      same_guid = same_bytes there.0.guid guid own.1;
      is_here = not_true (is_missing there.0) there.2;
    }
  where
    not_true : (b : Bool) → not b ≡ true → b ≡ false
    not_true true h = absurd cc
    not_true false h = refl

module _ (config : Configuration) (view : View) (guid : List ℕ) (reference : ℕ) (shown : shows config view ≡ true) (apart : AreApart config.members) (current : IsCurrentIn config.members guid reference) where
  -- The entry of a current member isn't missing.
  entry_here : (disk : DiskEntry) × (entry_in view guid reference ≡ Some disk) × (is_missing disk ≡ false)
  entry_here =
      let members = (shown_from config view shown).members in
      let pair = pair_left gives_member view.disks config.members members current.place (reference, current.member) current.at in
      let alike = are_alike pair.0 (reference, current.member) pair.2 in
      let passes : is_entry guid reference pair.0 ≡ true =
      ap (λ b. b && bytes_eq pair.0.guid guid) (eq-eqb pair.0.reference reference alike.same_reference)
      ∙ ap (λ (g : List ℕ). bytes_eq g guid) (alike.same_guid ∙ current.same_guid) ∙ bytes_same guid in
      let found = some_found (is_entry guid reference) view.disks current.place pair.0 pair.1 passes in
      let place = found_place (is_entry guid reference) view.disks found.0 found.1 in
      let own = and_parts (eqb found.0.reference reference) (bytes_eq found.0.guid guid) place.2 in
      let other = pair_right gives_member view.disks config.members members place.0 found.0 place.1 in
      let its = are_alike found.0 other.0 other.2 in
      let same : other.0 ≡ (reference, current.member) =
      apart place.0 current.place other.0 (reference, current.member) other.1 current.at (sym its.same_reference ∙ eqb-true found.0.reference reference own.0) in
      (found.0, found.1, its.same_missing ∙ ap (λ (entry : ℕ × Member). entry.1.missing) same ∙ current.is_here)

  -- A view lists each current member of the configuration that it shows as current.
  pub lists_from : lists_current view guid reference ≡ true
  unfolding lists_current
  lists_from = ap (λ (found : Option DiskEntry). option_map_or (λ disk. not (is_missing disk)) found false) entry_here.1 ∙ ap not entry_here.2

  -- It lists none of them as missing.
  pub none_missing_from : lists_missing view guid reference ≡ false
  unfolding lists_missing
  none_missing_from = ap (λ (found : Option DiskEntry). option_map_or is_missing found false) entry_here.1 ∙ entry_here.2

-- ---- a change

module _ (made : ℕ → Member → Member) (same_guid : (k : ℕ) (m : Member) → (made k m).guid ≡ m.guid) (stays : (k : ℕ) (m : Member) → (made k m).missing ≡ false → m.missing ≡ false) where
  abbrev all_made : List (ℕ × Member) → List (ℕ × Member)
  all_made members = changed_entries (λ k m. Some (made k m)) members

  made_get : (members : List (ℕ × Member)) (i : ℕ) (entry : ℕ × Member) → slice_get (all_made members) i ≡ Some entry → (m : Member) × (slice_get members i ≡ Some (entry.0, m)) × (entry.1 ≡ made entry.0 m)
  made_get [] i entry at = absurd cc
  made_get (e ∷ es) zero entry at =
      let same : (e.0, made e.0 e.1) ≡ entry = cc in
      let key : e.0 ≡ entry.0 = ap (λ (one : ℕ × Member). one.0) same in
      (e.1, ap (λ (n : ℕ). Some (n, e.1)) key, sym (ap (λ (one : ℕ × Member). one.1) same) ∙ ap (λ (n : ℕ). made n e.1) key)
  made_get (e ∷ es) (suc i) entry at = made_get es i entry at

  get_made : (members : List (ℕ × Member)) (i : ℕ) (entry : ℕ × Member) → slice_get members i ≡ Some entry → slice_get (all_made members) i ≡ Some (entry.0, made entry.0 entry.1)
  get_made [] i entry at = absurd cc
  get_made (e ∷ es) zero entry at = let same : e ≡ entry = cc in ap (λ (one : ℕ × Member). Some (one.0, made one.0 one.1)) same
  get_made (e ∷ es) (suc i) entry at = get_made es i entry at

  made_before : (members : List (ℕ × Member)) (guid : List ℕ) (reference : ℕ) → IsCurrentIn (all_made members) guid reference → IsCurrentIn members guid reference
  made_before members guid reference is =
      let own = made_get members is.place (reference, is.member) is.at in
      record {
        place = is.place;
        member = own.0;
        at = own.1;
        same_guid = sym (same_guid reference own.0) ∙ sym (ap (λ (m : Member). m.guid) own.2) ∙ is.same_guid;
        is_here = stays reference own.0 (sym (ap (λ (m : Member). m.missing) own.2) ∙ is.is_here);
      }

  -- a member whose entry then isn't missing is current then
  made_after : (members : List (ℕ × Member)) (guid : List ℕ) (reference : ℕ) → IsCurrentIn members guid reference
      → ((place : ℕ) (member : Member) → slice_get (all_made members) place ≡ Some (reference, member) → member.missing ≡ false) → IsCurrentIn (all_made members) guid reference
  made_after members guid reference is here =
      let at = get_made members is.place (reference, is.member) is.at in
      record { place = is.place; member = made reference is.member; at = at; same_guid = same_guid reference is.member ∙ is.same_guid; is_here = here is.place (made reference is.member) at }

-- A current member after a change was one before.
pub was_current : (config : Configuration) (change : Change) (guid : List ℕ) (reference : ℕ) → IsCurrentIn (members_after config change) guid reference → IsCurrentIn config.members guid reference
was_current config change guid reference is = made_before (member_after config change) (λ k m. refl) (missing_stays config change) config.members guid reference is

-- A current member whose entry isn't missing after a change is one then.
still_current : (config : Configuration) (change : Change) (guid : List ℕ) (reference : ℕ) → IsCurrentIn config.members guid reference
    → ((place : ℕ) (member : Member) → slice_get (members_after config change) place ≡ Some (reference, member) → member.missing ≡ false) → IsCurrentIn (members_after config change) guid reference
still_current config change guid reference is here = made_after (member_after config change) (λ k m. refl) (missing_stays config change) config.members guid reference is here

-- ---- the table's own test

-- What is looked up of a reference is an entry of it.
looked_up : (members : List (ℕ × Member)) (reference : ℕ) (member : Member) → lookup (nat_eq reference) members ≡ Some member → (i : ℕ) × (slice_get members i ≡ Some (reference, member))
looked_up [] reference member h = absurd cc
looked_up (e ∷ es) reference member h = by (nat_eq reference e.0) refl (looked_up es reference member) h
  where
    by : (b : Bool) → nat_eq reference e.0 ≡ b → (lookup (nat_eq reference) es ≡ Some member → (i : ℕ) × (slice_get es i ≡ Some (reference, member)))
        → cond b (Some e.1) (lookup (nat_eq reference) es) ≡ Some member → (i : ℕ) × (slice_get (e ∷ es) i ≡ Some (reference, member))
    by true is later at =
        let key : e.0 ≡ reference = sym (eqb-true reference e.0 is) in
        let value : e.1 ≡ member = cc in
        (0, ap (λ (n : ℕ). Some (n, e.1)) key ∙ ap (λ (m : Member). Some (reference, m)) value)
    by false is later at = let found = later at in (suc found.0, found.1)

-- An entry of a reference is looked up, or one before it.
look_up : (members : List (ℕ × Member)) (reference i : ℕ) (member : Member) → slice_get members i ≡ Some (reference, member) → (m : Member) × (lookup (nat_eq reference) members ≡ Some m)
look_up [] reference i member at = absurd cc
look_up (e ∷ es) reference i member at = by (λ k later. look_up es reference k member later) i at (nat_eq reference e.0) refl
  where
    by : ((k : ℕ) → slice_get es k ≡ Some (reference, member) → (m : Member) × (lookup (nat_eq reference) es ≡ Some m)) → (k : ℕ) → slice_get (e ∷ es) k ≡ Some (reference, member)
        → (b : Bool) → nat_eq reference e.0 ≡ b → (m : Member) × (lookup (nat_eq reference) (e ∷ es) ≡ Some m)
    by rest k at true is = (e.1, ap (λ b. cond b (Some e.1) (lookup (nat_eq reference) es)) is)
    by rest zero at false is =
        let same : e ≡ (reference, member) = cc in
        let key : reference ≡ e.0 = sym (ap (λ (one : ℕ × Member). one.0) same) in
        absurd (false≢true (sym is ∙ eq-eqb reference e.0 key))
    by rest (suc k) at false is = let later = rest k at in (later.0, ap (λ b. cond b (Some e.1) (lookup (nat_eq reference) es)) is ∙ later.1)

-- A current member is current in the table.
pub table_current : (members : List (ℕ × Member)) (guid : List ℕ) (reference : ℕ) → AreApart members → IsCurrentIn members guid reference → is_current members reference ≡ true
table_current members guid reference apart is =
    let found = look_up members reference is.place is.member is.at in
    let own = looked_up members reference found.0 found.1 in
    let same = apart own.0 is.place (reference, found.0) (reference, is.member) own.1 is.at refl in
    let here : found.0.missing ≡ false = ap (λ (entry : ℕ × Member). entry.1.missing) same ∙ is.is_here in
    ap (λ (one : Option Member). elim one [ None ↦ false | Some member ↦ not member.missing ]) found.1 ∙ ap not here

-- Of a reference that is current in the table each entry is there.
entries_here : (members : List (ℕ × Member)) (reference : ℕ) → AreApart members → is_current members reference ≡ true → (place : ℕ) (member : Member) → slice_get members place ≡ Some (reference, member) → member.missing ≡ false
entries_here members reference apart current place member at =
    let found = look_up members reference place member at in
    let own = looked_up members reference found.0 found.1 in
    let same = apart own.0 place (reference, found.0) (reference, member) own.1 at refl in
    let here : not found.0.missing ≡ true = sym (ap (λ (one : Option Member). elim one [ None ↦ false | Some m ↦ not m.missing ]) found.1) ∙ current in
    sym (ap (λ (entry : ℕ × Member). entry.1.missing) same) ∙ not_true found.0.missing here
  where
    not_true : (b : Bool) → not b ≡ true → b ≡ false
    not_true true h = absurd cc
    not_true false h = refl

-- A current member that is current in the table after a change is a current member then.
pub stays_current : (config : Configuration) (change : Change) (guid : List ℕ) (reference : ℕ) → AreApart (members_after config change) → IsCurrentIn config.members guid reference
    → is_current (members_after config change) reference ≡ true → IsCurrentIn (members_after config change) guid reference
stays_current config change guid reference apart is current =
    still_current config change guid reference is (λ place member at. entries_here (members_after config change) reference apart current place member at)
