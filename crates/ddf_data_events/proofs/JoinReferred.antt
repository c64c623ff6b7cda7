-- The members to which the arrays of a configuration refer stay as they are where another group's join it.
use Rattle.std.proofs.Common.{◌≡◌, ◌∙◌, ℕ, zero, suc, Bool, true, false, not, ◌&&◌, ◌||◌, nat_eq, List, [], ◌∷◌, ◌++◌, map, Option, Some, None, cond, slice_get, if◌then◌else◌, refl, ap, sym, subst}
use Rattle.std.proofs.lemmas.Bool.{eq-eqb, eqb-true, false≢true}
use Rattle.std.proofs.Math.Path.{fun_ext}
use Rattle.std.specs.Prelude.{is_some, option_map}
use Rattle.std.specs.Map.{lookup}
use Rattle.std.specs.Option.{option_map_or}
use Rattle.std.specs.Str.{bytes_eq}
use Rattle.ddf_config.specs.declared.array.Array.{Array}
use Rattle.ddf_config.specs.declared.element.Position.{Position}
use Rattle.ddf_config.specs.declared.member.Member.{Member}
use Rattle.ddf_config.specs.declared.refusal.Refusal.{Refusal}
use Rattle.ddf_config.specs.declared.refusal.Refusal.TheVariants.{Clash, NameTaken}
use Rattle.ddf_config.specs.Configuration.{Configuration}
use Rattle.ddf_config.specs.ElementValue.{ElementValue}
use Rattle.ddf_config.specs.Entries.{changed_entries}
use Rattle.ddf_config.specs.Extents.{array_extents, extent, extents, part_extents}
use Rattle.ddf_config.specs.Members.{is_current, same_guid}
use Rattle.ddf_config.specs.Refusals.{first_refusal, refuse_if}
use Rattle.ddf_config.proofs.Entries.{absent_changed}
use Rattle.ddf_config.proofs.Firsts.{all_pass}
use Rattle.ddf_plan.specs.Spare.{array_refers, holds_extent, part_refers, position_refers}
use Rattle.ddf_import.specs.Clash.{array_clash, bound, bound_in, disk_clash, join_cause, takes_name}
use Rattle.ddf_import.specs.Joined.{kept_member, kept_members, members_joined, stays}
use Rattle.ddf_array.proofs.Consistent.{to_flat}
use Rattle.ddf_history.specs.Groups.{Disk, has_current}
use Rattle.ddf_import.proofs.Apart.{members_fresh}
use Rattle.std.specs.List.{AllByRecursion}
use Rattle.std.proofs.lemmas.Map.Keys.{any_passes_from_place}
use Rattle.ddf_lemmas.proofs.Lists.{last_found, mapped_at}

-- ---- look-ups

-- Among entries of which those that pass are kept, what is found is what was.
kept_found : {X : Type 0} (keeps : ℕ → X → Bool) (test : ℕ → Bool) (entries : List (ℕ × X)) → ((key : ℕ) (x : X) → test key ≡ true → keeps key x ≡ true)
    → lookup test (changed_entries (λ key x. if keeps key x then Some x else None) entries) ≡ lookup test entries
kept_found keeps test [] all = refl
kept_found {X = X} keeps test (entry ∷ entries) all = go (kept_found keeps test entries all) (test entry.0) refl (keeps entry.0 entry.1) refl
  where
    go : lookup test (changed_entries (λ key x. if keeps key x then Some x else None) entries) ≡ lookup test entries → (b : Bool) → test entry.0 ≡ b → (k : Bool) → keeps entry.0 entry.1 ≡ k
        → lookup test (changed_entries (λ key x. if keeps key x then Some x else None) (entry ∷ entries)) ≡ lookup test (entry ∷ entries)
    go rest true is true stay = rw (stay, is) refl
    go rest true is false stay = absurd (false≢true (sym stay ∙ all entry.0 entry.1 is))
    go rest false is true stay = rw (stay, is) rest
    go rest false is false stay = rw (stay, is) rest

-- Before entries of which none is found what is found is what was.
first_found : {X : Type 0} (test : ℕ → Bool) (entries others : List (ℕ × X)) → lookup test others ≡ None → lookup test (entries ++ others) ≡ lookup test entries
first_found test [] others none = none
first_found {X = X} test (entry ∷ entries) others none = ap (cond (test entry.0) (Some entry.1)) (first_found test entries others none)

-- Where each entry has another key none is found.
none_found : {X : Type 0} (reference : ℕ) (P : ℕ → Type 0) (entries : List (ℕ × X)) → AllByRecursion (λ (entry : ℕ × X). P entry.0) entries → (P reference → ⊥) → lookup (nat_eq reference) entries ≡ None
none_found reference P [] all never = refl
none_found {X = X} reference P (entry ∷ entries) all never = go (none_found reference P entries all.1 never) (nat_eq reference entry.0) refl
  where
    go : lookup (nat_eq reference) entries ≡ None → (b : Bool) → nat_eq reference entry.0 ≡ b → cond b (Some entry.1) (lookup (nat_eq reference) entries) ≡ None
    go later true same = absurd (never (subst P (sym (eqb-true reference entry.0 same)) all.0))
    go later false differs = later

-- Where one is found its key is that of an entry.
found_has : {X : Type 0} (reference : ℕ) (P : ℕ → Type 0) (entries : List (ℕ × X)) (x : X) → lookup (nat_eq reference) entries ≡ Some x → AllByRecursion (λ (entry : ℕ × X). P entry.0) entries → P reference
found_has reference P [] x found all = absurd cc
found_has {X = X} reference P (entry ∷ entries) x found all = go (λ later. found_has reference P entries x later all.1) (nat_eq reference entry.0) refl found
  where
    go : (lookup (nat_eq reference) entries ≡ Some x → P reference) → (b : Bool) → nat_eq reference entry.0 ≡ b → cond b (Some entry.1) (lookup (nat_eq reference) entries) ≡ Some x → P reference
    go later true same here = subst P (sym (eqb-true reference entry.0 same)) all.0
    go later false differs there = later there

-- Where none of a list's items is refused one isn't.
passes : {X : Type 0} (f : X → Option Refusal) (xs : List X) → first_refusal (map f xs) ≡ None → (k : ℕ) (x : X) → slice_get xs k ≡ Some x → f x ≡ None
passes f [] none k x at = absurd cc
passes {X = X} f (first ∷ xs) none zero x at = let same : first ≡ x = cc in ap f (sym same) ∙ all_pass [] (f first) (map f xs) none
passes {X = X} f (first ∷ xs) none (suc k) x at = go (λ rest. passes f xs rest k x at) (f first) none
  where
    go : (first_refusal (map f xs) ≡ None → f x ≡ None) → (one : Option Refusal) → first_refusal (one ∷ map f xs) ≡ None → f x ≡ None
    go later None rest = later rest
    go later (Some refusal) rest = absurd cc

-- ---- a reference of a position

-- A position of one of the arrays is on this reference.
pub record IsReferredTo (config : Configuration) (reference : ℕ) : Type 0 where
  pub place : ℕ
  pub entry : List ℕ × Array
  pub is_entry : slice_get config.arrays place ≡ Some entry
  pub number : ℕ
  pub element : ElementValue
  pub is_element : slice_get entry.1.elements number ≡ Some (Some element)
  pub at : ℕ
  pub position : Position
  pub is_position : slice_get element.positions at ≡ Some position
  pub is_on : position.reference ≡ reference

-- An array that is found stands in the table.
found_at : (test : List ℕ → Bool) (arrays : List (List ℕ × Array)) (array : Array) → lookup test arrays ≡ Some array
    → (place : ℕ) × (entry : List ℕ × Array) × (slice_get arrays place ≡ Some entry) × (entry.1 ≡ array)
found_at test [] array found = absurd cc
found_at test (entry ∷ arrays) array found = go (λ later. found_at test arrays array later) (test entry.0) found
  where
    go : (lookup test arrays ≡ Some array → (place : ℕ) × (one : List ℕ × Array) × (slice_get arrays place ≡ Some one) × (one.1 ≡ array))
        → (b : Bool) → cond b (Some entry.1) (lookup test arrays) ≡ Some array → (place : ℕ) × (one : List ℕ × Array) × (slice_get (entry ∷ arrays) place ≡ Some one) × (one.1 ≡ array)
    go later true here = (0, entry, refl, cc)
    go later false there = let rest = later there in (suc rest.0, rest.1, rest.2, rest.3)

pub is_referred_to : (config : Configuration) (guid : List ℕ) (array : Array) → lookup (same_guid guid) config.arrays ≡ Some array → (k j : ℕ) (element : ElementValue) (position : Position)
    → slice_get array.elements k ≡ Some (Some element) → slice_get element.positions j ≡ Some position → IsReferredTo config position.reference
is_referred_to config guid array found k j element position at there =
    let from = found_at (same_guid guid) config.arrays array found in
    record {
      place = from.0;
      entry = from.1;
      is_entry = from.2;
      number = k;
      element = element;
      is_element = ap (λ (one : Array). slice_get one.elements k) from.3 ∙ at;
      at = j;
      position = position;
      is_position = there;
      is_on = refl;
    }

-- Where a reference of a position isn't among the members, it isn't among those that join either.
unbound : (config other : Configuration) (reference : ℕ) → IsReferredTo config reference → bound_in config other ≡ None → lookup (nat_eq reference) config.members ≡ None
    → lookup (nat_eq reference) other.members ≡ None
unbound config other reference referred free none =
    let one = extent referred.element.blocks referred.position in
    let in_element = mapped_at (extent referred.element.blocks) referred.element.positions referred.at referred.position referred.is_position in
    let in_array = to_flat part_extents referred.entry.1.elements referred.number referred.at (Some referred.element) one referred.is_element in_element in
    let in_all = to_flat (λ (entry : List ℕ × Array). array_extents entry.1) config.arrays referred.place in_array.0 referred.entry one referred.is_entry in_array.1 in
    let own_bound : bound config.members other.members one ≡ None = passes (bound config.members other.members) (extents config.arrays) free in_all.0 one in_all.1 in
    subst (λ (n : ℕ). lookup (nat_eq n) other.members ≡ None) referred.is_on
    (by (lookup (nat_eq referred.position.reference) config.members) (ap (λ (n : ℕ). lookup (nat_eq n) config.members) referred.is_on ∙ none) (lookup (nat_eq referred.position.reference) other.members) own_bound)
  where
    by : (own : Option Member) → own ≡ None → (found : Option Member)
        → ◌≡◌ {A = Option Refusal} (if is_some own then None else option_map (λ (member : Member). Clash member.guid) found) None → found ≡ None
    by None is None e = refl
    by None is (Some member) e = absurd cc
    by (Some member) is found e = absurd cc

-- Where a look-up by a reference finds the same of two tables, a disk with it is a current member of both or of none.
by_reference : (members others : List (ℕ × Member)) (reference : ℕ) → lookup (nat_eq reference) members ≡ lookup (nat_eq reference) others → (disk : Disk) → disk.reference ≡ reference
    → option_map_or (λ (member : Member). bytes_eq member.guid disk.guid && not member.missing) (lookup (λ key. nat_eq key disk.reference) members) false
    ≡ option_map_or (λ (member : Member). bytes_eq member.guid disk.guid && not member.missing) (lookup (λ key. nat_eq key disk.reference) others) false
by_reference members others reference found disk same =
    let test : (λ key. nat_eq reference key) ≡ (λ key. nat_eq key disk.reference) = fun_ext (λ key. ap (λ (n : ℕ). nat_eq n key) (sym same) ∙ either disk.reference key) in
    ap (λ (one : Option Member). option_map_or (λ (member : Member). bytes_eq member.guid disk.guid && not member.missing) one false)
    (subst (λ (passes : ℕ → Bool). lookup passes members ≡ lookup passes others) test found)
  where
    either : (a b : ℕ) → nat_eq a b ≡ nat_eq b a
    either a b = go (nat_eq a b) refl (nat_eq b a) refl
      where
        go : (x : Bool) → nat_eq a b ≡ x → (y : Bool) → nat_eq b a ≡ y → nat_eq a b ≡ nat_eq b a
        go true h true t = h ∙ sym t
        go false h false t = h ∙ sym t
        go true h false t = absurd (false≢true (sym t ∙ eq-eqb b a (sym (eqb-true a b h))))
        go false h true t = absurd (false≢true (sym h ∙ eq-eqb a b (sym (eqb-true b a t))))

-- ---- a join

module _ (config joining : Configuration) (free : join_cause config joining ≡ None) (reference : ℕ) where
  -- ---- where an array of the group refers to it

  module _ (referred : IsReferredTo config reference) where
    -- So a position of some array is on the disk,
    holds : holds_extent config reference ≡ true
    holds =
        let on : position_refers reference referred.position ≡ true = eq-eqb referred.position.reference reference referred.is_on in
        let in_part : part_refers reference (Some referred.element) ≡ true = any_passes_from_place (position_refers reference) referred.element.positions referred.at referred.position referred.is_position on in
        let in_array : array_refers reference referred.entry.1 ≡ true = any_passes_from_place (part_refers reference) referred.entry.1.elements referred.number (Some referred.element) referred.is_element in_part in
        any_passes_from_place (λ (entry : List ℕ × Array). array_refers reference entry.1) config.arrays referred.place referred.entry referred.is_entry in_array

    -- and each of its entries stays.
    kept_is : lookup (nat_eq reference) (kept_members config) ≡ lookup (nat_eq reference) config.members
    kept_is = kept_found (stays config) (nat_eq reference) config.members (λ key member same. stays_by key member (eqb-true reference key same))
      where
        stays_by : (key : ℕ) (member : Member) → reference ≡ key → stays config key member ≡ true
        stays_by key member same = by member.missing
          where
            by : (missing : Bool) → (not missing || holds_extent config key) ≡ true
            by true = ap (holds_extent config) (sym same) ∙ holds
            by false = refl

    -- No joining member has the reference.
    none_joins : (found : Option Member) → lookup (nat_eq reference) config.members ≡ found → lookup (nat_eq reference) joining.members ≡ None
    none_joins (Some member) own =
        none_found reference (λ key. lookup (nat_eq key) (kept_members config) ≡ None) joining.members (members_fresh config joining free)
        (λ none. let both : ◌≡◌ {A = Option Member} None (Some member) = sym none ∙ kept_is ∙ own in absurd cc)
    none_joins None none =
        unbound config joining reference referred
        (all_pass (disk_clash config.members joining.members ∷ array_clash config.arrays joining.arrays ∷ []) (bound_in config joining) (bound_in joining config ∷ refuse_if (takes_name config joining) NameTaken ∷ []) free)
        none

    -- So what is found of it is what was,
    member_same : lookup (nat_eq reference) (members_joined config joining) ≡ lookup (nat_eq reference) config.members
    member_same = first_found (nat_eq reference) (kept_members config) joining.members (none_joins (lookup (nat_eq reference) config.members) refl) ∙ kept_is

    pub still_current : is_current (members_joined config joining) reference ≡ is_current config.members reference
    still_current = ap (λ (found : Option Member). elim found [ None ↦ false | Some member ↦ not member.missing ]) member_same

    -- and a disk with this reference is a current member if it was one.
    pub disk_same : (next : Configuration) → next.members ≡ members_joined config joining → (disk : Disk) → disk.reference ≡ reference → has_current next disk ≡ has_current config disk
    disk_same next members disk same =
        by_reference next.members config.members reference (ap (λ (all : List (ℕ × Member)). lookup (nat_eq reference) all) members ∙ member_same) disk same

  -- ---- where an array that joins refers to it

  module _ (referred : IsReferredTo joining reference) where
    -- No member that stays has the reference.
    none_stays : (found : Option Member) → lookup (nat_eq reference) joining.members ≡ found → lookup (nat_eq reference) (kept_members config) ≡ None
    none_stays (Some member) own = found_has reference (λ key. lookup (nat_eq key) (kept_members config) ≡ None) joining.members member own (members_fresh config joining free)
    none_stays None none =
        absent_changed (kept_member config) (nat_eq reference) config.members
        (unbound joining config reference referred
        (all_pass (disk_clash config.members joining.members ∷ array_clash config.arrays joining.arrays ∷ bound_in config joining ∷ []) (bound_in joining config) (refuse_if (takes_name config joining) NameTaken ∷ []) free)
        none)

    -- So what is found of it is what the other group's table had.
    member_theirs : lookup (nat_eq reference) (members_joined config joining) ≡ lookup (nat_eq reference) joining.members
    member_theirs = last_found (nat_eq reference) (kept_members config) joining.members (none_stays (lookup (nat_eq reference) joining.members) refl)

    pub current_theirs : is_current (members_joined config joining) reference ≡ is_current joining.members reference
    current_theirs = ap (λ (found : Option Member). elim found [ None ↦ false | Some member ↦ not member.missing ]) member_theirs

    pub disk_theirs : (next : Configuration) → next.members ≡ members_joined config joining → (disk : Disk) → disk.reference ≡ reference → has_current next disk ≡ has_current joining disk
    disk_theirs next members disk same =
        by_reference next.members joining.members reference (ap (λ (all : List (ℕ × Member)). lookup (nat_eq reference) all) members ∙ member_theirs) disk same
