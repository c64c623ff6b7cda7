-- What a change of one position makes of it, and of the members.
use Rattle.std.proofs.Common.{◌≡◌, ◌∙◌, ℕ, zero, suc, ◌+◌, Bool, true, false, not, cond, List, [], ◌∷◌, map, nat_eq, Option, Some, None, refl, sym, ap, subst, if◌then◌else◌, arith, eq-eqb}
use Rattle.std.proofs.lemmas.Bool.{eqb-true}
use Rattle.std.specs.Prelude.{option_map, slice_get}
use Rattle.std.specs.List.{IsDistinct, enumerate_from}
use Rattle.std.specs.Map.{keys_of, lookup}
use Rattle.ddf_config.specs.declared.array.Array.{Array}
use Rattle.ddf_config.specs.declared.element.Position.{Position}
use Rattle.ddf_config.specs.declared.extent.Extent.{Extent}
use Rattle.ddf_config.specs.declared.member.Member.{Member}
use Rattle.ddf_config.specs.Configuration.{Configuration}
use Rattle.ddf_config.specs.ElementValue.{ElementValue}
use Rattle.ddf_config.specs.Entries.{changed_entries}
use Rattle.ddf_config.specs.Extents.{extents}
use Rattle.ddf_config.specs.Members.{is_current, same_guid}
use Rattle.ddf_config.specs.States.{array_with_low}
use Rattle.ddf_plan.specs.declared.change.Change.{Change}
use Rattle.ddf_plan.specs.declared.change.Change.TheVariants.{Begin, Return}
use Rattle.ddf_plan.specs.Arrays.{array_after, arrays_after, element_after, kept_and_added, named_after, names, part_after, position_after, rebuilding}
use Rattle.ddf_plan.specs.Changes.{changed_at}
use Rattle.ddf_plan.specs.Members.{member_after, members_after}
use Rattle.ddf_plan.specs.Rebuild.{new_position}
use Rattle.ddf_plan.specs.Standing.{takes_revertible}
use Rattle.ddf_repair.proofs.Usable.{both_changed, looked_up, one_after}
use Rattle.ddf_availability.specs.GoneBack.{IsOnDisk}
use Rattle.ddf_availability.proofs.Moves.{moved_position, returned_is, table_is}

-- ---- lists

-- the item that a function makes of a numbered one
pub numbered_get : {X Y : Type 0} (f : (ℕ × X) → Y) (n k : ℕ) (xs : List X) (x : X) → slice_get xs k ≡ Some x → slice_get (map f (enumerate_from n xs)) k ≡ Some (f (n + k, x))
numbered_get f n k [] x at = absurd cc
numbered_get {X} {Y} f n zero (y ∷ xs) x at =
    let same : y ≡ x = cc in
    let number : n ≡ n + 0 = omega arith in
    ap (λ (one : X). Some (f (n, one))) same ∙ ap (λ (k : ℕ). Some (f (k, x))) number
numbered_get {X} {Y} f n (suc k) (y ∷ xs) x at =
    let number : n + 1 + k ≡ n + suc k = omega arith in
    numbered_get f (n + 1) k xs x at ∙ ap (λ (k : ℕ). Some (f (k, x))) number

pub keys_stay : {K X : Type 0} (g : K → X → X) (es : List (K × X)) → keys_of (changed_entries (λ k x. Some (g k x)) es) ≡ keys_of es
keys_stay g [] = refl
keys_stay g (e ∷ es) = ap (λ keys. e.0 ∷ keys) (keys_stay g es)

-- ---- the position

module _ (config : Configuration) (change : Change) (guid : List ℕ) (element position : ℕ) (all : List Extent)
    (table : arrays_after config change ≡ changed_entries (λ g a. Some (one_after config change all g a)) config.arrays)
    (names_it : (key : List ℕ) → names change key ≡ same_guid guid key)
    (rebuilds : (revertible : Bool) (array : Array) → named_after revertible change array ≡ rebuilding revertible change element array) where
  -- It is what the change makes of it.
  pub on_after : (sequence reference : ℕ) (new : Position) (before : IsOnDisk config guid element position reference) → position_after change (0 + position) before.held ≡ new
      → (after : IsOnDisk (changed_at config change sequence) guid element position new.reference) × (after.held ≡ new) × (after.plan.blocks ≡ before.plan.blocks)
  on_after sequence reference new before is =
      let found = looked_up (one_after config change all) (same_guid guid) config.arrays before.array before.is_array in
      let own : names change found.0 ≡ true = names_it found.0 ∙ found.1 in
      let plan = element_after (takes_revertible config change) change before.plan in
      let same : element ≡ 0 + element = omega arith in
      let here : (if nat_eq element (0 + element) then option_map (element_after (takes_revertible config change) change) (Some before.plan) else Some before.plan) ≡ Some plan =
      ap (λ (b : Bool). if b then Some plan else Some before.plan) (eq-eqb element (0 + element) same) in
      let there : slice_get (one_after config change all found.0 before.array).elements element ≡ Some (Some plan) =
      ap (λ (b : Bool). slice_get (if b then named_after (takes_revertible config change) change before.array else before.array).elements element) own
      ∙ ap (λ (one : Array). slice_get one.elements element) (rebuilds (takes_revertible config change) before.array)
      ∙ numbered_get (part_after (takes_revertible config change) change element) 0 element before.array.elements (Some before.plan) before.is_plan
      ∙ ap (λ (part : Option ElementValue). Some part) here in
      let at : slice_get plan.positions position ≡ Some new =
      numbered_get (λ (pair : ℕ × Position). position_after change pair.0 pair.1) 0 position before.plan.positions before.held before.is_held ∙ ap (λ (one : Position). Some one) is in (
        record {
          array = one_after config change all found.0 before.array;
          plan = plan;
          held = new;
          is_array = ap (lookup (same_guid guid)) table ∙ found.2;
          is_plan = there;
          is_held = at;
          is_there = refl;
        },
        refl,
        refl,
      )

  pub still_distinct : (sequence : ℕ) → IsDistinct same_guid (keys_of config.arrays) → IsDistinct same_guid (keys_of (changed_at config change sequence).arrays)
  still_distinct sequence apart = subst (λ (keys : List (List ℕ)). IsDistinct same_guid keys) (sym (ap (λ (es : List (List ℕ × Array)). keys_of es) table ∙ keys_stay (one_after config change all) config.arrays)) apart

module _ (config : Configuration) (guid : List ℕ) (element position : ℕ) where
  begun_by : (b : Bool) (reference start : ℕ) (old : Position) → b ≡ true → (if b then new_position reference start else old) ≡ new_position reference start
  begun_by true reference start old is = refl
  begun_by false reference start old is = absurd cc

  -- a rebuild begins
  pub begun_table : (reference start : ℕ) → arrays_after config (Begin guid element position reference start)
      ≡ changed_entries (λ g a. Some (one_after config (Begin guid element position reference start) (extents (kept_and_added config (Begin guid element position reference start))) g a)) config.arrays
  begun_table reference start =
      both_changed (λ g. array_with_low (members_after config (Begin guid element position reference start)) (extents (kept_and_added config (Begin guid element position reference start))))
      (array_after (takes_revertible config (Begin guid element position reference start)) (members_after config (Begin guid element position reference start)) (Begin guid element position reference start)) config.arrays

  pub on_begun : (old reference start sequence : ℕ) → IsOnDisk config guid element position old → IsOnDisk (changed_at config (Begin guid element position reference start) sequence) guid element position reference
  on_begun old reference start sequence before =
      (on_after config (Begin guid element position reference start) guid element position (extents (kept_and_added config (Begin guid element position reference start))) (begun_table reference start)
      (λ key. refl) (λ revertible array. refl) sequence old (new_position reference start) before
      (begun_by (nat_eq position (0 + position)) reference start before.held (eq-eqb position (0 + position) (omega arith)))).0

  pub begun_distinct : (reference start sequence : ℕ) → IsDistinct same_guid (keys_of config.arrays) → IsDistinct same_guid (keys_of (changed_at config (Begin guid element position reference start) sequence).arrays)
  begun_distinct reference start sequence =
      still_distinct config (Begin guid element position reference start) guid element position (extents (kept_and_added config (Begin guid element position reference start))) (begun_table reference start)
      (λ key. refl) (λ revertible array. refl) sequence

  -- it goes to another disk
  pub on_returned : (old disk start sequence : ℕ) (before : IsOnDisk config guid element position old)
      → (after : IsOnDisk (changed_at config (Return guid element position disk start) sequence) guid element position disk) × (after.held ≡ moved_position disk start) × (after.plan.blocks ≡ before.plan.blocks)
  on_returned old disk start sequence before =
      on_after config (Return guid element position disk start) guid element position (extents (kept_and_added config (Return guid element position disk start))) (table_is guid element position disk start config)
      (λ key. refl) (λ revertible array. refl) sequence old (moved_position disk start) before
      (returned_is position disk start (0 + position) before.held
      ∙ ap (λ (b : Bool). if b then moved_position disk start else before.held) (eq-eqb position (0 + position) (omega arith)))

-- ---- members

found_by : (g : ℕ → Member → Member) (es : List (ℕ × Member)) (reference : ℕ) (member : Member) → lookup (nat_eq reference) es ≡ Some member
    → lookup (nat_eq reference) (changed_entries (λ k m. Some (g k m)) es) ≡ Some (g reference member)
found_by g [] reference member h = absurd cc
found_by g (e ∷ es) reference member h = by (nat_eq reference e.0) refl h (found_by g es reference member)
  where
    by : (b : Bool) → nat_eq reference e.0 ≡ b → cond b (Some e.1) (lookup (nat_eq reference) es) ≡ Some member
        → (lookup (nat_eq reference) es ≡ Some member → lookup (nat_eq reference) (changed_entries (λ k m. Some (g k m)) es) ≡ Some (g reference member))
        → cond b (Some (g e.0 e.1)) (lookup (nat_eq reference) (changed_entries (λ k m. Some (g k m)) es)) ≡ Some (g reference member)
    by true is h rest =
        let key : e.0 ≡ reference = (let same = eqb-true reference e.0 is in sym same) in
        let own : e.1 ≡ member = cc in
        ap (λ (k : ℕ). Some (g k e.1)) key ∙ ap (λ (m : Member). Some (g reference m)) own
    by false is h rest = rest h

-- a member is what the change makes of it
pub member_found : (config : Configuration) (change : Change) (reference : ℕ) (member : Member) → lookup (nat_eq reference) config.members ≡ Some member
    → lookup (nat_eq reference) (members_after config change) ≡ Some (member_after config change reference member)
member_found config change reference member h = found_by (member_after config change) config.members reference member h

-- no disk is lost where a position goes to another one
current_by : (g : ℕ → Member → Member) → ((k : ℕ) (m : Member) → (g k m).missing ≡ m.missing) → (es : List (ℕ × Member)) (reference : ℕ)
    → is_current (changed_entries (λ k m. Some (g k m)) es) reference ≡ is_current es reference
current_by g stays [] reference = refl
current_by g stays (e ∷ es) reference = by (nat_eq reference e.0) (current_by g stays es reference)
  where
    by : (b : Bool) → is_current (changed_entries (λ k m. Some (g k m)) es) reference ≡ is_current es reference
        → ◌≡◌ {A = Bool} (elim (cond b (Some (g e.0 e.1)) (lookup (nat_eq reference) (changed_entries (λ k m. Some (g k m)) es))) [ None ↦ false | Some member ↦ not member.missing ])
        (elim (cond b (Some e.1) (lookup (nat_eq reference) es)) [ None ↦ false | Some member ↦ not member.missing ])
    by true rest = ap not (stays e.0 e.1)
    by false rest = rest

pub current_is : (config : Configuration) (guid : List ℕ) (element position disk start reference : ℕ) → is_current (members_after config (Return guid element position disk start)) reference ≡ is_current config.members reference
current_is config guid element position disk start reference = current_by (member_after config (Return guid element position disk start)) (λ k m. refl) config.members reference
