-- What changes leave of an array that has a position on a disk: they leave it there.
use Rattle.std.proofs.Common.{◌≡◌, ◌∙◌, ℕ, Bool, true, false, not, ◌&&◌, List, [], ◌∷◌, map, nat_eq, Option, Some, None, refl, ap, if◌then◌else◌}
use Rattle.std.proofs.lemmas.Bool.{false≢true}
use Rattle.std.proofs.lemmas.Cmp.{nat_list_eq_equiv}
use Rattle.std.specs.Prelude.{option_map, slice_get}
use Rattle.std.specs.List.{enumerate_from}
use Rattle.ddf_config.specs.declared.array.Array.{Array}
use Rattle.ddf_config.specs.declared.element.Position.{Position}
use Rattle.ddf_config.specs.declared.member.Member.{Member}
use Rattle.ddf_config.specs.ElementValue.{ElementValue}
use Rattle.ddf_config.specs.Members.{same_guid}
use Rattle.ddf_config.specs.Within.{is_available, is_mirrored, is_part_within}
use Rattle.ddf_plan.specs.declared.change.Change.{Change}
use Rattle.ddf_plan.specs.declared.change.Change.TheVariants.{Lose, Delete, Fail, Mark, Unmark, Rewind, Begin, Progress, Finish, Return}
use Rattle.ddf_plan.specs.Arrays.{array_after, element_after, is_dropped, kept_array, named_after, names, part_after, position_after, rebuilding}
use Rattle.ddf_plan.specs.Lose.{has_part_within, is_among, lost_array, lost_element, lost_parts, lost_position, out_beyond, out_of_sync, wholly_out}
use Rattle.ddf_plan.specs.Mark.{without_row, without_rows}
use Rattle.ddf_plan.specs.Rebuild.{begun, finished, new_position, returned}
use Rattle.ddf_availability.specs.GoneBack.{leaves_place}
use Rattle.ddf_availability.proofs.Entries.{mapped_get, numbered_first}

-- ---- tests

third_false : (a b c : Bool) → not (a && b && c) ≡ true → a ≡ true → b ≡ true → c ≡ false
third_false true true true h p q = absurd (false≢true h)
third_false true true false h p q = refl
third_false true false c h p q = absurd (false≢true q)
third_false false b c h p q = absurd (false≢true p)

pub not_both : (a b : Bool) → not b ≡ true → (a ≡ true → b ≡ true) → a ≡ false
not_both false b h so = refl
not_both true true h so = absurd (false≢true h)
not_both true false h so = absurd (false≢true (so refl))

-- two GUIDs that are that of one key are one
pub same_both : (named guid key : List ℕ) → same_guid guid key ≡ true → same_guid named key ≡ true → same_guid named guid ≡ true
same_both named guid key own is = nat_list_eq_equiv.symm named guid ∙ nat_list_eq_equiv.congr guid key named own ∙ nat_list_eq_equiv.symm key named ∙ is

module _ (element position reference : ℕ) where
  -- ---- elements and arrays that have a position on the disk

  pub record HasHeld (plan : ElementValue) : Type 0 where
    pub held : Position
    pub is_held : slice_get plan.positions position ≡ Some held
    pub is_there : held.reference ≡ reference

  pub record HasOn (array : Array) : Type 0 where
    pub plan : ElementValue
    pub is_plan : slice_get array.elements element ≡ Some (Some plan)
    pub on : HasHeld plan

  mapped_held : (f : Position → Position) → ((old : Position) → (f old).reference ≡ old.reference) → (plan next : ElementValue) → next.positions ≡ map f plan.positions → HasHeld plan → HasHeld next
  mapped_held f stays plan next are own = record {
    held = f own.held;
    is_held = ap (λ (l : List Position). slice_get l position) are ∙ mapped_get f position plan.positions own.held own.is_held;
    is_there = stays own.held ∙ own.is_there;
  }

  mapped_on : (f : Option ElementValue → Option ElementValue) → ((plan : ElementValue) → HasHeld plan → (next : ElementValue) × (f (Some plan) ≡ Some next) × HasHeld next) → (array next : Array)
      → next.elements ≡ map f array.elements → HasOn array → HasOn next
  mapped_on f stays array next are own =
      let made = stays own.plan own.on in
      record {
        plan = made.0;
        is_plan = ap (λ (l : List (Option ElementValue)). slice_get l element) are ∙ mapped_get f element array.elements (Some own.plan) own.is_plan ∙ ap (λ (part : Option ElementValue). Some part) made.1;
        on = made.2;
      }

  -- ---- losses

  lost_stays : (references : List ℕ) (old : Position) → (lost_position references old).reference ≡ old.reference
  lost_stays references old = by (is_among references old.reference)
    where
      by : (b : Bool) → (if b then out_of_sync old else old).reference ≡ old.reference
      by true = refl
      by false = refl

  beyond_held : (members : List (ℕ × Member)) (plan : ElementValue) → HasHeld plan → (next : ElementValue) × (out_beyond members (Some plan) ≡ Some next) × HasHeld next
  beyond_held members plan own = by (is_part_within (is_available members) (Some plan))
    where
      by : (b : Bool) → (next : ElementValue) × ((if b then Some plan else option_map wholly_out (Some plan)) ≡ Some next) × HasHeld next
      by true = (plan, refl, own)
      by false = (wholly_out plan, refl, mapped_held out_of_sync (λ old. refl) plan (wholly_out plan) refl own)

  lost_on : (members : List (ℕ × Member)) (references : List ℕ) (array : Array) → HasOn array → HasOn (lost_array members references array)
  lost_on members references array own = by (is_mirrored array && has_part_within members (lost_parts references array))
    where
      less_on : HasOn (record array { elements = lost_parts references array })
      less_on =
          mapped_on (option_map (lost_element references))
          (λ plan held. (lost_element references plan, refl, mapped_held (lost_position references) (lost_stays references) plan (lost_element references plan) refl held)) array
          (record array { elements = lost_parts references array }) refl own

      by : (b : Bool) → HasOn (record array { elements = if b then map (out_beyond members) (lost_parts references array) else lost_parts references array })
      by true =
          mapped_on (out_beyond members) (beyond_held members) (record array { elements = lost_parts references array })
          (record array { elements = map (out_beyond members) (lost_parts references array) }) refl less_on
      by false = less_on

  -- ---- changes of one position

  rebuilding_on : (change : Change) (named : ℕ) → (nat_eq named element ≡ true → (old : Position) → (position_after change position old).reference ≡ old.reference) → (revertible : Bool) (array : Array) → HasOn array
      → HasOn (rebuilding revertible change named array)
  rebuilding_on change named stays revertible array own =
      by (nat_eq named element) refl (numbered_first (part_after revertible change named) element array.elements (Some own.plan) own.is_plan)
    where
      by : (b : Bool) → nat_eq named element ≡ b
          → slice_get (map (part_after revertible change named) (enumerate_from 0 array.elements)) element ≡ Some (if b then Some (element_after revertible change own.plan) else Some own.plan)
          → HasOn (rebuilding revertible change named array)
      by false is there = record { plan = own.plan; is_plan = there; on = own.on }
      by true is there = record {
        plan = element_after revertible change own.plan;
        is_plan = there;
        on = record {
          held = position_after change position own.on.held;
          is_held = numbered_first (λ (pair : ℕ × Position). position_after change pair.0 pair.1) position own.plan.positions own.on.held own.on.is_held;
          is_there = stays is own.on.held ∙ own.on.is_there;
        };
      }

  finished_stays : (one : ℕ) (old : Position) → (finished one position old).reference ≡ old.reference
  finished_stays one old = by (nat_eq one position)
    where
      by : (b : Bool) → (if b then record old { synced = true; row = 0 } else old).reference ≡ old.reference
      by true = refl
      by false = refl

  begun_stays : (one disk start : ℕ) → nat_eq one position ≡ false → (old : Position) → (begun one disk start position old).reference ≡ old.reference
  begun_stays one disk start away old = ap (λ (b : Bool). (if b then new_position disk start else old).reference) away

  returned_stays : (one disk start : ℕ) → nat_eq one position ≡ false → (old : Position) → (returned one disk start position old).reference ≡ old.reference
  returned_stays one disk start away old = finished_stays one (begun one disk start position old) ∙ begun_stays one disk start away old

  -- ---- one array

  module _ (guid key : List ℕ) (own : same_guid guid key ≡ true) where
    named_on : (revertible : Bool) (change : Change) → leaves_place guid element position change ≡ true → names change key ≡ true → (array : Array) → HasOn array → HasOn (named_after revertible change array)
    named_on revertible (Mark named) leaves is array on =
        mapped_on (option_map without_rows) (λ plan held. (without_rows plan, refl, mapped_held without_row (λ old. refl) plan (without_rows plan) refl held)) array (named_after revertible (Mark named) array) refl on
    named_on revertible (Unmark named init) leaves is array on = record { plan = on.plan; is_plan = on.is_plan; on = on.on }
    named_on revertible (Rewind named) leaves is array on =
        mapped_on (option_map without_rows) (λ plan held. (without_rows plan, refl, mapped_held without_row (λ old. refl) plan (without_rows plan) refl held)) array (named_after revertible (Rewind named) array) refl on
    named_on revertible (Begin named at one disk start) leaves is array on =
        rebuilding_on (Begin named at one disk start) at
        (λ same. begun_stays one disk start (third_false (same_guid named guid) (nat_eq at element) (nat_eq one position) leaves (same_both named guid key own is) same)) revertible array on
    named_on revertible (Progress named at one row) leaves is array on = rebuilding_on (Progress named at one row) at (λ same old. refl) revertible array on
    named_on revertible (Finish named at one) leaves is array on = rebuilding_on (Finish named at one) at (λ same. finished_stays one) revertible array on
    named_on revertible (Return named at one disk start) leaves is array on =
        rebuilding_on (Return named at one disk start) at
        (λ same. returned_stays one disk start (third_false (same_guid named guid) (nat_eq at element) (nat_eq one position) leaves (same_both named guid key own is) same)) revertible array on
    named_on revertible other leaves is array on = absurd (false≢true is)

    chosen_on : (revertible : Bool) (change : Change) → leaves_place guid element position change ≡ true → (array : Array) → HasOn array → HasOn (if names change key then named_after revertible change array else array)
    chosen_on revertible change leaves array on = by (names change key) refl
      where
        by : (b : Bool) → names change key ≡ b → HasOn (if b then named_after revertible change array else array)
        by true is = named_on revertible change leaves is array on
        by false is = on

    after_on : (revertible : Bool) (members : List (ℕ × Member)) (change : Change) → leaves_place guid element position change ≡ true → (array : Array) → HasOn array → HasOn (array_after revertible members change key array)
    after_on revertible members (Lose references) leaves array on = lost_on members references array on
    after_on revertible members (Fail failed) leaves array on = lost_on members (failed ∷ []) array on
    after_on revertible members other leaves array on = chosen_on revertible other leaves array on

    not_dropped : (change : Change) → leaves_place guid element position change ≡ true → is_dropped change key ≡ false
    not_dropped (Delete gone) leaves = not_both (same_guid gone key) (same_guid gone guid) leaves (same_both gone guid key own)
    not_dropped other leaves = refl

    -- An array that a change leaves its position stays in the table, and has it.
    pub kept_on : (revertible : Bool) (members : List (ℕ × Member)) (change : Change) → leaves_place guid element position change ≡ true → (array : Array) → HasOn array
        → (next : Array) × (kept_array revertible members change key array ≡ Some next) × HasOn next
    kept_on revertible members change leaves array on = (
      array_after revertible members change key array,
      ap (λ (b : Bool). if b then None else Some (array_after revertible members change key array)) (not_dropped change leaves),
      after_on revertible members change leaves array on,
    )
