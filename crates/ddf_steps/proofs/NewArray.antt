-- A new array that nothing refuses can be held by copies.
use Rattle.std.proofs.Common.{◌≡◌, ℕ, zero, suc, ◌+◌, ◌^◌, ◌<◌, ◌≤◌, Bool, true, false, not, ◌&&◌, ◌||◌, cond, eqb, ltb, List, [], ◌∷◌, length, map, find, filter_map, Option, Some, None, Result, Ok, Err, option_map, option_and_then, unwrap_or, is_some, nat_eq, nat_lt, nat_le, refl, sym, ap, subst, ◌∙◌, if◌then◌else◌, arith, rules, lit<}
use borrow.Author.Tests.{tests, leb-true}
use Rattle.std.proofs.lemmas.Bool.{and_parts, false≢true, ltb-false}
use Rattle.std.proofs.lemmas.List.{length-map}
use Rattle.std.specs.Prelude.{slice_get}
use Rattle.std.specs.Map.{lookup}
use Rattle.std.specs.List.{AllByRecursion, cons_option, enumerate_from, list_all, list_any}
use Rattle.std.specs.Result.{result_ok}
use Rattle.ddf_lemmas.proofs.Lists.{found_passes, in_map}
use Rattle.ddf_primary.specs.declared.layout.Layout.{Layout}
use Rattle.ddf_primary.specs.declared.fault.ShapeFault.{ShapeFault}
use Rattle.ddf_primary.specs.declared.fault.ShapeFault.TheVariants.{MemberCount, Blocks}
use Rattle.ddf_primary.specs.Placement.{Placement, placement}
use Rattle.ddf_primary.specs.Levels.{served_layout, takes_members, takes_blocks, sized_shape, shape_of}
use Rattle.ddf_primary.proofs.Needs.{some_members}
use Rattle.ddf_secondary.specs.declared.element.ElementSize.{ElementSize}
use Rattle.ddf_secondary.specs.declared.level.SecondaryLevel.{SecondaryLevel}
use Rattle.ddf_secondary.specs.declared.fault.TiersFault.{TiersFault}
use Rattle.ddf_secondary.specs.declared.fault.TiersFault.TheVariants.{Level, Count, Mixed}
use Rattle.ddf_secondary.specs.Arrangement.{Arrangement, served_level, takes_units, takes_count, tiers_of}
use Rattle.ddf_config_records.specs.Elements.{has_no_strip}
use Rattle.ddf_config.specs.declared.member.Member.{Member}
use Rattle.ddf_config.specs.declared.element.Position.{Position}
use Rattle.ddf_config.specs.declared.array.Array.{Array}
use Rattle.ddf_config.specs.declared.extent.Extent.{Extent}
use Rattle.ddf_config.specs.ElementValue.{ElementValue as ElementPlan}
use Rattle.ddf_config.specs.Extents.{extents_on, ranges}
use Rattle.ddf_config.specs.Room.{is_free, meets, multiples, least_start_of, start_on}
use Rattle.ddf_config.specs.Shapes.{strip_sectors, element_shape, has_shape, has_shapes, has_tiers, has_no_strips, part_size, shape_size, sizes, secondary_level, array_tiers}
use Rattle.ddf_config.specs.Within.{is_complete, is_redundant}
use Rattle.ddf_plan.specs.Create.{created, created_state, element_strip, laid_element, laid_position}
use Rattle.ddf_plan.specs.Mark.{mark}
use Rattle.ddf_plan.specs.CreateRefusal.{has_more}
use Rattle.ddf_rewrite.specs.Hold.{FitsMember, FitsPosition}
use Rattle.ddf_rewrite.proofs.Lists.{all_at}
use Rattle.ddf_steps.specs.Asked.{IsNewArray, IsNewPlan, IsNewPosition}
use Rattle.ddf_steps.proofs.HeldEntries.{ArePlansHeld, IsHeldEntry, IsHeldPlan}

-- ---- the strip and the members of an element with a shape

or_first : (a b c : Bool) → (a || b || c) ≡ true → (a || (b || (c || false))) ≡ true
or_first true b c h = refl
or_first false true c h = refl
or_first false false true h = refl
or_first false false false h = absurd (false≢true h)

strip_counts : (elements : ℕ) (plan : ElementPlan) (strip : ℕ) → strip_sectors elements plan ≡ Some strip → (nat_lt 31 plan.strip && not (has_no_strip plan.level elements)) ≡ false
strip_counts elements plan strip e = by (nat_le plan.strip 31) (eqb elements 1 && has_no_strips plan.level) refl refl e
  where
    none : (eqb elements 1 && has_no_strips plan.level) ≡ true → has_no_strip plan.level elements ≡ true
    none h =
        let parts = and_parts (eqb elements 1) (has_no_strips plan.level) h in
        rw parts.0 (or_first (eqb plan.level 0x01) (eqb plan.level 0x0F) (eqb plan.level 0x1F) parts.1)

    by : (a b : Bool) → nat_le plan.strip 31 ≡ a → (eqb elements 1 && has_no_strips plan.level) ≡ b → (if a then Some (2 ^ plan.strip) else (if b then Some 1 else None)) ≡ Some strip
        → (nat_lt 31 plan.strip && not (has_no_strip plan.level elements)) ≡ false
    by true b low has e =
        let below : plan.strip ≤ 31 = leb-true plan.strip 31 low in
        let not_above : ltb 31 plan.strip ≡ false = search (rules, tests) in
        rw not_above refl
    by false true low has e = let is = none has in rw is (both_false (nat_lt 31 plan.strip))
      where
        both_false : (b : Bool) → (b && false) ≡ false
        both_false true = refl
        both_false false = refl
    by false false low has e = absurd cc

-- An element with a shape: its strip counts, and it has members.
record HasShape (elements : ℕ) (plan : ElementPlan) : Type 0 where
  has_strip : (nat_lt 31 plan.strip && not (has_no_strip plan.level elements)) ≡ false
  some : 0 < length plan.positions

shape_has : (elements : ℕ) (plan : ElementPlan) → is_some (element_shape elements plan) ≡ true → HasShape elements plan
shape_has elements plan h = by (strip_sectors elements plan) refl h
  where
    sized : (strip : ℕ) (layout : Layout) (a b : Bool) → takes_members layout (length plan.positions) ≡ a
        → is_some (result_ok (if a then (if b then Ok (placement layout (length plan.positions) strip plan.blocks) else Err (Blocks plan.blocks)) else Err (MemberCount (length plan.positions)))) ≡ true
        → 0 < length plan.positions
    sized strip layout true b takes h = some_members layout (length plan.positions) takes
    sized strip layout false b takes h = absurd (false≢true h)

    shaped : (strip : ℕ) (r : Result Layout ShapeFault)
        → is_some (result_ok {T = Placement} {E = ShapeFault} (elim r [ Ok layout ↦ sized_shape layout (length plan.positions) strip plan.blocks | Err fault ↦ Err fault ])) ≡ true → 0 < length plan.positions
    shaped strip (Ok layout) h = sized strip layout (takes_members layout (length plan.positions)) (takes_blocks layout strip plan.blocks) refl h
    shaped strip (Err fault) h = absurd (false≢true h)

    by : (r : Option ℕ) → strip_sectors elements plan ≡ r
        → is_some (option_and_then (λ strip. result_ok (shape_of plan.level plan.qualifier (length plan.positions) strip plan.blocks)) r) ≡ true → HasShape elements plan
    by None at h = absurd (false≢true h)
    by (Some strip) at h = record { has_strip = strip_counts elements plan strip at; some = shaped strip (served_layout plan.level plan.qualifier) h }

-- ---- starts

member_of : (members : List (ℕ × Member)) (reference : ℕ) (member : Member) → AllByRecursion FitsMember members → lookup (nat_eq reference) members ≡ Some member → member.size < 2 ^ 64
member_of [] reference member all e = absurd cc
member_of (entry ∷ members) reference member all e = by (nat_eq reference entry.0) e (member_of members reference member all.1)
  where
    by : (b : Bool) → cond b (Some entry.1) (lookup (nat_eq reference) members) ≡ Some member → (lookup (nat_eq reference) members ≡ Some member → member.size < 2 ^ 64) → member.size < 2 ^ 64
    by true e rest = let same : entry.1 ≡ member = cc in subst (λ (m : Member). m.size < 2 ^ 64) same all.0.size
    by false e rest = rest e

least_within : (taken : List (ℕ × ℕ)) (size strip blocks start : ℕ) → least_start_of taken size strip blocks ≡ Some start → start ≤ size
unfolding least_start_of
least_within taken size strip blocks start e =
    let free = found_passes (is_free taken size blocks) (multiples strip size) start e in
    let fits : start + blocks ≤ size = leb-true (start + blocks) size (and_parts (nat_le (start + blocks) size) (not (list_any (meets start blocks) taken)) free).0 in
    omega arith

start_fits : (members : List (ℕ × Member)) (all : List Extent) (strip blocks reference start : ℕ) → AllByRecursion FitsMember members → start_on members all strip blocks reference ≡ Some start → start < 2 ^ 64
start_fits members all strip blocks reference start fit e = by (lookup (nat_eq reference) members) refl e
  where
    by : (r : Option Member) → lookup (nat_eq reference) members ≡ r → option_and_then (λ (member : Member). least_start_of (ranges (extents_on reference all)) member.size strip blocks) r ≡ Some start → start < 2 ^ 64
    by None at e = absurd cc
    by (Some member) at e =
        let small = member_of members reference member fit at in
        let within = least_within (ranges (extents_on reference all)) member.size strip blocks start e in
        omega arith

module _ (members : List (ℕ × Member)) (all : List Extent) (fit : AllByRecursion FitsMember members) (strip blocks : ℕ) where
  placed_fits : (position : Position) → IsNewPosition position → FitsPosition (laid_position members all strip blocks position)
  placed_fits position is = record { reference = is.fits.reference; start = by (start_on members all strip blocks position.reference) refl; row = is.fits.row }
    where
      by : (r : Option ℕ) → start_on members all strip blocks position.reference ≡ r → unwrap_or r position.start < 2 ^ 64
      by None at = is.fits.start
      by (Some start) at = start_fits members all strip blocks position.reference start fit at

  all_placed : (positions : List Position) → AllByRecursion IsNewPosition positions → AllByRecursion FitsPosition (map (laid_position members all strip blocks) positions)
  all_placed [] each = tt
  all_placed (position ∷ positions) each = (placed_fits position each.0, all_placed positions each.1)

  no_row_placed : (positions : List Position) → AllByRecursion IsNewPosition positions → (i : ℕ) (one : Position) → slice_get (map (laid_position members all strip blocks) positions) i ≡ Some one → one.row ≡ 0
  no_row_placed positions each i one at =
      let from = in_map (laid_position members all strip blocks) positions i one at in
      sym (ap (λ (p : Position). p.row) from.2) ∙ (all_at IsNewPosition positions i from.0 each from.1).no_row

-- ---- the elements of a new array

module _ (members : List (ℕ × Member)) (all : List Extent) (fit : AllByRecursion FitsMember members) (elements bound most : ℕ) (within : bound ≤ most) where
  plan_held : (plan : ElementPlan) → IsNewPlan plan → HasShape elements plan → has_more bound (Some plan) ≡ false → IsHeldPlan most elements (laid_element members all elements plan)
  plan_held plan is has few =
      let f = laid_position members all (element_strip elements plan) plan.blocks in
      let same = length-map plan.positions f in
      let below : length plan.positions ≤ bound = ltb-false bound (length plan.positions) few in
      record {
        some = omega (arith, same, has.some);
        allowed = omega (arith, same, below, within);
        few = omega (arith, same, is.few);
        strip = is.strip;
        has_strip = has.has_strip;
        level = is.level;
        qualifier = is.qualifier;
        blocks = is.blocks;
        stand_in = is.stand_in;
        positions = all_placed members all fit (element_strip elements plan) plan.blocks plan.positions is.positions;
        rebuilt = λ i j one other at also h k.
            let no = no_row_placed members all fit (element_strip elements plan) plan.blocks plan.positions is.positions i one at in
            absurd (false≢true (sym h ∙ ap (λ (n : ℕ). eqb n 0) no));
      }

  -- each element has a shape, and few members
  parts_new : (parts : List (Option ElementPlan)) → ((index : ℕ) (plan : ElementPlan) → slice_get parts index ≡ Some (Some plan) → IsNewPlan plan)
      → list_all (has_shape elements) parts ≡ true → list_any (has_more bound) parts ≡ false
      → ArePlansHeld most elements (map (option_map (laid_element members all elements)) parts)
  parts_new [] new shapes more index plan at = absurd cc
  parts_new (part ∷ parts) new shapes more zero plan at =
      by part (new 0) (and_parts (has_shape elements part) (list_all (has_shape elements) parts) shapes).0 (left (has_more bound part) (list_any (has_more bound) parts) more) at
    where
      left : (a b : Bool) → (a || b) ≡ false → a ≡ false
      left true b h = absurd (false≢true (sym h))
      left false b h = refl

      by : (part : Option ElementPlan) → ((plan : ElementPlan) → Some part ≡ Some (Some plan) → IsNewPlan plan) → has_shape elements part ≡ true → has_more bound part ≡ false
          → Some (option_map (laid_element members all elements) part) ≡ Some (Some plan) → IsHeldPlan most elements plan
      by None new shape few at = absurd cc
      by (Some one) new shape few at =
          let same : laid_element members all elements one ≡ plan = cc in
          subst (IsHeldPlan most elements) same (plan_held one (new one refl) (shape_has elements one shape) few)
  parts_new (part ∷ parts) new shapes more (suc index) plan at =
      parts_new parts (λ i. new (suc i)) (and_parts (has_shape elements part) (list_all (has_shape elements) parts) shapes).1 (right (has_more bound part) (list_any (has_more bound) parts) more) index plan at
    where
      right : (a b : Bool) → (a || b) ≡ false → b ≡ false
      right true b h = absurd (false≢true (sym h))
      right false b h = h

-- ---- how many elements there are

all_sized : (elements : ℕ) (parts : List (Option ElementPlan)) → list_all (λ (part : Option ElementPlan). is_some part) parts ≡ true → list_all (has_shape elements) parts ≡ true
    → length (filter_map (part_size elements) parts) ≡ length parts
all_sized elements [] complete shapes = refl
all_sized elements (None ∷ parts) complete shapes = absurd (false≢true complete)
all_sized elements (Some plan ∷ parts) complete shapes =
    let parts_are = and_parts (is_some (element_shape elements plan)) (list_all (has_shape elements) parts) shapes in
    by (element_shape elements plan) parts_are.0 (all_sized elements parts complete parts_are.1)
  where
    by : (r : Option Placement) → is_some r ≡ true → length (filter_map (part_size elements) parts) ≡ length parts
        → length (cons_option (option_map shape_size r) (filter_map (part_size elements) parts)) ≡ length (Some plan ∷ parts)
    by None h rest = absurd (false≢true h)
    by (Some shape) h rest = ap suc rest

record AreCounted (n : ℕ) : Type 0 where
  some : 1 ≤ n
  few : n ≤ 16

counted_by : (code : ℕ) (all : List ElementSize) → is_some (result_ok (tiers_of code all)) ≡ true → AreCounted (length all)
counted_by code all h = by (served_level code) h
  where
    known : (level : SecondaryLevel) (a b : Bool) → takes_count all ≡ a
        → is_some (result_ok {T = Arrangement} {E = TiersFault} (if a then (if b then Ok (record { level = level; sizes = all }) else Err Mixed) else Err (Count (length all)))) ≡ true → AreCounted (length all)
    known level true b count h =
        let parts = and_parts (nat_le 1 (length all)) (nat_le (length all) 16) count in
        record { some = leb-true 1 (length all) parts.0; few = leb-true (length all) 16 parts.1 }
    known level false b count h = absurd (false≢true h)

    by : (r : Option SecondaryLevel) → is_some (result_ok {T = Arrangement} {E = TiersFault} (elim r [
      | None ↦ Err (Level code)
      | Some level ↦ if takes_count all then (if takes_units level all then Ok (record { level = level; sizes = all }) else Err Mixed) else Err (Count (length all))
    ])) ≡ true → AreCounted (length all)
    by None h = absurd (false≢true h)
    by (Some level) h = known level (takes_count all) (takes_units level all) refl h

elements_counted : (array : Array) → is_complete array ≡ true → has_shapes array ≡ true → has_tiers array ≡ true → AreCounted (length array.elements)
elements_counted array complete shapes tiers =
    let known : is_some (array_tiers array) ≡ true = by (is_complete array) complete tiers in
    subst AreCounted (all_sized (length array.elements) array.elements complete shapes) (counted_by (secondary_level array) (sizes array) known)
  where
    by : (b : Bool) → b ≡ true → (not b || is_some (array_tiers array)) ≡ true → is_some (array_tiers array) ≡ true
    by true e h = h
    by false e h = absurd (false≢true e)

-- ---- the array

known_first : (g : ElementPlan → ElementPlan) (parts : List (Option ElementPlan)) → list_all (λ (part : Option ElementPlan). is_some part) parts ≡ true → 1 ≤ length parts
    → find (λ pair. is_some pair.1) (enumerate_from 0 (map (option_map g) parts)) ≡ None → ⊥
known_first g [] complete some h = omega arith
known_first g (None ∷ parts) complete some h = false≢true complete
known_first g (Some plan ∷ parts) complete some h = cc

new_state : (array : Array) → created_state array < 2 ^ 8
new_state array = by (is_redundant array)
  where
    by : (b : Bool) → (if b then mark else 0x00) < 2 ^ 8
    by true = lit< tt
    by false = lit< tt

-- An array with shapes and tiers, whose elements have no more members than the bound, can be held as it is created.
pub created_held : (members : List (ℕ × Member)) (all : List Extent) (guid : List ℕ) (array : Array) (bound most : ℕ) → AllByRecursion FitsMember members → IsNewArray guid array
    → has_shapes array ≡ true → has_tiers array ≡ true → list_any (has_more bound) array.elements ≡ false → bound ≤ most
    → IsHeldEntry most (guid, created members all array)
created_held members all guid array bound most fit is shapes tiers few within =
    let count = elements_counted array is.complete shapes tiers in
    let same = length-map array.elements (option_map (laid_element members all (length array.elements))) in
    let known = known_first (laid_element members all (length array.elements)) array.elements is.complete count.some in
    record {
      fits = record {
        guid = is.fits.guid;
        used = is.fits.used;
        number = is.fits.number;
        state = new_state array;
        init = is.fits.init;
        name = is.fits.name;
        secondary = is.fits.secondary;
      };
      readable = record {
        few = omega (arith, same, count.few);
        alone = λ h. absurd (known h);
        plain = λ h. absurd (known h);
      };
      plans = λ index plan at.
          subst (λ (n : ℕ). IsHeldPlan most n plan) (sym same)
          (parts_new members all fit (length array.elements) bound most within array.elements is.plans shapes few index plan at);
    }
