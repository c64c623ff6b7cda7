-- A change of one array leaves the numbers of its elements: their levels, their shapes, and what they make together.
use Rattle.std.proofs.Common.{◌≡◌, ℕ, suc, ◌+◌, Bool, true, false, not, ◌&&◌, ◌||◌, ◌==◌, List, [], ◌∷◌, length, map, filter_map, Option, Some, None, is_some, option_map, option_and_then, nat_eq, refl, ap, ◌∙◌, if◌then◌else◌}
use Rattle.std.proofs.lemmas.List.{length-map}
use Rattle.std.proofs.lemmas.List.FromFn.{length-enumerate_from}
use Rattle.std.specs.List.{cons_option, enumerate_from, list_all}
use Rattle.std.specs.Result.{result_ok}
use Rattle.ddf_primary.specs.Levels.{shape_of}
use Rattle.ddf_secondary.specs.declared.element.ElementSize.{ElementSize}
use Rattle.ddf_secondary.specs.Arrangement.{tiers_of}
use Rattle.ddf_config.specs.declared.element.Position.{Position}
use Rattle.ddf_config.specs.declared.array.Array.{Array}
use Rattle.ddf_config.specs.declared.refusal.Refusal.{Refusal}
use Rattle.ddf_config.specs.ElementValue.{ElementValue, with_disks}
use Rattle.ddf_config.specs.Levels.{level_refusal, unserved_level}
use Rattle.ddf_config.specs.Refusals.{first_refusal}
use Rattle.ddf_config.specs.Shapes.{array_tiers, element_shape, has_shape, has_shapes, has_tiers, part_size, sizes, secondary_level, shape_size, strip_sectors}
use Rattle.ddf_config.specs.Within.{is_complete}
use Rattle.ddf_plan.specs.declared.change.Change.{Change}
use Rattle.ddf_plan.specs.declared.change.Change.TheVariants.{Mark, Unmark, Rewind, Begin, Progress, Finish, Return}
use Rattle.ddf_plan.specs.Standing.{stand_in_after}
use Rattle.ddf_plan.specs.Mark.{without_row, without_rows}
use Rattle.ddf_plan.specs.Arrays.{element_after, named_after, part_after, position_after}

-- ---- elements

-- The same element with as many other positions, and perhaps another disk that stands in.
pub record IsSame (plan next : ElementValue) : Type 0 where
  pub stand_in : ℕ
  pub positions : List Position
  pub is : next ≡ with_disks plan stand_in positions
  pub many : length positions ≡ length plan.positions

abbrev pub IsSamePart : Option ElementValue → Option ElementValue → Type 0
IsSamePart None None = Unit {0}
IsSamePart None (Some next) = ⊥
IsSamePart (Some plan) None = ⊥
IsSamePart (Some plan) (Some next) = IsSame plan next

abbrev pub AreSame : List (Option ElementValue) → List (Option ElementValue) → Type 0
AreSame [] [] = Unit {0}
AreSame [] (next ∷ nexts) = ⊥
AreSame (part ∷ parts) [] = ⊥
AreSame (part ∷ parts) (next ∷ nexts) = IsSamePart part next × AreSame parts nexts

same_shape : (elements : ℕ) (plan next : ElementValue) → IsSame plan next → element_shape elements next ≡ element_shape elements plan
same_shape elements plan next is =
    ap (element_shape elements) is.is
    ∙ ap (λ (count : ℕ). option_and_then (λ strip. result_ok (shape_of plan.level plan.qualifier count strip plan.blocks)) (strip_sectors elements plan)) is.many

same_level : (plan next : ElementValue) → IsSame plan next → next.level ≡ plan.level
same_level plan next is = ap (λ (one : ElementValue). one.level) is.is

part_shape : (elements : ℕ) (part next : Option ElementValue) → IsSamePart part next → option_and_then (element_shape elements) next ≡ option_and_then (element_shape elements) part
part_shape elements None None is = refl
part_shape elements None (Some next) is = absurd is
part_shape elements (Some plan) None is = absurd is
part_shape elements (Some plan) (Some next) is = same_shape elements plan next is

part_known : (part next : Option ElementValue) → IsSamePart part next → is_some next ≡ is_some part
part_known None None is = refl
part_known None (Some next) is = absurd is
part_known (Some plan) None is = absurd is
part_known (Some plan) (Some next) is = refl

part_has_shape : (elements : ℕ) (part next : Option ElementValue) → IsSamePart part next → has_shape elements next ≡ has_shape elements part
part_has_shape elements None None is = refl
part_has_shape elements None (Some next) is = absurd is
part_has_shape elements (Some plan) None is = absurd is
part_has_shape elements (Some plan) (Some next) is = ap is_some (same_shape elements plan next is)

part_level : (guid : List ℕ) (part next : Option ElementValue) → IsSamePart part next → level_refusal guid next ≡ level_refusal guid part
part_level guid None None is = refl
part_level guid None (Some next) is = absurd is
part_level guid (Some plan) None is = absurd is
part_level guid (Some plan) (Some next) is = ap (λ (one : ElementValue). level_refusal guid (Some one)) is.is

-- ---- all of them

pub same_count : (parts nexts : List (Option ElementValue)) → AreSame parts nexts → length nexts ≡ length parts
same_count [] [] are = refl
same_count [] (next ∷ nexts) are = absurd are
same_count (part ∷ parts) [] are = absurd are
same_count (part ∷ parts) (next ∷ nexts) are = ap suc (same_count parts nexts are.1)

all_shapes : (elements : ℕ) (parts nexts : List (Option ElementValue)) → AreSame parts nexts → list_all (has_shape elements) nexts ≡ list_all (has_shape elements) parts
all_shapes elements [] [] are = refl
all_shapes elements [] (next ∷ nexts) are = absurd are
all_shapes elements (part ∷ parts) [] are = absurd are
all_shapes elements (part ∷ parts) (next ∷ nexts) are =
    ap (λ b. b && list_all (has_shape elements) nexts) (part_has_shape elements part next are.0)
    ∙ ap (λ b. has_shape elements part && b) (all_shapes elements parts nexts are.1)

all_known : (parts nexts : List (Option ElementValue)) → AreSame parts nexts → list_all (λ (part : Option ElementValue). is_some part) nexts ≡ list_all (λ (part : Option ElementValue). is_some part) parts
all_known [] [] are = refl
all_known [] (next ∷ nexts) are = absurd are
all_known (part ∷ parts) [] are = absurd are
all_known (part ∷ parts) (next ∷ nexts) are =
    ap (λ b. b && list_all (λ (one : Option ElementValue). is_some one) nexts) (part_known part next are.0)
    ∙ ap (λ b. is_some part && b) (all_known parts nexts are.1)

all_levels : (guid : List ℕ) (parts nexts : List (Option ElementValue)) → AreSame parts nexts → first_refusal (map (level_refusal guid) nexts) ≡ first_refusal (map (level_refusal guid) parts)
all_levels guid [] [] are = refl
all_levels guid [] (next ∷ nexts) are = absurd are
all_levels guid (part ∷ parts) [] are = absurd are
all_levels guid (part ∷ parts) (next ∷ nexts) are =
    ap (λ (check : Option Refusal). first_refusal (check ∷ map (level_refusal guid) nexts)) (part_level guid part next are.0)
    ∙ behind (level_refusal guid part) (all_levels guid parts nexts are.1)
  where
    behind : (check : Option Refusal) → first_refusal (map (level_refusal guid) nexts) ≡ first_refusal (map (level_refusal guid) parts)
        → first_refusal (check ∷ map (level_refusal guid) nexts) ≡ first_refusal (check ∷ map (level_refusal guid) parts)
    behind None rest = rest
    behind (Some refusal) rest = refl

all_sizes : (elements : ℕ) (parts nexts : List (Option ElementValue)) → AreSame parts nexts → filter_map (part_size elements) nexts ≡ filter_map (part_size elements) parts
all_sizes elements [] [] are = refl
all_sizes elements [] (next ∷ nexts) are = absurd are
all_sizes elements (part ∷ parts) [] are = absurd are
all_sizes elements (part ∷ parts) (next ∷ nexts) are =
    ap (λ (size : Option ElementSize). cons_option size (filter_map (part_size elements) nexts)) (ap (option_map shape_size) (part_shape elements part next are.0))
    ∙ ap (λ (rest : List ElementSize). cons_option (part_size elements part) rest) (all_sizes elements parts nexts are.1)

-- ---- an array

-- What an array is by its numbers stays.
pub record KeepsNumbers (array next : Array) : Type 0 where
  pub levels : (guid : List ℕ) → unserved_level guid next ≡ unserved_level guid array
  pub shapes : has_shapes next ≡ has_shapes array
  pub tiers : array_tiers next ≡ array_tiers array
  pub complete : is_complete next ≡ is_complete array

pub numbers_kept : (array next : Array) → next.secondary ≡ array.secondary → AreSame array.elements next.elements → KeepsNumbers array next
numbers_kept array next secondary are =
    let count = same_count array.elements next.elements are in
    let size : sizes next ≡ sizes array =
    ap (λ (n : ℕ). filter_map (part_size n) next.elements) count ∙ all_sizes (length array.elements) array.elements next.elements are in
    let level : secondary_level next ≡ secondary_level array =
    ap (λ (n : ℕ). if n == 1 then 0x00 else next.secondary) count ∙ ap (λ (n : ℕ). if length array.elements == 1 then 0x00 else n) secondary in
    record {
      levels = λ guid. all_levels guid array.elements next.elements are;
      shapes = ap (λ (n : ℕ). list_all (has_shape n) next.elements) count ∙ all_shapes (length array.elements) array.elements next.elements are;
      tiers = ap (λ (n : ℕ). result_ok (tiers_of n (sizes next))) level ∙ ap (λ (all : List ElementSize). result_ok (tiers_of (secondary_level array) all)) size;
      complete = all_known array.elements next.elements are;
    }

pub tiers_kept : (array next : Array) → KeepsNumbers array next → has_tiers next ≡ has_tiers array
tiers_kept array next keeps =
    ap (λ (b : Bool). not b || is_some (array_tiers next)) keeps.complete ∙ ap (λ tiers. not (is_complete array) || is_some tiers) keeps.tiers

-- ---- the array that a change names

without_same : (parts : List (Option ElementValue)) → AreSame parts (map (option_map without_rows) parts)
without_same [] = tt
without_same (None ∷ parts) = (tt, without_same parts)
without_same (Some plan ∷ parts) = (record { stand_in = plan.stand_in; positions = map without_row plan.positions; is = refl; many = length-map plan.positions without_row }, without_same parts)

part_same : (revertible : Bool) (change : Change) (b : Bool) (part : Option ElementValue) → IsSamePart part (if b then option_map (element_after revertible change) part else part)
part_same revertible change true None = tt
part_same revertible change false None = tt
part_same revertible change true (Some plan) = record {
  stand_in = stand_in_after revertible change plan;
  positions = map (λ pair. position_after change pair.0 pair.1) (enumerate_from 0 plan.positions);
  is = refl;
  many = length-map (enumerate_from 0 plan.positions) (λ pair. position_after change pair.0 pair.1) ∙ length-enumerate_from 0 plan.positions;
}
part_same revertible change false (Some plan) = record { stand_in = plan.stand_in; positions = plan.positions; is = refl; many = refl }

rebuilding_same : (revertible : Bool) (change : Change) (named n : ℕ) (parts : List (Option ElementValue)) → AreSame parts (map (part_after revertible change named) (enumerate_from n parts))
rebuilding_same revertible change named n [] = tt
rebuilding_same revertible change named n (part ∷ parts) = (part_same revertible change (nat_eq named n) part, rebuilding_same revertible change named (n + 1) parts)

unchanged : (parts : List (Option ElementValue)) → AreSame parts parts
unchanged [] = tt
unchanged (None ∷ parts) = (tt, unchanged parts)
unchanged (Some plan ∷ parts) = (record { stand_in = plan.stand_in; positions = plan.positions; is = refl; many = refl }, unchanged parts)

pub record IsSameArray (array next : Array) : Type 0 where
  pub secondary : next.secondary ≡ array.secondary
  pub elements : AreSame array.elements next.elements

pub same_array : (array : Array) → IsSameArray array array
same_array array = record { secondary = refl; elements = unchanged array.elements }

pub named_same : (revertible : Bool) (change : Change) (array : Array) → IsSameArray array (named_after revertible change array)
named_same revertible (Mark guid) array = record { secondary = refl; elements = without_same array.elements }
named_same revertible (Unmark guid init) array = record { secondary = refl; elements = unchanged array.elements }
named_same revertible (Rewind guid) array = record { secondary = refl; elements = without_same array.elements }
named_same revertible (Begin guid element position reference start) array = record { secondary = refl; elements = rebuilding_same revertible (Begin guid element position reference start) element 0 array.elements }
named_same revertible (Progress guid element position row) array = record { secondary = refl; elements = rebuilding_same revertible (Progress guid element position row) element 0 array.elements }
named_same revertible (Finish guid element position) array = record { secondary = refl; elements = rebuilding_same revertible (Finish guid element position) element 0 array.elements }
named_same revertible (Return guid element position reference start) array = record { secondary = refl; elements = rebuilding_same revertible (Return guid element position reference start) element 0 array.elements }
named_same revertible other array = same_array array

pub chosen_same : (b : Bool) (array next : Array) → IsSameArray array next → IsSameArray array (if b then next else array)
chosen_same true array next is = is
chosen_same false array next is = same_array array
