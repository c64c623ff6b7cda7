-- The records of elements that a change gives can be written.
use Rattle.std.proofs.Common.{◌≡◌, ℕ, suc, ◌<◌, ◌≤◌, ◌^◌, Bool, true, false, not, ◌&&◌, ◌||◌, cond, eqb, ltb, leb, List, [], ◌∷◌, length, map, replicate, fold, Option, Some, None, refl, ap, sym, ◌∙◌, subst, arith}
use Rattle.std.proofs.lemmas.List.{length-map, length-replicate}
use Rattle.std.proofs.lemmas.Bool.{ne_eqb, le-ltb, lt-leb}
use Rattle.std.specs.Prelude.{slice_get, filter, nat_eq, nat_lt, is_some}
use Rattle.std.specs.List.{AllByRecursion, list_any}
use Rattle.ddf_seal.specs.Unread.{Fits}
use Rattle.ddf_seal.proofs.Placing.{length-placed}
use Rattle.ddf_seal.proofs.Records.{written_outside}
use Rattle.ddf_bytes.proofs.Nones.{none_first, none_when}
use Rattle.ddf_header.specs.declared.geometry.Geometry.{Geometry}
use Rattle.ddf_header.specs.declared.kind.Revision.{Revision}
use Rattle.ddf_header.specs.declared.kind.Revision.TheVariants.{R100, R120, R200}
use Rattle.ddf_config_records.specs.declared.place.Place.{Place}
use Rattle.ddf_config_records.specs.declared.fault.ElementFault.TheVariants as faults
use Rattle.ddf_config_records.specs.declared.layout.TheConstants.{CACHE_AT}
use Rattle.ddf_config_records.specs.ElementValue.{ElementValue}
use Rattle.ddf_config_records.specs.Elements.{record_size, HasRoom, element_fields, has_no_strip, element_faults_of, fault_of, element_fault, CanBeElement}
use Rattle.ddf_config_records.proofs.Elements.{element_within}
use Rattle.ddf_config_records.proofs.ElementRecords.{HasMembers, has_members, allowed}
use Rattle.std.specs.Map.{lookup}
use Rattle.ddf_lemmas.proofs.Tests.{or_three}
use Rattle.ddf_config_records.proofs.Building.{element_over_can}
use Rattle.ddf_config_records.specs.Building.{element_bytes, element_unread, new_record_bytes}
use Rattle.ddf_config.specs.Configuration.{Configuration}
use Rattle.ddf_config.specs.Shapes.{array_capacity}
use Rattle.ddf_config.specs.declared.array.Array.{Array}
use Rattle.ddf_config.specs.declared.element.Position.{Position}
use Rattle.ddf_config.specs.declared.member.Member.{Member}
use Rattle.ddf_view.specs.Differ.{same_record}
use Rattle.ddf_view.specs.Readable.{AreReadable, IsReadable}
use Rattle.ddf_view.specs.View.{HeldRecord}
use Rattle.ddf_view.proofs.Finds.{place_within}
use Rattle.ddf_rewrite.specs.Disks.{block_size_of}
use Rattle.ddf_rewrite.specs.Elements.{add_spare, altered, changed_record, contains, created, is_spare_for, keeping, kept_spare, no_reference, place_in, planned, recovered_record, spares_after, spares_of, with_spare}
use Rattle.ddf_rewrite.specs.Hold.{CanHold, FitsArray, FitsMember, FitsPlan, FitsPosition}
use Rattle.ddf_rewrite.specs.Wanted.{Wanted, all_wanted}
use Rattle.ddf_rewrite.proofs.Lists.{all_at}
use Rattle.ddf_rewrite.proofs.AllWanted.{wanted_place}

-- ---- associated spares

abbrev Small : ℕ → Type 0
Small n = n < 2 ^ 32

-- eight references
record AreSpares (spares : List ℕ) : Type 0 where
  count : length spares ≡ 8
  small : AllByRecursion Small spares

with_count : (places : List ℕ) (reference : ℕ) → length (with_spare places reference) ≡ length places
with_count [] reference = refl
with_count (place ∷ places) reference = go (with_count places reference) (eqb place no_reference)
  where
    go : length (with_spare places reference) ≡ length places → (b : Bool) → length (cond b (reference ∷ places) (place ∷ with_spare places reference)) ≡ suc (length places)
    go rest true = refl
    go rest false = ap suc rest

with_small : (places : List ℕ) (reference : ℕ) → Small reference → AllByRecursion Small places → AllByRecursion Small (with_spare places reference)
with_small [] reference new all = tt
with_small (place ∷ places) reference new all = go (with_small places reference new all.1) (eqb place no_reference)
  where
    go : AllByRecursion Small (with_spare places reference) → (b : Bool) → AllByRecursion Small (cond b (reference ∷ places) (place ∷ with_spare places reference))
    go rest true = (new, all.1)
    go rest false = (all.0, rest)

add_spares : (places : List ℕ) (reference : ℕ) → Small reference → AreSpares places → AreSpares (add_spare places reference)
add_spares places reference new are = go (contains places reference)
  where
    go : (b : Bool) → AreSpares (cond b places (with_spare places reference))
    go true = are
    go false = record { count = with_count places reference ∙ are.count; small = with_small places reference new are.small }

add_all : (references places : List ℕ) → AllByRecursion Small references → AreSpares places → AreSpares (fold add_spare places references)
add_all [] places new are = are
add_all (reference ∷ references) places new are = add_all references (add_spare places reference) new.1 (add_spares places reference new.0 are)

kept_small : (config : Configuration) (dedicated : List ℕ) (spares : List ℕ) → AllByRecursion Small spares → AllByRecursion Small (map (kept_spare config dedicated) spares)
kept_small config dedicated [] all = tt
kept_small config dedicated (reference ∷ spares) all = (go (is_some (lookup (nat_eq reference) config.members) && not (contains dedicated reference)), kept_small config dedicated spares all.1)
  where
    go : (b : Bool) → Small (cond b no_reference reference)
    go true = omega arith
    go false = all.0

spares_small : (array : List ℕ) (members : List (ℕ × Member)) → AllByRecursion FitsMember members → AllByRecursion Small (map (λ entry. entry.0) (filter (λ entry. is_spare_for array entry.1.spare) members))
spares_small array [] fit = tt
spares_small array (entry ∷ members) fit = go (spares_small array members fit.1) (is_spare_for array entry.1.spare) refl
  where
    go : AllByRecursion Small (map (λ one. one.0) (filter (λ one. is_spare_for array one.1.spare) members)) → (b : Bool) → is_spare_for array entry.1.spare ≡ b
        → AllByRecursion Small (map (λ one. one.0) (filter (λ one. is_spare_for array one.1.spare) (entry ∷ members)))
    go rest true e = rw e (fit.0.reference, rest)
    go rest false e = rw e rest

are_spares_after : (config : Configuration) (array : List ℕ) (spares : List ℕ) → AllByRecursion FitsMember config.members → AreSpares spares → AreSpares (spares_after config array spares)
unfolding spares_after
are_spares_after config array spares fit are =
    add_all (spares_of config array) (map (kept_spare config (spares_of config array)) spares) (spares_small array config.members fit)
    (record { count = length-map spares (kept_spare config (spares_of config array)) ∙ are.count; small = kept_small config (spares_of config array) spares are.small })

-- ---- the fields

pub record HasFields (element : ElementValue) : Type 0 where
  pub array : length element.array ≡ 24
  pub timestamp : element.timestamp < 2 ^ 32
  pub sequence : element.sequence < 2 ^ 32
  pub strip : element.strip < 2 ^ 8
  pub level : element.level < 2 ^ 8
  pub qualifier : element.qualifier < 2 ^ 8
  pub elements : element.elements < 2 ^ 8
  pub index : element.index < 2 ^ 8
  pub secondary : element.secondary < 2 ^ 8
  pub blocks : element.blocks < 2 ^ 64
  pub size : element.size < 2 ^ 64
  pub block_size : element.block_size < 2 ^ 16
  pub spares_count : length element.spares ≡ 8
  pub spares_small : AllByRecursion (λ n. n < 2 ^ 32) element.spares
  pub references : AllByRecursion (λ n. n < 2 ^ 32) (map (λ member. member.reference) element.members)
  pub starts : AllByRecursion (λ n. n < 2 ^ 64) (map (λ member. member.start) element.members)

fields_from : (most : ℕ) (element : ElementValue) → AllByRecursion Fits (element_fields most element) → HasFields element
fields_from most element (array, (timestamp, (sequence, (count, (strip, (level, (qualifier, (elements, (index, (secondary, (blocks, (size, (block_size, (spares, (references, (starts, _)))))))))))))))) = record {
  array = array;
  timestamp = timestamp;
  sequence = sequence;
  strip = strip;
  level = level;
  qualifier = qualifier;
  elements = elements;
  index = index;
  secondary = secondary;
  blocks = blocks;
  size = size;
  block_size = block_size;
  spares_count = spares.0;
  spares_small = spares.1;
  references = references.1;
  starts = starts.1;
}

fields_fit : (most : ℕ) (element : ElementValue) → HasFields element → length element.members < 2 ^ 16 → AllByRecursion Fits (element_fields most element)
fields_fit most element has count =
    let references = length-map element.members (λ (member : Place). member.reference) in
    let starts = length-map element.members (λ (member : Place). member.start) in
    (has.array, (has.timestamp, (has.sequence, (count, (has.strip, (has.level, (has.qualifier, (has.elements, (has.index, (has.secondary, (has.blocks, (has.size, (has.block_size, ((has.spares_count, has.spares_small), ((references, has.references), ((starts, has.starts), tt))))))))))))))))

-- ---- no fault

-- what each fault tests
pub record IsAllowed (most : ℕ) (element : ElementValue) : Type 0 where
  pub members : (eqb (length element.members) 0 || ltb most (length element.members) || ltb 64 (length element.members)) ≡ false
  pub strip : (nat_lt 31 element.strip && not (has_no_strip element.level element.elements)) ≡ false
  pub secondary : (eqb element.elements 0 || ltb 16 element.elements || leb element.elements element.index) ≡ false
  pub block : not (list_any (λ n. eqb element.block_size n) (0 ∷ 512 ∷ 0xFFFF ∷ [])) ≡ false

allowed_from : (most : ℕ) (element : ElementValue) → element_fault most element ≡ None → IsAllowed most element
unfolding fault_of
allowed_from most element h =
    let none = none_first (element_faults_of most (length element.members) element.strip element.level element.elements element.index element.block_size) h in
    record {
      members = none_when (eqb (length element.members) 0 || ltb most (length element.members) || ltb 64 (length element.members)) (faults.Members (length element.members)) none.0;
      strip = none_when (nat_lt 31 element.strip && not (has_no_strip element.level element.elements)) (faults.Stripe element.strip) none.1.0;
      secondary = none_when (eqb element.elements 0 || ltb 16 element.elements || leb element.elements element.index) (faults.Secondary element.elements) none.1.1.0;
      block = none_when (not (list_any (λ n. eqb element.block_size n) (0 ∷ 512 ∷ 0xFFFF ∷ []))) (faults.Block element.block_size) none.1.1.1.0;
    }

no_fault : (most : ℕ) (element : ElementValue) → IsAllowed most element → element_fault most element ≡ None
unfolding fault_of
no_fault most element is = rw (is.members, is.strip, is.secondary, is.block) refl

-- ---- a record with these bytes

pub few_members : (most : ℕ) (element : ElementValue) → IsAllowed most element → HasMembers most (length element.members)
few_members most element is = has_members most (length element.members) element.strip element.level element.elements element.index element.block_size (no_fault most element is)

pub can_be_over : (geometry : Geometry) (bytes : List ℕ) (element : ElementValue) → HasRoom geometry → length bytes ≡ record_size geometry → HasFields element → IsAllowed geometry.max_members element
    → CanBeElement geometry (record element { rest = element_unread geometry bytes element })
can_be_over geometry bytes element room long has is =
    let few = few_members geometry.max_members element is in
    element_over_can geometry bytes element room long (fields_fit geometry.max_members element has (let least = few.few in omega (arith, least))) (no_fault geometry.max_members element is)

-- the bytes of a record have its size
bytes_long : (geometry : Geometry) (element : ElementValue) → HasRoom geometry → CanBeElement geometry element → length (element_bytes geometry element) ≡ record_size geometry
bytes_long geometry element room can =
    let few = allowed geometry element can.is_element in
    let within = element_within geometry.max_members element (length element.rest) few (omega (arith, room.whole, can.size)) in
    (written_outside (element_fields geometry.max_members element) element.rest within.1 can.is_record.fields_fit).size ∙ can.size

new_long : (geometry : Geometry) → HasRoom geometry → length (new_record_bytes geometry) ≡ record_size geometry
unfolding new_record_bytes
new_long geometry room =
    let long : length (ffs (record_size geometry)) ≡ record_size geometry = length-replicate {A = ℕ} (record_size geometry) 255 in
    length-placed (ffs (record_size geometry)) CACHE_AT (replicate 8 0) (omega (arith, long, room.whole)) ∙ long
  where
    ffs : ℕ → List ℕ
    ffs n = replicate n 255

-- ---- what a configuration gives

-- an element of the configuration, with what holds of it
pub record IsGiven (most : ℕ) (config : Configuration) (wanted : Wanted) : Type 0 where
  pub array : length wanted.guid ≡ 24
  pub secondary : wanted.array.secondary < 2 ^ 8
  pub few : length wanted.array.elements ≤ 16
  pub index : wanted.index < length wanted.array.elements
  pub plan : FitsPlan most wanted
  pub members : AllByRecursion FitsMember config.members
  pub sequence : config.sequence < 2 ^ 32

pub given : (most : ℕ) (config : Configuration) → CanHold most config → AreReadable config → (n : ℕ) (wanted : Wanted) → slice_get (all_wanted config) n ≡ Some wanted → IsGiven most config wanted
given most config can readable n wanted at =
    let is = wanted_place config n wanted at in
    let fits = all_at FitsArray config.arrays is.a is.entry can.arrays is.at in
    let read = all_at (λ (entry : List ℕ × Array). IsReadable entry.1) config.arrays is.a is.entry readable is.at in
    let lt = place_within is.entry.1.elements wanted.index (Some wanted.plan) is.there in
    record {
      array = ap length is.guid_is ∙ fits.guid;
      secondary = subst (λ (a : Array). a.secondary < 2 ^ 8) (sym is.array_is) fits.secondary;
      few = subst (λ (a : Array). length a.elements ≤ 16) (sym is.array_is) read.few;
      index = subst (λ (a : Array). wanted.index < length a.elements) (sym is.array_is) lt;
      plan = can.plans n wanted at;
      members = can.members;
      sequence = can.sequence;
    }

references_small : (positions : List Position) → AllByRecursion FitsPosition positions → AllByRecursion (λ n. n < 2 ^ 32) (map (λ (member : Place). member.reference) (map place_in positions))
references_small [] all = tt
references_small (x ∷ positions) all = (all.0.reference, references_small positions all.1)

starts_small : (positions : List Position) → AllByRecursion FitsPosition positions → AllByRecursion (λ n. n < 2 ^ 64) (map (λ (member : Place). member.start) (map place_in positions))
starts_small [] all = tt
starts_small (x ∷ positions) all = (all.0.start, starts_small positions all.1)

planned_fields : (most : ℕ) (config : Configuration) (wanted : Wanted) (element : ElementValue) → IsGiven most config wanted → element.timestamp < 2 ^ 32 → element.sequence < 2 ^ 32 → element.size < 2 ^ 64 → element.block_size < 2 ^ 16 → AreSpares element.spares
    → HasFields (planned config wanted element)
planned_fields most config wanted element is timestamp sequence size block_size spares =
    let after = are_spares_after config wanted.guid element.spares is.members spares in
    record {
      array = is.array;
      timestamp = timestamp;
      sequence = sequence;
      strip = is.plan.strip;
      level = is.plan.level;
      qualifier = is.plan.qualifier;
      elements = omega (arith, is.few);
      index = omega (arith, is.few, is.index);
      secondary = is.secondary;
      blocks = is.plan.blocks;
      size = size;
      block_size = block_size;
      spares_count = after.count;
      spares_small = after.small;
      references = references_small wanted.plan.positions is.plan.positions;
      starts = starts_small wanted.plan.positions is.plan.positions;
    }

planned_allowed : (most : ℕ) (config : Configuration) (wanted : Wanted) (element : ElementValue) → IsGiven most config wanted → not (list_any (λ n. eqb element.block_size n) (0 ∷ 512 ∷ 0xFFFF ∷ [])) ≡ false
    → IsAllowed most (planned config wanted element)
planned_allowed most config wanted element is block =
    let count : length (map place_in wanted.plan.positions) ≡ length wanted.plan.positions = length-map wanted.plan.positions place_in in
    record {
      members = subst (λ (n : ℕ). (eqb n 0 || ltb most n || ltb 64 n) ≡ false) (sym count)
          (or_three (eqb (length wanted.plan.positions) 0) (ltb most (length wanted.plan.positions)) (ltb 64 (length wanted.plan.positions))
          (ne_eqb (length wanted.plan.positions) 0 (λ (e : length wanted.plan.positions ≡ 0). absurd (let some = is.plan.some in omega (arith, some, e))))
          (le-ltb most (length wanted.plan.positions) is.plan.allowed) (le-ltb 64 (length wanted.plan.positions) is.plan.few));
      strip = is.plan.has_strip;
      secondary = or_three (eqb (length wanted.array.elements) 0) (ltb 16 (length wanted.array.elements)) (leb (length wanted.array.elements) wanted.index)
          (ne_eqb (length wanted.array.elements) 0 (λ (e : length wanted.array.elements ≡ 0). absurd (let lt = is.index in omega (arith, lt, e))))
          (le-ltb 16 (length wanted.array.elements) is.few)
          (lt-leb (length wanted.array.elements) wanted.index is.index);
      block = block;
    }

-- ---- a record after a change

-- a record that fits
pub record IsFit (most : ℕ) (element : ElementValue) : Type 0 where
  pub has : HasFields element
  pub is : IsAllowed most element

pub fit_from : (geometry : Geometry) (element : ElementValue) → CanBeElement geometry element → IsFit geometry.max_members element
fit_from geometry element can = record { has = fields_from geometry.max_members element can.is_record.fields_fit; is = allowed_from geometry.max_members element can.is_element }

eights : AreSpares (replicate 8 no_reference)
eights = record { count = refl; small = (omega arith, (omega arith, (omega arith, (omega arith, (omega arith, (omega arith, (omega arith, (omega arith, tt)))))))) }

size_small : (revision : Revision) → block_size_of revision < 2 ^ 16
size_small R100 = omega arith
size_small R120 = omega arith
size_small R200 = omega arith

size_known : (revision : Revision) → not (list_any (λ n. eqb (block_size_of revision) n) (0 ∷ 512 ∷ 0xFFFF ∷ [])) ≡ false
size_known R100 = refl
size_known R120 = refl
size_known R200 = refl

abbrev bare : Configuration → ℕ → Revision → Wanted → ElementValue
bare config timestamp revision wanted = record {
  array = wanted.guid;
  timestamp = timestamp;
  sequence = config.sequence;
  strip = 0;
  level = 0;
  qualifier = 0;
  elements = 0;
  index = 0;
  secondary = 0;
  blocks = 0;
  size = array_capacity wanted.array;
  block_size = block_size_of revision;
  spares = replicate 8 no_reference;
  members = [];
  rest = [];
}

created_fit : (most : ℕ) (config : Configuration) (timestamp : ℕ) (revision : Revision) (wanted : Wanted) → IsGiven most config wanted → timestamp < 2 ^ 32 → array_capacity wanted.array < 2 ^ 64 → IsFit most (created config timestamp revision wanted)
created_fit most config timestamp revision wanted is time size = record {
  has = planned_fields most config wanted (bare config timestamp revision wanted) is time is.sequence size (size_small revision) eights;
  is = planned_allowed most config wanted (bare config timestamp revision wanted) is (size_known revision);
}

-- with another timestamp, sequence or block size
restamped : (most : ℕ) (element : ElementValue) (timestamp sequence block_size : ℕ) → IsFit most element → timestamp < 2 ^ 32 → sequence < 2 ^ 32 → block_size < 2 ^ 16 → not (list_any (λ n. eqb block_size n) (0 ∷ 512 ∷ 0xFFFF ∷ [])) ≡ false
    → IsFit most (record element { timestamp = timestamp; sequence = sequence; block_size = block_size })
restamped most element timestamp sequence block_size fit time number size known = record {
  has = record {
    array = fit.has.array;
    timestamp = time;
    sequence = number;
    strip = fit.has.strip;
    level = fit.has.level;
    qualifier = fit.has.qualifier;
    elements = fit.has.elements;
    index = fit.has.index;
    secondary = fit.has.secondary;
    blocks = fit.has.blocks;
    size = fit.has.size;
    block_size = size;
    spares_count = fit.has.spares_count;
    spares_small = fit.has.spares_small;
    references = fit.has.references;
    starts = fit.has.starts;
  };
  is = record { members = fit.is.members; strip = fit.is.strip; secondary = fit.is.secondary; block = known };
}

altered_fit : (most : ℕ) (config : Configuration) (timestamp : ℕ) (wanted : Wanted) (element : ElementValue) → IsGiven most config wanted → timestamp < 2 ^ 32 → IsFit most element → IsFit most (altered config timestamp wanted element)
unfolding altered
altered_fit most config timestamp wanted element is time fit = go (same_record element (planned config wanted element))
  where
    spares : AreSpares element.spares
    spares = record { count = fit.has.spares_count; small = fit.has.spares_small }

    new : IsFit most (planned config wanted element)
    new = record {
      has = planned_fields most config wanted element is fit.has.timestamp fit.has.sequence fit.has.size fit.has.block_size spares;
      is = planned_allowed most config wanted element is fit.is.block;
    }

    go : (b : Bool) → IsFit most (cond b element (record (planned config wanted element) { timestamp = timestamp; sequence = config.sequence }))
    go true = fit
    go false = restamped most (planned config wanted element) timestamp config.sequence element.block_size new time is.sequence fit.has.block_size fit.is.block

keeping_fit : (most : ℕ) (own leader element : ElementValue) → IsFit most own → IsFit most element → IsFit most (keeping own leader element)
keeping_fit most own leader element mine fit = go (same_record own leader) (same_record leader element)
  where
    go : (b c : Bool) → IsFit most (cond b (record element { block_size = own.block_size; timestamp = cond c own.timestamp element.timestamp }) element)
    go true true = restamped most element own.timestamp element.sequence own.block_size fit mine.has.timestamp fit.has.sequence mine.has.block_size mine.is.block
    go true false = restamped most element element.timestamp element.sequence own.block_size fit fit.has.timestamp fit.has.sequence mine.has.block_size mine.is.block
    go false c = fit

-- the disk's own record and the leader's can be written
abbrev pub CanBeHeld : Geometry → Option HeldRecord → Type 0
CanBeHeld geometry None = Unit {0}
CanBeHeld geometry (Some held) = CanBeElement geometry held.element

-- The record of an element after a change can be written.
pub changed_can : (config : Configuration) (timestamp : ℕ) (geometry : Geometry) (revision : Revision) (own leader : Option HeldRecord) (wanted : Wanted) → HasRoom geometry → IsGiven geometry.max_members config wanted
    → timestamp < 2 ^ 32 → (leader ≡ None → array_capacity wanted.array < 2 ^ 64) → CanBeHeld geometry own → CanBeHeld geometry leader → CanBeElement geometry (changed_record config timestamp geometry revision own leader wanted)
unfolding changed_record
changed_can config timestamp geometry revision None None wanted room is time size mine theirs =
    let fit = created_fit geometry.max_members config timestamp revision wanted is time (size refl) in
    can_be_over geometry (new_record_bytes geometry) (created config timestamp revision wanted) room (new_long geometry room) fit.has fit.is
changed_can config timestamp geometry revision (Some own) None wanted room is time size mine theirs =
    let fit = created_fit geometry.max_members config timestamp revision wanted is time (size refl) in
    can_be_over geometry (element_bytes geometry own.element) (created config timestamp revision wanted) room (bytes_long geometry own.element room mine) fit.has fit.is
changed_can config timestamp geometry revision None (Some leader) wanted room is time size mine theirs =
    let fit = altered_fit geometry.max_members config timestamp wanted leader.element is time (fit_from geometry leader.element theirs) in
    can_be_over geometry (element_bytes geometry leader.element) (altered config timestamp wanted leader.element) room (bytes_long geometry leader.element room theirs) fit.has fit.is
changed_can config timestamp geometry revision (Some own) (Some leader) wanted room is time size mine theirs =
    let changed = altered_fit geometry.max_members config timestamp wanted leader.element is time (fit_from geometry leader.element theirs) in
    let fit = keeping_fit geometry.max_members own.element leader.element (altered config timestamp wanted leader.element) (fit_from geometry own.element mine) changed in
    can_be_over geometry (element_bytes geometry own.element) (keeping own.element leader.element (altered config timestamp wanted leader.element)) room (bytes_long geometry own.element room mine) fit.has fit.is

-- and after a recovery
pub recovered_can : (geometry : Geometry) (own : Option HeldRecord) (leader : ElementValue) → HasRoom geometry → CanBeHeld geometry own → CanBeElement geometry leader → CanBeElement geometry (recovered_record geometry own leader)
unfolding recovered_record
recovered_can geometry None leader room mine theirs =
    let fit = fit_from geometry leader theirs in
    can_be_over geometry (element_bytes geometry leader) leader room (bytes_long geometry leader room theirs) fit.has fit.is
recovered_can geometry (Some own) leader room mine theirs =
    let fit = fit_from geometry leader theirs in
    can_be_over geometry (element_bytes geometry own.element) leader room (bytes_long geometry own.element room mine) fit.has fit.is
