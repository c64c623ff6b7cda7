-- The record of each element that a disk is to hold has the fields that the configuration gives.
use Rattle.std.proofs.Common.{◌≡◌, ℕ, Bool, true, false, ◌&&◌, cond, eqb, List, [], ◌∷◌, length, map, Option, Some, None, refl, ap, sym, ◌∙◌}
use Rattle.std.proofs.lemmas.Bool.{and_parts, eqb-true, eq-eqb}
use Rattle.std.specs.Str.{bytes_eq}
use Rattle.ddf_header.specs.declared.geometry.Geometry.{Geometry}
use Rattle.ddf_header.specs.declared.kind.Revision.{Revision}
use Rattle.ddf_config_records.specs.declared.place.Place.{Place}
use Rattle.ddf_config_records.specs.ElementValue.{ElementValue}
use Rattle.std.specs.Cmp.Lexicographic.{pointwise}
use Rattle.ddf_lemmas.proofs.Lists.{bytes_same}
use Rattle.ddf_config_records.specs.Building.{element_over}
use Rattle.ddf_config.specs.Configuration.{Configuration}
use Rattle.ddf_view.specs.Differ.{same_member_place, same_record}
use Rattle.ddf_view.specs.View.{HeldRecord}
use Rattle.ddf_view.proofs.Tests.{same_bytes, match_same}
use Rattle.ddf_rewrite.specs.Elements.{altered, changed_record, created, keeping, place_in, planned}
use Rattle.ddf_rewrite.specs.Wanted.{Wanted}
use Rattle.ddf_rewrite.proofs.Plans.{HasPlan}

-- a record has the fields of a wanted element
pub record IsPlanned (wanted : Wanted) (element : ElementValue) : Type 0 where
  pub array : element.array ≡ wanted.guid
  pub index : element.index ≡ wanted.index
  pub count : element.elements ≡ length wanted.array.elements
  pub secondary : element.secondary ≡ wanted.array.secondary
  pub level : element.level ≡ wanted.plan.level
  pub qualifier : element.qualifier ≡ wanted.plan.qualifier
  pub strip : element.strip ≡ wanted.plan.strip
  pub blocks : element.blocks ≡ wanted.plan.blocks
  pub members : element.members ≡ map place_in wanted.plan.positions

pub has_plan : (wanted : Wanted) (element : ElementValue) → IsPlanned wanted element → HasPlan element wanted.plan
has_plan wanted element is = record { level = is.level; qualifier = is.qualifier; strip = is.strip; blocks = is.blocks; members = is.members }

planned_is : (config : Configuration) (wanted : Wanted) (element : ElementValue) → IsPlanned wanted (planned config wanted element)
planned_is config wanted element = record { array = refl; index = refl; count = refl; secondary = refl; level = refl; qualifier = refl; strip = refl; blocks = refl; members = refl }

make_place : (reference start : ℕ) → Place
make_place reference start = record { reference = reference; start = start }

place_same : (a b : Place) → same_member_place a b ≡ true → a ≡ b
unfolding make_place
place_same a b h =
    let parts = and_parts (eqb a.reference b.reference) (eqb a.start b.start) h in
    let reference : a.reference ≡ b.reference = eqb-true a.reference b.reference parts.0 in
    let start : a.start ≡ b.start = eqb-true a.start b.start parts.1 in
    let made : make_place a.reference a.start ≡ make_place b.reference b.start = rw (reference, start) refl in
    made

-- the fields of two records that are the same
pub record AreSame (one other : ElementValue) : Type 0 where
  pub array : one.array ≡ other.array
  pub sequence : one.sequence ≡ other.sequence
  pub strip : one.strip ≡ other.strip
  pub level : one.level ≡ other.level
  pub qualifier : one.qualifier ≡ other.qualifier
  pub count : one.elements ≡ other.elements
  pub index : one.index ≡ other.index
  pub secondary : one.secondary ≡ other.secondary
  pub blocks : one.blocks ≡ other.blocks
  pub size : one.size ≡ other.size
  pub spares : one.spares ≡ other.spares
  pub members : one.members ≡ other.members

pub same_self : (one : ElementValue) → AreSame one one
same_self one =
    record { array = refl; sequence = refl; strip = refl; level = refl; qualifier = refl; count = refl; index = refl; secondary = refl; blocks = refl; size = refl; spares = refl; members = refl }

pub same_back : {one other : ElementValue} → AreSame one other → AreSame other one
same_back is = record {
  array = sym is.array;
  sequence = sym is.sequence;
  strip = sym is.strip;
  level = sym is.level;
  qualifier = sym is.qualifier;
  count = sym is.count;
  index = sym is.index;
  secondary = sym is.secondary;
  blocks = sym is.blocks;
  size = sym is.size;
  spares = sym is.spares;
  members = sym is.members;
}

pub same_on : {one other third : ElementValue} → AreSame one other → AreSame other third → AreSame one third
same_on p q = record {
  array = p.array ∙ q.array;
  sequence = p.sequence ∙ q.sequence;
  strip = p.strip ∙ q.strip;
  level = p.level ∙ q.level;
  qualifier = p.qualifier ∙ q.qualifier;
  count = p.count ∙ q.count;
  index = p.index ∙ q.index;
  secondary = p.secondary ∙ q.secondary;
  blocks = p.blocks ∙ q.blocks;
  size = p.size ∙ q.size;
  spares = p.spares ∙ q.spares;
  members = p.members ∙ q.members;
}

pub are_same : (one other : ElementValue) → same_record one other ≡ true → AreSame one other
unfolding same_record
are_same one other h =
    let a = bytes_eq one.array other.array in
    let b = eqb one.sequence other.sequence in
    let c = eqb one.strip other.strip in
    let d = eqb one.level other.level in
    let e = eqb one.qualifier other.qualifier in
    let f = eqb one.elements other.elements in
    let g = eqb one.index other.index in
    let i = eqb one.secondary other.secondary in
    let j = eqb one.blocks other.blocks in
    let k = eqb one.size other.size in
    let l = bytes_eq one.spares other.spares in
    let m = pointwise same_member_place one.members other.members in
    let p12 = and_parts (a && b && c && d && e && f && g && i && j && k && l) m h in
    let p11 = and_parts (a && b && c && d && e && f && g && i && j && k) l p12.0 in
    let p10 = and_parts (a && b && c && d && e && f && g && i && j) k p11.0 in
    let p9 = and_parts (a && b && c && d && e && f && g && i) j p10.0 in
    let p8 = and_parts (a && b && c && d && e && f && g) i p9.0 in
    let p7 = and_parts (a && b && c && d && e && f) g p8.0 in
    let p6 = and_parts (a && b && c && d && e) f p7.0 in
    let p5 = and_parts (a && b && c && d) e p6.0 in
    let p4 = and_parts (a && b && c) d p5.0 in
    let p3 = and_parts (a && b) c p4.0 in
    let p2 = and_parts a b p3.0 in
    record {
      array = same_bytes one.array other.array p2.0;
      sequence = eqb-true one.sequence other.sequence p2.1;
      strip = eqb-true one.strip other.strip p3.1;
      level = eqb-true one.level other.level p4.1;
      qualifier = eqb-true one.qualifier other.qualifier p5.1;
      count = eqb-true one.elements other.elements p6.1;
      index = eqb-true one.index other.index p7.1;
      secondary = eqb-true one.secondary other.secondary p8.1;
      blocks = eqb-true one.blocks other.blocks p9.1;
      size = eqb-true one.size other.size p10.1;
      spares = same_bytes one.spares other.spares p11.1;
      members = match_same same_member_place place_same one.members other.members p12.1;
    }

place_again : (a : Place) → same_member_place a a ≡ true
place_again a =
    let reference : eqb a.reference a.reference ≡ true = eq-eqb a.reference a.reference refl in
    let start : eqb a.start a.start ≡ true = eq-eqb a.start a.start refl in
    rw (reference, start) refl

places_again : (xs : List Place) → pointwise same_member_place xs xs ≡ true
places_again [] = refl
places_again (x ∷ xs) = let rest = places_again xs in rw (place_again x, rest) refl

-- records with the same fields pass the test
pub same_again : (one other : ElementValue) → AreSame one other → same_record one other ≡ true
unfolding same_record
same_again one other is =
    let a : bytes_eq one.array other.array ≡ true = ap (λ (x : List ℕ). bytes_eq x other.array) is.array ∙ bytes_same other.array in
    let b : eqb one.sequence other.sequence ≡ true = eq-eqb one.sequence other.sequence is.sequence in
    let c : eqb one.strip other.strip ≡ true = eq-eqb one.strip other.strip is.strip in
    let d : eqb one.level other.level ≡ true = eq-eqb one.level other.level is.level in
    let e : eqb one.qualifier other.qualifier ≡ true = eq-eqb one.qualifier other.qualifier is.qualifier in
    let f : eqb one.elements other.elements ≡ true = eq-eqb one.elements other.elements is.count in
    let g : eqb one.index other.index ≡ true = eq-eqb one.index other.index is.index in
    let i : eqb one.secondary other.secondary ≡ true = eq-eqb one.secondary other.secondary is.secondary in
    let j : eqb one.blocks other.blocks ≡ true = eq-eqb one.blocks other.blocks is.blocks in
    let k : eqb one.size other.size ≡ true = eq-eqb one.size other.size is.size in
    let l : bytes_eq one.spares other.spares ≡ true = ap (λ (x : List ℕ). bytes_eq x other.spares) is.spares ∙ bytes_same other.spares in
    let m : pointwise same_member_place one.members other.members ≡ true = ap (λ (x : List Place). pointwise same_member_place x other.members) is.members ∙ places_again other.members in
    rw (a, b, c, d, e, f, g, i, j, k, l, m) refl

-- ---- a record after a change

altered_is : (config : Configuration) (timestamp : ℕ) (wanted : Wanted) (element : ElementValue) → IsPlanned wanted (altered config timestamp wanted element)
unfolding altered
altered_is config timestamp wanted element = go (same_record element (planned config wanted element)) refl
  where
    go : (b : Bool) → same_record element (planned config wanted element) ≡ b → IsPlanned wanted (cond b element (record (planned config wanted element) { timestamp = timestamp; sequence = config.sequence }))
    go true e =
        let is = are_same element (planned config wanted element) e in
        record { array = is.array; index = is.index; count = is.count; secondary = is.secondary; level = is.level; qualifier = is.qualifier; strip = is.strip; blocks = is.blocks; members = is.members }
    go false e = record { array = refl; index = refl; count = refl; secondary = refl; level = refl; qualifier = refl; strip = refl; blocks = refl; members = refl }

keeping_is : (wanted : Wanted) (own leader element : ElementValue) → IsPlanned wanted element → IsPlanned wanted (keeping own leader element)
keeping_is wanted own leader element is = go (same_record own leader)
  where
    go : (b : Bool) → IsPlanned wanted (cond b (record element { block_size = own.block_size; timestamp = cond (same_record leader element) own.timestamp element.timestamp }) element)
    go true = record { array = is.array; index = is.index; count = is.count; secondary = is.secondary; level = is.level; qualifier = is.qualifier; strip = is.strip; blocks = is.blocks; members = is.members }
    go false = is

over_is : (geometry : Geometry) (bytes : ElementValue) (wanted : Wanted) (element : ElementValue) → IsPlanned wanted element → IsPlanned wanted (element_over geometry bytes element)
over_is geometry bytes wanted element is = record { array = is.array; index = is.index; count = is.count; secondary = is.secondary; level = is.level; qualifier = is.qualifier; strip = is.strip; blocks = is.blocks; members = is.members }

pub record_planned : (config : Configuration) (timestamp : ℕ) (geometry : Geometry) (revision : Revision) (own leader : Option HeldRecord) (wanted : Wanted)
    → IsPlanned wanted (changed_record config timestamp geometry revision own leader wanted)
unfolding changed_record
record_planned config timestamp geometry revision None None wanted = record { array = refl; index = refl; count = refl; secondary = refl; level = refl; qualifier = refl; strip = refl; blocks = refl; members = refl }
record_planned config timestamp geometry revision (Some own) None wanted = record { array = refl; index = refl; count = refl; secondary = refl; level = refl; qualifier = refl; strip = refl; blocks = refl; members = refl }
record_planned config timestamp geometry revision None (Some leader) wanted =
    over_is geometry leader.element wanted (altered config timestamp wanted leader.element) (altered_is config timestamp wanted leader.element)
record_planned config timestamp geometry revision (Some own) (Some leader) wanted =
    over_is geometry own.element wanted (keeping own.element leader.element (altered config timestamp wanted leader.element))
    (keeping_is wanted own.element leader.element (altered config timestamp wanted leader.element) (altered_is config timestamp wanted leader.element))

-- ---- two disks' records of one element agree

keeping_same : (own leader element : ElementValue) → AreSame element (keeping own leader element)
keeping_same own leader element = go (same_record own leader)
  where
    go : (b : Bool) → AreSame element (cond b (record element { block_size = own.block_size; timestamp = cond (same_record leader element) own.timestamp element.timestamp }) element)
    go true = record { array = refl; sequence = refl; strip = refl; level = refl; qualifier = refl; count = refl; index = refl; secondary = refl; blocks = refl; size = refl; spares = refl; members = refl }
    go false = record { array = refl; sequence = refl; strip = refl; level = refl; qualifier = refl; count = refl; index = refl; secondary = refl; blocks = refl; size = refl; spares = refl; members = refl }

-- what a change makes of the leader's record, whatever disk it is for
plain : Configuration → (timestamp : ℕ) → Revision → Option HeldRecord → Wanted → ElementValue
plain config timestamp revision None wanted = created config timestamp revision wanted
plain config timestamp revision (Some leader) wanted = altered config timestamp wanted leader.element

record_plain : (config : Configuration) (timestamp : ℕ) (geometry : Geometry) (revision : Revision) (own leader : Option HeldRecord) (wanted : Wanted)
    → AreSame (plain config timestamp revision leader wanted) (changed_record config timestamp geometry revision own leader wanted)
unfolding changed_record plain
record_plain config timestamp geometry revision None None wanted =
    record { array = refl; sequence = refl; strip = refl; level = refl; qualifier = refl; count = refl; index = refl; secondary = refl; blocks = refl; size = refl; spares = refl; members = refl }
record_plain config timestamp geometry revision (Some own) None wanted =
    record { array = refl; sequence = refl; strip = refl; level = refl; qualifier = refl; count = refl; index = refl; secondary = refl; blocks = refl; size = refl; spares = refl; members = refl }
record_plain config timestamp geometry revision None (Some leader) wanted =
    record { array = refl; sequence = refl; strip = refl; level = refl; qualifier = refl; count = refl; index = refl; secondary = refl; blocks = refl; size = refl; spares = refl; members = refl }
record_plain config timestamp geometry revision (Some own) (Some leader) wanted =
    let is = keeping_same own.element leader.element (altered config timestamp wanted leader.element) in
    record { array = is.array; sequence = is.sequence; strip = is.strip; level = is.level; qualifier = is.qualifier; count = is.count; index = is.index; secondary = is.secondary; blocks = is.blocks; size = is.size; spares = is.spares; members = is.members }

plain_same : (config : Configuration) (timestamp : ℕ) (one other : Revision) (leader : Option HeldRecord) (wanted : Wanted)
    → AreSame (plain config timestamp one leader wanted) (plain config timestamp other leader wanted)
unfolding plain
plain_same config timestamp one other None wanted =
    record { array = refl; sequence = refl; strip = refl; level = refl; qualifier = refl; count = refl; index = refl; secondary = refl; blocks = refl; size = refl; spares = refl; members = refl }
plain_same config timestamp one other (Some leader) wanted =
    record { array = refl; sequence = refl; strip = refl; level = refl; qualifier = refl; count = refl; index = refl; secondary = refl; blocks = refl; size = refl; spares = refl; members = refl }

-- The records of one element that a change gives two disks are the same in all named fields but timestamp and block size.
pub records_agree : (config : Configuration) (timestamp : ℕ) (geometry other_geometry : Geometry) (revision other_revision : Revision) (own other_own leader : Option HeldRecord) (wanted : Wanted)
    → same_record (changed_record config timestamp geometry revision own leader wanted) (changed_record config timestamp other_geometry other_revision other_own leader wanted) ≡ true
records_agree config timestamp geometry other_geometry revision other_revision own other_own leader wanted =
    same_again (changed_record config timestamp geometry revision own leader wanted) (changed_record config timestamp other_geometry other_revision other_own leader wanted)
    (same_on (same_back (record_plain config timestamp geometry revision own leader wanted))
    (same_on (plain_same config timestamp revision other_revision leader wanted) (record_plain config timestamp other_geometry other_revision other_own leader wanted)))
