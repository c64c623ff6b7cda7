-- What leaders hold whose copies can be written.
use Rattle.std.proofs.Common.{◌≡◌, ℕ, ◌*◌, ◌⊎◌, inl, inr, Bool, true, false, ◌||◌, eqb, IsTrue, List, [], ◌∷◌, map, None, refl, ap, sym, ◌∙◌, subst, arith}
use Rattle.std.proofs.lemmas.Bool.{eqb-true, false≢true}
use Rattle.std.specs.Prelude.{filter_map}
use Rattle.std.specs.List.{AllByRecursion}
use Rattle.ddf_lemmas.proofs.Lists.{all_append}
use Rattle.ddf_seal.specs.Records.{IsRecord}
use Rattle.ddf_header.specs.declared.geometry.Geometry.{Geometry}
use Rattle.ddf_header.specs.Geometry.{IsSound, is_member_maximum, record_sectors}
use Rattle.ddf_header.proofs.Sound.{sound}
use Rattle.ddf_tables.specs.declared.disks.DiskEntry.{DiskEntry}
use Rattle.ddf_tables.specs.Disks.{is_no_disk}
use Rattle.ddf_config_records.specs.ElementValue.{ElementValue}
use Rattle.ddf_config_records.specs.Elements.{element_fields, element_fault, CanBeElement}
use Rattle.ddf_copy.specs.declared.copy.DiskCopy.{DiskCopy}
use Rattle.ddf_copy.specs.Written.{CanBeCopy}
use Rattle.ddf_view.specs.Reading.{elements_in}
use Rattle.ddf_view.specs.View.{HeldRecord, View, disk_of, notes_of, view_of}
use Rattle.ddf_rewrite.specs.Before.{before}
use Rattle.ddf_rewrite.specs.Hold.{AreDisks, AreHeld, IsLeader}
use Rattle.ddf_rewrite.proofs.RowsCan.{own_disks_good}
use Rattle.ddf_rewrite.proofs.SlotsCan.{elements_can}
use Rattle.ddf_view.proofs.Names.{names_differ, references}

-- ---- the length of a record

abbrev IsKnown : ℕ → Type 0
IsKnown m = (m ≡ 16) ⊎ ((m ≡ 64) ⊎ ((m ≡ 256) ⊎ ((m ≡ 1024) ⊎ (m ≡ 4096))))

one_of : (m : ℕ) (a b c d e : Bool) → (a ≡ true → m ≡ 16) → (b ≡ true → m ≡ 64) → (c ≡ true → m ≡ 256) → (d ≡ true → m ≡ 1024) → (e ≡ true → m ≡ 4096) → IsTrue (a || (b || (c || (d || (e || false))))) → IsKnown m
one_of m true b c d e ha hb hc hd he h = inl (ha refl)
one_of m false true c d e ha hb hc hd he h = inr (inl (hb refl))
one_of m false false true d e ha hb hc hd he h = inr (inr (inl (hc refl)))
one_of m false false false true e ha hb hc hd he h = inr (inr (inr (inl (hd refl))))
one_of m false false false false true ha hb hc hd he h = inr (inr (inr (inr (he refl))))
one_of m false false false false false ha hb hc hd he h = absurd (false≢true h)

known : (m : ℕ) → IsTrue (is_member_maximum m) → IsKnown m
unfolding is_member_maximum
known m h = one_of m (eqb m 16) (eqb m 64) (eqb m 256) (eqb m 1024) (eqb m 4096) (eqb-true m 16) (eqb-true m 64) (eqb-true m 256) (eqb-true m 1024) (eqb-true m 4096) h

-- Geometries with records of one length allow as many members.
pub same_members : (one other : Geometry) → IsSound one → IsSound other → one.record_length ≡ other.record_length → one.max_members ≡ other.max_members
same_members one other is also same =
    let first = known one.max_members is.members_known in
    let second = known other.max_members also.members_known in
    let lengths : record_sectors one.max_members ≡ record_sectors other.max_members = sym is.records_fit ∙ same ∙ also.records_fit in
    omega (arith, lengths, first, second)

element_moved : (one other : Geometry) (element : ElementValue) → one.max_members ≡ other.max_members → one.record_length ≡ other.record_length → CanBeElement one element → CanBeElement other element
element_moved one other element members size can = record {
  size = can.size ∙ ap (λ (n : ℕ). 512 * n) size;
  is_element = subst (λ (m : ℕ). element_fault m element ≡ None) members can.is_element;
  is_record = subst (λ (m : ℕ). IsRecord (element_fields m element) element.rest) members can.is_record;
}

all_moved : (one other : Geometry) (elements : List HeldRecord) → one.max_members ≡ other.max_members → one.record_length ≡ other.record_length → AllByRecursion (λ held. CanBeElement one held.element) elements → AllByRecursion (λ held. CanBeElement other held.element) elements
all_moved one other [] members size all = tt
all_moved one other (held ∷ elements) members size all = (element_moved one other held.element members size all.0, all_moved one other elements members size all.1)

view_elements_can : (copy : DiskCopy) → CanBeCopy copy → AllByRecursion (λ held. CanBeElement copy.header.geometry held.element) (view_of copy).elements
unfolding view_of
view_elements_can copy is = elements_can copy.header.geometry copy.header.guid copy.header.sequence (notes_of copy) copy.slots is.slots_can

-- The records of copies that can be written, with records of one length, can stand under a geometry.
pub leaders_held : (geometry : Geometry) (copies : List DiskCopy) → IsSound geometry → AllByRecursion (IsLeader geometry) copies → AreHeld geometry (before (map view_of copies))
leaders_held geometry [] is all = tt
leaders_held geometry (copy ∷ copies) is all =
    let leader = all.0 in
    let also = sound copy.header.geometry leader.is_copy.header_can.is_header.has_geometry in
    all_append (λ held. CanBeElement geometry held.element) (view_of copy).elements (elements_in (map view_of copies))
    (all_moved copy.header.geometry geometry (view_of copy).elements (same_members copy.header.geometry geometry also is leader.same_records) leader.same_records (view_elements_can copy leader.is_copy))
    (leaders_held geometry copies is all.1)

-- The entries of a copy that can be written can be.
pub leader_disks : (copy : DiskCopy) (views : List View) → CanBeCopy copy → AreDisks (before (view_of copy ∷ views)).disks
unfolding view_of
leader_disks copy views is =
    let names = is.disks_can.have_names in
    let same = references copy.disks.rows in
    record {
      can = own_disks_good copy.disks.rows is.disks_can.rows_good;
      named = from_map (filter_map disk_of copy.disks.rows) (subst (λ (l : List ℕ). AllByRecursion (λ reference. is_no_disk reference ≡ false) l) same names.each_names);
      apart = (names_differ copy views is).references;
    }
  where
    from_map : (all : List DiskEntry) → AllByRecursion (λ reference. is_no_disk reference ≡ false) (map (λ (disk : DiskEntry). disk.reference) all) → AllByRecursion (λ disk. is_no_disk disk.reference ≡ false) all
    from_map [] h = tt
    from_map (disk ∷ all) h = (h.0, from_map all h.1)
