-- What is read of a slot lies at or past the places of its copies.
use Rattle.std.proofs.Common.{◌≡◌, ◌∙◌, ℕ, zero, suc, ◌+◌, ◌-◌, ◌≤◌, List, ◌∷◌, Some, Result, Ok, Err, refl, sym, ap, subst, arith, map}
use Rattle.std.proofs.Math.Path.{fun_ext}
use Rattle.std.specs.List.{range_with_len}
use Rattle.ddf_header.specs.declared.geometry.Geometry.{Geometry}
use Rattle.ddf_header.specs.declared.reading.Header.{Header}
use Rattle.ddf_header.specs.Geometry.{section_of}
use Rattle.ddf_copy.specs.declared.copy.DiskCopy.{DiskCopy}
use Rattle.ddf_copy.specs.declared.fault.AnchorFault.{AnchorFault}
use Rattle.ddf_copy.specs.declared.fault.CopyFault.{CopyFault}
use Rattle.ddf_copy.specs.declared.which.Which.{Which}
use Rattle.ddf_copy.specs.declared.which.Which.TheVariants.{Primary, Secondary}
use Rattle.ddf_copy.specs.Anchor.{anchor_at}
use Rattle.ddf_copy.specs.Copies.{copy_of, newest_at, newest_of, newest_under}
use Rattle.ddf_copy.specs.Gate.{header_of}
use Rattle.ddf_copy.specs.Sections.{and_then, copy_in, raw_at, whole_slots}
use Rattle.ddf_copy.specs.Which.{place_of}
use Rattle.ddf_update.proofs.Changing.{same_anchor}

same_map : (one other : ℕ → List ℕ) (a n : ℕ) → ((l : ℕ) → a ≤ l → one l ≡ other l) → map one (range_with_len a n) ≡ map other (range_with_len a n)
same_map one other a zero same = refl
same_map one other a (suc n) same =
    ap (λ x. x ∷ map one (range_with_len (a + 1) n)) (same a (omega arith)) ∙ ap (λ l. other a ∷ l) (same_map one other (a + 1) n (λ l from. same l (omega (arith, from))))

-- a slot is read as before: its anchor, and its copies under it
pub record IsReadSame (size : ℕ) (now before : ℕ → List ℕ) : Type 0 where
  pub anchors : anchor_at size now ≡ anchor_at size before
  pub newest : (anchor : Header) → anchor_at size before ≡ Ok anchor → newest_of size now anchor ≡ newest_of size before anchor
  pub copies : (anchor : Header) (which : Which) → anchor_at size before ≡ Ok anchor → copy_of size now anchor which ≡ copy_of size before anchor which

one_anchor : (one other : Header) → ◌≡◌ {A = Result Header AnchorFault} (Ok one) (Ok other) → one ≡ other
one_anchor one other e = cc

module _ (size : ℕ) (now before : ℕ → List ℕ) (least : ℕ) (same : (l : ℕ) → least ≤ l → now l ≡ before l) where
  raw_same : (lba : ℕ) (geometry : Geometry) → least ≤ lba → raw_at now lba geometry ≡ raw_at before lba geometry
  raw_same lba geometry low =
      let s = λ (k : ℕ). section_of geometry k in
      let from : (offset : ℕ) → least ≤ lba + offset = λ offset. omega (arith, low) in
      let run : (offset count : ℕ) → map now (range_with_len (lba + offset) count) ≡ map before (range_with_len (lba + offset) count) =
      λ offset count. same_map now before (lba + offset) count (λ l at. same l (omega (arith, at, low))) in
      let controller : now (lba + (s 0).offset) ≡ before (lba + (s 0).offset) = same (lba + (s 0).offset) (from (s 0).offset) in
      let disks = run (s 1).offset (s 1).length in
      let arrays = run (s 2).offset (s 2).length in
      let records = run (whole_slots geometry).offset (whole_slots geometry).length in
      let disk_data : now (lba + (s 4).offset) ≡ before (lba + (s 4).offset) = same (lba + (s 4).offset) (from (s 4).offset) in
      let bad_blocks = run (s 5).offset (s 5).length in
      rw (controller, disks, arrays, records, disk_data, bad_blocks) refl

  header_same : (anchor : Header) (which : Which) → least ≤ place_of which anchor → header_of size now anchor which ≡ header_of size before anchor which
  unfolding header_of
  header_same anchor which low = rw (same (place_of which anchor) low) refl

  copy_same : (anchor : Header) (which : Which) → least ≤ place_of which anchor → copy_of size now anchor which ≡ copy_of size before anchor which
  unfolding copy_of
  copy_same anchor which low =
      let lba = place_of which anchor in
      ap (λ (found : Result Header CopyFault). and_then found (λ (h : Header). copy_in h (raw_at now lba h.geometry))) (header_same anchor which low)
      ∙ ap (λ (f : Header → Result DiskCopy CopyFault). and_then (header_of size before anchor which) f) (fun_ext (λ (h : Header). ap (copy_in h) (raw_same lba h.geometry low)))

  newest_same : (anchor : Header) → least ≤ place_of Primary anchor → least ≤ place_of Secondary anchor → newest_of size now anchor ≡ newest_of size before anchor
  unfolding newest_of
  newest_same anchor primary secondary = rw (copy_same anchor Primary primary, copy_same anchor Secondary secondary) refl

  -- so under the anchor that the slot has, where that and its copies lie past it
  pub read_past : (anchor : Header) → anchor_at size before ≡ Ok anchor → least ≤ size - 1 → least ≤ place_of Primary anchor → least ≤ place_of Secondary anchor → IsReadSame size now before
  read_past anchor is last primary secondary = record {
    anchors = same_anchor size now before (same (size - 1) last);
    newest = λ other at. subst (λ (a : Header). newest_of size now a ≡ newest_of size before a) (one_anchor anchor other (sym is ∙ at)) (newest_same anchor primary secondary);
    copies = λ other which at. subst (λ (a : Header). copy_of size now a which ≡ copy_of size before a which) (one_anchor anchor other (sym is ∙ at)) (by which);
  }
    where
      by : (which : Which) → copy_of size now anchor which ≡ copy_of size before anchor which
      by Primary = copy_same anchor Primary primary
      by Secondary = copy_same anchor Secondary secondary

pub read_here : (size : ℕ) (now before : ℕ → List ℕ) → now ≡ before → IsReadSame size now before
read_here size now before same = record {
  anchors = ap (anchor_at size) same;
  newest = λ anchor is. ap (λ (sector : ℕ → List ℕ). newest_of size sector anchor) same;
  copies = λ anchor which is. ap (λ (sector : ℕ → List ℕ). copy_of size sector anchor which) same;
}

pub read_newest : (size : ℕ) (now before : ℕ → List ℕ) → IsReadSame size now before → newest_at size now ≡ newest_at size before
read_newest size now before same = ap (newest_under size now) same.anchors ∙ by (anchor_at size before) refl
  where
    by : (o : Result Header AnchorFault) → anchor_at size before ≡ o → newest_under size now o ≡ newest_under size before o
    by (Ok anchor) is = ap Some (same.newest anchor is)
    by (Err fault) is = refl
