-- What a bay that is made anew sees of a slot on which a disk was founded.
use Rattle.std.proofs.Common.{◌≡◌, ◌⊎◌, ℕ, ◌-◌, ◌<◌, ◌≤◌, Bool, true, false, cond, eqb, List, ◌∷◌, Option, Some, None, Result, Ok, Err, inl, inr, refl, ap, sym, ◌∙◌, subst, arith}
use Rattle.std.proofs.Math.Path.{fun_ext}
use Rattle.std.proofs.lemmas.Bool.{eq-eqb, eqb-true, le-leb, ne_eqb}
use Rattle.std.specs.Int.{w32, w64, to_be_bytes}
use Rattle.ddf_bytes.specs.Bytes.{number_at}
use Rattle.ddf_bytes.specs.Choices.{ok_unless}
use Rattle.ddf_seal.specs.Seal.{seal_check}
use Rattle.ddf_header.specs.declared.fault.HeaderFault.{HeaderFault}
use Rattle.ddf_header.specs.declared.geometry.Geometry.{Geometry}
use Rattle.ddf_header.specs.declared.kind.HeaderKind.TheVariants.{Anchor}
use Rattle.ddf_header.specs.declared.reading.Header.{Header}
use Rattle.ddf_header.specs.declared.layout.TheConstants.{PRIMARY_LBA_AT, SECONDARY_LBA_AT}
use Rattle.ddf_header.specs.Header.{decoded, first_fault, header_at, header_signature}
use Rattle.ddf_copy.specs.declared.copy.DiskCopy.{DiskCopy}
use Rattle.ddf_copy.specs.declared.fault.AnchorFault.TheVariants.{Blank}
use Rattle.ddf_copy.specs.Anchor.{anchor_at, anchor_in, anchor_or_damage}
use Rattle.ddf_copy.specs.Headers.{anchor_header}
use Rattle.ddf_copy.proofs.Common.{by_fault}
use Rattle.ddf_update.specs.declared.new_layout.NewLayout.{NewLayout}
use Rattle.ddf_update.specs.NewLayouts.{least_sectors, primary_back, secondary_back}
use Rattle.ddf_update.specs.Update.{AreBoth}
use Rattle.ddf_linux.specs.declared.kind.SlotKind.{SlotKind}
use Rattle.ddf_linux.specs.declared.kind.SlotKind.TheVariants.{Turned}
use Rattle.ddf_linux.specs.declared.places.Copies.{Copies}
use Rattle.ddf_linux.specs.declared.places.Places.{Places}
use Rattle.ddf_linux.specs.Crcs.{constant_of}
use Rattle.ddf_linux.specs.Founded.{IsBlankOrWhole, IsOnNewDisk, IsWholeAnew, below, seen_anew}
use Rattle.ddf_linux.specs.Kinds.{kind_by, kind_if, kind_of_sectors, may_be_founded, turn, turned_by}
use Rattle.ddf_linux.specs.Layouts.{layout_of}
use Rattle.ddf_linux.specs.Places.{copies_in, names, new_places, places_of, signature_of}
use Rattle.ddf_linux.specs.Turning.{turned}
use Rattle.ddf_linux.specs.TurnLaws.{added_twice, turn_signature, turn_twice}
use Rattle.ddf_linux.proofs.NewPlaces.{anchor_turned}
use Rattle.ddf_linux.proofs.SealedBelow.{header_passed}

-- ---- the anchor by its signature

some_size : (size : ℕ) → 0 < size → eqb size 0 ≡ false
some_size size some = ne_eqb size 0 (λ (e : size ≡ 0). absurd (omega (arith, e, some)))

no_blank : (read : Result Header HeaderFault) → anchor_or_damage read ≡ Err Blank → ⊥
no_blank (Ok anchor) is = cc
no_blank (Err fault) is = cc

unnamed : (test : Bool) (read : Result Header HeaderFault) → cond test (anchor_or_damage read) (Err Blank) ≡ Err Blank → test ≡ false
unnamed true read is = absurd (no_blank read is)
unnamed false read is = refl

named : (test : Bool) (read : Result Header HeaderFault) (anchor : Header) → cond test (anchor_or_damage read) (Err Blank) ≡ Ok anchor → (test ≡ true) × (read ≡ Ok anchor)
named true read anchor is = (refl, by_fault read anchor is)
named false read anchor is = cc

module _ (size : ℕ) (some : 0 < size) (sector : ℕ → List ℕ) where
  abbrev last : List ℕ
  last = sector (size - 1)

  pub blank_unnamed : anchor_at size sector ≡ Err Blank → eqb (signature_of last) header_signature ≡ false
  unfolding anchor_at anchor_in
  blank_unnamed blank = unnamed (eqb (signature_of last) header_signature) (decoded Anchor last) (rw (some_size size some) at blank)

  pub unnamed_blank : eqb (signature_of last) header_signature ≡ false → anchor_at size sector ≡ Err Blank
  unfolding anchor_at anchor_in
  unnamed_blank none = rw (some_size size some, none) refl

  anchor_named : (anchor : Header) → anchor_at size sector ≡ Ok anchor → (eqb (signature_of last) header_signature ≡ true) × (decoded Anchor last ≡ Ok anchor)
  unfolding anchor_at anchor_in
  anchor_named anchor is = named (eqb (signature_of last) header_signature) (decoded Anchor last) anchor (rw (some_size size some) at is)

  pub anchor_read : (anchor : Header) → anchor_at size sector ≡ Ok anchor → decoded Anchor last ≡ Ok anchor
  anchor_read anchor is = (anchor_named anchor is).1

-- a disk may be founded on a slot that is seen blank
pub blank_is_founded : (layout : NewLayout) (kind : SlotKind) (size : ℕ) (sector : ℕ → List ℕ) → least_sectors layout ≤ size → anchor_at size (below kind sector) ≡ Err Blank → may_be_founded layout size (sector (size - 1)) ≡ true
blank_is_founded layout kind size sector large blank =
    let same : signature_of (below kind sector (size - 1)) ≡ signature_of (sector (size - 1)) = turn_signature kind (size - 1) (sector (size - 1)) in
    let none : eqb (signature_of (sector (size - 1))) header_signature ≡ false = rw same at (blank_unnamed size (omega (arith, large)) (below kind sector) blank) in
    rw (le-leb (least_sectors layout) size large, none) refl

-- ---- seen anew

-- the copies that headers place
copies_at : (primary secondary : ℕ) → Geometry → Copies
copies_at primary secondary geometry = record { primary = primary; secondary = secondary; layout = layout_of geometry }

-- the places of a slot with these copies
places_by : (size primary secondary : ℕ) → Option Copies → Places
places_by size primary secondary copies = record { anchor = size - 1; primary = primary; secondary = secondary; constant = constant_of 512; copies = copies }

header_value : (found : Option HeaderFault) (header anchor : Header) → ok_unless found header ≡ Ok anchor → header ≡ anchor
header_value None header anchor is = cc
header_value (Some fault) header anchor is = cc

-- an anchor that is read names its two headers in these bytes
pub named_lbas : (bytes : List ℕ) (anchor : Header) → decoded Anchor bytes ≡ Ok anchor
    → (number_at w64 bytes PRIMARY_LBA_AT ≡ anchor.primary_lba) × (number_at w64 bytes SECONDARY_LBA_AT ≡ anchor.secondary_lba)
named_lbas bytes anchor is =
    let value = header_value (first_fault Anchor bytes) (header_at Anchor bytes) anchor is in
    (ap (λ (header : Header). header.primary_lba) value, ap (λ (header : Header). header.secondary_lba) value)

-- so it names those of a new disk where it is such a disk's
pub new_names : (layout : NewLayout) (size : ℕ) (bytes : List ℕ) (anchor : Header) → decoded Anchor bytes ≡ Ok anchor → IsOnNewDisk layout size anchor
    → names (new_places layout size) bytes ≡ true
unfolding names
new_names layout size bytes anchor is on_disk =
    let lbas = named_lbas bytes anchor is in
    rw (lbas.0 ∙ on_disk.primary_is, lbas.1 ∙ on_disk.secondary_is, eq-eqb (size - primary_back layout) (size - primary_back layout) refl, eq-eqb (size - secondary_back layout) (size - secondary_back layout) refl) refl

module _ (layout : NewLayout) (size : ℕ) (large : least_sectors layout ≤ size) (seen : ℕ → List ℕ) where
  some : 0 < size
  some = omega (arith, large)

  abbrev kind : SlotKind
  kind = Turned (new_places layout size)

  abbrev under : ℕ → List ℕ
  under = below kind seen

  -- a blank slot is
  pub blank_anew : anchor_at size seen ≡ Err Blank → anchor_at size (seen_anew size under) ≡ Err Blank
  blank_anew blank =
      let same : signature_of (seen_anew size under (size - 1)) ≡ signature_of (seen (size - 1)) =
      turn_signature (kind_of_sectors size under) (size - 1) (under (size - 1)) ∙ turn_signature kind (size - 1) (seen (size - 1)) in
      unnamed_blank size some (seen_anew size under) (rw same (blank_unnamed size some seen blank))

  module _ (anchor : Header) (is_anchor : anchor_at size seen ≡ Ok anchor) (on_disk : IsOnNewDisk layout size anchor) where
    last_under : under (size - 1) ≡ turned (constant_of 512) (seen (size - 1))
    last_under =
        let here : signature_of (seen (size - 1)) ≡ header_signature = eqb-true (signature_of (seen (size - 1))) header_signature (anchor_named size some seen anchor is_anchor).0 in
        ap (λ (found : Option ℕ). turned_by found (seen (size - 1)))
        (anchor_turned layout size (seen (size - 1)) here (new_names layout size (seen (size - 1)) anchor (anchor_named size some seen anchor is_anchor).1 on_disk))

    last_back : turned (constant_of 512) (under (size - 1)) ≡ seen (size - 1)
    last_back = ap (turned (constant_of 512)) last_under ∙ added_twice (seen (size - 1)) (0 ∷ 0 ∷ 0 ∷ 0 ∷ to_be_bytes w32 (constant_of 512))

    -- the two LBAs that the anchor's bytes name
    abbrev primary_read : ℕ
    primary_read = number_at w64 (seen (size - 1)) PRIMARY_LBA_AT

    abbrev secondary_read : ℕ
    secondary_read = number_at w64 (seen (size - 1)) SECONDARY_LBA_AT

    is_read : decoded Anchor (seen (size - 1)) ≡ Ok anchor
    is_read = (anchor_named size some seen anchor is_anchor).1

    lbas : (primary_read ≡ anchor.primary_lba) × (secondary_read ≡ anchor.secondary_lba)
    lbas = named_lbas (seen (size - 1)) anchor is_read

    copies_same : copies_in (Ok anchor) ≡ (new_places layout size).copies
    unfolding copies_at
    copies_same =
        ap (λ (lba : ℕ). Some (copies_at lba anchor.secondary_lba anchor.geometry)) on_disk.primary_is
        ∙ ap (λ (lba : ℕ). Some (copies_at (size - primary_back layout) lba anchor.geometry)) on_disk.secondary_is
        ∙ ap (λ (geometry : Geometry). Some (copies_at (size - primary_back layout) (size - secondary_back layout) geometry)) on_disk.geometry_is

    -- the slot is turned at the same places
    pub kind_anew : kind_of_sectors size under ≡ kind
    unfolding kind_by places_by
    kind_anew =
        rw (some_size size some)
        (ap (λ (sector : List ℕ). kind_if (seal_check header_signature sector) (places_of (size - 1) sector)) last_back
        ∙ ap (λ (check : _). kind_if check (places_of (size - 1) (seen (size - 1)))) (header_passed Anchor (seen (size - 1)) anchor is_read)
        ∙ ap (λ (read : Result Header HeaderFault). Turned (places_by size primary_read secondary_read (copies_in read))) is_read
        ∙ ap (λ (copies : Option Copies). Turned (places_by size primary_read secondary_read copies)) copies_same
        ∙ ap (λ (lba : ℕ). Turned (places_by size lba secondary_read (new_places layout size).copies)) (lbas.0 ∙ on_disk.primary_is)
        ∙ ap (λ (lba : ℕ). Turned (places_by size (size - primary_back layout) lba (new_places layout size).copies)) (lbas.1 ∙ on_disk.secondary_is))

    -- so all of it is seen as it was
    pub same_anew : seen_anew size under ≡ seen
    same_anew = fun_ext (λ l. ap (λ (k : SlotKind). turn k l (under l)) kind_anew ∙ turn_twice kind l (seen l))

  -- a copy in both places is, and the slot is turned at the same places
  pub both_anew : (copy : DiskCopy) → IsOnNewDisk layout size copy.header → AreBoth size seen (anchor_header copy) copy → IsWholeAnew layout size under copy
  both_anew copy on_disk both =
      let anchor_on : IsOnNewDisk layout size (anchor_header copy) = record { primary_is = on_disk.primary_is; secondary_is = on_disk.secondary_is; geometry_is = on_disk.geometry_is } in
      record {
        is_turned = kind_anew (anchor_header copy) both.is_anchored anchor_on;
        are_both = subst (λ (sector : ℕ → List ℕ). AreBoth size sector (anchor_header copy) copy) (sym (same_anew (anchor_header copy) both.is_anchored anchor_on)) both;
      }

  pub whole_anew : (copy : DiskCopy) → IsOnNewDisk layout size copy.header → (anchor_at size seen ≡ Err Blank) ⊎ AreBoth size seen (anchor_header copy) copy → IsBlankOrWhole layout size under copy
  whole_anew copy on_disk (inl blank) = inl (blank_anew blank)
  whole_anew copy on_disk (inr both) = inr (both_anew copy on_disk both)
