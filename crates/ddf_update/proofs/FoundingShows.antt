-- What a slot shows while it gets its first copies.
use Rattle.std.proofs.Common.{◌≡◌, ℕ, ◌-◌, ◌<◌, eqb, List, Ok, false, refl, ◌∙◌, inl, inr, ⊎_elim, arith}
use Rattle.std.proofs.lemmas.Bool.{eq-eqb, ne_eqb}
use Rattle.std.specs.Int.{w32}
use Rattle.ddf_bytes.specs.Bytes.{number_at}
use Rattle.ddf_bay.specs.State.{BayState, size_of}
use Rattle.ddf_bay.specs.Sectors.{Image}
use Rattle.ddf_bay.proofs.Steps.{stops_weaken}
use Rattle.ddf_header.specs.declared.kind.HeaderKind.TheVariants.{Anchor}
use Rattle.ddf_header.specs.declared.reading.Header.{Header}
use Rattle.ddf_header.specs.Header.{IsHeaderOf, header_signature}
use Rattle.ddf_header.proofs.Decoded.{decoded_is}
use Rattle.ddf_config_records.proofs.SlotValues.{signature_is}
use Rattle.ddf_copy.specs.declared.copy.DiskCopy.{DiskCopy}
use Rattle.ddf_copy.specs.declared.which.Which.{Which}
use Rattle.ddf_copy.specs.declared.which.Which.TheVariants.{Primary, Secondary}
use Rattle.ddf_copy.specs.Anchor.{anchor_at, anchor_in}
use Rattle.ddf_copy.specs.Headers.{anchor_header}
use Rattle.ddf_copy.specs.Runs.{AreApart, HasCopy, IsInCopy}
use Rattle.ddf_copy.proofs.Stands.{place_within}
use Rattle.ddf_update.specs.declared.prepared.Prepared.{Prepared}
use Rattle.ddf_update.specs.declared.prepared.Mode.TheVariants.{Found}
use Rattle.ddf_update.specs.Gate.{AreBothApart, IsFoundingWritten, IsLeftFounding, StopsLeaveSince}
use Rattle.ddf_update.specs.Prepared.{IsPrepared}
use Rattle.ddf_update.specs.Update.{AreBoth, IsBlankOrNew, HasFirstCopy, MayFound}
use Rattle.ddf_update.proofs.Changing.{are_apart, both_are_apart, both_stand, not_last, same_anchor}

-- an anchor that stands in the last sector is read there
pub anchor_stands : (size : ℕ) (sector : ℕ → List ℕ) (anchor : Header) (bytes : List ℕ) → 0 < size → IsHeaderOf Anchor anchor bytes → sector (size - 1) ≡ bytes → anchor_at size sector ≡ Ok anchor
unfolding anchor_at anchor_in
anchor_stands size sector anchor bytes some is here =
    let signature = signature_is header_signature bytes (omega arith) is.is_record.is_sealed in
    let present : eqb size 0 ≡ false = ne_eqb size 0 (λ (e : size ≡ 0). absurd (omega (arith, some, e))) in
    rw (present, here, eq-eqb (number_at w32 bytes 0) header_signature signature, decoded_is Anchor bytes anchor is) refl

pub since_weaken : {D : Type 0} {old new : BayState D} {P Q : Image → Type 0}
    → ((image : Image) → P image → Q image) → StopsLeaveSince old new P → StopsLeaveSince old new Q
since_weaken weaker since = record {
  synced = since.synced;
  from = since.from;
  until = since.until;
  any_moment = stops_weaken since.any_moment (λ image left. ⊎_elim inl (λ is. inr (weaker image is)) left);
  since = λ image left. weaker image (since.since image left);
}

module _ {D : Type 0} (disks : BayState D) (slot : ℕ) (last : Which) (new : DiskCopy) (prepared : Prepared) (is : IsPrepared new last Found prepared) (can : MayFound disks slot new) where
  abbrev size : ℕ
  size = size_of disks slot

  both : (now : ℕ → List ℕ) → now (size - 1) ≡ prepared.anchor → HasCopy now prepared.first.lba prepared.first.closed prepared.runs → HasCopy now prepared.second.lba prepared.second.closed prepared.runs
      → AreBoth size now (anchor_header new) new
  both now anchor one other =
      let within = place_within size (anchor_header new) new Primary can.is_under in
      let anchored = anchor_stands size now (anchor_header new) prepared.anchor (omega (arith, within)) is.anchor_is anchor in
      both_stand size (anchor_header new) new prepared.runs can.is_under is.runs_are Primary prepared.first prepared.second is.first_is is.second_is now anchored one other

  -- the sections, the copies and the last sector lie apart
  pub lie_apart : AreApart prepared.runs × AreBothApart prepared.first prepared.second prepared.runs
      × (IsInCopy prepared.first.lba prepared.runs (size - 1) → ⊥) × (IsInCopy prepared.second.lba prepared.runs (size - 1) → ⊥)
  lie_apart =
      let anchor = anchor_header new in (
        are_apart size anchor new prepared.runs can.is_under is.runs_are,
        both_are_apart size anchor new prepared.runs can.is_under is.runs_are Primary prepared.first prepared.second is.first_is is.second_is,
        not_last size anchor new prepared.runs can.is_under is.runs_are Primary prepared.first is.first_is,
        not_last size anchor new prepared.runs can.is_under is.runs_are Secondary prepared.second is.second_is,
      )

  pub founding : (image : Image) → IsLeftFounding disks.may_hold disks.held slot prepared.first prepared.second prepared.runs (size - 1) prepared.anchor image → IsBlankOrNew disks slot prepared new image
  founding image left = record {
    shows = ⊎_elim
        (λ same. inl (same_anchor size (image slot) (disks.held slot) same ∙ can.is_blank))
        (λ stands. inr (both (image slot) stands.0 stands.1 stands.2))
        left.here.anchored;
    outside = λ l. ⊎_elim inl (λ there. ⊎_elim (λ first. inr (inl (inl first))) (λ behind. ⊎_elim (λ second. inr (inl (inr second))) (λ at. inr (inr at)) behind) there) (left.here.outside l);
    other_slots = left.other_slots;
  }

  pub founded : (after : BayState D) → IsFoundingWritten disks after slot prepared.first prepared.second prepared.runs (size - 1) prepared.anchor → HasFirstCopy disks after slot prepared new
  founded after was = record {
    are_both = both (after.held slot) was.anchor_is was.first_is was.second_is;
    is_settled = was.durable;
    since = since_weaken founding was.since;
    outside = λ l. ⊎_elim inl (λ there. ⊎_elim (λ first. inr (inl (inl first))) (λ behind. ⊎_elim (λ second. inr (inl (inr second))) (λ at. inr (inr at)) behind) there) (was.outside l);
    other_slots = was.other_slots;
    others_left = was.left;
  }
