-- A bay whose disks' bad block logs are honoured, as it is made and taken apart.
use Rattle.std.proofs.Common.{◌≡◌, ◌∙◌, ℕ, Bool, true, false, List, [], ap, subst, sym, refl}
use Rattle.std.specs.Prelude.{Option, None, slice_index, slice_index_or}
use Rattle.ddf_bay.specs.Moments.{GoesOn}
use Rattle.ddf_bay.specs.State.{BayState}
use Rattle.ddf_fenced.specs.declared.fenced.Fenced.{Fenced}
use Rattle.ddf_fenced.specs.Fences.{is_shut}
use Rattle.ddf_badblocks.specs.declared.range.Range.{Range}
use Rattle.ddf_badblocks.specs.declared.remapped.Remapped.{Remapped}
use Rattle.ddf_badblocks.specs.declared.remapped.RemapFault.{RemapFault}
use Rattle.ddf_badblocks.specs.declared.remapped.RemapFault.TheVariants.{BadBlocks}
use Rattle.ddf_badblocks.specs.Bad.{FirstBad}
use Rattle.ddf_badblocks.specs.Ranges.{swap}
use Rattle.ddf_badblocks.specs.Seen.{place_twice}
use Rattle.ddf_badblocks.specs.State.{place}
use Rattle.ddf_badblocks.specs.SwapLaws.{swap_none}
use Rattle.ddf_logs.specs.Looks as seen
use Rattle.ddf_hidden_logs.specs.declared.honoured.Honoured.{Honoured}
use Rattle.ddf_hidden_logs.specs.declared.mask.Mask.{Mask}
use Rattle.ddf_hidden_logs.specs.Honouring.{Exchanges, Hides, IsHonoured, disks_of, exchanged_of, inner_of, logs_of, mask_of, ranges_of}
use Rattle.ddf_hidden_logs.specs.Masks.{turn}
use Rattle.ddf_hidden_logs.specs.TurnLaws.{turn_twice}

-- nothing is refused where nothing is exchanged
pub none_refused : (sizes : List ℕ) (fault : RemapFault) → FirstBad sizes [] fault → ⊥
none_refused sizes (BadBlocks slot) bad = let wrong : true ≡ false = bad.cannot in absurd cc

module _ {B : Type 0} (disks : B → BayState B) where
  -- a look leaves the ranges and the fences
  module _ (leads : (bay : B) → (disks bay).leads_to bay) (between after : Remapped (Fenced B)) (on : GoesOn (seen.disks_of disks between) (seen.disks_of disks after)) where
    pub ranges_stay : (s : ℕ) → seen.ranges_of after s ≡ seen.ranges_of between s
    ranges_stay s = ap (λ (logs : List (List Range)). slice_index_or logs s []) (on after ((leads (seen.below after), refl), refl, refl)).1

    pub fences_stay : (s : ℕ) → seen.is_fenced after s ≡ seen.is_fenced between s
    fences_stay s = ap (λ (shut : List Bool). is_shut shut s) (on after ((leads (seen.below after), refl), refl, refl)).0.1

  -- without ranges and masks a sector is seen as it is
  pub as_it_is : (bay : Honoured B) (inner : B) → inner_of bay ≡ inner → ((s : ℕ) → mask_of bay s ≡ None) → ((s : ℕ) → ranges_of bay s ≡ [])
      → (s l : ℕ) → (disks_of disks bay).held s l ≡ (disks inner).held s l
  as_it_is bay inner below unmasked plain s l =
      let size = slice_index (disks (inner_of bay)).sizes s in
      let held = (disks (inner_of bay)).held s in
      ap (λ (mask : Option Mask). turn mask l (held (swap size (ranges_of bay s) l))) (unmasked s)
      ∙ ap (λ (ranges : List Range). held (swap size ranges l)) (plain s) ∙ ap held (swap_none size l) ∙ ap (λ (one : B). (disks one).held s l) below

  -- what a sector holds is what is seen where it is seen, turned
  pub is_seen : (bay : Honoured B) (below : B) → below ≡ inner_of bay → (s l : ℕ)
      → (disks_of disks bay).held s l ≡ turn (mask_of bay s) l ((disks below).held s (place (disks below).sizes (logs_of bay) s l))
  is_seen bay below is s l = subst (λ (one : B). (disks_of disks bay).held s l ≡ turn (mask_of bay s) l ((disks one).held s (place (disks one).sizes (logs_of bay) s l))) (sym is) refl

  pub is_held : (bay : Honoured B) (below : B) → below ≡ inner_of bay → (s l : ℕ)
      → (disks below).held s l ≡ turn (mask_of bay s) (place (disks below).sizes (logs_of bay) s l) ((disks_of disks bay).held s (place (disks below).sizes (logs_of bay) s l))
  is_held bay below is s l =
      let own = disks (inner_of bay) in
      let at = place own.sizes (logs_of bay) s in
      let twice = turn_twice (mask_of bay s) (at l) (own.held s (at (at l))) ∙ ap (own.held s) (place_twice own.sizes (logs_of bay) s l) in
      subst (λ (one : B). (disks one).held s l ≡ turn (mask_of bay s) (place (disks one).sizes (logs_of bay) s l) ((disks_of disks bay).held s (place (disks one).sizes (logs_of bay) s l))) (sym is) (sym twice)

-- one look behind the other
pub both_looks : {B : Type 0} {tells : Type 0} (disks : B → BayState B) → ((bay : B) → (disks bay).leads_to bay) → (old : B) (between : Remapped (Fenced B)) → Exchanges tells disks old between
    → (bay : Honoured B) → Hides tells disks between bay → IsHonoured tells disks old bay
both_looks disks leads old between exchanges bay hides = record {
  between = between;
  exchanges = exchanges;
  hides = hides;
  same_ranges = ranges_stay disks leads between (exchanged_of bay) hides.reads.goes_on;
  same_unread = fences_stay disks leads between (exchanged_of bay) hides.reads.goes_on;
}
