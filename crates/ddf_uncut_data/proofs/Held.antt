-- What follows of an array whose blocks have certain bytes.
use Rattle.std.proofs.Common.{◌≡◌, ◌≢◌, ◌∙◌, ℕ, zero, suc, ◌+◌, ◌<◌, Bool, false, not, List, [], ◌∷◌, Option, Some, None, refl, sym, ap, arith, map, length, slice_get}
use Rattle.std.specs.Prelude.{option_map, slice_index_or, if◌then◌else◌}
use Rattle.std.specs.List.{range_with_len}
use Rattle.ddf_lemmas.proofs.Options.{some_from_is_some}
use Rattle.ddf_bytes.specs.Counts.{Rose}
use Rattle.ddf_bay.specs.Sectors.{Image}
use Rattle.ddf_array.specs.declared.part.Part.{Part}
use Rattle.ddf_array.specs.declared.place.Place.{Place}
use Rattle.ddf_array.specs.Redundant.{IsRedundant}
use Rattle.ddf_array.specs.Sources.{Source, copies, copy, every_source, sources}
use Rattle.ddf_array.specs.Sound.{AreSectors}
use Rattle.ddf_array.specs.Values.{given, value}
use Rattle.ddf_array.specs.Volume.{Volume, capacity}
use Rattle.ddf_array.proofs.Losses.{some_value}
use Rattle.ddf_read.specs.Given.{AreGiven, AreValues}
use Rattle.ddf_read.specs.Reading.{IsGivenBy}
use Rattle.ddf_resync.specs.declared.outcome.Scrub.{Scrub}
use Rattle.ddf_resync.specs.declared.outcome.Scrub.TheVariants.{Clean, Differs}
use Rattle.ddf_resync.specs.Scrubbing.{IsScrubbed}
use Rattle.ddf_data_array.specs.Allowed.{May}
use Rattle.ddf_data_array.specs.Changing.{with_mark}
use Rattle.ddf_data_array.specs.Rows.{AreAlikeThroughout}
use Rattle.ddf_data_array.proofs.Consistent.{block_below}
use Rattle.ddf_data_array.proofs.From.{source_of}
use Rattle.ddf_data_array.proofs.Given.{read_may}
use Rattle.ddf_data_array.proofs.Same.{kept_same}
use Rattle.ddf_uncut_data.specs.Blocks.{HoldsBlocks, exactly, none_absent}

-- what a block may have that may have these bytes alone
pub only_bytes : (one bytes : List ℕ) → May (Some (one ∷ [])) bytes → bytes ≡ one
only_bytes one bytes (zero, e) = cc
only_bytes one bytes (suc k, e) = absurd (cc)

-- ---- reads

first_source : (v : Volume) → v.marked ≡ false → (block : ℕ) → sources v block ≡ every_source v block
first_source v unmarked block = ap (λ (b : Bool). if not b then every_source v block else map copy (copies v block)) unmarked

value_by : (v : Volume) (image : Image) (block : ℕ) (bytes : List ℕ) (o : Option Source) → slice_get (every_source v block) 0 ≡ o → option_map (given image) o ≡ Some bytes
    → (source : Source) × (slice_get (every_source v block) 0 ≡ Some source) × (given image source ≡ bytes)
value_by v image block bytes None at e = absurd (cc)
value_by v image block bytes (Some source) at e = (source, at, cc)

pub value_is : (v : Volume) (image : Image) (blocks : ℕ → List ℕ) → HoldsBlocks v image blocks → (block : ℕ) (bytes : List ℕ) → value v image block ≡ Some bytes → bytes ≡ blocks block
value_is v image blocks holds block bytes is =
    let first = value_by v image block bytes (slice_get (every_source v block) 0) refl is in
    let at : slice_get (sources v block) 0 ≡ Some first.0 = ap (λ (l : List Source). slice_get l 0) (first_source v holds.unmarked block) ∙ first.1 in
    sym first.2 ∙ only_bytes (blocks block) (given image first.0) (holds.kept.reads block 0 first.0 at)

pub given_is : (old new : ℕ → ℕ) (v : Volume) (image : Image) (blocks : ℕ → List ℕ) → HoldsBlocks v image blocks → (block : ℕ) (bytes : List ℕ)
    → IsGivenBy (λ slot. Rose (old slot) (new slot)) image (sources v block) bytes → bytes ≡ blocks block
given_is old new v image blocks holds block bytes is = only_bytes (blocks block) bytes (read_may old new none_absent v image (exactly blocks) block bytes holds.kept is)

pub value_held : (v : Volume) (image : Image) (blocks : ℕ → List ℕ) → HoldsBlocks v image blocks → (block : ℕ) → block < capacity v → value v image block ≡ Some (blocks block)
value_held v image blocks holds block below =
    let there = some_from_is_some (value v image block) (some_value v image block holds.is_volume holds.within below) in
    there.1 ∙ ap (λ (l : List ℕ). Some l) (value_is v image blocks holds block there.0 there.1)

-- only blocks of the array count
pub holds_equal : (v : Volume) (image : Image) (blocks other : ℕ → List ℕ) → ((block : ℕ) → block < capacity v → other block ≡ blocks block) → HoldsBlocks v image blocks → HoldsBlocks v image other
holds_equal v image blocks other same holds = record {
  is_volume = holds.is_volume;
  apart = holds.apart;
  unmarked = holds.unmarked;
  within = holds.within;
  kept = record {
    sound = holds.kept.sound;
    reads = λ block k source at.
        let below = block_below v block source (source_of v block k source at) in
        (0, ap (λ (l : List ℕ). Some l) (same block below ∙ sym (only_bytes (blocks block) (given image source) (holds.kept.reads block k source at))));
    rows = holds.kept.rows;
  };
}

-- a list that has these items, one by one
pub listed : (f : ℕ → List ℕ) (start : ℕ) (xs : List (List ℕ)) → ((k : ℕ) → k < length xs → slice_index_or xs k [] ≡ f (start + k)) → xs ≡ map f (range_with_len start (length xs))
listed f start [] each = refl
listed f start (x ∷ xs) each =
    ap (λ (y : List ℕ). y ∷ xs) (each 0 (omega arith) ∙ ap f (let e : start + 0 ≡ start = omega arith in e))
    ∙ ap (λ (l : List (List ℕ)). f start ∷ l) (listed f (start + 1) xs (λ k below. each (suc k) (omega (arith, below)) ∙ ap f (let e : start + suc k ≡ start + 1 + k = omega arith in e)))

pub value_blocks : (v : Volume) (image : Image) (blocks : ℕ → List ℕ) (start : ℕ) (sectors : List (List ℕ)) → HoldsBlocks v image blocks → AreValues image v start (length sectors) sectors
    → sectors ≡ map blocks (range_with_len start (length sectors))
value_blocks v image blocks start sectors holds are = listed blocks start sectors (λ k below. value_is v image blocks holds (start + k) (slice_index_or sectors k []) (are k below))

pub given_blocks : (old new : ℕ → ℕ) (v : Volume) (image : Image) (blocks : ℕ → List ℕ) (start : ℕ) (sectors : List (List ℕ)) → HoldsBlocks v image blocks
    → AreGiven (λ slot. Rose (old slot) (new slot)) image v start (length sectors) sectors → sectors ≡ map blocks (range_with_len start (length sectors))
given_blocks old new v image blocks start sectors holds are = listed blocks start sectors (λ k below. given_is old new v image blocks holds (start + k) (slice_index_or sectors k []) (are k below))

-- ---- scrubs

pub is_redundant_now : (v : Volume) (image : Image) (blocks : ℕ → List ℕ) → HoldsBlocks v image blocks → IsRedundant v image
is_redundant_now v image blocks holds = holds.kept.sound.redundant holds.unmarked holds.within

pub scrub_clean : (v : Volume) (image : Image) (blocks : ℕ → List ℕ) (found : Scrub) → HoldsBlocks v image blocks → IsScrubbed v image found → found ≡ Clean
scrub_clean v image blocks Clean holds is = refl
scrub_clean v image blocks (Differs element row) holds is = absurd (is.0 (is_redundant_now v image blocks holds))

-- ---- other sectors

pub holds_same : (v : Volume) (before image : Image) (blocks : ℕ → List ℕ) → AreSectors image → AreAlikeThroughout v before image → HoldsBlocks v before blocks → HoldsBlocks v image blocks
holds_same v before image blocks are same holds = record {
  is_volume = holds.is_volume;
  apart = holds.apart;
  unmarked = holds.unmarked;
  within = holds.within;
  kept = kept_same none_absent v before image (exactly blocks) holds.is_volume are same holds.kept;
}

-- a slot of which no place of the array is
pub alike_beside : (v : Volume) (gone : ℕ) (before image : Image) → ((element position : ℕ) (part : Part) (place : Place) → slice_get v.parts element ≡ Some part → slice_get part.places position ≡ Some place → place.slot ≡ Some gone → ⊥)
    → ((slot lba : ℕ) → slot ≢ gone → image slot lba ≡ before slot lba) → AreAlikeThroughout v before image
alike_beside v gone before image none same element position sector slot lba lies =
    sym (same slot lba (λ is. none element position lies.part lies.place lies.is_part lies.is_place (lies.is_there ∙ ap (λ (n : ℕ). Some n) is)))

-- ---- a mark that is cleared

pub unmarked_is : (v : Volume) → v.marked ≡ false → with_mark false v ≡ v
unmarked_is v unmarked = ap (λ (b : Bool). with_mark b v) (sym unmarked)

-- its sectors are the same with a mark or without
pub alike_marked : (marked : Bool) (v : Volume) (before image : Image) → AreAlikeThroughout v before image → AreAlikeThroughout (with_mark marked v) before image
alike_marked marked v before image same element position sector slot lba lies =
    same element position sector slot lba
    (record { part = lies.part; place = lies.place; is_part = lies.is_part; is_place = lies.is_place; below = lies.below; is_there = lies.is_there; lba_is = lies.lba_is })
