-- What an array keeps while blocks of it are written, and once they are.
use Rattle.std.proofs.Common.{◌≡◌, ◌∙◌, ◌⊎◌, ⊎_elim, ℕ, ◌+◌, ◌-◌, ◌<◌, ◌≤◌, Bool, true, false, not, List, [], ◌∷◌, ◌++◌, Option, Some, None, refl, sym, ap, subst, arith, map, length, slice_get, ◌&&◌}
use Rattle.std.specs.Prelude.{nat_le, nat_lt, option_map, if◌then◌else◌}
use Rattle.std.proofs.lemmas.Bool.{le-leb, leb-true, lt-ltb, ltb-true}
use Rattle.ddf_lemmas.proofs.Lists.{first_get, get_last, in_map}
use Rattle.ddf_lemmas.proofs.Tests.{and_first, and_second, true_false}
use Rattle.ddf_bay.specs.Sectors.{Image}
use Rattle.ddf_array.specs.Apart.{IsApart}
use Rattle.ddf_array.specs.declared.site.Site.{Site}
use Rattle.ddf_array.specs.Volume.{Volume, IsVolume}
use Rattle.ddf_array.specs.Sources.{Source, copy, copies, every_source, sources}
use Rattle.ddf_array.specs.Values.{bytes_at, given}
use Rattle.ddf_array.specs.Sound.{AreSectors, IsSound}
use Rattle.ddf_write.specs.Writing.{HasWritten, IsLeftByWrite}
use Rattle.ddf_write.proofs.WriteLeaves.{cell_old_or_new, cell_stays}
use Rattle.ddf_data_array.specs.Allowed.{Allowed, May, any_bytes, is_in, new_bytes, while_written, once_written}
use Rattle.ddf_data_array.specs.Changing.{IsWritable}
use Rattle.ddf_data_array.specs.Kept.{IsKeptData}
use Rattle.ddf_data_array.proofs.From.{IsFrom, copy_from, copy_to, source_of}
use Rattle.ddf_data_array.proofs.Consistent.{copy_reads}
use Rattle.ddf_data_array.proofs.Plain.{plain_copy, plain_sound}
use Rattle.ddf_data_array.proofs.RowsKept.{writable_rows}

-- ---- blocks of a range

pub in_by : (start count k : ℕ) → k < count → is_in start count (start + k) ≡ true
in_by start count k below =
    ap (λ b. b && nat_lt (start + k) (start + count)) (le-leb start (start + k) (omega arith)) ∙ lt-ltb (start + k) (start + count) (omega arith)

pub in_low : (start count block : ℕ) → is_in start count block ≡ true → start ≤ block
in_low start count block e = leb-true start block (and_first (nat_le start block) (nat_lt block (start + count)) e)

pub in_high : (start count block : ℕ) → is_in start count block ≡ true → block < start + count
in_high start count block e = ltb-true block (start + count) (and_second (nat_le start block) (nat_lt block (start + count)) e)

-- ---- bytes that a block may have

pub may_old : (o : Option (List (List ℕ))) (new bytes : List ℕ) → May o bytes → May (option_map (λ old. old ++ new ∷ []) o) bytes
may_old None new bytes may = tt
may_old (Some old) new bytes may = (may.0, first_get old (new ∷ []) may.0 bytes may.1)

may_new : (o : Option (List (List ℕ))) (new : List ℕ) → May (option_map (λ old. old ++ new ∷ []) o) new
may_new None new = tt
may_new (Some old) new = (length old, get_last old new)

module _ (allowed : Allowed) (start : ℕ) (sectors : List (List ℕ)) (block : ℕ) where
  pub old_while : (bytes : List ℕ) → May (allowed block) bytes → May (while_written allowed start sectors block) bytes
  old_while bytes may = by (is_in start (length sectors) block)
    where
      by : (b : Bool) → May (if b then option_map (λ old. old ++ new_bytes start sectors block ∷ []) (allowed block) else allowed block) bytes
      by true = may_old (allowed block) (new_bytes start sectors block) bytes may
      by false = may

  pub new_while : is_in start (length sectors) block ≡ true → May (while_written allowed start sectors block) (new_bytes start sectors block)
  new_while is =
      subst (λ b. May (if b then option_map (λ old. old ++ new_bytes start sectors block ∷ []) (allowed block) else allowed block) (new_bytes start sectors block)) (sym is)
      (may_new (allowed block) (new_bytes start sectors block))

  pub new_once : is_in start (length sectors) block ≡ true → May (once_written allowed start sectors block) (new_bytes start sectors block)
  new_once is = subst (λ b. May (if b then Some (new_bytes start sectors block ∷ []) else allowed block) (new_bytes start sectors block)) (sym is) (0, refl)

  pub old_once : is_in start (length sectors) block ≡ false → (bytes : List ℕ) → May (allowed block) bytes → May (once_written allowed start sectors block) bytes
  old_once is bytes may = subst (λ b. May (if b then Some (new_bytes start sectors block ∷ []) else allowed block) bytes) (sym is) may

-- ---- the sources of an array that blocks may be written to

module _ (is_absent : ℕ → ℕ → Bool) (v : Volume) where
  moved : (block : ℕ) (one : Site) (other : Source) → copy one ≡ other → IsFrom v block (copy one) → IsFrom v block other
  moved block one other same from = subst (IsFrom v block) same from

  -- each source that a read may use is a copy
  pub only_copies : IsWritable v → (block k : ℕ) (source : Source) → slice_get (sources v block) k ≡ Some source
      → (one : Site) × (source ≡ copy one) × IsFrom v block (copy one)
  only_copies writable block k source at =
      ⊎_elim
      (λ marked.
      let from = in_map copy (copies v block) k source (ap (λ b. slice_get (if not b then every_source v block else map copy (copies v block)) k) (sym marked) ∙ at) in
      (from.0, sym from.2, copy_from v block k from.0 from.1))
      (λ plain.
      let from = source_of v block k source at in
      let one = plain_copy v plain block source from in
      (one.0, one.1, subst (IsFrom v block) one.1 from)) writable

  pub writable_sound : IsWritable v → (image : Image) → AreSectors image → IsSound is_absent v image
  writable_sound writable image are =
      ⊎_elim
      (λ marked. record {
        are_sectors = are;
        redundant = λ unmarked within. absurd (true_false v.marked marked unmarked);
        parity = λ unmarked within element sector position part site. absurd (true_false v.marked marked unmarked);
      })
      (λ plain. plain_sound v plain is_absent image are) writable

-- ---- the write

module _ (is_absent : ℕ → ℕ → Bool) (v : Volume) (known : IsVolume v) (apart : IsApart v) (start : ℕ) (sectors : List (List ℕ)) (before image : Image) (allowed : Allowed)
    (writable : IsWritable v) (kept : IsKeptData is_absent v before allowed) (left : IsLeftByWrite v start sectors before image) where
  -- a cell of a block by itself is as before, or has the new bytes of the block
  record Becomes (block : ℕ) (one : Site) : Type 0 where
    pub was : May (allowed block) (bytes_at before one)
    pub in_range : is_in start (length sectors) block ≡ true → (bytes_at image one ≡ bytes_at before one) ⊎ (bytes_at image one ≡ new_bytes start sectors block)
    pub outside : is_in start (length sectors) block ≡ false → bytes_at image one ≡ bytes_at before one
    pub is_new : HasWritten v start sectors ⊥ image → is_in start (length sectors) block ≡ true → bytes_at image one ≡ new_bytes start sectors block

  -- a block of the range is one of those that are written
  at_offset : (block i : ℕ) (one : Site) → is_in start (length sectors) block ≡ true → slice_get (copies v block) i ≡ Some one → slice_get (copies v (start + (block - start))) i ≡ Some one
  at_offset block i one is at =
      let same : start + (block - start) ≡ block = omega (arith, in_low start (length sectors) block is) in
      ap (λ (n : ℕ). slice_get (copies v n) i) same ∙ at

  becomes : (block : ℕ) (one : Site) → IsFrom v block (copy one) → Becomes block one
  becomes block one from =
      let there = copy_to v block one from in
      record {
        was = copy_reads is_absent v before allowed kept block there.0 one there.1;
        in_range = λ is. cell_old_or_new v known apart start sectors before image left (block - start) there.0 one (at_offset block there.0 one is there.1);
        outside = λ is.
            cell_stays v known apart start sectors before image left block there.0 one
            (λ k below same. true_false (is_in start (length sectors) block) (ap (is_in start (length sectors)) same ∙ in_by start (length sectors) k below) is) there.1;
        is_new = λ written is.
            written.cells (block - start) there.0 one (omega (arith, in_low start (length sectors) block is, in_high start (length sectors) block is)) (at_offset block there.0 one is there.1);
      }

  copy_while : (block : ℕ) (one : Site) → Becomes block one → (b : Bool) → is_in start (length sectors) block ≡ b → May (while_written allowed start sectors block) (bytes_at image one)
  copy_while block one be true is =
      ⊎_elim
      (λ same. subst (May (while_written allowed start sectors block)) (sym same) (old_while allowed start sectors block (bytes_at before one) be.was))
      (λ new. subst (May (while_written allowed start sectors block)) (sym new) (new_while allowed start sectors block is)) (be.in_range is)
  copy_while block one be false is =
      subst (May (while_written allowed start sectors block)) (sym (be.outside is)) (old_while allowed start sectors block (bytes_at before one) be.was)

  pub kept_while : AreSectors image → IsKeptData is_absent v image (while_written allowed start sectors)
  kept_while are = record {
    sound = writable_sound is_absent v writable image are;
    reads = λ block k source at.
        let one = only_copies is_absent v writable block k source at in
        subst (λ (s : Source). May (while_written allowed start sectors block) (given image s)) (sym one.1)
        (copy_while block one.0 (becomes block one.0 one.2) (is_in start (length sectors) block) refl);
    rows = writable_rows is_absent v image writable;
  }

  copy_once : HasWritten v start sectors ⊥ image → (block : ℕ) (one : Site) → Becomes block one → (b : Bool) → is_in start (length sectors) block ≡ b
      → May (once_written allowed start sectors block) (bytes_at image one)
  copy_once written block one be true is =
      subst (May (once_written allowed start sectors block)) (sym (be.is_new written is)) (new_once allowed start sectors block is)
  copy_once written block one be false is =
      subst (May (once_written allowed start sectors block)) (sym (be.outside is)) (old_once allowed start sectors block is (bytes_at before one) be.was)

  pub kept_once : AreSectors image → HasWritten v start sectors ⊥ image → IsKeptData is_absent v image (once_written allowed start sectors)
  kept_once are written = record {
    sound = writable_sound is_absent v writable image are;
    reads = λ block k source at.
        let one = only_copies is_absent v writable block k source at in
        subst (λ (s : Source). May (once_written allowed start sectors block) (given image s)) (sym one.1)
        (copy_once written block one.0 (becomes block one.0 one.2) (is_in start (length sectors) block) refl);
    rows = writable_rows is_absent v image writable;
  }

-- nothing counts yet
pub kept_any : (is_absent : ℕ → ℕ → Bool) (v : Volume) (image : Image) → AreSectors image → IsWritable v → IsKeptData is_absent v image any_bytes
kept_any is_absent v image are writable = record { sound = writable_sound is_absent v writable image are; reads = λ block k source at. tt; rows = writable_rows is_absent v image writable }
