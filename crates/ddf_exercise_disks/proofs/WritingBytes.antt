-- Blocks that are filled with one byte, behind a write of blocks that are.
use Rattle.std.proofs.Common.{◌≡◌, ◌∙◌, ◌⊎◌, inl, inr, ⊎_elim, ℕ, zero, suc, ◌+◌, ◌-◌, ◌<◌, ◌≤◌, Bool, true, false, ◌&&◌, List, [], ◌∷◌, ◌++◌, length, replicate, take, drop, refl, sym, ap, subst, arith}
use Rattle.std.specs.Prelude.{if◌then◌else◌, nat_le, nat_lt, slice_index, slice_index_or}
use Rattle.std.specs.List.{AllByRecursion}
use Rattle.std.proofs.lemmas.Bool.{cases_lt, le-leb, lt-ltb, le-ltb}
use Rattle.std.proofs.lemmas.Grind.{elements}
use Rattle.ddf_data_array.specs.Allowed.{is_in, new_bytes}
use Rattle.ddf_pieces.specs.Coming.{AreSectorsOf512}
use Rattle.ddf_pieces.specs.Pieces.{bytes_of}
use Rattle.ddf_uncut_data.specs.Blocks.{with_sectors}
use Rattle.ddf_exercise_disks.specs.Storing.{filled_with}

-- ---- the sectors that came

module _ (byte : ℕ) where
  abbrev AreIt : List ℕ → Type 0
  AreIt bytes = AllByRecursion (λ (one : ℕ). one ≡ byte) bytes

  all_it : (n : ℕ) → AreIt (replicate n byte)
  all_it zero = tt
  all_it (suc n) = (refl, all_it n)

  front_it : (front back : List ℕ) → AreIt (front ++ back) → AreIt front
  front_it [] back are = tt
  front_it (one ∷ front) back are = (are.0, front_it front back are.1)

  back_it : (front back : List ℕ) → AreIt (front ++ back) → AreIt back
  back_it [] back are = are
  back_it (one ∷ front) back are = back_it front back are.1

  it_is : (bytes : List ℕ) → AreIt bytes → bytes ≡ replicate (length bytes) byte
  it_is [] are = refl
  it_is (one ∷ bytes) are = ap (λ (first : ℕ). first ∷ bytes) are.0 ∙ ap (λ (rest : List ℕ). byte ∷ rest) (it_is bytes are.1)

  sectors_it : (sectors : List (List ℕ)) → AreSectorsOf512 sectors → AreIt (bytes_of sectors) → (k : ℕ) → k < length sectors → slice_index_or sectors k [] ≡ replicate 512 byte
  sectors_it [] whole are k below = absurd (omega (arith, below))
  sectors_it (sector ∷ sectors) whole are zero below = it_is sector (front_it sector (bytes_of sectors) are) ∙ ap (λ (n : ℕ). replicate n byte) (whole 0 sector refl)
  sectors_it (sector ∷ sectors) whole are (suc k) below =
      sectors_it sectors (λ j one at. whole (suc j) one at) (back_it sector (bytes_of sectors) are) k (omega (arith, below))

  -- Sectors that are the first bytes of such an input are filled with the byte.
  pub sectors_filled : (n : ℕ) (sectors : List (List ℕ)) (left : List ℕ) → AreSectorsOf512 sectors → replicate n byte ≡ bytes_of sectors ++ left
      → (k : ℕ) → k < length sectors → slice_index_or sectors k [] ≡ replicate 512 byte
  sectors_filled n sectors left whole is = sectors_it sectors whole (front_it (bytes_of sectors) left (subst AreIt is (all_it n)))

-- ---- the blocks behind the write

abbrev pub rewritten : (start count byte : ℕ) → List ℕ → List ℕ
rewritten start count byte bytes = take start bytes ++ replicate count byte ++ drop (start + count) bytes

pub rewritten_length : (start count byte : ℕ) (bytes : List ℕ) → start + count ≤ length bytes → length (rewritten start count byte bytes) ≡ length bytes
rewritten_length start count byte bytes within = grind (arith, elements)

before_is : (start count byte block : ℕ) (bytes : List ℕ) → start + count ≤ length bytes → block < start → slice_index (rewritten start count byte bytes) block ≡ slice_index bytes block
before_is start count byte block bytes within before = grind (arith, elements)

inside_is : (start count byte block : ℕ) (bytes : List ℕ) → start + count ≤ length bytes → start ≤ block → block < start + count → slice_index (rewritten start count byte bytes) block ≡ byte
inside_is start count byte block bytes within from below = grind (arith, elements)

behind_is : (start count byte block : ℕ) (bytes : List ℕ) → start + count ≤ length bytes → start + count ≤ block → slice_index (rewritten start count byte bytes) block ≡ slice_index bytes block
behind_is start count byte block bytes within behind = grind (arith, elements)

module _ (start count byte : ℕ) (bytes : List ℕ) (within : start + count ≤ length bytes) (sectors : List (List ℕ)) (long : length sectors ≡ count)
    (are : (k : ℕ) → k < length sectors → slice_index_or sectors k [] ≡ replicate 512 byte) (block : ℕ) where
  chosen : (is : Bool) → is_in start (length sectors) block ≡ is → filled_with (rewritten start count byte bytes) block ≡ (if is then new_bytes start sectors block else filled_with bytes block)
      → filled_with (rewritten start count byte bytes) block ≡ with_sectors start sectors (filled_with bytes) block
  chosen is e same = same ∙ ap (λ (b : Bool). if b then new_bytes start sectors block else filled_with bytes block) (sym e)

  outside : nat_le start block ≡ false ⊎ nat_lt block (start + length sectors) ≡ false → is_in start (length sectors) block ≡ false
  outside (inl e) = ap (λ (b : Bool). b && nat_lt block (start + length sectors)) e
  outside (inr e) = by (nat_le start block) (nat_lt block (start + length sectors)) e
    where
      by : (a b : Bool) → b ≡ false → (a && b) ≡ false
      by true b is = is
      by false b is = refl

  not_from : block < start → nat_le start block ≡ false
  not_from before = grind arith

  not_below : start + count ≤ block → nat_lt block (start + length sectors) ≡ false
  not_below behind = le-ltb block (start + length sectors) (omega (arith, behind, long))

  inside : start ≤ block → block < start + count → is_in start (length sectors) block ≡ true
  inside from below =
      let first : nat_le start block ≡ true = le-leb start block from in
      let second : nat_lt block (start + length sectors) ≡ true = lt-ltb block (start + length sectors) (omega (arith, below, long)) in
      rw (first, second) refl

  offset : start ≤ block → block < start + count → block - start < length sectors
  offset from below = omega (arith, from, below, long)

  when_before : block < start → filled_with (rewritten start count byte bytes) block ≡ with_sectors start sectors (filled_with bytes) block
  when_before before = chosen false (outside (inl (not_from before))) (ap (λ (one : ℕ). replicate 512 one) (before_is start count byte block bytes within before))

  when_inside : start ≤ block → block < start + count → filled_with (rewritten start count byte bytes) block ≡ with_sectors start sectors (filled_with bytes) block
  when_inside from below =
      chosen true (inside from below)
      (ap (λ (one : ℕ). replicate 512 one) (inside_is start count byte block bytes within from below) ∙ sym (are (block - start) (offset from below)))

  when_behind : start + count ≤ block → filled_with (rewritten start count byte bytes) block ≡ with_sectors start sectors (filled_with bytes) block
  when_behind behind = chosen false (outside (inr (not_below behind))) (ap (λ (one : ℕ). replicate 512 one) (behind_is start count byte block bytes within behind))

  -- Each block is filled with its byte.
  pub block_filled : filled_with (rewritten start count byte bytes) block ≡ with_sectors start sectors (filled_with bytes) block
  block_filled = ⊎_elim when_before (λ from. ⊎_elim (when_inside from) when_behind (cases_lt block (start + count))) (cases_lt block start)
