-- Blocks of one element, and elements one after another.
use Rattle.std.proofs.Common.{◌≡◌, ℕ, zero, suc, ◌+◌, ◌-◌, ◌<◌, ◌≤◌, List, [], ◌∷◌, length, get_or, take, drop, Some, slice_get, ⊎_elim, refl, sym, ap, ◌∙◌, zero-add, add-zero, arith, length-append}
use Rattle.std.specs.List.{range_with_len, sum_by}
use Rattle.std.specs.Option.{option_map}
use Rattle.std.proofs.lemmas.Bool.{cases_lt}
use Rattle.std.proofs.lemmas.List.{length-map, at_drop_more, at_drop_all}
use Rattle.std.proofs.lemmas.List.FromFn.{length-range_with_len}
use Rattle.std.proofs.lemmas.List.Sums.{sum_by-cons}
use Rattle.std.proofs.lemmas.Option.{slice_get-map, slice_get_within, same_Some, none-some, slice_get-get_or}
use Rattle.ddf_lemmas.proofs.Lists.{slice_get-append_left, slice_get-append_right, slice_get-range}
use Rattle.ddf_secondary.specs.declared.element.ElementSize.{ElementSize}
use Rattle.ddf_secondary.specs.declared.spot.Spot.{Spot}
use Rattle.ddf_secondary.specs.Spots.{blocks, one_after_another}

pub length-blocks : (first count element : ℕ) → length (blocks first count element) ≡ count
length-blocks first count element =
    let at_block : ℕ → Spot = λ block. record { element = element; block = block } in
    length-map (range_with_len first count) at_block ∙ length-range_with_len first count

pub slice_get-blocks : (first count element i block : ℕ) → i < count → first + i ≡ block → slice_get (blocks first count element) i ≡ Some (record { element = element; block = block })
slice_get-blocks first count element i block below is =
    let at_block : ℕ → Spot = λ block. record { element = element; block = block } in
    slice_get-map at_block (range_with_len first count) i
    ∙ ap (option_map at_block) (slice_get-range first count i below ∙ ap Some is)

pub record InBlocks (first count element i : ℕ) (spot : Spot) : Type 0 where
  pub element_is : spot.element ≡ element
  pub block_is : spot.block ≡ first + i
  pub within : i < count

pub blocks_inverse : (first count element i : ℕ) (spot : Spot) → slice_get (blocks first count element) i ≡ Some spot → InBlocks first count element i spot
blocks_inverse first count element i spot there =
    let below : i < count = omega (arith, slice_get_within (blocks first count element) i spot there, length-blocks first count element) in
    let here = slice_get-blocks first count element i (first + i) below refl in
    let same = same_Some spot _ (sym there ∙ here) in
    record { element_is = ap (λ (s : Spot). s.element) same; block_is = ap (λ (s : Spot). s.block) same; within = below }

-- elements one after another
pub length-one_after_another : (first : ℕ) (sizes : List ElementSize) → length (one_after_another first sizes) ≡ sum_by (λ (size : ElementSize). size.capacity) sizes
length-one_after_another first [] = refl
length-one_after_another first (size ∷ sizes) =
    length-append (blocks 0 size.capacity first) (one_after_another (first + 1) sizes)
    ∙ omega (arith, length-blocks 0 size.capacity first, length-one_after_another (first + 1) sizes, sum_by-cons (λ (size : ElementSize). size.capacity) size sizes)

pub in_first : (first block : ℕ) (size : ElementSize) (sizes : List ElementSize) → block < size.capacity → slice_get (one_after_another first (size ∷ sizes)) block ≡ Some (record { element = first; block = block })
in_first first block size sizes below =
    let within : block < length (blocks 0 size.capacity first) = omega (arith, length-blocks 0 size.capacity first) in
    slice_get-append_left (blocks 0 size.capacity first) (one_after_another (first + 1) sizes) block within
    ∙ slice_get-blocks 0 size.capacity first block block below (zero-add block)

pub past_first : (first block : ℕ) (size : ElementSize) (sizes : List ElementSize) → size.capacity ≤ block → slice_get (one_after_another first (size ∷ sizes)) block ≡ slice_get (one_after_another (first + 1) sizes) (block - size.capacity)
past_first first block size sizes past =
    let split : block ≡ length (blocks 0 size.capacity first) + (block - size.capacity) = omega (arith, length-blocks 0 size.capacity first) in
    ap (slice_get (one_after_another first (size ∷ sizes))) split
    ∙ slice_get-append_right (blocks 0 size.capacity first) (one_after_another (first + 1) sizes) (block - size.capacity)

-- the same where a loop has come to an element
pub in_element : (sizes : List ElementSize) (element block : ℕ) (none : ElementSize) → element < length sizes → block < (get_or sizes element none).capacity → slice_get (one_after_another element (drop element sizes)) block ≡ Some (record { element = element; block = block })
in_element sizes element block none inside below =
    at_drop_more (λ (rest : List ElementSize). slice_get (one_after_another element rest) block) sizes element none inside
    ∙ in_first element block (get_or sizes element none) (drop (element + 1) sizes) below

pub past_element : (sizes : List ElementSize) (element block : ℕ) (none : ElementSize) → element < length sizes → (get_or sizes element none).capacity ≤ block → slice_get (one_after_another element (drop element sizes)) block ≡ slice_get (one_after_another (element + 1) (drop (element + 1) sizes)) (block - (get_or sizes element none).capacity)
past_element sizes element block none inside past =
    at_drop_more (λ (rest : List ElementSize). slice_get (one_after_another element rest) block) sizes element none inside
    ∙ past_first element block (get_or sizes element none) (drop (element + 1) sizes) past

pub past_all : (sizes : List ElementSize) (element left block : ℕ) → length sizes ≤ element → block < length (one_after_another 0 sizes) → slice_get (one_after_another element (drop element sizes)) left ≡ slice_get (one_after_another 0 sizes) block → ⊥
past_all sizes element left block past below same =
    let ended = at_drop_all (λ (rest : List ElementSize). slice_get (one_after_another element rest) left) sizes element past in
    let read = slice_get-get_or (one_after_another 0 sizes) block (record { element = 0; block = 0 }) below in
    none-some _ (sym ended ∙ same ∙ read)

-- each block of an element stands past the elements before it
pub one_at : (first : ℕ) (sizes : List ElementSize) (element block : ℕ) (size : ElementSize) → slice_get sizes element ≡ Some size → block < size.capacity → slice_get (one_after_another first sizes) (sum_by (λ (s : ElementSize). s.capacity) (take element sizes) + block) ≡ Some (record { element = first + element; block = block })
one_at first [] element block size there below = absurd (none-some size there)
one_at first (other ∷ sizes) zero block size there below =
    let same = ap (λ (s : ElementSize). s.capacity) (same_Some other size there) in
    let start : 0 + block ≡ block = omega arith in
    rw (start, add-zero) (in_first first block other sizes (omega (arith, same)))
one_at first (other ∷ sizes) (suc element) block size there below =
    let rest = one_at (first + 1) sizes element block size there below in
    let split : sum_by (λ (s : ElementSize). s.capacity) (other ∷ take element sizes) + block ≡ other.capacity + (sum_by (λ (s : ElementSize). s.capacity) (take element sizes) + block) = omega (arith, sum_by-cons (λ (s : ElementSize). s.capacity) other (take element sizes)) in
    let back : other.capacity + (sum_by (λ (s : ElementSize). s.capacity) (take element sizes) + block) - other.capacity ≡ sum_by (λ (s : ElementSize). s.capacity) (take element sizes) + block = omega arith in
    let number : first + suc element ≡ first + 1 + element = omega arith in
    ap (slice_get (one_after_another first (other ∷ sizes))) split
    ∙ past_first first (other.capacity + (sum_by (λ (s : ElementSize). s.capacity) (take element sizes) + block)) other sizes (omega arith)
    ∙ rw (back, number) rest

pub record OneOf (first : ℕ) (sizes : List ElementSize) (n : ℕ) (spot : Spot) : Type 0 where
  pub element : ℕ
  pub size : ElementSize
  pub size_is : slice_get sizes element ≡ Some size
  pub element_is : spot.element ≡ first + element
  pub within : spot.block < size.capacity
  pub place_is : n ≡ sum_by (λ (s : ElementSize). s.capacity) (take element sizes) + spot.block

pub one_inverse : (first : ℕ) (sizes : List ElementSize) (n : ℕ) (spot : Spot) → slice_get (one_after_another first sizes) n ≡ Some spot → OneOf first sizes n spot
one_inverse first [] n spot there = absurd (none-some spot there)
one_inverse first (size ∷ sizes) n spot there =
    ⊎_elim
    (λ below.
    let same = same_Some spot _ (sym there ∙ in_first first n size sizes below) in
    let block_is = ap (λ (s : Spot). s.block) same in
    record { element = 0; size = size; size_is = refl; element_is = ap (λ (s : Spot). s.element) same ∙ sym (add-zero first); within = omega (arith, block_is); place_is = omega (arith, block_is) })
    (λ past.
    let rest = one_inverse (first + 1) sizes (n - size.capacity) spot (sym (past_first first n size sizes past) ∙ there) in
    record {
      element = suc rest.element;
      size = rest.size;
      size_is = rest.size_is;
      element_is = omega (arith, rest.element_is);
      within = rest.within;
      place_is = omega (arith, rest.place_is, sum_by-cons (λ (s : ElementSize). s.capacity) size (take rest.element sizes));
    })
    (cases_lt n size.capacity)
