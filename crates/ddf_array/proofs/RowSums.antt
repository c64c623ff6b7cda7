-- A row that sums to zero: each cell is the sum of the others.
use Rattle.std.proofs.Common.{◌≡◌, ◌∙◌, ℕ, ◌+◌, ◌-◌, ◌<◌, Bool, not, List, [], ◌∷◌, ◌++◌, Option, Some, None, length, refl, sym, ap, map, arith}
use Rattle.std.specs.Prelude.{bit_xor, filter, ◌==◌, option_map, if◌then◌else◌}
use Rattle.std.specs.List.{range_with_len}
use Rattle.std.proofs.lemmas.Bool.{eq-eqb}
use Rattle.std.proofs.lemmas.List.{map-append, length-replicate}
use Rattle.std.proofs.lemmas.List.Elements.{filter-append}
use Rattle.std.proofs.lemmas.Simd.{length-zip2}
use Rattle.ddf_lemmas.proofs.Lists.{filter_not_in_range}
use Rattle.ddf_bay.specs.Sectors.{Image}
use Rattle.ddf_parity.specs.Xor.{xor, xor_all, zeros}
use Rattle.ddf_parity.specs.XorLaws.{xor_all_first, xor_all_taken_out, same_from_zero}
use Rattle.ddf_array.specs.declared.part.Part.{Part}
use Rattle.ddf_array.specs.declared.site.Site.{Site}
use Rattle.ddf_array.specs.Places.{site_at}
use Rattle.ddf_array.specs.Sources.{all_of, other_positions, row_without}
use Rattle.ddf_array.specs.Values.{bytes_at, sum_at}
use Rattle.ddf_array.specs.Redundant.{whole_row}
use Rattle.ddf_array.specs.Sound.{AreSectors}
use Rattle.ddf_array.proofs.Ranges.{range-around}

pub long_zeros : length zeros ≡ 512
unfolding zeros
long_zeros = let none : ℕ = 0 in length-replicate 512 none

pub long_sum : (image : Image) → AreSectors image → (sites : List Site) → length (sum_at image sites) ≡ 512
long_sum image are [] = long_zeros
long_sum image are (site ∷ sites) =
    let one = are site.slot site.lba in
    let rest = long_sum image are sites in
    ap length (xor_all_first (bytes_at image site) (map (bytes_at image) sites))
    ∙ length-zip2 bit_xor (bytes_at image site) (sum_at image sites) (one ∙ sym rest) ∙ one

pub own_from_others : (image : Image) → AreSectors image → (before : List Site) (own : Site) (after : List Site) → sum_at image (before ++ own ∷ after) ≡ zeros
    → bytes_at image own ≡ sum_at image (before ++ after)
own_from_others image are before own after sums =
    same_from_zero (bytes_at image own) (sum_at image (before ++ after)) (are own.slot own.lba) (long_sum image are (before ++ after))
    (ap (λ l. xor (bytes_at image own) (xor_all l)) (map-append (bytes_at image) before after)
    ∙ sym (xor_all_taken_out (map (bytes_at image) before) (bytes_at image own) (map (bytes_at image) after))
    ∙ ap xor_all (sym (map-append (bytes_at image) before (own ∷ after))) ∙ sums)

-- ---- a row around one of its cells

module _ {X : Type 0} where
  pub record Split (xs ys : List (Option X)) (all : List X) : Type 0 where
    pub front : List X
    pub back : List X
    pub front_is : all_of xs ≡ Some front
    pub back_is : all_of ys ≡ Some back
    pub all_are : all ≡ front ++ back

  split_more : (x : X) (xs ys : List (Option X)) (o : Option (List X)) (all : List X) → all_of (xs ++ ys) ≡ o → option_map (λ l. x ∷ l) o ≡ Some all
      → ((rest : List X) → all_of (xs ++ ys) ≡ Some rest → Split xs ys rest) → Split (Some x ∷ xs) ys all
  split_more x xs ys None all is e split = absurd (cc)
  split_more x xs ys (Some rest) all is e split =
      let one = split rest is in
      let same : x ∷ rest ≡ all = cc in
      record {
        front = x ∷ one.front;
        back = one.back;
        front_is = ap (option_map (λ l. x ∷ l)) one.front_is;
        back_is = one.back_is;
        all_are = sym same ∙ ap (λ l. x ∷ l) one.all_are;
      }

  pub split_all : (xs ys : List (Option X)) (all : List X) → all_of (xs ++ ys) ≡ Some all → Split xs ys all
  split_all [] ys all e = record { front = []; back = all; front_is = refl; back_is = e; all_are = refl }
  split_all (None ∷ xs) ys all e = absurd (cc)
  split_all (Some x ∷ xs) ys all e = split_more x xs ys (all_of (xs ++ ys)) all refl e (λ rest is. split_all xs ys rest is)

  join_more : (x : X) (xs ys : List (Option X)) (own : X) (front back : List X) (o : Option (List X)) → all_of xs ≡ o → option_map (λ l. x ∷ l) o ≡ Some front
      → ((rest : List X) → all_of xs ≡ Some rest → all_of (xs ++ Some own ∷ ys) ≡ Some (rest ++ own ∷ back))
      → option_map (λ l. x ∷ l) (all_of (xs ++ Some own ∷ ys)) ≡ Some (front ++ own ∷ back)
  join_more x xs ys own front back None is g join = absurd (cc)
  join_more x xs ys own front back (Some rest) is g join =
      let same : x ∷ rest ≡ front = cc in
      ap (option_map (λ l. x ∷ l)) (join rest is) ∙ ap (λ l. Some (l ++ own ∷ back)) same

  join_all : (xs ys : List (Option X)) (own : X) (front back : List X) → all_of xs ≡ Some front → all_of ys ≡ Some back → all_of (xs ++ Some own ∷ ys) ≡ Some (front ++ own ∷ back)
  join_all [] ys own front back e f = let none : front ≡ [] = cc in ap (option_map (λ l. own ∷ l)) f ∙ ap (λ l. Some (l ++ own ∷ back)) (sym none)
  join_all (None ∷ xs) ys own front back e f = absurd (cc)
  join_all (Some x ∷ xs) ys own front back e f = join_more x xs ys own front back (all_of xs) refl e (λ rest is. join_all xs ys own rest back is f)

pub others_are : (members position : ℕ) → position < members → other_positions members position ≡ range_with_len 0 position ++ range_with_len (position + 1) (members - position - 1)
others_are members position below =
    let test : ℕ → Bool = λ other. not (other == position) in
    let front = range_with_len 0 position in
    let back = range_with_len (position + 1) (members - position - 1) in
    ap (filter test) (range-around members position below) ∙ filter-append test front (position ∷ back)
    ∙ ap (λ l. l ++ filter test (position ∷ back)) (filter_not_in_range position 0 position (λ k low high same. omega (arith, same, high)))
    ∙ ap (λ l. front ++ l)
    (ap (λ b. if not b then position ∷ filter test back else filter test back) (eq-eqb position position refl)
    ∙ filter_not_in_range position (position + 1) (members - position - 1) (λ k low high same. omega (arith, same, low)))

-- where a row sums to zero, a cell of it is the sum of the others
pub cell_from_row : (image : Image) → AreSectors image → (part : Part) (position sector : ℕ) (own : Site) (sites : List Site) → position < length part.places
    → ((all : List Site) → whole_row part sector ≡ Some all → sum_at image all ≡ zeros)
    → site_at part.places position sector ≡ Some own → row_without part.places position sector ≡ Some sites → bytes_at image own ≡ sum_at image sites
cell_from_row image are part position sector own sites below sums own_is row_is =
    let n = length part.places in
    let site = λ (other : ℕ). site_at part.places other sector in
    let front = range_with_len 0 position in
    let back = range_with_len (position + 1) (n - position - 1) in
    let split = split_all (map site front) (map site back) sites
    (ap all_of (sym (map-append site front back)) ∙ ap (λ l. all_of (map site l)) (sym (others_are n position below)) ∙ row_is) in
    let whole : whole_row part sector ≡ Some (split.front ++ own ∷ split.back) =
    ap (λ l. all_of (map site l)) (range-around n position below)
    ∙ ap all_of (map-append site front (position ∷ back))
    ∙ ap (λ o. all_of (map site front ++ o ∷ map site back)) own_is
    ∙ join_all (map site front) (map site back) own split.front split.back split.front_is split.back_is in
    own_from_others image are split.front own split.back (sums (split.front ++ own ∷ split.back) whole) ∙ ap (sum_at image) (sym split.all_are)
