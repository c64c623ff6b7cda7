-- Which members RAID 1E needs: those on which its blocks are.
use Rattle.std.proofs.Common.{◌≡◌, ◌⊎◌, ◌∙◌, ◌↔◌, ℕ, zero, suc, ◌+◌, ◌*◌, ◌/◌, ◌<◌, ◌≤◌, Bool, true, false, not, ◌||◌, List, [], ◌∷◌, Some, None, slice_get, length, map, get_or, inl, inr, ⊎_elim, refl, sym, ap, arith}
use Rattle.std.specs.List.{list_all, range_with_len}
use Rattle.std.proofs.lemmas.Bool.{and_parts, cases_lt, and_from, or_cases, or_left, or_right}
use Rattle.ddf_mirror1e.specs.declared.spread.Spread.{Spread}
use Rattle.ddf_mirror1e.specs.Mirror.{Mirror as Twofold, mirror}
use Rattle.ddf_mirror1e.specs.Copies.{begins_pairs, capacity, data_strips, first, first_strip, following, second}
use Rattle.ddf_mirror1e.proofs.Strips.{first_within, follows}
use Rattle.ddf_mirror1e.proofs.Begins.{begins_only, begins_within}
use Rattle.ddf_mirror1e.proofs.Places.{some_members}
use Rattle.std.proofs.lemmas.Nat.{div-mul-add, le-div, mul-add-lt}
use Rattle.ddf_primary.specs.declared.layout.Layout.TheVariants.{Mirror}
use Rattle.ddf_primary.specs.Placement.{Placement}
use Rattle.ddf_primary.specs.Levels.{IsShape}
use Rattle.ddf_primary.specs.Needs.{one_of_each, one_of_two}
use Rattle.ddf_primary.specs.Cells.{cells}
use Rattle.ddf_primary.specs.Copies.{IsHeldBy}
use Rattle.ddf_primary.proofs.MirrorLayouts.{is_mirror, mirror_holds, mirror_length, mirror_read}

-- ---- tests over a range

pub all_range : (f : ℕ → Bool) (first count : ℕ) → ((n : ℕ) → first ≤ n → n < first + count → f n ≡ true) → list_all f (range_with_len first count) ≡ true
all_range f first zero all = refl
all_range f first (suc count) all =
    and_from (f first) (list_all f (range_with_len (first + 1) count)) (all first (omega arith) (omega arith))
    (all_range f (first + 1) count (λ n from below. all n (omega (arith, from)) (omega (arith, below))))

pub range_all : (f : ℕ → Bool) (first count n : ℕ) → list_all f (range_with_len first count) ≡ true → first ≤ n → n < first + count → f n ≡ true
range_all f first zero n e from below = absurd (omega (arith, from, below))
range_all f first (suc count) n e from below =
    let parts = and_parts (f first) (list_all f (range_with_len (first + 1) count)) e in
    ⊎_elim (λ (same : n ≡ first). ap f same ∙ parts.0) (λ (later : first + 1 ≤ n). range_all f (first + 1) count n parts.1 later (omega (arith, below))) (later_or n first from)
  where
    later_or : (n first : ℕ) → first ≤ n → (n ≡ first) ⊎ (first + 1 ≤ n)
    later_or n first from = ⊎_elim (λ less. inr (omega (arith, less))) (λ more. inl (omega (arith, from, more))) (cases_lt first n)

-- ---- one of two

-- what a list of answers says of an item
pub there_some : {X : Type 0} (p : X → Bool) (xs : List X) (n : ℕ) (x : X) → slice_get xs n ≡ Some x → get_or (map p xs) n false ≡ p x
there_some p [] n x at = absurd (cc)
there_some p (y ∷ xs) zero x at = let same : y ≡ x = cc in ap p same
there_some p (y ∷ xs) (suc n) x at = there_some p xs n x at

pub there_none : {X : Type 0} (p : X → Bool) (xs : List X) (n : ℕ) → slice_get xs n ≡ None → get_or (map p xs) n false ≡ false
there_none p [] n none = refl
there_none p (y ∷ xs) zero none = absurd (cc)
there_none p (y ∷ xs) (suc n) none = there_none p xs n none

needed : (begins one other : Bool) → begins ≡ true → (not begins || (one || other)) ≡ true → (one ≡ true) ⊎ (other ≡ true)
needed begins one other is e = or_cases one other (ap (λ c. not c || (one || other)) (sym is) ∙ e)

unless : (begins one other : Bool) → (begins ≡ true → (one || other) ≡ true) → (not begins || (one || other)) ≡ true
unless true one other has = has refl
unless false one other has = refl

-- more of them are no less
pub enough_more : (spread : Spread) (fewer more : List Bool) → length fewer ≡ length more → ((n : ℕ) → get_or fewer n false ≡ true → get_or more n false ≡ true) → one_of_each spread fewer ≡ true
    → one_of_each spread more ≡ true
enough_more spread fewer more long up enough =
    all_range (one_of_two spread more) 0 (length more)
    (λ member from below.
    unless (begins_pairs spread (length more) member) (get_or more member false) (get_or more (following (length more) member) false)
    (λ begins.
    let test = range_all (one_of_two spread fewer) 0 (length fewer) member enough (omega arith) (omega (arith, below, long)) in
    ⊎_elim
    (λ one. or_left (get_or more member false) _ (up member one))
    (λ other. or_right (get_or more member false) _ (up (following (length more) member) (ap (λ n. get_or fewer (following n member) false) (sym long) ∙ other)))
    (needed (begins_pairs spread (length fewer) member) (get_or fewer member false) (get_or fewer (following (length fewer) member) false)
    (ap (λ n. begins_pairs spread n member) long ∙ begins) test)))

module _ (shape : Placement) (spread : Spread) (is : shape.layout ≡ Mirror spread) (sound : IsShape shape) (there : List Bool) (long : length there ≡ shape.members) where
  abbrev m : Twofold
  m = mirror spread shape.members shape.strip shape.blocks

  held : one_of_each spread there ≡ true → (block : ℕ) → block < length (cells shape) → IsHeldBy shape there block
  held enough block below =
      let sure = is_mirror shape spread is sound in
      let number = block / shape.strip in
      let own = (first_strip spread shape.members number).0 in
      let inside : block < capacity m = omega (arith, below, mirror_length shape spread is) in
      let near : own < shape.members = first_within spread shape.members number (some_members m sure) in
      let begins : begins_pairs spread (length there) own ≡ true =
      ap (λ n. begins_pairs spread n own) long ∙ begins_only spread shape.members number (some_members m sure) in
      let test = range_all (one_of_two spread there) 0 (length there) own enough (omega arith) (omega (arith, near, long)) in
      ⊎_elim
      (λ one. record { member = own; sector = (first m block).1; holds = mirror_holds shape spread is own (first m block).1 block (inside, inl (refl, refl)); is_there = one })
      (λ other.
      let behind : following (length there) own ≡ (second m block).0 = ap (λ n. following n own) long ∙ sym (follows spread shape.members number) in
      record {
        member = (second m block).0;
        sector = (second m block).1;
        holds = mirror_holds shape spread is (second m block).0 (second m block).1 block (inside, inr (refl, refl));
        is_there = ap (λ n. get_or there n false) (sym behind) ∙ other;
      })
      (needed (begins_pairs spread (length there) own) (get_or there own false) (get_or there (following (length there) own) false) begins test)

  -- a block whose first copy is on the member
  begun : (member : ℕ) → member < shape.members → begins_pairs spread shape.members member ≡ true → (block : ℕ) × ((block < capacity m) × ((first m block).0 ≡ member))
  begun member within begins =
      let sure = is_mirror shape spread is sound in
      let found = begins_within spread shape.members member (shape.blocks / shape.strip) within (le-div 2 shape.blocks shape.strip (omega (arith, sure.some_strip)) sure.least) begins in
      let strip = found.0 in (
        strip * shape.strip + 0,
        (
          omega (arith, mul-add-lt strip shape.strip 0 (data_strips m) found.1.0 (omega (arith, sure.some_strip))),
          ap (λ k. (first_strip spread shape.members k).0) (div-mul-add strip shape.strip 0 (omega (arith, sure.some_strip))) ∙ found.1.1,
        ),
      )

  enough : ((block : ℕ) → block < length (cells shape) → IsHeldBy shape there block) → one_of_each spread there ≡ true
  enough all =
      all_range (one_of_two spread there) 0 (length there)
      (λ member from below.
      unless (begins_pairs spread (length there) member) (get_or there member false) (get_or there (following (length there) member) false)
      (λ begins.
      let within : member < shape.members = omega (arith, below, long) in
      let at = begun member within (ap (λ n. begins_pairs spread n member) (sym long) ∙ begins) in
      let has = all at.0 (omega (arith, at.1.0, mirror_length shape spread is)) in
      let copy = (mirror_read shape spread is has.member has.sector at.0 has.holds).1 in
      ⊎_elim
      (λ own. or_left (get_or there member false) _ (ap (λ n. get_or there n false) (sym at.1.1 ∙ own.0) ∙ has.is_there))
      (λ far.
      let behind : following (length there) member ≡ has.member =
      ap (λ n. following n member) long ∙ ap (following shape.members) (sym at.1.1) ∙ sym (follows spread shape.members (at.0 / shape.strip)) ∙ far.0 in
      or_right (get_or there member false) _ (ap (λ n. get_or there n false) behind ∙ has.is_there))
      copy))

  pub is_enough : (one_of_each spread there ≡ true) ↔ ((block : ℕ) → block < length (cells shape) → IsHeldBy shape there block)
  is_enough = (held, enough)
