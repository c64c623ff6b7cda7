-- An array within its level has a source for each block.
use Rattle.std.proofs.Common.{◌≡◌, ◌≢◌, ◌∙◌, ◌⊎◌, inl, inr, ⊎_elim, ℕ, zero, suc, ◌+◌, ◌-◌, ◌<◌, ◌≤◌, List, [], ◌∷◌, ◌++◌, Bool, true, false, not, Option, Some, None, refl, sym, ap, subst, arith, map, length, length-append, slice_get, get_or, eq-eqb, ◌||◌, ◌&&◌}
use Rattle.std.specs.Prelude.{option_to_list, filter_map, is_some, count_by, if◌then◌else◌, option_map, option_and_then, ◌==◌}
use Rattle.std.specs.List.{range_with_len, flat_map, list_any, list_all, cons_option}
use Rattle.std.proofs.lemmas.Option.{slice_get_within, slice_get_cases, slice_get-get_or}
use Rattle.std.proofs.lemmas.Bool.{leb-true, false_from_ne_true}
use Rattle.std.proofs.lemmas.List.{length-map}
use Rattle.std.proofs.lemmas.List.Sums.{sum_by-cons}
use Rattle.ddf_array.specs.declared.place.Place.{Place}
use Rattle.ddf_array.specs.declared.part.Part.{Part}
use Rattle.ddf_array.specs.declared.site.Site.{Site}
use Rattle.ddf_array.specs.Places.{is_available, site, site_at, site_on}
use Rattle.ddf_array.specs.Sources.{Source, copy, row, all_of, row_without, other_at, element_copies, element_rows, at_element, copies, rows, every_source}
use Rattle.ddf_array.specs.Levels.{keeps_copies, keeps_parity}
use Rattle.ddf_primary.specs.declared.need.Need.{Need}
use Rattle.ddf_primary.specs.declared.need.Need.TheVariants.{All, One, AllButOne, Neighbours}
use Rattle.ddf_primary.specs.Cells.{cells}
use Rattle.ddf_primary.specs.Needs.{need_by}
use Rattle.ddf_primary.proofs.Needs.{needs_all, needs_all_but_one, needs_neighbours, needs_one, parity_alone}
use Rattle.ddf_primary.specs.Copies.{IsHeldBy}
use Rattle.ddf_primary.proofs.Copies.{copy_at, holds_on}
use Rattle.ddf_primary.proofs.Enough.{is_enough}
use Rattle.ddf_primary.proofs.ShapeFacts.{cell_facts}
use Rattle.ddf_secondary.specs.declared.spot.Spot.{Spot}
use Rattle.ddf_secondary.specs.Spots.{spots}
use Rattle.ddf_secondary.proofs.SpotFacts.{spot_facts}
use Rattle.std.proofs.lemmas.Bool.{cases_lt}
use Rattle.ddf_lemmas.proofs.Tests.{and_first, and_second, true_not_false}
use Rattle.ddf_array.specs.Volume.{Volume, IsVolume, IsPart}
use Rattle.ddf_array.proofs.Elements.{every_below, spot_below, along_every, along_one, at_found, parts_count}
use Rattle.ddf_array.specs.Cells.{is_in_every, element_cells}
use Rattle.ddf_config.specs.Within.{has_enough}
use Rattle.ddf_array.specs.Within.{is_part_within, is_mirrored, is_within}
use Rattle.ddf_array.proofs.ElementCells.{copies_on, cells_one, copies_on_one, copies_on_every}
use Rattle.ddf_array.proofs.Ranges.{flat-around}
use Rattle.ddf_array.proofs.RowCells.{row_is, row_more}

-- ---- lists

-- an item that passes, where one does
pub record Found {X : Type 0} (p : X → Bool) (xs : List X) : Type 0 where
  pub at : ℕ
  pub item : X
  pub is_at : slice_get xs at ≡ Some item
  pub passes : p item ≡ true

found_here : {X : Type 0} (p : X → Bool) (x : X) (xs : List X) → p x ≡ true → Found p (x ∷ xs)
found_here p x xs e = record { at = 0; item = x; is_at = refl; passes = e }

found_later : {X : Type 0} (p : X → Bool) (x : X) (xs : List X) → Found p xs → Found p (x ∷ xs)
found_later p x xs found = record { at = suc found.at; item = found.item; is_at = found.is_at; passes = found.passes }

found_by : {X : Type 0} (p : X → Bool) (x : X) (xs : List X) (b : Bool) → p x ≡ b → (b || list_any p xs) ≡ true → (list_any p xs ≡ true → Found p xs) → Found p (x ∷ xs)
found_by p x xs true e is rest = found_here p x xs e
found_by p x xs false e is rest = found_later p x xs (rest is)

pub any_found : {X : Type 0} (p : X → Bool) (xs : List X) → list_any p xs ≡ true → Found p xs
any_found p [] any = absurd (cc)
any_found p (x ∷ xs) any = found_by p x xs (p x) refl any (λ rest. any_found p xs rest)

pub all_pass : {X : Type 0} (p : X → Bool) (xs : List X) → list_all p xs ≡ true → (k : ℕ) (x : X) → slice_get xs k ≡ Some x → p x ≡ true
all_pass p [] all k x at = absurd (cc)
all_pass p (y ∷ ys) all zero x at = let same : y ≡ x = cc in subst (λ z. p z ≡ true) same (and_first (p y) (list_all p ys) all)
all_pass p (y ∷ ys) all (suc k) x at = all_pass p ys (and_second (p y) (list_all p ys) all) k x at

-- of a list in which one item passes at most, the others don't
none_by : (b : Bool) (n : ℕ) → (if b then 1 else 0) + n ≤ 0 → (b ≡ false) × (n ≤ 0)
none_by true n le = absurd (omega arith)
none_by false n le = (refl, omega arith)

count-cons : {X : Type 0} (q : X → Bool) (x : X) (xs : List X) (most : ℕ) → count_by q (x ∷ xs) ≤ most → (if q x then 1 else 0) + count_by q xs ≤ most
count-cons q x xs most le = subst (λ (n : ℕ). n ≤ most) (sum_by-cons (λ y. if q y then 1 else 0) x xs) le

none_pass : {X : Type 0} (q : X → Bool) (xs : List X) → count_by q xs ≤ 0 → (k : ℕ) (x : X) → slice_get xs k ≡ Some x → q x ≡ false
none_pass q [] le k x at = absurd (cc)
none_pass q (y ∷ ys) le zero x at = let same : y ≡ x = cc in subst (λ z. q z ≡ false) same (none_by (q y) (count_by q ys) (count-cons q y ys 0 le)).0
none_pass q (y ∷ ys) le (suc k) x at = none_pass q ys (none_by (q y) (count_by q ys) (count-cons q y ys 0 le)).1 k x at

rest_by : (b : Bool) (n : ℕ) → (if b then 1 else 0) + n ≤ 1 → b ≡ true → n ≤ 0
rest_by true n le e = omega arith
rest_by false n le e = absurd (cc)

less_by : (b : Bool) (n : ℕ) → (if b then 1 else 0) + n ≤ 1 → n ≤ 1
less_by true n le = omega arith
less_by false n le = omega arith

pub only_one : {X : Type 0} (q : X → Bool) (xs : List X) → count_by q xs ≤ 1 → (i k : ℕ) (x y : X) → slice_get xs i ≡ Some x → slice_get xs k ≡ Some y → q x ≡ true → k ≢ i → q y ≡ false
only_one q [] le i k x y at_i at_k is other = absurd (cc)
only_one q (z ∷ zs) le zero zero x y at_i at_k is other = absurd (other refl)
only_one q (z ∷ zs) le zero (suc k) x y at_i at_k is other =
    let same : x ≡ z = cc in
    none_pass q zs (rest_by (q z) (count_by q zs) (count-cons q z zs 1 le) (subst (λ w. q w ≡ true) same is)) k y at_k
only_one q (z ∷ zs) le (suc i) zero x y at_i at_k is other =
    let same : z ≡ y = cc in
    false_from_ne_true (q y) (λ yes. absurd (true_false (sym is ∙ none_pass q zs (rest_by (q z) (count_by q zs) (count-cons q z zs 1 le) (subst (λ w. q w ≡ true) (sym same) yes)) i x at_i)))
  where
    true_false : true ≡ false → ⊥
    true_false e = cc
only_one q (z ∷ zs) le (suc i) (suc k) x y at_i at_k is other =
    only_one q zs (less_by (q z) (count_by q zs) (count-cons q z zs 1 le)) i k x y at_i at_k is (λ e. other (ap suc e))

-- ---- available positions

-- a sector of an available position lies somewhere
there_by : (synced : Bool) (slot : Option ℕ) (lba : ℕ) → (synced && is_some slot) ≡ true → is_some (if synced then option_map (λ s. site_on s lba) slot else None) ≡ true
there_by true None lba e = absurd (cc)
there_by true (Some s) lba e = refl
there_by false slot lba e = absurd (cc)

pub site_there : (places : List Place) (position sector : ℕ) (place : Place) → slice_get places position ≡ Some place → is_available place ≡ true → is_some (site_at places position sector) ≡ true
site_there places position sector place at available =
    ap (λ (found : Option Place). is_some (option_and_then (λ p. site p sector) found)) at ∙ there_by place.synced place.slot (place.start + sector) available

one_by : (o : Option Site) → is_some o ≡ true → 0 < length (map copy (option_to_list o))
one_by None e = absurd (cc)
one_by (Some s) e = omega arith

pub copy_there : (places : List Place) (position sector : ℕ) (place : Place) → slice_get places position ≡ Some place → is_available place ≡ true → 0 < length (copies_on places sector position)
copy_there places position sector place at available = one_by (site_at places position sector) (site_there places position sector place at available)

-- something in one of the pieces
pub in_pieces : {X : Type 0} (each : ℕ → List X) (n k : ℕ) → k < n → 0 < length (each k) → 0 < length (flat_map each (range_with_len 0 n))
in_pieces each n k below some =
    let e = ap length (flat-around each n k below) in
    omega (arith, e, length-append (flat_map each (range_with_len 0 k)) (each k ++ flat_map each (range_with_len (k + 1) (n - k - 1))), length-append (each k) (flat_map each (range_with_len (k + 1) (n - k - 1))))

-- ---- rows

alone_by : (b : Bool) (o : Option Site) → (b ≡ false → is_some o ≡ true) → is_some (all_of (if b then [] else o ∷ [])) ≡ true
alone_by true o h = refl
alone_by false None h = h refl
alone_by false (Some s) h = refl

-- a row is there where all its other positions are available
pub row_there : (places : List Place) (position sector : ℕ) → ((other : ℕ) (place : Place) → slice_get places other ≡ Some place → (other == position) ≡ false → is_available place ≡ true)
    → is_some (row_without places position sector) ≡ true
row_there places position sector all = ap is_some (row_is places position sector) ∙ upto (length places) (omega arith)
  where
    at_most : (k : ℕ) (found : Option Place) → slice_get places k ≡ found → k < length places → (k == position) ≡ false → is_some (site_at places k sector) ≡ true
    at_most k None e below other = absurd (missing _ (sym e ∙ slice_get-get_or places k (record { slot = None; start = 0; synced = false; row = 0 }) below))
      where
        missing : (x : Place) → (◌≡◌ {A = Option Place} None (Some x)) → ⊥
        missing x e = cc
    at_most k (Some place) e below other = site_there places k sector place e (all k place e other)

    upto : (k : ℕ) → k ≤ length places → is_some (all_of (flat_map (other_at places sector position) (range_with_len 0 k))) ≡ true
    upto zero le = refl
    upto (suc k) le =
        let e : k + 1 ≡ suc k = omega arith in
        subst (λ (n : ℕ). is_some (all_of (flat_map (other_at places sector position) (range_with_len 0 n))) ≡ true) e
        (row_more places position sector k (upto k (omega arith)) (alone_by (k == position) (site_at places k sector) (λ other. at_most k (slice_get places k) refl (omega arith) other)))

-- ---- elements and arrays

module _ (part : Part) (known : IsPart part) (block : ℕ) (below : block < length (cells part.shape)) where
  -- a cell of the block: that of the placing list
  pub record At : Type 0 where
    pub member : ℕ
    pub sector : ℕ
    pub is_at : slice_get (cells part.shape) block ≡ Some (member, sector)
    pub place : Place
    pub has_place : slice_get part.places member ≡ Some place

  the_cell : At
  the_cell =
      let cell = get_or (cells part.shape) block (0, 0) in
      let at : slice_get (cells part.shape) block ≡ Some cell = slice_get-get_or (cells part.shape) block (0, 0) below in
      let facts = cell_facts part.shape known.shape_is in
      let within : cell.0 < length part.places = omega (arith, known.has_places, facts.member_within cell.0 cell.1 block (facts.named cell.0 cell.1 block at)) in
      let none : Place = record { slot = None; start = 0; synced = false; row = 0 } in
      record { member = cell.0; sector = cell.1; is_at = at; place = get_or part.places cell.0 none; has_place = slice_get-get_or part.places cell.0 none within }

  -- the sources of the block in the element
  abbrev pub element_sources : List Source
  element_sources = map copy (element_copies part block) ++ map row (element_rows part block)

  some_left : 0 < length (map copy (element_copies part block)) → 0 < length element_sources
  some_left some = omega (arith, length-append (map copy (element_copies part block)) (map row (element_rows part block)))

  -- by its own position
  from_own : keeps_copies part.shape.layout ≡ false → is_available (the_cell).place ≡ true → 0 < length element_sources
  from_own is available =
      let at = the_cell in
      some_left (rw (copies_on_one part block at.member at.sector at.is_at known.shape_is is) (copy_there part.places at.member at.sector at.place at.has_place available))

  -- by the row's other positions
  rows_one : keeps_parity part.shape.layout ≡ true → keeps_copies part.shape.layout ≡ false → element_rows part block ≡ cons_option (row_without part.places (the_cell).member (the_cell).sector) []
  rows_one parity is =
      let at = the_cell in
      ap (λ b. if b then filter_map (λ (cell : ℕ × ℕ). row_without part.places cell.0 cell.1) (element_cells part.shape block) else []) parity
      ∙ ap (filter_map (λ (cell : ℕ × ℕ). row_without part.places cell.0 cell.1)) (cells_one part block at.member at.sector at.is_at known.shape_is is)

  row_some : (found : Option (List Site)) → is_some found ≡ true → 0 < length (map row (cons_option found []))
  row_some None e = absurd (cc)
  row_some (Some sites) e = omega arith

  from_row : keeps_parity part.shape.layout ≡ true → keeps_copies part.shape.layout ≡ false → is_some (row_without part.places (the_cell).member (the_cell).sector) ≡ true → 0 < length element_sources
  from_row parity is there =
      let some : 0 < length (map row (element_rows part block)) = rw (rows_one parity is) (row_some _ there) in
      omega (arith, length-append (map copy (element_copies part block)) (map row (element_rows part block)))

  parity_by : (b : Bool) → is_available (the_cell).place ≡ b → keeps_parity part.shape.layout ≡ true → keeps_copies part.shape.layout ≡ false
      → count_by (λ place. not (is_available place)) part.places ≤ 1 → 0 < length element_sources
  parity_by true e parity is le = from_own is e
  parity_by false e parity is le =
      let at = the_cell in
      from_row parity is
      (row_there part.places at.member at.sector
      (λ other place there differs.
      twice (is_available place) (only_one (λ (p : Place). not (is_available p)) part.places le at.member other at.place place at.has_place there (ap not e) (apart other at.member differs))))
    where
      twice : (b : Bool) → not b ≡ false → b ≡ true
      twice true e = refl
      twice false e = absurd (cc)

      apart : (a b : ℕ) → (a == b) ≡ false → a ≢ b
      apart a b e same = let yes = eq-eqb a b same in true_not_false (sym yes ∙ e)

  -- by a position that holds it
  copy_some : (found : List (ℕ × ℕ)) (k member sector : ℕ) → slice_get found k ≡ Some (member, sector) → 0 < length (copies_on part.places sector member)
      → 0 < length (map copy (filter_map (λ (cell : ℕ × ℕ). site_at part.places cell.0 cell.1) found))
  copy_some [] k member sector at some = absurd (cc)
  copy_some (cell ∷ found) zero member sector at some =
      let same : cell ≡ (member, sector) = cc in
      first_some (site_at part.places cell.0 cell.1) _ (subst (λ (c : ℕ × ℕ). 0 < length (copies_on part.places c.1 c.0)) (sym same) some)
    where
      first_some : (o : Option Site) (others : List Site) → 0 < length (map copy (option_to_list o)) → 0 < length (map copy (cons_option o others))
      first_some None others none = absurd (omega (arith, none))
      first_some (Some site) others some = omega arith
  copy_some (cell ∷ found) (suc k) member sector at some = behind (site_at part.places cell.0 cell.1) _ (copy_some found k member sector at some)
    where
      behind : (o : Option Site) (others : List Site) → 0 < length (map copy others) → 0 < length (map copy (cons_option o others))
      behind None others some = some
      behind (Some site) others some = omega arith

  from_held : IsHeldBy part.shape (map is_available part.places) block → 0 < length element_sources
  from_held held =
      let found = there_is part.places held.member held.is_there in
      let facts = cell_facts part.shape known.shape_is in
      let on = holds_on part.shape known.shape_is held.member held.sector block held.holds in
      let cell = copy_at part.shape block held.member held.sector (facts.member_within held.member held.sector block held.holds) on in
      some_left (copy_some (element_cells part.shape block) cell.0 held.member held.sector cell.1 (copy_there part.places held.member held.sector found.0 found.1.0 found.1.1))
    where
      there_is : (places : List Place) (n : ℕ) → get_or (map is_available places) n false ≡ true → (place : Place) × ((slice_get places n ≡ Some place) × (is_available place ≡ true))
      there_is [] n e = absurd (cc)
      there_is (place ∷ places) zero e = (place, (refl, e))
      there_is (place ∷ places) (suc n) e = there_is places n e

  enough_by : (need : Need) → need_by part.shape.layout ≡ need → has_enough need is_available part.places ≡ true → 0 < length element_sources
  enough_by All is e =
      let at = the_cell in
      from_own (needs_all part.shape.layout is).0 (all_pass is_available part.places e at.member at.place at.has_place)
  enough_by One is e =
      let at = the_cell in
      let found = any_found is_available part.places e in
      some_left (rw (copies_on_every part block at.member at.sector at.is_at (needs_one part.shape.layout is) known.has_places)
      (in_pieces (copies_on part.places at.sector) (length part.places) found.at (slice_get_within part.places found.at found.item found.is_at) (copy_there part.places found.at at.sector found.item found.is_at found.passes)))
  enough_by AllButOne is e =
      let keeps = needs_all_but_one part.shape.layout is in
      parity_by (is_available (the_cell).place) refl keeps (parity_alone part.shape.layout keeps) (leb-true (count_by (λ (place : Place). not (is_available place)) part.places) 1 e)
  enough_by (Neighbours spread) is e =
      let layout = needs_neighbours part.shape.layout spread is in
      let long : length (map is_available part.places) ≡ part.shape.members = length-map part.places is_available ∙ known.has_places in
      from_held ((is_enough part.shape spread layout known.shape_is (map is_available part.places) long).0 e block below)

  pub element_enough : is_part_within part ≡ true → 0 < length element_sources
  element_enough e = enough_by (need_by part.shape.layout) refl e

module _ (v : Volume) (known : IsVolume v) (block : ℕ) (below : block < length (spots v.tiers)) where
  pub record In : Type 0 where
    pub spot : Spot
    pub is_in : slice_get (spots v.tiers) block ≡ Some spot

  the_spot : In
  the_spot =
      let none : Spot = record { element = 0; block = 0 } in
      record { spot = get_or (spots v.tiers) block none; is_in = slice_get-get_or (spots v.tiers) block none below }

  -- an element's sources are the array's
  some_at : (inner element : ℕ) (part : Part) → slice_get v.parts element ≡ Some part → 0 < length (map copy (element_copies part inner) ++ map row (element_rows part inner))
      → (0 < length (map copy (at_element v.parts element_copies inner element))) ⊎ (0 < length (map row (at_element v.parts element_rows inner element)))
  some_at inner element part at some =
      ⊎_elim (λ (copies_some : 0 < length (map copy (element_copies part inner))). inl (rw (at_found v.parts element_copies inner element part at) copies_some))
      (λ (none : length (map copy (element_copies part inner)) ≤ 0). inr (rw (at_found v.parts element_rows inner element part at) (omega (arith, length-append (map copy (element_copies part inner)) (map row (element_rows part inner))))))
      (cases_lt 0 (length (map copy (element_copies part inner))))

  joined : (0 < length (map copy (copies v block))) ⊎ (0 < length (map row (rows v block))) → 0 < length (every_source v block)
  joined some = ⊎_elim (λ a. omega (arith, length-append (map copy (copies v block)) (map row (rows v block)))) (λ b. omega (arith, length-append (map copy (copies v block)) (map row (rows v block)))) some

  -- mirrored elements
  from_every : is_in_every v.tiers.level ≡ true → (element : ℕ) (part : Part) → slice_get v.parts element ≡ Some part → is_part_within part ≡ true → 0 < length (every_source v block)
  from_every is element part at within =
      let spot = the_spot in
      let some = element_enough part (known.are_parts element part at) spot.spot.block (every_below v known block element spot.spot part is spot.is_in at) within in
      let below_count = slice_get_within v.parts element part at in
      joined (⊎_elim
      (λ a. inl (rw (along_every v copy element_copies block spot.spot spot.is_in is) (in_pieces (λ e. map copy (at_element v.parts element_copies spot.spot.block e)) (length v.parts) element below_count a)))
      (λ b. inr (rw (along_every v row element_rows block spot.spot spot.is_in is) (in_pieces (λ e. map row (at_element v.parts element_rows spot.spot.block e)) (length v.parts) element below_count b)))
      (some_at spot.spot.block element part at some))

  -- the element of the block
  from_one : is_in_every v.tiers.level ≡ false → (part : Part) → slice_get v.parts (the_spot).spot.element ≡ Some part → is_part_within part ≡ true → 0 < length (every_source v block)
  from_one is part at within =
      let spot = the_spot in
      let some = element_enough part (known.are_parts spot.spot.element part at) spot.spot.block (spot_below v known block spot.spot part spot.is_in at) within in
      joined (⊎_elim
      (λ a. inl (rw (along_one v copy element_copies block spot.spot spot.is_in is) a))
      (λ b. inr (rw (along_one v row element_rows block spot.spot spot.is_in is) b))
      (some_at spot.spot.block spot.spot.element part at some))

-- an array within its level
pub has_source : (v : Volume) → IsVolume v → (block : ℕ) → block < length (spots v.tiers) → is_within v ≡ true → 0 < length (every_source v block)
has_source v known block below within = by_mirrored (is_mirrored v) refl within
  where
    first_part : (element : ℕ) → element < length v.parts → (part : Part) × (slice_get v.parts element ≡ Some part)
    first_part element there = item (slice_get_cases v.parts element).1
      where
        item : ((x : Part) × (element < length v.parts) × (slice_get v.parts element ≡ Some x) × (get_or v.parts element x ≡ x)) ⊎ ((length v.parts ≤ element) × (slice_get v.parts element ≡ None)) → (part : Part) × (slice_get v.parts element ≡ Some part)
        item cases = ⊎_elim (λ h. (h.0, h.2)) (λ h. absurd (omega (arith, h.0))) cases

    by_every : (b : Bool) → is_in_every v.tiers.level ≡ b → list_all is_part_within v.parts ≡ true → 0 < length (every_source v block)
    by_every true is all =
        let some : 0 < length v.parts = omega (arith, parts_count v known, known.array_is.some) in
        let part = first_part 0 some in
        from_every v known block below is 0 part.0 part.1 (all_pass is_part_within v.parts all 0 part.0 part.1)
    by_every false is all =
        let spot = the_spot v known block below in
        let there : spot.spot.element < length v.parts =
        omega (arith, parts_count v known, (spot_facts v.tiers known.array_is).element_within spot.spot block ((spot_facts v.tiers known.array_is).named spot.spot block spot.is_in)) in
        let part = first_part spot.spot.element there in
        from_one v known block below is part.0 part.1 (all_pass is_part_within v.parts all spot.spot.element part.0 part.1)

    by_mirrored : (b : Bool) → is_mirrored v ≡ b → (if b then list_any is_part_within v.parts else list_all is_part_within v.parts) ≡ true → 0 < length (every_source v block)
    by_mirrored true is any =
        let found = any_found is_part_within v.parts any in
        from_every v known block below (and_first (is_in_every v.tiers.level) _ is) found.at found.item found.is_at found.passes
    by_mirrored false is all = by_every (is_in_every v.tiers.level) refl all
