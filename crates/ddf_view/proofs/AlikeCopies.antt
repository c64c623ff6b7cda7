-- Copies that are alike agree in pairs.
use Rattle.std.proofs.Common.{◌≡◌, ℕ, ◌+◌, Bool, true, false, not, ◌&&◌, ◌||◌, cond, eqb, List, [], ◌∷◌, ◌++◌, map, Option, Some, None, refl, ap, sym, ◌∙◌, subst}
use Rattle.std.proofs.lemmas.Bool.{and_from, and_parts, eqb-true, eq-eqb, false≢true, cond-false, not-false}
use Rattle.std.specs.Prelude.{find, is_none, slice_get}
use Rattle.std.specs.List.{AllByRecursion, enumerate_from, list_all}
use Rattle.std.specs.Option.{option_eq}
use Rattle.std.specs.Ordering.{nat_cmp}
use Rattle.std.specs.declared.cmp.Ordering.{Ordering}
use Rattle.std.specs.Str.{bytes_eq}
use Rattle.std.specs.Cmp.Lexicographic.{pointwise, slice_cmp}
use Rattle.ddf_lemmas.proofs.Lists.{all_fail, all_weaken, bytes_same, filter_none}
use Rattle.ddf_lemmas.proofs.Tests.{five_from}
use Rattle.ddf_tables.specs.declared.disks.DiskEntry.{DiskEntry}
use Rattle.ddf_tables.specs.declared.arrays.ArrayEntry.{ArrayEntry}
use Rattle.ddf_config_records.specs.declared.notes.SlotNote.{SlotNote}
use Rattle.ddf_config_records.specs.declared.place.Place.{Place}
use Rattle.ddf_config_records.specs.Bits.{is_among}
use Rattle.ddf_config_records.specs.ElementValue.{ElementValue}
use Rattle.ddf_view.specs.View.{HeldRecord, View, find_held, is_element}
use Rattle.ddf_view.specs.Reading.{elements_in, plan_of, position_of, row_of}
use Rattle.ddf_view.specs.Shows.{same_flag, same_place, same_plan, same_position}
use Rattle.ddf_view.specs.Differ.{array_differs, difference, differing_arrays, differing_disks, disk_differs, element_differs, held_differ, key_of, least, numbered_array, numbered_disk, same_array, same_disk, same_held, same_member_place, same_notes, same_record, told_kind}
use Rattle.ddf_view.specs.Alike.{NoneDiffers, alike, are_alike, has_same_tables, is_as_first, is_like, like_first, same_note, same_noting}
use Rattle.ddf_view.proofs.Tests.{and_five, and_four, each_passes, same_bytes}

-- ---- tests that things pass which are like a third

number_carried : (first one other : ℕ) → eqb first one ≡ true → eqb first other ≡ true → eqb one other ≡ true
number_carried first one other h k = eq-eqb one other (sym (eqb-true first one h) ∙ eqb-true first other k)

bytes_carried : (first one other : List ℕ) → bytes_eq first one ≡ true → bytes_eq first other ≡ true → bytes_eq one other ≡ true
bytes_carried first one other h k =
    let is : one ≡ other = sym (same_bytes first one h) ∙ same_bytes first other k in
    ap (λ (x : List ℕ). bytes_eq x other) is ∙ bytes_same other

each_carried : {X : Type 0} (same : X → X → Bool) → ((first one other : X) → same first one ≡ true → same first other ≡ true → same one other ≡ true)
    → (firsts ones others : List X) → pointwise same firsts ones ≡ true → pointwise same firsts others ≡ true → pointwise same ones others ≡ true
each_carried same carried [] [] [] h k = refl
each_carried same carried [] (one ∷ ones) others h k = absurd (false≢true h)
each_carried same carried [] [] (other ∷ others) h k = absurd (false≢true k)
each_carried same carried (first ∷ firsts) [] others h k = absurd (false≢true h)
each_carried same carried (first ∷ firsts) (one ∷ ones) [] h k = absurd (false≢true k)
each_carried same carried (first ∷ firsts) (one ∷ ones) (other ∷ others) h k =
    let x = and_parts (same first one) (pointwise same firsts ones) h in
    let y = and_parts (same first other) (pointwise same firsts others) k in
    and_from (same one other) (pointwise same ones others) (carried first one other x.0 y.0) (each_carried same carried firsts ones others x.1 y.1)

-- two that are there, or none
option_carried : {X : Type 0} (same : X → X → Bool) → ((first one other : X) → same first one ≡ true → same first other ≡ true → same one other ≡ true)
    → (o p q : Option X) → not (option_eq same o p) ≡ false → not (option_eq same o q) ≡ false → not (option_eq same p q) ≡ false
option_carried same carried None None q h k = k
option_carried same carried None (Some one) q h k = absurd (false≢true (sym h))
option_carried same carried (Some first) None q h k = absurd (false≢true (sym h))
option_carried same carried (Some first) (Some one) None h k = absurd (false≢true (sym k))
option_carried same carried (Some first) (Some one) (Some other) h k = ap not (carried first one other (not-false (same first one) h) (not-false (same first other) k))

-- ---- disks, arrays and records that are like a third

disk_carried : (first one other : ℕ × DiskEntry) → same_disk first one ≡ true → same_disk first other ≡ true → same_disk one other ≡ true
disk_carried first one other h k =
    let x = and_five (eqb first.0 one.0) (bytes_eq first.1.guid one.1.guid) (eqb (told_kind first.1) (told_kind one.1)) (eqb first.1.state.0 one.1.state.0) (eqb first.1.size one.1.size) h in
    let y = and_five (eqb first.0 other.0) (bytes_eq first.1.guid other.1.guid) (eqb (told_kind first.1) (told_kind other.1)) (eqb first.1.state.0 other.1.state.0) (eqb first.1.size other.1.size) k in
    five_from (eqb one.0 other.0) (bytes_eq one.1.guid other.1.guid) (eqb (told_kind one.1) (told_kind other.1)) (eqb one.1.state.0 other.1.state.0) (eqb one.1.size other.1.size)
    (number_carried first.0 one.0 other.0 x.0 y.0)
    (bytes_carried first.1.guid one.1.guid other.1.guid x.1 y.1)
    (number_carried (told_kind first.1) (told_kind one.1) (told_kind other.1) x.2 y.2)
    (number_carried first.1.state.0 one.1.state.0 other.1.state.0 x.3 y.3)
    (number_carried first.1.size one.1.size other.1.size x.4 y.4)

array_carried : (first one other : ℕ × ArrayEntry) → same_array first one ≡ true → same_array first other ≡ true → same_array one other ≡ true
array_carried first one other h k =
    let x = and_five (eqb first.0 one.0) (eqb first.1.number one.1.number) (eqb first.1.state one.1.state) (eqb first.1.init one.1.init) (bytes_eq first.1.name one.1.name) h in
    let y = and_five (eqb first.0 other.0) (eqb first.1.number other.1.number) (eqb first.1.state other.1.state) (eqb first.1.init other.1.init) (bytes_eq first.1.name other.1.name) k in
    five_from (eqb one.0 other.0) (eqb one.1.number other.1.number) (eqb one.1.state other.1.state) (eqb one.1.init other.1.init) (bytes_eq one.1.name other.1.name)
    (number_carried first.0 one.0 other.0 x.0 y.0)
    (number_carried first.1.number one.1.number other.1.number x.1 y.1)
    (number_carried first.1.state one.1.state other.1.state x.2 y.2)
    (number_carried first.1.init one.1.init other.1.init x.3 y.3)
    (bytes_carried first.1.name one.1.name other.1.name x.4 y.4)

place_carried : (first one other : Place) → same_member_place first one ≡ true → same_member_place first other ≡ true → same_member_place one other ≡ true
place_carried first one other h k =
    let x = and_parts (eqb first.reference one.reference) (eqb first.start one.start) h in
    let y = and_parts (eqb first.reference other.reference) (eqb first.start other.start) k in
    and_from (eqb one.reference other.reference) (eqb one.start other.start) (number_carried first.reference one.reference other.reference x.0 y.0) (number_carried first.start one.start other.start x.1 y.1)

-- what is compared of two records, test by test
record AreSame (one other : ElementValue) : Type 0 where
  array : bytes_eq one.array other.array ≡ true
  sequence : eqb one.sequence other.sequence ≡ true
  strip : eqb one.strip other.strip ≡ true
  level : eqb one.level other.level ≡ true
  qualifier : eqb one.qualifier other.qualifier ≡ true
  count : eqb one.elements other.elements ≡ true
  index : eqb one.index other.index ≡ true
  secondary : eqb one.secondary other.secondary ≡ true
  blocks : eqb one.blocks other.blocks ≡ true
  size : eqb one.size other.size ≡ true
  spares : bytes_eq one.spares other.spares ≡ true
  members : pointwise same_member_place one.members other.members ≡ true

are_same : (one other : ElementValue) → same_record one other ≡ true → AreSame one other
unfolding same_record
are_same one other h =
    let a = bytes_eq one.array other.array in
    let b = eqb one.sequence other.sequence in
    let c = eqb one.strip other.strip in
    let d = eqb one.level other.level in
    let e = eqb one.qualifier other.qualifier in
    let f = eqb one.elements other.elements in
    let g = eqb one.index other.index in
    let i = eqb one.secondary other.secondary in
    let j = eqb one.blocks other.blocks in
    let k = eqb one.size other.size in
    let l = bytes_eq one.spares other.spares in
    let m = pointwise same_member_place one.members other.members in
    let p12 = and_parts (a && b && c && d && e && f && g && i && j && k && l) m h in
    let p11 = and_parts (a && b && c && d && e && f && g && i && j && k) l p12.0 in
    let p10 = and_parts (a && b && c && d && e && f && g && i && j) k p11.0 in
    let p9 = and_parts (a && b && c && d && e && f && g && i) j p10.0 in
    let p8 = and_parts (a && b && c && d && e && f && g) i p9.0 in
    let p7 = and_parts (a && b && c && d && e && f) g p8.0 in
    let p6 = and_parts (a && b && c && d && e) f p7.0 in
    let p5 = and_parts (a && b && c && d) e p6.0 in
    let p4 = and_parts (a && b && c) d p5.0 in
    let p3 = and_parts (a && b) c p4.0 in
    let p2 = and_parts a b p3.0 in
    record {
      array = p2.0;
      sequence = p2.1;
      strip = p3.1;
      level = p4.1;
      qualifier = p5.1;
      count = p6.1;
      index = p7.1;
      secondary = p8.1;
      blocks = p9.1;
      size = p10.1;
      spares = p11.1;
      members = p12.1;
    }

same_from : (one other : ElementValue) → AreSame one other → same_record one other ≡ true
unfolding same_record
same_from one other is =
    rw (is.array, is.sequence, is.strip, is.level, is.qualifier, is.count, is.index, is.secondary, is.blocks, is.size, is.spares, is.members) refl

record_carried : (first one other : ElementValue) → same_record first one ≡ true → same_record first other ≡ true → same_record one other ≡ true
record_carried first one other h k =
    let x = are_same first one h in
    let y = are_same first other k in
    let is : AreSame one other = record {
      array = bytes_carried first.array one.array other.array x.array y.array;
      sequence = number_carried first.sequence one.sequence other.sequence x.sequence y.sequence;
      strip = number_carried first.strip one.strip other.strip x.strip y.strip;
      level = number_carried first.level one.level other.level x.level y.level;
      qualifier = number_carried first.qualifier one.qualifier other.qualifier x.qualifier y.qualifier;
      count = number_carried first.elements one.elements other.elements x.count y.count;
      index = number_carried first.index one.index other.index x.index y.index;
      secondary = number_carried first.secondary one.secondary other.secondary x.secondary y.secondary;
      blocks = number_carried first.blocks one.blocks other.blocks x.blocks y.blocks;
      size = number_carried first.size one.size other.size x.size y.size;
      spares = bytes_carried first.spares one.spares other.spares x.spares y.spares;
      members = each_carried same_member_place place_carried first.members one.members other.members x.members y.members;
    } in
    same_from one other is

-- four tests
and_four_from : (a b c d : Bool) → a ≡ true → b ≡ true → c ≡ true → d ≡ true → (a && b && c && d) ≡ true
and_four_from a b c d ha hb hc hd = and_from (a && b && c) d (and_from (a && b) c (and_from a b ha hb) hc) hd

note_carried : (first one other : SlotNote) → same_note first one ≡ true → same_note first other ≡ true → same_note one other ≡ true
note_carried first one other h k =
    let x = and_four (eqb first.position one.position) (eqb first.row one.row) (eqb first.stand_in one.stand_in) (bytes_eq first.out one.out) h in
    let y = and_four (eqb first.position other.position) (eqb first.row other.row) (eqb first.stand_in other.stand_in) (bytes_eq first.out other.out) k in
    and_four_from (eqb one.position other.position) (eqb one.row other.row) (eqb one.stand_in other.stand_in) (bytes_eq one.out other.out)
    (number_carried first.position one.position other.position x.0 y.0)
    (number_carried first.row one.row other.row x.1 y.1)
    (number_carried first.stand_in one.stand_in other.stand_in x.2 y.2)
    (bytes_carried first.out one.out other.out x.3 y.3)

-- ---- records that are alike are the same

pub flag_again : (b : Bool) → same_flag b b ≡ true
flag_again true = refl
flag_again false = refl

-- the positions of one record, by notes that tell the same
positions_alike : (first second : SlotNote) → first.position ≡ second.position → first.row ≡ second.row → first.out ≡ second.out → (n : ℕ) (ones others : List Place)
    → pointwise same_member_place ones others ≡ true
    → pointwise same_position (map (λ pair. position_of [] (Some first) pair.0 pair.1) (enumerate_from n ones)) (map (λ pair. position_of [] (Some second) pair.0 pair.1) (enumerate_from n others)) ≡ true
positions_alike first second position row out n [] [] h = refl
positions_alike first second position row out n [] (other ∷ others) h = absurd (false≢true h)
positions_alike first second position row out n (one ∷ ones) [] h = absurd (false≢true h)
positions_alike first second position row out n (one ∷ ones) (other ∷ others) h =
    let parts = and_parts (same_member_place one other) (pointwise same_member_place ones others) h in
    let rest = positions_alike first second position row out (n + 1) ones others parts.1 in
    let synced : same_flag (not (is_among first.out n)) (not (is_among second.out n)) ≡ true =
    ap (λ (out_of : List ℕ). same_flag (not (is_among out_of n)) (not (is_among second.out n))) out ∙ flag_again (not (is_among second.out n)) in
    let row_is : row_of (Some first) n ≡ row_of (Some second) n =
    ap (λ (p : ℕ). cond (eqb p n) first.row 0) position ∙ ap (λ (r : ℕ). cond (eqb second.position n) r 0) row in
    let rows : eqb (row_of (Some first) n) (row_of (Some second) n) ≡ true = eq-eqb (row_of (Some first) n) (row_of (Some second) n) row_is in
    let place : same_place (position_of [] (Some first) n one) (position_of [] (Some second) n other) ≡ true = parts.0 in
    let placed : (same_place (position_of [] (Some first) n one) (position_of [] (Some second) n other) && same_flag (not (is_among first.out n)) (not (is_among second.out n))) ≡ true =
    and_from (same_place (position_of [] (Some first) n one) (position_of [] (Some second) n other)) (same_flag (not (is_among first.out n)) (not (is_among second.out n))) place synced in
    and_from (same_position (position_of [] (Some first) n one) (position_of [] (Some second) n other))
    (pointwise same_position (map (λ pair. position_of [] (Some first) pair.0 pair.1) (enumerate_from (n + 1) ones)) (map (λ pair. position_of [] (Some second) pair.0 pair.1) (enumerate_from (n + 1) others)))
    (and_from (same_place (position_of [] (Some first) n one) (position_of [] (Some second) n other) && same_flag (not (is_among first.out n)) (not (is_among second.out n))) (eqb (row_of (Some first) n) (row_of (Some second) n)) placed rows)
    rest

plans_alike : (first second : SlotNote) (one other : ElementValue) → same_note first second ≡ true → same_record one other ≡ true
    → same_plan true (plan_of [] (Some first) one) (plan_of [] (Some second) other) ≡ true
unfolding plan_of
plans_alike first second one other h k =
    let is = are_same one other k in
    let notes = and_four (eqb first.position second.position) (eqb first.row second.row) (eqb first.stand_in second.stand_in) (bytes_eq first.out second.out) h in
    let positions = positions_alike first second (eqb-true first.position second.position notes.0) (eqb-true first.row second.row notes.1) (same_bytes first.out second.out notes.3) 0 one.members other.members is.members in
    and_from (eqb one.level other.level && eqb one.qualifier other.qualifier && eqb one.strip other.strip && eqb one.blocks other.blocks && eqb first.stand_in second.stand_in)
    (pointwise same_position (plan_of [] (Some first) one).positions (plan_of [] (Some second) other).positions)
    (five_from (eqb one.level other.level) (eqb one.qualifier other.qualifier) (eqb one.strip other.strip) (eqb one.blocks other.blocks) (eqb first.stand_in second.stand_in)
    is.level is.qualifier is.strip is.blocks notes.2)
    positions

notes_alike : (o p : Option SlotNote) (one other : ElementValue) → same_noting o p ≡ true → same_record one other ≡ true
    → (is_none o || is_none p || same_plan true (plan_of [] o one) (plan_of [] p other)) ≡ true
notes_alike None p one other h k = refl
notes_alike (Some first) None one other h k = refl
notes_alike (Some first) (Some second) one other h k = plans_alike first second one other h k

noting_carried : (o p q : Option SlotNote) → same_noting o p ≡ true → same_noting o q ≡ true → same_noting p q ≡ true
noting_carried None None q h k = k
noting_carried None (Some one) q h k = absurd (false≢true h)
noting_carried (Some first) None q h k = absurd (false≢true h)
noting_carried (Some first) (Some one) None h k = absurd (false≢true k)
noting_carried (Some first) (Some one) (Some other) h k = note_carried first one other h k

-- records that are like a third are the same
held_alike : (first one other : HeldRecord) → alike first one ≡ true → alike first other ≡ true → same_held one other ≡ true
held_alike first one other h k =
    let x = and_parts (same_record first.element one.element) (same_noting first.note one.note) h in
    let y = and_parts (same_record first.element other.element) (same_noting first.note other.note) k in
    let records = record_carried first.element one.element other.element x.0 y.0 in
    let notes = noting_carried first.note one.note other.note x.1 y.1 in
    and_from (same_record one.element other.element) (same_notes one other) records (notes_alike one.note other.note one.element other.element notes records)

-- and where one is lacking they don't differ
pair_alike : (o p q : Option HeldRecord) → is_like o p ≡ true → is_like o q ≡ true → held_differ p q ≡ false
pair_alike o None q h k = refl
pair_alike o (Some one) None h k = refl
pair_alike None (Some one) (Some other) h k = absurd (false≢true h)
pair_alike (Some first) (Some one) (Some other) h k = ap not (held_alike first one other h k)

-- ---- each element

-- what holds of the key of each record holds of that of one that is found
key_passes : (p : List ℕ × ℕ → Bool) (array : List ℕ) (index : ℕ) (xs : List HeldRecord) (held : HeldRecord) → find_held array index xs ≡ Some held
    → list_all p (map key_of xs) ≡ true → p (array, index) ≡ true
key_passes p array index [] held h all = absurd cc
key_passes p array index (x ∷ xs) held h all =
    let parts = and_parts (p (key_of x)) (list_all p (map key_of xs)) all in
    go parts.0 (λ found. key_passes p array index xs held found parts.1) (is_element array index x) refl
  where
    go : p (key_of x) ≡ true → (find_held array index xs ≡ Some held → p (array, index) ≡ true) → (b : Bool) → is_element array index x ≡ b → p (array, index) ≡ true
    go here later true e =
        let both = and_parts (bytes_eq x.element.array array) (eqb x.element.index index) e in
        let guid : x.element.array ≡ array = same_bytes x.element.array array both.0 in
        let place : x.element.index ≡ index = eqb-true x.element.index index both.1 in
        subst (λ (a : List ℕ). p (a, index) ≡ true) guid (subst (λ (i : ℕ). p (x.element.array, i) ≡ true) place here)
    go here later false e = later (sym (cond-false (is_element array index x) (Some x) (find_held array index xs) e) ∙ h)

like_none : (o : Option HeldRecord) → is_like o None ≡ true
like_none None = refl
like_none (Some first) = refl

-- of each element the record is like the first
each_like : (all own : List HeldRecord) → list_all (like_first all own) (map key_of own) ≡ true → (array : List ℕ) (index : ℕ) → is_like (find_held array index all) (find_held array index own) ≡ true
each_like all own h array index = go (find_held array index own) refl
  where
    go : (o : Option HeldRecord) → find_held array index own ≡ o → is_like (find_held array index all) (find_held array index own) ≡ true
    go None e = ap (λ (o : Option HeldRecord). is_like (find_held array index all) o) e ∙ like_none (find_held array index all)
    go (Some held) e = key_passes (like_first all own) array index own held e h

-- ---- each disk and each array

-- a list without a least item is empty
none_least : {X : Type 0} (compare : X → X → Ordering) (items : List X) → is_none (least compare items) ≡ true → items ≡ []
none_least compare [] h = refl
none_least compare (item ∷ items) h = absurd (false≢true h)

all_parts : {X Y : Type 0} (P : Y → Type 0) (f : X → Y) (xs ys : List X) → AllByRecursion P (map f (xs ++ ys)) → AllByRecursion P (map f xs) × AllByRecursion P (map f ys)
all_parts P f [] ys h = (tt, h)
all_parts P f (x ∷ xs) ys h = let rest = all_parts P f xs ys h.1 in ((h.0, rest.0), rest.1)

-- an item of a name, with its place
abbrev named_at : {K X : Type 0} → (X → K) → (K → K → Bool) → K → ℕ → List X → Option (ℕ × X)
named_at name eq key n xs = find (λ pair. eq (name pair.1) key) (enumerate_from n xs)

-- the items of a name are alike
abbrev AlikeAt : {K X : Type 0} → (ℕ × X → ℕ × X → Bool) → (X → K) → (K → K → Bool) → (one other : List X) → K → Type 0
AlikeAt same name eq one other key = not (option_eq same (named_at name eq key 0 one) (named_at name eq key 0 other)) ≡ false

-- what holds of each name holds of that of an item that is found
name_passes : {K X : Type 0} (P : K → Type 0) (name : X → K) (eq : K → K → Bool) → ((a b : K) → eq a b ≡ true → a ≡ b) → (key : K) (n : ℕ) (xs : List X) (pair : ℕ × X)
    → named_at name eq key n xs ≡ Some pair → AllByRecursion P (map name xs) → P key
name_passes {X = X} P name eq is key n [] pair h all = absurd cc
name_passes {X = X} P name eq is key n (x ∷ xs) pair h all = go (λ found. name_passes P name eq is key (n + 1) xs pair found all.1) (eq (name x) key) refl
  where
    go : (named_at name eq key (n + 1) xs ≡ Some pair → P key) → (b : Bool) → eq (name x) key ≡ b → P key
    go later true e = subst P (is (name x) key e) all.0
    go later false e = let first : ℕ × X = (n, x) in later (sym (cond-false (eq (name x) key) (Some first) (named_at name eq key (n + 1) xs) e) ∙ h)

-- Items that are alike for each name that there is are alike for every one.
each_alike : {K X : Type 0} (same : ℕ × X → ℕ × X → Bool) (name : X → K) (eq : K → K → Bool) → ((a b : K) → eq a b ≡ true → a ≡ b) → (one other : List X)
    → AllByRecursion (AlikeAt same name eq one other) (map name (one ++ other)) → (key : K) → AlikeAt same name eq one other key
each_alike {K = K} {X = X} same name eq is one other all key = go (named_at name eq key 0 one) refl (named_at name eq key 0 other) refl
  where
    go : (o : Option (ℕ × X)) → named_at name eq key 0 one ≡ o → (p : Option (ℕ × X)) → named_at name eq key 0 other ≡ p → AlikeAt same name eq one other key
    go (Some pair) e p f = name_passes (AlikeAt same name eq one other) name eq is key 0 one pair e (all_parts (AlikeAt same name eq one other) name one other all).0
    go None e (Some pair) f = name_passes (AlikeAt same name eq one other) name eq is key 0 other pair f (all_parts (AlikeAt same name eq one other) name one other all).1
    go None e None f = rw (e, f) refl

disks_alike : (first view : View) → has_same_tables first view ≡ true → (reference : ℕ) → disk_differs first.disks view.disks reference ≡ false
disks_alike first view h =
    let none = (and_parts (is_none (least nat_cmp (differing_disks first.disks view.disks))) (is_none (least (slice_cmp nat_cmp) (differing_arrays first.arrays view.arrays))) h).0 in
    each_alike same_disk (λ (disk : DiskEntry). disk.reference) eqb eqb-true first.disks view.disks
    (all_fail (disk_differs first.disks view.disks) (map (λ disk. disk.reference) (first.disks ++ view.disks)) (none_least nat_cmp (differing_disks first.disks view.disks) none))

arrays_alike : (first view : View) → has_same_tables first view ≡ true → (guid : List ℕ) → array_differs first.arrays view.arrays guid ≡ false
arrays_alike first view h =
    let none = (and_parts (is_none (least nat_cmp (differing_disks first.disks view.disks))) (is_none (least (slice_cmp nat_cmp) (differing_arrays first.arrays view.arrays))) h).1 in
    each_alike same_array (λ (entry : ArrayEntry). entry.guid) bytes_eq same_bytes first.arrays view.arrays
    (all_fail (array_differs first.arrays view.arrays) (map (λ entry. entry.guid) (first.arrays ++ view.arrays)) (none_least (slice_cmp nat_cmp) (differing_arrays first.arrays view.arrays) none))

-- ---- copies

-- Copies that are as the first don't differ.
pair_agrees : (first : View) (all : List HeldRecord) (one other : View) → is_as_first first all one ≡ true → is_as_first first all other ≡ true → difference one other ≡ None
unfolding difference
pair_agrees first all one other h k =
    let x = and_parts (has_same_tables first one) (list_all (like_first all one.elements) (map key_of one.elements)) h in
    let y = and_parts (has_same_tables first other) (list_all (like_first all other.elements) (map key_of other.elements)) k in
    let disks = filter_none (disk_differs one.disks other.disks) (map (λ disk. disk.reference) (one.disks ++ other.disks))
    (λ reference. option_carried same_disk disk_carried (numbered_disk reference first.disks) (numbered_disk reference one.disks) (numbered_disk reference other.disks) (disks_alike first one x.0 reference) (disks_alike first other y.0 reference)) in
    let arrays = filter_none (array_differs one.arrays other.arrays) (map (λ entry. entry.guid) (one.arrays ++ other.arrays))
    (λ guid. option_carried same_array array_carried (numbered_array guid first.arrays) (numbered_array guid one.arrays) (numbered_array guid other.arrays) (arrays_alike first one x.0 guid) (arrays_alike first other y.0 guid)) in
    let elements = filter_none (element_differs one.elements other.elements) (map key_of one.elements)
    (λ key. pair_alike (find_held key.0 key.1 all) (find_held key.0 key.1 one.elements) (find_held key.0 key.1 other.elements) (each_like all one.elements x.1 key.0 key.1) (each_like all other.elements y.1 key.0 key.1)) in
    rw (disks, arrays, elements) refl

none_differs : (first : View) (all : List HeldRecord) (views : List View) → AllByRecursion (λ view. is_as_first first all view ≡ true) views → NoneDiffers views
none_differs first all [] h = tt
none_differs first all (one ∷ views) h = (
  all_weaken (λ other. is_as_first first all other ≡ true) (λ other. difference one other ≡ None) (λ other same. pair_agrees first all one other h.0 same) views h.1,
  none_differs first all views h.1,
)

-- Copies that are each as the first are alike.
pub by_first : (views : List View) (first : View) → slice_get views 0 ≡ Some first → list_all (is_as_first first (elements_in views)) views ≡ are_alike views
unfolding are_alike
by_first [] first e = absurd cc
by_first (view ∷ views) first e =
    let same : view ≡ first = cc in
    ap (λ (x : View). list_all (is_as_first x (elements_in (view ∷ views))) (view ∷ views)) (sym same)

pub alike_agree : (views : List View) → are_alike views ≡ true → NoneDiffers views
unfolding are_alike
alike_agree [] h = tt
alike_agree (first ∷ views) h =
    none_differs first (elements_in (first ∷ views)) (first ∷ views) (each_passes (is_as_first first (elements_in (first ∷ views))) (first ∷ views) h)
