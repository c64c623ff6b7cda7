-- Where `exercise` stands in words that no command and no batch has.
use Rattle.std.proofs.Common.{◌≡◌, ◌≢◌, ◌∙◌, ⊎_elim, ℕ, ◌+◌, ◌<◌, ◌≤◌, true, false, List, [], ◌∷◌, ◌++◌, length, length-append, get_or, take, drop, Some, refl, sym, ap, subst, arith, append_assoc}
use Rattle.std.specs.Prelude.{position}
use Rattle.std.proofs.lemmas.Bool.{cases_lt, false_from_ne_true, lt-ltb, true≢false}
use Rattle.std.proofs.lemmas.List.{append-nil, drop_more, get_or-append-add, get_or-take, get_or_append_left, get_or_past, length-take-le, nil_from_length, take-append-drop, take_at, take_more}
use Rattle.std.proofs.lemmas.List.Quantifiers.{position-Some}
use Rattle.std.proofs.lemmas.List.Sums.{position_or_len_is}
use Rattle.std.proofs.lemmas.Slice.Eq.{bytes_eq-Decides}
use Rattle.ddf_words.proofs.Commands.{examine}
use Rattle.ddf_words.proofs.Dashes.{HasNoDashes, within_images}
use Rattle.ddf_words.specs.Words.{Word, AreImages, GoWrongAt, dashes, is_dashes}
use Rattle.ddf_words.specs.Batch.{IsServed}
use Rattle.ddf_words.specs.Asking.{LeadsToExercise, exercise}
use Rattle.ddf_words.proofs.ExerciseStanding.{images_go_on, not_served, parted, served_parts}
use Rattle.ddf_words.proofs.ExerciseWrongly.{Stands}

-- ---- words up to `exercise` and behind it

module _ (words : List Word) (is : Stands words) where
  abbrev pub front : List Word
  front = is.images ++ dashes ∷ exercise ∷ []

  pub front_parts : words ≡ front ++ is.others
  front_parts = is.parts ∙ sym (append_assoc is.images (dashes ∷ exercise ∷ []) is.others)

  pub front_long : length front ≡ length is.images + 2
  front_long = length-append is.images (dashes ∷ exercise ∷ [])

  -- Words that go past it have more of what stands behind.
  pub record Past (n : ℕ) : Type 0 where
    pub some : List Word
    pub rest : List Word
    pub taken : take n words ≡ front ++ some
    pub parts : is.others ≡ some ++ rest
    pub long : length front + length some ≡ n

  pub past : (n : ℕ) → length front ≤ n → n ≤ length words → Past n
  past n from le = ⊎_elim
      (λ left.
      let long = length-append (take n words) left.0 in
      let none : left.0 ≡ [] = nil_from_length left.0 (omega (arith, long, ap length left.1, taken_long)) in
      let front_is : front ≡ take n words = left.1 ∙ ap (λ (ws : List Word). take n words ++ ws) none ∙ append-nil (take n words) in
      record { some = []; rest = is.others; taken = sym front_is ∙ sym (append-nil front); parts = refl; long = omega (arith, ap length front_is, taken_long) })
      (λ right. record { some = right.0; rest = drop n words; taken = right.1; parts = right.2; long = omega (arith, ap length right.1, length-append front right.0, taken_long) })
      (parted (take n words) (drop n words) front is.others (take-append-drop n words ∙ front_parts))
    where
      taken_long : length (take n words) ≡ n
      taken_long = length-take-le n words le

  pub with_more : (n : ℕ) (past_it : Past n) (more : List Word) → take n words ++ more ≡ is.images ++ dashes ∷ exercise ∷ (past_it.some ++ more)
  with_more n past_it more = ap (λ (ws : List Word). ws ++ more) past_it.taken ∙ append_assoc front past_it.some more ∙ append_assoc is.images (dashes ∷ exercise ∷ []) (past_it.some ++ more)

  pub not_served_past : (n : ℕ) → length front ≤ n → n ≤ length words → (more : List Word) → IsServed (take n words ++ more) → ⊥
  not_served_past n from le more served =
      let past_it = past n from le in
      not_served is.images (past_it.some ++ more) is.are_images (subst IsServed (with_more n past_it more) served)

-- ---- where it stands, words go wrong as those of commands and batches

first_is : (words : List Word) (i : ℕ) → i < length words → is_dashes (get_or words i []) ≡ true → ((k : ℕ) → k < i → is_dashes (get_or words k []) ≡ false) → position is_dashes words ≡ Some i
first_is words i lt passes none =
    let place = position_or_len_is is_dashes words i [] (omega arith) none (λ below. passes) in
    let below = lt-ltb i (length words) lt in
    rw (place, below) refl

module _ (words : List Word) (place : ℕ) (wrong : GoWrongAt IsServed words place) where
  module _ (is : Stands words) where
    long : length is.images + 2 ≤ length words
    long = let both = ap length is.parts ∙ length-append is.images (dashes ∷ exercise ∷ is.others) in omega (arith, both)

    up_to : take (length is.images + 1) words ≡ is.images ++ dashes ∷ []
    up_to =
        ap (take (length is.images + 1)) (is.parts ∙ sym (append_assoc is.images (dashes ∷ []) (exercise ∷ is.others)))
        ∙ take_at (is.images ++ dashes ∷ []) (exercise ∷ is.others) (length is.images + 1) (length-append is.images (dashes ∷ []))

    next : place ≡ length is.images + 1
    next = ⊎_elim
        (λ under. absurd (wrong.no_longer (length is.images + 1) under (omega (arith, long)) (record {
          more = examine ∷ [];
          goes_on = subst IsServed (sym (append_assoc is.images (dashes ∷ []) (examine ∷ [])) ∙ ap (λ (ws : List Word). ws ++ examine ∷ []) (sym up_to)) (images_go_on is.images is.are_images);
        })))
        (λ from. ⊎_elim
        (λ over. absurd (not_served_past words is place (omega (arith, front_long words is)) wrong.within wrong.good.more wrong.good.goes_on))
        (λ upto. omega (arith, from, upto))
        (cases_lt (length is.images + 1) place))
        (cases_lt place (length is.images + 1))

    dashes_at : get_or words (length is.images + 0) [] ≡ dashes
    dashes_at = ap (λ (ws : List Word). get_or ws (length is.images + 0) []) is.parts ∙ get_or-append-add is.images (dashes ∷ exercise ∷ is.others) 0 []

    exercise_at : get_or words (length is.images + 1) [] ≡ exercise
    exercise_at = ap (λ (ws : List Word). get_or ws (length is.images + 1) []) is.parts ∙ get_or-append-add is.images (dashes ∷ exercise ∷ is.others) 1 []

    none_before : (k : ℕ) → k < length is.images → is_dashes (get_or words k []) ≡ false
    none_before k below =
        let same : get_or words k [] ≡ get_or is.images k [] = ap (λ (ws : List Word). get_or ws k []) is.parts ∙ get_or_append_left is.images (dashes ∷ exercise ∷ is.others) [] k below in
        ap is_dashes same ∙ not_dashes (get_or is.images k []) (is.are_images.paths k below)
      where
        not_dashes : (word : Word) → word ≢ dashes → is_dashes word ≡ false
        not_dashes word other = false_from_ne_true (is_dashes word) (λ same. other ((bytes_eq-Decides word dashes).0 same))

    pub leads_there : LeadsToExercise words place
    leads_there =
        let same : length is.images + 0 ≡ length is.images = omega arith in
        record {
          count = length is.images;
          is_first = first_is words (length is.images) (omega (arith, long))
              ((bytes_eq-Decides (get_or words (length is.images) []) dashes).1 (ap (λ (n : ℕ). get_or words n []) (sym same) ∙ dashes_at)) none_before;
          next = next;
          here = ap (λ (n : ℕ). get_or words n []) next ∙ exercise_at;
        }

  module _ (leads : LeadsToExercise words place) where
    abbrev before : List Word
    before = take leads.count words

    at : (leads.count < length words) × (is_dashes (get_or words leads.count []) ≡ true) × ((k : ℕ) → k < leads.count → is_dashes (get_or words k []) ≡ false)
    at = position-Some is_dashes words leads.count [] leads.is_first

    there : place < length words
    there = ⊎_elim (λ lt. lt) (λ beyond. absurd (no_word (sym (get_or_past words place [] beyond) ∙ leads.here))) (cases_lt place (length words))
      where
        no_word : ◌≡◌ {A = Word} [] exercise → ⊥
        no_word e = omega (arith, ap length e)

    before_long : length before ≡ leads.count
    before_long = length-take-le leads.count words (omega (arith, at.0))

    are_dashes : get_or words leads.count [] ≡ dashes
    are_dashes = (bytes_eq-Decides (get_or words leads.count []) dashes).0 at.1

    parts : words ≡ before ++ dashes ∷ exercise ∷ drop (leads.count + 1 + 1) words
    parts =
        let here : get_or words (leads.count + 1) [] ≡ exercise = ap (λ (n : ℕ). get_or words n []) (sym leads.next) ∙ leads.here in
        sym (take-append-drop leads.count words)
        ∙ ap (λ (ws : List Word). before ++ ws)
        (drop_more words leads.count [] at.0 ∙ ap (λ (w : Word). w ∷ drop (leads.count + 1) words) are_dashes
        ∙ ap (λ (ws : List Word). dashes ∷ ws) (drop_more words (leads.count + 1) [] (omega (arith, there, leads.next)) ∙ ap (λ (w : Word). w ∷ drop (leads.count + 1 + 1) words) here))

    no_dashes : HasNoDashes before
    no_dashes k below e =
        let under : k < leads.count = omega (arith, before_long) in
        let same : get_or words k [] ≡ dashes = sym (get_or-take leads.count words k [] under) ∙ e in
        true≢false (sym ((bytes_eq-Decides (get_or words k []) dashes).1 same) ∙ at.2 k under)

    are_images : AreImages before
    are_images =
        let has = served_parts (take place words ++ wrong.good.more) wrong.good.goes_on in
        let up_to : take place words ≡ before ++ dashes ∷ [] =
        ap (λ (n : ℕ). take n words) leads.next ∙ take_more words leads.count [] at.0 ∙ ap (λ (w : Word). before ++ w ∷ []) are_dashes in
        let same : before ++ dashes ∷ wrong.good.more ≡ has.images ++ dashes ∷ has.rest =
        sym (append_assoc before (dashes ∷ []) wrong.good.more) ∙ ap (λ (ws : List Word). ws ++ wrong.good.more) (sym up_to) ∙ has.parts in
        let one = within_images before (dashes ∷ wrong.good.more) has.images has.rest no_dashes same in
        let other = within_images has.images (dashes ∷ has.rest) before wrong.good.more has.are_images.paths (sym same) in
        let long : length has.images ≡ length before = omega (arith, one, other) in
        let images_are : has.images ≡ before =
        sym (take_at has.images (dashes ∷ has.rest) (length before) long) ∙ ap (take (length before)) (sym same) ∙ take_at before (dashes ∷ wrong.good.more) (length before) refl in
        subst AreImages images_are has.are_images

    pub stands_there : Stands words
    stands_there = record { images = before; others = drop (leads.count + 1 + 1) words; are_images = are_images; parts = parts }

    -- the place of its first number
    pub next_place : length (front words stands_there) ≡ place + 1
    unfolding stands_there
    next_place = let same : length (stands_there).images ≡ length before = refl in omega (arith, front_long words stands_there, same, before_long, leads.next)
