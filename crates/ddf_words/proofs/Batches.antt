-- Words that ask for a batch, and where others go wrong.
use Rattle.std.proofs.Common.{◌≡◌, ◌≢◌, ◌∙◌, ◌⊎◌, inl, inr, ⊎_elim, ℕ, ◌+◌, ◌<◌, ◌≤◌, List, [], ◌∷◌, ◌++◌, length, length-append, get_or, take, drop, Option, Some, None, Result, Ok, Err, true, false, String, Global, string_bytes, refl, sym, ap, subst, codes, arith, append_assoc}
use Rattle.std.specs.Prelude.{IfOk}
use Rattle.std.specs.Result.{result_err}
use Rattle.std.specs.Str.{bytes_eq}
use Rattle.std.proofs.lemmas.Bool.{cases_lt, false≢true, true≢false}
use Rattle.std.proofs.lemmas.Slice.Eq.{bytes_eq-Decides}
use Rattle.std.proofs.lemmas.List.{append-nil, append_cancel_right, drop_more, get_or_append_left, get_or_past, get_or-take, length-take-le, take-append-drop, take-append-le, take-take, take_all, take_at, take_more, take-map}
use Rattle.std.proofs.Math.Seq.{get_or-append_seam}
use Rattle.ddf_words.proofs.Commands.{assemble, at_sign, begins_with, name_of, no_name_of_group}
use Rattle.ddf_words.proofs.Dashes.{same_rest}
use Rattle.ddf_words.proofs.Places.{wrong_word}
use Rattle.ddf_words.proofs.Wishes.{first_word, no_wish, unlike}
use Rattle.ddf_words.specs.Words.{Word, Begins, GoWrongAt, IsAccepted, IsAsked, NamesGroup, Spells, SpellsAsked, dashes, words_of}
use Rattle.ddf_words.specs.declared.command.Asked.{Asked}
use Rattle.ddf_words.specs.declared.words.WordFault.{WordFault}
use Rattle.ddf_words.specs.declared.words.WordFault.TheVariants as words
use Rattle.ddf_words.specs.declared.command.Command.{Command}
use Rattle.ddf_words.specs.declared.command.Command.TheVariants.{Assemble, Change}
use Rattle.ddf_words.specs.Batch.{AskForBatch, AskForNone, AsksForBatch, IsBatch, IsServed, assembling, is_assemble}

abbrev pub batch : Word
batch = codes "batch"

-- ---- no other command is called so

not_batch : (command : Command) → batch ≢ name_of command
not_batch (Change wish) = no_wish batch (refl, refl, refl, refl, refl) wish
not_batch command = unlike batch (name_of command) refl

no_batch : (rest : List Word) (command : Command) → Spells command (batch ∷ rest) → ⊥
no_batch rest command spells = not_batch command (begins_with (batch ∷ rest) command spells)

alone : (rest : List Word) (group : Option (List ℕ)) (command : Command) → SpellsAsked group command (batch ∷ rest) → ⊥
alone rest None command spells = no_batch rest command spells
alone rest (Some group) command spells =
    let word : spells.word ≡ batch = ap first_word (sym spells.parts) in
    let first : get_or spells.word 0 0 ≡ 98 = ap (λ (w : Word). get_or w 0 0) word in
    omega (arith, at_sign group spells.word spells.names_group, first)

behind_group : (named : List ℕ) (word : Word) → NamesGroup named word → (rest : List Word) (group : Option (List ℕ)) (command : Command) → SpellsAsked group command (word ∷ batch ∷ rest) → ⊥
behind_group named word names rest None command spells = no_name_of_group named word (batch ∷ rest) command names spells
behind_group named word names rest (Some group) command spells =
    let others : spells.others ≡ batch ∷ rest = ap (drop 1) (sym spells.parts) in
    no_batch rest command (subst (λ (ws : List Word). Spells command ws) others spells.spells)

module _ (front rest : List Word) (group : Option (List ℕ)) (like : IsAsked (front ++ assemble ∷ []) (assembling group)) (asked : Asked) (is : IsAsked (front ++ batch ∷ rest) asked) where
  front_is : (middle : List Word) → like.rest ≡ middle ++ assemble ∷ [] → front ≡ like.images ++ dashes ∷ middle
  front_is middle e = append_cancel_right front (like.images ++ dashes ∷ middle) (assemble ∷ [])
      (like.parts ∙ ap (λ (ws : List Word). like.images ++ dashes ∷ ws) e ∙ sym (append_assoc like.images (dashes ∷ middle) (assemble ∷ [])))

  rest_is : (middle : List Word) → like.rest ≡ middle ++ assemble ∷ [] → is.rest ≡ middle ++ batch ∷ rest
  rest_is middle e = same_rest is.images is.rest like.images (middle ++ batch ∷ rest) is.are_images like.are_images
      (sym is.parts ∙ ap (λ (ws : List Word). ws ++ batch ∷ rest) (front_is middle e) ∙ append_assoc like.images (dashes ∷ middle) (batch ∷ rest))

  spelled : (middle : List Word) → like.rest ≡ middle ++ assemble ∷ [] → SpellsAsked asked.group asked.command (middle ++ batch ∷ rest)
  spelled middle e = subst (λ (ws : List Word). SpellsAsked asked.group asked.command ws) (rest_is middle e) is.spells

not_both : (front rest : List Word) (group : Option (List ℕ)) → IsAsked (front ++ assemble ∷ []) (assembling group) → (asked : Asked) → IsAsked (front ++ batch ∷ rest) asked → ⊥
not_both front rest None like asked is = alone rest asked.group asked.command (spelled front rest None like asked is [] like.spells)
not_both front rest (Some named) like asked is =
    let over = like.spells in
    behind_group named over.word over.names_group rest asked.group asked.command
    (spelled front rest (Some named) like asked is (over.word ∷ []) (over.parts ∙ ap (λ (ws : List Word). over.word ∷ ws) over.spells))

-- ---- where `batch` stands in the place of a command's name

pub record BatchAt (words : List Word) (place : ℕ) (group : Option (List ℕ)) : Type 0 where
  pub within : place < length words
  pub here : get_or words place [] ≡ batch
  pub like : IsAsked (take place words ++ assemble ∷ []) (assembling group)

module _ (words : List Word) (place : ℕ) (group : Option (List ℕ)) (at : BatchAt words place group) where
  parted : words ≡ take place words ++ batch ∷ drop (place + 1) words
  parted = sym (take-append-drop place words) ∙ ap (λ (ws : List Word). take place words ++ ws) (drop_more words place [] at.within ∙ ap (λ (w : Word). w ∷ drop (place + 1) words) at.here)

  -- no other command is asked for
  pub no_other : (asked : Asked) → IsAsked words asked → ⊥
  no_other asked is = not_both (take place words) (drop (place + 1) words) group at.like asked (subst (λ (ws : List Word). IsAsked ws asked) parted is)

  pub no_accepted : IsAccepted words → ⊥
  no_accepted is = no_other is.asked is.is_asked

-- it stands there too in words that begin so
longer : (words more : List Word) (n place : ℕ) (group : Option (List ℕ)) → place < n → n ≤ length words → BatchAt words place group → BatchAt (take n words ++ more) place group
longer words more n place group lt le at =
    let long : length (take n words) ≡ n = length-take-le n words le in
    let front : take place (take n words ++ more) ≡ take place words = take-append-le place (take n words) more (omega (arith, long)) ∙ take-take place n words (omega arith) in
    record {
      within = omega (arith, length-append (take n words) more, long);
      here = get_or_append_left (take n words) more [] place (omega (arith, long)) ∙ get_or-take n words place [] lt ∙ at.here;
      like = subst (λ (ws : List Word). IsAsked (ws ++ assemble ∷ []) (assembling group)) (sym front) at.like;
    }

-- and in the words that such a list begins with
shorter : (words more : List Word) (n place : ℕ) (group : Option (List ℕ)) → place < n → n ≤ length words → BatchAt (take n words ++ more) place group → BatchAt words place group
shorter words more n place group lt le at =
    let long : length (take n words) ≡ n = length-take-le n words le in
    let front : take place (take n words ++ more) ≡ take place words = take-append-le place (take n words) more (omega (arith, long)) ∙ take-take place n words (omega arith) in
    record {
      within = omega arith;
      here = sym (get_or_append_left (take n words) more [] place (omega (arith, long)) ∙ get_or-take n words place [] lt) ∙ at.here;
      like = subst (λ (ws : List Word). IsAsked (ws ++ assemble ∷ []) (assembling group)) front at.like;
    }

-- the words of a batch
module _ (words : List Word) (group : Option (List ℕ)) (asks : AsksForBatch words group) where
  long_by_one : length words ≡ length asks.front + 1
  long_by_one = ap length asks.parts ∙ length-append asks.front (batch ∷ [])

  is_front : take (length asks.front) words ≡ asks.front
  is_front = ap (take (length asks.front)) asks.parts ∙ take_at asks.front (batch ∷ []) (length asks.front) refl

  like_front : IsAsked (take (length asks.front) words ++ assemble ∷ []) (assembling group)
  like_front = subst (λ (ws : List Word). IsAsked (ws ++ assemble ∷ []) (assembling group)) (sym is_front) asks.like_assemble

  -- it stands at their end
  last_at : BatchAt words (length asks.front) group
  last_at = record {
    within = omega (arith, long_by_one);
    here = ap (λ (ws : List Word). get_or ws (length asks.front) []) asks.parts ∙ get_or-append_seam asks.front batch [] [];
    like = like_front;
  }

-- words that are no other command's go wrong there
pub same_place : (words : List Word) (place : ℕ) → GoWrongAt IsAccepted words place → (at : ℕ) (group : Option (List ℕ)) → BatchAt words at group → at ≡ place
same_place words place wrong at group stands = ⊎_elim
    (λ under. absurd (no_accepted (take place words ++ wrong.good.more) at group (longer words wrong.good.more place at group under wrong.within stands) wrong.good.goes_on))
    (λ from. ⊎_elim
    (λ over. absurd (wrong.no_longer at over (omega (arith, stands.within)) (record { more = assemble ∷ []; goes_on = record { asked = assembling group; is_asked = stands.like } })))
    (λ upto. omega (arith, from, upto))
    (cases_lt place at))
    (cases_lt at place)

-- ---- it stands nowhere

module _ (words : List Word) (none : (place : ℕ) (group : Option (List ℕ)) → BatchAt words place group → ⊥) where
  no_asking : IsBatch words → ⊥
  no_asking is = none (length is.asks.front) is.group (last_at words is.group is.asks)

  module _ (n : ℕ) (le : n ≤ length words) (more : List Word) (is : IsBatch (take n words ++ more)) where
    front : List Word
    front = is.asks.front

    long : length (take n words) ≡ n
    long = length-take-le n words le

    same_front : n ≤ length front → take n words ≡ take n front
    unfolding front
    same_front few = sym (take_at (take n words) more n long) ∙ ap (take n) is.asks.parts ∙ take-append-le n front (batch ∷ []) few

    begins_in : n ≤ length front → Begins IsAccepted (take n words)
    unfolding front
    begins_in few =
        let parts : take n words ++ (drop n front ++ assemble ∷ []) ≡ front ++ assemble ∷ [] =
        sym (append_assoc (take n words) (drop n front) (assemble ∷ []))
        ∙ ap (λ (ws : List Word). (ws ++ drop n front) ++ assemble ∷ []) (same_front few) ∙ ap (λ (ws : List Word). ws ++ assemble ∷ []) (take-append-drop n front) in
        record {
          more = drop n front ++ assemble ∷ [];
          goes_on = record { asked = assembling is.group; is_asked = subst (λ (ws : List Word). IsAsked ws (assembling is.group)) (sym parts) is.asks.like_assemble };
        }

    begins_so : Begins IsAccepted (take n words)
    unfolding front
    begins_so = ⊎_elim
        (λ past. absurd (none (length front) is.group (shorter words more n (length front) is.group past le (last_at (take n words ++ more) is.group is.asks))))
        begins_in
        (cases_lt (length front) n)

  begins_fewer : (n : ℕ) → n ≤ length words → Begins IsServed (take n words) → Begins IsAccepted (take n words)
  begins_fewer n le begun = ⊎_elim (λ is. record { more = begun.more; goes_on = is }) (begins_so n le begun.more) begun.goes_on

  pub ask_for_none : AskForNone words
  ask_for_none = record {
    no_batch = no_asking;
    goes_wrong = λ place wrong. record {
      refused = λ is. wrong.refused (inl is);
      within = wrong.within;
      good = begins_fewer place wrong.within wrong.good;
      no_longer = λ n more le begun. wrong.no_longer n more le (record { more = begun.more; goes_on = inl begun.goes_on });
    };
    wrong_too = λ place wrong. record {
      refused = λ served. ⊎_elim wrong.refused no_asking served;
      within = wrong.within;
      good = record { more = wrong.good.more; goes_on = inl wrong.good.goes_on };
      no_longer = λ n more le begun. wrong.no_longer n more le (begins_fewer n le begun);
    };
  }

-- another word stands where words go wrong
pub not_there : (words : List Word) (place : ℕ) → GoWrongAt IsAccepted words place → bytes_eq (get_or words place []) batch ≡ false → AskForNone words
not_there words place wrong other = ask_for_none words (λ at group stands.
    let same = same_place words place wrong at group stands in
    let here : get_or words place [] ≡ batch = ap (λ (n : ℕ). get_or words n []) (sym same) ∙ stands.here in
    true≢false (sym ((bytes_eq-Decides (get_or words place []) batch).1 here) ∙ other))

-- the words before it aren't those of `assemble`
pub not_like : (words : List Word) (place : ℕ) → GoWrongAt IsAccepted words place → ((group : Option (List ℕ)) → IsAsked (take place words ++ assemble ∷ []) (assembling group) → ⊥)
    → AskForNone words
not_like words place wrong none = ask_for_none words (λ at group stands.
    let same = same_place words place wrong at group stands in
    none group (subst (λ (n : ℕ). IsAsked (take n words ++ assemble ∷ []) (assembling group)) same stands.like))

-- words that are another command's have it nowhere
pub accepted_none : (words : List Word) (asked : Asked) → IsAsked words asked → AskForNone words
accepted_none words asked is = ask_for_none words (λ place group at. no_other words place group at asked is)

-- ---- it stands somewhere

take_next : (words : List Word) (place : ℕ) → place < length words → get_or words place [] ≡ batch → take (place + 1) words ≡ take place words ++ batch ∷ []
take_next words place lt here = take_more words place [] lt ∙ ap (λ (w : Word). take place words ++ w ∷ []) here

module _ (words : List Word) (place : ℕ) (group : Option (List ℕ)) (at : BatchAt words place group) where
  -- words behind it
  served_behind : place + 1 < length words → IsServed words → ⊥
  served_behind more (inl is) = no_accepted words place group at is
  served_behind more (inr is) =
      let count : ℕ = length is.asks.front in
      let long = long_by_one words is.group is.asks in
      let le : place < count = omega (arith, long, more) in
      let there : BatchAt (take count words ++ assemble ∷ []) place group = longer words (assemble ∷ []) count place group le (omega (arith, long)) at in
      no_other (take count words ++ assemble ∷ []) place group there (assembling is.group) (like_front words is.group is.asks)

pub words_behind : (words : List Word) (place : ℕ) (group : Option (List ℕ)) → BatchAt words place group → place + 1 < length words → GoWrongAt IsServed words (place + 1)
words_behind words place group at more =
    let long : length (take (place + 1) words) ≡ place + 1 = length-take-le (place + 1) words (omega arith) in
    let parts : take (place + 1) words ++ [] ≡ take place words ++ batch ∷ [] =
    append-nil (take (place + 1) words) ∙ take_next words place at.within at.here in
    wrong_word IsServed words (place + 1) more
    (record { more = []; goes_on = inr (record { group = group; asks = record { front = take place words; parts = parts; like_assemble = at.like } }) })
    (λ begun.
    let all : List Word = take (place + 1 + 1) words ++ begun.more in
    let long : length (take (place + 1 + 1) words) ≡ place + 1 + 1 = length-take-le (place + 1 + 1) words (omega arith) in
    served_behind all place group (longer words begun.more (place + 1 + 1) place group (omega arith) (omega arith) at) (omega (arith, length-append (take (place + 1 + 1) words) begun.more, long)) begun.goes_on)

-- nothing behind it
module _ (words : List Word) (place : ℕ) (group : Option (List ℕ)) (at : BatchAt words place group) (last : place + 1 ≡ length words) where
  pub asks_for_batch : AsksForBatch words group
  asks_for_batch = record {
    front = take place words;
    parts = sym (take_all (place + 1) words (omega (arith, last))) ∙ take_next words place at.within at.here;
    like_assemble = at.like;
  }

  -- over one group
  pub ask_for_batch : ((other : Asked) → IsAsked (take place words ++ assemble ∷ []) other → other ≡ assembling group) → AskForBatch words group
  ask_for_batch one = record {
    asks = asks_for_batch;
    alone = λ other asks.
        let here : place ≡ length asks.front = omega (arith, long_by_one words other asks, last) in
        let front : take place words ≡ asks.front = ap (λ (n : ℕ). take n words) here ∙ is_front words other asks in
        ap (λ (asked : Asked). asked.group) (one (assembling other) (subst (λ (ws : List Word). IsAsked (ws ++ assemble ∷ []) (assembling other)) (sym front) asks.like_assemble));
    no_command = no_accepted words place group at;
  }

-- ---- what its test tells

is_assembling : (command : Command) → is_assemble command ≡ true → command ≡ Assemble
is_assembling Assemble e = refl
is_assembling command e = absurd (false≢true e)

with_command : Option (List ℕ) → Command → Asked
with_command group command = record { group = group; command = command }

pub assembles : (asked : Asked) → is_assemble asked.command ≡ true → asked ≡ assembling asked.group
unfolding with_command
assembles asked e = ap (with_command asked.group) (is_assembling asked.command e)

pub batch_at : (words : List Word) (place : ℕ) → bytes_eq (get_or words place []) batch ≡ true → (asked : Asked) → is_assemble asked.command ≡ true
    → IsAsked (take place words ++ assemble ∷ []) asked → BatchAt words place asked.group
batch_at words place here asked e is =
    let same : get_or words place [] ≡ batch = (bytes_eq-Decides (get_or words place []) batch).0 here in
    record {
      within = ⊎_elim
          (λ lt. lt)
          (λ past. absurd (no_batch_there (sym (get_or_past words place [] past) ∙ same)))
          (cases_lt place (length words));
      here = same;
      like = subst (λ (one : Asked). IsAsked (take place words ++ assemble ∷ []) one) (assembles asked e) is;
    }
  where
    no_batch_there : ◌≡◌ {A = Word} [] batch → ⊥
    no_batch_there e = omega (arith, ap length e)

-- the words that are tried
pub same_twin : (words twin seen : List (String Global)) (place : ℕ) → seen ≡ twin → words_of twin ≡ words_of (take place words) ++ assemble ∷ [] → words_of seen ≡ take place (words_of words) ++ assemble ∷ []
same_twin words twin seen place same parts = ap words_of same ∙ parts ∙ ap (λ (ws : List Word). ws ++ assemble ∷ []) (sym (take-map string_bytes place words))

module _ (result : Result Asked WordFault) where
  -- words that are asked for
  pub is_asked_for : (words : List Word) → IfOk result (IsAsked words) → result_err result ≡ None → AskForNone words
  is_asked_for words ok none = by_result result ok none
    where
      by_result : (result : Result Asked WordFault) → IfOk result (IsAsked words) → result_err result ≡ None → AskForNone words
      by_result (Ok asked) ok none = accepted_none words asked ok
      by_result (Err fault) ok none = cc

  -- one command is asked for
  pub one_asked : (asked other : Asked) → result ≡ Ok asked → (result ≡ Ok other) ⊎ (result ≡ Err words.Memory) → other ≡ asked
  one_asked asked other is (inl also) = cc
  one_asked asked other is (inr memory) = cc

  pub not_assembling : (asked : Asked) (group : Option (List ℕ)) → result ≡ Ok asked → is_assemble asked.command ≡ false → (result ≡ Ok (assembling group)) ⊎ (result ≡ Err words.Memory) → ⊥
  not_assembling asked group is other every =
      let same : assembling group ≡ asked = one_asked asked (assembling group) is every in
      true≢false (ap (λ (one : Asked). is_assemble one.command) same ∙ other)

  -- where they go wrong
  pub wrong_in : (place : ℕ) → result_err result ≡ Some (words.Place place) → result ≡ Err (words.Place place)
  wrong_in place some = by_result result some
    where
      by_result : (result : Result Asked WordFault) → result_err result ≡ Some (words.Place place) → result ≡ Err (words.Place place)
      by_result (Ok asked) some = cc
      by_result (Err fault) some = cc
