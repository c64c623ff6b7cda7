-- Where the words of slots, and images and dashes, go wrong.
use Rattle.std.proofs.Common.{◌≡◌, ◌≢◌, ℕ, ◌+◌, ◌-◌, ◌<◌, ◌≤◌, List, [], ◌∷◌, ◌++◌, map, length, get_or, take, drop, suc, refl, sym, ap, ◌∙◌, ⊎_elim, arith, append_assoc, length-append, length-take, length-drop, None}
use Rattle.std.proofs.lemmas.Grind.{common_steps}
use Rattle.std.proofs.lemmas.Bool.{cases_lt}
use Rattle.std.proofs.lemmas.List.{get_or_append_left, append-nil, take-append-drop, drop_more, take_more, map_push, get_or-take, get_or_default}
use Rattle.std.proofs.Math.Seq.{take-add, get_or-append_seam}
use Rattle.std.specs.Prelude.{Contains}
use Rattle.std.specs.Fmt.{decimal}
use Rattle.ddf_words.proofs.Numbers.{many_slots, word_of_slot, small_slot, same_slot}
use Rattle.ddf_words.proofs.Places.{wrong_word, wanting_words}
use Rattle.ddf_words.proofs.Commands.{examine}
use Rattle.ddf_words.proofs.Dashes.{HasNoDashes, same_rest, within_images}
use Rattle.ddf_words.proofs.Requests.{same_request}
use Rattle.ddf_words.specs.Words.{Word, dashes, AreImages, AreSlotWords, NameSlots, IsNextImage, SpellsAsked, IsAsked, IsAccepted, IsRequest, Begins, GoWrongAt, LeadsWithImages}
use Rattle.ddf_words.specs.declared.command.Asked.{Asked}
use Rattle.ddf_words.specs.declared.command.Command.TheVariants.{Examine}

-- ---- the words of slots

module _ (words : List Word) (slots : List ℕ) (place : ℕ) (lt : place < length words) (so_far : AreSlotWords slots (take place words)) where
  many : length slots ≡ place
  many = sym (many_slots slots (take place words) so_far) ∙ length-take place words ∙ omega arith

  module _ (slot : ℕ) (small : slot ≤ 63) (is : get_or words place [] ≡ decimal slot) where
    -- one slot more
    pub one_slot_more : (Contains slots slot → ⊥) → AreSlotWords (slots ++ slot ∷ []) (take (place + 1) words)
    one_slot_more fresh =
        let long : length (slots ++ slot ∷ []) ≡ place + 1 = length-append slots (slot ∷ []) ∙ omega (arith, many) in
        let last : get_or (slots ++ slot ∷ []) place 0 ≡ slot = rw (← many) (get_or-append_seam slots slot [] 0) in
        let front : (k : ℕ) → k < place → get_or (slots ++ slot ∷ []) k 0 ≡ get_or slots k 0 = λ k below. get_or_append_left slots (slot ∷ []) 0 k (omega (arith, many)) in
        record {
          spelled = take_more words place [] lt ∙ ap (λ (ws : List Word). ws ++ get_or words place [] ∷ []) so_far.spelled
              ∙ ap (λ (w : Word). map decimal slots ++ w ∷ []) is ∙ sym (map_push decimal slots slot);
          within = λ i below. ⊎_elim
              (λ earlier. rw (front i earlier) (so_far.within i (omega (arith, many))))
              (λ here. let at : i ≡ place = omega (arith, long) in rw (at, last) small)
              (cases_lt i place);
          different = λ i j before below e. ⊎_elim
              (λ earlier. so_far.different i j before (omega (arith, many)) (sym (front i (omega arith)) ∙ e ∙ front j earlier))
              (λ here. let at : j ≡ place = omega (arith, long) in
              fresh (i, omega (arith, many), get_or_default slots i slot 0 (omega (arith, many)) ∙ sym (front i (omega arith)) ∙ e ∙ ap (λ (n : ℕ). get_or (slots ++ slot ∷ []) n 0) at ∙ last))
              (cases_lt j place);
        }

  -- no slots are named by words that go on so
  wrong_slot : ((slots' : List ℕ) → ((k : ℕ) → k < place + 1 → get_or words k [] ≡ decimal (get_or slots' k 0))
      → ((k : ℕ) → k < place + 1 → get_or slots' k 0 ≤ 63) → ((k : ℕ) → k < place → get_or slots' k 0 ≢ get_or slots' place 0) → ⊥) → GoWrongAt NameSlots words place
  wrong_slot bad = wrong_word NameSlots words place lt
      (record { more = []; goes_on = record { slots = slots; are_slots = rw (append-nil (take place words)) so_far } })
      (λ begun.
      let slots' = begun.goes_on.slots in
      let are = begun.goes_on.are_slots in
      let long : length (take (place + 1) words) ≡ place + 1 = length-take (place + 1) words ∙ omega arith in
      let all : length (take (place + 1) words ++ begun.more) ≡ place + 1 + length begun.more = length-append (take (place + 1) words) begun.more ∙ omega (arith, long) in
      let long' = many_slots slots' (take (place + 1) words ++ begun.more) are in
      bad slots'
      (λ k below. sym (get_or_append_left (take (place + 1) words) begun.more [] k (omega (arith, long)) ∙ get_or-take (place + 1) words k [] below)
      ∙ word_of_slot slots' (take (place + 1) words ++ begun.more) are k (omega (arith, all)))
      (λ k below. small_slot slots' (take (place + 1) words ++ begun.more) are k (omega (arith, all)))
      (λ k below. are.different k place below (omega (arith, all, long'))))

  -- a word that names no slot
  pub no_slot : ((slot : ℕ) → slot ≤ 63 → get_or words place [] ≡ decimal slot → ⊥) → GoWrongAt NameSlots words place
  no_slot none = wrong_slot (λ slots' named small different. none (get_or slots' place 0) (small place (omega arith)) (named place (omega arith)))

  -- a word that names a slot again
  pub slot_again : (slot : ℕ) → slot ≤ 63 → get_or words place [] ≡ decimal slot → Contains slots slot → GoWrongAt NameSlots words place
  slot_again slot le is again =
      let k = again.0 in
      let below : k < place = omega (arith, many, again.1) in
      let within : k < length (take place words) = omega (arith, many_slots slots (take place words) so_far, again.1) in
      let earlier : get_or words k [] ≡ decimal slot =
      sym (get_or-take place words k [] below) ∙ word_of_slot slots (take place words) so_far k within
      ∙ ap decimal (get_or_default slots k 0 slot again.1 ∙ again.2) in
      wrong_slot (λ slots' named small different. different k below
      (same_slot (get_or slots' k 0) (get_or slots' place 0) (small k (omega arith)) (small place (omega arith))
      (sym (named k (omega arith)) ∙ earlier ∙ sym is ∙ named place (omega arith))))

-- ---- images and dashes

-- words without dashes, and then more, are images before the dashes
same_image : (front more images rest : List Word) → HasNoDashes front → front ++ more ≡ images ++ dashes ∷ rest
    → (k : ℕ) → k < length front → get_or images k [] ≡ get_or front k []
same_image front more images rest none e k lt =
    let le = within_images front more images rest none e in
    sym (get_or_append_left images (dashes ∷ rest) [] k (omega arith)) ∙ ap (λ (ws : List Word). get_or ws k []) (sym e) ∙ get_or_append_left front more [] k lt

-- images begin an accepted list
pub images_begin : (images : List Word) → AreImages images → Begins IsAccepted images
images_begin images are = record {
  more = dashes ∷ examine ∷ [];
  goes_on = record {
    asked = record { group = None; command = Examine };
    is_asked = record { images = images; rest = examine ∷ []; are_images = are; parts = refl; spells = refl };
  };
}

module _ (words : List Word) (place : ℕ) (lt : place < length words) (so_far : AreImages (take place words)) (other : get_or words place [] ≢ dashes) where
  pub front : List Word
  front = take (place + 1) words

  long : length front ≡ place + 1
  unfolding front
  long = length-take (place + 1) words ∙ omega arith

  at_front : (k : ℕ) → k < place + 1 → get_or front k [] ≡ get_or words k []
  unfolding front
  at_front k below = grind (arith, common_steps)

  at_images : (k : ℕ) → k < place → get_or (take place words) k [] ≡ get_or words k []
  at_images k below = grind (arith, common_steps)

  length_images : length (take place words) ≡ place
  length_images = length-take place words ∙ omega arith

  pub plain : HasNoDashes front
  plain k below e = ⊎_elim
      (λ earlier. so_far.paths k (omega (arith, length_images)) (at_images k earlier ∙ sym (at_front k (omega arith)) ∙ e))
      (λ here. let at : k ≡ place = omega (arith, long) in other (sym (at_front place (omega arith)) ∙ (rw at at e)))
      (cases_lt k place)

  -- one image more
  pub one_more : IsNextImage words place → AreImages front
  one_more next = record {
    few = omega (arith, long, next.few);
    named = λ i below e. ⊎_elim
        (λ earlier. so_far.named i (omega (arith, length_images)) (at_images i earlier ∙ sym (at_front i (omega arith)) ∙ e))
        (λ here. let at : i ≡ place = omega (arith, long) in next.named (sym (at_front place (omega arith)) ∙ (rw at at e)))
        (cases_lt i place);
    paths = plain;
    different = λ i j before below e. ⊎_elim
        (λ earlier. so_far.different i j before (omega (arith, length_images))
        (at_images i (omega arith) ∙ sym (at_front i (omega arith)) ∙ e ∙ at_front j (omega arith) ∙ sym (at_images j earlier)))
        (λ here. let at : j ≡ place = omega (arith, long) in
        next.fresh i (omega arith) (sym (at_front i (omega arith)) ∙ e ∙ ap (λ (n : ℕ). get_or front n []) at ∙ at_front place (omega arith)))
        (cases_lt j place);
  }

  -- a word that is no image
  pub no_image : ((images : List Word) → AreImages images → place < length images → get_or images place [] ≡ get_or words place []
      → ((k : ℕ) → k < place → get_or images k [] ≡ get_or words k []) → ⊥) → GoWrongAt IsAccepted words place
  unfolding front
  no_image bad = wrong_word IsAccepted words place lt (images_begin (take place words) so_far)
      (λ begun.
      let asked = begun.goes_on.is_asked in
      let le = within_images front begun.more asked.images asked.rest plain asked.parts in
      let same = same_image front begun.more asked.images asked.rest plain asked.parts in
      bad asked.images asked.are_images (omega (arith, long))
      (same place (omega (arith, long)) ∙ at_front place (omega arith))
      (λ k below. same k (omega (arith, long)) ∙ at_front k (omega arith)))

  pub front_is : front ≡ take (place + 1) words
  unfolding front
  front_is = refl

  pub not_next : (IsNextImage words place → ⊥) → GoWrongAt IsAccepted words place
  not_next bad = no_image (λ images are more here earlier. bad (record {
    few = omega (arith, are.few);
    named = λ e. are.named place more (here ∙ e);
    fresh = λ k below e. are.different k place below more (earlier k below ∙ e ∙ sym here);
  }))

-- all words are images, and the dashes are wanting
pub no_dashes_left : (words : List Word) → AreImages words → GoWrongAt IsAccepted words (length words)
no_dashes_left words are = wanting_words IsAccepted words (images_begin words are)
    (λ accepted. let asked = accepted.is_asked in
    let le = within_images words [] asked.images asked.rest are.paths (append-nil words ∙ asked.parts) in
    omega (arith, ap length asked.parts, length-append asked.images (dashes ∷ asked.rest)))

-- ---- images, dashes and a command

module _ (words : List Word) (count : ℕ) (leads : LeadsWithImages words count) where
  rest : List Word
  rest = drop (count + 1) words

  behind : drop count words ≡ dashes ∷ rest
  unfolding rest
  behind = drop_more words count [] leads.within ∙ ap (λ (w : Word). w ∷ drop (count + 1) words) leads.dashes_next

  front_parts : (m : ℕ) → take (count + 1 + m) words ≡ take count words ++ dashes ∷ take m rest
  front_parts m =
      let e : count + 1 + m ≡ count + suc m = omega arith in
      rw (e, take-add count (suc m) words, behind) refl

  parts : words ≡ take count words ++ dashes ∷ rest
  parts = sym (take-append-drop count words) ∙ ap (λ (ws : List Word). take count words ++ ws) behind

  pub is_asked : (asked : Asked) → SpellsAsked asked.group asked.command (drop (count + 1) words) → IsAsked words asked
  unfolding rest
  is_asked asked spells = record { images = take count words; rest = rest; are_images = leads.are_images; parts = parts; spells = spells }

  -- words ask for one thing
  pub same_asked : (asked : Asked) → SpellsAsked asked.group asked.command (drop (count + 1) words) → (other : Asked) → IsAsked words other → asked ≡ other
  unfolding rest
  same_asked asked spells other is =
      let behind : rest ≡ is.rest = same_rest (take count words) rest is.images is.rest leads.are_images is.are_images (sym parts ∙ is.parts) in
      let same = same_request rest asked.group other.group asked.command other.command spells (rw behind is.spells) in
      λ i. record { group = same.0 i; command = same.1 i }

  accepted_rest : (more : List Word) → IsAccepted (take count words ++ dashes ∷ more) → IsRequest more
  accepted_rest more accepted =
      let is = accepted.is_asked in
      let same : more ≡ is.rest = same_rest (take count words) more is.images is.rest leads.are_images is.are_images is.parts in
      record { asked = accepted.asked; spells = rw same is.spells }

  pub goes_wrong : (place : ℕ) → GoWrongAt IsRequest (drop (count + 1) words) place → GoWrongAt IsAccepted words (count + 1 + place)
  unfolding rest
  goes_wrong place wrong =
      let long : length rest ≡ length words - (count + 1) = length-drop (count + 1) words in
      record {
        refused = λ accepted. wrong.refused (accepted_rest rest (rw parts at accepted));
        within = omega (arith, wrong.within, leads.within, long);
        good = rw (front_parts place) (record {
          more = wrong.good.more;
          goes_on = record {
            asked = wrong.good.goes_on.asked;
            is_asked = record {
              images = take count words;
              rest = take place rest ++ wrong.good.more;
              are_images = leads.are_images;
              parts = append_assoc (take count words) (dashes ∷ take place rest) wrong.good.more;
              spells = wrong.good.goes_on.spells;
            };
          };
        });
        no_longer = λ n more le longer.
            let m : ℕ = n - (count + 1) in
            let e : n ≡ count + 1 + m = omega arith in
            let begun : Begins IsAccepted (take count words ++ dashes ∷ take m rest) = rw (← front_parts m, ← e) longer in
            wrong.no_longer m (omega arith) (omega (arith, long)) (record {
              more = begun.more;
              goes_on = accepted_rest (take m rest ++ begun.more) (rw (append_assoc (take count words) (dashes ∷ take m rest) begun.more) at begun.goes_on);
            });
      }
