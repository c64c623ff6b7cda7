-- Words of an exercise behind images: no command and no batch has them.
use Rattle.std.proofs.Common.{◌≡◌, ◌≢◌, ◌∙◌, ◌⊎◌, inl, inr, ⊎_elim, ℕ, List, [], ◌∷◌, ◌++◌, get_or, Option, Some, None, refl, sym, ap, subst, arith, append_assoc}
use Rattle.std.proofs.lemmas.List.{append_cancel_right}
use Rattle.ddf_words.proofs.Commands.{assemble, at_sign, begins_with, examine, name_of}
use Rattle.ddf_words.proofs.Dashes.{same_rest}
use Rattle.ddf_words.proofs.Wishes.{first_word, no_wish, unlike}
use Rattle.ddf_words.specs.Words.{Word, AreImages, IsAccepted, IsAsked, NamesGroup, SpellsAsked, dashes}
use Rattle.ddf_words.specs.declared.command.Command.{Command}
use Rattle.ddf_words.specs.declared.command.Command.TheVariants.{Change, Examine}
use Rattle.ddf_words.specs.Batch.{IsServed, assembling}
use Rattle.ddf_words.specs.Asking.{exercise}
use Rattle.ddf_words.proofs.Batches.{batch}

-- ---- no command is called so

not_exercise : (command : Command) → exercise ≢ name_of command
not_exercise (Change wish) = no_wish exercise (refl, refl, refl, refl, refl) wish
not_exercise command = unlike exercise (name_of command) refl

not_group : (group : List ℕ) (word : Word) → NamesGroup group word → word ≢ exercise
not_group group word names is = let first : get_or word 0 0 ≡ 101 = ap (λ (w : Word). get_or w 0 0) is in omega (arith, at_sign group word names)

alone : (rest : List Word) (group : Option (List ℕ)) (command : Command) → SpellsAsked group command (exercise ∷ rest) → ⊥
alone rest None command spells = not_exercise command (begins_with (exercise ∷ rest) command spells)
alone rest (Some group) command spells = not_group group spells.word spells.names_group (ap first_word (sym spells.parts))

-- ---- the parts of what is served

-- Some images, the dashes and these words.
pub record HasParts (words : List Word) : Type 0 where
  pub images : List Word
  pub rest : List Word
  pub are_images : AreImages images
  pub parts : words ≡ images ++ dashes ∷ rest
  pub unlike : (others : List Word) → rest ≡ exercise ∷ others → ⊥

of_asked : (words : List Word) → IsAccepted words → HasParts words
of_asked words is = let asked = is.is_asked in record {
  images = asked.images;
  rest = asked.rest;
  are_images = asked.are_images;
  parts = asked.parts;
  unlike = λ others same. alone others is.asked.group is.asked.command (subst (λ (ws : List Word). SpellsAsked is.asked.group is.asked.command ws) same asked.spells);
}

front_is : (front images middle : List Word) → front ++ assemble ∷ [] ≡ images ++ dashes ∷ (middle ++ assemble ∷ []) → front ≡ images ++ dashes ∷ middle
front_is front images middle e = append_cancel_right front (images ++ dashes ∷ middle) (assemble ∷ []) (e ∙ sym (append_assoc images (dashes ∷ middle) (assemble ∷ [])))

batch_parts : (words front images middle : List Word) → words ≡ front ++ batch ∷ [] → front ≡ images ++ dashes ∷ middle → words ≡ images ++ dashes ∷ (middle ++ batch ∷ [])
batch_parts words front images middle parts is = parts ∙ ap (λ (ws : List Word). ws ++ batch ∷ []) is ∙ append_assoc images (dashes ∷ middle) (batch ∷ [])

of_batch : (words front : List Word) (group : Option (List ℕ)) → words ≡ front ++ batch ∷ [] → IsAsked (front ++ assemble ∷ []) (assembling group) → HasParts words
of_batch words front None parts like = record {
  images = like.images;
  rest = batch ∷ [];
  are_images = like.are_images;
  parts = batch_parts words front like.images [] parts (front_is front like.images [] (like.parts ∙ ap (λ (ws : List Word). like.images ++ dashes ∷ ws) like.spells));
  unlike = λ others same. unlike batch exercise refl (ap first_word same);
}
of_batch words front (Some group) parts like = let over = like.spells in record {
  images = like.images;
  rest = over.word ∷ batch ∷ [];
  are_images = like.are_images;
  parts = batch_parts words front like.images (over.word ∷ []) parts
      (front_is front like.images (over.word ∷ []) (like.parts ∙ ap (λ (ws : List Word). like.images ++ dashes ∷ ws) (over.parts ∙ ap (λ (ws : List Word). over.word ∷ ws) over.spells)));
  unlike = λ others same. not_group group over.word over.names_group (ap first_word same);
}

pub served_parts : (words : List Word) → IsServed words → HasParts words
served_parts words (inl is) = of_asked words is
served_parts words (inr is) = of_batch words is.asks.front is.group is.asks.parts is.asks.like_assemble

-- so none of it has `exercise` there
pub not_served : (images others : List Word) → AreImages images → IsServed (images ++ dashes ∷ exercise ∷ others) → ⊥
not_served images others are is =
    let has = served_parts (images ++ dashes ∷ exercise ∷ others) is in
    has.unlike others (sym (same_rest images (exercise ∷ others) has.images has.rest are has.are_images has.parts))

-- ---- images and dashes go on

pub images_go_on : (images : List Word) → AreImages images → IsServed (images ++ dashes ∷ examine ∷ [])
images_go_on images are = inl (record {
  asked = record { group = None; command = Examine };
  is_asked = record { images = images; rest = examine ∷ []; are_images = are; parts = refl; spells = refl };
})

-- Two parts of the same words: the first of one begins with the first of the other.
pub parted : (a b c d : List Word) → a ++ b ≡ c ++ d → ((more : List Word) × (c ≡ a ++ more) × (b ≡ more ++ d)) ⊎ ((more : List Word) × (a ≡ c ++ more) × (d ≡ more ++ b))
parted [] b c d e = inl (c, refl, e)
parted (x ∷ a) b [] d e = inr (x ∷ a, refl, sym e)
parted (x ∷ a) b (y ∷ c) d e =
    let head : x ≡ y = cc in
    let tail : a ++ b ≡ c ++ d = cc in
    ⊎_elim
    (λ left. inl (left.0, (let same = left.1 in cc), left.2))
    (λ right. inr (right.0, (let same = right.1 in cc), right.2))
    (parted a b c d tail)
