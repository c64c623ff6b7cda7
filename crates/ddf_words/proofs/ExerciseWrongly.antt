-- Where words go wrong that may be of an exercise too.
use Rattle.std.proofs.Common.{◌≡◌, ◌∙◌, inl, ⊎_elim, ℕ, List, [], ◌∷◌, ◌++◌, take, drop, sym, ap, subst, append_assoc}
use Rattle.std.specs.Fmt.{decimal}
use Rattle.std.proofs.lemmas.List.{append-nil, take-append-drop}
use Rattle.ddf_words.proofs.Commands.{examine}
use Rattle.ddf_words.specs.Words.{Word, AreImages, Begins, GoWrongAt, dashes}
use Rattle.ddf_words.specs.Batch.{IsServed}
use Rattle.ddf_words.specs.Asking.{IsExercise, IsKnown, exercise}
use Rattle.ddf_words.proofs.ExerciseStanding.{images_go_on, parted}

-- `exercise` stands behind images and dashes.
pub record Stands (words : List Word) : Type 0 where
  pub images : List Word
  pub others : List Word
  pub are_images : AreImages images
  pub parts : words ≡ images ++ dashes ∷ exercise ∷ others

pub stands_in : (words : List Word) → IsExercise words → Stands words
stands_in words is = record { images = is.asks.images; others = decimal is.seed ∷ decimal is.rounds ∷ []; are_images = is.asks.are_images; parts = is.asks.parts }

-- ---- it stands nowhere

module _ (words : List Word) (none : Stands words → ⊥) where
  -- words that images and dashes begin with
  begins_images : (n : ℕ) (images more : List Word) → AreImages images → images ++ dashes ∷ [] ≡ take n words ++ more → Begins IsServed (take n words)
  begins_images n images more are parts = record {
    more = more ++ examine ∷ [];
    goes_on = subst IsServed
        (sym (append_assoc images (dashes ∷ []) (examine ∷ [])) ∙ ap (λ (ws : List Word). ws ++ examine ∷ []) parts ∙ append_assoc (take n words) more (examine ∷ []))
        (images_go_on images are);
  }

  behind : (n : ℕ) (more others : List Word) (is : Stands (take n words ++ more)) → take n words ≡ (is.images ++ dashes ∷ []) ++ others → exercise ∷ is.others ≡ others ++ more → Begins IsServed (take n words)
  behind n more [] is front rest = begins_images n is.images [] is.are_images (sym (front ∙ append-nil (is.images ++ dashes ∷ [])) ∙ sym (append-nil (take n words)))
  behind n more (word ∷ others) is front rest =
      let same : word ≡ exercise = cc in
      absurd (none (record {
        images = is.images;
        others = others ++ drop n words;
        are_images = is.are_images;
        parts = sym (take-append-drop n words) ∙ ap (λ (ws : List Word). ws ++ drop n words) front
            ∙ append_assoc (is.images ++ dashes ∷ []) (word ∷ others) (drop n words) ∙ append_assoc is.images (dashes ∷ []) (word ∷ others ++ drop n words)
            ∙ ap (λ (w : Word). is.images ++ dashes ∷ w ∷ (others ++ drop n words)) same;
      }))

  begins_so : (n : ℕ) (more : List Word) → Stands (take n words ++ more) → Begins IsServed (take n words)
  begins_so n more is = ⊎_elim
      (λ left. begins_images n is.images left.0 is.are_images left.1)
      (λ right. behind n more right.0 is right.1 right.2)
      (parted (take n words) more (is.images ++ dashes ∷ []) (exercise ∷ is.others) (is.parts ∙ sym (append_assoc is.images (dashes ∷ []) (exercise ∷ is.others))))

  pub none_stands : (place : ℕ) → GoWrongAt IsServed words place → GoWrongAt IsKnown words place
  none_stands place wrong = record {
    refused = λ is. ⊎_elim wrong.refused (λ asks. none (stands_in words asks)) is;
    within = wrong.within;
    good = record { more = wrong.good.more; goes_on = inl wrong.good.goes_on };
    no_longer = λ n past le begun. wrong.no_longer n past le (⊎_elim
        (λ is. record { more = begun.more; goes_on = is })
        (λ asks. begins_so n begun.more (stands_in (take n words ++ begun.more) asks))
        begun.goes_on);
  }
