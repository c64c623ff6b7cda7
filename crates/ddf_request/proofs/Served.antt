-- The GUIDs of arrays that a spare may stand in for, word by word.
use Rattle.std.proofs.Common.{◌≡◌, ◌∙◌, ℕ, ◌+◌, ◌<◌, List, [], ◌∷◌, ◌++◌, Option, Some, None, length, get_or, take, drop, refl, sym, ap}
use Rattle.std.proofs.lemmas.List.{take_more, take-append-drop}
use Rattle.ddf_config.specs.declared.array.Array.{Array}
use Rattle.ddf_request.specs.Spare.{served_guid, served_guids, with_guid}

-- those of words and of more words
joined : Option (List (List ℕ)) → Option (List (List ℕ)) → Option (List (List ℕ))
joined None others = None
joined (Some guids) None = None
joined (Some guids) (Some others) = Some (guids ++ others)

joined-with_guid : (guid : Option (List ℕ)) (guids others : Option (List (List ℕ))) → with_guid guid (joined guids others) ≡ joined (with_guid guid guids) others
unfolding joined
joined-with_guid None guids others = refl
joined-with_guid (Some guid) None others = refl
joined-with_guid (Some guid) (Some guids) None = refl
joined-with_guid (Some guid) (Some guids) (Some others) = refl

joined-none : (others : Option (List (List ℕ))) → joined (Some []) others ≡ others
unfolding joined
joined-none None = refl
joined-none (Some others) = refl

served_guids-append : (arrays : List (List ℕ × Array)) (words others : List (List ℕ)) → served_guids arrays (words ++ others) ≡ joined (served_guids arrays words) (served_guids arrays others)
served_guids-append arrays [] others = sym (joined-none (served_guids arrays others))
served_guids-append arrays (word ∷ words) others =
    ap (with_guid (served_guid arrays word)) (served_guids-append arrays words others)
    ∙ joined-with_guid (served_guid arrays word) (served_guids arrays words) (served_guids arrays others)

module _ (arrays : List (List ℕ × Array)) (words : List (List ℕ)) (i : ℕ) (guids : List (List ℕ)) (word : List ℕ) (below : i < length words) (so_far : served_guids arrays (take i words) ≡ Some guids)
    (here : get_or words i word ≡ word) where
  next : (guid : Option (List ℕ)) → served_guid arrays word ≡ guid → served_guids arrays (take (i + 1) words) ≡ joined (Some guids) (with_guid guid (Some []))
  next guid is =
      ap (served_guids arrays) (take_more words i word below ∙ ap (λ (one : List ℕ). take i words ++ one ∷ []) here)
      ∙ served_guids-append arrays (take i words) (word ∷ [])
      ∙ ap (λ found. joined found (with_guid (served_guid arrays word) (Some []))) so_far
      ∙ ap (λ found. joined (Some guids) (with_guid found (Some []))) is

  -- one more
  pub served_more : (guid : List ℕ) → served_guid arrays word ≡ Some guid → served_guids arrays (take (i + 1) words) ≡ Some (guids ++ guid ∷ [])
  unfolding joined
  served_more guid is = next (Some guid) is

  -- one that isn't there
  pub served_none : served_guid arrays word ≡ None → served_guids arrays words ≡ None
  unfolding joined
  served_none is =
      ap (served_guids arrays) (sym (take-append-drop (i + 1) words))
      ∙ served_guids-append arrays (take (i + 1) words) (drop (i + 1) words)
      ∙ ap (λ found. joined found (served_guids arrays (drop (i + 1) words))) (next None is)
