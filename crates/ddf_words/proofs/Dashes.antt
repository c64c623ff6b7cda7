-- Images, and what stands behind them and the dashes.
use Rattle.std.proofs.Common.{◌≡◌, ◌≢◌, ◌∙◌, ℕ, ◌<◌, ◌≤◌, List, ◌∷◌, [], ◌++◌, length, get_or, take, add-zero, ⊎_elim, refl, sym, ap, arith}
use Rattle.std.proofs.lemmas.Bool.{cases_lt}
use Rattle.std.proofs.lemmas.List.{append_cancel_left, get_or-append-add, get_or_append_left, take_at}
use Rattle.ddf_words.specs.Words.{Word, AreImages, dashes}

abbrev pub HasNoDashes : List Word → Type 0
HasNoDashes words = (k : ℕ) → k < length words → get_or words k [] ≢ dashes

at_dashes : (images rest : List Word) → get_or (images ++ dashes ∷ rest) (length images) [] ≡ dashes
at_dashes images rest = ap (λ (n : ℕ). get_or (images ++ dashes ∷ rest) n []) (sym (add-zero (length images))) ∙ get_or-append-add images (dashes ∷ rest) 0 []

-- words without dashes, and then more: where dashes stand, these words are over
pub within_images : (front more images rest : List Word) → HasNoDashes front → front ++ more ≡ images ++ dashes ∷ rest → length front ≤ length images
within_images front more images rest none e = ⊎_elim
    (λ under. absurd (none (length images) under
    (sym (get_or_append_left front more [] (length images) under) ∙ ap (λ (ws : List Word). get_or ws (length images) []) e ∙ at_dashes images rest)))
    (λ over. over)
    (cases_lt (length images) (length front))

-- no words are no images
pub no_images : AreImages []
no_images = record { few = omega arith; named = λ i lt. absurd (omega (arith, lt)); paths = λ i lt. absurd (omega (arith, lt)); different = λ i j lt le. absurd (omega (arith, le)) }

same_length : (images rest images' rest' : List Word) → AreImages images → AreImages images' → images ++ dashes ∷ rest ≡ images' ++ dashes ∷ rest' → length images ≡ length images'
same_length images rest images' rest' are are' e =
    let one = within_images images (dashes ∷ rest) images' rest' are.paths e in
    let other = within_images images' (dashes ∷ rest') images rest are'.paths (sym e) in
    omega (arith, one, other)

same_images : (images rest images' rest' : List Word) → length images ≡ length images' → images ++ dashes ∷ rest ≡ images' ++ dashes ∷ rest' → images ≡ images'
same_images images rest images' rest' long e =
    sym (take_at images (dashes ∷ rest) (length images) refl) ∙ ap (take (length images)) e ∙ take_at images' (dashes ∷ rest') (length images) (sym long)

-- the first dashes part the words in one way
pub same_rest : (images rest images' rest' : List Word) → AreImages images → AreImages images' → images ++ dashes ∷ rest ≡ images' ++ dashes ∷ rest' → rest ≡ rest'
same_rest images rest images' rest' are are' e =
    let same = same_images images rest images' rest' (same_length images rest images' rest' are are' e) e in
    let tails : dashes ∷ rest ≡ dashes ∷ rest' = append_cancel_left images (dashes ∷ rest) (dashes ∷ rest') (e ∙ ap (λ (ws : List Word). ws ++ dashes ∷ rest') (sym same)) in
    cc
