-- Which words spell which wish.
use Rattle.std.proofs.Common.{◌≡◌, ◌≢◌, ℕ, List, [], get_or, drop, refl, sym, ap, ◌∙◌, arith, codes, false, Option}
use Rattle.std.specs.Str.{bytes_eq}
use Rattle.std.proofs.lemmas.Bool.{true≢false}
use Rattle.std.proofs.lemmas.Slice.Eq.{bytes_eq-Decides}
use Rattle.std.proofs.lemmas.Option.{same_Some}
use Rattle.ddf_words.proofs.Elements.{same_elements}
use Rattle.ddf_words.proofs.Numbers.{same_number}
use Rattle.ddf_words.specs.Words.{Word, SpellCreate, SpellSpare, SpellsSpare, SpellsWish, level_rows, said_by, secondary_rows}
use Rattle.ddf_words.specs.declared.command.CreateElement.{CreateElement}
use Rattle.ddf_words.specs.declared.command.Creation.{Creation}
use Rattle.ddf_words.specs.declared.command.SpareWord.{SpareWord}
use Rattle.ddf_words.specs.declared.command.SpareWord.TheVariants as spares
use Rattle.ddf_words.specs.declared.command.Wish.{Wish}
use Rattle.ddf_words.specs.declared.command.Wish.TheVariants.{Create, Delete, Accept, Spare, Fail}

abbrev pub create : Word
create = codes "create"

abbrev pub delete : Word
delete = codes "delete"

abbrev pub accept : Word
accept = codes "accept"

abbrev pub spare : Word
spare = codes "spare"

abbrev pub fail : Word
fail = codes "fail"

-- words that a test tells apart
pub unlike : (a b : Word) → bytes_eq a b ≡ false → a ≢ b
unlike a b test e = true≢false (sym ((bytes_eq-Decides a b).1 e) ∙ test)

abbrev pub word_at : ℕ → List Word → Word
word_at place words = get_or words place []

abbrev pub first_word : List Word → Word
first_word words = get_or words 0 []

-- ---- the name of a wish

abbrev pub wish_name : Wish → Word
wish_name (Create creation) = create
wish_name (Delete name) = delete
wish_name (Accept name) = accept
wish_name (Spare slot word) = spare
wish_name (Fail slot) = fail

-- with it the words begin
pub wish_begins : (words : List Word) (wish : Wish) → SpellsWish wish words → first_word words ≡ wish_name wish
wish_begins words (Create creation) spells = ap first_word spells.parts
wish_begins words (Delete name) spells = ap first_word spells.parts
wish_begins words (Accept name) spells = ap first_word spells.parts
wish_begins words (Spare slot word) spells = ap first_word spells.parts
wish_begins words (Fail slot) spells = ap first_word spells.parts

-- no such name begins with `@`
pub wish_not_at : (wish : Wish) → get_or (wish_name wish) 0 0 ≢ 64
wish_not_at (Create creation) e = omega (arith, e)
wish_not_at wish e = omega (arith, e)

-- a word is none of them
abbrev pub IsNoWish : Word → Type 0
IsNoWish word =
    (bytes_eq word create ≡ false) × (bytes_eq word delete ≡ false) × (bytes_eq word accept ≡ false) × (bytes_eq word spare ≡ false) × (bytes_eq word fail ≡ false)

pub no_wish : (word : Word) → IsNoWish word → (wish : Wish) → word ≢ wish_name wish
no_wish word is (Create creation) = unlike word create is.0
no_wish word is (Delete name) = unlike word delete is.1
no_wish word is (Accept name) = unlike word accept is.2
no_wish word is (Spare slot use_as) = unlike word spare is.3
no_wish word is (Fail slot) = unlike word fail is.4

-- ---- words ask for one wish

abbrev create_from : Word → (level qualifier code : ℕ) → Option ℕ → List CreateElement → Wish
create_from name level qualifier code secondary elements = Create (record {
  name = name;
  level = level;
  qualifier = qualifier;
  code = code;
  secondary = secondary;
  elements = elements;
})

same_create : (words : List Word) (one other : Creation) → SpellCreate one words → SpellCreate other words → Create one ≡ Create other
same_create words one other spells spells' =
    let parts = sym spells.parts ∙ spells'.parts in
    let levels : ℕ × ℕ = (one.level, one.qualifier) in
    let other_levels : ℕ × ℕ = (other.level, other.qualifier) in
    let level_word : spells.level_word ≡ spells'.level_word = ap (word_at 2) parts in
    let secondary_word : spells.secondary_word ≡ spells'.secondary_word = ap (word_at 4) parts in
    let rest : spells.rest ≡ spells'.rest = ap (drop 5) parts in
    let same_levels : levels ≡ other_levels = same_Some levels other_levels (sym spells.is_level ∙ ap (said_by level_rows) level_word ∙ spells'.is_level) in
    let same_name : one.name ≡ other.name = ap (word_at 1) parts in
    let same_level : one.level ≡ other.level = ap (λ (l : ℕ × ℕ). l.0) same_levels in
    let same_qualifier : one.qualifier ≡ other.qualifier = ap (λ (l : ℕ × ℕ). l.1) same_levels in
    let same_code : one.code ≡ other.code = same_number 15 one.code other.code (omega arith) spells.code_within spells'.code_within (ap (word_at 3) parts) in
    let same_secondary : one.secondary ≡ other.secondary =
    same_Some one.secondary other.secondary (sym spells.is_secondary ∙ ap (said_by secondary_rows) secondary_word ∙ spells'.is_secondary) in
    let same_rest : one.elements ≡ other.elements = same_elements one.elements other.elements spells'.rest (rw rest at spells.are_elements.spell) spells'.are_elements.spell in
    λ i. create_from (same_name i) (same_level i) (same_qualifier i) (same_code i) (same_secondary i) (same_rest i)

abbrev pub spare_name : SpareWord → Word
spare_name spares.Global = codes "global"
spare_name spares.Revertible = codes "revertible"
spare_name spares.Off = codes "off"
spare_name (spares.For names) = codes "for"

pub spare_begins : (words : List Word) (word : SpareWord) → SpellsSpare word words → first_word words ≡ spare_name word
spare_begins words spares.Global spells = ap first_word spells
spare_begins words spares.Revertible spells = ap first_word spells
spare_begins words spares.Off spells = ap first_word spells
spare_begins words (spares.For names) spells = ap first_word spells.parts

same_use : (words : List Word) (word word' : SpareWord) → SpellsSpare word words → SpellsSpare word' words → word ≡ word'
same_use words spares.Global spares.Global spells spells' = refl
same_use words spares.Revertible spares.Revertible spells spells' = refl
same_use words spares.Off spares.Off spells spells' = refl
same_use words (spares.For names) (spares.For names') spells spells' = ap spares.For (ap (drop 1) (sym spells.parts ∙ spells'.parts))
same_use words word word' spells spells' = absurd (unlike (spare_name word) (spare_name word') refl (sym (spare_begins words word spells) ∙ spare_begins words word' spells'))

same_spare : (words : List Word) (slot slot' : ℕ) (word word' : SpareWord) → SpellSpare slot word words → SpellSpare slot' word' words → Spare slot word ≡ Spare slot' word'
same_spare words slot slot' word word' spells spells' =
    let parts = sym spells.parts ∙ spells'.parts in
    let rest : spells.rest ≡ spells'.rest = ap (drop 2) parts in
    let slots : slot ≡ slot' = same_number 63 slot slot' (omega arith) spells.slot_within spells'.slot_within (ap (word_at 1) parts) in
    let uses : word ≡ word' = same_use spells'.rest word word' (rw rest at spells.spells) spells'.spells in
    λ i. Spare (slots i) (uses i)

pub same_wish : (words : List Word) (wish wish' : Wish) → SpellsWish wish words → SpellsWish wish' words → wish ≡ wish'
same_wish words (Create creation) (Create creation') spells spells' = same_create words creation creation' spells spells'
same_wish words (Delete name) (Delete name') spells spells' = ap Delete (ap (word_at 1) (sym spells.parts ∙ spells'.parts))
same_wish words (Accept name) (Accept name') spells spells' = ap Accept (ap (word_at 1) (sym spells.parts ∙ spells'.parts))
same_wish words (Spare slot word) (Spare slot' word') spells spells' = same_spare words slot slot' word word' spells spells'
same_wish words (Fail slot) (Fail slot') spells spells' =
    ap Fail (same_number 63 slot slot' (omega arith) spells.slot_within spells'.slot_within (ap (word_at 1) (sym spells.parts ∙ spells'.parts)))
same_wish words wish wish' spells spells' = absurd (unlike (wish_name wish) (wish_name wish') refl (sym (wish_begins words wish spells) ∙ wish_begins words wish' spells'))
