-- The words of a line, seen as those of the program without images.
use Rattle.std.proofs.Common.{◌≡◌, ◌≢◌, ◌∙◌, ℕ, zero, suc, ◌-◌, ◌<◌, List, [], ◌∷◌, ◌++◌, length, get_or, take, Option, Some, None, Bool, true, false, refl, sym, ap, subst, arith}
use Rattle.std.proofs.lemmas.Bool.{false≢true}
use Rattle.std.proofs.lemmas.List.{get_or_default}
use Rattle.std.proofs.lemmas.List.Folds.{Any-from_list_any}
use Rattle.std.proofs.lemmas.Slice.Eq.{bytes_eq-Decides}
use Rattle.std.specs.Str.{bytes_eq}
use Rattle.ddf_words.proofs.Commands.{assemble, at_sign, begins_with, name_of, no_words}
use Rattle.ddf_words.proofs.Dashes.{no_images, same_rest}
use Rattle.ddf_words.proofs.Places.{wanting_words, wrong_word}
use Rattle.ddf_words.proofs.Wishes.{first_word}
use Rattle.ddf_words.specs.Words.{Word, Begins, GoWrongAt, IsAccepted, IsAsked, NamesGroup, Spells, SpellsAsked, dashes}
use Rattle.ddf_words.specs.declared.command.Asked.{Asked}
use Rattle.ddf_words.specs.declared.command.Command.{Command}
use Rattle.ddf_words.specs.declared.command.Command.TheVariants.{Examine, Assemble, Change}
use Rattle.ddf_words.specs.declared.command.Wish.TheVariants.{Create}
use Rattle.ddf_words.specs.Lines.{AsksFor, IsLine, is_for_lines, is_line_name, line_names}

-- ---- names

-- the names are those of the commands that a line may ask for
names_only : (command : Command) → is_line_name (name_of command) ≡ is_for_lines command
names_only Examine = refl
names_only (Change (Create creation)) = refl
names_only (Change wish) = refl
names_only command = refl

-- so the first word of a line tells whether it may ask for its command
pub named_for_lines : (line : List Word) (command : Command) → Spells command line → is_line_name (first_word line) ≡ is_for_lines command
named_for_lines line command spells = ap is_line_name (begins_with line command spells) ∙ names_only command

-- none of them begins with `@`
no_sign : (k : ℕ) → k < length line_names → get_or (get_or line_names k []) 0 0 ≢ 64
no_sign zero lt e = omega (arith, e)
no_sign (suc zero) lt e = omega (arith, e)
no_sign (suc (suc zero)) lt e = omega (arith, e)
no_sign (suc (suc (suc zero))) lt e = omega (arith, e)
no_sign (suc (suc (suc (suc zero)))) lt e = omega (arith, e)
no_sign (suc (suc (suc (suc (suc zero))))) lt e = omega (arith, e)
no_sign (suc (suc (suc (suc (suc (suc zero)))))) lt e = omega (arith, e)
no_sign (suc (suc (suc (suc (suc (suc (suc zero))))))) lt e = omega (arith, e)
no_sign (suc (suc (suc (suc (suc (suc (suc (suc zero)))))))) lt e = omega (arith, e)
no_sign (suc (suc (suc (suc (suc (suc (suc (suc (suc zero))))))))) lt e = omega (arith, e)
no_sign (suc (suc (suc (suc (suc (suc (suc (suc (suc (suc zero)))))))))) lt e = omega (arith, e)
no_sign (suc (suc (suc (suc (suc (suc (suc (suc (suc (suc (suc zero))))))))))) lt e = omega (arith, e)
no_sign (suc (suc (suc (suc (suc (suc (suc (suc (suc (suc (suc (suc k)))))))))))) lt e = omega (arith, lt)

no_group : (group : List ℕ) (word : Word) → is_line_name word ≡ true → NamesGroup group word → ⊥
no_group group word is names =
    let any = Any-from_list_any (λ (name : Word). bytes_eq word name) line_names is in
    let same : word ≡ any.1 = (bytes_eq-Decides word any.1).0 any.4 in
    let there : get_or line_names any.0 [] ≡ any.1 = get_or_default line_names any.0 [] any.1 any.2 ∙ any.3 in
    no_sign any.0 any.2 (ap (λ (w : Word). get_or w 0 0) (there ∙ sym same) ∙ at_sign group word names)

-- ---- a line behind dashes

pub asked_in : (line : List Word) (asked : Asked) → IsAsked (dashes ∷ line) asked → SpellsAsked asked.group asked.command line
asked_in line asked is = subst (λ (ws : List Word). SpellsAsked asked.group asked.command ws) (same_rest is.images is.rest [] line is.are_images no_images (sym is.parts)) is.spells

pub as_asked : (line : List Word) (command : Command) → Spells command line → IsAsked (dashes ∷ line) (record { group = None; command = command })
as_asked line command spells = record { images = []; rest = line; are_images = no_images; parts = refl; spells = spells }

-- a group isn't named by a word that is the name of such a command
named_alone : (line : List Word) → is_line_name (first_word line) ≡ true → (group : Option (List ℕ)) (command : Command) → SpellsAsked group command line → Spells command line
named_alone line named None command spells = spells
named_alone line named (Some group) command spells =
    let word : first_word line ≡ spells.word = ap first_word spells.parts in
    absurd (no_group group spells.word (ap is_line_name (sym word) ∙ named) spells.names_group)

pub asks_for : (line : List Word) → is_line_name (first_word line) ≡ true → (group : Option (List ℕ)) (command : Command) → SpellsAsked group command line → AsksFor line command
asks_for line named group command spells =
    let spelled = named_alone line named group command spells in
    record { spells = spelled; is_for_lines = sym (named_for_lines line command spelled) ∙ named }

-- ---- where a line goes wrong

nothing_yet : Begins IsLine []
nothing_yet = record { more = assemble ∷ []; goes_on = record { command = Assemble; asks = record { spells = refl; is_for_lines = refl } } }

-- its first word is no such name
pub no_name : (line : List Word) → is_line_name (first_word line) ≡ false → GoWrongAt IsLine line 0
no_name [] none = wanting_words IsLine [] nothing_yet (λ is. no_words is.command is.asks.spells)
no_name (name ∷ rest) none = wrong_word IsLine (name ∷ rest) 0 (omega arith) nothing_yet
    (λ begun.
    let is = begun.goes_on in
    false≢true (sym none ∙ named_for_lines (name ∷ begun.more) is.command is.asks.spells ∙ is.asks.is_for_lines))

-- the dashes alone begin an accepted list
dashes_begin : Begins IsAccepted (dashes ∷ [])
dashes_begin = record { more = assemble ∷ []; goes_on = record { asked = record { group = None; command = Assemble }; is_asked = as_asked (assemble ∷ []) Assemble refl } }

pub accepted_behind : (line : List Word) → IsLine line → IsAccepted (dashes ∷ line)
accepted_behind line is = record { asked = record { group = None; command = is.command }; is_asked = as_asked line is.command is.asks.spells }

-- the first words of a line, so many
begins_line : (line : List Word) → is_line_name (first_word line) ≡ true → (m : ℕ) → Begins IsAccepted (dashes ∷ take m line) → Begins IsLine (take m line)
begins_line [] named m begun = absurd (false≢true named)
begins_line (name ∷ rest) named zero begun = nothing_yet
begins_line (name ∷ rest) named (suc m) begun =
    let asked = begun.goes_on.asked in
    let words : List Word = name ∷ (take m rest ++ begun.more) in
    record {
      more = begun.more;
      goes_on = record { command = asked.command; asks = asks_for words named asked.group asked.command (asked_in words asked begun.goes_on.is_asked) };
    }

wrong_behind : (line : List Word) → is_line_name (first_word line) ≡ true → (m : ℕ) → GoWrongAt IsAccepted (dashes ∷ line) (suc m) → GoWrongAt IsLine line m
wrong_behind line named m wrong = record {
  refused = λ is. wrong.refused (accepted_behind line is);
  within = omega (arith, wrong.within);
  good = begins_line line named m wrong.good;
  no_longer = λ n more le begun. wrong.no_longer (suc n) (omega arith) (omega arith)
      (record { more = begun.more; goes_on = accepted_behind (take n line ++ begun.more) begun.goes_on });
}

pub wrong_line : (line : List Word) → is_line_name (first_word line) ≡ true → (place : ℕ) → GoWrongAt IsAccepted (dashes ∷ line) place → GoWrongAt IsLine line (place - 1)
wrong_line line named zero wrong = absurd (wrong.no_longer 1 (omega arith) (omega arith) dashes_begin)
wrong_line line named (suc m) wrong =
    let here : suc m - 1 ≡ m = omega arith in
    rw here (wrong_behind line named m wrong)

-- ---- what is looked at

pub named_as : (words line : List Word) → words ≡ dashes ∷ line → (named : Bool) → named ≡ is_line_name (get_or words 1 []) → is_line_name (first_word line) ≡ named
named_as words line e named is = sym (ap (λ (ws : List Word). is_line_name (get_or ws 1 [])) e) ∙ sym is
