-- Where a rebuild notes how far it has come: one number after another, and that the rows rise.
use Rattle.std.proofs.Common.{◌≡◌, ◌⊎◌, inl, inr, ℕ, zero, suc, ◌+◌, ◌-◌, ◌*◌, ◌<◌, ◌≤◌, ◌&&◌, Bool, true, false, nat_lt, cond, List, [], ◌∷◌, ◌++◌, filter, map, refl, sym, ap, subst, ◌∙◌, arith, append_assoc, append-nil}
use Rattle.std.proofs.lemmas.Bool.{and_parts, ltb-true}
use Rattle.std.specs.List.{AllByRecursion}
use Rattle.ddf_rebuild_command.specs.Notes.{notes, rows_between, upwards}

abbrev pub passes : (kept rows row : ℕ) → Bool
passes kept rows row = nat_lt kept row && nat_lt row rows

pub does_pass : (kept rows row : ℕ) → kept < row → row < rows → passes kept rows row ≡ true
does_pass kept rows row more less = grind arith

pub fails : (kept rows row : ℕ) → ((kept < row) × (rows ≤ row)) ⊎ (row ≤ kept) → passes kept rows row ≡ false
fails kept rows row (inl past) = grind arith
fails kept rows row (inr few) = grind arith

-- those among the multiples from a number on
abbrev pub notes_from : (kept rows between from count : ℕ) → List ℕ
notes_from kept rows between from count = filter (passes kept rows) (map (λ number. number * between) (upwards from count))

pub all_notes : (kept rows : ℕ) → notes_from kept rows (rows_between rows) 1 63 ≡ notes kept rows
unfolding notes
all_notes kept rows = refl

pub none_left : (kept rows between from : ℕ) → notes_from kept rows between from 0 ≡ []
unfolding upwards
none_left kept rows between from = refl

-- The first of them is one where it passes.
pub next_is : (kept rows between from count : ℕ) → passes kept rows (from * between) ≡ true
    → notes_from kept rows between from (suc count) ≡ from * between ∷ notes_from kept rows between (from + 1) count
unfolding upwards
next_is kept rows between from count e = ap (λ (b : Bool). cond b (from * between ∷ notes_from kept rows between (from + 1) count) (notes_from kept rows between (from + 1) count)) e

pub next_not : (kept rows between from count : ℕ) → passes kept rows (from * between) ≡ false
    → notes_from kept rows between from (suc count) ≡ notes_from kept rows between (from + 1) count
unfolding upwards
next_not kept rows between from count e = ap (λ (b : Bool). cond b (from * between ∷ notes_from kept rows between (from + 1) count) (notes_from kept rows between (from + 1) count)) e

-- One number more is told: of those that are found and those behind it nothing is another one.
pub one_noted : (kept rows between from : ℕ) (found all : List ℕ) → from < 64 → passes kept rows (from * between) ≡ true → found ++ notes_from kept rows between from (64 - from) ≡ all
    → (found ++ (from * between ∷ [])) ++ notes_from kept rows between (from + 1) (64 - (from + 1)) ≡ all
one_noted kept rows between from found all less e is =
    let count : 64 - from ≡ suc (64 - (from + 1)) = omega arith in
    append_assoc found (from * between ∷ []) (notes_from kept rows between (from + 1) (64 - (from + 1)))
    ∙ ap (λ (rest : List ℕ). found ++ rest) (sym (next_is kept rows between from (64 - (from + 1)) e))
    ∙ ap (λ (n : ℕ). found ++ notes_from kept rows between from n) (sym count) ∙ is

pub none_noted : (kept rows between from : ℕ) (found all : List ℕ) → from < 64 → passes kept rows (from * between) ≡ false → found ++ notes_from kept rows between from (64 - from) ≡ all
    → found ++ notes_from kept rows between (from + 1) (64 - (from + 1)) ≡ all
none_noted kept rows between from found all less e is =
    let count : 64 - from ≡ suc (64 - (from + 1)) = omega arith in
    ap (λ (rest : List ℕ). found ++ rest) (sym (next_not kept rows between from (64 - (from + 1)) e))
    ∙ ap (λ (n : ℕ). found ++ notes_from kept rows between from n) (sym count) ∙ is

pub all_noted : (kept rows between from : ℕ) (found all : List ℕ) → 64 ≤ from → found ++ notes_from kept rows between from (64 - from) ≡ all → found ≡ all
all_noted kept rows between from found all most is =
    let count : 64 - from ≡ 0 = omega arith in
    sym (append-nil found) ∙ ap (λ (rest : List ℕ). found ++ rest) (sym (none_left kept rows between from))
    ∙ ap (λ (n : ℕ). found ++ notes_from kept rows between from n) (sym count) ∙ is

-- ---- they rise

-- each of these is greater than the one before it, and the first than this one
abbrev pub Rise : (low : ℕ) → List ℕ → Type 0
Rise low [] = Unit {0}
Rise low (row ∷ rows) = (low < row) × Rise row rows

-- a greater number of rows, where each are some
more_rows : (a b between : ℕ) → a < b → 0 < a * between → a * between < b * between
more_rows a b between less some = grind arith

rise_from : (kept rows between : ℕ) (count from low : ℕ) → ((number : ℕ) → from ≤ number → kept < number * between → low < number * between) → Rise low (notes_from kept rows between from count)
rise_from kept rows between zero from low above = subst (Rise low) (sym (none_left kept rows between from)) tt
rise_from kept rows between (suc count) from low above = by (passes kept rows (from * between)) refl (rise_from kept rows between count (from + 1))
  where
    by : (b : Bool) → passes kept rows (from * between) ≡ b
        → ((next : ℕ) → ((number : ℕ) → from + 1 ≤ number → kept < number * between → next < number * between) → Rise next (notes_from kept rows between (from + 1) count))
        → Rise low (notes_from kept rows between from (suc count))
    by false e others =
        subst (Rise low) (sym (next_not kept rows between from count e)) (others low (λ number here more. above number (omega (arith, here)) more))
    by true e others =
        let less = ltb-true kept (from * between) (and_parts (nat_lt kept (from * between)) (nat_lt (from * between) rows) e).0 in
        subst (Rise low) (sym (next_is kept rows between from count e))
        (above from (omega arith) less, others (from * between) (λ number here more. more_rows from number between (omega (arith, here)) (omega (arith, less))))

-- Notes rise above the rows that are kept.
pub notes_rise : (kept rows : ℕ) → Rise kept (notes kept rows)
notes_rise kept rows = subst (Rise kept) (all_notes kept rows) (rise_from kept rows (rows_between rows) 63 1 kept (λ number here more. more))

-- ---- and lie below all

below_from : (kept rows between : ℕ) (count from : ℕ) → AllByRecursion (λ row. row < rows) (notes_from kept rows between from count)
below_from kept rows between zero from = subst (AllByRecursion (λ row. row < rows)) (sym (none_left kept rows between from)) tt
below_from kept rows between (suc count) from = by (passes kept rows (from * between)) refl (below_from kept rows between count (from + 1))
  where
    by : (b : Bool) → passes kept rows (from * between) ≡ b → AllByRecursion (λ row. row < rows) (notes_from kept rows between (from + 1) count)
        → AllByRecursion (λ row. row < rows) (notes_from kept rows between from (suc count))
    by false e others = subst (AllByRecursion (λ row. row < rows)) (sym (next_not kept rows between from count e)) others
    by true e others =
        subst (AllByRecursion (λ row. row < rows)) (sym (next_is kept rows between from count e))
        (ltb-true (from * between) rows (and_parts (nat_lt kept (from * between)) (nat_lt (from * between) rows) e).1, others)

pub notes_below : (kept rows : ℕ) → AllByRecursion (λ row. row < rows) (notes kept rows)
notes_below kept rows = subst (AllByRecursion (λ row. row < rows)) (all_notes kept rows) (below_from kept rows (rows_between rows) 63 1)
