-- A set of the names of the rows before one: it tells what is wrong with the name of that row.
use Rattle.std.proofs.Common.{◌≡◌, ℕ, ◌+◌, ◌<◌, Bool, true, false, not, cond, ◌||◌, List, length, take, get_or, Option, Some, None, refl, sym, ◌∙◌, ap}
use Rattle.std.specs.BTreeSet.{BTreeSet, contains, Updates}
use Rattle.std.specs.List.{list_any}
use Rattle.std.specs.Option.{option_or}
use Rattle.std.specs.Ordering.{eq_by_cmp}
use Rattle.std.specs.declared.cmp.Ordering.{Ordering}
use Rattle.std.proofs.lemmas.List.Folds.{list_any_more}
use Rattle.std.proofs.Math.Bool.{or-true, or-false}
use Rattle.ddf_tables.specs.declared.fault.TableFault.{TableFault}
use Rattle.ddf_tables.specs.Rows.{has_name, twice_by}
use Rattle.ddf_tables.proofs.TableRows.{twice_from, twice_from_next}

added : (before here : Bool) → cond here true before ≡ (before || here)
added before true = sym (or-true before)
added before false = sym (or-false before)

-- the set has the names of so many rows
abbrev pub HasNames : {Row Name : Type 0} → (Row → Option Name) → (Name → Name → Bool) → (Name → Name → Ordering) → BTreeSet Name → List Row → ℕ → Type 0
HasNames {Row} {Name} name_of eq cmp seen rows i = (name : Name) → contains cmp seen name ≡ list_any (has_name name_of eq name) (take i rows)

-- of one row more, whose name was put in
pub names_more : {Row Name : Type 0} (name_of : Row → Option Name) (eq : Name → Name → Bool) (cmp : Name → Name → Ordering) → ((x y : Name) → eq x y ≡ eq_by_cmp cmp x y)
    → (old new : BTreeSet Name) (rows : List Row) (i : ℕ) (row : Row) (name : Name) → i < length rows → row ≡ get_or rows i row → name_of row ≡ Some name
    → Updates cmp old new name true → HasNames name_of eq cmp old rows i → HasNames name_of eq cmp new rows (i + 1)
names_more name_of eq cmp ties old new rows i row name lt is named updates has other =
    let here : has_name name_of eq other (get_or rows i row) ≡ eq name other = ap (has_name name_of eq other) (sym is) ∙ rw named refl in
    let more : list_any (has_name name_of eq other) (take (i + 1) rows) ≡ (contains cmp old other || eq_by_cmp cmp name other) =
    list_any_more (has_name name_of eq other) rows i row lt ∙ ap (λ b. list_any (has_name name_of eq other) (take i rows) || b) (here ∙ ties name other)
    ∙ ap (λ b. b || eq_by_cmp cmp name other) (sym (has other)) in
    updates.0 other ∙ added (contains cmp old other) (eq_by_cmp cmp name other) ∙ sym more

-- of one row more, which has no name
pub names_same : {Row Name : Type 0} (name_of : Row → Option Name) (eq : Name → Name → Bool) (cmp : Name → Name → Ordering) (seen : BTreeSet Name) (rows : List Row) (i : ℕ) (row : Row)
    → i < length rows → row ≡ get_or rows i row → name_of row ≡ None → HasNames name_of eq cmp seen rows i → HasNames name_of eq cmp seen rows (i + 1)
names_same name_of eq cmp seen rows i row lt is unnamed has other =
    let here : has_name name_of eq other (get_or rows i row) ≡ false = ap (has_name name_of eq other) (sym is) ∙ rw unnamed refl in
    has other ∙ sym (list_any_more (has_name name_of eq other) rows i row lt ∙ ap (λ b. list_any (has_name name_of eq other) (take i rows) || b) here
    ∙ or-false (list_any (has_name name_of eq other) (take i rows)))

-- ---- what is wrong from a row on

-- something is wrong with its name
pub wrong_here : {Row Name : Type 0} (name_of : Row → Option Name) (eq : Name → Name → Bool) (is_no_name : Name → Bool) (fault : Name → TableFault) (rows : List Row) (i : ℕ) (row : Row) (name : Name)
    → i < length rows → row ≡ get_or rows i row → name_of row ≡ Some name → (is_no_name name || list_any (has_name name_of eq name) (take i rows)) ≡ true
    → twice_from (twice_by name_of eq is_no_name fault) rows i ≡ Some (fault name)
wrong_here {Row = Row} name_of eq is_no_name fault rows i row name lt is named wrong =
    let twice : List Row → Row → Option TableFault = twice_by name_of eq is_no_name fault in
    let here : twice (take i rows) row ≡ Some (fault name) = rw (named, wrong) refl in
    twice_from_next twice rows i row lt (sym is) ∙ ap (λ o. option_or o (twice_from twice rows (i + 1))) here

-- nothing is wrong with its name
pub sound_here : {Row Name : Type 0} (name_of : Row → Option Name) (eq : Name → Name → Bool) (is_no_name : Name → Bool) (fault : Name → TableFault) (rows : List Row) (i : ℕ) (row : Row) (name : Name)
    → i < length rows → row ≡ get_or rows i row → name_of row ≡ Some name → (is_no_name name || list_any (has_name name_of eq name) (take i rows)) ≡ false
    → twice_from (twice_by name_of eq is_no_name fault) rows i ≡ twice_from (twice_by name_of eq is_no_name fault) rows (i + 1)
sound_here {Row = Row} name_of eq is_no_name fault rows i row name lt is named sound =
    let twice : List Row → Row → Option TableFault = twice_by name_of eq is_no_name fault in
    let here : twice (take i rows) row ≡ None = rw (named, sound) refl in
    twice_from_next twice rows i row lt (sym is) ∙ ap (λ o. option_or o (twice_from twice rows (i + 1))) here

-- it has no name
pub unnamed_here : {Row Name : Type 0} (name_of : Row → Option Name) (eq : Name → Name → Bool) (is_no_name : Name → Bool) (fault : Name → TableFault) (rows : List Row) (i : ℕ) (row : Row)
    → i < length rows → row ≡ get_or rows i row → name_of row ≡ None
    → twice_from (twice_by name_of eq is_no_name fault) rows i ≡ twice_from (twice_by name_of eq is_no_name fault) rows (i + 1)
unnamed_here {Row = Row} name_of eq is_no_name fault rows i row lt is unnamed =
    let twice : List Row → Row → Option TableFault = twice_by name_of eq is_no_name fault in
    let here : twice (take i rows) row ≡ None = rw unnamed refl in
    twice_from_next twice rows i row lt (sym is) ∙ ap (λ o. option_or o (twice_from twice rows (i + 1))) here

-- a name was in the set where it wasn't added
pub was_there : (added there : Bool) → added ≡ not there → added ≡ false → there ≡ true
was_there added true is not_added = refl
was_there added false is not_added = absurd cc

pub was_new : (added there : Bool) → added ≡ not there → added ≡ true → there ≡ false
was_new added true is was_added = absurd cc
was_new added false is was_added = refl
