-- What copies can hold of an array, entry by entry, and what keeps it.
use Rattle.std.proofs.Common.{◌≡◌, ℕ, zero, suc, ◌+◌, ◌^◌, ◌<◌, ◌≤◌, Bool, true, false, not, ◌&&◌, cond, eqb, List, [], ◌∷◌, length, map, find, Option, Some, None, is_some, nat_lt, refl, sym, ap, subst, ◌∙◌, arith}
use Rattle.std.proofs.lemmas.Bool.{false≢true}
use Rattle.std.proofs.lemmas.List.{length-map}
use Rattle.std.specs.Prelude.{slice_get}
use Rattle.std.specs.List.{AllByRecursion, enumerate_from}
use Rattle.ddf_lemmas.proofs.Lists.{all_from, in_map}
use Rattle.ddf_config_records.specs.Elements.{has_no_strip}
use Rattle.ddf_config.specs.declared.element.Position.{Position}
use Rattle.ddf_config.specs.declared.array.Array.{Array}
use Rattle.ddf_config.specs.ElementValue.{ElementValue as ElementPlan, with_disks, with_positions}
use Rattle.ddf_config.specs.Configuration.{Configuration}
use Rattle.ddf_view.specs.Readable.{IsReadable}
use Rattle.ddf_rewrite.specs.Hold.{FitsArray, FitsPlan, FitsPosition, IsHoldable}
use Rattle.ddf_rewrite.specs.Readable.{AreRebuilt, OneRebuilt}
use Rattle.ddf_rewrite.specs.Wanted.{Wanted, all_wanted}
use Rattle.ddf_rewrite.proofs.AllWanted.{is_wanted, wanted_place}
use Rattle.ddf_rewrite.proofs.Lists.{all_at}

-- ---- an entry

pub record IsHeldPlan (most elements : ℕ) (plan : ElementPlan) : Type 0 where
  pub some : 0 < length plan.positions
  pub allowed : length plan.positions ≤ most
  pub few : length plan.positions ≤ 64
  pub strip : plan.strip < 2 ^ 8
  pub has_strip : (nat_lt 31 plan.strip && not (has_no_strip plan.level elements)) ≡ false
  pub level : plan.level < 2 ^ 8
  pub qualifier : plan.qualifier < 2 ^ 8
  pub blocks : plan.blocks < 2 ^ 64
  pub stand_in : plan.stand_in < 2 ^ 32
  pub positions : AllByRecursion FitsPosition plan.positions
  pub rebuilt : OneRebuilt plan

abbrev pub ArePlansHeld : (most elements : ℕ) → List (Option ElementPlan) → Type 0
ArePlansHeld most elements parts = (index : ℕ) (plan : ElementPlan) → slice_get parts index ≡ Some (Some plan) → IsHeldPlan most elements plan

pub record IsHeldEntry (most : ℕ) (entry : List ℕ × Array) : Type 0 where
  pub fits : FitsArray entry
  pub readable : IsReadable entry.1
  pub plans : ArePlansHeld most (length entry.1.elements) entry.1.elements

held_plan : (most : ℕ) (wanted : Wanted) → FitsPlan most wanted → OneRebuilt wanted.plan → IsHeldPlan most (length wanted.array.elements) wanted.plan
held_plan most wanted is rebuilt = record {
  some = is.some;
  allowed = is.allowed;
  few = is.few;
  strip = is.strip;
  has_strip = is.has_strip;
  level = is.level;
  qualifier = is.qualifier;
  blocks = is.blocks;
  stand_in = is.stand_in;
  positions = is.positions;
  rebuilt = rebuilt;
}

fits_plan : (most : ℕ) (wanted : Wanted) → IsHeldPlan most (length wanted.array.elements) wanted.plan → FitsPlan most wanted
fits_plan most wanted is = record {
  some = is.some;
  allowed = is.allowed;
  few = is.few;
  strip = is.strip;
  has_strip = is.has_strip;
  level = is.level;
  qualifier = is.qualifier;
  blocks = is.blocks;
  stand_in = is.stand_in;
  positions = is.positions;
}

pub entries_held : (most : ℕ) (config : Configuration) → IsHoldable most config → AllByRecursion (IsHeldEntry most) config.arrays
entries_held most config can = all_from (IsHeldEntry most) config.arrays (λ a entry at. record {
  fits = all_at FitsArray config.arrays a entry can.can_hold.arrays at;
  readable = all_at (λ (one : List ℕ × Array). IsReadable one.1) config.arrays a entry can.readable at;
  plans = λ index plan there.
      let found = is_wanted config a index entry plan at there in
      let wanted : Wanted = record { guid = entry.0; array = entry.1; index = index; plan = plan } in
      held_plan most wanted (can.can_hold.plans found.0 wanted found.1) (can.rebuilt found.0 wanted found.1);
})

plan_at : (most : ℕ) (config : Configuration) → AllByRecursion (IsHeldEntry most) config.arrays → (n : ℕ) (wanted : Wanted) → slice_get (all_wanted config) n ≡ Some wanted
    → IsHeldPlan most (length wanted.array.elements) wanted.plan
plan_at most config all n wanted at =
    let of = wanted_place config n wanted at in
    let held = all_at (IsHeldEntry most) config.arrays of.a of.entry all of.at in
    subst (λ (array : Array). IsHeldPlan most (length array.elements) wanted.plan) (sym of.array_is) (held.plans wanted.index wanted.plan of.there)

pub plans_held : (most : ℕ) (config : Configuration) → AllByRecursion (IsHeldEntry most) config.arrays → (n : ℕ) (wanted : Wanted) → slice_get (all_wanted config) n ≡ Some wanted → FitsPlan most wanted
plans_held most config all n wanted at = fits_plan most wanted (plan_at most config all n wanted at)

pub entries_rebuilt : (most : ℕ) (config : Configuration) → AllByRecursion (IsHeldEntry most) config.arrays → AreRebuilt config
entries_rebuilt most config all n wanted at = (plan_at most config all n wanted at).rebuilt

pub entries_readable : (most : ℕ) (entries : List (List ℕ × Array)) → AllByRecursion (IsHeldEntry most) entries → AllByRecursion (λ (one : List ℕ × Array). IsReadable one.1) entries
entries_readable most [] all = tt
entries_readable most (entry ∷ entries) all = (all.0.readable, entries_readable most entries all.1)

pub entries_fit : (most : ℕ) (entries : List (List ℕ × Array)) → AllByRecursion (IsHeldEntry most) entries → AllByRecursion FitsArray entries
entries_fit most [] all = tt
entries_fit most (entry ∷ entries) all = (all.0.fits, entries_fit most entries all.1)

-- ---- positions

-- A position stays on its disk at its start, and no row of it is rebuilt that wasn't.
pub record KeepsPositions (f : Position → Position) : Type 0 where
  pub fits : (position : Position) → FitsPosition position → FitsPosition (f position)
  pub no_row : (position : Position) → eqb (f position).row 0 ≡ false → eqb position.row 0 ≡ false

mapped_fit : (f : Position → Position) → KeepsPositions f → (positions : List Position) → AllByRecursion FitsPosition positions → AllByRecursion FitsPosition (map f positions)
mapped_fit f keeps [] all = tt
mapped_fit f keeps (position ∷ positions) all = (keeps.fits position all.0, mapped_fit f keeps positions all.1)

mapped_rebuilt : (f : Position → Position) → KeepsPositions f → (plan : ElementPlan) → OneRebuilt plan → OneRebuilt (with_positions plan (map f plan.positions))
mapped_rebuilt f keeps plan one i j first second at also h k =
    let from = in_map f plan.positions i first at in
    let other = in_map f plan.positions j second also in
    one i j from.0 other.0 from.1 other.1
    (keeps.no_row from.0 (ap (λ (p : Position). eqb p.row 0) from.2 ∙ h))
    (keeps.no_row other.0 (ap (λ (p : Position). eqb p.row 0) other.2 ∙ k))

-- a plan on other disks
pub moved_held : (f : Position → Position) → KeepsPositions f → (most elements : ℕ) (plan : ElementPlan) (stand_in : ℕ) → stand_in < 2 ^ 32 → IsHeldPlan most elements plan
    → IsHeldPlan most elements (with_disks plan stand_in (map f plan.positions))
moved_held f keeps most elements plan stand_in small is =
    let same = length-map plan.positions f in
    record {
      some = omega (arith, same, is.some);
      allowed = omega (arith, same, is.allowed);
      few = omega (arith, same, is.few);
      strip = is.strip;
      has_strip = is.has_strip;
      level = is.level;
      qualifier = is.qualifier;
      blocks = is.blocks;
      stand_in = small;
      positions = mapped_fit f keeps plan.positions is.positions;
      rebuilt = mapped_rebuilt f keeps plan is.rebuilt;
    }

pub mapped_held : (f : Position → Position) → KeepsPositions f → (most elements : ℕ) (plan : ElementPlan) → IsHeldPlan most elements plan → IsHeldPlan most elements (with_positions plan (map f plan.positions))
mapped_held f keeps most elements plan is = moved_held f keeps most elements plan plan.stand_in is.stand_in is

-- ---- elements

-- An unknown element stays unknown, and one that can be held stays so.
pub record KeepsPlans (k : Option ElementPlan → Option ElementPlan) : Type 0 where
  pub none : k None ≡ None
  pub some : (plan : ElementPlan) → (next : ElementPlan) × (k (Some plan) ≡ Some next) × ((most elements : ℕ) → IsHeldPlan most elements plan → IsHeldPlan most elements next)

module _ (k : Option ElementPlan → Option ElementPlan) (keeps : KeepsPlans k) where
  pub still_there : (parts : List (Option ElementPlan)) (index : ℕ) (plan : ElementPlan) → slice_get parts index ≡ Some (Some plan)
      → (next : ElementPlan) × (slice_get (map k parts) index ≡ Some (Some next))
  still_there [] index plan at = absurd cc
  still_there (part ∷ parts) zero plan at =
      let same : part ≡ Some plan = cc in
      let next = keeps.some plan in
      (next.0, ap (λ (p : Option ElementPlan). Some (k p)) same ∙ ap (λ (p : Option ElementPlan). Some p) next.1)
  still_there (part ∷ parts) (suc index) plan at = still_there parts index plan at

  from_there : (part : Option ElementPlan) (next : ElementPlan) → k part ≡ Some next → (plan : ElementPlan) × (part ≡ Some plan) × ((most elements : ℕ) → IsHeldPlan most elements plan → IsHeldPlan most elements next)
  from_there None next is = absurd (let no : None ≡ Some next = sym keeps.none ∙ is in cc)
  from_there (Some plan) next is =
      let given = keeps.some plan in
      let same : given.0 ≡ next = let both : Some given.0 ≡ Some next = sym given.1 ∙ is in cc in
      (plan, refl, λ most elements held. subst (IsHeldPlan most elements) same (given.2 most elements held))

  parts_held : (most elements : ℕ) (parts : List (Option ElementPlan)) → ArePlansHeld most elements parts → ArePlansHeld most elements (map k parts)
  parts_held most elements parts all index next at =
      let from = in_map k parts index (Some next) at in
      let plan = from_there from.0 next from.2 in
      plan.2 most elements (all index plan.0 (from.1 ∙ ap (λ (p : Option ElementPlan). Some p) plan.1))

  none_before : (part : Option ElementPlan) → is_some (k part) ≡ is_some part
  none_before None = ap (λ (p : Option ElementPlan). is_some p) keeps.none
  none_before (Some plan) = ap (λ (p : Option ElementPlan). is_some p) (keeps.some plan).1

  least_before : (n : ℕ) (parts : List (Option ElementPlan)) → find (λ pair. is_some pair.1) (enumerate_from n (map k parts)) ≡ None → find (λ pair. is_some pair.1) (enumerate_from n parts) ≡ None
  least_before n [] h = refl
  least_before n (part ∷ parts) h = by (is_some part) (is_some (k part)) (none_before part) (least_before (n + 1) parts) h
    where
      by : (a b : Bool) → b ≡ a → (find (λ pair. is_some pair.1) (enumerate_from (n + 1) (map k parts)) ≡ None → find (λ pair. is_some pair.1) (enumerate_from (n + 1) parts) ≡ None)
          → cond b (Some (n, k part)) (find (λ pair. is_some pair.1) (enumerate_from (n + 1) (map k parts))) ≡ None → cond a (Some (n, part)) (find (λ pair. is_some pair.1) (enumerate_from (n + 1) parts)) ≡ None
      by true true e rest h = absurd cc
      by true false e rest h = absurd (false≢true e)
      by false true e rest h = absurd (false≢true (sym e))
      by false false e rest h = rest h

  pub parts_readable : (array : Array) → IsReadable array → IsReadable (record array { elements = map k array.elements })
  parts_readable array is = record {
    few = let same = length-map array.elements k in omega (arith, same, is.few);
    alone = λ h. ap (map k) (is.alone (least_before 0 array.elements h)) ∙ ap (λ (p : Option ElementPlan). p ∷ []) keeps.none;
    plain = λ h. is.plain (least_before 0 array.elements h);
  }

  pub entry_kept : (most : ℕ) (guid : List ℕ) (array : Array) → IsHeldEntry most (guid, array) → IsHeldEntry most (guid, record array { elements = map k array.elements })
  entry_kept most guid array is = record {
    fits = record {
      guid = is.fits.guid;
      used = is.fits.used;
      number = is.fits.number;
      state = is.fits.state;
      init = is.fits.init;
      name = is.fits.name;
      secondary = is.fits.secondary;
    };
    readable = parts_readable array is.readable;
    plans = λ index plan at. subst (λ (n : ℕ). IsHeldPlan most n plan) (sym (length-map array.elements k)) (parts_held most (length array.elements) array.elements is.plans index plan at);
  }

-- ---- elements that become others, one by one

-- An unknown element stays unknown. One that is known stays known, and can be held where it could.
abbrev pub IsPartKept : Option ElementPlan → Option ElementPlan → Type 0
IsPartKept None None = Unit {0}
IsPartKept None (Some next) = ⊥
IsPartKept (Some plan) None = ⊥
IsPartKept (Some plan) (Some next) = (most elements : ℕ) → IsHeldPlan most elements plan → IsHeldPlan most elements next

abbrev pub ArePartsKept : List (Option ElementPlan) → List (Option ElementPlan) → Type 0
ArePartsKept [] [] = Unit {0}
ArePartsKept [] (next ∷ nexts) = ⊥
ArePartsKept (part ∷ parts) [] = ⊥
ArePartsKept (part ∷ parts) (next ∷ nexts) = IsPartKept part next × ArePartsKept parts nexts

kept_length : (parts nexts : List (Option ElementPlan)) → ArePartsKept parts nexts → length nexts ≡ length parts
kept_length [] [] are = refl
kept_length [] (next ∷ nexts) are = absurd are
kept_length (part ∷ parts) [] are = absurd are
kept_length (part ∷ parts) (next ∷ nexts) are = ap suc (kept_length parts nexts are.1)

pub kept_there : (parts nexts : List (Option ElementPlan)) → ArePartsKept parts nexts → (index : ℕ) (plan : ElementPlan) → slice_get parts index ≡ Some (Some plan)
    → (next : ElementPlan) × (slice_get nexts index ≡ Some (Some next))
kept_there [] nexts are index plan at = absurd cc
kept_there (part ∷ parts) [] are index plan at = absurd are
kept_there (part ∷ parts) (next ∷ nexts) are zero plan at = by part next are.0 (let same : part ≡ Some plan = cc in same)
  where
    by : (one other : Option ElementPlan) → IsPartKept one other → one ≡ Some plan → (k : ElementPlan) × (slice_get (other ∷ nexts) 0 ≡ Some (Some k))
    by None None is e = absurd cc
    by None (Some k) is e = absurd is
    by (Some one) None is e = absurd is
    by (Some one) (Some k) is e = (k, refl)
kept_there (part ∷ parts) (next ∷ nexts) are (suc index) plan at = kept_there parts nexts are.1 index plan at

kept_held : (most elements : ℕ) (parts nexts : List (Option ElementPlan)) → ArePartsKept parts nexts → ArePlansHeld most elements parts → ArePlansHeld most elements nexts
kept_held most elements parts [] are all index next at = absurd cc
kept_held most elements [] (other ∷ nexts) are all index next at = absurd are
kept_held most elements (part ∷ parts) (other ∷ nexts) are all zero next at = by part other are.0 (all 0) (let same : other ≡ Some next = cc in same)
  where
    by : (one k : Option ElementPlan) → IsPartKept one k → ((plan : ElementPlan) → Some one ≡ Some (Some plan) → IsHeldPlan most elements plan) → k ≡ Some next → IsHeldPlan most elements next
    by None None is held e = absurd cc
    by None (Some k) is held e = absurd is
    by (Some one) None is held e = absurd is
    by (Some one) (Some k) is held e = let same : k ≡ next = cc in subst (IsHeldPlan most elements) same (is most elements (held one refl))
kept_held most elements (part ∷ parts) (other ∷ nexts) are all (suc index) next at = kept_held most elements parts nexts are.1 (λ i plan there. all (suc i) plan there) index next at

kept_least : (n : ℕ) (parts nexts : List (Option ElementPlan)) → ArePartsKept parts nexts → find (λ pair. is_some pair.1) (enumerate_from n nexts) ≡ None → find (λ pair. is_some pair.1) (enumerate_from n parts) ≡ None
kept_least n [] nexts are h = refl
kept_least n (part ∷ parts) [] are h = absurd are
kept_least n (None ∷ parts) (None ∷ nexts) are h = kept_least (n + 1) parts nexts are.1 h
kept_least n (None ∷ parts) (Some next ∷ nexts) are h = absurd are.0
kept_least n (Some plan ∷ parts) (None ∷ nexts) are h = absurd are.0
kept_least n (Some plan ∷ parts) (Some next ∷ nexts) are h = absurd cc

kept_alone : (parts nexts : List (Option ElementPlan)) → ArePartsKept parts nexts → parts ≡ None ∷ [] → nexts ≡ None ∷ []
kept_alone [] nexts are h = absurd cc
kept_alone (part ∷ parts) [] are h = absurd are
kept_alone (None ∷ []) (None ∷ []) are h = refl
kept_alone (None ∷ []) (None ∷ next ∷ nexts) are h = absurd are.1
kept_alone (None ∷ other ∷ parts) (next ∷ nexts) are h = absurd cc
kept_alone (None ∷ []) (Some next ∷ nexts) are h = absurd are.0
kept_alone (Some plan ∷ parts) (next ∷ nexts) are h = absurd cc

-- an array with these elements
pub entry_with : (most : ℕ) (guid : List ℕ) (array : Array) (nexts : List (Option ElementPlan)) → ArePartsKept array.elements nexts → IsHeldEntry most (guid, array) → IsHeldEntry most (guid, record array { elements = nexts })
entry_with most guid array nexts are is = record {
  fits = record {
    guid = is.fits.guid;
    used = is.fits.used;
    number = is.fits.number;
    state = is.fits.state;
    init = is.fits.init;
    name = is.fits.name;
    secondary = is.fits.secondary;
  };
  readable = record {
    few = let same = kept_length array.elements nexts are in omega (arith, same, is.readable.few);
    alone = λ h. kept_alone array.elements nexts are (is.readable.alone (kept_least 0 array.elements nexts are h));
    plain = λ h. is.readable.plain (kept_least 0 array.elements nexts are h);
  };
  plans = subst (λ (n : ℕ). ArePlansHeld most n nexts) (sym (kept_length array.elements nexts are)) (kept_held most (length array.elements) array.elements nexts are is.plans);
}
