-- The associated spares of an element after a change tell which members are spares of its array.
use Rattle.std.proofs.Common.{◌≡◌, ℕ, zero, suc, Bool, true, false, not, ◌&&◌, ◌||◌, cond, eqb, List, [], ◌∷◌, map, replicate, Option, Some, None, refl, ap, sym, ◌∙◌, ⊎_elim}
use Rattle.std.proofs.lemmas.Bool.{and_parts, or_parts, or_from, eqb-true, eqb-false, eq-eqb, ne_eqb, false≢true, cases_eq, cond-true, or_right}
use Rattle.std.specs.Prelude.{slice_get, filter, fold, is_some, nat_eq}
use Rattle.std.specs.Option.{option_map_or}
use Rattle.std.specs.List.{list_all}
use Rattle.ddf_header.specs.declared.geometry.Geometry.{Geometry}
use Rattle.ddf_header.specs.declared.kind.Revision.{Revision}
use Rattle.ddf_config_records.specs.ElementValue.{ElementValue}
use Rattle.std.specs.Map.{lookup}
use Rattle.ddf_config.specs.Configuration.{Configuration}
use Rattle.ddf_config.specs.declared.member.Member.{Member}
use Rattle.ddf_view.specs.Differ.{same_record}
use Rattle.ddf_view.specs.View.{HeldRecord}
use Rattle.ddf_rewrite.specs.Elements.{add_spare, altered, changed_record, contains, has_places, is_spare_for, keeping, kept_spare, no_reference, planned, spares_after, spares_of, with_spare}
use Rattle.ddf_rewrite.specs.Readable.{HasSpares}
use Rattle.ddf_rewrite.specs.Wanted.{Wanted}
use Rattle.ddf_rewrite.proofs.Holdings.{are_same}

-- ---- associated spares

kept_other : (config : Configuration) (dedicated : List ℕ) (r x : ℕ) → is_some (lookup (nat_eq r) config.members) ≡ true → contains dedicated r ≡ false → eqb r no_reference ≡ false → eqb (kept_spare config dedicated x) r ≡ false
kept_other config dedicated r x member away named = ⊎_elim (λ (same : x ≡ r).
    let both : (is_some (lookup (nat_eq r) config.members) && not (contains dedicated r)) ≡ true = rw (member, away) refl in
    let kept : kept_spare config dedicated r ≡ no_reference = cond-true (is_some (lookup (nat_eq r) config.members) && not (contains dedicated r)) no_reference r both in
    ap (λ (y : ℕ). eqb (kept_spare config dedicated y) r) same ∙ ap (λ (y : ℕ). eqb y r) kept ∙ ne_eqb no_reference r (λ e. eqb-false r no_reference named (sym e)))
    (λ (apart : x ≡ r → ⊥). go (is_some (lookup (nat_eq x) config.members) && not (contains dedicated x)) apart)
    (cases_eq x r)
  where
    go : (b : Bool) → (x ≡ r → ⊥) → eqb (cond b no_reference x) r ≡ false
    go true apart = ne_eqb no_reference r (λ e. eqb-false r no_reference named (sym e))
    go false apart = ne_eqb x r apart

kept_none : (config : Configuration) (dedicated : List ℕ) (r : ℕ) (spares : List ℕ) → is_some (lookup (nat_eq r) config.members) ≡ true → contains dedicated r ≡ false → eqb r no_reference ≡ false → contains (map (kept_spare config dedicated) spares) r ≡ false
kept_none config dedicated r [] member away named = refl
kept_none config dedicated r (x ∷ spares) member away named =
    let first = kept_other config dedicated r x member away named in
    let rest = kept_none config dedicated r spares member away named in
    or_from (eqb (kept_spare config dedicated x) r) (contains (map (kept_spare config dedicated) spares) r) first rest

with_none : (places : List ℕ) (x r : ℕ) → eqb x r ≡ false → contains places r ≡ false → contains (with_spare places x) r ≡ false
with_none [] x r apart h = refl
with_none (place ∷ places) x r apart h =
    let parts = or_parts (eqb place r) (contains places r) h in
    go (eqb place no_reference) parts.0 parts.1 (with_none places x r apart parts.1)
  where
    go : (b : Bool) → eqb place r ≡ false → contains places r ≡ false → contains (with_spare places x) r ≡ false → contains (cond b (x ∷ places) (place ∷ with_spare places x)) r ≡ false
    go true first rest later = or_from (eqb x r) (contains places r) apart rest
    go false first rest later = or_from (eqb place r) (contains (with_spare places x) r) first later

add_none : (places : List ℕ) (x r : ℕ) → eqb x r ≡ false → contains places r ≡ false → contains (add_spare places x) r ≡ false
add_none places x r apart h = go (contains places x)
  where
    go : (b : Bool) → contains (cond b places (with_spare places x)) r ≡ false
    go true = h
    go false = with_none places x r apart h

all_none : (adds places : List ℕ) (r : ℕ) → contains adds r ≡ false → contains places r ≡ false → contains (fold add_spare places adds) r ≡ false
all_none [] places r away h = h
all_none (x ∷ adds) places r away h =
    let parts = or_parts (eqb x r) (contains adds r) away in
    all_none adds (add_spare places x) r parts.1 (add_none places x r parts.0 h)

-- a member that isn't a dedicated spare of the array doesn't stand among them
pub not_associated : (config : Configuration) (array : List ℕ) (spares : List ℕ) (r : ℕ) → is_some (lookup (nat_eq r) config.members) ≡ true → contains (spares_of config array) r ≡ false → eqb r no_reference ≡ false
    → contains (spares_after config array spares) r ≡ false
unfolding spares_after
not_associated config array spares r member away named =
    all_none (spares_of config array) (map (kept_spare config (spares_of config array)) spares) r away (kept_none config (spares_of config array) r spares member away named)

-- each one that is does, where there is room
each_contained : (t : ℕ → Bool) (xs : List ℕ) (r : ℕ) → list_all t xs ≡ true → contains xs r ≡ true → t r ≡ true
each_contained t [] r h k = absurd (false≢true k)
each_contained t (x ∷ xs) r h k =
    let parts = and_parts (t x) (list_all t xs) h in
    go (each_contained t xs r parts.1) parts.0 (eqb x r) refl k
  where
    go : (contains xs r ≡ true → t r ≡ true) → t x ≡ true → (b : Bool) → eqb x r ≡ b → (b || contains xs r) ≡ true → t r ≡ true
    go later first true e k = ap t (sym (eqb-true x r e)) ∙ first
    go later first false e k = later k

pub is_contained : (config : Configuration) (array : List ℕ) (spares : List ℕ) (r : ℕ) → has_places config array spares ≡ true → contains (spares_of config array) r ≡ true → contains (spares_after config array spares) r ≡ true
is_contained config array spares r room is = each_contained (contains (spares_after config array spares)) (spares_of config array) r room is

-- ---- the dedicated spares of an array

member_found : (members : List (ℕ × Member)) (i : ℕ) (entry : ℕ × Member) → slice_get members i ≡ Some entry → is_some (lookup (nat_eq entry.0) members) ≡ true
member_found [] i entry h = absurd cc
member_found (x ∷ members) i entry h = go (λ j at. member_found members j entry at) (nat_eq entry.0 x.0) refl i h
  where
    go : ((j : ℕ) → slice_get members j ≡ Some entry → is_some (lookup (nat_eq entry.0) members) ≡ true) → (b : Bool) → nat_eq entry.0 x.0 ≡ b → (i : ℕ) → slice_get (x ∷ members) i ≡ Some entry → is_some (lookup (nat_eq entry.0) (x ∷ members)) ≡ true
    go later true e i h = rw e refl
    go later false e zero h = let same : x ≡ entry = cc in absurd (false≢true (sym e ∙ eq-eqb entry.0 x.0 (ap (λ (p : ℕ × Member). p.0) (sym same))))
    go later false e (suc i) h = rw e (later i h)

abbrev spares_in : List (ℕ × Member) → List ℕ → List ℕ
spares_in members array = map (λ entry. entry.0) (filter (λ entry. is_spare_for array entry.1.spare) members)

-- a member is among them exactly where it is one
spare_there : (array : List ℕ) (members : List (ℕ × Member)) (i : ℕ) (entry : ℕ × Member) → slice_get members i ≡ Some entry → is_spare_for array entry.1.spare ≡ true → contains (spares_in members array) entry.0 ≡ true
spare_there array [] i entry h is = absurd cc
spare_there array (x ∷ members) zero entry h is =
    let same : x ≡ entry = cc in
    let yes : is_spare_for array x.1.spare ≡ true = ap (λ (p : ℕ × Member). is_spare_for array p.1.spare) same ∙ is in
    let first : eqb x.0 entry.0 ≡ true = eq-eqb x.0 entry.0 (ap (λ (p : ℕ × Member). p.0) same) in
    rw (yes, first) refl
spare_there array (x ∷ members) (suc i) entry h is = go (spare_there array members i entry h is) (is_spare_for array x.1.spare) refl
  where
    go : contains (spares_in members array) entry.0 ≡ true → (b : Bool) → is_spare_for array x.1.spare ≡ b → contains (spares_in (x ∷ members) array) entry.0 ≡ true
    go rest true e = rw e (or_right (eqb x.0 entry.0) (contains (spares_in members array) entry.0) rest)
    go rest false e = rw e rest

spare_not : (array : List ℕ) (members : List (ℕ × Member)) (reference : ℕ) → ((j : ℕ) (other : ℕ × Member) → slice_get members j ≡ Some other → other.0 ≡ reference → is_spare_for array other.1.spare ≡ false) → contains (spares_in members array) reference ≡ false
spare_not array [] reference h = refl
spare_not array (x ∷ members) reference h = go (spare_not array members reference (λ j other at same. h (suc j) other at same)) (is_spare_for array x.1.spare) refl
  where
    go : contains (spares_in members array) reference ≡ false → (b : Bool) → is_spare_for array x.1.spare ≡ b → contains (spares_in (x ∷ members) array) reference ≡ false
    go rest true e = rw e (or_from (eqb x.0 reference) (contains (spares_in members array) reference) (ne_eqb x.0 reference (λ same. false≢true (sym (h 0 x refl same) ∙ e))) rest)
    go rest false e = rw e rest

-- what an associated list tells of a member
pub spares_tell : (config : Configuration) (array spares : List ℕ) (i : ℕ) (entry : ℕ × Member) → HasSpares config → slice_get config.members i ≡ Some entry → has_places config array spares ≡ true
    → contains (spares_after config array spares) entry.0 ≡ is_spare_for array entry.1.spare
spares_tell config array spares i entry has at room = go (is_spare_for array entry.1.spare) refl
  where
    go : (b : Bool) → is_spare_for array entry.1.spare ≡ b → contains (spares_after config array spares) entry.0 ≡ b
    go true e = is_contained config array spares entry.0 room (spare_there array config.members i entry at e)
    go false e = not_associated config array spares entry.0 (member_found config.members i entry at)
        (spare_not array config.members entry.0 (λ j other there same. ap (λ (p : ℕ × Member). is_spare_for array p.1.spare) (has.apart j i other entry there at same) ∙ e)) (has.named i entry at)

-- ---- the associated spares of a record

abbrev pub base_spares : Option HeldRecord → List ℕ
base_spares leader = option_map_or (λ held. held.element.spares) leader (replicate 8 no_reference)

altered_spares : (config : Configuration) (timestamp : ℕ) (wanted : Wanted) (element : ElementValue) → (altered config timestamp wanted element).spares ≡ spares_after config wanted.guid element.spares
unfolding altered
altered_spares config timestamp wanted element = go (same_record element (planned config wanted element)) refl
  where
    go : (b : Bool) → same_record element (planned config wanted element) ≡ b → (cond b element (record (planned config wanted element) { timestamp = timestamp; sequence = config.sequence })).spares ≡ spares_after config wanted.guid element.spares
    go true e = (are_same element (planned config wanted element) e).spares
    go false e = refl

keeping_spares : (own leader element : ElementValue) → (keeping own leader element).spares ≡ element.spares
keeping_spares own leader element = go (same_record own leader)
  where
    go : (b : Bool) → (cond b (record element { block_size = own.block_size; timestamp = cond (same_record leader element) own.timestamp element.timestamp }) element).spares ≡ element.spares
    go true = refl
    go false = refl

pub record_spares : (config : Configuration) (timestamp : ℕ) (geometry : Geometry) (revision : Revision) (own leader : Option HeldRecord) (wanted : Wanted)
    → (changed_record config timestamp geometry revision own leader wanted).spares ≡ spares_after config wanted.guid (base_spares leader)
unfolding changed_record
record_spares config timestamp geometry revision None None wanted = refl
record_spares config timestamp geometry revision (Some own) None wanted = refl
record_spares config timestamp geometry revision None (Some leader) wanted = altered_spares config timestamp wanted leader.element
record_spares config timestamp geometry revision (Some own) (Some leader) wanted =
    keeping_spares own.element leader.element (altered config timestamp wanted leader.element) ∙ altered_spares config timestamp wanted leader.element
