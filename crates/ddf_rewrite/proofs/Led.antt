-- What a disk holds after a recovery: of each element the record of the leader that holds it.
use Rattle.std.proofs.Common.{◌≡◌, ℕ, Bool, true, false, List, [], ◌∷◌, map, Option, Some, None, refl, ap, sym, ◌∙◌, subst}
use Rattle.std.proofs.lemmas.Bool.{and_parts, false≢true}
use Rattle.std.specs.Prelude.{filter_map, nat_eq}
use Rattle.std.specs.Str.{bytes_eq}
use Rattle.std.specs.List.{AllByRecursion, IsDistinct, cons_option}
use Rattle.ddf_lemmas.proofs.Lists.{found_place}
use Rattle.ddf_header.specs.declared.geometry.Geometry.{Geometry}
use Rattle.ddf_config_records.specs.ElementValue.{ElementValue}
use Rattle.ddf_copy.specs.declared.copy.DiskCopy.{DiskCopy}
use Rattle.ddf_config.specs.Configuration.{Configuration}
use Rattle.ddf_view.specs.View.{HeldRecord, find_held, is_element}
use Rattle.ddf_view.proofs.Tests.{same_bytes}
use Rattle.ddf_rewrite.specs.Before.{Before, leading_record}
use Rattle.ddf_rewrite.specs.Copies.{element_item, is_copied_on, own_record, recovered_holding, recovered_holdings}
use Rattle.ddf_rewrite.specs.Elements.{recovered_record}
use Rattle.ddf_rewrite.specs.Notes.{Holding}
use Rattle.ddf_rewrite.specs.Placement.{is_item}
use Rattle.ddf_rewrite.specs.Readable.{HasOwnNames}
use Rattle.ddf_rewrite.specs.Wanted.{Wanted, all_wanted}
use Rattle.ddf_rewrite.specs.declared.item.Item.TheVariants as kinds
use Rattle.ddf_rewrite.specs.declared.item.Item.{Item}
use Rattle.ddf_rewrite.proofs.AllWanted.{filter_map_get, wanted_item}
use Rattle.ddf_rewrite.proofs.Holdings.{AreSame}
use Rattle.ddf_rewrite.proofs.Listed.{leading_held}
use Rattle.ddf_rewrite.proofs.Made.{AreApart}
use Rattle.ddf_rewrite.proofs.ReadCan.{found_named}

-- ---- a record

-- It says what the leader's says.
pub led_same : (geometry : Geometry) (own : Option HeldRecord) (leader : ElementValue) → AreSame leader (recovered_record geometry own leader)
unfolding recovered_record
led_same geometry None leader =
    record { array = refl; sequence = refl; strip = refl; level = refl; qualifier = refl; count = refl; index = refl; secondary = refl; blocks = refl; size = refl; spares = refl; members = refl }
led_same geometry (Some own) leader =
    record { array = refl; sequence = refl; strip = refl; level = refl; qualifier = refl; count = refl; index = refl; secondary = refl; blocks = refl; size = refl; spares = refl; members = refl }

-- ---- a holding

-- a holding is of its element, with the leader's record
pub record IsLed (old : DiskCopy) (leaders : Before) (wanted : Wanted) (holding : Holding) : Type 0 where
  pub leader : HeldRecord
  pub leads : leading_record leaders wanted.guid wanted.index ≡ Some leader
  pub found : find_held wanted.guid wanted.index leaders.elements ≡ Some leader
  pub wanted_is : holding.wanted ≡ wanted
  pub element_is : holding.element ≡ recovered_record old.header.geometry (own_record old wanted) leader.element
  pub own_only : leaders.noted ≡ false → holding.copied ≡ false

-- what a recovery makes of an element
pub is_led : (old : DiskCopy) (leaders : Before) (wanted : Wanted) (holding : Holding) → recovered_holding old leaders wanted ≡ Some holding → IsLed old leaders wanted holding
is_led old leaders wanted holding h = go (leading_record leaders wanted.guid wanted.index) refl leaders.noted refl (is_copied_on old.disk_data.reference wanted) refl h
  where
    make : HeldRecord → Bool → Holding
    make leader copied = record { wanted = wanted; copied = copied; element = recovered_record old.header.geometry (own_record old wanted) leader.element }

    some : (leader : HeldRecord) (copied : Bool) → Some (make leader copied) ≡ Some holding → make leader copied ≡ holding
    some leader copied h = cc

    parts : (leader : HeldRecord) (noted copied : Bool) → leaders.noted ≡ noted → (noted ≡ false → copied ≡ false) → leading_record leaders wanted.guid wanted.index ≡ Some leader → make leader copied ≡ holding → IsLed old leaders wanted holding
    parts leader noted copied n c at same = record {
      leader = leader;
      leads = at;
      found = leading_held leaders wanted.guid wanted.index leader at;
      wanted_is = sym (ap (λ (x : Holding). x.wanted) same);
      element_is = sym (ap (λ (x : Holding). x.element) same);
      own_only = λ no. sym (ap (λ (x : Holding). x.copied) same) ∙ c (sym n ∙ no);
    }

    go : (o : Option HeldRecord) → leading_record leaders wanted.guid wanted.index ≡ o → (noted : Bool) → leaders.noted ≡ noted → (copied : Bool) → is_copied_on old.disk_data.reference wanted ≡ copied → recovered_holding old leaders wanted ≡ Some holding
        → IsLed old leaders wanted holding
    go None e true n copied c h = absurd (let none : None ≡ Some holding = rw (e, n) at h in cc)
    go None e false n true c h = absurd (let none : None ≡ Some holding = rw (e, n, c) at h in cc)
    go None e false n false c h = absurd (let none : None ≡ Some holding = rw (e, n, c) at h in cc)
    go (Some leader) e true n copied c h = parts leader true copied n (λ no. absurd (false≢true (sym no))) e (some leader copied (rw (e, n, c) at h))
    go (Some leader) e false n true c h = absurd (let none : None ≡ Some holding = rw (e, n, c) at h in cc)
    go (Some leader) e false n false c h = parts leader false false n (λ no. refl) e (some leader false (rw (e, n, c) at h))

-- Where there are notes an element that a leader holds is held.
pub led_noted : (old : DiskCopy) (leaders : Before) (wanted : Wanted) (leader : HeldRecord) → leaders.noted ≡ true → leading_record leaders wanted.guid wanted.index ≡ Some leader
    → (holding : Holding) × (recovered_holding old leaders wanted ≡ Some holding)
led_noted old leaders wanted leader noted at =
    (record { wanted = wanted; copied = is_copied_on old.disk_data.reference wanted; element = recovered_record old.header.geometry (own_record old wanted) leader.element }, rw (noted, at) refl)

-- ---- all of them

-- items that are left of some that differ do so
left_apart : (f : Wanted → Option Holding) → ((wanted : Wanted) (holding : Holding) → f wanted ≡ Some holding → holding.wanted ≡ wanted) → (x : Item) (all : List Wanted)
    → AllByRecursion (λ y. is_item x y ≡ false) (map wanted_item all) → AllByRecursion (λ y. is_item x y ≡ false) (map element_item (filter_map f all))
left_apart f is x [] all = tt
left_apart f is x (wanted ∷ rest) all = go (left_apart f is x rest all.1) (f wanted) refl
  where
    go : AllByRecursion (λ y. is_item x y ≡ false) (map element_item (filter_map f rest)) → (o : Option Holding) → f wanted ≡ o
        → AllByRecursion (λ y. is_item x y ≡ false) (map element_item (cons_option o (filter_map f rest)))
    go later None e = later
    go later (Some holding) e = (subst (λ (w : Wanted). is_item x (kinds.Element w.guid w.index) ≡ false) (sym (is wanted holding e)) all.0, later)

-- and so do all that are left
left_differ : (f : Wanted → Option Holding) → ((wanted : Wanted) (holding : Holding) → f wanted ≡ Some holding → holding.wanted ≡ wanted) → (all : List Wanted)
    → IsDistinct is_item (map wanted_item all) → IsDistinct is_item (map element_item (filter_map f all))
unfolding IsDistinct
left_differ f is [] differ = tt
left_differ f is (wanted ∷ rest) differ = go (left_differ f is rest differ.1) (f wanted) refl
  where
    go : IsDistinct is_item (map element_item (filter_map f rest)) → (o : Option Holding) → f wanted ≡ o
        → IsDistinct is_item (map element_item (cons_option o (filter_map f rest)))
    go later None e = later
    go later (Some holding) e =
        let first = left_apart f is (kinds.Element wanted.guid wanted.index) rest differ.0 in
        (subst (λ (w : Wanted). AllByRecursion (λ y. is_item (kinds.Element w.guid w.index) y ≡ false) (map element_item (filter_map f rest))) (sym (is wanted holding e)) first, later)

-- the array of what is found
found_array : (array : List ℕ) (index : ℕ) (elements : List HeldRecord) (held : HeldRecord) → find_held array index elements ≡ Some held → held.element.array ≡ array
found_array array index elements held h = same_bytes held.element.array array (and_parts (bytes_eq held.element.array array) (nat_eq held.element.index index) (found_place (is_element array index) elements held h).2).0

-- No two holdings are of one element.
pub led_apart : (old : DiskCopy) (leaders : Before) (config : Configuration) → HasOwnNames config → AreApart (recovered_holdings old leaders config)
unfolding recovered_holdings
led_apart old leaders config names = record {
  differ = left_differ (recovered_holding old leaders) (λ wanted holding made. (is_led old leaders wanted holding made).wanted_is) (all_wanted config) names.elements;
  array_is = λ n holding at.
      let from = filter_map_get (recovered_holding old leaders) (all_wanted config) n holding at in
      let led = is_led old leaders from.1 holding from.3 in
      ap (λ (x : ElementValue). x.array) led.element_is ∙ sym (led_same old.header.geometry (own_record old from.1) led.leader.element).array
      ∙ found_array from.1.guid from.1.index leaders.elements led.leader led.found ∙ ap (λ (w : Wanted). w.guid) (sym led.wanted_is);
  index_is = λ n holding at.
      let from = filter_map_get (recovered_holding old leaders) (all_wanted config) n holding at in
      let led = is_led old leaders from.1 holding from.3 in
      ap (λ (x : ElementValue). x.index) led.element_is ∙ sym (led_same old.header.geometry (own_record old from.1) led.leader.element).index
      ∙ found_named from.1.guid from.1.index leaders.elements led.leader led.found ∙ ap (λ (w : Wanted). w.index) (sym led.wanted_is);
}
