-- Each configuration of an exercise can be written and read.
use Rattle.std.proofs.Common.{◌≡◌, ◌∙◌, ℕ, Bool, true, false, not, List, [], ◌∷◌, Some, nat_eq, refl, ap, sym, subst, zero, suc, slice_get, lit≤}
use Rattle.std.specs.Map.{lookup}
use Rattle.ddf_config.specs.declared.array.Array.{Array}
use Rattle.ddf_config.specs.declared.element.Position.{Position}
use Rattle.ddf_config.specs.declared.member.Member.{Member}
use Rattle.ddf_config.specs.declared.member.SpareUse.{SpareUse}
use Rattle.ddf_config.specs.Configuration.{Configuration}
use Rattle.ddf_config.specs.Members.{is_current}
use Rattle.std.proofs.lemmas.Bool.{false≢true}
use Rattle.std.specs.Prelude.{◌==◌}
use Rattle.std.specs.List.{IsDistinct}
use Rattle.ddf_lemmas.proofs.Lists.{bytes_same}
use Rattle.ddf_config.specs.declared.member.SpareUse.TheVariants as uses
use Rattle.ddf_history.specs.Groups.{has_current}
use Rattle.ddf_rewrite.specs.Elements.{is_spare_for, no_reference}
use Rattle.ddf_rewrite.specs.Readable.{AreRebuilt, HasOwnNames, HasSpares, OneRebuilt}
use Rattle.ddf_rewrite.specs.Wanted.{Wanted, all_wanted}
use Rattle.ddf_view.specs.Readable.{AreReadable}
use Rattle.ddf_exercise_config.specs.Disks.{AreApart, AreNamed, Disk, Disks}
use Rattle.ddf_exercise_config.specs.Stages.{array, begun, created, disks_at, element, founded, group_with, lost, member, members, members_at, members_lost, position, positions_at, resynced, seats_at, whole, with_spare, written_on}
use Rattle.ddf_exercise_config.specs.Turns.{Loss, Turn, turn_behind}
use Rattle.ddf_exercise_config.specs.Turns.Loss.{OfSecond, OfThird}
use Rattle.ddf_exercise_config.specs.Turns.Turn.{Closing, Middle, Opening}
use Rattle.ddf_exercise_config.specs.Writable.{AreCurrent, IsWritable}
use Rattle.ddf_exercise_config.proofs.Bools.{same}
use Rattle.ddf_exercise_config.proofs.Tables as tables

module _ (group : List ℕ) (sequence : ℕ) (table : List (ℕ × Member)) (guid : List ℕ) (x y z : Disk) (sx sy sz : Bool) (state init : ℕ) where
  abbrev one : Array
  one = array (position x sx ∷ position y sy ∷ position z sz ∷ []) state init

  abbrev config : Configuration
  config = group_with group sequence table guid one

  only : (i : ℕ) (entry : List ℕ × Array) → slice_get ((guid, one) ∷ []) i ≡ Some entry → (guid, one) ≡ entry
  only zero entry at = cc
  only (suc i) entry at = absurd (cc)

  pub own_names : HasOwnNames config
  unfolding all_wanted IsDistinct
  own_names = record { guids = λ i j first other at_first at_other same_name. sym (only i first at_first) ∙ only j other at_other; elements = (tt, tt) }

  pub readable : AreReadable config
  readable = (record { few = lit≤ tt; alone = λ e. absurd (cc); plain = λ e. refl }, tt)

  no_rows : (k : ℕ) (held : Position) → slice_get (position x sx ∷ position y sy ∷ position z sz ∷ []) k ≡ Some held → held.row ≡ 0
  no_rows zero held at = let is : position x sx ≡ held = cc in ap (λ (p : Position). p.row) (sym is)
  no_rows (suc zero) held at = let is : position y sy ≡ held = cc in ap (λ (p : Position). p.row) (sym is)
  no_rows (suc (suc zero)) held at = let is : position z sz ≡ held = cc in ap (λ (p : Position). p.row) (sym is)
  no_rows (suc (suc (suc k))) held at = absurd (cc)

  one_wanted : (i : ℕ) (wanted : Wanted) → slice_get (all_wanted config) i ≡ Some wanted → element (position x sx ∷ position y sy ∷ position z sz ∷ []) ≡ wanted.plan
  unfolding all_wanted
  one_wanted zero wanted at =
      let is : record { guid = guid; array = one; index = 0; plan = element (position x sx ∷ position y sy ∷ position z sz ∷ []) } ≡ wanted = cc in ap (λ (w : Wanted). w.plan) is
  one_wanted (suc i) wanted at = absurd (cc)

  pub rebuilt : AreRebuilt config
  rebuilt i wanted at =
      subst OneRebuilt (one_wanted i wanted at) (λ j k first other at_first at_other first_set other_set.
      absurd (false≢true (sym first_set ∙ ap (λ n. n == 0) (no_rows j first at_first))))

-- ---- members

abbrev NotDedicated : SpareUse → Type 0
NotDedicated use_as = (arrays : List (List ℕ)) → use_as ≡ uses.Dedicated arrays → ⊥

no_is : NotDedicated uses.No
no_is arrays e = absurd (cc)

global_is : NotDedicated uses.Global
global_is arrays e = absurd (cc)

for_none : (guid : List ℕ) (use_as : SpareUse) → NotDedicated use_as → is_spare_for guid use_as ≡ false
for_none guid uses.No plain = refl
for_none guid uses.Global plain = refl
for_none guid uses.Revertible plain = refl
for_none guid (uses.Dedicated arrays) plain = absurd (plain arrays refl)

same_pair : (a b : ℕ) (x y : Member) → a ≡ b → Some x ≡ Some y → ◌≡◌ {A = ℕ × Member} (a, x) (b, y)
same_pair a b x y e f = let value : x ≡ y = cc in ap (λ (n : ℕ). (n, x)) e ∙ ap (λ (m : Member). (b, m)) value

module _ (disks : Disks) (apart : AreApart disks) (sm tm : Bool) (fu hu : SpareUse) where
  abbrev table_of : List (ℕ × Member)
  table_of = members disks sm tm fu hu

  -- what holds of all five members
  each : (P : ℕ × Member → Type 0) → P (member disks.first false uses.No) → P (member disks.second sm uses.No) → P (member disks.third tm uses.No) → P (member disks.fourth false fu) → P (member disks.fifth false hu)
      → (i : ℕ) (entry : ℕ × Member) → slice_get table_of i ≡ Some entry → P entry
  each P a b c d e zero entry at = let is : member disks.first false uses.No ≡ entry = cc in subst P is a
  each P a b c d e (suc zero) entry at = let is : member disks.second sm uses.No ≡ entry = cc in subst P is b
  each P a b c d e (suc (suc zero)) entry at = let is : member disks.third tm uses.No ≡ entry = cc in subst P is c
  each P a b c d e (suc (suc (suc zero))) entry at = let is : member disks.fourth false fu ≡ entry = cc in subst P is d
  each P a b c d e (suc (suc (suc (suc zero)))) entry at = let is : member disks.fifth false hu ≡ entry = cc in subst P is e
  each P a b c d e (suc (suc (suc (suc (suc i))))) entry at = absurd (cc)

  is_found : (i : ℕ) (entry : ℕ × Member) → slice_get table_of i ≡ Some entry → lookup (nat_eq entry.0) table_of ≡ Some entry.1
  is_found =
      each (λ (entry : ℕ × Member). lookup (nat_eq entry.0) table_of ≡ Some entry.1) (tables.at_first disks apart sm tm fu hu) (tables.at_second disks apart sm tm fu hu) (tables.at_third disks apart sm tm fu hu)
      (tables.at_fourth disks apart sm tm fu hu) (tables.at_fifth disks apart sm tm fu hu)

  same_entry : (one other : ℕ × Member) → lookup (nat_eq one.0) table_of ≡ Some one.1 → lookup (nat_eq other.0) table_of ≡ Some other.1 → one.0 ≡ other.0 → one ≡ other
  same_entry one other p q e = same_pair one.0 other.0 one.1 other.1 e (sym p ∙ ap (λ (n : ℕ). lookup (nat_eq n) table_of) e ∙ q)

  module _ (fp : NotDedicated fu) (hp : NotDedicated hu) where
    pub plain : (i : ℕ) (entry : ℕ × Member) → slice_get table_of i ≡ Some entry → NotDedicated entry.1.spare
    plain = each (λ (entry : ℕ × Member). NotDedicated entry.1.spare) no_is no_is no_is fp hp

    pub has_spares : (named : AreNamed disks) (group : List ℕ) (sequence : ℕ) (arrays : List (List ℕ × Array)) → HasSpares (record { group = group; sequence = sequence; members = table_of; arrays = arrays })
    has_spares named group sequence arrays = record {
      apart = λ i j one other at_one at_other e. same_entry one other (is_found i one at_one) (is_found j other at_other) e;
      named = each (λ (entry : ℕ × Member). (entry.0 == no_reference) ≡ false) named.first named.second named.third named.fourth named.fifth;
      listed = λ i one listed at is. absurd (plain i one at listed is);
      held = λ i a one entry at at_entry is. absurd (false≢true (sym (for_none entry.0 one.1.spare (plain i one at)) ∙ is));
    }

  -- ---- current ones

  module _ (group : List ℕ) (sequence : ℕ) (arrays : List (List ℕ × Array)) where
    abbrev over : Configuration
    over = record { group = group; sequence = sequence; members = table_of; arrays = arrays }

    pub first_current : has_current over disks.first ≡ true
    first_current = simp (same, bytes_same)

    pub second_current : sm ≡ false → has_current over disks.second ≡ true
    second_current e = simp (same, bytes_same, apart.first_second, e)

    pub third_current : tm ≡ false → has_current over disks.third ≡ true
    third_current e = simp (same, bytes_same, apart.first_third, apart.second_third, e)

    pub fourth_current : has_current over disks.fourth ≡ true
    fourth_current = simp (same, bytes_same, apart.first_fourth, apart.second_fourth, apart.third_fourth)

    pub fifth_current : has_current over disks.fifth ≡ true
    fifth_current = simp (same, bytes_same, apart.first_fifth, apart.second_fifth, apart.third_fifth, apart.fourth_fifth)

  pub first_stays : is_current table_of disks.first.reference ≡ true
  first_stays = simp (is_current, tables.at_first disks apart sm tm fu hu)

  pub second_stays : sm ≡ false → is_current table_of disks.second.reference ≡ true
  second_stays e = simp (is_current, tables.at_second disks apart sm tm fu hu) (ap not e)

  pub third_stays : tm ≡ false → is_current table_of disks.third.reference ≡ true
  third_stays e = simp (is_current, tables.at_third disks apart sm tm fu hu) (ap not e)

  pub fourth_stays : is_current table_of disks.fourth.reference ≡ true
  fourth_stays = simp (is_current, tables.at_fourth disks apart sm tm fu hu)

  pub fifth_stays : is_current table_of disks.fifth.reference ≡ true
  fifth_stays = simp (is_current, tables.at_fifth disks apart sm tm fu hu)

  -- ---- all of it

  module _ (named : AreNamed disks) (fp : NotDedicated fu) (hp : NotDedicated hu) (group : List ℕ) (sequence : ℕ) where
    pub writable : (guid : List ℕ) (x y z : Disk) (sx sy sz : Bool) (state init : ℕ) → IsWritable (group_with group sequence table_of guid (array (position x sx ∷ position y sy ∷ position z sz ∷ []) state init))
    writable guid x y z sx sy sz state init = record {
      names = own_names group sequence table_of guid x y z sx sy sz state init;
      readable = readable group sequence table_of guid x y z sx sy sz state init;
      rebuilt = rebuilt group sequence table_of guid x y z sx sy sz state init;
      spares = has_spares fp hp named group sequence ((guid, array (position x sx ∷ position y sy ∷ position z sz ∷ []) state init) ∷ []);
      few_members = lit≤ tt;
      few_arrays = lit≤ tt;
      none_dedicated = λ place entry arrays at is. plain fp hp place entry at arrays is;
    }

  module _ (group : List ℕ) (sequence : ℕ) (arrays : List (List ℕ × Array)) where
    pub all_current : sm ≡ false → tm ≡ false → AreCurrent (over group sequence arrays) (disks_at disks Opening) (seats_at disks Opening)
    all_current p q = record {
      disks_are = (first_current group sequence arrays, (second_current group sequence arrays p, (third_current group sequence arrays q, (fourth_current group sequence arrays, (fifth_current group sequence arrays, tt)))));
      seats_are = (first_stays, (second_stays p, (third_stays q, (fourth_stays, (fifth_stays, tt)))));
    }

    pub four_current : tm ≡ false → AreCurrent (over group sequence arrays) (disks_at disks Middle) (seats_at disks Middle)
    four_current q = record {
      disks_are = (first_current group sequence arrays, (third_current group sequence arrays q, (fourth_current group sequence arrays, (fifth_current group sequence arrays, tt))));
      seats_are = (first_stays, (third_stays q, (fourth_stays, (fifth_stays, tt))));
    }

    pub three_current : AreCurrent (over group sequence arrays) (disks_at disks Closing) (seats_at disks Closing)
    three_current = record {
      disks_are = (first_current group sequence arrays, (fourth_current group sequence arrays, (fifth_current group sequence arrays, tt)));
      seats_are = (first_stays, (fourth_stays, (fifth_stays, tt)));
    }

-- ---- the stages

module _ (group : List ℕ) (disks : Disks) (apart : AreApart disks) (named : AreNamed disks) (guid : List ℕ) (sequence : ℕ) where
  pub founded_writable : IsWritable (founded group disks sequence)
  unfolding all_wanted IsDistinct
  founded_writable = record {
    names = record { guids = λ i j one other at_one at_other e. absurd (cc); elements = tt };
    readable = tt;
    rebuilt = λ i wanted at. absurd (cc);
    spares = has_spares disks apart false false uses.No uses.No no_is no_is named group sequence [];
    few_members = lit≤ tt;
    few_arrays = lit≤ tt;
    none_dedicated = λ place entry arrays at is. plain disks apart false false uses.No uses.No no_is no_is place entry at arrays is;
  }

  pub created_writable : IsWritable (created group disks guid sequence)
  created_writable = writable disks apart false false uses.No uses.No named no_is no_is group sequence guid disks.first disks.second disks.third true true true 16 0

  pub resynced_writable : IsWritable (resynced group disks guid sequence)
  resynced_writable = writable disks apart false false uses.No uses.No named no_is no_is group sequence guid disks.first disks.second disks.third true true true 0 2

  pub spare_writable : IsWritable (with_spare group disks guid sequence)
  spare_writable = writable disks apart false false uses.Global uses.No named global_is no_is group sequence guid disks.first disks.second disks.third true true true 0 2

  at_turn : (turn : Turn) (state : ℕ) → IsWritable (group_with group sequence (members_at disks turn) guid (array (positions_at disks turn) state 2))
  at_turn Opening state = writable disks apart false false uses.Global uses.Global named global_is global_is group sequence guid disks.first disks.second disks.third true true true state 2
  at_turn Middle state = writable disks apart true false uses.No uses.Global named no_is global_is group sequence guid disks.first disks.fourth disks.third true true true state 2
  at_turn Closing state = writable disks apart true true uses.No uses.No named no_is no_is group sequence guid disks.first disks.fourth disks.fifth true true true state 2

  pub whole_writable : (turn : Turn) → IsWritable (whole group disks guid turn sequence)
  whole_writable turn = at_turn turn 0

  pub written_writable : (turn : Turn) → IsWritable (written_on group disks guid turn sequence)
  written_writable turn = at_turn turn 16

  pub lost_writable : (loss : Loss) → IsWritable (lost group disks guid loss sequence)
  lost_writable OfSecond = writable disks apart true false uses.Global uses.Global named global_is global_is group sequence guid disks.first disks.second disks.third true false true 1 2
  lost_writable OfThird = writable disks apart true true uses.No uses.Global named no_is global_is group sequence guid disks.first disks.fourth disks.third true true false 1 2

  pub begun_writable : (loss : Loss) → IsWritable (begun group disks guid loss sequence)
  begun_writable OfSecond = writable disks apart true false uses.No uses.Global named no_is global_is group sequence guid disks.first disks.fourth disks.third true false true 1 2
  begun_writable OfThird = writable disks apart true true uses.No uses.No named no_is no_is group sequence guid disks.first disks.fourth disks.fifth true true false 1 2

module _ (group : List ℕ) (disks : Disks) (apart : AreApart disks) (guid : List ℕ) (sequence : ℕ) where
  -- ---- current members

  pub founded_current : AreCurrent (founded group disks sequence) (disks_at disks Opening) (seats_at disks Opening)
  founded_current = all_current disks apart false false uses.No uses.No group sequence [] refl refl

  pub early_current : (fu hu : SpareUse) (one : Array) → AreCurrent (group_with group sequence (members disks false false fu hu) guid one) (disks_at disks Opening) (seats_at disks Opening)
  early_current fu hu one = all_current disks apart false false fu hu group sequence ((guid, one) ∷ []) refl refl

  pub turn_current : (turn : Turn) (one : Array) → AreCurrent (group_with group sequence (members_at disks turn) guid one) (disks_at disks turn) (seats_at disks turn)
  turn_current Opening one = early_current uses.Global uses.Global one
  turn_current Middle one = four_current disks apart true false uses.No uses.Global group sequence ((guid, one) ∷ []) refl
  turn_current Closing one = three_current disks apart true true uses.No uses.No group sequence ((guid, one) ∷ [])

  pub lost_current : (loss : Loss) (one : Array) → AreCurrent (group_with group sequence (members_lost disks loss) guid one) (disks_at disks (turn_behind loss)) (seats_at disks (turn_behind loss))
  lost_current OfSecond one = four_current disks apart true false uses.Global uses.Global group sequence ((guid, one) ∷ []) refl
  lost_current OfThird one = three_current disks apart true true uses.No uses.Global group sequence ((guid, one) ∷ [])
