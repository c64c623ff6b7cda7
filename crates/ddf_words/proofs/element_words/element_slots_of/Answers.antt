use Rattle.std.proofs.Common.{◌≡◌, ◌≤◌, ◌++◌, ◌∷◌, [], ◌∙◌, ℕ, length, map, arith}
use Rattle.std.specs.Fmt.{decimal}
use Rattle.std.specs.List.{slice_split}
use Rattle.std.proofs.lemmas.Grind.{common_steps}
use Rattle.std.proofs.lemmas.Iterator.Consumers.{YieldsList-turn, YieldsList-end}
use Rattle.std.proofs.lemmas.Iterator.Splits.{YieldsList-from_str_split}
use Rattle.std.proofs.lemmas.List.{length_push, take_all}
use Rattle.std.proofs.lemmas.List.Elements.{All-append, All-cons, All-nil}
use Rattle.ddf_words.proofs.Elements.{is_comma, no_slot_part, many_parts, one_part_more, all_parts}
use Rattle.ddf_words.proofs.element_words.element_slots_of.Goals as goal

pub returns-in_default-clause-none : goal.returns-in_default-clause-none
returns-in_default-clause-none c = λ none slots spells.
    let turn = YieldsList-turn (YieldsList-from_str_split 0x2C c.args.text.now (omega arith) (cc) (cc) (cc)) c.loop-part.yielded _ c.loop-part.yielded_by _ _ c.in-Some.part c.in-Some.is c.next.ensures.steps in
    no_slot_part c.args.text.now (length c.loop-part.yielded) turn.0 c.in-Some.part.now turn.1 (λ slot is. let some = c.byte_of.ensures.every slot is in cc) slots spells

pub returns-then-len-ge-MOST_ELEMENT_SLOTS-clause-none : goal.returns-then-len-ge-MOST_ELEMENT_SLOTS-clause-none
returns-then-len-ge-MOST_ELEMENT_SLOTS-clause-none c = λ none slots spells.
    let turn = YieldsList-turn (YieldsList-from_str_split 0x2C c.args.text.now (omega arith) (cc) (cc) (cc)) c.loop-part.yielded _ c.loop-part.yielded_by _ _ c.in-Some.part c.in-Some.is c.next.ensures.steps in
    many_parts c.args.text.now (length c.loop-part.yielded) turn.0 (omega (arith, c.loop-part.invariant.many, c.len.ensures, c.if-len-ge-MOST_ELEMENT_SLOTS.true)) slots spells

pub loop-part-preserved : goal.loop-part-preserved
loop-part-preserved c =
    let turn = YieldsList-turn (YieldsList-from_str_split 0x2C c.args.text.now (omega arith) (cc) (cc) (cc)) c.loop-part.yielded _ c.loop-part.yielded_by _ _ c.in-Some.part c.in-Some.is c.next.ensures.steps in
    let pushed : c.push.new.self.items ≡ c.loop-part.slots.items ++ c.in-Some-byte_of.slot ∷ [] = grind (arith, common_steps) in
    let long = length_push c.loop-part.yielded c.in-Some.part in
    let longer = length_push c.loop-part.slots.items c.in-Some-byte_of.slot in
    let spells = c.in-Some-byte_of.ensures.found in
    rw (pushed, long) record {
      can_next = tt;
      is_finite = tt;
      many = omega (arith, longer, c.loop-part.invariant.many);
      spelled = one_part_more c.args.text.now (length c.loop-part.yielded) turn.0 c.loop-part.slots.items c.in-Some-byte_of.slot c.in-Some.part.now c.loop-part.invariant.spelled turn.1 spells.spelled;
      few = omega (arith, longer, c.len.ensures, c.if-len-ge-MOST_ELEMENT_SLOTS.false);
      within = All-append (λ (slot : ℕ). slot ≤ 63) c.loop-part.slots.items (c.in-Some-byte_of.slot ∷ []) c.loop-part.invariant.within
          (All-cons (λ (slot : ℕ). slot ≤ 63) c.in-Some-byte_of.slot [] spells.within (All-nil (λ (slot : ℕ). slot ≤ 63)));
    }

pub returns-clause-found : goal.returns-clause-found
returns-clause-found c =
    let end = YieldsList-end (YieldsList-from_str_split 0x2C c.args.text.now (omega arith) (cc) (cc) (cc)) c.loop-part.yielded _ c.loop-part.yielded_by _ _ c.in-None.is c.next.ensures.steps in
    let parts : map decimal c.loop-part.slots.items ≡ slice_split is_comma c.args.text.now =
    c.loop-part.invariant.spelled ∙ take_all (length c.loop-part.yielded) (slice_split is_comma c.args.text.now) (omega (arith, end.1)) in
    rw c.new.ensures (all_parts c.loop-part.slots.items c.args.text.now parts c.loop-part.invariant.few c.loop-part.invariant.within)
