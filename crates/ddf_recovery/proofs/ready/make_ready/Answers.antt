use Rattle.std.proofs.Common.{◌≡◌, ℕ, Bool, true, false, ◌&&◌, ◌||◌, List, Option, option_map, Err, sym, subst, ap, ◌∙◌}
use Rattle.std.specs.Prelude.{reverse}
use Rattle.std.specs.List.{list_any}
use Rattle.std.specs.Option.{option_map_or}
use Rattle.ddf_seats.specs.declared.seated.Seated.{Seated}
use Rattle.ddf_recovery.specs.Ready.{IsReadied, readied}
use Rattle.ddf_steps.specs.Ready.{ReadyStep, is_spent}
use Rattle.ddf_seats.specs.Group.{GroupValue}
use Rattle.ddf_recovery.specs.Recovery.{disks_recovered, has_stray, loss_spent, recovery_of}
use Rattle.ddf_seats.specs.Leading.{some}
use Rattle.ddf_steps.specs.Tried.{AreTried}
use Rattle.ddf_recovery.specs.Behind.{config_behind, disks_behind}
use Rattle.ddf_steps.specs.Trying.{AreFollowing}
use Rattle.ddf_seats.specs.Changing.{CanBeChanged}
use Rattle.ddf_recovery.proofs.Behind.{is_behind}
use Rattle.ddf_recovery.proofs.Readied.{are_over, readied_fault, readied_first, readied_stray, readied_spent, readied_steps, spent_is}
use Rattle.std.proofs.lemmas.List.{reverse-reverse}
use Rattle.ddf_steps.proofs.Refused.{fault_passed}
use Rattle.ddf_recovery.proofs.ready.make_ready.Goals as goal

-- What is found of the sequence numbers is found of those of the loss and of the steps.
over_is : (timestamp : ℕ) (group : GroupValue) (next : Option ReadyStep) (steps : List ReadyStep) (found : Bool)
    → found ≡ (option_map_or (λ (one : ReadyStep). some group.absent && is_spent one.step) next false || list_any (λ one. is_spent one.step) steps)
    → option_map (λ one. one.step) next ≡ recovery_of timestamp group → found ≡ are_over (loss_spent group) steps
over_is timestamp group next steps found is same = is ∙ ap (λ (b : Bool). b || list_any (λ one. is_spent one.step) steps) (spent_is timestamp group next same)

pub returns-then-stray-clause-readied : goal.returns-then-stray-clause-readied
returns-then-stray-clause-readied c =
    let stray : has_stray c.args.group.now ≡ true = sym c.in_ok-stray.ensures ∙ c.if-stray.true in
    readied_stray c.args.group.now c.args.changes.now c.args.timestamp stray

pub returns-in_err-recovery-clause-readied : goal.returns-in_err-recovery-clause-readied
returns-in_err-recovery-clause-readied c =
    let own : has_stray c.args.group.now ≡ false = sym c.in_ok-stray.ensures ∙ c.if-stray.false in
    subst (λ (result : _). IsReadied result (readied c.args.group.now c.args.changes.now c.args.timestamp))
    (sym (fault_passed c.in_err-recovery.field-0.0 c.from_residual-in_err-recovery.result c.from_residual-in_err-recovery.ensures.1))
    (readied_first c.args.group.now c.args.changes.now c.args.timestamp own c.in_err-recovery.field-0.0 c.in_err-recovery.ensures.recovered)

pub steps_behind-requires-clause-changed : goal.steps_behind-requires-clause-changed
steps_behind-requires-clause-changed c =
    let group = c.args.group.now in
    let next = c.in_ok-recovery.recovery in
    let own : has_stray group ≡ false = sym c.in_ok-stray.ensures ∙ c.if-stray.false in
    let behind = is_behind c.args.timestamp c.ranges.timestamp.fits group c.requires.assembled next c.in_ok-recovery.ensures.recovered.1 c.in_ok-recovery.ensures.recovered.0 c.in_ok-recovery.ensures.follows in
    subst (λ (disks : List Seated). CanBeChanged (config_behind group next) (disks_behind group next disks)) (sym (c.deref-3.ensures.value ∙ c.in_ok-disks.ensures)) behind.changed

pub returns-in_err-steps-clause-readied : goal.returns-in_err-steps-clause-readied
returns-in_err-steps-clause-readied c =
    let group = c.args.group.now in
    let next = c.in_ok-recovery.recovery in
    let own : has_stray group ≡ false = sym c.in_ok-stray.ensures ∙ c.if-stray.false in
    let behind = is_behind c.args.timestamp c.ranges.timestamp.fits group c.requires.assembled next c.in_ok-recovery.ensures.recovered.1 c.in_ok-recovery.ensures.recovered.0 c.in_ok-recovery.ensures.follows in
    let fault = c.in_err-steps.field-0.0 in
    let tried = subst (λ (disks : List Seated). AreTried c.args.timestamp (config_behind group next) (disks_behind group next disks) c.args.changes.now (Err fault)) (c.deref-3.ensures.value ∙ c.in_ok-disks.ensures) c.in_err-steps.ensures.tried in
    subst (λ (result : _). IsReadied result (readied group c.args.changes.now c.args.timestamp))
    (sym (fault_passed fault c.from_residual-in_err-steps.result c.from_residual-in_err-steps.ensures.1))
    (readied_fault group c.args.changes.now c.args.timestamp own next c.in_ok-recovery.ensures.recovered behind fault tried)

pub returns-then-is_over-clause-readied : goal.returns-then-is_over-clause-readied
returns-then-is_over-clause-readied c =
    let group = c.args.group.now in
    let next = c.in_ok-recovery.recovery in
    let own : has_stray group ≡ false = sym c.in_ok-stray.ensures ∙ c.if-stray.false in
    let behind = is_behind c.args.timestamp c.ranges.timestamp.fits group c.requires.assembled next c.in_ok-recovery.ensures.recovered.1 c.in_ok-recovery.ensures.recovered.0 c.in_ok-recovery.ensures.follows in
    readied_spent group c.args.changes.now c.args.timestamp own next c.in_ok-recovery.ensures.recovered behind c.in_ok-steps.steps.items
    (rw (c.deref-3.ensures.value, c.in_ok-disks.ensures) at c.in_ok-steps.ensures.tried)
    (sym (over_is c.args.timestamp group next c.in_ok-steps.steps.items c.is_over.result (rw c.deref-4.ensures.value at c.is_over.ensures) c.in_ok-recovery.ensures.recovered.1) ∙ c.if-is_over.true)

pub returns-clause-readied : goal.returns-clause-readied
returns-clause-readied c =
    let group = c.args.group.now in
    let next = c.in_ok-recovery.recovery in
    let own : has_stray group ≡ false = sym c.in_ok-stray.ensures ∙ c.if-stray.false in
    let behind = is_behind c.args.timestamp c.ranges.timestamp.fits group c.requires.assembled next c.in_ok-recovery.ensures.recovered.1 c.in_ok-recovery.ensures.recovered.0 c.in_ok-recovery.ensures.follows in
    readied_steps group c.args.changes.now c.args.timestamp own next c.in_ok-recovery.ensures.recovered behind c.in_ok-steps.steps.items
    (rw (c.deref-3.ensures.value, c.in_ok-disks.ensures) at c.in_ok-steps.ensures.tried)
    (sym (over_is c.args.timestamp group next c.in_ok-steps.steps.items c.is_over.result (rw c.deref-4.ensures.value at c.is_over.ensures) c.in_ok-recovery.ensures.recovered.1) ∙ c.if-is_over.false)
    c.reverse.new.self.items c.reverse.ensures.items

pub returns-clause-follows : goal.returns-clause-follows
returns-clause-follows c =
    let group = c.args.group.now in
    let next = c.in_ok-recovery.recovery in
    let own : has_stray group ≡ false = sym c.in_ok-stray.ensures ∙ c.if-stray.false in
    let behind = is_behind c.args.timestamp c.ranges.timestamp.fits group c.requires.assembled next c.in_ok-recovery.ensures.recovered.1 c.in_ok-recovery.ensures.recovered.0 c.in_ok-recovery.ensures.follows in
    let steps = ap (λ (all : List ReadyStep). reverse all) c.reverse.ensures.items ∙ reverse-reverse c.in_ok-steps.steps.items in
    subst (λ (all : List ReadyStep). AreFollowing (disks_recovered c.args.timestamp group) all) (sym steps)
    (subst (λ (disks : List Seated). AreFollowing disks c.in_ok-steps.steps.items) (ap (λ (disks : List Seated). disks_behind group next disks) (c.deref-3.ensures.value ∙ c.in_ok-disks.ensures) ∙ behind.disks_are) c.in_ok-steps.ensures.follows)
