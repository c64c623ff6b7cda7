use Rattle.std.proofs.Common.{◌≡◌, ◌∙◌, true, false, List, ap, sym, subst}
use Rattle.std.specs.Prelude.{IfOk}
use Rattle.ddf_seats.specs.declared.seated.Seated.{Seated}
use Rattle.ddf_recovery.specs.Recovery.{disks_recovered}
use Rattle.ddf_seats.specs.Leading.{leading_disks, some}
use Rattle.ddf_joining.specs.Telling.{IsMade, IsSide, SideValue, native_side, other_side, sides_disks}
use Rattle.ddf_recovery.specs.Behind.{disks_behind}
use Rattle.ddf_steps.specs.Trying.{Follows}
use Rattle.ddf_recovery.proofs.Behind.{is_behind}
use Rattle.ddf_joining.proofs.ImportSides.{both_seated, leaders_are, made_behind, native_is_side, none_left, other_is_side, side_is}
use Rattle.ddf_joining.proofs.importing.step_behind.Goals as goal

pub step_of_both-requires-clause-native : goal.step_of_both-requires-clause-native
step_of_both-requires-clause-native c =
    let group = c.args.both.now.group.now in
    let next = c.args.recovery.now in
    let behind = is_behind c.args.timestamp c.ranges.timestamp.fits group c.requires.group next c.requires.recovered.1 c.requires.recovered.0 c.requires.recovers in
    let made : c.in_ok-behind.behind.items ≡ disks_recovered c.args.timestamp group =
    c.in_ok-behind.ensures ∙ ap (λ (disks : List Seated). disks_behind group next disks) c.requires.disks ∙ behind.disks_are in
    let there : some (disks_recovered c.args.timestamp group) ≡ true = ap (λ (disks : List Seated). some disks) (sym (c.deref.ensures.value ∙ made)) ∙ sym c.has_disks.ensures ∙ c.if-not-has_disks.false in
    let native : record { config = c.args.both.now.config.now; disks = c.deref-2.result.now; leaders = c.deref-3.result.now } ≡ native_side c.args.timestamp group =
    side_is (native_side c.args.timestamp group) c.args.both.now.config.now c.deref-2.result.now c.deref-3.result.now c.requires.config (c.deref-2.ensures.value ∙ made) (c.deref-3.ensures.value ∙ made) in
    subst IsSide (sym native) (native_is_side c.args.timestamp c.ranges.timestamp.fits group c.requires.group next c.requires.recovered.1 c.requires.recovered.0 c.requires.recovers there)

pub step_of_both-requires-clause-other : goal.step_of_both-requires-clause-other
step_of_both-requires-clause-other c =
    let another = c.args.both.now.other.now in
    let leaders : c.deref-4.result.now ≡ leading_disks another =
    c.deref-4.ensures.value ∙ leaders_are another c.config.result.now c.args.both.now.joining.now c.in_ok-leaders.leaders.items c.config.ensures c.requires.joining c.in_ok-leaders.ensures in
    let other : record { config = c.args.both.now.offered.now; disks = c.args.both.now.joining.now; leaders = c.deref-4.result.now } ≡ other_side another =
    side_is (other_side another) c.args.both.now.offered.now c.args.both.now.joining.now c.deref-4.result.now c.requires.offered c.requires.joining leaders in
    subst IsSide (sym other) (other_is_side another c.requires.other (both_seated c.args.both.now.group.now another c.requires.some_disks).1)

pub returns-then-not-has_disks-clause-made : goal.returns-then-not-has_disks-clause-made
returns-then-not-has_disks-clause-made c =
    let group = c.args.both.now.group.now in
    let next = c.args.recovery.now in
    let behind = is_behind c.args.timestamp c.ranges.timestamp.fits group c.requires.group next c.requires.recovered.1 c.requires.recovered.0 c.requires.recovers in
    let made : c.in_ok-behind.behind.items ≡ disks_recovered c.args.timestamp group =
    c.in_ok-behind.ensures ∙ ap (λ (disks : List Seated). disks_behind group next disks) c.requires.disks ∙ behind.disks_are in
    let none : some (disks_recovered c.args.timestamp group) ≡ false = ap (λ (disks : List Seated). some disks) (sym (c.deref.ensures.value ∙ made)) ∙ sym c.has_disks.ensures ∙ c.if-not-has_disks.true in
    none_left c.args.timestamp group c.args.both.now.other.now none

pub returns-clause-made : goal.returns-clause-made
returns-clause-made c =
    let group = c.args.both.now.group.now in
    let next = c.args.recovery.now in
    let behind = is_behind c.args.timestamp c.ranges.timestamp.fits group c.requires.group next c.requires.recovered.1 c.requires.recovered.0 c.requires.recovers in
    let made : c.in_ok-behind.behind.items ≡ disks_recovered c.args.timestamp group =
    c.in_ok-behind.ensures ∙ ap (λ (disks : List Seated). disks_behind group next disks) c.requires.disks ∙ behind.disks_are in
    let there : some (disks_recovered c.args.timestamp group) ≡ true = ap (λ (disks : List Seated). some disks) (sym (c.deref.ensures.value ∙ made)) ∙ sym c.has_disks.ensures ∙ c.if-not-has_disks.false in
    let native : record { config = c.args.both.now.config.now; disks = c.deref-2.result.now; leaders = c.deref-3.result.now } ≡ native_side c.args.timestamp group =
    side_is (native_side c.args.timestamp group) c.args.both.now.config.now c.deref-2.result.now c.deref-3.result.now c.requires.config (c.deref-2.ensures.value ∙ made) (c.deref-3.ensures.value ∙ made) in
    let another = c.args.both.now.other.now in
    let leaders : c.deref-4.result.now ≡ leading_disks another =
    c.deref-4.ensures.value ∙ leaders_are another c.config.result.now c.args.both.now.joining.now c.in_ok-leaders.leaders.items c.config.ensures c.requires.joining c.in_ok-leaders.ensures in
    let other : record { config = c.args.both.now.offered.now; disks = c.args.both.now.joining.now; leaders = c.deref-4.result.now } ≡ other_side another =
    side_is (other_side another) c.args.both.now.offered.now c.args.both.now.joining.now c.deref-4.result.now c.requires.offered c.requires.joining leaders in
    made_behind c.args.timestamp group another c.step_of_both.result there
    (subst (λ (side : SideValue). IsMade c.args.timestamp (native_side c.args.timestamp group) side c.step_of_both.result) other
    (subst (λ (side : SideValue). IsMade c.args.timestamp side (record { config = c.args.both.now.offered.now; disks = c.args.both.now.joining.now; leaders = c.deref-4.result.now }) c.step_of_both.result) native c.step_of_both.ensures.made))

pub returns-clause-follows : goal.returns-clause-follows
returns-clause-follows c =
    let group = c.args.both.now.group.now in
    let next = c.args.recovery.now in
    let behind = is_behind c.args.timestamp c.ranges.timestamp.fits group c.requires.group next c.requires.recovered.1 c.requires.recovered.0 c.requires.recovers in
    let made : c.in_ok-behind.behind.items ≡ disks_recovered c.args.timestamp group =
    c.in_ok-behind.ensures ∙ ap (λ (disks : List Seated). disks_behind group next disks) c.requires.disks ∙ behind.disks_are in
    let native : record { config = c.args.both.now.config.now; disks = c.deref-2.result.now; leaders = c.deref-3.result.now } ≡ native_side c.args.timestamp group =
    side_is (native_side c.args.timestamp group) c.args.both.now.config.now c.deref-2.result.now c.deref-3.result.now c.requires.config (c.deref-2.ensures.value ∙ made) (c.deref-3.ensures.value ∙ made) in
    let another = c.args.both.now.other.now in
    let leaders : c.deref-4.result.now ≡ leading_disks another =
    c.deref-4.ensures.value ∙ leaders_are another c.config.result.now c.args.both.now.joining.now c.in_ok-leaders.leaders.items c.config.ensures c.requires.joining c.in_ok-leaders.ensures in
    let other : record { config = c.args.both.now.offered.now; disks = c.args.both.now.joining.now; leaders = c.deref-4.result.now } ≡ other_side another =
    side_is (other_side another) c.args.both.now.offered.now c.args.both.now.joining.now c.deref-4.result.now c.requires.offered c.requires.joining leaders in
    subst (λ (side : SideValue). IfOk c.step_of_both.result (Follows (sides_disks (native_side c.args.timestamp group) side))) other
    (subst (λ (side : SideValue). IfOk c.step_of_both.result (Follows (sides_disks side (record { config = c.args.both.now.offered.now; disks = c.args.both.now.joining.now; leaders = c.deref-4.result.now })))) native c.step_of_both.ensures.follows)
