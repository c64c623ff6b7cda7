use Rattle.std.proofs.Common.{◌≡◌, ◌∙◌, ◌∷◌, [], List, None, ap, sym, subst}
use Rattle.std.specs.List.{AllByRecursion}
use Rattle.ddf_config.specs.Configuration.{Configuration}
use Rattle.ddf_view.specs.View.{View}
use Rattle.ddf_rewrite.specs.Before.{Before, before}
use Rattle.ddf_seats.specs.declared.seated.Seated.{Seated}
use Rattle.ddf_steps.specs.Full.{full_of, full_where_written}
use Rattle.ddf_joining.specs.Joining.{both_disks, config_joined}
use Rattle.ddf_steps.specs.Steps.{disks_after}
use Rattle.ddf_joining.specs.Telling.{SideValue, sides_disks, sides_joined, sides_told}
use Rattle.ddf_seats.specs.Changing.{CanBeLed}
use Rattle.ddf_joining.proofs.BothSides.{both_copies, both_held, both_led, few_arrays}
use Rattle.ddf_steps.proofs.Following.{step_follows}
use Rattle.ddf_steps.proofs.OneLength.{can_try_all, has_room}
use Rattle.ddf_joining.proofs.sides.step_told.Goals as goal

pub full_of-requires-clause-leaders : goal.full_of-requires-clause-leaders
full_of-requires-clause-leaders c =
    let native = c.args.native.now in
    let other = c.args.other.now in
    let leaders : before c.from_ref-leaders.result.now ≡ sides_told native other = ap before c.from_ref-leaders.ensures.value ∙ ap (λ (view : View). before (view ∷ [])) c.new-leader.ensures ∙ c.requires.told in
    let disks : c.deref.result.now ≡ sides_disks native other =
    c.deref.ensures.value ∙ c.in_ok-disks.ensures ∙ ap (λ (side : SideValue). both_disks side.disks c.other.inside.disks.now) c.native.view_is ∙ ap (λ (side : SideValue). both_disks native.disks side.disks) c.other.view_is in
    subst (λ (lead : Before). CanBeLed lead c.deref.result.now) (sym leaders)
    (subst (λ (some : List Seated). CanBeLed (sides_told native other) some) (sym disks) (both_led native other c.requires.native c.requires.other))

pub full_of-requires-clause-copies : goal.full_of-requires-clause-copies
full_of-requires-clause-copies c =
    let native = c.args.native.now in
    let other = c.args.other.now in
    let disks : c.deref.result.now ≡ sides_disks native other =
    c.deref.ensures.value ∙ c.in_ok-disks.ensures ∙ ap (λ (side : SideValue). both_disks side.disks c.other.inside.disks.now) c.native.view_is ∙ ap (λ (side : SideValue). both_disks native.disks side.disks) c.other.view_is in
    rw disks (both_copies native other c.requires.native c.requires.other)

pub full_of-requires-clause-held : goal.full_of-requires-clause-held
full_of-requires-clause-held c =
    let native = c.args.native.now in
    let other = c.args.other.now in
    let config : c.in_ok-config.config ≡ sides_joined native other =
    c.in_ok-config.ensures ∙ ap (λ (side : SideValue). config_joined side.config c.other.inside.config.now) c.native.view_is ∙ ap (λ (side : SideValue). config_joined native.config side.config) c.other.view_is in
    let disks : c.deref.result.now ≡ sides_disks native other =
    c.deref.ensures.value ∙ c.in_ok-disks.ensures ∙ ap (λ (side : SideValue). both_disks side.disks c.other.inside.disks.now) c.native.view_is ∙ ap (λ (side : SideValue). both_disks native.disks side.disks) c.other.view_is in
    rw (config, disks) (both_held native other c.requires.native c.requires.other c.requires.cause (few_arrays native other c.requires.few))

pub make_step-requires-clause-can : goal.make_step-requires-clause-can
make_step-requires-clause-can c =
    let native = c.args.native.now in
    let other = c.args.other.now in
    let leaders : before c.from_ref-leaders.result.now ≡ sides_told native other = ap before c.from_ref-leaders.ensures.value ∙ ap (λ (view : View). before (view ∷ [])) c.new-leader.ensures ∙ c.requires.told in
    let config : c.in_ok-config.config ≡ sides_joined native other =
    c.in_ok-config.ensures ∙ ap (λ (side : SideValue). config_joined side.config c.other.inside.config.now) c.native.view_is ∙ ap (λ (side : SideValue). config_joined native.config side.config) c.other.view_is in
    let made : c.in_ok-disks.disks.items ≡ sides_disks native other =
    c.in_ok-disks.ensures ∙ ap (λ (side : SideValue). both_disks side.disks c.other.inside.disks.now) c.native.view_is ∙ ap (λ (side : SideValue). both_disks native.disks side.disks) c.other.view_is in
    let disks : c.deref-2.result.now ≡ sides_disks native other = c.deref-2.ensures.value ∙ made in
    let free : full_of c.args.timestamp (before c.from_ref-leaders.result.now) c.in_ok-config.config c.deref.result.now ≡ None = sym c.in_ok-full.ensures ∙ c.in_default.is in
    let room = has_room c.args.timestamp (sides_told native other) (sides_joined native other) (sides_disks native other) (rw (leaders, config, c.deref.ensures.value ∙ made) at free) in
    rw (leaders, config, disks)
    (can_try_all (sides_told native other) (sides_joined native other) (sides_disks native other) (both_copies native other c.requires.native c.requires.other) room.same
    (both_led native other c.requires.native c.requires.other) (both_held native other c.requires.native c.requires.other c.requires.cause (few_arrays native other c.requires.few)))

pub make_step-requires-clause-room : goal.make_step-requires-clause-room
make_step-requires-clause-room c =
    let native = c.args.native.now in
    let other = c.args.other.now in
    let leaders : before c.from_ref-leaders.result.now ≡ sides_told native other = ap before c.from_ref-leaders.ensures.value ∙ ap (λ (view : View). before (view ∷ [])) c.new-leader.ensures ∙ c.requires.told in
    let config : c.in_ok-config.config ≡ sides_joined native other =
    c.in_ok-config.ensures ∙ ap (λ (side : SideValue). config_joined side.config c.other.inside.config.now) c.native.view_is ∙ ap (λ (side : SideValue). config_joined native.config side.config) c.other.view_is in
    let made : c.in_ok-disks.disks.items ≡ sides_disks native other =
    c.in_ok-disks.ensures ∙ ap (λ (side : SideValue). both_disks side.disks c.other.inside.disks.now) c.native.view_is ∙ ap (λ (side : SideValue). both_disks native.disks side.disks) c.other.view_is in
    let disks : c.deref-2.result.now ≡ sides_disks native other = c.deref-2.ensures.value ∙ made in
    let free : full_of c.args.timestamp (before c.from_ref-leaders.result.now) c.in_ok-config.config c.deref.result.now ≡ None = sym c.in_ok-full.ensures ∙ c.in_default.is in
    let room = has_room c.args.timestamp (sides_told native other) (sides_joined native other) (sides_disks native other) (rw (leaders, config, c.deref.ensures.value ∙ made) at free) in
    subst (λ (some : List Seated). AllByRecursion (λ disk. full_where_written (before c.from_ref-leaders.result.now) c.in_ok-config.config c.args.timestamp disk ≡ None) some) (sym disks)
    (subst (λ (next : Configuration). AllByRecursion (λ disk. full_where_written (before c.from_ref-leaders.result.now) next c.args.timestamp disk ≡ None) (sides_disks native other)) (sym config)
    (subst (λ (lead : Before). AllByRecursion (λ disk. full_where_written lead (sides_joined native other) c.args.timestamp disk ≡ None) (sides_disks native other)) (sym leaders) room.none))

pub returns-clause-follows : goal.returns-clause-follows
returns-clause-follows c =
    let native = c.args.native.now in
    let other = c.args.other.now in
    let leaders : before c.from_ref-leaders.result.now ≡ sides_told native other = ap before c.from_ref-leaders.ensures.value ∙ ap (λ (view : View). before (view ∷ [])) c.new-leader.ensures ∙ c.requires.told in
    let config : c.in_ok-config.config ≡ sides_joined native other =
    c.in_ok-config.ensures ∙ ap (λ (side : SideValue). config_joined side.config c.other.inside.config.now) c.native.view_is ∙ ap (λ (side : SideValue). config_joined native.config side.config) c.other.view_is in
    let made : c.in_ok-disks.disks.items ≡ sides_disks native other =
    c.in_ok-disks.ensures ∙ ap (λ (side : SideValue). both_disks side.disks c.other.inside.disks.now) c.native.view_is ∙ ap (λ (side : SideValue). both_disks native.disks side.disks) c.other.view_is in
    let disks : c.deref-2.result.now ≡ sides_disks native other = c.deref-2.ensures.value ∙ made in
    let free : full_of c.args.timestamp (before c.from_ref-leaders.result.now) c.in_ok-config.config c.deref.result.now ≡ None = sym c.in_ok-full.ensures ∙ c.in_default.is in
    let room = has_room c.args.timestamp (sides_told native other) (sides_joined native other) (sides_disks native other) (rw (leaders, config, c.deref.ensures.value ∙ made) at free) in
    let step_is = c.in_ok-step.ensures.step
    ∙ ap (λ (lead : Before). record { config = c.in_ok-config.config; disks = disks_after c.args.timestamp lead c.in_ok-config.config c.deref-2.result.now }) leaders
    ∙ ap (λ (next : Configuration). record { config = next; disks = disks_after c.args.timestamp (sides_told native other) next c.deref-2.result.now }) config
    ∙ ap (λ (some : List Seated). record { config = sides_joined native other; disks = disks_after c.args.timestamp (sides_told native other) (sides_joined native other) some }) disks in
    step_follows c.args.timestamp c.ranges.timestamp.fits (sides_told native other) (sides_joined native other) (sides_disks native other)
    (both_copies native other c.requires.native c.requires.other) (both_led native other c.requires.native c.requires.other)
    (both_held native other c.requires.native c.requires.other c.requires.cause (few_arrays native other c.requires.few)) room c.in_ok-step.step step_is c.in_ok-step.ensures.prepared
