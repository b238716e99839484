use Rattle.std.proofs.Common.{◌≡◌, ◌≤◌, ◌∷◌, ◌++◌, [], arith, refl, ap, subst, ◌∙◌}
use Rattle.hs_base.proofs.Counts.{one_if, from_bool_one, one_few}
use Rattle.hs_coord.specs.Following.{message}
use Rattle.hs_coord.specs.Kept.{PlainCoordinator}
use Rattle.hs_coord.specs.Leading.{Leads}
use Rattle.hs_coord.proofs.KeptLemmas.{taken, asked_for}
use Rattle.hs_coord.proofs.OpenLemmas.{counted_led, no_less, few}
use Rattle.hs_coord.proofs.coordinator.Coordinator.step.Goals as goal

pub returns-clause-taken : goal.returns-clause-taken
returns-clause-taken c = λ messages h.
    let l = subst (λ (s : PlainCoordinator). Leads s.groups c.follow.new.groups.entries (message c.args.node c.args.told) c.in_ok-led.led) c.self.view_is c.in_ok-led.ensures.led in
    taken c.args.self.now messages (message c.args.node c.args.told) l.begun l.next c.in_ok-led.led.asks.to h l.begins l.takes
    (c.push.ensures.items ∙ ap (λ x. x ++ c.args.node ∷ []) (c.in_ok-reserve.ensures.items ∙ ap (λ (s : PlainCoordinator). s.log) c.self.view_is))
    l.writes

pub returns-clause-asks : goal.returns-clause-asks
returns-clause-asks c = λ messages h.
    let l = subst (λ (s : PlainCoordinator). Leads s.groups c.follow.new.groups.entries (message c.args.node c.args.told) c.in_ok-led.led) c.self.view_is c.in_ok-led.ensures.led in
    asked_for c.args.self.now messages (message c.args.node c.args.told) l.begun l.next c.in_ok-led.led.asks.to h l.begins l.takes c.in_ok-led.led.asks l.ask refl

pub overflow_sub-self : goal.overflow_sub-self
overflow_sub-self c =
    no_less _ _ _ _ c.in_ok-led.ensures.led c.self.inside.waiting c.from.result c.self.invariant.1 (c.from.ensures ∙ from_bool_one c.in_ok-led.led.was_open)

pub overflow_add-self : goal.overflow_add-self
overflow_add-self c =
    let small = few c.self.inside.groups.entries c.self.inside.waiting c.self.invariant.1 in
    let one : c.from-2.result ≡ one_if c.in_ok-led.led.is_open = c.from-2.ensures ∙ from_bool_one c.in_ok-led.led.is_open in
    let groups = c.len-known.ensures.len in
    let most = c.len-known.ensures.small in
    let bound : one_if c.in_ok-led.led.is_open ≤ 1 = one_few c.in_ok-led.led.is_open in
    omega (arith, small, one, groups, most, bound)

pub invariant_of-self-2 : goal.invariant_of-self-2
invariant_of-self-2 c = (
  c.self.invariant.0,
  counted_led _ _ _ _ c.in_ok-led.ensures.led c.self.inside.waiting c.from.result c.from-2.result c.self.invariant.1
      (c.from.ensures ∙ from_bool_one c.in_ok-led.led.was_open)
      (c.from-2.ensures ∙ from_bool_one c.in_ok-led.led.is_open),
)
