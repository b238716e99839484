use Rattle.std.proofs.Common.{refl, arith}
use Rattle.hs_base.specs.declared.told.Trigger.{Trigger}
use Rattle.hs_law_agent.specs.Stepping.{Triggered}
use Rattle.hs_agent.specs.Tries.{after_trigger}
use Rattle.tests_with.specs.Ready.{first_id}
use Rattle.tests_with.proofs.Sites.{few_here}
use Rattle.tests_with.proofs.Tried.{rested_more, ready_after}
use Rattle.tests_with.proofs.site.Site.try_trigger.Goals as goal

pub try_trigger-tried-requires : goal.try_trigger-tried-requires
try_trigger-tried-requires c = λ working.
    let known = c.self.invariant working in
    let admitted = few_here known.0 c.few_are_admitted.ensures known.2.site.begins in
    let few = known.2.few in
    let below = c.if-self.false in
    (known.0, known.1, (known.2.site.declared, omega (arith, admitted, few, below)))

pub invariant_of-self : goal.invariant_of-self
invariant_of-self c =
    let trigger : Trigger = record { moment = 0; trigger = first_id; lead = record { 0 = c.args.lead }; laterals = c.args.laterals } in
    ready_after c.try_trigger-tried.result c.self.inside.events c.self.inside.agent c.try_trigger-tried.new.self (λ run. after_trigger run 0 trigger) c.self.invariant
    c.try_trigger-tried.ensures.after c.try_trigger-tried.ensures.same c.try_trigger-tried.ensures.stays
    (λ run h. rested_more c.self.inside.events run (after_trigger run 0 trigger) (Triggered 0 trigger) refl refl refl refl refl h)
