use Rattle.std.proofs.Common.{refl, arith}
use Rattle.hs_base.specs.declared.told.Crumb.{Crumb}
use Rattle.hs_law_agent.specs.Stepping.{Crumbed}
use Rattle.hs_agent.specs.Tries.{after_crumb}
use Rattle.tests_with.proofs.Tried.{rested_more, ready_after}
use Rattle.tests_with.proofs.site.Site.try_crumb.Goals as goal

pub try_crumb-tried-requires : goal.try_crumb-tried-requires
try_crumb-tried-requires c = λ working.
    let known = c.self.invariant working in
    let nodes = known.2.site.nodes in
    let node = c.requires in
    (known.0, known.1, omega (arith, nodes, node))

pub invariant_of-self : goal.invariant_of-self
invariant_of-self c =
    let crumb : Crumb = record { trace = record { 0 = c.args.trace }; node = record { 0 = c.args.node } } in
    ready_after c.try_crumb-tried.result c.self.inside.events c.self.inside.agent c.try_crumb-tried.new.self (λ run. after_crumb run 0 crumb) c.self.invariant
    c.try_crumb-tried.ensures.after c.try_crumb-tried.ensures.same c.try_crumb-tried.ensures.stays
    (λ run h. rested_more c.self.inside.events run (after_crumb run 0 crumb) (Crumbed 0 crumb) refl refl refl refl refl h)
