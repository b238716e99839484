use Rattle.hs_pins.proofs.Remembering.{has_crumbed}
use Rattle.hs_pins.proofs.pins.Pins.crumb.Goals as goal

pub returns-clause-after : goal.returns-clause-after
returns-clause-after g c = λ memory h.
    has_crumbed _ c.args.self.now memory c.args.crumb.trace c.args.crumb.node c.add_crumb.new.self.claims c.self.view_is h c.add_crumb.ensures.adds
