use Rattle.std.proofs.Common.{◌∙◌}
use Rattle.hs_pins.proofs.Waits.{first_used}
use Rattle.hs_pins.proofs.pinned.Pinned.next_used.Goals as goal

pub returns-in-Some : goal.returns-in-Some
returns-in-Some g c = λ id.
    c.first_used.ensures
    ∙ first_used c.self.inside.groups.entries c.args.self.now c.in-Some.field-0-0.now c.in-Some.pile.now c.self.inside.chunks id c.self.invariant c.self.view_is c.in-Some.ensures.last c.in-Some.ensures.value
