use Rattle.std.proofs.Common.{sym, ◌∙◌}
use Rattle.hs_pins.proofs.Prelude.{same_priority}
use Rattle.hs_pins.proofs.GroupLemmas.{first-there, rest-emptied}
use Rattle.hs_pins.proofs.pinned.take_first.Goals as goal

pub unreachable-requires-in_default-take_first : goal.unreachable-requires-in_default-take_first
unreachable-requires-in_default-take_first g c =
    first-there (same_priority c.args.priority) c.args.groups.now.entries c.in-Some.pile.now c.requires.some (sym c.in-Some.ensures.value)
    (sym c.in_default-take_first.ensures.first)

pub returns-clause-rest : goal.returns-clause-rest
returns-clause-rest g c =
    rest-emptied c.args.priority c.args.groups.now.entries _ c.remove.new.self.entries c.in-Some.pile.now c.take_first.new.self (sym c.in-Some.ensures.value)
    (c.get_mut.follows.holds c.take_first.new.self).0 c.remove.ensures.entries c.take_first.ensures.rest (sym c.is_empty-emptied.ensures ∙ c.if-not-emptied.false)
