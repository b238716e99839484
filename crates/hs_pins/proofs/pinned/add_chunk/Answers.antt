use Rattle.std.proofs.Common.{sym}
use Rattle.hs_pins.proofs.Prelude.{same_priority}
use Rattle.hs_pins.proofs.GroupLemmas.{nothing-lost}
use Rattle.hs_pins.proofs.pinned.add_chunk.Goals as goal

pub returns-in-Some-clause-err : goal.returns-in-Some-clause-err
returns-in-Some-clause-err g c =
    nothing-lost c.push.result (same_priority c.args.priority) c.args.groups.now.entries _ c.in-Some.pile.now c.push.new.self (sym c.in-Some.ensures.value)
    (c.get_mut.follows.holds c.push.new.self).0 c.push.ensures.err
