use Rattle.std.proofs.Common.{refl, [], ◌∷◌}
use Rattle.hs_pins.proofs.Prelude.{buffer_of}
use Rattle.hs_pins.proofs.GroupLemmas.{counted-added, counts-more}
use Rattle.hs_pins.proofs.Lanes.{kept-added}
use Rattle.hs_pins.proofs.pinned.Pinned.pin_one.Goals as goal

pub invariant_of-self-2 : goal.invariant_of-self-2
invariant_of-self-2 g c =
    kept-added c.args.priority c.self.inside.groups.entries _ (buffer_of c.args.held ∷ []) c.self.inside.chunks 1 c.self.invariant c.in_ok-add_chunk.ensures.ok refl

pub returns-clause-count : goal.returns-clause-count
returns-clause-count g c =
    counts-more c.self.inside.groups.entries c.args.self.now c.add_chunk.new.groups.entries c.self.inside.chunks 1 c.self.invariant.counted c.self.view_is
    (counted-added c.args.priority c.self.inside.groups.entries _ (buffer_of c.args.held ∷ []) c.self.inside.chunks 1 c.self.invariant.counted c.in_ok-add_chunk.ensures.ok refl)
