use Rattle.std.proofs.Common.{sym, ap, ◌+◌, ◌∙◌}
use Rattle.hs_pins.proofs.Prelude.{length-map, count_of}
use Rattle.hs_pins.proofs.GroupLemmas.{counted-added, counts-more}
use Rattle.hs_pins.proofs.Lanes.{kept-added}
use Rattle.hs_pins.proofs.pinned.Pinned.pin.Goals as goal

pub invariant_of-self-2 : goal.invariant_of-self-2
invariant_of-self-2 g c =
    kept-added c.args.priority c.self.inside.groups.entries _ _ c.self.inside.chunks c.len-count.result c.self.invariant c.in_ok-add_chunks.ensures.ok
    (c.len-count.ensures ∙ sym (length-map _ _))

pub returns-clause-count : goal.returns-clause-count
returns-clause-count g c =
    counts-more c.self.inside.groups.entries c.args.self.now c.add_chunks.new.groups.entries c.self.inside.chunks c.len-count.result c.self.invariant.counted c.self.view_is
    (counted-added c.args.priority c.self.inside.groups.entries _ _ c.self.inside.chunks c.len-count.result c.self.invariant.counted c.in_ok-add_chunks.ensures.ok
    (c.len-count.ensures ∙ sym (length-map _ _)))
    ∙ ap (λ n. count_of c.args.self.now + n) c.len-count.ensures
