use Rattle.std.proofs.Common.{length, ap, ◌∙◌, arith}
use Rattle.hs_compare.proofs.Prelude.{alive}
use Rattle.hs_compare.proofs.Rings.{alive_twice}
use Rattle.hs_compare.proofs.ring.make_place.Goals as goal

pub returns-then-is_full-clause-alive : goal.returns-then-is_full-clause-alive
returns-then-is_full-clause-alive c = ap (alive c.args.named.now.keys) c.clear_dead.ensures.alive ∙ alive_twice c.args.named.now.keys c.args.ring.now.items

pub returns-then-is_full-clause-place : goal.returns-then-is_full-clause-place
returns-then-is_full-clause-place c = omega (arith, ap length c.clear_dead.ensures.alive, c.clear_dead.ensures.capacity, c.requires.room)
