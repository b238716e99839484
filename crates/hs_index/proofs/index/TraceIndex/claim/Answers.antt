use Rattle.std.proofs.Common.{◌≡◌, length, ap, ◌∙◌, arith}
use Rattle.hs_index.specs.Index.{count_chunks, others}
use Rattle.hs_index.proofs.Evicting.{length-others, count-others}
use Rattle.hs_index.proofs.index.TraceIndex.claim.Goals as goal

pub invariant_of-self : goal.invariant_of-self
invariant_of-self g c =
    let left : c.take.new.self.traces ≡ others c.args.trace c.self.inside.recent.traces = c.take.ensures.others in
    record {
      chunks =
          let counted = ap count_chunks left in
          let fewer = count-others c.args.trace c.self.inside.recent.traces in
          let most = c.self.invariant.chunks in
          omega (arith, counted, fewer, most);
      traces =
          let long = ap length left in
          let fewer = length-others c.args.trace c.self.inside.recent.traces in
          let most = c.self.invariant.traces in
          omega (arith, long, fewer, most);
      room = c.take.ensures.room ∙ c.self.invariant.room;
    }

pub returns-clause-within : goal.returns-clause-within
returns-clause-within g c = let now = invariant_of-self g c in record { chunks = now.chunks; traces = now.traces }
