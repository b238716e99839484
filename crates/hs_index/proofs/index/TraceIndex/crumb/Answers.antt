use Rattle.std.proofs.Common.{◌≡◌, ◌≤◌, length, ap, subst, List, sym, ◌∙◌, arith}
use Rattle.std.proofs.lemmas.List.{length-map}
use Rattle.hs_index.specs.Index.{Index, Indexed, evicted, leaving_of, noted_of, with_crumb, count_chunks}
use Rattle.hs_index.proofs.Evicting.{count-parts, count-touch, length-touch, count-kept, length-kept, count-split}
use Rattle.hs_index.proofs.index.TraceIndex.crumb.Goals as goal

pub evict-requires-clause-chunks : goal.evict-requires-clause-chunks
evict-requires-clause-chunks g c =
    let old = c.self.inside.recent.traces in
    let counted = ap count_chunks c.in_ok-add_crumb.ensures.ok in
    let last = count-touch c.args.crumb.trace (with_crumb (noted_of c.args.crumb.trace old) c.args.crumb.node) old in
    let parts = count-parts c.args.crumb.trace old in
    let most = c.self.invariant.chunks in
    omega (arith, counted, last, parts, most)

pub evict-requires-clause-traces : goal.evict-requires-clause-traces
evict-requires-clause-traces g c =
    let old = c.self.inside.recent.traces in
    let long = ap length c.in_ok-add_crumb.ensures.ok in
    let last = length-touch c.args.crumb.trace (with_crumb (noted_of c.args.crumb.trace old) c.args.crumb.node) old in
    let most = c.self.invariant.traces in
    omega (arith, long, last, most)

pub invariant_of-self-2 : goal.invariant_of-self-2
invariant_of-self-2 g c = record {
  chunks = subst (λ (l : List (Indexed g.row.L.Denot)). count_chunks l ≤ c.self.inside.threshold) (sym c.evict.ensures.stay) (count-kept c.self.inside.threshold c.self.inside.most c.add_crumb.new.self.traces);
  traces = subst (λ (l : List (Indexed g.row.L.Denot)). length l ≤ c.self.inside.most) (sym c.evict.ensures.stay) (length-kept c.self.inside.threshold c.self.inside.most c.add_crumb.new.self.traces);
  room = c.evict.ensures.room ∙ c.in_ok-add_crumb.ensures.room ∙ c.self.invariant.room;
}

pub returns-clause-within : goal.returns-clause-within
returns-clause-within g c = let now = invariant_of-self-2 g c in record { chunks = now.chunks; traces = now.traces }

pub returns-clause-count : goal.returns-clause-count
returns-clause-count g c =
    let split = count-split c.self.inside.threshold c.self.inside.most c.add_crumb.new.self.traces in
    let stay = ap count_chunks c.evict.ensures.stay in
    let long : length c.evict.result.items ≡ length (evicted c.self.inside.threshold c.self.inside.most c.add_crumb.new.self.traces) =
    sym (length-map c.evict.result.items (leaving_of {L = g.row.L.Denot} {g = g.L.Token})) ∙ ap length c.evict.ensures.gone in
    let more = c.in_ok-add_crumb.ensures.count in
    let seen = ap (λ (i : Index g.row.L.Denot). count_chunks i.touched) c.self.view_is in
    omega (arith, split, stay, long, more, seen)
