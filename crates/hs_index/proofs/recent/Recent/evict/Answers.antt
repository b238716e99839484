use Rattle.std.proofs.Common.{List, ◌≡◌, true, false, ◌+◌, ◌≤◌, ◌∷◌, length, map, sym, ap, subst, ◌∙◌, arith}
use Rattle.hs_index.specs.Index.{Indexed, chunk_count, count_chunks, is_over, leaving, leaving_of, kept, evicted}
use Rattle.hs_index.specs.Touched.{indexed}
use Rattle.hs_index.proofs.Evicting.{within-not-over, over-by-chunks, over-by-traces, all-stay, none-go, full-goes, full-leaves}
use Rattle.hs_index.proofs.recent.Recent.evict.Goals as goal
use Rattle.hs_index.proofs.recent.Recent.evict.Goals.{then-chunks-threshold, else-chunks-threshold+then-traces-most}

pub returns-then-len-gt0-clause-gone : goal.returns-then-len-gt0-clause-gone
returns-then-len-gt0-clause-gone g c =
    let all : c.loop-self.self.traces ≡ indexed (c.in-Some.field-0-0, c.in-Some.entry) ∷ c.take_oldest.new.self.traces = c.in-Some.ensures.some in
    let over : is_over c.args.threshold c.args.most c.loop-self.self.traces ≡ true =
    elim c.if-chunks-threshold.branch [
      | then-chunks-threshold w ↦ over-by-chunks c.args.threshold c.args.most c.loop-self.self.traces (let more = w.if-chunks-threshold.true in let is = c.chunks.ensures in omega (arith, more, is))
      | else-chunks-threshold+then-traces-most w ↦ over-by-traces c.args.threshold c.args.most c.loop-self.self.traces (let more = w.if-traces-most.true in let is = w.traces.ensures in omega (arith, more, is))
    ] in
    let chunks : c.chunks-chunks.result ≡ count_chunks (indexed (c.in-Some.field-0-0, c.in-Some.entry) ∷ c.take_oldest.new.self.traces) = c.chunks-chunks.ensures ∙ ap count_chunks all in
    let traces : c.traces-traces.result ≡ length (indexed (c.in-Some.field-0-0, c.in-Some.entry) ∷ c.take_oldest.new.self.traces) = c.traces-traces.ensures ∙ ap length all in
    c.into_gone.ensures
    ∙ ap (λ n. map (leaving n c.traces-traces.result) c.in-Some.entry.chunks) chunks
    ∙ ap (λ n. map (leaving (count_chunks (indexed (c.in-Some.field-0-0, c.in-Some.entry) ∷ c.take_oldest.new.self.traces)) n) c.in-Some.entry.chunks) traces
    ∙ sym (full-goes c.args.threshold c.args.most (indexed (c.in-Some.field-0-0, c.in-Some.entry)) c.take_oldest.new.self.traces
    (ap (is_over c.args.threshold c.args.most) (sym all) ∙ over)
    (let some = c.if-len-gt0.true in let is : c.len.result ≡ chunk_count c.in-Some.entry = c.len.ensures in omega (arith, some, is))
    (subst (λ (l : List (Indexed g.row.L.Denot)). count_chunks l ≤ c.args.threshold + 1) all c.loop-self.invariant.2)
    (subst (λ (l : List (Indexed g.row.L.Denot)). length l ≤ c.args.most + 1) all c.loop-self.invariant.3))
    ∙ ap (evicted c.args.threshold c.args.most) (sym all)
    ∙ c.loop-self.invariant.0

pub returns-then-len-gt0-clause-stay : goal.returns-then-len-gt0-clause-stay
returns-then-len-gt0-clause-stay g c =
    let all : c.loop-self.self.traces ≡ indexed (c.in-Some.field-0-0, c.in-Some.entry) ∷ c.take_oldest.new.self.traces = c.in-Some.ensures.some in
    let over : is_over c.args.threshold c.args.most c.loop-self.self.traces ≡ true =
    elim c.if-chunks-threshold.branch [
      | then-chunks-threshold w ↦ over-by-chunks c.args.threshold c.args.most c.loop-self.self.traces (let more = w.if-chunks-threshold.true in let is = c.chunks.ensures in omega (arith, more, is))
      | else-chunks-threshold+then-traces-most w ↦ over-by-traces c.args.threshold c.args.most c.loop-self.self.traces (let more = w.if-traces-most.true in let is = w.traces.ensures in omega (arith, more, is))
    ] in
    sym (full-leaves c.args.threshold c.args.most (indexed (c.in-Some.field-0-0, c.in-Some.entry)) c.take_oldest.new.self.traces
    (ap (is_over c.args.threshold c.args.most) (sym all) ∙ over)
    (let some = c.if-len-gt0.true in let is : c.len.result ≡ chunk_count c.in-Some.entry = c.len.ensures in omega (arith, some, is))
    (subst (λ (l : List (Indexed g.row.L.Denot)). count_chunks l ≤ c.args.threshold + 1) all c.loop-self.invariant.2)
    (subst (λ (l : List (Indexed g.row.L.Denot)). length l ≤ c.args.most + 1) all c.loop-self.invariant.3))
    ∙ ap (kept c.args.threshold c.args.most) (sym all)
    ∙ c.loop-self.invariant.1

pub returns-clause-gone : goal.returns-clause-gone
returns-clause-gone g c =
    let within : is_over c.args.threshold c.args.most c.loop-self.self.traces ≡ false =
    within-not-over c.args.threshold c.args.most c.loop-self.self.traces
    (let few = c.if-chunks-threshold.false in let is = c.chunks.ensures in omega (arith, few, is))
    (let few = c.if-traces-most.false in let is = c.traces.ensures in omega (arith, few, is)) in
    ap (map (leaving_of {L = g.row.L.Denot} {g = g.L.Token})) c.new.ensures.items
    ∙ sym (none-go c.args.threshold c.args.most c.loop-self.self.traces within)
    ∙ c.loop-self.invariant.0

pub returns-clause-stay : goal.returns-clause-stay
returns-clause-stay g c =
    let within : is_over c.args.threshold c.args.most c.loop-self.self.traces ≡ false =
    within-not-over c.args.threshold c.args.most c.loop-self.self.traces
    (let few = c.if-chunks-threshold.false in let is = c.chunks.ensures in omega (arith, few, is))
    (let few = c.if-traces-most.false in let is = c.traces.ensures in omega (arith, few, is)) in
    sym (all-stay c.args.threshold c.args.most c.loop-self.self.traces within)
    ∙ c.loop-self.invariant.1
