use Rattle.std.proofs.Common.{◌≡◌, false, [], sym, ◌∙◌, arith}
use Rattle.hs_base.proofs.Alls.{all_always}
use Rattle.hs_base.proofs.Filters.{filter_none}
use Rattle.hs_report.proofs.Prelude.{TraceId, filter, filter-append, has_entry}
use Rattle.hs_base.proofs.Loops.{loop_more_at}
use Rattle.hs_report.proofs.writing.reported_traces.Goals as goal

pub loop-trace-preserved : goal.loop-trace-preserved
loop-trace-preserved c = λ entries are.
    loop_more_at (filter (has_entry entries)) (filter-append (has_entry entries)) c.args.claimed.now c.loop-trace.trace-index _ [] c.loop-trace.traces.items c.push_trace.new.traces.items (omega arith)
    (c.loop-trace.invariant entries are) (c.in_ok-push_trace.ensures entries are)

pub returns-then-is_empty : goal.returns-then-is_empty
returns-then-is_empty c = λ entries are.
    let claimed = c.args.claimed.now in
    c.new-traces.ensures.items ∙ sym (filter_none (has_entry entries) claimed (all_always (λ (trace : TraceId). has_entry entries trace ≡ false) claimed (λ trace. c.is_empty.ensures c.if-is_empty.true entries are trace)))
