use Rattle.std.proofs.Common.{◌≡◌, ap₂, ◌∙◌}
use Rattle.hs_compare.proofs.Prelude.{IfOk-weaker, Line, line_by, line_of_sent, traces_of}
use Rattle.hs_compare.proofs.comparison.ring_line.Goals as goal

pub returns : goal.returns
returns c = λ all has sent.
    let ring = c.args.ring.now in
    let named = c.args.named.now in
    IfOk-weaker c.line_of.result (λ (line : Line). line ≡ line_by (traces_of all) named c.as_slice.result.now c.args.shipped) (λ (line : Line). line ≡ line_of_sent all named ring.traces)
    (λ line is. is ∙ ap₂ (line_by (traces_of all) named) (c.as_slice.ensures ∙ c.traces.ensures) sent) (c.line_of.ensures (traces_of all) has)
