use Rattle.std.proofs.Common.{◌≡◌, List, length, filter, sym, ap, ap₂, ◌∙◌, subst, arith}
use Rattle.hs_compare.proofs.Prelude.{TraceId, AreCounted, is_counted, line_by, traces_of}
use Rattle.hs_compare.specs.Counting.{HasCountsOf}
use Rattle.hs_compare.proofs.Known.{known_counts}
use Rattle.hs_compare.proofs.Together.{kept_few, known_few, together}
use Rattle.hs_compare.proofs.comparison.compared_by.Goals as goal

pub head_line-requires-clause-known : goal.head_line-requires-clause-known
head_line-requires-clause-known c =
    let counts = c.args.counts.now.entries in
    let are = subst (λ (ts : List TraceId). AreCounted ts counts) c.requires.traces c.requires.counted in
    known_few c.args.all.now c.args.ring.now.named counts are c.as_slice-named.result.now (c.as_slice-named.ensures.value ∙ c.in_ok-known.ensures ∙ ap (filter (is_counted counts)) c.named.ensures) c.requires.once
    c.requires.few

pub counted_line-requires-clause-named : goal.counted_line-requires-clause-named
counted_line-requires-clause-named c =
    let counts = c.args.counts.now.entries in
    let are = subst (λ (ts : List TraceId). AreCounted ts counts) c.requires.traces c.requires.counted in
    known_few c.args.all.now c.args.ring.now.named counts are c.as_slice-named.result.now (c.as_slice-named.ensures.value ∙ c.in_ok-known.ensures ∙ ap (filter (is_counted counts)) c.named.ensures) c.requires.once
    c.requires.few

pub ring_line-requires-clause-known : goal.ring_line-requires-clause-known
ring_line-requires-clause-known c =
    let counts = c.args.counts.now.entries in
    let are = subst (λ (ts : List TraceId). AreCounted ts counts) c.requires.traces c.requires.counted in
    known_few c.args.all.now c.args.ring.now.named counts are c.as_slice-named.result.now (c.as_slice-named.ensures.value ∙ c.in_ok-known.ensures ∙ ap (filter (is_counted counts)) c.named.ensures) c.requires.once
    c.requires.few

pub hindsight_line-requires-clause-known : goal.hindsight_line-requires-clause-known
hindsight_line-requires-clause-known c =
    let counts = c.args.counts.now.entries in
    let are = subst (λ (ts : List TraceId). AreCounted ts counts) c.requires.traces c.requires.counted in
    known_few c.args.all.now c.args.ring.now.named counts are c.as_slice-named.result.now (c.as_slice-named.ensures.value ∙ c.in_ok-known.ensures ∙ ap (filter (is_counted counts)) c.named.ensures) c.requires.once
    c.requires.few

pub counted_line-requires-clause-kept : goal.counted_line-requires-clause-kept
counted_line-requires-clause-kept c =
    let counts = c.args.counts.now.entries in
    omega (arith, ap length c.requires.traces, kept_few c.args.all.now c.args.ring.now.named counts (subst (λ (ts : List TraceId). AreCounted ts counts) c.requires.traces c.requires.counted) c.requires.few)

pub returns : goal.returns
returns c = λ claimed gap limited.
    let all = c.args.all.now in
    let traces = traces_of all in
    let ring = c.args.ring.now in
    let counts = c.args.counts.now.entries in
    let some = c.as_slice-named.result.now in
    let are = subst (λ (ts : List TraceId). AreCounted ts counts) c.requires.traces c.requires.counted in
    let named : some ≡ filter (is_counted counts) ring.named = c.as_slice-named.ensures.value ∙ c.in_ok-known.ensures ∙ ap (filter (is_counted counts)) c.named.ensures in
    let has = subst (λ (ns : List TraceId). HasCountsOf ns traces counts) (sym named) (known_counts ring.named all counts are) in
    together all ring.named counts are c.args.one_in ring.traces c.args.entries.now claimed some
    c.in_ok-head_line.field-0 c.counted_line.result c.in_ok-ring_line.field-0 c.in_ok-hindsight_line.field-0 c.args.rest.gap c.args.rest.limited named
    (c.in_ok-head_line.ensures has) (c.counted_line.ensures traces has ∙ ap₂ (line_by traces some) c.requires.traces c.all_bytes-shipped.ensures)
    (c.in_ok-ring_line.ensures all has c.all_bytes-shipped.ensures) (c.in_ok-hindsight_line.ensures has) gap limited
