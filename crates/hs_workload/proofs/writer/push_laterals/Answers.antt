use Rattle.std.proofs.Common.{◌≡◌, ◌+◌, ◌++◌, ◌∷◌, [], ℕ, List, map, take, sym, ap, ◌∙◌}
use Rattle.hs_workload.proofs.Prelude.{map_push, TraceId, spaced, trace_word, spaced_more, spaced_one}
use Rattle.std.proofs.lemmas.List.{take_more}
use Rattle.std.proofs.lemmas.Option.{slice_get_within, get_or_from_slice_get}
use Rattle.hs_workload.proofs.writer.push_laterals.Goals as goal

pub loop-place-preserved : goal.loop-place-preserved
loop-place-preserved c =
    let word : TraceId → List ℕ = trace_word c.args.version in
    let all : List TraceId = c.args.laterals.now in
    let i : ℕ = c.loop-place.place in
    let trace : TraceId = c.in-Some.trace in
    let before : List ℕ = c.loop-place.out.items in
    let behind : List ℕ = c.push_spaced_trace.new.out.items in
    let is = sym c.in-Some.ensures in
    let next : take (i + 1) all ≡ take i all ++ trace ∷ [] =
    take_more all i trace (slice_get_within all i trace is) ∙ ap (λ (t : TraceId). take i all ++ t ∷ []) (get_or_from_slice_get all i trace trace is) in
    record {
      most = c.loop-place.invariant.most;
      text =
          spaced_more c.args.out.now.items before behind (map word (take i all)) (word trace ∷ []) c.loop-place.invariant.text (spaced_one before behind (word trace) c.in_ok-push_spaced_trace.ensures)
          ∙ ap (λ words. c.args.out.now.items ++ spaced words) (sym (map_push word (take i all) trace) ∙ ap (map word) (sym next));
    }
