use Rattle.std.proofs.Common.{◌≡◌, ℕ, suc, ◌+◌, List, [], ◌∷◌, ◌++◌, length, take, Some, slice_get, add-one, sym, ap, subst, ◌∙◌, arith}
use Rattle.hs_wire.proofs.Prelude.{flat_map, TraceId, trace_bytes, FitTraces, traces_bytes}
use Rattle.std.proofs.lemmas.List.{take_all}
use Rattle.hs_wire.proofs.Putting.{puts_then, puts_as}
use Rattle.hs_wire.proofs.Loops.{wrote_more, fits_more}
use Rattle.hs_wire.proofs.writing.put_laterals.Goals as goal

pub loop-place-init : goal.loop-place-init
loop-place-init c = record { puts = puts_as c.put_u8-end.ensures.puts (ap (λ (n : ℕ). n ∷ []) c.len-count.ensures.value); end = omega (arith, c.put_u8-end.ensures.end); fits = tt }

pub loop-place-preserved : goal.loop-place-preserved
loop-place-preserved c =
    let laterals = c.args.laterals.now in
    let place = c.loop-place.place in
    let trace = c.in-Some.field-0 in
    let here : slice_get laterals place ≡ Some trace = sym c.get.ensures ∙ c.in-Some.is in
    let next : suc place ≡ place + 1 = sym (add-one place) in
    let more : flat_map trace_bytes (take place laterals) ++ trace_bytes trace ≡ flat_map trace_bytes (take (place + 1) laterals) =
    wrote_more laterals place trace here ∙ ap (λ n. flat_map trace_bytes (take n laterals)) next in
    record {
      puts = puts_as (puts_then c.loop-place.invariant.puts c.put_u128-end.ensures.puts) (ap (λ (text : List ℕ). length laterals ∷ text) more);
      end = omega (arith, c.put_u128-end.ensures.end, c.loop-place.invariant.end);
      fits = subst (λ n. FitTraces (take n laterals)) next (fits_more laterals place trace here c.loop-place.invariant.fits c.put_u128-end.ensures.fits);
    }

pub returns : goal.returns
unfolding traces_bytes
returns c =
    let laterals = c.args.laterals.now in
    let all : take c.loop-place.place laterals ≡ laterals = take_all c.loop-place.place laterals (omega (arith, c.loop-place-test.false, c.len-count.ensures.value)) in
    record {
      puts = puts_as c.loop-place.invariant.puts (ap (λ (traces : List TraceId). length laterals ∷ flat_map trace_bytes traces) all);
      fits = record { few = omega (arith, c.len-count.ensures.value, c.len-count.ensures.bound); fit = subst FitTraces all c.loop-place.invariant.fits };
    }
