use Rattle.std.proofs.Common.{rules, Fits, w32, ◌+◌, get_or, sym, ◌∙◌, arith}
use Rattle.std.proofs.lemmas.Option.{slice_get-get_or}
use Rattle.hs_agent.proofs.Needed.{own-few, named-one, named-more}
use Rattle.hs_agent.proofs.holdings.claiming.chunks_needed.Goals as goal

pub loop-place-init : goal.loop-place-init
loop-place-init g c =
    let lead = c.args.ask.now.group.lead in
    let one = named-one c.args.index.now.touched lead in
    let own = c.chunks_of-named.ensures in
    let few = own-few lead c.args.index.now.touched in
    let all = c.chunks-indexed.ensures.value in
    let fits : Fits w32 c.chunks-indexed.result = search rules in
    (own ∙ sym one, omega (arith, own, few, all, fits))

pub unreachable-requires : goal.unreachable-requires
unreachable-requires g c =
    let laterals = c.args.ask.now.laterals in
    let len = c.len-place-end.ensures.value in
    let below = c.loop-place-test.true in
    let lead = c.args.ask.now.group.lead in
    c.in_default.not-Some (get_or laterals c.loop-place.place lead) (c.get.ensures ∙ slice_get-get_or laterals c.loop-place.place lead (omega (arith, len, below)))

pub overflow_add-named : goal.overflow_add-named
overflow_add-named g c =
    let so_far = c.loop-place.invariant.1 in
    let len = c.len-place-end.ensures.value in
    let bound = c.len-place-end.ensures.bound in
    let below = c.loop-place-test.true in
    let own = c.chunks_of-named-in-loop-place.ensures in
    let few = own-few c.in-Some.trace c.args.index.now.touched in
    let all = c.chunks-indexed.ensures.value in
    let fits : Fits w32 c.chunks-indexed.result = search rules in
    omega (arith, so_far, len, bound, below, own, few, all, fits)

pub loop-place-preserved : goal.loop-place-preserved
loop-place-preserved g c =
    let so_far = c.loop-place.invariant.1 in
    let own = c.chunks_of-named-in-loop-place.ensures in
    let few = own-few c.in-Some.trace c.args.index.now.touched in
    let all = c.chunks-indexed.ensures.value in
    let fits : Fits w32 c.chunks-indexed.result = search rules in
    let more = named-more c.args.index.now.touched c.args.ask.now.group.lead c.args.ask.now.laterals c.loop-place.place c.in-Some.trace (sym c.get.ensures ∙ c.in-Some.is) in
    ((λ i. c.loop-place.invariant.0 i + own i) ∙ sym more, omega (arith, so_far, own, few, all, fits))
