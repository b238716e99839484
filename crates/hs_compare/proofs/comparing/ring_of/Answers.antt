use Rattle.std.proofs.Common.{sym, subst, ap₂, ◌∙◌}
use Rattle.hs_compare.proofs.Prelude.{workload_of, AreScripts, all_rounds, rings_after}
use Rattle.hs_compare.proofs.Ordered.{scripts_sound}
use Rattle.hs_compare.proofs.Outcomed.{walked_ring}
use Rattle.hs_compare.proofs.comparing.ring_of.Goals as goal

pub walk-requires-clause-sound : goal.walk-requires-clause-sound
walk-requires-clause-sound c =
    let W = workload_of c.args.workload.now in
    scripts_sound W c.as_slice.result.now (subst (AreScripts W) (sym c.as_slice.ensures) c.in_ok-scripts.ensures)

pub walk-requires-clause-fits : goal.walk-requires-clause-fits
walk-requires-clause-fits c = c.count_rounds-rounds.ensures.fits

pub returns : goal.returns
returns c =
    let W = workload_of c.args.workload.now in
    c.in_ok-walk.ensures ∙ ap₂ (λ ring n. rings_after ring (all_rounds W.settings.stride c.as_slice.result.now n)) c.in_ok-ring.ensures c.count_rounds-rounds.ensures.rounds
    ∙ walked_ring W c.args.room c.as_slice.result.now (subst (AreScripts W) (sym c.as_slice.ensures) c.in_ok-scripts.ensures)
