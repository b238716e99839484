use Rattle.std.proofs.Common.{◌+◌, List, sym, subst}
use Rattle.hs_compare.proofs.Prelude.{workload_of, Script, AreFirstScripts}
use Rattle.hs_compare.proofs.Beginning.{script_more}
use Rattle.hs_compare.proofs.scripts.scripts_of.Goals as goal

pub loop-place-preserved : goal.loop-place-preserved
loop-place-preserved c =
    let W = workload_of c.args.workload.now in
    let place = c.loop-place.place in
    subst (λ (xs : List Script). AreFirstScripts W (place + 1) xs) (sym c.in_ok-append.ensures.ok)
    (script_more W place c.loop-place.scripts.items c.in_ok-place_script.field-0 c.loop-place.invariant c.in_ok-place_script.ensures)
