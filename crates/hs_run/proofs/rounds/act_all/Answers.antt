use Rattle.std.proofs.Common.{◌≡◌, Some, sym, ap, subst, ◌∙◌, arith, rules}
use Rattle.hs_run.proofs.Prelude.{slice_get-get_or, slice_get_within, serving, ActingNode}
use Rattle.std.proofs.lemmas.Option.{get_or_from_slice_get}
use Rattle.hs_run.specs.Nodes.{HasActedAt}
use Rattle.hs_run.proofs.rounds.act_all.Goals as goal

pub for_each_mut-requires-clause-accepts : goal.for_each_mut-requires-clause-accepts
for_each_mut-requires-clause-accepts g c κs inner = λ i p low at. (
  c.requires.each i p.now (slice_get-get_or c.args.nodes.now i p.now low ∙ ap (λ (x : ActingNode). Some x) (sym at)),
  (first_of (search rules, grind serving), first_of (search rules, grind serving)),
)

pub returns : goal.returns
returns g c =
    let w = c.args.workload.now in
    let old = c.args.nodes.now in
    let new = c.for_each_mut.new.s in
    record {
      count = let same = c.for_each_mut.auto.s in omega (arith, same);
      each = λ place x y at at'.
          let h = (c.for_each_mut.ensures place x (slice_get_within old place x at)).1 in
          let a : h.argument.now ≡ x = h.argument_is ∙ get_or_from_slice_get old place x x at in
          let b : h.after_call.now ≡ y = h.left ∙ get_or_from_slice_get new place y x at' in
          subst (λ (z : ActingNode). HasActedAt w place x z) b (subst (λ (z : ActingNode). HasActedAt w place z h.after_call.now) a h.call);
    }
