use Rattle.std.proofs.Common.{◌++◌, map, sym, ap, ◌∙◌}
use Rattle.hs_collect.proofs.Prelude.{wholes_of}
use Rattle.std.proofs.lemmas.List.{map-id}
use Rattle.std.proofs.lemmas.Iterator.Adapters.{YieldsList-from_vec, YieldsList-from_skip}
use Rattle.std.proofs.lemmas.Iterator.Consumers.{YieldsList-from_enumerate, YieldsList-end}
use Rattle.hs_collect.proofs.Placed.{begun, begun-rest}
use Rattle.hs_collect.proofs.records.TraceRecords.append.Goals as goal

pub returns : goal.returns
returns c =
    let all = YieldsList-from_skip {s = c.into_iter-place-iterator.result} c.args.joined (YieldsList-from_enumerate (YieldsList-from_vec c.args.points.items (cc) (cc)) (cc)) (cc) in
    let done = YieldsList-end all c.loop-place.yielded c.loop-place.place-iterator c.loop-place.yielded_by c.next.result c.next.new.self c.in-None.is c.next.ensures.steps in
    c.loop-place.invariant.wholes
    ∙ ap (λ more. wholes_of c.args.self.now ++ more) (ap (map (begun c.args.header)) (sym (map-id c.loop-place.yielded) ∙ done.0) ∙ begun-rest c.args.header c.args.joined c.args.points.items)
