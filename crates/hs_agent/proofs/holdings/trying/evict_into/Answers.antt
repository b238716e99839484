use Rattle.std.proofs.Common.{◌≡◌, List, [], ◌∷◌, ◌++◌, length, map, sym, ap, ◌∙◌, arith}
use Rattle.std.proofs.lemmas.Iterator.Adapters.{YieldsList-from_vec}
use Rattle.std.proofs.lemmas.Iterator.Consumers.{YieldsList-end}
use Rattle.std.proofs.lemmas.List.{map-id}
use Rattle.hs_agent.proofs.Prelude.{append_assoc, map-append, length-append, Going, going_of, leaving_of, evicted_going, buffer_of}
use Rattle.hs_agent.specs.Trying.{lefts_noted}
use Rattle.hs_agent.proofs.Emptying.{goings_more, noted_more, placed_again}
use Rattle.hs_agent.proofs.holdings.trying.evict_into.Goals as goal

pub loop-leaving-preserved : goal.loop-leaving-preserved
loop-leaving-preserved g c =
    let so_far = c.loop-leaving.invariant in
    let goes : List (Going g.row.L.Denot) = map evicted_going (map leaving_of c.loop-leaving.yielded) in
    let going : Going g.row.L.Denot = evicted_going (leaving_of c.in-Some.leaving) in
    let more : map evicted_going (map leaving_of (c.loop-leaving.yielded ++ c.in-Some.leaving ∷ [])) ≡ goes ++ going ∷ [] = goings_more evicted_going leaving_of c.loop-leaving.yielded c.in-Some.leaving in
    let noted = noted_more c.args.standings.now.items goes going c.loop-leaving.standings.items c.leave.new.self.items c.apart-held.result.1.0 so_far.3 c.apart-held.ensures.place c.leave.ensures.items in
    let len = c.push_back_reserved.ensures.len in
    let before = so_far.5 in
    let one = length-append c.loop-leaving.yielded (c.in-Some.leaving ∷ []) in (
      tt,
      tt,
      c.leave.ensures.keeps ∙ so_far.2,
      noted ∙ ap (lefts_noted c.args.standings.now.items) (sym more),
      ap (map (going_of {L = g.row.L.Denot} {g = g.L.Token})) c.push_back_reserved.ensures.items
          ∙ map-append (going_of {L = g.row.L.Denot} {g = g.L.Token}) c.loop-leaving.hand.items _
          ∙ (λ i. so_far.4 i ++ record { buffer = placed_again c.apart-held.result.1.0 (buffer_of {L = g.row.L.Denot} {g = g.L.Token} c.apart-held.result.0) going.buffer c.apart-held.ensures.held c.apart-held.ensures.place i; left = going.left } ∷ [])
          ∙ append_assoc (map (going_of {L = g.row.L.Denot} {g = g.L.Token}) c.args.hand.now.items) goes (going ∷ [])
          ∙ ap (λ l. map (going_of {L = g.row.L.Denot} {g = g.L.Token}) c.args.hand.now.items ++ l) (sym more),
      omega (arith, len, before, one),
      c.push_back_reserved.ensures.capacity ∙ so_far.6,
    )

pub returns-clause-lefts : goal.returns-clause-lefts
returns-clause-lefts g c =
    let all = YieldsList-from_vec {s = c.into_iter-leaving-iterator.result} c.args.gone.items (c.into_iter-leaving-iterator.ensures.into_iter_gives.0 ∙ c.into_vec-leaving-items.ensures.items)
    (c.into_iter-leaving-iterator.ensures.into_iter_gives.1 ∙ c.into_vec-leaving-items.result.ok.0 ∙ ap length c.into_vec-leaving-items.ensures.items) in
    let done = YieldsList-end all c.loop-leaving.yielded c.loop-leaving.leaving-iterator c.loop-leaving.yielded_by c.next.result c.next.new.self c.in-None.is c.next.ensures.steps in
    c.loop-leaving.invariant.3 ∙ ap (λ l. lefts_noted c.args.standings.now.items (map evicted_going (map leaving_of l))) (sym (map-id c.loop-leaving.yielded) ∙ done.0)

pub returns-clause-hand : goal.returns-clause-hand
returns-clause-hand g c =
    let all = YieldsList-from_vec {s = c.into_iter-leaving-iterator.result} c.args.gone.items (c.into_iter-leaving-iterator.ensures.into_iter_gives.0 ∙ c.into_vec-leaving-items.ensures.items)
    (c.into_iter-leaving-iterator.ensures.into_iter_gives.1 ∙ c.into_vec-leaving-items.result.ok.0 ∙ ap length c.into_vec-leaving-items.ensures.items) in
    let done = YieldsList-end all c.loop-leaving.yielded c.loop-leaving.leaving-iterator c.loop-leaving.yielded_by c.next.result c.next.new.self c.in-None.is c.next.ensures.steps in
    c.loop-leaving.invariant.4
    ∙ ap (λ l. map (going_of {L = g.row.L.Denot} {g = g.L.Token}) c.args.hand.now.items ++ map evicted_going (map leaving_of l)) (sym (map-id c.loop-leaving.yielded) ∙ done.0)

pub returns-clause-len : goal.returns-clause-len
returns-clause-len g c =
    let all = YieldsList-from_vec {s = c.into_iter-leaving-iterator.result} c.args.gone.items (c.into_iter-leaving-iterator.ensures.into_iter_gives.0 ∙ c.into_vec-leaving-items.ensures.items)
    (c.into_iter-leaving-iterator.ensures.into_iter_gives.1 ∙ c.into_vec-leaving-items.result.ok.0 ∙ ap length c.into_vec-leaving-items.ensures.items) in
    let done = YieldsList-end all c.loop-leaving.yielded c.loop-leaving.leaving-iterator c.loop-leaving.yielded_by c.next.result c.next.new.self c.in-None.is c.next.ensures.steps in
    let len = c.loop-leaving.invariant.5 in
    let same = done.1 in
    omega (arith, len, same)
