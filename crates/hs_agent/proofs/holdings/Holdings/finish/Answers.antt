use Rattle.std.proofs.Common.{◌≡◌, cond, [], ◌++◌, map, ap, subst, ◌∙◌}
use Rattle.hs_agent.proofs.Prelude.{standing_by, Result, IfOk, buffer_of, agent_book_of, chunks_left, untagged, Kept, kept_in}
use Rattle.hs_agent.proofs.LeftOver.{if_ok-then, book_in, book_left, buffers_are_left}
use Rattle.hs_agent.proofs.holdings.Holdings.finish.Goals as goal

pub returns-clause-book : goal.returns-clause-book
returns-clause-book g c = λ point h.
    if_ok-then c.finished.result (λ finished e.
    ap agent_book_of e
    ∙ (λ i. record { node = c.self.inside.node; log = c.args.log.items; standings = c.into_list.ensures i; claims = c.into_list-2.ensures i; sent = c.into_list-3.ensures i })
    ∙ (λ i. record {
      node = c.self.inside.node;
      log = c.args.log.items;
      standings = cond c.self.inside.standings.keeps (map standing_by c.self.inside.standings.items) [];
      claims = cond (c.self.invariant.claims i) c.self.inside.claims.items [];
      sent = cond (c.self.invariant.pages i) c.self.inside.pages.items [];
    })
    ∙ ap (book_in {L = g.row.L.Denot} c.args.log.items) c.self.view_is ∙ book_left c.args.self point h c.args.log.items) c.finished.ensures.book

pub returns-clause-rest : goal.returns-clause-rest
returns-clause-rest g c = λ point h none.
    if_ok-then c.finished.result (λ finished is.
    subst (λ (r : Result _ _). IfOk r (λ rest. map (buffer_of {L = g.row.L.Denot} {g = g.L.Token}) rest.items ≡ map untagged (chunks_left (kept_in c.self.inside).index.touched ++ (kept_in c.self.inside).hand))) is c.rest_of-rest.ensures
    ∙ ap (λ (k : Kept g.row.L.Denot). map untagged (chunks_left k.index.touched ++ k.hand)) c.self.view_is ∙ buffers_are_left c.args.self point h none) c.finished.ensures.rest
