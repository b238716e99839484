use Rattle.std.proofs.Common.{◌≡◌, List, None, sym, ap, subst, ◌∙◌}
use Rattle.hs_agent.proofs.Prelude.{IfOk, agent_book_of, Step, PlainAgent, Holds, point_of, state_of}
use Rattle.hs_agent.specs.Points.{book_kept}
use Rattle.hs_agent.specs.Runs.{log_of}
use Rattle.hs_agent.proofs.Following.{one_place}
use Rattle.hs_agent.proofs.agent.Agent.finish.Goals as goal

pub finish-requires : goal.finish-requires
finish-requires g c =
    let known = c.requires (sym (ap (λ (k : PlainAgent g.row.L.Denot). k.spent) c.self.view_is) ∙ c.if-self.false) in
    let run = known.0 in
    let h : Holds c.self.inside.holdings (point_of run) = subst (λ (k : PlainAgent g.row.L.Denot). Holds k.kept (point_of run)) (sym c.self.view_is) known.1.stands.chunks in
    (point_of run, h, (known.2.1, one_place c.lists_go_on.ensures c.args.self run known.1))

pub returns-clause-book : goal.returns-clause-book
returns-clause-book g c = λ run follows.
    let h : Holds c.self.inside.holdings (point_of run) = subst (λ (k : PlainAgent g.row.L.Denot). Holds k.kept (point_of run)) (sym c.self.view_is) follows.stands.chunks in
    let log : c.self.inside.log.items ≡ log_of run = ap (λ (k : PlainAgent g.row.L.Denot). k.log) c.self.view_is ∙ follows.log in
    subst (λ (l : List Step). IfOk c.finish.result (λ finished. agent_book_of finished.book ≡ record (book_kept run.keeps run.node (state_of run)) { log = l })) log (c.finish.ensures.book (point_of run) h)

pub returns-clause-rest : goal.returns-clause-rest
returns-clause-rest g c = λ run follows.
    let h : Holds c.self.inside.holdings (point_of run) = subst (λ (k : PlainAgent g.row.L.Denot). Holds k.kept (point_of run)) (sym c.self.view_is) follows.stands.chunks in
    let known = c.requires follows.working in
    let none : run.offered ≡ None = sym follows.stands.chunks.offered ∙ known.1.stands.chunks.offered ∙ known.2.1 in
    c.finish.ensures.rest (point_of run) h none
