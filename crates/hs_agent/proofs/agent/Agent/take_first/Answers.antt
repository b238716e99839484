use Rattle.std.proofs.Common.{◌≡◌, None, sym, ap, subst, ◌∙◌}
use Rattle.hs_agent.proofs.Prelude.{on_ok_weaker, PlainAgent, Holds, point_of}
use Rattle.hs_agent.proofs.Offered.{offers-first, offers-empty, offers-holds}
use Rattle.hs_agent.proofs.Following.{follows-offered, one_place}
use Rattle.hs_agent.proofs.agent.Agent.take_first.Goals as goal

pub returns-clause-first : goal.returns-clause-first
returns-clause-first g c = λ run follows.
    let kept = c.self.inside.holdings in
    let h : Holds kept (point_of run) = subst (λ (k : PlainAgent g.row.L.Denot). Holds k.kept (point_of run)) (sym c.self.view_is) follows.stands.chunks in
    let none : run.offered ≡ None = sym follows.stands.chunks.offered ∙ c.requires.1.stands.chunks.offered ∙ c.requires.2 in
    offers-first kept c.offer.new.self (point_of run) h (one_place c.lists_go_on.ensures c.args.self.now run follows) none {g = g.L.Token} c.offer.result c.offer.ensures.some c.offer.ensures.none

pub returns-clause-empty : goal.returns-clause-empty
returns-clause-empty g c = λ run follows.
    let kept = c.self.inside.holdings in
    let h : Holds kept (point_of run) = subst (λ (k : PlainAgent g.row.L.Denot). Holds k.kept (point_of run)) (sym c.self.view_is) follows.stands.chunks in
    let none : run.offered ≡ None = sym follows.stands.chunks.offered ∙ c.requires.1.stands.chunks.offered ∙ c.requires.2 in
    offers-empty kept c.offer.new.self (point_of run) h (one_place c.lists_go_on.ensures c.args.self.now run follows) none {g = g.L.Token} c.offer.result c.offer.ensures.none

pub returns-clause-after : goal.returns-clause-after
returns-clause-after g c = λ run follows.
    let kept = c.self.inside.holdings in
    let h : Holds kept (point_of run) = subst (λ (k : PlainAgent g.row.L.Denot). Holds k.kept (point_of run)) (sym c.self.view_is) follows.stands.chunks in
    let none : run.offered ≡ None = sym follows.stands.chunks.offered ∙ c.requires.1.stands.chunks.offered ∙ c.requires.2 in
    let next : PlainAgent g.row.L.Denot = record { kept = c.offer.new.self; schedule = c.self.inside.scheduler; log = c.room_for.new.log.items; keeps = c.self.inside.keeps; spent = c.self.inside.spent } in
    on_ok_weaker c.offer.result
    (follows-offered c.args.self.now next run follows (ap (λ (k : PlainAgent g.row.L.Denot). k.schedule) c.self.view_is) (c.in_ok-room_for.ensures.items ∙ ap (λ (k : PlainAgent g.row.L.Denot). k.log) c.self.view_is) (ap (λ (k : PlainAgent g.row.L.Denot). k.keeps) c.self.view_is) (ap (λ (k : PlainAgent g.row.L.Denot). k.spent) c.self.view_is))
    (offers-holds kept c.offer.new.self (point_of run) h (one_place c.lists_go_on.ensures c.args.self.now run follows) none {g = g.L.Token} c.offer.result c.offer.ensures.some c.offer.ensures.none)
