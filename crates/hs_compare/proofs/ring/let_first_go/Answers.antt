use Rattle.std.proofs.Common.{List, ◌++◌, drop, sym, ap, ◌∙◌, subst}
use Rattle.hs_compare.proofs.Prelude.{TracedRecord, alive, AreQueued}
use Rattle.hs_compare.proofs.Queued.{queued-less}
use Rattle.hs_compare.proofs.ring.let_first_go.Goals as goal

pub returns-in-Some-clause-alive : goal.returns-in-Some-clause-alive
returns-in-Some-clause-alive c = sym (ap (drop 1) c.in-Some.ensures.alive)

pub returns-in-Some-clause-queued : goal.returns-in-Some-clause-queued
returns-in-Some-clause-queued c = λ behind are.
    queued-less c.args.queues.now.entries c.leave.new.queues.entries c.in-Some.noted (alive c.args.named.now.keys c.first_alive.new.ring.items ++ behind)
    (subst (AreQueued c.args.queues.now.entries) (ap (λ (xs : List TracedRecord). xs ++ behind) c.in-Some.ensures.alive) are) c.leave.ensures

pub returns-in_default-clause-alive : goal.returns-in_default-clause-alive
returns-in_default-clause-alive c = c.in_default.ensures.none ∙ sym (ap (drop 1) (c.in_default.ensures.alive ∙ c.in_default.ensures.none))

pub returns-in_default-clause-queued : goal.returns-in_default-clause-queued
returns-in_default-clause-queued c = λ behind are.
    subst (AreQueued c.args.queues.now.entries) (ap (λ (xs : List TracedRecord). xs ++ behind) c.in_default.ensures.alive) are
