use Rattle.std.proofs.Common.{Option, Some, None, sym, subst}
use Rattle.std.specs.Prelude.{IfNone}
use Rattle.hs_agent.proofs.Prelude.{IfSome, PlainAgent, Holds, point_of}
use Rattle.hs_agent.proofs.Following.{one_place}
use Rattle.hs_agent.proofs.Leading.{none_there, is_first}
use Rattle.hs_agent.proofs.agent.Agent.first.Goals as goal

if_some-then : {A : Type 0} {P Q : A → Type 0} (o : Option A) → ((x : A) → P x → Q x) → IfSome o P → IfSome o Q
if_some-then None f p = tt
if_some-then (Some x) f p = f x p

if_none-then : {A : Type 0} {P Q : Type 0} (o : Option A) → (P → Q) → IfNone o P → IfNone o Q
if_none-then None f p = f p
if_none-then (Some x) f p = tt

pub returns-clause-first : goal.returns-clause-first
returns-clause-first g c = λ run follows none.
    let h : Holds c.self.inside.holdings (point_of run) = subst (λ (k : PlainAgent g.row.L.Denot). Holds k.kept (point_of run)) (sym c.self.view_is) follows.stands.chunks in
    let one = one_place c.lists_go_on.ensures c.args.self.now run follows in
    if_some-then c.first.result (λ first leads. is_first c.self.inside.holdings run h one none first.chunk.now first.lease.now first.left first.again leads) c.first.ensures.some

pub returns-clause-empty : goal.returns-clause-empty
returns-clause-empty g c = λ run follows none.
    let h : Holds c.self.inside.holdings (point_of run) = subst (λ (k : PlainAgent g.row.L.Denot). Holds k.kept (point_of run)) (sym c.self.view_is) follows.stands.chunks in
    let one = one_place c.lists_go_on.ensures c.args.self.now run follows in
    if_none-then c.first.result (none_there c.self.inside.holdings run h one none) c.first.ensures.none
