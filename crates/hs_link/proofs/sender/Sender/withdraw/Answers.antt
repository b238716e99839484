use Rattle.std.proofs.Common.{rules, arith, ◌≡◌, ◌∷◌, subst, IfSome}
use Rattle.hs_link.proofs.Lists.{first_holds, rest_holds, rest_short}
use Rattle.hs_link.proofs.sender.Sender.withdraw.Goals as goal

pub invariant_of-self : goal.invariant_of-self
invariant_of-self g c = let was = c.self.invariant in let did = c.pop_front.ensures.items in let left = c.pop_front.new.self.items in
    let short = rest_short c.pop_front.result c.self.inside.outbox.items left did in
    (was.0, was.1, was.2, (let few = was.3 in omega arith), (let room = was.4 in omega arith), search rules, was.6, rest_holds _ c.pop_front.result c.self.inside.outbox.items left did was.7)

pub returns-clause-some : goal.returns-clause-some
returns-clause-some g c = let did = c.pop_front.ensures.items in let left = c.pop_front.new.self.items in let is = c.self.view_is in
    let first = first_holds (g.F.Fact.holds c.self.inside.board.value.shared.key) c.pop_front.result c.self.inside.outbox.items left did c.self.invariant.7 in
    subst (λ v. IfSome c.pop_front.result (λ item. (v.outbox ≡ item ∷ left) × g.F.Fact.holds v.key item)) is first
