use Rattle.std.proofs.Common.{rules, ◌≡◌, ◌∷◌, ◌++◌, length, drop, subst, IfSome}
use Rattle.hs_link.proofs.Lists.{next_given}
use Rattle.hs_link.proofs.rest.Rest.next.Goals as goal

pub returns-clause-some : goal.returns-clause-some
returns-clause-some g c = let was = c.self.inside in let got = c.receive.ensures in let now = c.receive.new.self in
    let first = next_given was.receiver.received now.received now.told was.sender.put was.sender.outbox c.receive.result (search rules) (search rules) got.some in
    subst (λ v. IfSome c.receive.result (λ item. v.items ≡ item ∷ (drop (length now.received) was.sender.put ++ was.sender.outbox))) c.self.view_is first
