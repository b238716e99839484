use Rattle.std.proofs.Common.{◌∷◌, [], ◌++◌, arith, rules, sym, ap, subst, ◌∙◌, length, length-append}
use Rattle.hs_run_actors.proofs.Prelude.{AreEndsOf, AreRests}
use Rattle.hs_run_actors.proofs.Resting.{last_ends, no_starts, not_nil, rests_more}
use Rattle.hs_run_actors.proofs.rests.+rests_of.Goals as goal

pub unreachable-requires : goal.unreachable-requires
unreachable-requires g t c =
    let ends = subst (λ l. AreEndsOf c.args.senders.items l) c.in_default-pop.ensures.none.0 c.requires in
    not_nil c.pop.new.self.items c.in-Some.sender (sym c.in-Some.ensures.some ∙ no_starts c.args.senders.items ends)

pub rests_of-requires : goal.rests_of-requires
rests_of-requires g t c κs within =
    let ends = subst (λ l. AreEndsOf l (c.pop-2.new.self.items ++ c.in-Some-pop.receiver ∷ [])) c.in-Some.ensures.some (subst (λ l. AreEndsOf c.args.senders.items l) c.in-Some-pop.ensures.some c.requires) in
    let count = ap length c.in-Some.ensures.some ∙ length-append c.pop.new.self.items (c.in-Some.sender ∷ []) in
    let measure = c.decreases in
    (omega (arith, count, measure), (search rules, (search rules, (last_ends c.pop.new.self.items c.pop-2.new.self.items c.in-Some.sender c.in-Some-pop.receiver ends).0)))

pub close_both-requires : goal.close_both-requires
close_both-requires g t c =
    let ends = subst (λ l. AreEndsOf l (c.pop-2.new.self.items ++ c.in-Some-pop.receiver ∷ [])) c.in-Some.ensures.some (subst (λ l. AreEndsOf c.args.senders.items l) c.in-Some-pop.ensures.some c.requires) in
    (last_ends c.pop.new.self.items c.pop-2.new.self.items c.in-Some.sender c.in-Some-pop.receiver ends).1

pub returns : goal.returns
returns g t c =
    let key = c.close_both.ensures.key ∙ sym c.close_both.ensures.keys in
    let more = rests_more c.pop.new.self.items c.pop-2.new.self.items c.in_ok-rests.rests.items c.in-Some.sender c.in-Some-pop.receiver c.close_both.result c.in_ok-rests.ensures c.close_both.ensures.items key in
    subst (λ l. AreRests l c.args.receivers.items c.append.new.self.items) (sym c.in-Some.ensures.some)
    (subst (λ l. AreRests (c.pop.new.self.items ++ c.in-Some.sender ∷ []) l c.append.new.self.items) (sym c.in-Some-pop.ensures.some)
    (subst (λ l. AreRests (c.pop.new.self.items ++ c.in-Some.sender ∷ []) (c.pop-2.new.self.items ++ c.in-Some-pop.receiver ∷ []) l) (sym c.in_ok-append.ensures.ok) more))
