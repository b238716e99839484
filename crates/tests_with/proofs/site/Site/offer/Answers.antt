use Rattle.std.proofs.Common.{◌≡◌, [], ◌∷◌, length-append, true, false, Bool, refl, arith}
use Rattle.std.proofs.lemmas.Bool.{false≢true}
use Rattle.hs_law_agent.specs.Stepping.{Gave}
use Rattle.hs_agent.specs.Runs.{after_offer, after_answer, answer_of}
use Rattle.tests_with.proofs.site.Site.offer.Goals as goal

unspent : (b : Bool) → (b ≡ true → false ≡ true) → b ≡ false
unspent true f = absurd (false≢true (f refl))
unspent false f = refl

pub invariant_of-self-2 : goal.invariant_of-self-2
invariant_of-self-2 c = λ working.
    let known = c.self.invariant (unspent c.self.inside.agent.spent (λ spent. c.in_ok-held.ensures.stays spent)) in
    let run = known.0 in
    let offered = c.in_ok-held.ensures.after run known.1 in
    let more = length-append run.events (Gave (answer_of c.unread.result) ∷ []) in
    let few = known.2.few in
    let site = known.2.site in
    (after_answer (after_offer run) c.unread.result, c.gave.ensures.after (after_offer run) offered, record { site = record { node = site.node; size = site.size; nodes = site.nodes; declared = site.declared; begins = site.begins }; few = omega (arith, more, few); offered = refl })
