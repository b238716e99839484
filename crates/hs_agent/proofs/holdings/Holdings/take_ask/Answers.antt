use Rattle.std.proofs.Common.{IsSome, ap, ◌∙◌}
use Rattle.hs_agent.proofs.Prelude.{All-from_recursion, TraceId, claim_of, traces_of, crumb_nodes, Holds, claimed_for}
use Rattle.hs_agent.proofs.ClaimedAll.{all-known}
use Rattle.hs_agent.proofs.Unchanged.{claim-crumbs}
use Rattle.hs_agent.proofs.holdings.Holdings.take_ask.Goals as goal

pub crumbs-requires : goal.crumbs-requires
crumbs-requires g c =
    let ask = c.args.ask.now in
    let point = c.requires.0 in
    let h : Holds c.claim.new.self (claimed_for ask point) = c.in_ok-claim.ensures.after point c.requires.1 in
    (h.memory, h.remembers, All-from_recursion (λ (trace : TraceId). IsSome (claim_of h.memory.claims trace)) (traces_of ask) (all-known c.claim.new.self point ask h))

pub returns-clause-told : goal.returns-clause-told
returns-clause-told g c = λ point h.
    let ask = c.args.ask.now in
    let after : Holds c.claim.new.self (claimed_for ask point) = c.in_ok-claim.ensures.after point h in
    (λ i. record {
      group = ask.group;
      laterals = ask.laterals;
      crumbs = (c.crumbs.ensures (claimed_for ask point) after ∙ ap (λ crumbs. crumb_nodes crumbs (traces_of ask)) (claim-crumbs point.settings ask point.state)) i;
      why = c.args.why;
    })
