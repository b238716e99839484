use Rattle.std.proofs.Common.{◌≡◌, cond, List, Some, None, map, ◌++◌, sym, ap, subst, ◌∙◌}
use Rattle.hs_agent.proofs.Prelude.{option_map, option_to_list, is_some, Left, Out, Going, going_left, going_of, hand_of, Claim, claim_of, crumbed, leaving_of, settled, going, late_of, with_touched, Holds, with_state, plain_claim, kept_in, let_go_all, evicted_going, crumb_taken}
use Rattle.hs_base.specs.declared.told.Why.TheVariants.{Late}
use Rattle.hs_pins.specs.Remembered.{has_crumb}
use Rattle.hs_agent.proofs.Outcomes.{none_mapped, some_mapped, not_false, not_true}
use Rattle.hs_agent.proofs.Crumbed.{left_touched, holds-touched, takes-touched, tells-nothing, holds-late, tells-late, with_one, claim-crumbed}
use Rattle.hs_agent.proofs.Emptying.{hand_more, lefts_more, let_go_from}
use Rattle.hs_agent.proofs.Settling.{holds-settled}
use Rattle.hs_agent.proofs.holdings.Holdings.take_crumb.Goals as goal

pub returns-in_default-clause-told : goal.returns-in_default-clause-told
returns-in_default-clause-told g c = λ point known.
    let kept = kept_in {L = g.row.L.Denot} {g = g.L.Token} c.self.inside in
    let h : Holds kept point = subst (λ k. Holds k point) (sym c.self.view_is) known in
    let free = none_mapped (λ (claim : Claim). claim.group) (claim_of h.memory.claims c.args.crumb.trace) c.owner.result (c.owner.ensures h.memory h.remembers) (ap is_some c.in_default.is) in
    sym (tells-nothing kept point h c.args.crumb free)

pub returns-in_default-clause-after : goal.returns-in_default-clause-after
returns-in_default-clause-after g c = λ point known.
    let kept = kept_in {L = g.row.L.Denot} {g = g.L.Token} c.self.inside in
    let h : Holds kept point = subst (λ k. Holds k point) (sym c.self.view_is) known in
    let free = none_mapped (λ (claim : Claim). claim.group) (claim_of h.memory.claims c.args.crumb.trace) c.owner.result (c.owner.ensures h.memory h.remembers) (ap is_some c.in_default.is) in
    let touched = with_state (with_touched c.args.crumb point.state) point in
    let goes : List (Going g.row.L.Denot) = map evicted_going (map leaving_of c.in_ok-gone.gone.items) in
    let out : List Left = option_to_list (option_map (λ (o : Out). o.left) c.self.inside.offered) in
    let now : map going_of c.evict_into.new.hand.items ≡ map going_of c.self.inside.hand.items ++ goes = c.evict_into.ensures.hand ∙ (λ i. map going_of (c.reserve.ensures.items i) ++ goes) in
    subst (λ k. Holds k (crumb_taken c.args.crumb point))
    (sym (let_go_from kept c.crumb.new.self goes c.evict_into.new.standings.items (hand_of c.evict_into.new.hand.items) (out ++ map going_left (map going_of c.evict_into.new.hand.items)) c.evict_into.new.standings.keeps c.evict_into.ensures.lefts
    (hand_more (map going_of c.evict_into.new.hand.items) (map going_of c.self.inside.hand.items) goes now) (lefts_more out (map going_of c.evict_into.new.hand.items) (map going_of c.self.inside.hand.items) goes now) c.evict_into.ensures.keeps
    ∙ (λ i. let_go_all (record kept { index = c.in_ok-gone.ensures.after i }) (map evicted_going (c.in_ok-gone.ensures.gone i)))))
    (subst (Holds (let_go_all (record kept { index = settled (left_touched kept point h c.args.crumb free).index }) (map evicted_going (going (left_touched kept point h c.args.crumb free).index))))
    (sym (takes-touched kept point h c.args.crumb free))
    (holds-settled (left_touched kept point h c.args.crumb free) touched (holds-touched kept point h c.args.crumb free)))

pub returns-then-not-crumb-clause-told : goal.returns-then-not-crumb-clause-told
returns-then-not-crumb-clause-told g c = λ point known.
    let kept = kept_in {L = g.row.L.Denot} {g = g.L.Token} c.self.inside in
    let h : Holds kept point = subst (λ k. Holds k point) (sym c.self.view_is) known in
    let found = some_mapped (λ (claim : Claim). claim.group) (claim_of h.memory.claims c.args.crumb.trace) c.owner.result (c.owner.ensures h.memory h.remembers) (ap is_some c.in-Some.is) in
    let there = not_false (has_crumb h.memory.claims c.args.crumb.trace c.args.crumb.node.0) (sym c.if-not-crumb.true ∙ c.crumb-2.ensures.fresh h.memory h.remembers) in
    sym (tells-late kept point h c.args.crumb found.0 found.1 ∙ ap (λ b. cond b None (Some (late_of (plain_claim found.0) c.args.crumb))) there)

pub returns-then-not-crumb-clause-after : goal.returns-then-not-crumb-clause-after
returns-then-not-crumb-clause-after g c = λ point known.
    let kept = kept_in {L = g.row.L.Denot} {g = g.L.Token} c.self.inside in
    let h : Holds kept point = subst (λ k. Holds k point) (sym c.self.view_is) known in
    let found = some_mapped (λ (claim : Claim). claim.group) (claim_of h.memory.claims c.args.crumb.trace) c.owner.result (c.owner.ensures h.memory h.remembers) (ap is_some c.in-Some.is) in
    holds-late kept point h c.args.crumb found.0 found.1 c.crumb-2.new.self (c.crumb-2.ensures.after h.memory h.remembers)

pub laterals-requires : goal.laterals-requires
laterals-requires g c =
    let kept = kept_in {L = g.row.L.Denot} {g = g.L.Token} c.self.inside in
    let point = c.requires.known.0 in
    let h : Holds kept point = subst (λ k. Holds k point) (sym c.self.view_is) c.requires.known.1 in
    let found = some_mapped (λ (claim : Claim). claim.group) (claim_of h.memory.claims c.args.crumb.trace) c.owner.result (c.owner.ensures h.memory h.remembers) (ap is_some c.in-Some.is) in (
      crumbed h.memory c.args.crumb.trace c.args.crumb.node,
      c.crumb-2.ensures.after h.memory h.remembers,
      ap is_some (claim-crumbed c.args.crumb.trace c.args.crumb.node h.memory.claims ∙ ap (option_map (with_one c.args.crumb.trace c.args.crumb.node)) found.1),
    )

pub returns-clause-told : goal.returns-clause-told
returns-clause-told g c = λ point known.
    let kept = kept_in {L = g.row.L.Denot} {g = g.L.Token} c.self.inside in
    let h : Holds kept point = subst (λ k. Holds k point) (sym c.self.view_is) known in
    let found = some_mapped (λ (claim : Claim). claim.group) (claim_of h.memory.claims c.args.crumb.trace) c.owner.result (c.owner.ensures h.memory h.remembers) (ap is_some c.in-Some.is) in
    let new = not_true (has_crumb h.memory.claims c.args.crumb.trace c.args.crumb.node.0) (sym c.if-not-crumb.false ∙ c.crumb-2.ensures.fresh h.memory h.remembers) in
    let owner : Some c.in-Some.group ≡ Some found.0.group = sym c.in-Some.is ∙ c.owner.ensures h.memory h.remembers ∙ ap (option_map (λ (claim : Claim). claim.group)) found.1 in
    let group : c.in-Some.group ≡ found.0.group = cc in
    let answered : Some found.0.laterals ≡ Some c.laterals.result =
    sym (ap (option_map (λ (claim : Claim). claim.laterals)) (claim-crumbed c.args.crumb.trace c.args.crumb.node h.memory.claims ∙ ap (option_map (with_one c.args.crumb.trace c.args.crumb.node)) found.1))
    ∙ c.laterals.ensures (crumbed h.memory c.args.crumb.trace c.args.crumb.node) (c.crumb-2.ensures.after h.memory h.remembers) in
    let laterals : c.laterals.result ≡ found.0.laterals = cc in
    (λ i. Some (record { group = group i; laterals = laterals i; crumbs = c.only.ensures.value i; why = Late }))
    ∙ sym (tells-late kept point h c.args.crumb found.0 found.1 ∙ ap (λ b. cond b None (Some (late_of (plain_claim found.0) c.args.crumb))) new)

pub returns-clause-after : goal.returns-clause-after
returns-clause-after g c = λ point known.
    let kept = kept_in {L = g.row.L.Denot} {g = g.L.Token} c.self.inside in
    let h : Holds kept point = subst (λ k. Holds k point) (sym c.self.view_is) known in
    let found = some_mapped (λ (claim : Claim). claim.group) (claim_of h.memory.claims c.args.crumb.trace) c.owner.result (c.owner.ensures h.memory h.remembers) (ap is_some c.in-Some.is) in
    holds-late kept point h c.args.crumb found.0 found.1 c.crumb-2.new.self (c.crumb-2.ensures.after h.memory h.remembers)

pub invariant_of-self-then-not-crumb : goal.invariant_of-self-then-not-crumb
invariant_of-self-then-not-crumb g c =
    let room = c.self.invariant.sent in
    record {
      sent = (crumbed room.0 c.args.crumb.trace c.args.crumb.node, c.crumb-2.ensures.after room.0 room.1, room.2);
      hand = c.self.invariant.hand;
      claims = c.self.invariant.claims;
      pages = c.self.invariant.pages;
    }

pub invariant_of-self-2 : goal.invariant_of-self-2
invariant_of-self-2 g c =
    let room = c.self.invariant.sent in
    record {
      sent = (crumbed room.0 c.args.crumb.trace c.args.crumb.node, c.crumb-2.ensures.after room.0 room.1, room.2);
      hand = c.self.invariant.hand;
      claims = c.self.invariant.claims;
      pages = c.self.invariant.pages;
    }
