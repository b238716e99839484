use Rattle.std.proofs.Common.{◌≡◌, ◌+◌, ◌||◌, ◌∷◌, ◌++◌, [], ℕ, List, take, sym, ap, subst, ◌∙◌, arith, All}
use Rattle.hs_agent.proofs.Prelude.{list_any, IsSome, All-tail, recursion_from_All, slice_get_within, TraceId, has_node, Claim, claim_of, Remembers, traces_of, crumb_nodes, Kept}
use Rattle.std.proofs.lemmas.List.{take_more, take_all}
use Rattle.std.proofs.lemmas.Option.{get_or_from_slice_get}
use Rattle.hs_base.specs.NodeSetLaws.{same_nodes}
use Rattle.hs_pins.specs.Remembered.{has_crumb}
use Rattle.hs_agent.proofs.CrumbSets.{crumb_in, has-crumbs_claimed}
use Rattle.hs_agent.proofs.Indexing.{any-append}
use Rattle.hs_agent.proofs.holdings.Holdings.crumbs.Goals as goal

pub crumbs-requires : goal.crumbs-requires
crumbs-requires g c =
    let memory = c.requires.0 in
    let pins = ap (λ (k : Kept g.row.L.Denot). k.pins) c.self.view_is in
    let laterals : List TraceId = c.args.ask.now.laterals in
    let is = sym c.get.ensures ∙ c.in-Some.is in
    let within = slice_get_within laterals c.loop-place.place c.in-Some.trace is in (
      memory,
      subst (λ p. Remembers p memory) (sym pins) c.requires.1,
      subst (λ t. IsSome (claim_of memory.claims t)) (get_or_from_slice_get laterals c.loop-place.place c.in-Some.trace c.in-Some.trace is)
          (All-tail (λ trace. IsSome (claim_of memory.claims trace)) c.args.ask.now.group.lead laterals c.requires.2 c.loop-place.place c.in-Some.trace within),
    )

pub loop-place-preserved : goal.loop-place-preserved
loop-place-preserved g c =
    let memory = c.requires.0 in
    let pins = ap (λ (k : Kept g.row.L.Denot). k.pins) c.self.view_is in
    let remembers : Remembers c.self.inside.pins memory = subst (λ p. Remembers p memory) (sym pins) c.requires.1 in
    let claims : List Claim = c.args.self.now.pins.claims in
    let lead : TraceId = c.args.ask.now.group.lead in
    let laterals : List TraceId = c.args.ask.now.laterals in
    let i : ℕ = c.loop-place.place in
    let trace : TraceId = c.in-Some.trace in
    let is = sym c.get.ensures ∙ c.in-Some.is in
    let next : take (i + 1) laterals ≡ take i laterals ++ trace ∷ [] =
    take_more laterals i trace (slice_get_within laterals i trace is) ∙ ap (λ (t : TraceId). take i laterals ++ t ∷ []) (get_or_from_slice_get laterals i trace trace is) in
    record {
      most = c.loop-place.invariant.most;
      nodes = λ n.
          let own : has_node c.crumbs.result n ≡ has_crumb claims trace n =
          crumb_in n (claim_of memory.claims trace) c.crumbs.result (c.crumbs.ensures memory remembers) ∙ ap (λ cs. has_crumb cs trace n) (sym c.requires.1.claims) in
          c.union-crumbs.ensures.nodes n
          ∙ ap (λ b. b || has_node c.crumbs.result n) (c.loop-place.invariant.nodes n)
          ∙ ap (λ b. list_any (λ t. has_crumb claims t n) (lead ∷ take i laterals) || b) own
          ∙ sym (any-append (λ t. has_crumb claims t n) (lead ∷ take i laterals) trace)
          ∙ ap (λ l. list_any (λ t. has_crumb claims t n) (lead ∷ l)) (sym next);
    }

pub returns : goal.returns
returns g c = λ point h.
    let memory = c.requires.0 in
    let claims : List Claim = c.args.self.now.pins.claims in
    let ask = c.args.ask.now in
    let all : take c.loop-place.place ask.laterals ≡ ask.laterals = take_all c.loop-place.place ask.laterals (omega (arith, c.loop-place.invariant.most, c.loop-place-test.false)) in
    let same : memory.claims ≡ h.memory.claims = sym c.requires.1.claims ∙ h.remembers.claims in
    let found = recursion_from_All (λ trace. IsSome (claim_of h.memory.claims trace)) (traces_of ask) (subst (λ cs. All (λ trace. IsSome (claim_of cs trace)) (traces_of ask)) same c.requires.2) in
    same_nodes c.loop-place.crumbs (crumb_nodes point.state.crumbs (traces_of ask))
    (λ n. c.loop-place.invariant.nodes n
    ∙ ap (λ l. list_any (λ t. has_crumb claims t n) (ask.group.lead ∷ l)) all
    ∙ ap (λ cs. list_any (λ t. has_crumb cs t n) (traces_of ask)) h.remembers.claims
    ∙ sym (has-crumbs_claimed h.memory.claims c.args.self.now.index.touched point.state.crumbs (traces_of ask) n h.index.touched.crumbs found))
