use Rattle.std.proofs.Common.{◌≡◌, ℕ, ◌<◌, ◌≤◌, ◌+◌, Bool, true, false, List, [], ◌∷◌, ◌++◌, length, drop, get_or, Option, Some, None, subst, sym, ap, ◌∙◌, arith}
use Rattle.hs_check_follow.proofs.Prelude.{list_all, flat_map, range_with_len, eqb-false, drop_more, drop_all, Step, Queue, Asks, is_whole_pass, passes_of, queues_of, client_queues, PlainWorkload, PassWalk, goes_through, walk_behind, at_start}
use Rattle.hs_check_follow.specs.Walking.{is_turned}
use Rattle.hs_check_follow.proofs.QueuePlaces.{queue_count, Match, queues_match}
use Rattle.hs_check_follow.proofs.Walked.{walked}
use Rattle.hs_check_follow.proofs.passes.are_whole.Goals as goal

-- the walk over the whole log says what is asked
told : (clients : ℕ) (log : List Step) → 0 < length log → (W : PlainWorkload) → W.settings.clients ≡ clients → goes_through clients at_start log ≡ list_all (is_whole_pass (queues_of W)) (passes_of log)
told clients log some W same =
    sym (walked clients (queues_of W) (subst (λ n. Match clients (flat_map client_queues (range_with_len 0 n) ++ Asks ∷ []) (range_with_len 0 (queue_count clients))) (sym same) (queues_match clients)) log some)

-- the walk stops at a step
stops : (clients : ℕ) (walk : PassWalk) (log : List Step) (i : ℕ) (d : Step) → i < length log → None ≡ walk_behind clients walk (get_or log i d) → goes_through clients walk (drop i log) ≡ false
stops clients walk log i d less none =
    ap (goes_through clients walk) (drop_more log i d less)
    ∙ sym (ap (λ (o : Option PassWalk). elim o [ Some next ↦ goes_through clients next (drop (i + 1) log) | None ↦ false ]) none)

pub returns-in_default : goal.returns-in_default
returns-in_default c = λ W same.
    let log = c.args.log.now in
    let i = c.loop-step.step-index in
    sym (stops c.args.clients c.loop-step.walk log i _ c.loop-step-test.true c.in_default.ensures) ∙ c.loop-step.invariant ∙ told c.args.clients log (omega arith) W same

pub returns-else-is_empty : goal.returns-else-is_empty
returns-else-is_empty c = λ W same.
    let log = c.args.log.now in
    let i = c.loop-step.step-index in
    let some : 0 < length log = let differ = eqb-false (length log) 0 (sym c.is_empty.ensures ∙ c.if-is_empty.false) in omega (arith, differ) in
    let ends = ap (goes_through c.args.clients c.loop-step.walk) (drop_all i log c.loop-step-test.false) in
    c.is_turned.ensures ∙ sym ends ∙ c.loop-step.invariant ∙ told c.args.clients log some W same
