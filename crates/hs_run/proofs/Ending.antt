-- When nothing is left and the pools are closed, the run is over.
use Rattle.std.proofs.Common.{◌≡◌, ℕ, zero, suc, ◌+◌, ◌<◌, true, false, List, [], ◌∷◌, ◌++◌, length, map, Some, None, refl, sym, ap, subst, ◌∙◌, arith, slice_get, append-nil}
use Rattle.hs_run.proofs.Prelude.{AllByRecursion, length-map, slice_get_within, get_there, Told, Crumb, Trigger, Messages, Remaining, Key, after, PlainWorkload, Leased, Drawing, Giving, AreAllEnds, operations_at, place_of, Buffer, asks_in, crumbs_in, triggers_in, PlainClientActor, PlainCoordinatorActor, heard_of, closed, PlainClosedAgent, came_of, PlainNodeActors, RunState, RunStands, Came, PoolOf, AllBegin, PoolsAreKept, AllSents, ClosingAt}
use Rattle.hs_base.proofs.Alls.{all_at}
use Rattle.hs_coord.specs.Messages.{Message}
use Rattle.hs_ring.specs.Parts.{AreInOrder, Closes, answers_of_all}
use Rattle.hs_words.specs.Ends.{IsTogether}
use Rattle.hs_words.specs.declared.token.Tally.{Tally}
use Rattle.hs_run_actors.specs.Coordinators.{IsHearable, all_empty}
use Rattle.hs_run.specs.Closing as closing
use Rattle.hs_run.specs.Closing.{drawn_at, IsClosedPool, IsOver}
use Rattle.hs_run.specs.Shutting.{AllBare}

abbrev pub drawer_of : PlainClientActor → Drawing
drawer_of caller = caller.client.drawer

answers_mapped : (callers : List PlainClientActor) → answers_of_all (map drawer_of callers) ≡ map (λ (caller : PlainClientActor). caller.client.drawer.answers) callers
answers_mapped [] = refl
answers_mapped (caller ∷ callers) = ap (λ rest. caller.client.drawer.answers ∷ rest) (answers_mapped callers)

-- nothing is left of a line
taken_all : {X : Type 0} (came items all : List X) → came ++ items ≡ all → items ≡ [] → came ≡ all
taken_all came items all h none = sym (append-nil came) ∙ ap (λ rest. came ++ rest) (sym none) ∙ h

empty_at : (told : List (List Told)) (node : ℕ) (box : List Told) → all_empty told ≡ true → slice_get told node ≡ Some box → box ≡ []
empty_at [] node box h at = let no : None ≡ Some box = at in absurd cc
empty_at ([] ∷ told) zero box h at = let same : Some [] ≡ Some box = at in let is : [] ≡ box = cc in sym is
empty_at ((t ∷ ts) ∷ told) zero box h at = let no : false ≡ true = h in absurd cc
empty_at ([] ∷ told) (suc node) box h at = empty_at told node box h at
empty_at ((t ∷ ts) ∷ told) (suc node) box h at = let no : false ≡ true = h in absurd cc

in_order : (pool : _) (start : ℕ) (callers : List PlainClientActor) → ((i : ℕ) (caller : PlainClientActor) → slice_get callers i ≡ Some caller → (caller.client.drawer.pool ≡ pool) × (caller.client.drawer.number ≡ start + i)) → AreInOrder pool start (map drawer_of callers)
in_order pool start [] each = tt
in_order pool start (caller ∷ callers) each =
    let first = each 0 caller refl in
    let zeroth : start + 0 ≡ start = omega arith in
    (first.0, first.1 ∙ zeroth, in_order pool (suc start) callers (λ i c h. let next : start + suc i ≡ suc start + i = omega arith in let at = each (suc i) c h in (at.0, at.1 ∙ next)))

module _ (kept : PoolsAreKept) (W : PlainWorkload) (rounds : ℕ) (m : RunState) (came : Came W rounds m) (begin : AllBegin W (came.at 0)) (stand : RunStands W m) (sents : AllSents) (nodes : List PlainClosedAgent) (c : PlainCoordinatorActor) (at : ClosingAt W rounds m sents nodes c)
  where
    pool_of : (node : ℕ) (site : PlainNodeActors) → slice_get m.standing.nodes node ≡ Some site → PoolOf W site
    pool_of node site there = kept W rounds m stand.valid came begin node site there

    pub shut_for : (node : ℕ) (site : PlainNodeActors) → slice_get m.standing.nodes node ≡ Some site → (shut : PlainClosedAgent) × (slice_get nodes node ≡ Some shut)
    shut_for node site there = let low = (at.clients node site there).0 in let count = at.stand.count in get_there nodes node (omega (arith, low, count))

    -- the drawers of its clients are all drawers of a node's pool
    pub all_ends : (node : ℕ) (site : PlainNodeActors) (shut : PlainClosedAgent) → slice_get m.standing.nodes node ≡ Some site → slice_get nodes node ≡ Some shut → AreAllEnds shut.giver (map drawer_of site.callers)
    all_ends node site shut there here =
        let p = pool_of node site there in
        let same = at.kept node site shut there here in
        let s = stand.each node site there in
        record {
          in_order = subst (λ pool. AreInOrder pool 0 (map drawer_of site.callers)) (sym same.pool)
              (in_order site.agent.port.giver.pool 0 site.callers (λ i caller h. let zeroth : i ≡ 0 + i = omega arith in ((s.mates i caller h).pool, p.numbers i caller h ∙ zeroth)));
          all = length-map site.callers drawer_of ∙ s.count ∙ sym p.drawers ∙ sym same.drawers;
        }

    module _ (bare : AllBare W (λ node. (at.posts node).work) nodes c) where
      bare_at : (node : ℕ) (site : PlainNodeActors) → slice_get m.standing.nodes node ≡ Some site → closing.IsNodeBare W node site at.heard (at.posts node)
      bare_at node site there =
          let low = (at.clients node site there).0 in
          let count = (at.clients node site there).1 in
          let shut = shut_for node site there in
          let stands = (at.stand.stands.each node shut.0 shut.1).is in
          let node_is = (at.stand.stands.each node shut.0 shut.1).node_is in
          let b = bare.each node shut.0 shut.1 in
          let lines = stands.stands.lines_are in
          let chunk_count = lines.chunks.count in
          let chunk_long = length-map shut.0.chunks (λ (r : Remaining (Buffer Leased) Key). closed r) in
          let crumb_count = lines.crumbs.count in
          let crumb_long = length-map shut.0.crumbs (λ (r : Remaining Crumb Key). closed r) in
          let trigger_count = lines.triggers.count in
          let trigger_long = length-map shut.0.triggers (λ (r : Remaining Trigger Key). closed r) in
          let told = get_there c.told node (let boxes = at.stand.coordinates.count in omega (arith, boxes, low)) in
          record {
            chunks = λ client caller mine.
                let inside = slice_get_within site.callers client caller mine in
                let r = get_there shut.0.chunks client (omega (arith, inside, count, chunk_count, chunk_long)) in
                taken_all (came_of client (at.posts node).work) r.0.items ((sents node).chunks client) (stands.left.chunks client r.0 r.1) (all_at (λ (r : Remaining (Buffer Leased) Key). r.items ≡ []) shut.0.chunks client r.0 b.chunks r.1)
                ∙ at.sents_are.chunks node client site caller there mine;
            crumbs = λ client caller mine.
                let inside = slice_get_within site.callers client caller mine in
                let r = get_there shut.0.crumbs client (omega (arith, inside, count, crumb_count, crumb_long)) in
                taken_all (crumbs_in client (at.posts node).work.events) r.0.items ((sents node).crumbs client) (stands.left.crumbs client r.0 r.1) (all_at (λ (r : Remaining Crumb Key). r.items ≡ []) shut.0.crumbs client r.0 b.crumbs r.1)
                ∙ at.sents_are.crumbs node client site caller there mine;
            triggers = λ client caller mine.
                let inside = slice_get_within site.callers client caller mine in
                let r = get_there shut.0.triggers client (omega (arith, inside, count, trigger_count, trigger_long)) in
                taken_all (triggers_in client (at.posts node).work.events) r.0.items ((sents node).triggers client) (stands.left.triggers client r.0 r.1) (all_at (λ (r : Remaining Trigger Key). r.items ≡ []) shut.0.triggers client r.0 b.triggers r.1)
                ∙ at.sents_are.triggers node client site caller there mine;
            asks = taken_all (asks_in (at.posts node).work.events) shut.0.asks (at.posts node).work.asked stands.stands.asks_are b.asks;
            said = taken_all (heard_of node at.heard) told.0 (at.posts node).work.moved (at.stand.coordinates.waits node told.0 told.1) (empty_at c.told node told.0 bare.told told.1);
            pinned = ap (λ k. length (after W.settings k (at.posts node).work.events).pinned) (sym node_is) ∙ ap length b.pinned;
          }

      pub all_over : (pools : (node : ℕ) (site : PlainNodeActors) (shut : PlainClosedAgent) → slice_get m.standing.nodes node ≡ Some site → slice_get nodes node ≡ Some shut → (tally : Tally) × Closes shut.giver (map drawer_of site.callers) tally)
          → ((node client : ℕ) (site : PlainNodeActors) (caller : PlainClientActor) → slice_get m.standing.nodes node ≡ Some site → slice_get site.callers client ≡ Some caller → caller.done ≡ length (operations_at W (place_of W.settings.clients node client)))
          → IsOver W m at.posts at.heard
      all_over pools done =
          record {
            done = done;
            bare = bare_at;
            pools = λ node site there.
                let shut = shut_for node site there in
                let closes = (pools node site shut.0 there shut.1).1 in
                let p = pool_of node site there in
                let same = at.kept node site shut.0 there shut.1 in
                let buffers = same.buffers ∙ p.buffers in
                let giver = at.givers node shut.0 shut.1 in (
                  closes.0,
                  subst (λ lists. IsTogether W.settings.buffers (at.posts node).giver.turns lists closes.0) (answers_mapped site.callers)
                      (subst (λ (g : Giving). IsTogether W.settings.buffers g.turns (answers_of_all (map drawer_of site.callers)) closes.0) (sym giver)
                      (subst (λ b. IsTogether b shut.0.giver.turns (answers_of_all (map drawer_of site.callers)) closes.0) buffers closes.1)),
                );
            from = all_from at.heard at.stand.coordinates.hearable;
          }
        where
          all_from : (heard : Messages) → AllByRecursion (IsHearable W) heard → AllByRecursion (λ (m : Message). m.node.0 < W.settings.nodes) heard
          all_from [] all = tt
          all_from (m ∷ heard) all = (all.0.from, all_from heard all.1)
