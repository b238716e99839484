-- What it says of a node that its agent made a pass and its clients went on.
use Rattle.std.proofs.Common.{◌≡◌, ℕ, List, Some, refl, sym, subst, ◌∙◌, arith}
use Rattle.hs_run.proofs.Prelude.{slice_get, slice_get_within, get_there, Listing, Settings, client_of, Incoming, Outgoing, Key, IsMate, Operation, PlainSettings, PlainWorkload, settings_of, operations_at, place_of, Op, operations_of, PlainClientActor, ClientActorIsAt, NodeWork, IsFew, with_events, PlainNodeActors, NodeActorsStand, NodeActorsAct, AllMayGo, AllHaveGone, AreClients, HasActed}
use Rattle.hs_run_actors.specs.Standing.{Goes, IsFlushed}
use Rattle.hs_run_actors.specs.AgentActors.{EachReceives}
use Rattle.hs_run.specs.Sites.{HasPassed}

pub may_go : (W : PlainWorkload) (node : ℕ) (work : NodeWork) (settings : Settings) (lists : List (Listing Op)) (site : PlainNodeActors) → NodeActorsStand W node work site → AreClients W node settings lists
    → AllMayGo (settings_of settings) lists site.callers
may_go W node work settings lists site stands are =
    record {
      count = stands.count ∙ sym are.count;
      each = λ number caller at ops found. (
        client_of node number,
        subst (λ (s : PlainSettings). ClientActorIsAt s (client_of node number) (operations_of ops) caller) (sym are.settings_are)
            (subst (λ (l : List Operation). ClientActorIsAt W.settings (client_of node number) l caller) (sym (are.each number ops found)) (stands.callers number caller at)),
      );
    }

-- the ends stay those of one link
mate_stays : {T : Type 0} (number : ℕ) (rs rs' : List (Incoming T Key)) (s s' : Outgoing T Key) → EachReceives rs rs' → IsFlushed s s' → IsMate number rs s → IsMate number rs' s'
mate_stays number rs rs' s s' receives flushed (r, at, ends) =
    let (q, there, get_there) = receives.each number r at in
    (q, there, get_there.same.0 ∙ ends ∙ sym flushed.goes.same.0)

module _ (settings : Settings) (lists : List (Listing Op)) (old new : PlainNodeActors) (passed : HasPassed old.agent new.agent) (gone : AllHaveGone (settings_of settings) lists old.callers new.callers) where
  module _ (W : PlainWorkload) (node : ℕ) (work : NodeWork) (stands : NodeActorsStand W node work old) (few : IsFew W work) (are : AreClients W node settings lists) where
    -- how a client went on
    went : (number : ℕ) (caller caller' : PlainClientActor) → slice_get old.callers number ≡ Some caller → slice_get new.callers number ≡ Some caller'
        → Goes W.settings (operations_at W (place_of W.settings.clients node number)) caller caller'
    went number caller caller' at at' =
        let low = slice_get_within old.callers number caller at in
        let count = stands.count in
        let lists_count = are.count in
        let (ops, found) = get_there lists number (omega (arith, low, count, lists_count)) in
        subst (λ (s : PlainSettings). Goes s (operations_at W (place_of W.settings.clients node number)) caller caller') are.settings_are
        (subst (λ (l : List Operation). Goes (settings_of settings) l caller caller') (are.each number ops found) (gone.each number caller caller' at at' ops found))

    -- the client of before
    before : (number : ℕ) (caller' : PlainClientActor) → slice_get new.callers number ≡ Some caller' → (caller : PlainClientActor) × (slice_get old.callers number ≡ Some caller)
    before number caller' at' = let low = slice_get_within new.callers number caller' at' in let count = gone.count in get_there old.callers number (omega (arith, low, count))

    acts : (work' : NodeWork) × NodeActorsAct W node work work' old new
    acts =
        let (pass, came, passes) = passed.by W work stands.agent few in (
          with_events pass came work,
          record {
            stands =
                record {
                  node_is = stands.node_is;
                  count = gone.count ∙ stands.count;
                  callers = λ number caller' at'. let (caller, at) = before number caller' at' in (went number caller caller' at at').at (client_of node number) (stands.callers number caller at);
                  mates = λ number caller' at'.
                      let (caller, at) = before number caller' at' in
                      let goes = went number caller caller' at at' in
                      let mates = stands.mates number caller at in
                      record {
                        chunks = mate_stays number old.agent.port.chunks new.agent.port.chunks caller.client.chunks caller'.client.chunks passes.chunks goes.chunks mates.chunks;
                        crumbs = mate_stays number old.agent.port.crumbs new.agent.port.crumbs caller.client.crumbs caller'.client.crumbs passes.crumbs goes.crumbs mates.crumbs;
                        triggers = mate_stays number old.agent.port.triggers new.agent.port.triggers caller.client.triggers caller'.client.triggers passes.triggers goes.triggers mates.triggers;
                        pool = goes.draws.pool ∙ mates.pool ∙ sym passes.gives.pool;
                      };
                  agent = passes.stands;
                };
            goes = went;
            pass = pass;
            came = came;
            work_is = refl;
            passes = passes;
          },
        )

  pub has_acted : HasActed settings lists old new
  has_acted = record { count = gone.count; by = acts }
