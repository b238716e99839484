-- From a node's clients and port, where nothing was done, to where the node and the whole run begin.
use Rattle.std.proofs.Common.{◌≡◌, inl, inr, ℕ, zero, suc, ◌+◌, List, [], ◌∷◌, ◌++◌, length, map, Some, None, refl, sym, ap, ◌∙◌, subst, arith, length-append, slice_get}
use Rattle.hs_run.proofs.Prelude.{length-map, same_Some, slice_get_within, get_there, client_of, Outgoing, Incoming, AreMates, Key, IsMate, PlainWorkload, Drawing, Giving, IsValid, PlainClientActor, PlainCoordinatorActor, IsCoordinatorActor, linked, PlainAgentActor, IsAgentActor, NodeWork, PlainNodeActors, RunState, NodeActorsStand, RunStands, PoolOf, ActingNode, AreMade, CanBegin, sites_of}
use Rattle.hs_base.proofs.Places.{get_push_cases}
use Rattle.hs_live.specs.Live.{Port, IsEnd}
use Rattle.hs_words.specs.Pools.{PoolName}
use Rattle.hs_run_actors.specs.Nodes as begun
use Rattle.hs_run_actors.specs.Nodes.{NodeBegins, ClientActorBegins, receiving_of}
use Rattle.hs_run_actors.specs.Standing as standing
use Rattle.hs_run_actors.specs.Intakes.{Intake, key_of, key_for, AreIntakesFor}
use Rattle.hs_run_actors.specs.AgentActors.{BeginsAt}
use Rattle.hs_run_actors.specs.Work.{no_work}
use Rattle.hs_run.specs.Laws.{LinkIsNew, LinksBegin}
use Rattle.hs_run.specs.Making.{NodeActorsBegin, nothing_moved, nothing_asked}
use Rattle.hs_run.proofs.Choosing.{Chosen, choose}
use Rattle.hs_run.proofs.Moments.{node_there}

-- ---- lists

linked_at : {T : Type 0} (rs : List (Incoming T Key)) (place : ℕ) (l : Intake T) → slice_get (map (λ r. linked r) rs) place ≡ Some l → (r : Incoming T Key) × (slice_get rs place ≡ Some r) × (linked r ≡ l)
linked_at [] place l e = let none : None ≡ Some l = e in absurd cc
linked_at (r ∷ rs) zero l e = (r, refl, same_Some (linked r) l e)
linked_at (r ∷ rs) (suc place) l e = linked_at rs place l e

-- ---- one link

module _ {T : Type 0} (key : Key) (room number : ℕ) (s : Outgoing T Key) (ends : List (Incoming T Key)) (link : begun.LinkBegins key room number s ends) where
  the_end : (r : Incoming T Key) → IsEnd number ends r → link.receiver ≡ r
  the_end r end = same_Some link.receiver r (sym link.end ∙ end)

  begins : LinkIsNew number ends s
  begins =
      record {
        capacity = link.new.sizes.0;
        taken = link.new.sender.2;
        told = λ r end. ap (λ (q : Incoming T Key). q.told) (sym (the_end r end)) ∙ link.new.receiver.1;
      }

  mate : IsMate number ends s
  mate = (link.receiver, link.end, link.new.ends)

  key_is : (r : Incoming T Key) → IsEnd number ends r → r.key ≡ key
  key_is r end = ap (λ (q : Incoming T Key). q.key) (sym (the_end r end)) ∙ link.new.keys.1

  nothing : (r : Incoming T Key) → IsEnd number ends r → r.received ≡ []
  nothing r end = ap (λ (q : Incoming T Key). q.received) (sym (the_end r end)) ∙ link.new.receiver.0

-- ---- one node

module _ (W : PlainWorkload) (node : ℕ) (callers : List PlainClientActor) (port : Port) (b : NodeBegins W node callers port) where
  abbrev each : (number : ℕ) (caller : PlainClientActor) → slice_get callers number ≡ Some caller → ClientActorBegins W node port.giver number (receiving_of port) caller
  each = b.begun.each

  size_is : port.giver.size ≡ W.settings.size
  size_is = ap (λ (g : Giving). g.size) b.giver

  one_key : (number : ℕ) → standing.key_for W.settings (client_of node number) port.giver ≡ key_for W node port.giver.pool number
  one_key number = λ i. record { client = client_of node number; pool = port.giver.pool; size = size_is i; nodes = W.settings.nodes; rules = W.settings.triggers }

  caller_at : {T : Type 0} (ends : List (Incoming T Key)) (number : ℕ) (r : Incoming T Key) → length ends ≡ W.settings.clients → IsEnd number ends r → (caller : PlainClientActor) × (slice_get callers number ≡ Some caller)
  caller_at ends number r count end = let low = slice_get_within ends number r end in get_there callers number (omega (arith, low, count, b.begun.callers_are))

  chunk_lines : AreIntakesFor W node port.giver.pool (map (λ r. linked r) port.chunks)
  chunk_lines =
      record {
        count = length-map port.chunks _ ∙ b.begun.chunks;
        keys = λ number l at.
            let (r, end, is) = linked_at port.chunks number l at in
            let (caller, found) = caller_at port.chunks number r b.begun.chunks end in
            ap (λ (k : Intake _). key_of k) (sym is) ∙ key_is _ _ number caller.client.chunks port.chunks (each number caller found).chunks r end ∙ one_key number;
      }

  crumb_lines : AreIntakesFor W node port.giver.pool (map (λ r. linked r) port.crumbs)
  crumb_lines =
      record {
        count = length-map port.crumbs _ ∙ b.begun.crumbs;
        keys = λ number l at.
            let (r, end, is) = linked_at port.crumbs number l at in
            let (caller, found) = caller_at port.crumbs number r b.begun.crumbs end in
            ap (λ (k : Intake _). key_of k) (sym is) ∙ key_is _ _ number caller.client.crumbs port.crumbs (each number caller found).crumbs r end ∙ one_key number;
      }

  trigger_lines : AreIntakesFor W node port.giver.pool (map (λ r. linked r) port.triggers)
  trigger_lines =
      record {
        count = length-map port.triggers _ ∙ b.begun.triggers;
        keys = λ number l at.
            let (r, end, is) = linked_at port.triggers number l at in
            let (caller, found) = caller_at port.triggers number r b.begun.triggers end in
            ap (λ (k : Intake _). key_of k) (sym is) ∙ key_is _ _ number caller.client.triggers port.triggers (each number caller found).triggers r end ∙ one_key number;
      }

  pub begins_at : BeginsAt W node port
  begins_at =
      record {
        lines = record { pool_is = refl; size = size_is; chunks = chunk_lines; crumbs = crumb_lines; triggers = trigger_lines };
        turns = ap (λ (g : Giving). g.turns) b.giver;
        chunks = λ number r end.
            let (caller, found) = caller_at port.chunks number r b.begun.chunks end in
            nothing _ _ number caller.client.chunks port.chunks (each number caller found).chunks r end;
        crumbs = λ number r end.
            let (caller, found) = caller_at port.crumbs number r b.begun.crumbs end in
            nothing _ _ number caller.client.crumbs port.crumbs (each number caller found).crumbs r end;
        triggers = λ number r end.
            let (caller, found) = caller_at port.triggers number r b.begun.triggers end in
            nothing _ _ number caller.client.triggers port.triggers (each number caller found).triggers r end;
      }

  mates : (number : ℕ) (caller : PlainClientActor) → slice_get callers number ≡ Some caller → AreMates number port caller.client
  mates number caller found =
      let c = each number caller found in
      record {
        chunks = mate _ _ number caller.client.chunks port.chunks c.chunks;
        crumbs = mate _ _ number caller.client.crumbs port.crumbs c.crumbs;
        triggers = mate _ _ number caller.client.triggers port.triggers c.triggers;
        pool = ap (λ (d : Drawing). d.pool) c.drawer_is;
      }

  abbrev with_port : PlainAgentActor → Port → PlainAgentActor
  with_port agent p = record agent { port = p }

  pub site_begins : (agent : PlainAgentActor) → IsAgentActor W (no_work node port.giver.pool) agent → agent.port ≡ port → NodeActorsBegin W node (record { callers = callers; agent = agent })
  site_begins agent manned is =
      record {
        pool = port.giver.pool;
        stands =
            record {
              node_is = refl;
              count = b.begun.callers_are;
              callers = λ number caller found. (each number caller found).at;
              mates = λ number caller found. subst (λ (p : Port). AreMates number p caller.client) (sym is) (mates number caller found);
              agent = manned;
            };
        done = λ number caller found. (each number caller found).done;
        links = λ number caller found.
            let c = each number caller found in
            record {
              chunks = subst (λ (p : Port). LinkIsNew number p.chunks caller.client.chunks) (sym is) (begins _ _ number caller.client.chunks port.chunks c.chunks);
              crumbs = subst (λ (p : Port). LinkIsNew number p.crumbs caller.client.crumbs) (sym is) (begins _ _ number caller.client.crumbs port.crumbs c.crumbs);
              triggers = subst (λ (p : Port). LinkIsNew number p.triggers caller.client.triggers) (sym is) (begins _ _ number caller.client.triggers port.triggers c.triggers);
            };
        pool_of =
            record {
              buffers = ap (λ (p : Port). p.giver.buffers) is ∙ ap (λ (g : Giving). g.buffers) b.giver;
              drawers = ap (λ (p : Port). p.giver.drawers) is ∙ ap (λ (g : Giving). g.drawers) b.giver;
              numbers = λ number caller found. ap (λ (d : Drawing). d.number) (each number caller found).drawer_is;
            };
      }

-- ---- all nodes

pub none_made : (W : PlainWorkload) (nodes : List ActingNode) → nodes ≡ [] → AreMade W 0 nodes
none_made W nodes none = record { many = ap length none; each = λ number node at. nobody number node (ap (λ (l : List ActingNode). slice_get l number) (sym none) ∙ at) }
  where
    nobody : (number : ℕ) (node : ActingNode) → slice_get [] number ≡ Some node → NodeActorsBegin W number node.site
    nobody number node at = let never : None ≡ Some node = at in absurd cc

pub one_more_made : (W : PlainWorkload) (count : ℕ) (nodes : List ActingNode) (node : ActingNode) → AreMade W count nodes → NodeActorsBegin W count node.site → AreMade W (count + 1) (nodes ++ node ∷ [])
one_more_made W count nodes node made at =
    record {
      many = let all = length-append nodes (node ∷ []) in let many = made.many in omega (arith, all, many);
      each = λ other n found.
          elim (get_push_cases nodes node n other found) [
            | inl h ↦ made.each other n h
            | inr h ↦
                let same : count ≡ other = sym made.many ∙ h.0 in
                subst (λ (q : ActingNode). NodeActorsBegin W other q.site) h.1 (subst (λ i. NodeActorsBegin W i node.site) same at)
          ];
    }

module _ (W : PlainWorkload) (valid : IsValid W) (nodes : List ActingNode) (coordinator : PlainCoordinatorActor) (made : AreMade W W.settings.nodes nodes) (hears : IsCoordinatorActor W [] nothing_moved nothing_asked coordinator) where
  pools : Chosen (λ n (node : ActingNode) (pool : PoolName). NodeActorsStand W n (no_work n pool) node.site) (λ n. []) nodes
  pools = choose (λ n (node : ActingNode) (pool : PoolName). NodeActorsStand W n (no_work n pool) node.site) (λ n. []) nodes (λ n node at. let m = made.each n node at in (m.pool, m.stands))

  abbrev works : ℕ → NodeWork
  works n = no_work n (pools.value n)

  abbrev moment : RunState
  moment = record { standing = record { nodes = sites_of nodes; coordinator = coordinator }; works = works; heard = [] }

  stands : RunStands W moment
  stands =
      record {
        valid = valid;
        count = length-map nodes _ ∙ made.many;
        each = λ n site at.
            let (node, found, is) = node_there nodes n site at in
            subst (λ (s : PlainNodeActors). NodeActorsStand W n (works n) s) is (pools.each n node found);
        coordinator = hears;
      }

  pub can_begin : CanBegin W nodes coordinator
  can_begin =
      record {
        moment = moment;
        begun =
            record {
              stands = stands;
              works = λ n. refl;
              heard = refl;
              done = λ n number site caller at there.
                  let (node, found, is) = node_there nodes n site at in
                  (made.each n node found).done number caller (ap (λ (s : PlainNodeActors). slice_get s.callers number) is ∙ there);
            };
        ends =
            record {
              links = λ n number site caller at there.
                  let (node, found, is) = node_there nodes n site at in
                  subst (λ (s : PlainNodeActors). LinksBegin number s caller) is ((made.each n node found).links number caller (ap (λ (s : PlainNodeActors). slice_get s.callers number) is ∙ there));
              pools = λ n site at.
                  let (node, found, is) = node_there nodes n site at in
                  subst (λ (s : PlainNodeActors). PoolOf W s) is (made.each n node found).pool_of;
            };
        here = record { stands = stands; nodes_are = refl; coordinator_is = refl };
      }
