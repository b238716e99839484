-- The clients of a node are made one after another.
use Rattle.std.proofs.Common.{◌≡◌, inl, inr, ℕ, ◌+◌, ◌<◌, ◌≤◌, List, [], ◌∷◌, ◌++◌, length, Some, None, refl, sym, ap, ◌∙◌, subst, arith, length-append}
use Rattle.hs_run_actors.proofs.Prelude.{same_Some, slice_get, MAX_TAKEN, MAX_CLIENTS, Crumb, Trigger, client_of, Outgoing, Incoming, AreNewEnds, Key, incoming, PlainWorkload, Drawing, Giving, Leased, ops_of, Buffer, PlainClientActor, ConnectedClient, IsConnected, AreBegun, NodeBegins, Receiving, drawer_for}
use Rattle.std.proofs.lemmas.Option.{slice_get_within}
use Rattle.hs_base.proofs.Places.{get_push_cases, get_front, get_there}
use Rattle.hs_live.specs.Calls.{IsOf, IsPort}
use Rattle.hs_live.specs.Live.{IsEnd}
use Rattle.hs_run_actors.specs.Nodes.{LinkBegins, ClientActorBegins}

-- ---- lists with an item more

last_at : {A : Type 0} (xs : List A) (x : A) (place : ℕ) → length xs ≡ place → slice_get (xs ++ x ∷ []) place ≡ Some x
last_at xs x place is = ap (slice_get (xs ++ x ∷ [])) (sym is) ∙ seam xs
  where
    seam : (front : List _) → slice_get (front ++ x ∷ []) (length front) ≡ Some x
    seam [] = refl
    seam (y ∷ front) = seam front

-- ---- links

module _ {T : Type 0} where
  still : (key : Key) (room number : ℕ) (s : Outgoing T Key) (receivers : List (Incoming T Key)) (r : Incoming T Key) → LinkBegins key room number s receivers → LinkBegins key room number s (receivers ++ r ∷ [])
  still key room number s receivers r l = record { receiver = l.receiver; end = get_front receivers (r ∷ []) number l.receiver l.end; new = l.new }

  newest : (key : Key) (room number : ℕ) (s : Outgoing T Key) (receivers : List (Incoming T Key)) (r : Incoming T Key) → length receivers ≡ number → AreNewEnds key MAX_TAKEN room s r → LinkBegins key room number s (receivers ++ r ∷ [])
  newest key room number s receivers r count new = record { receiver = r; end = last_at receivers r number count; new = new }

-- ---- clients

abbrev pub more : Receiving → Incoming (Buffer Leased) Key → Incoming Crumb Key → Incoming Trigger Key → Receiving
more receiving chunk crumb trigger = record { chunks = receiving.chunks ++ chunk ∷ []; crumbs = receiving.crumbs ++ crumb ∷ []; triggers = receiving.triggers ++ trigger ∷ [] }

pub none_begun : (W : PlainWorkload) (node : ℕ) (giver : Giving) → AreBegun W node giver 0 [] (record { chunks = []; crumbs = []; triggers = [] })
none_begun W node giver = record { callers_are = refl; chunks = refl; crumbs = refl; triggers = refl; each = λ number caller at. nobody number caller at }
  where
    nobody : (number : ℕ) (caller : PlainClientActor) → slice_get [] number ≡ Some caller → ClientActorBegins W node giver number (record { chunks = []; crumbs = []; triggers = [] }) caller
    nobody number caller at = let never : None ≡ Some caller = at in absurd cc

still_begins : (W : PlainWorkload) (node : ℕ) (giver : Giving) (number : ℕ) (receiving : Receiving) (caller : PlainClientActor) (chunk : Incoming (Buffer Leased) Key) (crumb : Incoming Crumb Key) (trigger : Incoming Trigger Key)
    → ClientActorBegins W node giver number receiving caller → ClientActorBegins W node giver number (more receiving chunk crumb trigger) caller
still_begins W node giver number receiving caller chunk crumb trigger b =
    record {
      at = b.at;
      done = b.done;
      drawer_is = b.drawer_is;
      chunks = still _ _ number caller.client.chunks receiving.chunks chunk b.chunks;
      crumbs = still _ _ number caller.client.crumbs receiving.crumbs crumb b.crumbs;
      triggers = still _ _ number caller.client.triggers receiving.triggers trigger b.triggers;
    }

pub begun_more : (W : PlainWorkload) (node : ℕ) (giver : Giving) (count : ℕ) (callers : List PlainClientActor) (receiving : Receiving) (drawer : Drawing) (c : ConnectedClient) → AreBegun W node giver count callers receiving
    → drawer ≡ drawer_for W.settings giver count (ops_of W node count) → IsConnected W.settings (client_of node count) (ops_of W node count) giver drawer c
    → AreBegun W node giver (count + 1) (callers ++ c.caller ∷ []) (more receiving (incoming c.chunks) c.crumbs c.triggers)
begun_more W node giver count callers receiving drawer c are drawer_is is =
    let next = more receiving (incoming c.chunks) c.crumbs c.triggers in
    let here : ClientActorBegins W node giver count next c.caller =
    record {
      at = is.at;
      done = is.done;
      drawer_is = is.drawer_is ∙ drawer_is;
      chunks = newest _ _ count c.caller.client.chunks receiving.chunks (incoming c.chunks) are.chunks is.chunks;
      crumbs = newest _ _ count c.caller.client.crumbs receiving.crumbs c.crumbs are.crumbs is.crumbs;
      triggers = newest _ _ count c.caller.client.triggers receiving.triggers c.triggers are.triggers is.triggers;
    } in
    record {
      callers_are = omega (arith, are.callers_are, length-append callers (c.caller ∷ []));
      chunks = omega (arith, are.chunks, length-append receiving.chunks (incoming c.chunks ∷ []));
      crumbs = omega (arith, are.crumbs, length-append receiving.crumbs (c.crumbs ∷ []));
      triggers = omega (arith, are.triggers, length-append receiving.triggers (c.triggers ∷ []));
      each =
          λ number caller at.
          elim (get_push_cases callers c.caller caller number at) [
            | inl h ↦ still_begins W node giver number receiving caller (incoming c.chunks) c.crumbs c.triggers (are.each number caller h)
            | inr h ↦
                let same : count ≡ number = sym are.callers_are ∙ h.0 in
                subst (λ (other : PlainClientActor). ClientActorBegins W node giver number next other) h.1 (subst (λ n. ClientActorBegins W node giver n next c.caller) same here)
          ];
    }

-- ---- the port

of_link : {T : Type 0} (giver : Giving) (node number room : ℕ) (key : Key) (s : Outgoing T Key) (receivers : List (Incoming T Key)) (r : Incoming T Key) → key.client ≡ client_of node number → key.pool ≡ giver.pool → key.size ≡ giver.size
    → LinkBegins key room number s receivers → IsEnd number receivers r → IsOf giver number r.key
of_link giver node number room key s receivers r client pool size l end =
    let same : l.receiver ≡ r = same_Some l.receiver r (sym l.end ∙ end) in
    let named : r.key ≡ key = ap (λ (q : Incoming _ Key). q.key) (sym same) ∙ l.new.keys.1 in
    record {
      pool = ap (λ (k : Key). k.pool) named ∙ pool;
      size = ap (λ (k : Key). k.size) named ∙ size;
      number_is = ap (λ (k : Key). k.client.number) named ∙ ap (λ (c : _). c.number) client;
    }

pub is_port : (W : PlainWorkload) (node : ℕ) (giver : Giving) (callers : List PlainClientActor) (receiving : Receiving) → AreBegun W node giver W.settings.clients callers receiving → 1 ≤ W.settings.clients → W.settings.clients ≤ MAX_CLIENTS
    → IsPort (record { giver = giver; chunks = receiving.chunks; crumbs = receiving.crumbs; triggers = receiving.triggers })
is_port W node giver callers receiving are some few =
    let there : (number count : ℕ) → number < count → count ≡ W.settings.clients → (caller : PlainClientActor) × (slice_get callers number ≡ Some caller) = λ number count low is.
    get_there callers number (omega (arith, low, is, are.callers_are)) in
    record {
      some = omega (arith, some, are.chunks);
      few = omega (arith, few, are.chunks);
      crumbs = are.crumbs ∙ sym are.chunks;
      triggers = are.triggers ∙ sym are.chunks;
      of_chunks = λ number r end.
          let found = there number (length receiving.chunks) (slice_get_within receiving.chunks number r end) are.chunks in
          let b = are.each number found.0 found.1 in
          of_link giver node number _ _ found.0.client.chunks receiving.chunks r refl refl refl b.chunks end;
      of_crumbs = λ number r end.
          let found = there number (length receiving.crumbs) (slice_get_within receiving.crumbs number r end) are.crumbs in
          let b = are.each number found.0 found.1 in
          of_link giver node number _ _ found.0.client.crumbs receiving.crumbs r refl refl refl b.crumbs end;
      of_triggers = λ number r end.
          let found = there number (length receiving.triggers) (slice_get_within receiving.triggers number r end) are.triggers in
          let b = are.each number found.0 found.1 in
          of_link giver node number _ _ found.0.client.triggers receiving.triggers r refl refl refl b.triggers end;
    }

pub node_begins : (W : PlainWorkload) (node : ℕ) (giver : Giving) (buffers drawers : ℕ) (callers : List PlainClientActor) (receiving : Receiving)
    → giver ≡ record { pool = giver.pool; buffers = buffers; size = W.settings.size; drawers = drawers; floor = 0; turns = [] } → buffers ≡ W.settings.buffers → drawers ≡ W.settings.clients
    → AreBegun W node giver W.settings.clients callers receiving
    → NodeBegins W node callers (record { giver = giver; chunks = receiving.chunks; crumbs = receiving.crumbs; triggers = receiving.triggers })
node_begins W node giver buffers drawers callers receiving giver_is buffers_are drawers_are are =
    record {
      giver = giver_is ∙ (λ i. record { pool = giver.pool; buffers = buffers_are i; size = W.settings.size; drawers = drawers_are i; floor = 0; turns = [] });
      begun = are;
    }
