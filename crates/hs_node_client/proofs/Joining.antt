-- The clients of a node are made one after another.
use Rattle.std.proofs.Common.{◌≡◌, inl, inr, ℕ, zero, suc, ◌+◌, ◌<◌, ◌≤◌, List, [], ◌∷◌, ◌++◌, length, get_or, Some, None, refl, sym, ap, ◌∙◌, subst, arith, length-append}
use Rattle.std.proofs.lemmas.List.{length-replicate}
use Rattle.std.proofs.lemmas.List.Folds.{sum_by-replicate}
use Rattle.std.proofs.lemmas.Option.{same_Some, slice_get_within}
use Rattle.std.specs.List.{AllByRecursion}
use Rattle.std.specs.Prelude.{replicate, slice_get, sum}
use Rattle.hs_base.specs.declared.limits.TheConstants.{MOST_AHEAD, MOST_CLIENTS}
use Rattle.hs_link.specs.Contents.{Incoming, AreNewEnds, Outgoing}
use Rattle.hs_base.proofs.Places.{get_push_cases, get_front, get_there, item_there}
use Rattle.hs_live.specs.Calls.{IsOf, IsPort}
use Rattle.hs_live.specs.Keys.{Key}
use Rattle.hs_ring.proofs.Drawers.{new_drawers_length}
use Rattle.hs_ring.specs.Parts.{Drawing, Giving, new_drawers}
use Rattle.hs_words.specs.Pools.{PoolName}
use Rattle.hs_node_client.specs.declared.limits.ClientLimits.{ClientLimits}
use Rattle.hs_node_client.specs.Clients.{PlainNodeClient}
use Rattle.hs_node_client.specs.Making.{AreJoined, AreLinked, BeginsAt, Ends, IsNewClient, PlainRules, Receiving, StandAt, drawer_of, id_of, key_of, share, shares}

-- ---- drawers

all_same : (n x : ℕ) → AllByRecursion (λ y. y ≡ x) (replicate n x)
all_same zero x = tt
all_same (suc n) x = (refl, all_same n x)

abbrev drawing : PoolName → (buffers size number left : ℕ) → Drawing
drawing pool buffers size number left = record { pool = pool; buffers = buffers; size = size; number = number; most = left; left = left; floor = 0; answers = [] }

drawer_at : (pool : PoolName) (buffers size number left : ℕ) (lefts : List ℕ) (place : ℕ) (drawer : Drawing) → AllByRecursion (λ y. y ≡ left) lefts
    → slice_get (new_drawers pool buffers size number lefts) place ≡ Some drawer → drawer ≡ drawing pool buffers size (number + place) left
drawer_at pool buffers size number left [] place drawer all there = let never : None ≡ Some drawer = there in absurd cc
drawer_at pool buffers size number left (first ∷ lefts) zero drawer all there =
    let here : number ≡ number + 0 = omega arith in
    sym (same_Some _ drawer there) ∙ ap (drawing pool buffers size number) all.0 ∙ ap (λ n. drawing pool buffers size n left) here
drawer_at pool buffers size number left (first ∷ lefts) (suc place) drawer all there =
    let here : suc number + place ≡ number + suc place = omega arith in
    drawer_at pool buffers size (suc number) left lefts place drawer all.1 there ∙ ap (λ n. drawing pool buffers size n left) here

-- The next drawer is that of the next client.
pub record IsNext (limits : ClientLimits) (giver : Giving) (number : ℕ) (drawer : Drawing) : Type 0 where
  pub low : number < limits.clients
  pub drawer_is : drawer ≡ drawer_of limits giver number

pub next_is : (limits : ClientLimits) (giver : Giving) (drawers : List Drawing) (number place : ℕ) (drawer : Drawing) → drawers ≡ new_drawers giver.pool limits.buffers limits.size 0 (shares limits.clients)
    → number ≡ place → (place < length drawers) × (drawer ≡ get_or drawers place drawer) → IsNext limits giver number drawer
next_is limits giver drawers number place drawer made same turn =
    let lefts = shares limits.clients in
    let low : number < limits.clients =
    omega (arith, same, turn.0, ap length made, new_drawers_length giver.pool limits.buffers limits.size 0 lefts, length-replicate limits.clients (share limits.clients)) in
    let there : slice_get (new_drawers giver.pool limits.buffers limits.size 0 lefts) number ≡ Some drawer =
    ap (λ (l : List Drawing). slice_get l number) (sym made) ∙ ap (slice_get drawers) same ∙ item_there drawers place drawer turn in
    let zero_on : 0 + number ≡ number = omega arith in
    record {
      low = low;
      drawer_is =
          drawer_at giver.pool limits.buffers limits.size 0 (share limits.clients) lefts number drawer (all_same limits.clients (share limits.clients)) there
          ∙ ap (λ n. drawing giver.pool limits.buffers limits.size n (share limits.clients)) zero_on;
    }

-- ---- lists with an item more

last_at : {A : Type 0} (xs : List A) (x : A) (place : ℕ) → length xs ≡ place → slice_get (xs ++ x ∷ []) place ≡ Some x
last_at xs x place is = ap (slice_get (xs ++ x ∷ [])) (sym is) ∙ seam xs
  where
    seam : (front : List _) → slice_get (front ++ x ∷ []) (length front) ≡ Some x
    seam [] = refl
    seam (y ∷ front) = seam front

-- ---- clients

abbrev pub more_ends : Receiving → Ends → Receiving
more_ends r e = record { chunks = r.chunks ++ e.chunks ∷ []; crumbs = r.crumbs ++ e.crumbs ∷ []; triggers = r.triggers ++ e.triggers ∷ []; late = r.late ++ e.late ∷ []; notes = r.notes ++ e.notes ∷ [] }

abbrev pub no_ends : Receiving
no_ends = record { chunks = []; crumbs = []; triggers = []; late = []; notes = [] }

pub none_joined : (limits : ClientLimits) (rules : PlainRules) (giver : Giving) → AreJoined limits rules giver 0 [] no_ends
none_joined limits rules giver = record { clients_are = refl; chunks = refl; crumbs = refl; triggers = refl; late = refl; notes = refl; each = λ number client at. nobody number client at }
  where
    nobody : (number : ℕ) (client : PlainNodeClient) → slice_get [] number ≡ Some client → BeginsAt limits rules giver number no_ends client
    nobody number client at = let never : None ≡ Some client = at in absurd cc

still_at : (number : ℕ) (r : Receiving) (e ends : Ends) → StandAt number r ends → StandAt number (more_ends r e) ends
still_at number r e ends s =
    record {
      chunks = get_front r.chunks (e.chunks ∷ []) number ends.chunks s.chunks;
      crumbs = get_front r.crumbs (e.crumbs ∷ []) number ends.crumbs s.crumbs;
      triggers = get_front r.triggers (e.triggers ∷ []) number ends.triggers s.triggers;
      late = get_front r.late (e.late ∷ []) number ends.late s.late;
      notes = get_front r.notes (e.notes ∷ []) number ends.notes s.notes;
    }

pub joined_more : (limits : ClientLimits) (rules : PlainRules) (giver : Giving) (count : ℕ) (clients : List PlainNodeClient) (r : Receiving) (client : PlainNodeClient) (ends : Ends) → AreJoined limits rules giver count clients r
    → IsNewClient limits rules (id_of limits count) (drawer_of limits giver count) client → AreLinked limits (key_of rules giver (id_of limits count)) (id_of limits count) client ends
    → AreJoined limits rules giver (count + 1) (clients ++ client ∷ []) (more_ends r ends)
joined_more limits rules giver count clients r client ends are new linked =
    let next = more_ends r ends in
    let stand : StandAt count next ends =
    record {
      chunks = last_at r.chunks ends.chunks count are.chunks;
      crumbs = last_at r.crumbs ends.crumbs count are.crumbs;
      triggers = last_at r.triggers ends.triggers count are.triggers;
      late = last_at r.late ends.late count are.late;
      notes = last_at r.notes ends.notes count are.notes;
    } in
    let here : BeginsAt limits rules giver count next client = record { new = new; ends = ends; stand = stand; linked = linked } in
    record {
      clients_are = omega (arith, are.clients_are, length-append clients (client ∷ []));
      chunks = omega (arith, are.chunks, length-append r.chunks (ends.chunks ∷ []));
      crumbs = omega (arith, are.crumbs, length-append r.crumbs (ends.crumbs ∷ []));
      triggers = omega (arith, are.triggers, length-append r.triggers (ends.triggers ∷ []));
      late = omega (arith, are.late, length-append r.late (ends.late ∷ []));
      notes = omega (arith, are.notes, length-append r.notes (ends.notes ∷ []));
      each =
          λ number other at.
          elim (get_push_cases clients client other number at) [
            | inl h ↦
                let b = are.each number other h in
                record { new = b.new; ends = b.ends; stand = still_at number r ends b.ends b.stand; linked = b.linked }
            | inr h ↦
                let same : count ≡ number = sym are.clients_are ∙ h.0 in
                subst (λ (c : PlainNodeClient). BeginsAt limits rules giver number next c) h.1 (subst (λ n. BeginsAt limits rules giver n next client) same here)
          ];
    }

-- ---- the port

of_link : {T : Type 0} (limits : ClientLimits) (rules : PlainRules) (giver : Giving) (number most : ℕ) (s : Outgoing T Key) (end r : Incoming T Key) → AreNewEnds (key_of rules giver (id_of limits number)) most most s end → end ≡ r → IsOf giver number r.key
of_link limits rules giver number most s end r new same =
    let named : r.key ≡ key_of rules giver (id_of limits number) = ap (λ (q : Incoming _ Key). q.key) (sym same) ∙ new.keys.1 in
    record {
      pool = ap (λ (k : Key). k.pool) named;
      size = ap (λ (k : Key). k.size) named;
      number_is = ap (λ (k : Key). k.client.number) named;
    }

pub is_port : (limits : ClientLimits) (rules : PlainRules) (giver : Giving) (clients : List PlainNodeClient) (r : Receiving) → AreJoined limits rules giver limits.clients clients r → 1 ≤ limits.clients → limits.clients ≤ MOST_CLIENTS
    → IsPort (record { giver = giver; chunks = r.chunks; crumbs = r.crumbs; triggers = r.triggers })
is_port limits rules giver clients r are some few =
    let there : (number count : ℕ) → number < count → count ≡ limits.clients → (client : PlainNodeClient) × (slice_get clients number ≡ Some client) = λ number count low is.
    get_there clients number (omega (arith, low, is, are.clients_are)) in
    record {
      some = omega (arith, some, are.chunks);
      few = omega (arith, few, are.chunks);
      crumbs = are.crumbs ∙ sym are.chunks;
      triggers = are.triggers ∙ sym are.chunks;
      of_chunks = λ number q end.
          let found = there number (length r.chunks) (slice_get_within r.chunks number q end) are.chunks in
          let b = are.each number found.0 found.1 in
          of_link limits rules giver number limits.backlog found.0.live.chunks b.ends.chunks q b.linked.chunks (same_Some b.ends.chunks q (sym b.stand.chunks ∙ end));
      of_crumbs = λ number q end.
          let found = there number (length r.crumbs) (slice_get_within r.crumbs number q end) are.crumbs in
          let b = are.each number found.0 found.1 in
          of_link limits rules giver number limits.backlog found.0.live.crumbs b.ends.crumbs q b.linked.crumbs (same_Some b.ends.crumbs q (sym b.stand.crumbs ∙ end));
      of_triggers = λ number q end.
          let found = there number (length r.triggers) (slice_get_within r.triggers number q end) are.triggers in
          let b = are.each number found.0 found.1 in
          of_link limits rules giver number limits.backlog found.0.live.triggers b.ends.triggers q b.linked.triggers (same_Some b.ends.triggers q (sym b.stand.triggers ∙ end));
    }

-- ---- the shares of the draws

pub shares_few : (clients : ℕ) → 1 ≤ clients → sum (shares clients) ≤ MOST_AHEAD
shares_few clients some =
    let all = sum_by-replicate (λ n. n) clients (share clients) in
    omega (arith, some, all)
