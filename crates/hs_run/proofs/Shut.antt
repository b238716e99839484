-- The clients of nodes are taken apart, and their links closed.
use Rattle.std.proofs.Common.{◌≡◌, ℕ, zero, suc, ◌<◌, List, [], ◌∷◌, ◌++◌, length, map, get_or, Some, refl, sym, ap, ◌∙◌, subst, arith, append_assoc, slice_get}
use Rattle.hs_run.proofs.Prelude.{Result, Ok, Err, IfOk, Listing, client_book_of, IsClosedAgent, AllSent, append-nil, length-map, AllByRecursion, get_unmap, Crumb, Trigger, client_of, PlainClientBook, Outgoing, Incoming, Key, IsMate, Drawing, Leased, Buffer, PlainClientActor, linked, PlainClosedAgent, AreMatesOf, PlainNodeActors, operations_at, place_of, HaveClosedLinks}
use Rattle.std.proofs.lemmas.Result.{IfOk-at_ok}
use Rattle.hs_base.specs.declared.ids.Memory.{Memory}
use Rattle.hs_base.proofs.Alls.{all_by_place}
use Rattle.hs_run_actors.specs.Standing.{IsDone}
use Rattle.hs_records.specs.declared.books.ClientBook.{ClientBook}
use Rattle.hs_live.specs.Live.{outgoing}
use Rattle.hs_run_actors.specs.ClosedAgents.{all_sent}
use Rattle.hs_run_actors.specs.Nodes.{AreNotes}
use Rattle.hs_run_actors.specs.declared.apart.PartedClients.{PartedClients}
use Rattle.hs_run.specs.Closed.{AreEndsLeft, IsClosedOf, IsClosedWith}
use Rattle.hs_run.specs.Ended.{IsEnded, HasClosedLinks}
use Rattle.hs_run.specs.declared.shutting.ClosedNode.{ClosedNode}

-- ---- lists

pub there : {A B : Type 0} (f : A → B) (xs : List A) (place : ℕ) (x : A) → (place < length xs) × (x ≡ get_or xs place x) → slice_get (map f xs) place ≡ Some (f x)
there f [] place x h = absurd (omega (arith, h.0))
there f (y ∷ xs) zero x h = ap (λ (z : _). Some (f z)) (sym h.1)
there f (y ∷ xs) (suc place) x h = there f xs place x (omega (arith, h.0), h.1)

-- ---- one node

pub all_done : (site : PlainNodeActors) → IsEnded site → AllByRecursion IsDone site.callers
all_done site is =
    all_by_place IsDone site.callers
    (λ number caller found.
    record {
      settings = is.workload.settings;
      client = client_of is.node number;
      ops = operations_at is.workload (place_of is.workload.settings.clients is.node number);
      at = is.stands.callers number caller found;
      all = is.all number caller found;
    })

mates : {T : Type 0} (f : PlainClientActor → Outgoing T Key) (site : PlainNodeActors) (senders : List (Outgoing T Key)) (receivers : List (Incoming T Key)) → senders ≡ map f site.callers → length receivers ≡ length site.callers
    → ((number : ℕ) (caller : PlainClientActor) → slice_get site.callers number ≡ Some caller → IsMate number receivers (f caller)) → AreMatesOf senders receivers
mates f site senders receivers are count each =
    record {
      count = ap length are ∙ length-map site.callers f ∙ sym count;
      each = λ number s found.
          let (caller, there, is) = get_unmap f site.callers number s (ap (λ (l : List _). slice_get l number) (sym are) ∙ found) in
          subst (λ (o : Outgoing _ Key). IsMate number receivers o) is (each number caller there);
    }

pub chunk_mates : (site : PlainNodeActors) (senders : List (Outgoing (Buffer Leased) Key)) → IsEnded site → senders ≡ map (λ (c : PlainClientActor). c.client.chunks) site.callers → AreMatesOf senders site.agent.port.chunks
chunk_mates site senders is are =
    let lines = is.stands.agent.stands.lines_are.chunks.count in
    let count : length site.agent.port.chunks ≡ length site.callers = sym (length-map site.agent.port.chunks (λ r. linked r)) ∙ lines ∙ sym is.stands.count in
    mates (λ (c : PlainClientActor). c.client.chunks) site senders site.agent.port.chunks are count (λ number caller found. (is.stands.mates number caller found).chunks)

pub crumb_mates : (site : PlainNodeActors) (senders : List (Outgoing Crumb Key)) → IsEnded site → senders ≡ map (λ (c : PlainClientActor). c.client.crumbs) site.callers → AreMatesOf senders site.agent.port.crumbs
crumb_mates site senders is are =
    let lines = is.stands.agent.stands.lines_are.crumbs.count in
    let count : length site.agent.port.crumbs ≡ length site.callers = sym (length-map site.agent.port.crumbs (λ r. linked r)) ∙ lines ∙ sym is.stands.count in
    mates (λ (c : PlainClientActor). c.client.crumbs) site senders site.agent.port.crumbs are count (λ number caller found. (is.stands.mates number caller found).crumbs)

pub trigger_mates : (site : PlainNodeActors) (senders : List (Outgoing Trigger Key)) → IsEnded site → senders ≡ map (λ (c : PlainClientActor). c.client.triggers) site.callers → AreMatesOf senders site.agent.port.triggers
trigger_mates site senders is are =
    let lines = is.stands.agent.stands.lines_are.triggers.count in
    let count : length site.agent.port.triggers ≡ length site.callers = sym (length-map site.agent.port.triggers (λ r. linked r)) ∙ lines ∙ sym is.stands.count in
    mates (λ (c : PlainClientActor). c.client.triggers) site senders site.agent.port.triggers are count (λ number caller found. (is.stands.mates number caller found).triggers)

-- what clients left that were taken apart, and their agent with closed links
pub closed_links : (site : PlainNodeActors) (parted : PartedClients) (closed : ClosedNode) → IsClosedWith site.agent parted closed
    → AreNotes site.callers (map client_book_of parted.books.items)
    → parted.drawers.items ≡ map (λ (c : PlainClientActor). c.client.drawer) site.callers
    → map outgoing parted.chunks.items ≡ map (λ (c : PlainClientActor). c.client.chunks) site.callers
    → parted.crumbs.items ≡ map (λ (c : PlainClientActor). c.client.crumbs) site.callers
    → parted.triggers.items ≡ map (λ (c : PlainClientActor). c.client.triggers) site.callers
    → HasClosedLinks site (map client_book_of closed.books.items) closed.drawers.items closed.node
closed_links site parted closed is notes drawers chunks crumbs triggers =
    record {
      notes = subst (λ (l : Listing ClientBook). AreNotes site.callers (map client_book_of l.items)) (sym is.books) notes;
      drawers_are = ap (λ (l : Listing _). l.items) is.drawers ∙ drawers;
      stands = λ W work manned.
          subst (λ (all : AllSent). IsClosedAgent W work all closed.node) (λ i. all_sent (chunks i) (crumbs i) (triggers i)) (is.stands W work manned);
      giver = is.giver;
      asks = is.asks;
      said = is.said;
      agent = is.agent;
    }

module _ (site : PlainNodeActors) where
  pub ends_left : IsEnded site → (parted : Result PartedClients Memory) → IfOk parted (λ p. map outgoing p.chunks.items ≡ map (λ (c : PlainClientActor). c.client.chunks) site.callers)
      → IfOk parted (λ p. p.crumbs.items ≡ map (λ (c : PlainClientActor). c.client.crumbs) site.callers) → IfOk parted (λ p. p.triggers.items ≡ map (λ (c : PlainClientActor). c.client.triggers) site.callers)
      → IfOk parted (AreEndsLeft site.agent)
  ends_left is (Err e) chunks crumbs triggers = tt
  ends_left is (Ok p) chunks crumbs triggers =
      record { chunks = chunk_mates site (map outgoing p.chunks.items) is chunks; crumbs = crumb_mates site p.crumbs.items is crumbs; triggers = trigger_mates site p.triggers.items is triggers }

  pub closed_of : (parted : Result PartedClients Memory) (closed : ClosedNode) → IsClosedOf site.agent parted closed
      → IfOk parted (λ p. AreNotes site.callers (map client_book_of p.books.items))
      → IfOk parted (λ p. p.drawers.items ≡ map (λ (c : PlainClientActor). c.client.drawer) site.callers)
      → IfOk parted (λ p. map outgoing p.chunks.items ≡ map (λ (c : PlainClientActor). c.client.chunks) site.callers)
      → IfOk parted (λ p. p.crumbs.items ≡ map (λ (c : PlainClientActor). c.client.crumbs) site.callers)
      → IfOk parted (λ p. p.triggers.items ≡ map (λ (c : PlainClientActor). c.client.triggers) site.callers)
      → HasClosedLinks site (map client_book_of closed.books.items) closed.drawers.items closed.node
  closed_of parted closed is notes drawers chunks crumbs triggers =
      closed_links site is.left closed is.is (IfOk-at_ok (λ (p : PartedClients). AreNotes site.callers (map client_book_of p.books.items)) is.left_is notes)
      (IfOk-at_ok (λ (p : PartedClients). p.drawers.items ≡ map (λ (c : PlainClientActor). c.client.drawer) site.callers) is.left_is drawers)
      (IfOk-at_ok (λ (p : PartedClients). map outgoing p.chunks.items ≡ map (λ (c : PlainClientActor). c.client.chunks) site.callers) is.left_is chunks)
      (IfOk-at_ok (λ (p : PartedClients). p.crumbs.items ≡ map (λ (c : PlainClientActor). c.client.crumbs) site.callers) is.left_is crumbs)
      (IfOk-at_ok (λ (p : PartedClients). p.triggers.items ≡ map (λ (c : PlainClientActor). c.client.triggers) site.callers) is.left_is triggers)

-- ---- all nodes

pub shut_more : (sites : List PlainNodeActors) (books : List PlainClientBook) (lists : List (List Drawing)) (shuts : List PlainClosedAgent) (site : PlainNodeActors) (noted : List PlainClientBook) (drawers : List Drawing) (shut : PlainClosedAgent)
    → HaveClosedLinks sites books lists shuts → HasClosedLinks site noted drawers shut → HaveClosedLinks (sites ++ site ∷ []) (books ++ noted) (lists ++ drawers ∷ []) (shuts ++ shut ∷ [])
shut_more [] books [] [] site noted drawers shut are has = (noted, [], ap (λ (l : List PlainClientBook). l ++ noted) are ∙ sym (append-nil noted), has, refl)
shut_more [] books [] (s ∷ shuts) site noted drawers shut are has = absurd are
shut_more [] books (d ∷ lists) shuts site noted drawers shut are has = absurd are
shut_more (one ∷ sites) books [] shuts site noted drawers shut are has = absurd are
shut_more (one ∷ sites) books (d ∷ lists) [] site noted drawers shut are has = absurd are
shut_more (one ∷ sites) books (d ∷ lists) (s ∷ shuts) site noted drawers shut are has =
    let (first, others, is, one_has, rest) = are in (
      first,
      others ++ noted,
      ap (λ (l : List PlainClientBook). l ++ noted) is ∙ append_assoc first others noted,
      one_has,
      shut_more sites others lists shuts site noted drawers shut rest has,
    )
