-- A client and its port keep their ends from call to call.
use Rattle.std.proofs.Common.{◌≡◌, zero, suc, List, [], ◌∷◌, map, set, Option, Some, None, refl, sym, ap, ◌∙◌, subst}
use Rattle.std.proofs.lemmas.Option.{same_Some}
use Rattle.std.specs.Prelude.{slice_get}
use Rattle.atomic_table.specs.Seated.{TableId}
use Rattle.hs_words.specs.declared.token.Held.{Held}
use Rattle.hs_link.specs.Contents.{Outgoing, Incoming}
use Rattle.hs_client.specs.Core.{Core}
use Rattle.hs_ring.specs.Parts.{Leased, Giving, Drawing}
use Rattle.hs_live.specs.Keys.{Key}
use Rattle.hs_live.specs.Live.{PlainClient, Port, outgoing, incoming, is_told, ReceivesAt, MeetAt}
use Rattle.hs_live.specs.Calls.{IsOf, AreOf, AreMates, MeetsAt}
use Rattle.tests_with.specs.Pairs.{links, KeepsClient, KeepsPort, IsOnly}

-- ---- the receivers of a port

module _ {T F : Type 0} where
  pub mate_of : (receivers : List (Incoming T F)) (link : TableId) → links receivers ≡ link ∷ [] → (r : Incoming T F) × (slice_get receivers 0 ≡ Some r) × (r.link ≡ link)
  mate_of [] link e = absurd cc
  mate_of (r ∷ rs) link e = (r, refl, cc)

  links_set : (receivers : List (Incoming T F)) (r r' : Incoming T F) → slice_get receivers 0 ≡ Some r → r'.link ≡ r.link → links (set receivers 0 r') ≡ links receivers
  links_set [] r r' e same = absurd cc
  links_set (x ∷ rs) r r' e same =
      let link : r'.link ≡ x.link = same ∙ ap (λ (y : Incoming T F). y.link) (sym (same_Some x r e)) in
      ap (λ l. l ∷ links rs) link

  pub links_received : (receivers receivers' : List (Incoming T F)) (item : Option T) → ReceivesAt 0 receivers item receivers' → links receivers' ≡ links receivers
  links_received receivers receivers' (Some item) h = ap links h.3 ∙ links_set receivers h.0 h.1 h.2 h.4.0
  links_received receivers receivers' None h = ap links h.2

  pub links_met : (receivers receivers' : List (Incoming T F)) (s s' : Outgoing T F) → MeetAt 0 receivers s receivers' s' → links receivers' ≡ links receivers
  links_met receivers receivers' s s' met = ap links met.receivers_are ∙ links_set receivers met.receiver (is_told met.receiver s) met.end refl

  pub link_met : (receivers receivers' : List (Incoming T F)) (s s' : Outgoing T F) → MeetAt 0 receivers s receivers' s' → s'.link ≡ s.link
  link_met receivers receivers' s s' met = ap (λ (o : Outgoing T F). o.link) met.sender_is

-- a list of one receiver is a port's, if its key is the port's
pub of_only : {T : Type 0} (giver : Giving) (receivers : List (Incoming T Key)) (r : Incoming T Key) → receivers ≡ r ∷ [] → IsOf giver 0 r.key → AreOf giver receivers
of_only {T} giver receivers r e is = subst (λ (l : List (Incoming T Key)). AreOf giver l) (sym e) (of_one giver r is)
  where
    of_one : {T : Type 0} (giver : Giving) (r : Incoming T Key) → IsOf giver 0 r.key → AreOf giver (r ∷ [])
    of_one {T} giver r is zero x found = subst (λ (y : Incoming T Key). IsOf giver 0 y.key) (same_Some r x found) is
    of_one {T} giver r is (suc number) x found = absurd cc

links_incoming : {g : _} (receivers : List (Incoming (Held Leased g) Key)) → links (map incoming receivers) ≡ links receivers
links_incoming [] = refl
links_incoming (r ∷ rs) = ap (λ l. r.link ∷ l) (links_incoming rs)

pub chunk_links : {g h : _} (receivers : List (Incoming (Held Leased g) Key)) (s : Outgoing (Held Leased h) Key) (port : Port) (client : PlainClient) → map incoming receivers ≡ port.chunks → outgoing s ≡ client.chunks
    → links port.chunks ≡ client.chunks.link ∷ [] → links receivers ≡ s.link ∷ []
chunk_links receivers s port client there here only =
    sym (links_incoming receivers) ∙ ap links there ∙ only ∙ ap (λ (o : Outgoing _ Key). o.link ∷ []) (sym here)

-- ---- calls

pub mates_of : (port : Port) (client : PlainClient) → IsOnly port client → AreMates 0 port client
mates_of port client only =
    record {
      chunks = mate_of port.chunks client.chunks.link only.chunks;
      crumbs = mate_of port.crumbs client.crumbs.link only.crumbs;
      triggers = mate_of port.triggers client.triggers.link only.triggers;
      pool = only.pool;
    }

pub port_met : (port : Port) (client : PlainClient) (port' : Port) (client' : PlainClient) → MeetsAt 0 port client port' client' → KeepsPort port port'
port_met port client port' client' met =
    record {
      chunks = links_met port.chunks port'.chunks client.chunks client'.chunks met.chunks;
      crumbs = links_met port.crumbs port'.crumbs client.crumbs client'.crumbs met.crumbs;
      triggers = links_met port.triggers port'.triggers client.triggers client'.triggers met.triggers;
      pool = ap (λ (g : Giving). g.pool) met.pool.giver_hears;
      size = ap (λ (g : Giving). g.size) met.pool.giver_hears;
      drawers = ap (λ (g : Giving). g.drawers) met.pool.giver_hears;
    }

pub client_met : (port : Port) (client : PlainClient) (port' : Port) (client' : PlainClient) → MeetsAt 0 port client port' client' → KeepsClient client client'
client_met port client port' client' met =
    record {
      keeps = ap (λ (core : Core Leased). core.keeps) met.core;
      chunks = link_met port.chunks port'.chunks client.chunks client'.chunks met.chunks;
      crumbs = link_met port.crumbs port'.crumbs client.crumbs client'.crumbs met.crumbs;
      triggers = link_met port.triggers port'.triggers client.triggers client'.triggers met.triggers;
      pool = ap (λ (d : Drawing). d.pool) met.pool.drawer_hears;
      number = ap (λ (d : Drawing). d.number) met.pool.drawer_hears;
    }
