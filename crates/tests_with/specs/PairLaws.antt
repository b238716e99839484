-- What holds of a client and its port from call to call.
use Rattle.std.proofs.Common.{◌≡◌, ℕ, ◌≤◌, List, [], ◌∷◌, map, Some, refl, sym, ap, ◌∙◌, arith}
use Rattle.std.specs.Prelude.{slice_get}
use Rattle.atomic_table.specs.Seated.{TableId}
use Rattle.hs_base.specs.Rules.{fired_by}
use Rattle.hs_auto.specs.Watching.{Watch}
use Rattle.hs_live.specs.Live.{PlainClient, Port}
use Rattle.tests_with.specs.Pairs.{id, watched, CanCall, KeepsClient, KeepsPort, IsOnly}

-- the one autotrigger fires the one trigger id
pub auto_of : (autos : List Watch) → map (λ (watch : Watch). watch.rule) autos ≡ watched ∷ [] → (watch : Watch) × (slice_get autos 0 ≡ Some watch) × (fired_by watch.rule ≡ id)
auto_of [] e = absurd cc
auto_of (watch ∷ autos) e =
    let rule : watch.rule ≡ watched = cc in
    (watch, refl, ap fired_by rule)

pub can_fewer : (size m n : ℕ) (client : PlainClient) → m ≤ n → CanCall size n client → CanCall size m client
can_fewer size m n client fewer can =
    record {
      size_is = can.size_is;
      calls = omega (arith, fewer, can.calls);
      draws = omega (arith, fewer, can.draws);
      chunks = (omega (arith, fewer, can.chunks.0), omega (arith, fewer, can.chunks.1));
      crumbs = (omega (arith, fewer, can.crumbs.0), omega (arith, fewer, can.crumbs.1));
      triggers = (omega (arith, fewer, can.triggers.0), omega (arith, fewer, can.triggers.1));
      nodes = can.nodes;
      declared = can.declared;
      autos = can.autos;
    }

pub keeps_both : (a b c : PlainClient) → KeepsClient a b → KeepsClient b c → KeepsClient a c
keeps_both a b c k l =
    record {
      keeps = l.keeps ∙ k.keeps;
      chunks = l.chunks ∙ k.chunks;
      crumbs = l.crumbs ∙ k.crumbs;
      triggers = l.triggers ∙ k.triggers;
      pool = l.pool ∙ k.pool;
      number = l.number ∙ k.number;
    }

pub ports_both : (a b c : Port) → KeepsPort a b → KeepsPort b c → KeepsPort a c
ports_both a b c k l =
    record {
      chunks = l.chunks ∙ k.chunks;
      crumbs = l.crumbs ∙ k.crumbs;
      triggers = l.triggers ∙ k.triggers;
      pool = l.pool ∙ k.pool;
      size = l.size ∙ k.size;
      drawers = l.drawers ∙ k.drawers;
    }

pub only_kept : (port port' : Port) (client client' : PlainClient) → KeepsPort port port' → KeepsClient client client' → IsOnly port client → IsOnly port' client'
only_kept port port' client client' p k only =
    record {
      keeps = k.keeps ∙ only.keeps;
      chunks = p.chunks ∙ only.chunks ∙ ap (λ (l : TableId). l ∷ []) (sym k.chunks);
      crumbs = p.crumbs ∙ only.crumbs ∙ ap (λ (l : TableId). l ∷ []) (sym k.crumbs);
      triggers = p.triggers ∙ only.triggers ∙ ap (λ (l : TableId). l ∷ []) (sym k.triggers);
      pool = k.pool ∙ only.pool ∙ sym p.pool;
      number = k.number ∙ only.number;
      drawers = p.drawers ∙ only.drawers;
    }
