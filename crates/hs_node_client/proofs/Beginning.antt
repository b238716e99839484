-- A client that opens a trace.
use Rattle.std.proofs.Common.{◌≡◌, ◌+◌, ◌*◌, ◌/◌, ◌^◌, ◌<◌, ◌≤◌, refl, sym, ap, ◌∙◌, subst, lt_of_not-le, arith}
use mathlib.Core.Logic.{dite}
use native.Mathlib.Decide.{dec_le}
use Rattle.hs_client.specs.Core.{Began}
use Rattle.hs_node_client.proofs.Prelude.{TraceId, Core, after_step, renewed_core, PlainClient, KeepsEnds, PlainNodeClient, HasCalls, IsNodeClient, Leased, Drawing, DrawsOn, draws_none, draws_refilled, goes_same}
use Rattle.hs_node_client.proofs.Ends.{keeps_trans, keeps_same}
use Rattle.hs_node_client.specs.Clients.{KeepsDraws}
use Rattle.hs_node_client.specs.Lives.{HasHalf, TurnsInto}
use Rattle.hs_node_client.specs.declared.client.NodeClient.TheInside.{Inside}
use Rattle.hs_node_client.specs.declared.counts.RunningCounts.{RunningCounts}
use Rattle.hs_node_client.specs.declared.notebook.Notebook.{Notebook}

-- a core in the place of another one of the same client
core_keeps : (old : PlainClient) (core : Core Leased) → core.client ≡ old.core.client → core.size ≡ old.core.size → core.calls ≡ old.core.calls → KeepsEnds old (record old { core = core })
core_keeps old core owner size calls =
    record {
      drawer = draws_none old.drawer;
      chunks = goes_same old.chunks;
      crumbs = goes_same old.crumbs;
      triggers = goes_same old.triggers;
      owner = owner;
      size = size;
      calls = calls;
    }

-- what a client that was renewed, or was not, has
pub record IsTurned (old mid : PlainNodeClient) : Type 0 where
  pub keeps : KeepsEnds old.live mid.live
  pub half : 2 * mid.live.core.counted ≤ mid.live.core.calls
  pub number : mid.notebook ≡ old.notebook

pub turned : (old mid : PlainNodeClient) → TurnsInto old mid → IsTurned old mid
turned old mid t =
    let core = old.live.core in
    dite (dec_le (2 * core.counted) core.calls)
    (λ half.
    let same = t.half half in
    record {
      keeps = subst (λ (c : PlainNodeClient). KeepsEnds old.live c.live) (sym same) (keeps_same old.live);
      half = subst (λ (c : PlainNodeClient). 2 * c.live.core.counted ≤ c.live.core.calls) (sym same) half;
      number = ap (λ (c : PlainNodeClient). c.notebook) same;
    })
    (λ not.
    let r = t.low (lt_of_not-le not) in
    record {
      keeps = subst (λ (c : PlainNodeClient). KeepsEnds old.live c.live) (sym r.only) (core_keeps old.live (renewed_core core.calls core) refl refl refl);
      half = subst (λ (c : PlainNodeClient). 2 * c.live.core.counted ≤ c.live.core.calls) (sym r.only) (omega arith);
      number = ap (λ (c : PlainNodeClient). c.notebook) r.only;
    })

-- a client whose allowance of draws was made whole, or stayed
pub drawer_kept : (old new : PlainClient) → DrawsOn old.drawer new.drawer → new ≡ record old { drawer = new.drawer } → KeepsEnds old new
drawer_kept old new draws only =
    let there : KeepsEnds old (record old { drawer = new.drawer }) =
    record { drawer = draws; chunks = goes_same old.chunks; crumbs = goes_same old.crumbs; triggers = goes_same old.triggers; owner = refl; size = refl; calls = refl } in
    subst (λ (c : PlainClient). KeepsEnds old c) (sym only) there

draws_kept : (old new : Drawing) → KeepsDraws old new → DrawsOn old new
draws_kept old new kept =
    dite (dec_le (old.most / 2) old.left)
    (λ enough. subst (λ (d : Drawing). DrawsOn old d) (sym (kept.enough enough)) (draws_none old))
    (λ not. let few = kept.few (lt_of_not-le not) in draws_refilled old new few.0 few.1)

-- draws that were kept after a renewal, or none
pub draws_turned : (old mid : PlainNodeClient) (drawer : Drawing) → TurnsInto old mid → KeepsDraws mid.live.drawer drawer → KeepsDraws old.live.drawer drawer
draws_turned old mid drawer t kept = subst (λ (d : Drawing). KeepsDraws d drawer) same kept
  where
    same : mid.live.drawer ≡ old.live.drawer
    same =
        dite (dec_le (2 * old.live.core.counted) old.live.core.calls) (λ half. ap (λ (c : PlainNodeClient). c.live.drawer) (t.half half))
        (λ not. ap (λ (c : PlainNodeClient). c.live.drawer) (t.low (lt_of_not-le not)).only)

pub begin_keeps : (trace : TraceId) (old mid : PlainNodeClient) (kept new : PlainClient) → TurnsInto old mid → KeepsDraws mid.live.drawer kept.drawer → kept ≡ record mid.live { drawer = kept.drawer }
    → new ≡ record kept { core = after_step kept.core (Began trace) } → KeepsEnds old.live new
begin_keeps trace old mid kept new t draws only is =
    keeps_trans old.live mid.live new (turned old mid t).keeps
    (keeps_trans mid.live kept new (drawer_kept mid.live kept (draws_kept mid.live.drawer kept.drawer draws) only)
    (subst (λ (c : PlainClient). KeepsEnds kept c) (sym is) (core_keeps kept (after_step kept.core (Began trace)) refl refl refl)))

-- a client that has opened a trace
pub begun_inside : (trace : TraceId) (s : Inside) (kept live : PlainClient) (notebook : Notebook) (tally : RunningCounts) → IsNodeClient s → kept ≡ record s.live { drawer = kept.drawer } → live ≡ record kept { core = after_step kept.core (Began trace) }
    → 2 * s.live.core.counted ≤ s.live.core.calls → notebook.number ≡ s.notebook.number + 1 → s.notebook.number + 2 < 2 ^ 64 → tally.here.points ≡ 0
    → IsNodeClient (record { live = live; late = s.late; notebook = notebook; tally = tally; declared = s.declared; fires = s.fires; nodes = s.nodes; calls = s.calls })
begun_inside trace s kept live notebook tally is only after half number more none =
    let new : PlainClient = record s.live { core = after_step s.live.core (Began trace); drawer = kept.drawer } in
    let whole : live ≡ new = after ∙ ap (λ (c : PlainClient). record c { core = after_step c.core (Began trace) }) only in
    let with : PlainClient → Inside = λ client. record { live = client; late = s.late; notebook = notebook; tally = tally; declared = s.declared; fires = s.fires; nodes = s.nodes; calls = s.calls } in
    let has : HasCalls new.core = record { left = omega (arith, half, is.enough, is.calls); room = omega (arith, half, is.enough, is.calls, is.size) } in
    let made : IsNodeClient (with new) =
    record {
      declared = is.declared;
      fires = is.fires;
      nodes = is.nodes;
      late = is.late;
      most = is.most;
      calls = is.calls;
      enough = is.enough;
      size = is.size;
      has = λ _. has;
      counted = omega (arith, none);
      none = λ _. none;
      number = λ _. omega (arith, number, more);
    } in
    subst (λ (client : PlainClient). IsNodeClient (with client)) (sym whole) made

pub begun_half : (trace : TraceId) (old mid : PlainNodeClient) (kept new : PlainClient) → TurnsInto old mid → kept ≡ record mid.live { drawer = kept.drawer } → new ≡ record kept { core = after_step kept.core (Began trace) } → HasHalf new.core
begun_half trace old mid kept new t only is =
    let half = (turned old mid t).half in
    let whole = is ∙ ap (λ (c : PlainClient). record c { core = after_step c.core (Began trace) }) only in
    subst (λ (c : PlainClient). HasHalf c.core) (sym whole) (omega (arith, half))
