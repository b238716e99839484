-- How a life goes on.
use Rattle.std.proofs.Common.{◌≡◌, ℕ, ◌*◌, List, [], ◌∷◌, refl, sym, ap, subst, lt_of_not-le, arith}
use mathlib.Core.Logic.{dite}
use native.Mathlib.Decide.{dec_le}
use Rattle.hs_node_client.proofs.Prelude.{TraceId, renewed_core, PlainClient, Does, DoesNothing, HasDone, LiveDone, Made, renewed_of, Begin, Operation, ClientLife, HasLife, IsLow, LivesOn, Turns, with_op, PlainNodeClient}
use Rattle.hs_node_client.specs.Lives.{Renewed, TurnsInto, BeginsIn}

pub lives_on : (old new : PlainClient) → DoesNothing old new → LivesOn old new
lives_on old new does = λ life h. on life h
  where
    on : (life : ClientLife) → HasLife life old → HasLife life new
    on [] h = h
    on (core ∷ cores) h = (does core.made core.ops h.0, h.1)

pub lives_same : (old new : PlainClient) → new ≡ old → LivesOn old new
lives_same old new e = λ life h. subst (λ (c : PlainClient). HasLife life c) (sym e) h

-- one operation more
pub lives_more : (op : Operation) (old mid new : PlainClient) → DoesNothing old mid → Does op LiveDone mid new → (life : ClientLife) → HasLife life old → HasLife (with_op op life) new
lives_more op old mid new nothing does [] h = h
lives_more op old mid new nothing does (core ∷ cores) h = (does core.made core.ops (nothing core.made core.ops h.0), h.1)

pub lives_done : (op : Operation) (old new : PlainClient) → Does op LiveDone old new → (life : ClientLife) → HasLife life old → HasLife (with_op op life) new
lives_done op old new does = lives_more op old old new (λ made ops h. h) does

pub does_none : (client : PlainClient) → DoesNothing client client
does_none client = λ made ops h. h

-- ---- renewals

-- the life with a new core in front
pub renewed_life : (old new : PlainClient) (calls : ℕ) → new ≡ record old { core = renewed_core calls old.core }
    → ((made : Made) (ops : List Operation) → HasDone made ops old → HasDone (renewed_of made ops new) [] new)
    → (life : ClientLife) → HasLife life old → (made : Made) × HasLife (record { made = made; ops = [] } ∷ life) new
renewed_life old new calls only does [] h = absurd h
renewed_life old new calls only does (core ∷ cores) h =
    let made : Made = renewed_of core.made core.ops new in
    let renewed : Renewed core made =
    record { client = old; calls = calls; did = h.0; made = ap (λ (c : PlainClient). renewed_of core.made core.ops c) only } in
    (made, (does core.made core.ops h.0, (renewed, h.1)))

-- a begin after its core was renewed, or not, and draws were kept
pub begins_in : (trace : TraceId) (old mid : PlainNodeClient) (kept new : PlainClient) → TurnsInto old mid → DoesNothing mid.live kept → Does (Begin trace) LiveDone kept new → BeginsIn trace old.live new
begins_in trace old mid kept new turns nothing does = λ life h.
    let core = old.live.core in
    dite (dec_le (2 * core.counted) core.calls)
    (λ half.
    let same : mid.live ≡ old.live = ap (λ (c : PlainNodeClient). c.live) (turns.half half) in
    let turned : Turns core life life = record { renewed = λ low. absurd (omega (arith, low, half)); same = λ _. refl } in
    (life, turned, lives_more (Begin trace) mid.live kept new nothing does life (lives_same old.live mid.live same life h)))
    (λ not.
    let low : IsLow core = lt_of_not-le not in
    let next = (turns.low low).lives life h in
    let turned : Turns core life (record { made = next.0; ops = [] } ∷ life) = record { renewed = λ _. (next.0, refl); same = λ half. absurd (omega (arith, low, half)) } in
    (record { made = next.0; ops = [] } ∷ life, turned, lives_more (Begin trace) mid.live kept new nothing does (record { made = next.0; ops = [] } ∷ life) next.1))
