use Rattle.std.proofs.Common.{◌≡◌, ◌*◌, ◌∷◌, [], ◌++◌, List, length, map, replicate, sym, ap, ◌∙◌, Some, None, arith}
use Rattle.std.proofs.lemmas.Iterator.Adapters.{YieldsList-from_vec}
use Rattle.std.proofs.lemmas.Iterator.Consumers.{YieldsList-turn, YieldsList-end}
use Rattle.std.proofs.lemmas.List.{append-nil, append_assoc, length-append, length-map, length-replicate, map-append, map-id, replicate_more}
use Rattle.hs_ring.proofs.Prelude.{Contents, Option}
use Rattle.hs_ring.proofs.pool.slots_of.Goals as goal

abbrev full : List Contents → List (Option Contents)
full chunks = map (λ (chunk : Contents). Some chunk) chunks

full_more : (slots slots' : List (Option Contents)) (moved : List Contents) (chunk : Contents) → slots' ≡ slots ++ Some chunk ∷ [] → slots ≡ full moved → slots' ≡ full (moved ++ chunk ∷ [])
full_more slots slots' moved chunk pushed is = pushed ∙ ap (λ l. l ++ Some chunk ∷ []) is ∙ sym (map-append (λ (chunk : Contents). Some chunk) moved (chunk ∷ []))

pub loop-chunk-init : goal.loop-chunk-init
loop-chunk-init c = (tt, tt, c.in_ok-slots.ensures.items, c.len-buffers.ensures, c.in_ok-slots.ensures.exact ∙ ap (λ n. 2 * n) c.len-buffers.ensures)

pub push_reserved-requires : goal.push_reserved-requires
push_reserved-requires c =
    let all = YieldsList-from_vec {s = c.into_iter-chunk-iterator.result} c.args.chunks.items (c.into_iter-chunk-iterator.ensures.into_iter_gives.0 ∙ c.into_vec-chunk-items.ensures.items)
    (c.into_iter-chunk-iterator.ensures.into_iter_gives.1 ∙ c.into_vec-chunk-items.result.ok.0 ∙ ap length c.into_vec-chunk-items.ensures.items) in
    let turn = YieldsList-turn all c.loop-chunk.yielded c.loop-chunk.chunk-iterator c.loop-chunk.yielded_by c.next.result c.next.new.self c.in-Some.chunk c.in-Some.is c.next.ensures.steps in
    let long : length c.loop-chunk.slots.items ≡ length c.loop-chunk.yielded = ap length c.loop-chunk.invariant.2 ∙ length-map c.loop-chunk.yielded (λ (chunk : Contents). Some chunk) in
    omega (arith, c.loop-chunk.slots.ok.0, long, turn.0, c.loop-chunk.invariant.4)

pub loop-chunk-preserved : goal.loop-chunk-preserved
loop-chunk-preserved c = (
  tt,
  tt,
  full_more c.loop-chunk.slots.items c.push_reserved.new.self.items c.loop-chunk.yielded c.in-Some.chunk c.push_reserved.ensures.items c.loop-chunk.invariant.2,
  c.loop-chunk.invariant.3,
  c.push_reserved.ensures.capacity ∙ c.loop-chunk.invariant.4,
)

pub loop-more-init : goal.loop-more-init
loop-more-init c =
    let all = YieldsList-from_vec {s = c.into_iter-chunk-iterator.result} c.args.chunks.items (c.into_iter-chunk-iterator.ensures.into_iter_gives.0 ∙ c.into_vec-chunk-items.ensures.items)
    (c.into_iter-chunk-iterator.ensures.into_iter_gives.1 ∙ c.into_vec-chunk-items.result.ok.0 ∙ ap length c.into_vec-chunk-items.ensures.items) in
    let done = YieldsList-end all c.loop-chunk.yielded c.loop-chunk.chunk-iterator c.loop-chunk.yielded_by c.next.result c.next.new.self c.in-None.is c.next.ensures.steps in
    (c.loop-chunk.invariant.2 ∙ ap full (sym (map-id c.loop-chunk.yielded) ∙ done.0) ∙ sym (append-nil (full c.args.chunks.items)), c.loop-chunk.invariant.4)

pub push_reserved-requires-in-loop-more : goal.push_reserved-requires-in-loop-more
push_reserved-requires-in-loop-more c =
    let chunks = c.args.chunks.items in
    let more = c.loop-more._more in
    omega (
      arith,
      c.loop-more.slots.ok.0,
      ap length c.loop-more.invariant.0,
      length-append (full chunks) (replicate more None),
      length-map chunks (λ (chunk : Contents). Some chunk),
      length-replicate {A = Option Contents} more None,
      c.loop-more.invariant.1,
      c.loop-chunk.invariant.3,
    )

pub loop-more-preserved : goal.loop-more-preserved
loop-more-preserved c =
    let chunks = c.args.chunks.items in
    let more = c.loop-more._more in (
      c.push_reserved-in-loop-more.ensures.items
          ∙ ap (λ l. l ++ None ∷ []) c.loop-more.invariant.0
          ∙ append_assoc (full chunks) (replicate more None) (None ∷ [])
          ∙ ap (λ l. full chunks ++ l) (replicate_more more None),
      c.push_reserved-in-loop-more.ensures.capacity ∙ c.loop-more.invariant.1,
    )

pub returns : goal.returns
returns c =
    let chunks = c.args.chunks.items in
    let all : c.loop-more._more ≡ length chunks = omega (arith, c.loop-chunk.invariant.3) in
    c.loop-more.invariant.0 ∙ ap (λ n. full chunks ++ replicate n None) all
