-- A round more.
use Rattle.std.proofs.Common.{◌≡◌, ℕ, ◌+◌, List, [], ◌∷◌, ◌++◌, sym, ap, ◌∙◌, arith}
use Rattle.hs_compare.proofs.Prelude.{flat_map, range_with_len, append-nil, flat_map-append, range_append, Script, Ringing, ring_after, rings_after, round_of, all_rounds}
use Rattle.std.proofs.lemmas.List.Sums.{fold-append}

pub rounds_more : (stride : ℕ) (scripts : List Script) (first now next : Ringing) (round : ℕ) → now ≡ rings_after first (all_rounds stride scripts round) → next ≡ rings_after now (round_of stride scripts round)
    → next ≡ rings_after first (all_rounds stride scripts (round + 1))
rounds_more stride scripts first now next round is go =
    let more : all_rounds stride scripts (round + 1) ≡ all_rounds stride scripts round ++ round_of stride scripts round =
    ap (flat_map (round_of stride scripts)) (range_append 0 round 1 ∙ ap (λ k. range_with_len 0 round ++ range_with_len k 1) (let e : 0 + round ≡ round = omega arith in e)) ∙ flat_map-append (round_of stride scripts) (range_with_len 0 round) (round ∷ []) ∙ ap (λ es. all_rounds stride scripts round ++ es) (append-nil (round_of stride scripts round)) in
    go ∙ ap (λ r. rings_after r (round_of stride scripts round)) is ∙ sym (fold-append ring_after first (all_rounds stride scripts round) (round_of stride scripts round)) ∙ ap (rings_after first) (sym more)
