use Rattle.std.proofs.Common.{◌≡◌, ℕ, ◌++◌, List, [], ◌∷◌, replicate, subst, sym, ap, ◌∙◌, arith}
use Rattle.hs_check_follow.proofs.Prelude.{range_with_len, ReplayStands}
use Rattle.std.proofs.lemmas.List.{replicate_more}
use Rattle.hs_check_follow.proofs.Replayed.{stands_first, range_push}
use Rattle.hs_check_follow.proofs.replay.Replay.make.Goals as goal

pub loop-buffer-preserved : goal.loop-buffer-preserved
loop-buffer-preserved c =
    let k = c.loop-buffer.buffer in
    record {
      waiting = c.in_ok-push.ensures.items ∙ ap (λ (l : List ℕ). l ++ k ∷ []) c.loop-buffer.invariant.waiting ∙ range_push k;
      out = c.in_ok-push-2.ensures.items ∙ ap (λ (l : List ℕ). l ++ 0 ∷ []) c.loop-buffer.invariant.out ∙ replicate_more k 0;
    }

pub returns : goal.returns
returns c =
    let n = c.args.buffers in
    let all : c.loop-buffer.buffer ≡ n = omega arith in
    subst (λ (l : List ℕ). ReplayStands n [] l 0 c.loop-buffer.out.items 0) (sym (c.loop-buffer.invariant.waiting ∙ ap (range_with_len 0) all))
    (subst (λ (l : List ℕ). ReplayStands n [] (range_with_len 0 n) 0 l 0) (sym (c.loop-buffer.invariant.out ∙ ap (λ k. replicate k 0) all)) (stands_first n))
