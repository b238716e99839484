use Rattle.std.proofs.Common.{◌≡◌, ℕ, ◌+◌, ◌-◌, ◌<◌, ◌≤◌, ◌++◌, List, [], ◌∷◌, length, get_or, set, subst, sym, ap, ◌∙◌, arith}
use Rattle.hs_check_follow.proofs.Prelude.{get_or_default, ReplayStands}
use Rattle.hs_words.specs.PoolHistory.{Given as Gave}
use Rattle.hs_check_follow.proofs.Replayed.{give_strange, give_again, may_give, given}
use Rattle.hs_check_follow.proofs.replay.Replay.give.Goals as goal

pub returns-then-place-len : goal.returns-then-place-len
returns-then-place-len c = λ n earlier at.
    let r = c.args.self.now in
    (give_strange n earlier r.waiting.items r.gone r.out.items r.owed at c.args.buffer (omega (arith, at.many, r.out.ok.0)), tt)

pub returns : goal.returns
returns c = λ n earlier at.
    let r = c.args.self.now in
    let b = c.args.buffer in
    let within : b < n = omega (arith, at.many, r.out.ok.0) in
    let here : b < length r.out.items = omega (arith, r.out.ok.0) in
    let some : get_or r.out.items b 0 ≡ 0 → ⊥ = λ e. c.if-index-eq0.false (c.index.ensures ∙ sym (get_or_default r.out.items b 0 c.index.result.now here) ∙ e) in
    let now : c.index_mut.result.now ≡ get_or r.out.items b 0 = c.index_mut.ensures.value ∙ sym (get_or_default r.out.items b 0 c.index_mut.result.now here) in
    let joined : c.push.new.self.items ≡ r.waiting.items ++ b ∷ [] = c.in_ok-push.ensures.items in (
      may_give n earlier r.waiting.items r.gone r.out.items r.owed at b within some,
      subst (λ (l : List ℕ). ReplayStands n (Gave b ∷ earlier) l r.gone (set r.out.items b (c.index_mut.result.now - 1)) r.owed) (sym joined)
          (subst (λ v. ReplayStands n (Gave b ∷ earlier) (r.waiting.items ++ b ∷ []) r.gone (set r.out.items b (v - 1)) r.owed) (sym now) (given n earlier r.waiting.items r.gone r.out.items r.owed at b within some)),
    )
