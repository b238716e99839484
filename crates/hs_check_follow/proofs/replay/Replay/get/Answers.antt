use Rattle.std.proofs.Common.{◌≡◌, ℕ, ◌+◌, ◌<◌, ◌≤◌, List, ◌∷◌, length, get_or, set, subst, sym, ap, ◌∙◌, arith}
use Rattle.hs_check_follow.proofs.Prelude.{eq-eqb, get_or_default, Got, ReplayStands}
use Rattle.hs_check_follow.proofs.Replayed.{front_low, out_few, got_is, got}
use Rattle.hs_check_follow.proofs.replay.Replay.get.Goals as goal

pub overflow_add-index_mut : goal.overflow_add-index_mut
overflow_add-index_mut c =
    let (n, earlier, at, few) = c.requires in
    let r = c.args.self.now in
    let b = c.args.buffer in
    let less : r.gone < length r.waiting.items = omega (arith, r.waiting.ok.0, at.behind, c.if-self-len.false) in
    let is : get_or r.waiting.items r.gone 0 ≡ b = get_or_default r.waiting.items r.gone 0 c.index.result.now less ∙ sym c.index.ensures ∙ c.if-index-buffer.false in
    let low = front_low n earlier r.waiting.items r.gone r.out.items r.owed at less in
    let within : b < n = omega (arith, low, is) in
    let now : c.index_mut.result.now ≡ get_or r.out.items b 0 = c.index_mut.ensures.value ∙ sym (get_or_default r.out.items b 0 c.index_mut.result.now (omega (arith, within, at.many))) in
    let out = out_few n earlier r.waiting.items r.gone r.out.items r.owed at b within in
    omega (arith, now, out, few)

pub returns : goal.returns
returns c = λ n earlier at.
    let r = c.args.self.now in
    let b = c.args.buffer in
    let less : r.gone < length r.waiting.items = omega (arith, r.waiting.ok.0, at.behind, c.if-self-len.false) in
    let is : get_or r.waiting.items r.gone 0 ≡ b = get_or_default r.waiting.items r.gone 0 c.index.result.now less ∙ sym c.index.ensures ∙ c.if-index-buffer.false in
    let low = front_low n earlier r.waiting.items r.gone r.out.items r.owed at less in
    let within : b < n = omega (arith, low, is) in
    let now : c.index_mut.result.now ≡ get_or r.out.items b 0 = c.index_mut.ensures.value ∙ sym (get_or_default r.out.items b 0 c.index_mut.result.now (omega (arith, within, at.many))) in (
      sym (eq-eqb (get_or r.waiting.items r.gone 0) b is) ∙ got_is n earlier r.waiting.items r.gone r.out.items r.owed at b less,
      subst (λ v. ReplayStands n (Got b ∷ earlier) r.waiting.items (r.gone + 1) (set r.out.items b (v + 1)) r.owed) (sym now) (got n earlier r.waiting.items r.gone r.out.items r.owed at b less is),
    )
