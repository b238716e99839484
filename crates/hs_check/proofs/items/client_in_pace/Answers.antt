use Rattle.std.proofs.Common.{◌≡◌, ℕ, Bool, List, ap, ◌∙◌}
use Rattle.hs_check.proofs.Prelude.{◌&&◌, Chunks, Crumbs, Triggers, takes, passes_of, numbers_in_pace}
use Rattle.hs_check.proofs.Passing.{client_pace}
use Rattle.hs_check.proofs.items.client_in_pace.Goals as goal

three : (a b d p q r : Bool) → a ≡ p → b ≡ q → d ≡ r → (a && b && d) ≡ (p && q && r)
three a b d p q r x y z = ap (λ t. t && b && d) x ∙ ap (λ t. p && t && d) y ∙ ap (λ t. p && q && t) z

pub returns : goal.returns
returns c = λ settings sends same is.
    let passes = passes_of c.args.log.now in
    let n = c.args.stride in
    let client = c.args.client in
    c.all_three.ensures
    ∙ three c.in_ok-chunks.chunks c.in_ok-crumbs.crumbs c.in_ok-triggers.triggers _ _ _
    (c.in_ok-chunks.ensures ∙ ap (λ (l : List ℕ). numbers_in_pace (takes (Chunks client)) n passes l) c.as_slice.ensures)
    (c.in_ok-crumbs.ensures ∙ ap (λ (l : List ℕ). numbers_in_pace (takes (Crumbs client)) n passes l) c.as_slice-2.ensures)
    (c.in_ok-triggers.ensures ∙ ap (λ (l : List ℕ). numbers_in_pace (takes (Triggers client)) n passes l) c.as_slice-3.ensures)
    ∙ client_pace settings n client c.args.log.now sends c.args.found.now same is
