use Rattle.std.proofs.Common.{◌≡◌, [], ◌∷◌, map, sym, ap, ap₂, ◌∙◌, subst}
use Rattle.std.proofs.lemmas.Result.{IfOk-weaker}
use Rattle.std.specs.Prelude.{IfOk}
use Rattle.std.specs.List.{AllByRecursion}
use Rattle.hs_base.specs.Listing.{Listing}
use Rattle.hs_board.specs.Looking.{Looking}
use Rattle.hs_board.specs.Shown.{IsFront}
use Rattle.hs_board.specs.declared.progress.Progress.{Progress}
use Rattle.hs_board.specs.Watching.{Showing, WatchStands, KnowLast, EndsAtLatest, IsSeenOf}
use Rattle.hs_board.proofs.Kept.{seen_of}
use Rattle.hs_board.proofs.watch.Watch.close.Goals as goal

pub returns-clause-seen : goal.returns-clause-seen
returns-clause-seen g c =
    subst
    (λ (v : Showing). WatchStands v → KnowLast v → EndsAtLatest v.one × EndsAtLatest v.other → IfOk c.two_lists.result (λ seen. AllByRecursion (λ (list : Listing Progress). IsSeenOf v.shown list.items) seen.items))
    c.self.view_is
    (λ stands knows ends.
    let shown = c.self.inside.writer in
    let one = seen_of shown c.self.inside.one stands.one knows.one ends.0 (subst (λ (l : Looking). IsFront l.known shown) c.parts-first.ensures.0 c.in_ok-close.ensures.fronts.0) in
    let other = seen_of shown c.self.inside.other stands.other knows.other ends.1 (subst (λ (l : Looking). IsFront l.known shown) c.parts-second.ensures.0 c.in_ok-close.ensures.fronts.1) in
    IfOk-weaker c.two_lists.result _ _
    (λ seen is.
    subst (AllByRecursion (λ (list : Listing Progress). IsSeenOf shown list.items)) (sym is)
    (subst (IsSeenOf shown) (sym c.parts-first.ensures.1) one, (subst (IsSeenOf shown) (sym c.parts-second.ensures.1) other, tt)))
    c.two_lists.ensures)

pub returns-clause-lists : goal.returns-clause-lists
returns-clause-lists g c =
    subst (λ (v : Showing). IfOk c.two_lists.result (λ seen. map (λ (list : Listing Progress). list.items) seen.items ≡ v.one.seen ∷ v.other.seen ∷ [])) c.self.view_is
    (IfOk-weaker c.two_lists.result _ _ (λ seen is. ap (map (λ (list : Listing Progress). list.items)) is ∙ ap₂ (λ a b. a ∷ b ∷ []) c.parts-first.ensures.1 c.parts-second.ensures.1) c.two_lists.ensures)
