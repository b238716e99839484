use Rattle.std.proofs.Common.{◌≡◌, ℕ, None, sym, ap, ap₂, ◌∙◌, subst}
use Rattle.hs_node_client.proofs.Prelude.{PlainClient}
use Rattle.hs_node_client.proofs.Behind.{pages_ended}
use Rattle.hs_node_client.specs.Paging.{place_behind, place_in}
use Rattle.hs_node_client.specs.declared.paged.NextPage.{NextPage}
use Rattle.hs_node_client.proofs.paged.Paged.place.Goals as goal

abbrev place_of : ℕ → ℕ → NextPage
place_of core page = record { core = core; page = page }

pub returns-clause-behind : goal.returns-clause-behind
returns-clause-behind c =
    let s = c.self.inside in
    subst (λ (p : PlainClient). s.place ≡ place_behind p.core) c.self.view_is (ap₂ place_of c.self.invariant.core c.self.invariant.page)

pub returns-clause-ended : goal.returns-clause-ended
returns-clause-ended c = λ closed.
    let s = c.self.inside in
    let is = c.self.invariant in
    let none : s.live.core.trace ≡ None = ap (λ (p : PlainClient). p.core.trace) c.self.view_is ∙ closed in
    let current = (c.what_was_done_was_sent.ensures is.made is.ops s.live is.done).closed (sym is.done.trace ∙ none) in
    subst (λ (p : PlainClient). s.place ≡ place_in p.core) c.self.view_is (ap₂ place_of is.core (is.page ∙ pages_ended s.live.core current))
