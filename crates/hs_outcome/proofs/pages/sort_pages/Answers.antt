use Rattle.std.proofs.Common.{ℕ, rules, arith}
use Rattle.hs_outcome.proofs.Prelude.{always_returns_same, nat_tests, ClientId, Reported}
use Rattle.hs_outcome.proofs.Runs.{sorted_reordered}
use Rattle.hs_outcome.proofs.pages.sort_pages.Goals as goal

abbrev key_of : Reported → ℕ × ClientId
key_of page = (page.seen, page.client)

pub returns : goal.returns
returns c = λ sheets reported.
    let stable = c.in_ok-sort_by_key.ensures.stable key_of (always_returns_same _ _ _ (λ a r q k. search rules)) in
    let sorted = c.in_ok-sort_by_key.ensures.sorted key_of (always_returns_same _ _ _ (λ a r q k. search rules)) in
    sorted_reordered _ sheets c.args.pages.now.items c.sort_by_key.new.self.items reported c.in_ok-sort_by_key.ensures.permutation stable sorted c.pages_have_bytes_of_their_own.ensures
    (λ x y p q. grind (arith, nat_tests)) (λ x y first. grind (arith, nat_tests))
