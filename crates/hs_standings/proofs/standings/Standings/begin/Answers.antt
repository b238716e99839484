use Rattle.std.proofs.Common.{◌≡◌, Some, sym, ap, ◌∙◌, arith}
use Rattle.std.specs.Map.{set_value}
use Rattle.std.proofs.lemmas.Map.Steps.{set_value_same}
use Rattle.hs_base.proofs.Options.{on_err_always}
use Rattle.hs_standings.specs.Standing.{Lives, Books, PlainStandings, same_id, lives_of, count_in}
use Rattle.hs_standings.proofs.Counting.{count-set, latest-among}
use Rattle.hs_standings.proofs.standings.Standings.begin.Goals as goal

pub invariant_of-self : goal.invariant_of-self
invariant_of-self c =
    c.self.invariant
    ∙ sym (ap count_in
    ((c.get_mut.follows.holds c.put.new.self).0
    ∙ ap (λ (l : Lives). set_value (same_id c.args.trace) c.self.inside.books.entries l) c.in_err-put-in-Some.ensures.err
    ∙ set_value_same (same_id c.args.trace) c.self.inside.books.entries c.in-Some.book.now (sym c.in-Some.ensures.value)))

pub returns-in_err-put-in-Some-clause-err : goal.returns-in_err-put-in-Some-clause-err
returns-in_err-put-in-Some-clause-err c =
    on_err_always c.from_residual.result
    (ap (λ (books : Books). record { most = c.self.inside.most; books = books })
    ((c.get_mut.follows.holds c.put.new.self).0
    ∙ ap (λ (l : Lives). set_value (same_id c.args.trace) c.self.inside.books.entries l) c.in_err-put-in-Some.ensures.err
    ∙ set_value_same (same_id c.args.trace) c.self.inside.books.entries c.in-Some.book.now (sym c.in-Some.ensures.value))
    ∙ c.self.view_is)

pub invariant_of-self-in-Some : goal.invariant_of-self-in-Some
invariant_of-self-in-Some c =
    let set = count-set c.args.trace c.self.inside.books.entries c.in-Some.book.now c.put.new.self (sym c.in-Some.ensures.value) in
    let there : lives_of c.args.self.now.books c.args.trace ≡ Some c.in-Some.book.now = sym (ap (λ (s : PlainStandings). lives_of s.books c.args.trace) c.self.view_is) ∙ sym c.in-Some.ensures.value in
    let more = c.in_ok-put-in-Some.ensures.new (sym (latest-among c.args.self.now c.args.trace c.args.life c.in-Some.book.now there) ∙ c.requires.new) in
    let here : count_in (c.get_mut.follows.lender c.put.new.self).entries ≡ count_in (set_value (same_id c.args.trace) c.self.inside.books.entries c.put.new.self) = ap count_in (c.get_mut.follows.holds c.put.new.self).0 in
    let held = c.self.invariant in
    omega (arith, set, more, here, held)
