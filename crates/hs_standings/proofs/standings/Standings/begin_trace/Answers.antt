use Rattle.std.proofs.Common.{◌≡◌, length, ap, ◌∙◌, arith}
use Rattle.std.specs.BTreeMap.{insert_entry}
use Rattle.hs_standings.specs.Standing.{Lives, PlainStandings, trace_cmp, lives_of, count_in, with_latest}
use Rattle.hs_standings.proofs.Counting.{count-insert}
use Rattle.hs_standings.proofs.standings.Standings.begin_trace.Goals as goal

pub invariant_of-self : goal.invariant_of-self
invariant_of-self c =
    let one : length c.put.new.self ≡ 1 = ap length (c.in_ok-put.ensures.ok ∙ ap (λ (l : Lives). with_latest l c.args.life c.args.latest) c.new-book.ensures) in
    let here : count_in c.insert.new.self.entries ≡ count_in (insert_entry trace_cmp c.self.inside.books.entries c.args.trace c.put.new.self) = ap count_in c.in-Ok.ensures.entries in
    let more = count-insert c.args.trace c.self.inside.books.entries c.put.new.self (ap (λ (s : PlainStandings). lives_of s.books c.args.trace) c.self.view_is ∙ c.requires.new) in
    let held = c.self.invariant in
    omega (arith, one, here, more, held)
