use Rattle.std.proofs.Common.{rules, Fits, w32, ◌≡◌, length, sym, ap, arith}
use Rattle.std.specs.Map.{remove_entry}
use Rattle.hs_standings.specs.Standing.{same_id, count_in}
use Rattle.hs_standings.proofs.Counting.{count-remove}
use Rattle.hs_standings.proofs.standings.Standings.forget.Goals as goal

pub overflow_sub-self : goal.overflow_sub-self
overflow_sub-self c =
    let left = count-remove c.args.trace c.self.inside.books.entries c.in-Some.book (sym c.in-Some.ensures.value) in
    let held = c.self.invariant in
    let len : c.len.result ≡ length c.in-Some.book = c.len.ensures in
    omega (arith, left, held, len)

pub overflow_cast-self : goal.overflow_cast-self
overflow_cast-self c =
    let left = count-remove c.args.trace c.self.inside.books.entries c.in-Some.book (sym c.in-Some.ensures.value) in
    let held = c.self.invariant in
    let len : c.len.result ≡ length c.in-Some.book = c.len.ensures in
    let fits : Fits w32 c.self.inside.count = search rules in
    omega (arith, left, held, len, fits)

pub invariant_of-self : goal.invariant_of-self
invariant_of-self c =
    let left = count-remove c.args.trace c.self.inside.books.entries c.in-Some.book (sym c.in-Some.ensures.value) in
    let held = c.self.invariant in
    let len : c.len.result ≡ length c.in-Some.book = c.len.ensures in
    let here : count_in c.remove.new.self.entries ≡ count_in (remove_entry (same_id c.args.trace) c.self.inside.books.entries) = ap count_in c.in-Some.ensures.entries in
    omega (arith, left, held, len, here)
