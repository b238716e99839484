use Rattle.std.proofs.Common.{◌≡◌, ◌+◌, ◌-◌, ◌<◌, ◌≤◌, ◌++◌, ℕ, List, map, true, false, cond, sym, ap, ap₂, ◌∙◌, arith}
use Rattle.std.specs.List.{range_with_len}
use Rattle.std.specs.Prelude.{nat_lt}
use Rattle.std.proofs.lemmas.Bool.Decides.{nat_tests}
use Rattle.hs_ledger.specs.declared.ledger.Entry.{Entry}
use Rattle.hs_ledger.specs.Making.{entry_of, last_joined}
use Rattle.hs_ledger.proofs.Walks.{range_pushed}
use Rattle.hs_ledger.proofs.book.add_page.Goals as goal
use Rattle.hs_ledger.proofs.book.add_page.Goals.{then-note-next, else-note-next}

pub loop-number-preserved : goal.loop-number-preserved
loop-number-preserved c =
    range_pushed (entry_of c.args.client (record { note = c.args.note.now; fate = c.args.fate })) c.if-note-next.entries.items c.loop-number.entries.items _ c.args.next c.loop-number.number
    (omega arith) c.loop-number.invariant c.in_ok-push.ensures.items

if_below : (a b : ℕ) (xs ys : List Entry) → a < b → xs ≡ cond (nat_lt a b) xs ys
if_below a b xs ys low = let is : nat_lt a b ≡ true = grind (arith, nat_tests) in ap (λ t. cond t xs ys) (sym is)

if_above : (a b : ℕ) (xs ys : List Entry) → b ≤ a → ys ≡ cond (nat_lt a b) xs ys
if_above a b xs ys high = let is : nat_lt a b ≡ false = grind (arith, nat_tests) in ap (λ t. cond t xs ys) (sym is)

pub returns-clause-entries : goal.returns-clause-entries
returns-clause-entries c =
    let note = c.args.note.now in
    let next = c.args.next in
    let old = c.args.entries.now.items in
    let count : c.loop-number.number - next ≡ note.first + note.count - next = omega arith in
    let front : c.if-note-next.entries.items ≡ cond (nat_lt note.first next) (last_joined c.args.fate old) old =
    elim c.if-note-next.branch [
      | then-note-next w ↦ ap (λ entries. entries.items) w.entries-is ∙ w.join_last.ensures ∙ if_below note.first next (last_joined c.args.fate old) old w.if-note-next.true
      | else-note-next w ↦ ap (λ entries. entries.items) w.entries-is ∙ if_above note.first next (last_joined c.args.fate old) old w.if-note-next.false
    ] in
    c.loop-number.invariant
    ∙ ap₂ (λ xs n. xs ++ map (entry_of c.args.client (record { note = note; fate = c.args.fate })) (range_with_len next n)) front count
