-- How many standings there are, as the lives of one trace change.
use Rattle.std.proofs.Common.{◌≡◌, ◌+◌, cond, [], ◌∷◌, length, Some, None, unwrap_or, option_map, sym, ap, ◌∙◌, arith}
use Rattle.std.specs.Option.{option_and_then}
use Rattle.std.specs.Map.{lookup, set_value, remove_entry, values_of}
use Rattle.std.specs.BTreeMap.{insert_entry}
use Rattle.std.specs.Ordering.{is_eq, match_ordering}
use Rattle.std.specs.declared.cmp.Ordering.{Ordering}
use Rattle.std.specs.declared.cmp.Ordering.TheVariants.{Less, Equal, Greater}
use Rattle.std.proofs.lemmas.List.Sums.{sum_by-cons}
use Rattle.std.proofs.lemmas.Map.Entries.{sum_by-set_value, sum_by-remove_entry}
use Rattle.hs_base.specs.declared.ids.TraceId.{TraceId}
use Rattle.hs_standings.specs.declared.answers.Life.{Life}
use Rattle.hs_standings.specs.Standing.{Lives, Books, PlainStandings, trace_cmp, same_id, same_life, lives_of, latest_of, count_in}

count-cons : (trace : TraceId) (lives : Lives) (books : Books) → count_in ((trace, lives) ∷ books) ≡ length lives + count_in books
count-cons trace lives books = sum_by-cons (λ (l : Lives). length l) lives (values_of books)

pub count-set : (trace : TraceId) (books : Books) (old new : Lives) → lives_of books trace ≡ Some old → count_in (set_value (same_id trace) books new) + length old ≡ count_in books + length new
count-set trace books old new found = sum_by-set_value (λ (l : Lives). length l) (same_id trace) books old new found

pub count-remove : (trace : TraceId) (books : Books) (old : Lives) → lives_of books trace ≡ Some old → count_in (remove_entry (same_id trace) books) + length old ≡ count_in books
count-remove trace books old found =
    ap (λ o. count_in (remove_entry (same_id trace) books) + unwrap_or (option_map (λ (l : Lives). length l) o) 0) (sym found)
    ∙ sum_by-remove_entry (λ (l : Lives). length l) (same_id trace) books

pub count-insert : (trace : TraceId) (books : Books) (lives : Lives) → lives_of books trace ≡ None → count_in (insert_entry trace_cmp books trace lives) ≡ count_in books + length lives
count-insert trace [] lives none = omega (arith, count-cons trace lives [])
count-insert trace (e ∷ books) lives none = at (trace_cmp trace e.0) none (count-insert trace books lives)
  where
    at : (o : Ordering) → cond (is_eq o) (Some e.1) (lookup (same_id trace) books) ≡ None
        → (lookup (same_id trace) books ≡ None → count_in (insert_entry trace_cmp books trace lives) ≡ count_in books + length lives)
        → count_in (match_ordering o ((trace, lives) ∷ e ∷ books) ((e.0, lives) ∷ books) (e ∷ insert_entry trace_cmp books trace lives)) ≡ count_in (e ∷ books) + length lives
    at Less none rest = omega (arith, count-cons trace lives (e ∷ books))
    at Equal none rest = let never : Some e.1 ≡ None = none in absurd cc
    at Greater none rest = omega (arith, rest none, count-cons e.0 e.1 (insert_entry trace_cmp books trace lives), count-cons e.0 e.1 books)

-- what is noted of a life of a trace with these lives
pub latest-among : (s : PlainStandings) (trace : TraceId) (life : Life) (lives : Lives) → lives_of s.books trace ≡ Some lives → latest_of s trace life ≡ lookup (same_life life) lives
latest-among s trace life lives found = ap (λ o. option_and_then (λ (l : Lives). lookup (same_life life) l) o) found
