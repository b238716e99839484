use Rattle.std.proofs.Common.{◌≡◌, ◌+◌, ◌-◌, ◌<◌, ◌≤◌, ◌∷◌, [], ℕ, length-drop, List, Some, None, length, take, drop, nat_eq, nat_lt, cond, rules, arith, sym, ap, ◌∙◌}
use Rattle.std.proofs.lemmas.Iterator.{YieldsList-from_slice}
use Rattle.std.proofs.lemmas.Iterator.Search.{position_from_yields_List}
use Rattle.std.proofs.lemmas.List.{take_all}
use Rattle.std.proofs.lemmas.List.Splits.{slice_split_first, slice_split_none}
use Rattle.std.proofs.lemmas.List.Sums.{fails_before_first}
use Rattle.std.specs.List.{position_or_len}
use borrow.Author.Tests.{tests}
use Rattle.hs_text.specs.Text.{words_of}
use Rattle.hs_text.proofs.reading.split_word.Goals as goal

-- the place of the first space
abbrev first_space : List ℕ → ℕ
first_space line = position_or_len (λ b. nat_eq b 32) line

place_found : (place size end : ℕ) → Some end ≡ cond (nat_lt place size) (Some place) None → (place ≡ end) × (place < size)
place_found place size end found = grind arith

place_none : (place size : ℕ) → None ≡ cond (nat_lt place size) (Some place) None → size ≤ place
place_none place size found = grind arith

words_at : (line : List ℕ) (end : ℕ) → first_space line ≡ end → first_space line < length line → words_of line ≡ take end line ∷ words_of (take (length line - (end + 1)) (drop (end + 1) line))
words_at line end is within =
    let whole : take (length line - (end + 1)) (drop (end + 1) line) ≡ drop (end + 1) line = take_all _ _ (omega (arith, length-drop (end + 1) line)) in
    let split : words_of line ≡ take (first_space line) line ∷ words_of (drop (first_space line + 1) line) = slice_split_first (λ b. nat_eq b 32) line 0 within in
    split ∙ ap (λ n. take n line ∷ words_of (drop (n + 1) line)) is ∙ ap (λ rest. take end line ∷ words_of rest) (sym whole)

one_word : (line : List ℕ) → length line ≤ first_space line → words_of line ≡ line ∷ []
one_word line past = slice_split_none (λ b. nat_eq b 32) line (λ k d lt. fails_before_first (λ b. nat_eq b 32) line k d (omega arith))

pub returns-in-Some-clause-more : goal.returns-in-Some-clause-more
returns-in-Some-clause-more c =
    let place = position_from_yields_List (λ b. nat_eq b 32) _ _ _ c.position.ensures.ran (YieldsList-from_slice c.args.line.now c.iter.ensures.rest) (λ x b q k. search (rules, tests)) in
    let found = place_found _ _ _ (sym c.in-Some.is ∙ place) in
    words_at c.args.line.now c.in-Some.end found.0 found.1

pub returns-in-None-clause-last : goal.returns-in-None-clause-last
returns-in-None-clause-last c =
    let place = position_from_yields_List (λ b. nat_eq b 32) _ _ _ c.position.ensures.ran (YieldsList-from_slice c.args.line.now c.iter.ensures.rest) (λ x b q k. search (rules, tests)) in
    one_word c.args.line.now (place_none _ _ (sym c.in-None.is ∙ place))
