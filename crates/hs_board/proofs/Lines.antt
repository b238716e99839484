-- Lines of what was seen by the words that were appended.
use Rattle.std.proofs.Common.{◌≡◌, ℕ, zero, suc, ◌+◌, List, [], ◌∷◌, ◌++◌, Some, take, decimal, codes, sym, ap, ap₂, ◌∙◌, append_assoc, append-nil, arith}
use Rattle.std.specs.Prelude.{slice_get}
use Rattle.std.proofs.lemmas.List.Concat.{flat_map-append}
use Rattle.hs_board.specs.declared.progress.Progress.{Progress}
use Rattle.hs_text.specs.Text.{text_of}
use Rattle.hs_text.specs.Writing.{spaced, line_written, spaced_more, spaced_one}
use Rattle.hs_board.specs.WatchText.{seen_line, watcher_lines, watchers_from, watch_text}

pub seen_written : (p : Progress) (o seen rounds operations records null taken given all : List ℕ) → seen ≡ o ++ codes "seen" → rounds ≡ seen ++ 32 ∷ decimal p.rounds
    → operations ≡ rounds ++ spaced (codes "operations" ∷ decimal p.operations ∷ []) → records ≡ operations ++ spaced (codes "records" ∷ decimal p.records ∷ [])
    → null ≡ records ++ spaced (codes "null" ∷ decimal p.nulls ∷ []) → taken ≡ null ++ spaced (codes "taken" ∷ decimal p.taken ∷ [])
    → given ≡ taken ++ spaced (codes "given" ∷ decimal p.given ∷ []) → all ≡ given ++ 10 ∷ [] → all ≡ o ++ (seen_line p ++ 10 ∷ [])
seen_written p o seen rounds operations records null taken given all e0 e1 e2 e3 e4 e5 e6 e7 =
    let w1 = decimal p.rounds ∷ [] in
    let w2 = w1 ++ codes "operations" ∷ decimal p.operations ∷ [] in
    let w3 = w2 ++ codes "records" ∷ decimal p.records ∷ [] in
    let w4 = w3 ++ codes "null" ∷ decimal p.nulls ∷ [] in
    let w5 = w4 ++ codes "taken" ∷ decimal p.taken ∷ [] in
    let one = spaced_one seen rounds (decimal p.rounds) e1 in
    let two = spaced_more seen rounds operations w1 (codes "operations" ∷ decimal p.operations ∷ []) one e2 in
    let three = spaced_more seen operations records w2 (codes "records" ∷ decimal p.records ∷ []) two e3 in
    let four = spaced_more seen records null w3 (codes "null" ∷ decimal p.nulls ∷ []) three e4 in
    let five = spaced_more seen null taken w4 (codes "taken" ∷ decimal p.taken ∷ []) four e5 in
    let six = spaced_more seen taken given w5 (codes "given" ∷ decimal p.given ∷ []) five e6 in
    line_written o (codes "seen") (w5 ++ codes "given" ∷ decimal p.given ∷ []) seen given all e0 six e7

-- a text and more lines
lines_more : (o first whole : List ℕ) (lines more : List (List ℕ)) → first ≡ o ++ text_of lines → whole ≡ first ++ text_of more → whole ≡ o ++ text_of (lines ++ more)
lines_more o first whole lines more begun is =
    is ∙ ap (λ t. t ++ text_of more) begun ∙ append_assoc o (text_of lines) (text_of more) ∙ ap (λ t. o ++ t) (sym (flat_map-append (λ line. line ++ 10 ∷ []) lines more))

pub ended : (all : List (List Progress)) (o lines whole : List ℕ) → lines ≡ o ++ text_of (watchers_from 0 all) → whole ≡ lines ++ (101 ∷ 110 ∷ 100 ∷ 10 ∷ []) → whole ≡ o ++ watch_text all
ended all o lines whole e0 e1 = lines_more o lines whole (watchers_from 0 all) (codes "end" ∷ []) e0 e1

-- one watcher more
one_more : (from n : ℕ) (all : List (List Progress)) (seen : List Progress) → slice_get all n ≡ Some seen
    → watchers_from from (take (suc n) all) ≡ watchers_from from (take n all) ++ watcher_lines (from + n) seen
one_more from n [] seen at = cc
one_more from zero (x ∷ all) seen at =
    let same : x ≡ seen = cc in
    let still : from + zero ≡ from = omega arith in
    append-nil (watcher_lines from x) ∙ ap₂ watcher_lines (sym still) same
one_more from (suc n) (x ∷ all) seen at =
    let next : suc from + n ≡ from + suc n = omega arith in
    ap (λ lines. watcher_lines from x ++ lines) (one_more (suc from) n all seen at ∙ ap (λ number. watchers_from (suc from) (take n all) ++ watcher_lines number seen) next)
    ∙ sym (append_assoc (watcher_lines from x) (watchers_from (suc from) (take n all)) (watcher_lines (from + suc n) seen))

pub one_written : (n : ℕ) (all : List (List Progress)) (seen : List Progress) (o first whole : List ℕ) → slice_get all n ≡ Some seen → first ≡ o ++ text_of (watchers_from 0 (take n all))
    → whole ≡ first ++ text_of (watcher_lines n seen) → whole ≡ o ++ text_of (watchers_from 0 (take (n + 1) all))
one_written n all seen o first whole at begun is =
    let from_none : n ≡ 0 + n = omega arith in
    let next : suc n ≡ n + 1 = omega arith in
    let numbered : whole ≡ first ++ text_of (watcher_lines (0 + n) seen) = is ∙ ap (λ number. first ++ text_of (watcher_lines number seen)) from_none in
    lines_more o first whole (watchers_from 0 (take n all)) (watcher_lines (0 + n) seen) begun numbered ∙ ap (λ lines. o ++ text_of lines) (sym (one_more 0 n all seen at))
    ∙ ap (λ (m : ℕ). o ++ text_of (watchers_from 0 (take m all))) next
