-- Of the giver's answers no more are below a draw than there are draws before it.
use Rattle.std.proofs.Common.{◌≡◌, inl, inr, ℕ, ◌+◌, ◌<◌, ◌≤◌, Bool, true, false, ◌==◌, cond, List, [], ◌∷◌, ◌++◌, length, refl, sym, ap, ◌∙◌, arith, eq-eqb, eqb-true, nat_lt, ltb-true, lt-ltb}
use Rattle.hs_law_run.proofs.Prelude.{AllByRecursion, length-append, length-map, map-append, Deed, Answer, answer_to, events_of, drawn_in, is_any_given, IsDraw, IsHistoryBack, at_below, draw_is_at}
use Rattle.hs_words.specs.Ends.{given_in, is_any_got}
use Rattle.hs_words.specs.Ends as ends
use Rattle.hs_words.proofs.Deeds.{event_counts}
use Rattle.hs_words.proofs.Waiting.{few, waiting_length, drawn_kinds, given_kinds, few_missed}
use Rattle.hs_law_run.proofs.Answers.{own, answers, stamps}
use Rattle.hs_law_run.proofs.DrawPlaces.{IsProper}

-- how many of these are below a number
abbrev pub below : ℕ → List ℕ → ℕ
below s [] = 0
below s (t ∷ list) = cond (nat_lt t s) 1 0 + below s list

pub below_both : (s : ℕ) (a b : List ℕ) → below s (a ++ b) ≡ below s a + below s b
below_both s [] b = let same : below s b ≡ 0 + below s b = omega arith in same
below_both s (t ∷ a) b = let rest = below_both s a b in omega (arith, rest)

pub below_all : (s : ℕ) (list : List ℕ) → AllByRecursion (λ t. t < s) list → below s list ≡ length list
below_all s [] all = refl
below_all s (t ∷ list) all = let rest = below_all s list all.1 in let one : ◌≡◌ {A = ℕ} (cond (nat_lt t s) 1 0) 1 = ap (λ b. cond b 1 0) (lt-ltb t s all.0) in omega (arith, rest, one)

below_most : (s : ℕ) (list : List ℕ) → below s list ≤ length list
below_most s [] = omega arith
below_most s (t ∷ list) = let rest = below_most s list in let one = either (nat_lt t s) in omega (arith, rest, one)
  where
    either : (b : Bool) → cond b 1 0 ≤ 1
    either true = omega arith
    either false = omega arith

none_below : (s t : ℕ) → s ≤ t → below s (t ∷ []) ≡ 0
none_below s t high = either (nat_lt t s) refl
  where
    either : (b : Bool) → nat_lt t s ≡ b → cond b 1 0 + 0 ≡ 0
    either true is = let low = ltb-true t s is in absurd (omega (arith, low, high))
    either false is = refl

given_few : (n : ℕ) (log : List Deed) → IsHistoryBack n (events_of log) → given_in log ≤ drawn_in log
given_few n log history =
    omega (arith, few n (events_of log) history, waiting_length n (events_of log) history, few_missed n (events_of log) history, drawn_kinds log, given_kinds log)

own_long : (deed : Deed) (a : Answer) → IsProper deed → length (own (deed.by == 0) a) ≡ ends.gives deed.event
own_long deed a (inl none) =
    let kind = event_counts deed.event in
    let no_draw = none.1 in
    let one : ends.gives deed.event ≡ 1 = omega (arith, kind, no_draw) in ap (λ b. length (own b a)) (eq-eqb deed.by 0 none.0) ∙ sym one
own_long deed a (inr draw) =
    let kind = event_counts deed.event in
    let a_draw = draw.1 in
    let nothing : ends.gives deed.event ≡ 0 = omega (arith, kind, a_draw) in either (deed.by == 0) refl ∙ sym nothing
  where
    either : (b : Bool) → (deed.by == 0) ≡ b → length (own b a) ≡ 0
    either true is = let zeroth = eqb-true deed.by 0 is in let some = draw.0 in absurd (omega (arith, zeroth, some))
    either false is = refl

answers_long : (log : List Deed) → AllByRecursion IsProper log → length (answers 0 log) ≡ given_in log
answers_long [] proper = refl
answers_long (deed ∷ earlier) proper =
    let rest = answers_long earlier proper.1 in
    let parts = length-append (answers 0 earlier) (own (deed.by == 0) (answer_to deed (length earlier))) in
    let last = own_long deed (answer_to deed (length earlier)) proper.0 in
    omega (arith, rest, parts, last)

pub few_below : (n : ℕ) (log : List Deed) (number stamp : ℕ) (deed : Deed) → IsHistoryBack n (events_of log) → AllByRecursion IsProper log → IsDraw log number stamp deed → below stamp (stamps (answers 0 log)) ≤ number
few_below n [] number stamp deed history proper draw = absurd draw
few_below n (last ∷ earlier) number stamp deed history proper (inl is) =
    let most = below_most stamp (stamps (answers 0 (last ∷ earlier))) in
    let long = length-map (answers 0 (last ∷ earlier)) (λ (a : Answer). a.stamp) in
    let parts = answers_long (last ∷ earlier) proper in
    let kind = event_counts last.event in
    let a_draw = is.1 in
    let number_is = is.0 in
    let less = given_few n earlier history.0 in
    omega (arith, most, long, parts, kind, a_draw, number_is, less)
few_below n (last ∷ earlier) number stamp deed history proper (inr draw) =
    let a = answer_to last (length earlier) in
    let rest = few_below n earlier number stamp deed history.0 proper.1 draw in
    let low = at_below earlier stamp deed (draw_is_at earlier number stamp deed draw) in
    let parts : below stamp (stamps (answers 0 (last ∷ earlier))) ≡ below stamp (stamps (answers 0 earlier)) + below stamp (stamps (own (last.by == 0) a)) =
    ap (below stamp) (map-append (λ (a : Answer). a.stamp) (answers 0 earlier) (own (last.by == 0) a)) ∙ below_both stamp (stamps (answers 0 earlier)) (stamps (own (last.by == 0) a))
    in
    let none = either (last.by == 0) low in
    omega (arith, rest, parts, none)
  where
    either : (b : Bool) → stamp < length earlier → below stamp (stamps (own b (answer_to last (length earlier)))) ≡ 0
    either true low = none_below stamp (length earlier) (omega (arith, low))
    either false low = refl
