-- The draws that a client noted are the answers of its drawer.
use Rattle.std.proofs.Common.{◌≡◌, ℕ, List, [], ◌∷◌, ◌++◌, length, reverse, refl, sym, ap, ◌∙◌, arith, map, append-nil, append_assoc}
use Rattle.hs_run.proofs.Prelude.{AllByRecursion, length-append, map-append, reverse_cons, Answer, draws_by, draw_answer}
use Rattle.hs_words.specs.PoolHistory.{PoolEvent, Got, Empty, Given, Missed}
use Rattle.hs_live.specs.Writing.{IsDraw, IsDrawn, noted}

noted_answer : (stamp draw : ℕ) (event : PoolEvent) → IsDraw event → draw ≡ 0 → draw_answer (noted stamp event) ≡ record { stamp = stamp; event = event; draw = draw }
noted_answer stamp draw (Got buffer) is zeroth = ap (λ d. record { stamp = stamp; event = Got buffer; draw = d }) (sym zeroth)
noted_answer stamp draw Empty is zeroth = ap (λ d. record { stamp = stamp; event = Empty; draw = d }) (sym zeroth)
noted_answer stamp draw (Given buffer) is zeroth = absurd is
noted_answer stamp draw Missed is zeroth = absurd is

pub draws_answers : (answers : List Answer) → AllByRecursion IsDrawn answers → map draw_answer (draws_by answers) ≡ reverse answers
draws_answers [] all = refl
draws_answers (a ∷ earlier) all =
    map-append draw_answer (draws_by earlier) (noted a.stamp a.event ∷ []) ∙ ap (λ front. front ++ draw_answer (noted a.stamp a.event) ∷ []) (draws_answers earlier all.1)
    ∙ ap (λ last. reverse earlier ++ last ∷ []) (noted_answer a.stamp a.draw a.event all.0.0 all.0.1) ∙ sym (reverse_cons a earlier)

pub draws_more : (later earlier : List Answer) → draws_by (later ++ earlier) ≡ draws_by earlier ++ draws_by later
draws_more [] earlier = sym (append-nil (draws_by earlier))
draws_more (a ∷ later) earlier = ap (λ front. front ++ noted a.stamp a.event ∷ []) (draws_more later earlier) ∙ append_assoc (draws_by earlier) (draws_by later) (noted a.stamp a.event ∷ [])

pub draws_long : (answers : List Answer) → length (draws_by answers) ≡ length answers
draws_long [] = refl
draws_long (a ∷ earlier) = let both = length-append (draws_by earlier) (noted a.stamp a.event ∷ []) in let rest = draws_long earlier in omega (arith, both, rest)
