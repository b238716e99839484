-- The pages of a node by the stamps of their draws are the draws of the pool in order: the draw of each number is that of one page.
use Rattle.std.proofs.Common.{◌≡◌, ◌⊎◌, inl, inr, ℕ, zero, suc, ◌+◌, ◌<◌, ◌≤◌, Bool, true, false, ◌==◌, cond, List, [], ◌∷◌, ◌++◌, length, refl, sym, ap, subst, ◌∙◌, Some, arith, map, filter, slice_get, eq-eqb, eqb-true, nat_eq, append-nil}
use Rattle.hs_law_run.proofs.Prelude.{AllByRecursion, flat_map, range_with_len, flat_map-append, length-append, map-append, flat_range_alike, all_front, all_back, get_front, map_flat, Draw, PlainJournal, PlainWorkload, DrawnPage, stamp_of, ClientSends, client_sends, draws_at, place_of, Deed, Answer, answer_to, answers_by, drawn_in, is_any_given, IsDeedAt, IsDraw, PoolEvent, is_missed, by_stamp, NodeDoings, draw_answer, IsPooled}
use Rattle.hs_base.proofs.Places.{get_last}
use Rattle.hs_records.specs.declared.journal.Draw.TheVariants as draws
use Rattle.hs_words.specs.Ends as ends
use Rattle.hs_words.specs.PoolHistory as pool
use Rattle.hs_law_run.proofs.Answers.{own, answers, at_stamp, drawers, drawers_last, drawers_earlier, just_one}
use Rattle.hs_law_run.proofs.Pools.{client_draws, range_last, Kinds, kinds_before, kind_of, stamp_same}

-- ---- who draws

-- a deed of a drawer is a draw, and one of the giver is none
abbrev pub IsProper : Deed → Type 0
IsProper deed = ((deed.by ≡ 0) × (ends.draws deed.event ≡ 0)) ⊎ ((0 < deed.by) × (ends.draws deed.event ≡ 1))

abbrev IsADraw : Answer → Type 0
IsADraw a = ends.draws a.event ≡ 1

drawn_all : (list : List Draw) → AllByRecursion IsADraw (map draw_answer list)
drawn_all [] = tt
drawn_all (draws.Got buffer stamp ∷ list) = (refl, drawn_all list)
drawn_all (draws.Empty stamp ∷ list) = (refl, drawn_all list)

kind_draws_none : (e : PoolEvent) → (is_any_given e ≡ true) ⊎ (is_missed e ≡ true) → ends.draws e ≡ 0
kind_draws_none (pool.Got b) (inl h) = let no : false ≡ true = h in absurd cc
kind_draws_none (pool.Got b) (inr h) = let no : false ≡ true = h in absurd cc
kind_draws_none pool.Empty (inl h) = let no : false ≡ true = h in absurd cc
kind_draws_none pool.Empty (inr h) = let no : false ≡ true = h in absurd cc
kind_draws_none (pool.Given b) h = refl
kind_draws_none pool.Missed h = refl

proper_all : (count : ℕ) (log : List Deed) → AllByRecursion (λ (deed : Deed). deed.by ≤ count) log → ((client : ℕ) → client < count → AllByRecursion IsADraw (answers (suc client) log)) → Kinds log → AllByRecursion IsProper log
proper_all count [] ends drawn kinds = tt
proper_all count (deed ∷ earlier) low drawn kinds = (
  either deed.by refl,
  proper_all count earlier low.1 (λ client less. all_front IsADraw (answers (suc client) earlier) (own (deed.by == suc client) (answer_to deed (length earlier))) (drawn client less)) (kinds_before deed earlier kinds),
)
  where
    either : (by : ℕ) → deed.by ≡ by → IsProper deed
    either zero is = inl (is, kind_draws_none deed.event (kind_of deed earlier kinds (eq-eqb deed.by 0 is)))
    either (suc client) is =
        let most = low.0 in
        let less : client < count = omega (arith, is, most) in
        let mine = all_back IsADraw (answers (suc client) earlier) (own (deed.by == suc client) (answer_to deed (length earlier))) (drawn client less) in
        inr (omega (arith, is), (subst (λ b. AllByRecursion IsADraw (own b (answer_to deed (length earlier)))) (eq-eqb deed.by (suc client) is) mine).0)

-- ---- draws in order

abbrev pub draws_in_order : ℕ → List Deed → List Answer
draws_in_order count log = flat_map (λ s. at_stamp s (drawers 0 count log)) (range_with_len 0 (length log))

abbrev if_draw : Deed → Answer → List Answer
if_draw deed a = cond (nat_eq (ends.draws deed.event) 1) (a ∷ []) []

one_more : (count : ℕ) (deed : Deed) (earlier : List Deed) → deed.by ≤ count → IsProper deed → draws_in_order count (deed ∷ earlier) ≡ draws_in_order count earlier ++ if_draw deed (answer_to deed (length earlier))
one_more count deed earlier low proper =
    let k = length earlier in
    let zeroth : 0 + k ≡ k = omega arith in
    ap (flat_map (λ s. at_stamp s (drawers 0 count (deed ∷ earlier)))) (range_last 0 k)
    ∙ flat_map-append (λ s. at_stamp s (drawers 0 count (deed ∷ earlier))) (range_with_len 0 k) ((0 + k) ∷ [])
    ∙ ap (λ front. front ++ flat_map (λ s. at_stamp s (drawers 0 count (deed ∷ earlier))) ((0 + k) ∷ []))
    (flat_range_alike (λ s. at_stamp s (drawers 0 count (deed ∷ earlier))) (λ s. at_stamp s (drawers 0 count earlier)) 0 k (λ s less. drawers_earlier s count deed earlier (omega (arith, less))))
    ∙ ap (λ back. draws_in_order count earlier ++ back)
    (append-nil (at_stamp (0 + k) (drawers 0 count (deed ∷ earlier))) ∙ ap (λ s. at_stamp s (drawers 0 count (deed ∷ earlier))) zeroth ∙ drawers_last count deed earlier
    ∙ either (just_one deed.by (answer_to deed (length earlier)) count low) proper)
  where
    either : ((flat_map (λ client. own (deed.by == suc client) (answer_to deed (length earlier))) (range_with_len 0 count) ≡ answer_to deed (length earlier) ∷ []) × (nat_eq deed.by 0 ≡ false))
        ⊎ ((flat_map (λ client. own (deed.by == suc client) (answer_to deed (length earlier))) (range_with_len 0 count) ≡ []) × (nat_eq deed.by 0 ≡ true))
        → IsProper deed → flat_map (λ client. own (deed.by == suc client) (answer_to deed (length earlier))) (range_with_len 0 count) ≡ if_draw deed (answer_to deed (length earlier))
    either (inl one) (inl none) = let no : false ≡ true = sym one.1 ∙ eq-eqb deed.by 0 none.0 in absurd cc
    either (inl one) (inr draw) = one.0 ∙ sym (ap (λ b. cond b (answer_to deed (length earlier) ∷ []) []) (eq-eqb (ends.draws deed.event) 1 draw.1))
    either (inr one) (inl none) = one.0 ∙ sym (ap (λ e. cond (nat_eq e 1) (answer_to deed (length earlier) ∷ []) []) none.1)
    either (inr one) (inr draw) = let is = eqb-true deed.by 0 one.1 in let some = draw.0 in absurd (omega (arith, is, some))

draws_long : (count : ℕ) (log : List Deed) → AllByRecursion (λ (deed : Deed). deed.by ≤ count) log → AllByRecursion IsProper log → length (draws_in_order count log) ≡ drawn_in log
draws_long count [] low proper = refl
draws_long count (deed ∷ earlier) low proper =
    let rest = draws_long count earlier low.1 proper.1 in
    let parts = ap length (one_more count deed earlier low.0 proper.0) ∙ length-append (draws_in_order count earlier) (if_draw deed (answer_to deed (length earlier))) in
    let last = either proper.0 in
    omega (arith, rest, parts, last)
  where
    either : IsProper deed → length (if_draw deed (answer_to deed (length earlier))) ≡ ends.draws deed.event
    either (inl none) = ap (λ e. length (cond (nat_eq e 1) (answer_to deed (length earlier) ∷ []) [])) none.1 ∙ sym none.1
    either (inr draw) = ap (λ e. length (cond (nat_eq e 1) (answer_to deed (length earlier) ∷ []) [])) draw.1 ∙ sym draw.1

-- the draw of a number
pub draw_at : (count : ℕ) (log : List Deed) (number stamp : ℕ) (deed : Deed) → AllByRecursion (λ (deed : Deed). deed.by ≤ count) log → AllByRecursion IsProper log → IsDraw log number stamp deed
    → slice_get (draws_in_order count log) number ≡ Some (answer_to deed stamp)
draw_at count [] number stamp deed low proper h = absurd h
draw_at count (last ∷ earlier) number stamp deed low proper (inl is) =
    let long = draws_long count earlier low.1 proper.1 in
    let a = answer_to last (length earlier) in
    let drawn : if_draw last a ≡ a ∷ [] = ap (λ b. cond b (a ∷ []) []) (eq-eqb (ends.draws last.event) 1 is.1) in
    ap (λ list. slice_get list number) (one_more count last earlier low.0 proper.0 ∙ ap (λ back. draws_in_order count earlier ++ back) drawn)
    ∙ ap (slice_get (draws_in_order count earlier ++ a ∷ [])) (is.0 ∙ sym long)
    ∙ get_last (draws_in_order count earlier) a
    ∙ ap (λ s. Some (answer_to last s)) (sym is.2)
    ∙ ap (λ (d : Deed). Some (answer_to d stamp)) is.3
draw_at count (last ∷ earlier) number stamp deed low proper (inr h) =
    ap (λ list. slice_get list number) (one_more count last earlier low.0 proper.0)
    ∙ get_front (draws_in_order count earlier) (if_draw last (answer_to last (length earlier))) number (answer_to deed stamp) (draw_at count earlier number stamp deed low.1 proper.1 h)

-- ---- pages by their stamps

abbrev pub page_answer : DrawnPage → Answer
page_answer page = draw_answer page.draw

at_same : (s : ℕ) (pages : List DrawnPage) → map page_answer (filter (λ (page : DrawnPage). stamp_of page.draw == s) pages) ≡ at_stamp s (map page_answer pages)
at_same s [] = refl
at_same s (page ∷ pages) =
    either (stamp_of page.draw == s) (at_same s pages)
    ∙ ap (λ t. cond (t == s) (page_answer page ∷ at_stamp s (map page_answer pages)) (at_stamp s (map page_answer pages))) (sym (stamp_same page.draw))
  where
    either : (b : Bool) → map page_answer (filter (λ (page : DrawnPage). stamp_of page.draw == s) pages) ≡ at_stamp s (map page_answer pages)
        → map page_answer (cond b (page ∷ filter (λ (page : DrawnPage). stamp_of page.draw == s) pages) (filter (λ (page : DrawnPage). stamp_of page.draw == s) pages))
        ≡ cond b (page_answer page ∷ at_stamp s (map page_answer pages)) (at_stamp s (map page_answer pages))
    either true h = ap (λ rest. page_answer page ∷ rest) h
    either false h = h

pub pages_in_order : (pages : List DrawnPage) (bound : ℕ)
    → map page_answer (by_stamp (λ (page : DrawnPage). stamp_of page.draw) bound pages) ≡ flat_map (λ s. at_stamp s (map page_answer pages)) (range_with_len 0 bound)
pages_in_order pages bound =
    map_flat (λ s. filter (λ (page : DrawnPage). stamp_of page.draw == s) pages) page_answer (range_with_len 0 bound)
    ∙ flat_range_alike (λ s. map page_answer (filter (λ (page : DrawnPage). stamp_of page.draw == s) pages)) (λ s. at_stamp s (map page_answer pages)) 0 bound (λ s low. at_same s pages)

module _ (W : PlainWorkload) (J : PlainJournal) (n : NodeDoings) (p : IsPooled W J n) where
  pub proper : AllByRecursion IsProper p.log
  proper = proper_all W.settings.clients p.log p.nobody_else (λ client low. subst (AllByRecursion IsADraw) (client_draws W J n p client low) (drawn_all (draws_at J (place_of W.settings.clients n.node client)))) p.kinds

  pub client_pages : (client : ℕ) → client < W.settings.clients → map page_answer (client_sends W J n.node client).drawn ≡ answers (suc client) p.log
  client_pages client low = twice (client_sends W J n.node client).drawn ∙ ap (map draw_answer) (p.paged client low) ∙ client_draws W J n p client low
    where
      twice : (pages : List DrawnPage) → map page_answer pages ≡ map draw_answer (map (λ (page : DrawnPage). page.draw) pages)
      twice [] = refl
      twice (page ∷ pages) = ap (λ rest. page_answer page ∷ rest) (twice pages)

  pages_from : (start count : ℕ) → start + count ≤ W.settings.clients
      → map page_answer (flat_map (λ (sends : ClientSends). sends.drawn) (map (client_sends W J n.node) (range_with_len start count))) ≡ drawers start count p.log
  pages_from start zero few = refl
  pages_from start (suc count) few =
      let drawn = (client_sends W J n.node start).drawn in
      let rest = flat_map (λ (sends : ClientSends). sends.drawn) (map (client_sends W J n.node) (range_with_len (start + 1) count)) in
      map-append page_answer drawn rest
      ∙ ap (λ front. front ++ map page_answer rest) (client_pages start (omega (arith, few)))
      ∙ ap (λ back. answers (suc start) p.log ++ back) (pages_from (start + 1) count (omega (arith, few)))

  pub all_pages : map page_answer (flat_map (λ (sends : ClientSends). sends.drawn) (map (client_sends W J n.node) (range_with_len 0 W.settings.clients))) ≡ drawers 0 W.settings.clients p.log
  all_pages = pages_from 0 W.settings.clients (omega arith)
