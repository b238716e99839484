-- What happened at the pool of a followed node, by its draws, its log and the pages that were found.
use Rattle.std.proofs.Common.{◌≡◌, ℕ, zero, suc, ◌+◌, ◌*◌, ◌<◌, ◌≤◌, Bool, true, false, cond, List, [], ◌∷◌, ◌++◌, length, map, take, drop, get_or, Option, Some, None, refl, sym, ap, ◌∙◌, subst, arith}
use Rattle.hs_check_follow.proofs.Prelude.{slice_get, option_map, filter_map, flat_map, range_with_len, option_and_then, option_to_list, Draw, Step, PlainJournal, draws_at, FoundClient, FoundPage, drawn_from, draw_at}
use Rattle.std.proofs.lemmas.Option.{slice_get-get_or, slice_get_past}

-- the draws of a client
pub drawn_here : (J : PlainJournal) (p : ℕ) (clients : List FoundClient) (i : ℕ) (c : FoundClient) → i < length clients → c ≡ get_or clients i c
    → slice_get (drawn_from J p clients) i ≡ Some (take (length c.started.items) (draws_at J (p + i)))
drawn_here J p [] i c less is = absurd (omega arith)
drawn_here J p (x ∷ clients) zero c less is =
    let none : p ≡ p + 0 = omega arith in
    ap (λ (f : FoundClient). Some (take (length f.started.items) (draws_at J p))) (sym is) ∙ ap (λ k. Some (take (length c.started.items) (draws_at J k))) none
drawn_here J p (x ∷ clients) (suc i) c less is =
    let more : (p + 1) + i ≡ p + suc i = omega arith in
    drawn_here J (p + 1) clients i c (omega arith) is ∙ ap (λ k. Some (take (length c.started.items) (draws_at J k))) more

length-drawn : (J : PlainJournal) (p : ℕ) (clients : List FoundClient) → length (drawn_from J p clients) ≡ length clients
length-drawn J p [] = refl
length-drawn J p (x ∷ clients) = ap suc (length-drawn J (p + 1) clients)

module _ (J : PlainJournal) (p : ℕ) (clients : List FoundClient) (page : FoundPage) where
  -- no client
  pub no_client : length clients ≤ page.client → None ≡ draw_at (drawn_from J p clients) page
  no_client past = sym (ap (option_and_then (λ (draws : List Draw). slice_get draws page.page)) (slice_get_past (drawn_from J p clients) page.client (let e = length-drawn J p clients in omega (arith, e))))

  module _ (c : FoundClient) (low : page.client < length clients) (is : c ≡ get_or clients page.client c) (draws : List Draw) (are : draws ≡ take (length c.started.items) (draws_at J (p + page.client))) where
    here : draw_at (drawn_from J p clients) page ≡ slice_get draws page.page
    here = ap (option_and_then (λ (draws : List Draw). slice_get draws page.page)) (drawn_here J p clients page.client c low is) ∙ sym (ap (λ (l : List Draw). slice_get l page.page) are)

    -- no page
    pub no_page : length draws ≤ page.page → None ≡ draw_at (drawn_from J p clients) page
    no_page past = sym (here ∙ slice_get_past draws page.page past)

    pub one_page : (d : Draw) → page.page < length draws → Some (get_or draws page.page d) ≡ draw_at (drawn_from J p clients) page
    one_page d less = sym (here ∙ slice_get-get_or draws page.page d less)
