-- The draws of a client's pages, and those of all clients, one after another.
use Rattle.std.proofs.Common.{◌≡◌, ℕ, ◌+◌, ◌<◌, ◌≤◌, List, [], ◌∷◌, ◌++◌, length, take, drop, get_or, refl, sym, ap, ◌∙◌, arith}
use Rattle.hs_check.proofs.Prelude.{drop_more, drop_all, Draw, PlainJournal, has_buffer, stamp_of, draws_at, FoundClient, drawn_from, first_stamp, page_draws, all_page_draws}

module _ (client : ℕ) (started : List ℕ) (draws : List Draw) (i : ℕ) where
  pub one_draw : (d : Draw) → length draws ≤ length started → i < length draws
      → page_draws client i (drop i started) (drop i draws)
      ≡ record {
        page = record { client = client; page = i };
        stamp = stamp_of (get_or draws i d);
        got = has_buffer (get_or draws i d);
        next = first_stamp (drop (i + 1) draws);
        started = get_or started i 0;
      } ∷ page_draws client (i + 1) (drop (i + 1) started) (drop (i + 1) draws)
  one_draw d many less =
      ap (λ (l : List ℕ). page_draws client i l (drop i draws)) (drop_more started i 0 (omega arith))
      ∙ ap (λ (l : List Draw). page_draws client i (get_or started i 0 ∷ drop (i + 1) started) l) (drop_more draws i d less)

  pub no_draw : length draws ≤ i → page_draws client i (drop i started) (drop i draws) ≡ []
  no_draw past = ap (λ (l : List Draw). page_draws client i (drop i started) l) (drop_all i draws past) ∙ none (drop i started)
    where
      none : (xs : List ℕ) → page_draws client i xs [] ≡ []
      none [] = refl
      none (x ∷ xs) = refl

module _ (J : PlainJournal) (p : ℕ) (clients : List FoundClient) (i : ℕ) where
  pub one_client : (c : FoundClient) → i < length clients → c ≡ get_or clients i c
      → all_page_draws i (drop i clients) (drawn_from J (p + i) (drop i clients))
      ≡ page_draws i 0 c.started.items (take (length c.started.items) (draws_at J (p + i))) ++ all_page_draws (i + 1) (drop (i + 1) clients) (drawn_from J (p + (i + 1)) (drop (i + 1) clients))
  one_client c less is =
      let here : drop i clients ≡ c ∷ drop (i + 1) clients = drop_more clients i c less ∙ sym (ap (λ (x : FoundClient). x ∷ drop (i + 1) clients) is) in
      let next : p + i + 1 ≡ p + (i + 1) = omega arith in
      ap (λ (l : List FoundClient). all_page_draws i l (drawn_from J (p + i) l)) here
      ∙ ap (λ k. page_draws i 0 c.started.items (take (length c.started.items) (draws_at J (p + i))) ++ all_page_draws (i + 1) (drop (i + 1) clients) (drawn_from J k (drop (i + 1) clients))) next

  pub no_client : length clients ≤ i → all_page_draws i (drop i clients) (drawn_from J (p + i) (drop i clients)) ≡ []
  no_client past = ap (λ (l : List FoundClient). all_page_draws i l (drawn_from J (p + i) l)) (drop_all i clients past)
