-- The answers of a client's drawer by rounds: what it was answered up to a round, and what it was answered later.
use Rattle.std.proofs.Common.{◌≡◌, ℕ, zero, suc, ◌+◌, ◌-◌, ◌<◌, ◌≤◌, Bool, true, false, List, [], ◌++◌, length, reverse, refl, sym, ap, ◌∙◌, Some, arith, filter, slice_get, nat_lt, ltb-true, ltb-false, option_map, append_assoc}
use Rattle.hs_law_run.proofs.Prelude.{AllByRecursion, length-reverse, reverse-append, slice_get-map, all_append, all_each, all_reverse, all_at, all_by_place, Draw, PlainJournal, Operation, PlainWorkload, AreBracketed, DrawnPage, TimedPagesAreTimely, client_sends, draws_at, place_of, ops_of, TimedPage, timed_pages, Answer, round_of, NodeDoings, draw_answer, done_by}
use Rattle.hs_law_run.proofs.PoolOf.{IsPoolOf}
use Rattle.hs_law_run.proofs.Lists.{get_low, get_high}
use Rattle.hs_law_run.proofs.Rounds.{IsFit, split_at, all_start, page_at, round_within, round_behind}

module _ (timely : TimedPagesAreTimely) (W : PlainWorkload) (fit : IsFit W) (J : PlainJournal) (n : NodeDoings) (rounds : ℕ) (p : IsPoolOf W J n rounds) where
  abbrev answers_at : (k client : ℕ) → List Answer
  answers_at k client = (p.at k).answers client

  -- what a drawer was answered behind a round
  pub record Later (k client : ℕ) : Type 0 where
    pub more : List Answer
    pub answers : (p.at rounds).answers client ≡ more ++ (p.at k).answers client
    pub high : AllByRecursion (λ (a : Answer). (p.at k).floors client ≤ a.stamp) more

  later_from : (d k client : ℕ) → k + d ≡ rounds → client < W.settings.clients → Later k client
  later_from zero k client is low = let same : rounds ≡ k = omega (arith, is) in record { more = []; answers = ap (λ m. (p.at m).answers client) same; high = tt }
  later_from (suc d) k client is low =
      let next = later_from d (suc k) client (omega (arith, is)) low in
      let met = p.meets k client (omega (arith, is)) low in
      let rises = met.floor in
      record {
        more = next.more ++ met.more;
        answers = next.answers ∙ ap (λ xs. next.more ++ xs) met.answers ∙ sym (append_assoc next.more met.more ((p.at k).answers client));
        high = all_append (λ (a : Answer). (p.at k).floors client ≤ a.stamp) next.more met.more
            (all_each (λ (a : Answer). (p.at (suc k)).floors client ≤ a.stamp) (λ (a : Answer). (p.at k).floors client ≤ a.stamp) next.more (λ a above. omega (arith, above, rises)) next.high) met.high;
      }

  pub later : (k client : ℕ) → k ≤ rounds → client < W.settings.clients → Later k client
  later k client low few = later_from (rounds - k) k client (omega (arith, low)) few

  abbrev pub draws_of : ℕ → List Draw
  draws_of client = draws_at J (place_of W.settings.clients n.node client)

  abbrev pub pages_of_client : ℕ → List DrawnPage
  pages_of_client client = (client_sends W J n.node client).drawn

  -- where a page's draw stands among the answers
  record Stands (k client i : ℕ) (page : DrawnPage) (l : Later k client) : Type 0 where
    early : round_of W.settings.stride page.started ≤ k → slice_get (reverse (answers_at k client)) i ≡ Some (draw_answer page.draw)
    late : k < round_of W.settings.stride page.started → (place : ℕ) × (slice_get (reverse l.more) place ≡ Some (draw_answer page.draw))

  stands : (k client : ℕ) → k ≤ rounds → client < W.settings.clients → (l : Later k client) → (i : ℕ) (page : DrawnPage) → slice_get (pages_of_client client) i ≡ Some page → Stands k client i page l
  stands k client low few l i page h =
      let at = page_at (record { node = n.node; number = client }) 0 (timed_pages W.settings.size ops) (draws_of client) i page h in
      let drawn : slice_get (reverse (answers_at rounds client)) i ≡ Some (draw_answer page.draw) =
      ap (λ xs. slice_get xs i) (sym (p.drawn client few)) ∙ slice_get-map draw_answer (draws_of client) i ∙ ap (option_map draw_answer) at.draw in
      let both : slice_get (reverse (answers_at k client) ++ reverse l.more) i ≡ Some (draw_answer page.draw) =
      ap (λ xs. slice_get xs i) (sym (ap reverse l.answers ∙ reverse-append l.more (answers_at k client))) ∙ drawn in
      let split = split_at 0 (length ops) done (timed_pages W.settings.size ops) (timely W.settings.size ops fit.least bracketed) i at.timed at.there in
      let starts = all_at (λ (t : TimedPage). t.started < length ops) (timed_pages W.settings.size ops) i at.timed (all_start 0 (length ops) (timed_pages W.settings.size ops) (timely W.settings.size ops fit.least bracketed)) at.there in
      let is = at.started in
      let long = length-reverse (answers_at k client) in
      let count = p.started k client low few in
      record {
        early = λ within. get_low (reverse (answers_at k client)) (reverse l.more) i (draw_answer page.draw) both
            (let below = round_within W fit page.started k within in let less = split.early (omega (arith, below, is, starts)) in omega (arith, less, count, long));
        late = λ behind.
            let high = get_high (reverse (answers_at k client)) (reverse l.more) i (draw_answer page.draw) both
            (omega (
              arith,
              count,
              long,
              not_less i (length (filter (λ (t : TimedPage). nat_lt t.started done) (timed_pages W.settings.size ops)))
                  (λ less. let below = split.late less in let within = round_behind W fit page.started k (omega (arith, below, is)) in omega (arith, within, behind)),
            )) in
            (high.place, high.there);
      }
    where
      ops : List Operation
      ops = ops_of W n.node client

      done : ℕ
      done = done_by W n.node client k

      bracketed : AreBracketed false ops
      bracketed = fit.bracketed (place_of W.settings.clients n.node client)

      not_less : (a b : ℕ) → (a < b → ⊥) → b ≤ a
      not_less a b never = either (nat_lt a b) refl
        where
          either : (c : Bool) → nat_lt a b ≡ c → b ≤ a
          either true e = absurd (never (ltb-true a b e))
          either false e = ltb-false a b e

  -- what holds of all answers up to a round holds of the draws of its pages, and what holds of later answers of those of later pages
  pub early_pages : (P : Answer → Type 0) (k client : ℕ) → k ≤ rounds → client < W.settings.clients → AllByRecursion P ((p.at k).answers client)
      → AllByRecursion (λ (page : DrawnPage). round_of W.settings.stride page.started ≤ k → P (draw_answer page.draw)) (pages_of_client client)
  early_pages P k client low few all =
      all_by_place (λ (page : DrawnPage). round_of W.settings.stride page.started ≤ k → P (draw_answer page.draw)) (pages_of_client client)
      (λ i page h within. all_at P (reverse (answers_at k client)) i (draw_answer page.draw) (all_reverse P (answers_at k client) all) ((stands k client low few (later k client low few) i page h).early within))

  pub late_pages : (k client : ℕ) → k ≤ rounds → client < W.settings.clients
      → AllByRecursion (λ (page : DrawnPage). k < round_of W.settings.stride page.started → (p.at k).floors client ≤ (draw_answer page.draw).stamp) (pages_of_client client)
  late_pages k client low few =
      let l = later k client low few in
      all_by_place (λ (page : DrawnPage). k < round_of W.settings.stride page.started → (p.at k).floors client ≤ (draw_answer page.draw).stamp) (pages_of_client client)
      (λ i page h behind.
      let at = (stands k client low few l i page h).late behind in
      all_at (λ (a : Answer). (p.at k).floors client ≤ a.stamp) (reverse l.more) at.0 (draw_answer page.draw) (all_reverse (λ (a : Answer). (p.at k).floors client ≤ a.stamp) l.more l.high) at.1)
