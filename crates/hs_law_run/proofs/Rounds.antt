-- The pages of a client and its draws by rounds: those of the operations that it had done, and those of later ones.
use Rattle.std.proofs.Common.{◌≡◌, ℕ, zero, suc, ◌+◌, ◌*◌, ◌<◌, ◌≤◌, Bool, true, false, cond, List, [], ◌∷◌, length, refl, sym, ap, subst, ◌∙◌, Some, None, arith, map, filter, slice_get, nat_lt, ltb-true, ltb-false, lt-ltb}
use Rattle.hs_law_run.proofs.Prelude.{div-lt_iff_lt-mul, AllByRecursion, flat_map, range_with_len, same_Some, all_append, ClientId, Draw, PlainJournal, PlainWorkload, AreBracketed, DrawnPage, drawn_from, ClientSends, client_sends, operations_at, TimedPage, round_of, pages_at}
use Rattle.hs_base.specs.declared.limits.TheConstants.{MIN_SIZE}
use Rattle.hs_client.specs.Laws.{IsTimely}

-- what is needed of a workload
pub record IsFit (W : PlainWorkload) : Type 0 where
  pub least : MIN_SIZE ≤ W.settings.size
  pub stride : 0 < W.settings.stride
  pub buffers : 0 < W.settings.buffers
  pub bracketed : (place : ℕ) → AreBracketed false (operations_at W place)

-- ---- timed pages

abbrev pub starts_before : ℕ → TimedPage → Bool
starts_before m page = nat_lt page.started m

pub starts_late : (from to m : ℕ) (pages : List TimedPage) → m ≤ from → IsTimely from to pages → filter (starts_before m) pages ≡ []
starts_late from to m [] high timely = refl
starts_late from to m (page ∷ pages) high timely = either (nat_lt page.started m) refl (starts_late page.sent to m pages (omega (arith, high, first, second)) timely.3)
  where
    first : from ≤ page.started
    first = timely.0

    second : page.started ≤ page.sent
    second = timely.1

    either : (b : Bool) → nat_lt page.started m ≡ b → filter (starts_before m) pages ≡ [] → cond b (page ∷ filter (starts_before m) pages) (filter (starts_before m) pages) ≡ []
    either false e rest = rest
    either true e rest = let low = ltb-true page.started m e in absurd (omega (arith, low, high, first))

-- the pages that start before an operation are the first so many
pub record IsSplitAt (m : ℕ) (pages : List TimedPage) (i : ℕ) (page : TimedPage) : Type 0 where
  pub early : page.started < m → i < length (filter (starts_before m) pages)
  pub late : i < length (filter (starts_before m) pages) → page.started < m

pub split_at : (from to m : ℕ) (pages : List TimedPage) → IsTimely from to pages → (i : ℕ) (page : TimedPage) → slice_get pages i ≡ Some page → IsSplitAt m pages i page
split_at from to m [] timely i page h = let no : None ≡ Some page = h in absurd cc
split_at from to m (p ∷ pages) timely i page h = either (nat_lt p.started m) refl i h (λ j g. split_at p.sent to m pages timely.3 j page g)
  where
    first : p.started ≤ p.sent
    first = timely.1

    none_of : m ≤ p.started → filter (starts_before m) pages ≡ []
    none_of high = starts_late p.sent to m pages (omega (arith, high, first)) timely.3

    either : (b : Bool) → nat_lt p.started m ≡ b → (i : ℕ) → slice_get (p ∷ pages) i ≡ Some page → ((j : ℕ) → slice_get pages j ≡ Some page → IsSplitAt m pages j page)
        → IsSplitAt m (p ∷ pages) i page
    either true e zero h earlier =
        let same = same_Some p page h in
        let low = subst (λ (q : TimedPage). q.started < m) same (ltb-true p.started m e) in
        record { early = λ _. subst (λ b. 0 < length (cond b (p ∷ filter (starts_before m) pages) (filter (starts_before m) pages))) (sym e) (omega arith); late = λ _. low }
    either true e (suc j) h earlier =
        let s = earlier j h in
        record {
          early = λ low. let less = s.early low in subst (λ b. suc j < length (cond b (p ∷ filter (starts_before m) pages) (filter (starts_before m) pages))) (sym e) (omega (arith, less));
          late = λ low. let less : suc j < suc (length (filter (starts_before m) pages)) = subst (λ b. suc j < length (cond b (p ∷ filter (starts_before m) pages) (filter (starts_before m) pages))) e low in s.late (omega (arith, less));
        }
    either false e zero h earlier =
        let same = same_Some p page h in
        let high = ltb-false p.started m e in
        let none = none_of high in
        record {
          early = λ low. absurd (let at = subst (λ (q : TimedPage). q.started < m) (sym same) low in omega (arith, at, high));
          late = λ low. absurd (let less : 0 < length (filter (starts_before m) pages) = subst (λ b. 0 < length (cond b (p ∷ filter (starts_before m) pages) (filter (starts_before m) pages))) e low in let zeroth = ap length none in omega (arith, less, zeroth));
        }
    either false e (suc j) h earlier =
        let high = ltb-false p.started m e in
        let none = none_of high in
        let s = earlier j h in
        record {
          early = λ low. absurd (let less = s.early low in let zeroth = ap length none in omega (arith, less, zeroth));
          late = λ low. absurd (let less : suc j < length (filter (starts_before m) pages) = subst (λ b. suc j < length (cond b (p ∷ filter (starts_before m) pages) (filter (starts_before m) pages))) e low in let zeroth = ap length none in omega (arith, less, zeroth));
        }

pub all_start : (from to : ℕ) (pages : List TimedPage) → IsTimely from to pages → AllByRecursion (λ (p : TimedPage). p.started < to) pages
all_start from to [] timely = tt
all_start from to (p ∷ pages) timely =
    let first = timely.1 in let second = timely.2 in (omega (arith, first, second), all_start p.sent to pages timely.3)

pub all_counted : (m : ℕ) (pages : List TimedPage) → AllByRecursion (λ (p : TimedPage). p.started < m) pages → filter (starts_before m) pages ≡ pages
all_counted m [] all = refl
all_counted m (p ∷ pages) all =
    ap (λ b. cond b (p ∷ filter (starts_before m) pages) (filter (starts_before m) pages)) (lt-ltb p.started m all.0) ∙ ap (λ rest. p ∷ rest) (all_counted m pages all.1)

-- ---- drawn pages

pub record IsPageAt (client : ClientId) (number : ℕ) (pages : List TimedPage) (list : List Draw) (i : ℕ) (page : DrawnPage) : Type 0 where
  pub timed : TimedPage
  pub there : slice_get pages i ≡ Some timed
  pub draw : slice_get list i ≡ Some page.draw
  pub started : page.started ≡ timed.started
  pub owner : page.client ≡ client
  pub numbered : page.number ≡ number + i

pub page_at : (client : ClientId) (number : ℕ) (pages : List TimedPage) (list : List Draw) (i : ℕ) (page : DrawnPage) → slice_get (drawn_from client number pages list) i ≡ Some page → IsPageAt client number pages list i page
page_at client number [] list i page h = let no : None ≡ Some page = h in absurd cc
page_at client number (timed ∷ pages) [] i page h = let no : None ≡ Some page = h in absurd cc
page_at client number (timed ∷ pages) (draw ∷ list) zero page h =
    let is = sym (same_Some _ page h) in
    record {
      timed = timed;
      there = refl;
      draw = ap (λ (p : DrawnPage). Some p.draw) (sym is);
      started = ap (λ (p : DrawnPage). p.started) is;
      owner = ap (λ (p : DrawnPage). p.client) is;
      numbered = ap (λ (p : DrawnPage). p.number) is ∙ omega arith;
    }
page_at client number (timed ∷ pages) (draw ∷ list) (suc i) page h =
    let s = page_at client (number + 1) pages list i page h in
    let n = s.numbered in
    record { timed = s.timed; there = s.there; draw = s.draw; started = s.started; owner = s.owner; numbered = omega (arith, n) }

pub record HasPage (client : ClientId) (number : ℕ) (pages : List TimedPage) (list : List Draw) (i : ℕ) (draw : Draw) : Type 0 where
  pub page : DrawnPage
  pub there : slice_get (drawn_from client number pages list) i ≡ Some page
  pub draw_is : page.draw ≡ draw

pub page_of_draw : (client : ClientId) (number : ℕ) (pages : List TimedPage) (list : List Draw) (i : ℕ) (draw : Draw) → length list ≤ length pages → slice_get list i ≡ Some draw → HasPage client number pages list i draw
page_of_draw client number pages [] i draw few h = let no : None ≡ Some draw = h in absurd cc
page_of_draw client number [] (d ∷ list) i draw few h = absurd (omega (arith, few))
page_of_draw client number (timed ∷ pages) (d ∷ list) zero draw few h =
    record {
      page = record { client = client; number = number; page = timed.page; started = timed.started; sent = timed.sent; draw = d };
      there = refl;
      draw_is = same_Some d draw h;
    }
page_of_draw client number (timed ∷ pages) (d ∷ list) (suc i) draw few h =
    let s = page_of_draw client (number + 1) pages list i draw (omega (arith, few)) h in record { page = s.page; there = s.there; draw_is = s.draw_is }

pub drawn_draws : (client : ClientId) (number : ℕ) (pages : List TimedPage) (list : List Draw) → length list ≤ length pages → map (λ (page : DrawnPage). page.draw) (drawn_from client number pages list) ≡ list
drawn_draws client number pages [] few = nothing pages
  where
    nothing : (pages : List TimedPage) → map (λ (page : DrawnPage). page.draw) (drawn_from client number pages []) ≡ []
    nothing [] = refl
    nothing (p ∷ pages) = refl
drawn_draws client number [] (d ∷ list) few = absurd (omega (arith, few))
drawn_draws client number (p ∷ pages) (d ∷ list) few = ap (λ rest. d ∷ rest) (drawn_draws client (number + 1) pages list (omega (arith, few)))

-- ---- the pages of all clients of a node

pub all_pages_at : (P : DrawnPage → Type 0) (W : PlainWorkload) (J : PlainJournal) (node : ℕ) → ((client : ℕ) → client < W.settings.clients → AllByRecursion P (client_sends W J node client).drawn)
    → AllByRecursion P (pages_at W J node)
all_pages_at P W J node each = from 0 W.settings.clients (λ client low high. each client (omega (arith, high)))
  where
    from : (start count : ℕ) → ((client : ℕ) → start ≤ client → client < start + count → AllByRecursion P (client_sends W J node client).drawn)
        → AllByRecursion P (flat_map (λ (sends : ClientSends). sends.drawn) (map (client_sends W J node) (range_with_len start count)))
    from start zero each = tt
    from start (suc count) each =
        all_append P (client_sends W J node start).drawn (flat_map (λ (sends : ClientSends). sends.drawn) (map (client_sends W J node) (range_with_len (start + 1) count)))
        (each start (omega arith) (omega arith)) (from (start + 1) count (λ client low high. each client (omega (arith, low)) (omega (arith, high))))

-- ---- rounds

pub round_within : (W : PlainWorkload) → IsFit W → (operation round : ℕ) → round_of W.settings.stride operation ≤ round → operation < round * W.settings.stride
round_within W fit operation round low = (div-lt_iff_lt-mul {k = W.settings.stride} {x = operation} {y = round} fit.stride).0 (omega (arith, low))

pub round_behind : (W : PlainWorkload) → IsFit W → (operation round : ℕ) → operation < round * W.settings.stride → round_of W.settings.stride operation ≤ round
round_behind W fit operation round low = let less = (div-lt_iff_lt-mul {k = W.settings.stride} {x = operation} {y = round} fit.stride).1 low in omega (arith, less)
