-- Draws that get a buffer where the given ones do. What is sent is that of the given ones: a front while draws are left, and all in the end.
use Rattle.std.proofs.Common.{◌≡◌, ℕ, zero, suc, ◌+◌, ◌≤◌, Bool, true, false, cond, List, [], ◌∷◌, ◌++◌, length, map, filter, Some, None, refl, sym, ap, ◌∙◌, arith, append_assoc, length-append}
use Rattle.hs_check_follow.proofs.Prelude.{lt-ltb, append-nil, length-map, map-append, nil_from_length, slice_get, get_front, ClientId, Draw, ReplayClientIsAt, PlainReplayClient, DrawsAll, pages_of, Operation, PlainSettings, AreBracketed, count_started, has_buffer, IsTimely, TimedPagesAreThePages, TimedPagesAreTimely, Sent, sends_of, sent_chunks, sent_within, AllChunksAreSent, started_within, TimedPage, timed_pages, Sheet, DrawScript, script_way}
use Rattle.hs_client.specs.Drawn.{DrawnPage, drawn_from}
use Rattle.hs_client.specs.Sending.{sheet_of}
use Rattle.hs_check_follow.proofs.Scripted.{kinds_are}
use Rattle.hs_check_follow.proofs.Starts.{started_short}

-- the draws matter only for whether they get a buffer
pub same_kinds : (client : ClientId) (number : ℕ) (pages : List TimedPage) (a b : List Draw) → map has_buffer a ≡ map has_buffer b → sent_chunks (drawn_from client number pages a) ≡ sent_chunks (drawn_from client number pages b)
same_kinds client number [] a b same = refl
same_kinds client number (page ∷ pages) [] [] same = refl
same_kinds client number (page ∷ pages) [] (y ∷ b) same = absurd cc
same_kinds client number (page ∷ pages) (x ∷ a) [] same = absurd cc
same_kinds client number (page ∷ pages) (x ∷ a) (y ∷ b) same = step (has_buffer x) (has_buffer y) (cc) (same_kinds client (number + 1) pages a b (cc))
  where
    step : (b1 b2 : Bool) → b1 ≡ b2 → sent_chunks (drawn_from client (number + 1) pages a) ≡ sent_chunks (drawn_from client (number + 1) pages b)
        → map {B = Sent Sheet} (λ (d : DrawnPage). record { number = d.sent; item = sheet_of d })
        (cond b1 (record { client = client; number = number; page = page.page; started = page.started; sent = page.sent; draw = x } ∷ filter (λ (d : DrawnPage). has_buffer d.draw) (drawn_from client (number + 1) pages a))
        (filter (λ (d : DrawnPage). has_buffer d.draw) (drawn_from client (number + 1) pages a)))
        ≡ map {B = Sent Sheet} (λ (d : DrawnPage). record { number = d.sent; item = sheet_of d })
        (cond b2 (record { client = client; number = number; page = page.page; started = page.started; sent = page.sent; draw = y } ∷ filter (λ (d : DrawnPage). has_buffer d.draw) (drawn_from client (number + 1) pages b))
        (filter (λ (d : DrawnPage). has_buffer d.draw) (drawn_from client (number + 1) pages b)))
    step true true e on = ap (λ (l : List (Sent Sheet)). record { number = page.sent; item = sheet_of (record { client = client; number = number; page = page.page; started = page.started; sent = page.sent; draw = x }) } ∷ l) on
    step true false e on = absurd cc
    step false true e on = absurd cc
    step false false e on = on

-- what more draws send comes behind
more_behind : (client : ClientId) (number : ℕ) (pages : List TimedPage) (a more : List Draw)
    → (rest : List (Sent Sheet)) × (sent_chunks (drawn_from client number pages (a ++ more)) ≡ sent_chunks (drawn_from client number pages a) ++ rest)
more_behind client number [] a more = ([], refl)
more_behind client number (page ∷ pages) [] more = (sent_chunks (drawn_from client number (page ∷ pages) more), refl)
more_behind client number (page ∷ pages) (x ∷ a) more = let on = more_behind client (number + 1) pages a more in (on.0, step (has_buffer x) on.0 on.1)
  where
    step : (b : Bool) (rest : List (Sent Sheet)) → sent_chunks (drawn_from client (number + 1) pages (a ++ more)) ≡ sent_chunks (drawn_from client (number + 1) pages a) ++ rest
        → map {B = Sent Sheet} (λ (d : DrawnPage). record { number = d.sent; item = sheet_of d })
        (cond b (record { client = client; number = number; page = page.page; started = page.started; sent = page.sent; draw = x } ∷ filter (λ (d : DrawnPage). has_buffer d.draw) (drawn_from client (number + 1) pages (a ++ more)))
        (filter (λ (d : DrawnPage). has_buffer d.draw) (drawn_from client (number + 1) pages (a ++ more))))
        ≡ map {B = Sent Sheet} (λ (d : DrawnPage). record { number = d.sent; item = sheet_of d })
        (cond b (record { client = client; number = number; page = page.page; started = page.started; sent = page.sent; draw = x } ∷ filter (λ (d : DrawnPage). has_buffer d.draw) (drawn_from client (number + 1) pages a))
        (filter (λ (d : DrawnPage). has_buffer d.draw) (drawn_from client (number + 1) pages a))) ++ rest
    step true rest on = ap (λ (l : List (Sent Sheet)). record { number = page.sent; item = sheet_of (record { client = client; number = number; page = page.page; started = page.started; sent = page.sent; draw = x }) } ∷ l) on
    step false rest on = on

get_past : {A : Type 0} (xs : List A) (place : ℕ) → place ≡ length xs → slice_get xs place ≡ None
get_past [] place high = refl
get_past (x ∷ xs) zero high = absurd (omega (arith, high))
get_past (x ∷ xs) (suc place) high = get_past xs place (omega (arith, high))

-- in the end all pages are started
pub all_started : (from to : ℕ) (pages : List TimedPage) → IsTimely from to pages → started_within to pages ≡ pages
all_started from to [] timely = refl
all_started from to (page ∷ pages) timely =
    let low : suc page.started ≤ to = omega (arith, timely.1, timely.2) in
    rw (lt-ltb page.started to low) (ap (λ (l : List TimedPage). page ∷ l) (all_started page.sent to pages timely.3))

module _ (settings : PlainSettings) (client : ClientId) (ops : List Operation) (draws : List Draw) (each : length draws ≡ length (pages_of settings.size ops)) (drawn : List Draw) (script : DrawScript)
    (kinds : map has_buffer drawn ++ map has_buffer script.left.items ≡ map has_buffer draws) where
  pub left_long : length drawn + length script.left.items ≡ length draws
  left_long =
      let both = length-append (map has_buffer drawn) (map has_buffer script.left.items) in
      let all = ap length kinds in
      let x = length-map drawn has_buffer in
      let y = length-map script.left.items has_buffer in
      let z = length-map draws has_buffer in
      omega (arith, both, all, x, y, z)

  -- what was sent so far is sent at the given draws
  pub sent_there : (k : ℕ) (item : Sent Sheet) → slice_get (sends_of settings client ops drawn).chunks k ≡ Some item → slice_get (sends_of settings client ops draws).chunks k ≡ Some item
  sent_there k item at =
      let pages = timed_pages settings.size ops in
      let left = script.left.items in
      let on = more_behind client 0 pages drawn left in
      let same = same_kinds client 0 pages (drawn ++ left) draws (map-append has_buffer drawn left ∙ kinds) in
      ap (λ (l : List (Sent Sheet)). slice_get l k) (sym same ∙ on.1) ∙ get_front (sends_of settings client ops drawn).chunks on.0 k item at

  -- ---- where more draws are made

  module _ (paged : TimedPagesAreThePages) (more : List Draw) (script' : DrawScript) (drew : DrawsAll script_way more script script') (n k l m : ℕ) (player : PlainReplayClient) (at : ReplayClientIsAt settings client ops (drawn ++ more) n k l m player) where
    -- as many pages are started as the client has in all, at most
    started_few : count_started settings.size ops n ≤ length draws
    started_few =
        let few = started_short n (timed_pages settings.size ops) in
        let all = sym (length-map (timed_pages settings.size ops) (λ (p : TimedPage). p.page)) ∙ ap length (paged settings.size ops at.playable.client.bracketed) in
        let same = each in
        omega (arith, few, all, same)

    pub drawn_more : length drawn + length more ≡ count_started settings.size ops n
    drawn_more = sym (length-append drawn more) ∙ at.each

    few : length more ≤ length script.left.items
    few = let most = started_few in let a = drawn_more in let b = left_long in omega (arith, most, a, b)

    pub kinds_left : map has_buffer more ++ map has_buffer script'.left.items ≡ map has_buffer script.left.items
    kinds_left = kinds_are more script script' drew few

    pub kinds_more : map has_buffer (drawn ++ more) ++ map has_buffer script'.left.items ≡ map has_buffer draws
    kinds_more =
        ap (λ l. l ++ map has_buffer script'.left.items) (map-append has_buffer drawn more) ∙ append_assoc (map has_buffer drawn) (map has_buffer more) (map has_buffer script'.left.items)
        ∙ ap (λ l. map has_buffer drawn ++ l) kinds_left ∙ kinds

  -- ---- where all operations are done

  module _ (paged : TimedPagesAreThePages) (timely : TimedPagesAreTimely) (all : AllChunksAreSent) (k l m : ℕ) (player : PlainReplayClient) (at : ReplayClientIsAt settings client ops drawn (length ops) k l m player) where
    bracketed : AreBracketed false ops
    bracketed = at.playable.client.bracketed

    pub in_time : IsTimely 0 (length ops) (timed_pages settings.size ops)
    in_time = timely settings.size ops at.playable.least bracketed

    pub pages_long : length draws ≡ length (timed_pages settings.size ops)
    pages_long = each ∙ ap length (sym (paged settings.size ops bracketed)) ∙ length-map (timed_pages settings.size ops) (λ (p : TimedPage). p.page)

    drawn_long : length drawn ≡ length draws
    drawn_long = at.each ∙ ap length (all_started 0 (length ops) (timed_pages settings.size ops) in_time) ∙ sym pages_long

    kinds_whole : map has_buffer drawn ≡ map has_buffer draws
    kinds_whole =
        let long = left_long in
        let same = drawn_long in
        let y = length-map script.left.items has_buffer in
        let none : map has_buffer script.left.items ≡ [] = nil_from_length (map has_buffer script.left.items) (omega (arith, long, same, y)) in
        sym (append-nil (map has_buffer drawn)) ∙ ap (λ l. map has_buffer drawn ++ l) (sym none) ∙ kinds

    pub same_chunks : sent_within (length ops) (sends_of settings client ops drawn).chunks ≡ (sends_of settings client ops draws).chunks
    same_chunks = all settings.size client ops drawn at.playable.least bracketed ∙ same_kinds client 0 (timed_pages settings.size ops) drawn draws kinds_whole

    pub none_there : k ≡ length (sent_within (length ops) (sends_of settings client ops drawn).chunks) → slice_get (sends_of settings client ops draws).chunks k ≡ None
    none_there last = get_past (sends_of settings client ops draws).chunks k (last ∙ ap length same_chunks)
