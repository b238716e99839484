-- Draws one behind another.
use Rattle.std.proofs.Common.{◌≡◌, ℕ, zero, suc, ◌+◌, List, [], ◌∷◌, ◌++◌, length, map, drop, reverse, refl, sym, ap, ap₂, ◌∙◌, subst, arith, append_assoc, length-append}
use Rattle.hs_replay_client.proofs.Prelude.{append-nil, reverse-append, length-map, map-append, Draw, Drawn, PoolEvent, queue_after, Pool, IsAfter, draws_behind, event_drawn, length_next, note_drawn, OnlyDraws}
use Rattle.hs_records.specs.declared.journal.Draw.TheVariants as noted
use Rattle.hs_words.specs.declared.token.Drawn.TheVariants as drawn
use Rattle.hs_words.specs.PoolHistory.{Got, Empty}
use Rattle.hs_words.specs.PoolAnswers as answers
use Rattle.hs_pool.specs.Pool.{Extends, Draws, number_of}
use Rattle.hs_client.specs.Draws.{next_draws}

drop_none : (m : ℕ) → drop {A = ℕ} m [] ≡ []
drop_none zero = refl
drop_none (suc m) = refl

next_more : (m n stamp : ℕ) (queue : List ℕ) → next_draws (m + n) stamp queue ≡ next_draws m stamp queue ++ next_draws n (stamp + m) (drop m queue)
next_more zero n stamp queue =
    let count : zero + n ≡ n = omega arith in
    let place : stamp ≡ stamp + zero = omega arith in
    ap (λ k. next_draws k stamp queue) count ∙ ap (λ s. next_draws n s queue) place
next_more (suc m) n stamp [] =
    let count : suc m + n ≡ suc (m + n) = omega arith in
    let place : (stamp + 1) + m ≡ stamp + suc m = omega arith in
    ap (λ k. next_draws k stamp []) count
    ∙ ap (λ (l : List Draw). noted.Empty stamp ∷ l)
    (next_more m n (stamp + 1) [] ∙ ap₂ (λ s (q : List ℕ). next_draws m (stamp + 1) [] ++ next_draws n s q) place (drop_none m))
next_more (suc m) n stamp (buffer ∷ queue) =
    let count : suc m + n ≡ suc (m + n) = omega arith in
    let place : (stamp + 1) + m ≡ stamp + suc m = omega arith in
    ap (λ k. next_draws k stamp (buffer ∷ queue)) count
    ∙ ap (λ (l : List Draw). noted.Got buffer stamp ∷ l) (next_more m n (stamp + 1) queue ∙ ap (λ s. next_draws m (stamp + 1) queue ++ next_draws n s (drop m queue)) place)

-- the queue behind so many draws
queue_behind : (buffers count stamp : ℕ) (history : List PoolEvent) (queue : List ℕ) → queue_after buffers (reverse history) ≡ queue
    → queue_after buffers (reverse (history ++ map event_drawn (next_draws count stamp queue))) ≡ drop count queue
queue_behind buffers zero stamp history queue is = ap (λ (h : List PoolEvent). queue_after buffers (reverse h)) (append-nil history) ∙ is
queue_behind buffers (suc count) stamp history [] is =
    let later = map event_drawn (next_draws count (stamp + 1) []) in
    let now : queue_after buffers (reverse (history ++ Empty ∷ [])) ≡ [] = ap (queue_after buffers) (reverse-append history (Empty ∷ [])) ∙ is in
    ap (λ (h : List PoolEvent). queue_after buffers (reverse h)) (sym (append_assoc history (Empty ∷ []) later)) ∙ queue_behind buffers count (stamp + 1) (history ++ Empty ∷ []) [] now ∙ drop_none count
queue_behind buffers (suc count) stamp history (buffer ∷ queue) is =
    let later = map event_drawn (next_draws count (stamp + 1) queue) in
    let now : queue_after buffers (reverse (history ++ Got buffer ∷ [])) ≡ queue = ap (queue_after buffers) (reverse-append history (Got buffer ∷ [])) ∙ ap (drop 1) is in
    ap (λ (h : List PoolEvent). queue_after buffers (reverse h)) (sym (append_assoc history (Got buffer ∷ []) later)) ∙ queue_behind buffers count (stamp + 1) (history ++ Got buffer ∷ []) queue now

-- ---- draws and nothing else

pub draws_none : (drawn : List Draw) (pool : Pool) → OnlyDraws drawn pool drawn pool
draws_none drawn pool = λ history is.
    (0, record { draws = sym (append-nil drawn); after = subst (λ (h : List PoolEvent). IsAfter h pool) (sym (append-nil history)) is })

pub draws_more : (a b c : List Draw) (pool middle pool' : Pool) → middle.buffers ≡ pool.buffers → OnlyDraws a pool b middle → OnlyDraws b middle c pool' → OnlyDraws a pool c pool'
draws_more a b c pool middle pool' same first second = λ history is.
    let f = first history is in
    let m = f.0 in
    let here = draws_behind pool.buffers history m in
    let history' = history ++ map event_drawn here in
    let g = second history' f.1.after in
    let n = g.0 in
    let queue = queue_after pool.buffers (reverse history) in
    let count : length history' ≡ length history + m =
    length-append history (map event_drawn here) ∙ ap (λ k. length history + k) (length-map here event_drawn ∙ length_next m (length history) queue) in
    let left : queue_after middle.buffers (reverse history') ≡ drop m queue = ap (λ k. queue_after k (reverse history')) same ∙ queue_behind pool.buffers m (length history) history queue refl in
    let there : draws_behind middle.buffers history' n ≡ next_draws n (length history + m) (drop m queue) = ap₂ (next_draws n) count left in
    let joined : here ++ draws_behind middle.buffers history' n ≡ draws_behind pool.buffers history (m + n) = ap (λ (l : List Draw). here ++ l) there ∙ sym (next_more m n (length history) queue) in
    let all : history' ++ map event_drawn (draws_behind middle.buffers history' n) ≡ history ++ map event_drawn (draws_behind pool.buffers history (m + n)) =
    append_assoc history (map event_drawn here) (map event_drawn (draws_behind middle.buffers history' n))
    ∙ ap (λ (l : List PoolEvent). history ++ l) (sym (map-append event_drawn here (draws_behind middle.buffers history' n)) ∙ ap (map event_drawn) joined) in
    let notes : c ≡ a ++ draws_behind pool.buffers history (m + n) =
    g.1.draws ∙ ap (λ (l : List Draw). l ++ draws_behind middle.buffers history' n) f.1.draws ∙ append_assoc a here (draws_behind middle.buffers history' n) ∙ ap (λ (l : List Draw). a ++ l) joined in
    (m + n, record { draws = notes; after = subst (λ (h : List PoolEvent). IsAfter h pool') all g.1.after })

pub draws_one : {g : _} (a : List Draw) (pool pool' : Pool) (d : Drawn (Unit {0}) g) → Draws pool d pool' → answers.stamp_drawn d ≡ pool.events → Extends pool (answers.event_drawn d) pool'
    → OnlyDraws a pool (a ++ note_drawn d ∷ []) pool'
draws_one a pool pool' (drawn.Got held stamp) draws stamp_is extends = λ history is.
    let queue : queue_after pool.buffers (reverse history) ≡ held.chunk.number ∷ map number_of pool'.queue = sym is.queue ∙ ap (map number_of) draws.0 in
    let one : draws_behind pool.buffers history 1 ≡ noted.Got held.chunk.number stamp ∷ [] =
    ap (next_draws 1 (length history)) queue ∙ ap (λ s. noted.Got held.chunk.number s ∷ []) (sym is.events ∙ sym stamp_is) in
    (1, record { draws = ap (λ (l : List Draw). a ++ l) (sym one); after = subst (λ (l : List Draw). IsAfter (history ++ map event_drawn l) pool') (sym one) (extends history is) })
draws_one a pool pool' (drawn.Empty stamp) draws stamp_is extends = λ history is.
    let queue : queue_after pool.buffers (reverse history) ≡ [] = sym is.queue ∙ ap (map number_of) draws.0 in
    let one : draws_behind pool.buffers history 1 ≡ noted.Empty stamp ∷ [] = ap (next_draws 1 (length history)) queue ∙ ap (λ s. noted.Empty s ∷ []) (sym is.events ∙ sym stamp_is) in
    (1, record { draws = ap (λ (l : List Draw). a ++ l) (sym one); after = subst (λ (l : List Draw). IsAfter (history ++ map event_drawn l) pool') (sym one) (extends history is) })
