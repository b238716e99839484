-- Counts behind each pass of a log, pass by pass and step by step.
use Rattle.std.proofs.Common.{◌≡◌, ℕ, zero, suc, ◌+◌, ◌-◌, ◌*◌, ◌<◌, ◌≤◌, Bool, true, false, cond, ltb, leb, min, List, [], ◌∷◌, ◌++◌, length, map, take, get_or, refl, sym, ap, ◌∙◌, arith}
use Rattle.hs_check.proofs.Prelude.{count_by, ◌&&◌, flat_map, range_with_len, list_all, get_or-map-range_with_len, length-map-range_with_len, count_map, one_if, count_cons, MAX_TAKEN, Step, PlainSettings, ClientSends, Chunks, Crumbs, Triggers, takes, client_in_pace, passes_of, put_step, ends_between, one_more, behind_each, FoundClient, IsFoundClient, sent_in, enough_at, all_enough, numbers_in_pace}
use Rattle.std.proofs.lemmas.List.Sums.{length-filter}
use Rattle.hs_client.specs.Sending.{Sent, sent_within}
use Rattle.hs_law_journal.specs.Following.{Queue}
use Rattle.hs_law_journal.specs.Pace.{takes_enough, queue_in_pace}
use Rattle.hs_check.specs.Counting.{count_in}
use Rattle.hs_check_follow.specs.Finding.{numbers_of}
use Rattle.hs_check.proofs.Tallied.{sent_by}
use Rattle.hs_check_follow.proofs.PassFronts.{begins}

pub more_is : (b : Bool) (count : ℕ) → one_more b count ≡ count + one_if b
more_is true count = refl
more_is false count = omega arith

module _ (test : Step → Bool) where
  -- the counts of the same passes, moved
  shifted : (f g : ℕ → ℕ) (a b m : ℕ) → ((k : ℕ) → f (a + k) ≡ g (b + k)) → map f (range_with_len a m) ≡ map g (range_with_len b m)
  shifted f g a b zero same = refl
  shifted f g a b (suc m) same =
      let first : f a ≡ g b = ap f (omega arith) ∙ same 0 ∙ ap g (omega arith) in
      let rest = shifted f g (a + 1) (b + 1) m (λ k. ap f (omega arith) ∙ same (suc k) ∙ ap g (omega arith)) in
      ap (λ x. x ∷ map f (range_with_len (a + 1) m)) first ∙ ap (λ (l : List ℕ). g b ∷ l) rest

  one_pass : (step : Step) (passes : List (List Step)) (k : ℕ) → count_in test ((step ∷ []) ∷ passes) (suc k) ≡ one_if (test step) + count_in test passes k
  one_pass step passes k = count_cons test step (flat_map (λ pass. pass) (take k passes))

  longer_pass : (step : Step) (pass : List Step) (passes : List (List Step)) (k : ℕ) → count_in test ((step ∷ pass) ∷ passes) (suc k) ≡ one_if (test step) + count_in test (pass ∷ passes) (suc k)
  longer_pass step pass passes k = count_cons test step (pass ++ flat_map (λ p. p) (take k passes))

  pub counts_are : (count : ℕ) (log : List Step) → behind_each test count log ≡ map (λ k. count + count_in test (passes_of log) k) (range_with_len 1 (length (passes_of log)))
  counts_are count [] = refl
  counts_are count (step ∷ []) =
      let e : one_more (test step) count ≡ count + count_in test ((step ∷ []) ∷ []) 1 =
      (let a = more_is (test step) count in let b = count_cons test step [] in omega (arith, a, b)) in
      ap (λ n. n ∷ []) e
  counts_are count (step ∷ next ∷ log) =
      let h = begins next log in
      let c = one_more (test step) count in
      at (ends_between step next) h.pass h.later h.is (counts_are c (next ∷ log))
      ∙ sym (ap (λ (l : List (List Step)). map (λ k. count + count_in test (put_step step l) k) (range_with_len 1 (length (put_step step l)))) h.is)
    where
      at : (b : Bool) (pass : List Step) (later : List (List Step)) → passes_of (next ∷ log) ≡ (next ∷ pass) ∷ later
          → behind_each test (one_more (test step) count) (next ∷ log) ≡ map (λ k. one_more (test step) count + count_in test (passes_of (next ∷ log)) k) (range_with_len 1 (length (passes_of (next ∷ log))))
          → cond b (one_more (test step) count ∷ behind_each test (one_more (test step) count) (next ∷ log)) (behind_each test (one_more (test step) count) (next ∷ log))
          ≡ map (λ k. count + count_in test (cond b ((step ∷ []) ∷ (next ∷ pass) ∷ later) ((step ∷ next ∷ pass) ∷ later)) k) (range_with_len 1 (length (cond b ((step ∷ []) ∷ (next ∷ pass) ∷ later) ((step ∷ next ∷ pass) ∷ later))))
      at true pass later is rest =
          let ps : List (List Step) = (next ∷ pass) ∷ later in
          let c = one_more (test step) count in
          let more = more_is (test step) count in
          let first : c ≡ count + count_in test ((step ∷ []) ∷ ps) 1 = (let a = one_pass step ps 0 in omega (arith, more, a)) in
          ap (λ n. n ∷ behind_each test c (next ∷ log)) first
          ∙ ap (λ (l : List ℕ). (count + count_in test ((step ∷ []) ∷ ps) 1) ∷ l)
          (rest ∙ ap (λ (l : List (List Step)). map (λ k. c + count_in test l k) (range_with_len 1 (length l))) is
          ∙ shifted (λ k. c + count_in test ps k) (λ k. count + count_in test ((step ∷ []) ∷ ps) k) 1 2 (length ps)
          (λ k. let two : 2 + k ≡ suc (1 + k) = omega arith in let a = one_pass step ps (1 + k) in let e = ap (count_in test ((step ∷ []) ∷ ps)) two in omega (arith, more, a, e)))
      at false pass later is rest =
          let ps : List (List Step) = (next ∷ pass) ∷ later in
          let c = one_more (test step) count in
          let more = more_is (test step) count in
          rest ∙ ap (λ (l : List (List Step)). map (λ k. c + count_in test l k) (range_with_len 1 (length l))) is
          ∙ shifted (λ k. c + count_in test ps k) (λ k. count + count_in test ((step ∷ next ∷ pass) ∷ later) k) 1 1 (length ps)
          (λ k. let one : 1 + k ≡ suc k = omega arith in let a = longer_pass step (next ∷ pass) later k in let e = ap (count_in test ((step ∷ next ∷ pass) ∷ later)) one in let f = ap (count_in test ps) one in omega (arith, more, a, e, f))

-- counts from before the first pass
pub counts_at : (test : Step → Bool) (log : List Step) (k : ℕ) → k ≤ length (passes_of log) → get_or (0 ∷ behind_each test 0 log) k 0 ≡ count_in test (passes_of log) k
counts_at test log zero few = refl
counts_at test log (suc k) few =
    ap (λ (l : List ℕ). get_or l k 0) (counts_are test 0 log)
    ∙ get_or-map-range_with_len (λ j. 0 + count_in test (passes_of log) j) 1 (length (passes_of log)) k (suc k) 0 (omega arith) (omega arith)
    ∙ omega arith

pub counts_many : (test : Step → Bool) (log : List Step) → length (0 ∷ behind_each test 0 log) ≡ length (passes_of log) + 1
counts_many test log =
    let e = ap length (counts_are test 0 log) in
    let m = length-map-range_with_len (λ j. 0 + count_in test (passes_of log) j) 1 (length (passes_of log)) in
    omega (arith, e, m)

-- ---- queues at their pace

pub all_congr : (f g : ℕ → Bool) (a m : ℕ) → ((k : ℕ) → a ≤ k → k < a + m → f k ≡ g k) → list_all f (range_with_len a m) ≡ list_all g (range_with_len a m)
all_congr f g a zero same = refl
all_congr f g a (suc m) same =
    ap (λ b. b && list_all f (range_with_len (a + 1) m)) (same a (omega arith) (omega arith))
    ∙ ap (λ b. g a && b) (all_congr f g (a + 1) m (λ k low high. same k (omega arith) (omega arith)))

-- what was counted says whether the passes keep pace
pub counted_pace : (test : Step → Bool) (stride : ℕ) (log : List Step) (numbers sent : List ℕ) → 0 < stride → length sent ≡ length (0 ∷ behind_each test 0 log)
    → ((round : ℕ) → round < length sent → get_or sent round 0 ≡ sent_in stride numbers round)
    → all_enough (0 ∷ behind_each test 0 log) sent ≡ numbers_in_pace test stride (passes_of log) numbers
counted_pace test stride log numbers sent some many each =
    let taken : List ℕ = 0 ∷ behind_each test 0 log in
    let passes = passes_of log in
    let count = counts_many test log in
    let inner : length taken - 2 ≡ length passes - 1 = omega (arith, count) in
    ap (λ n. list_all (enough_at taken sent) (range_with_len 1 n)) inner
    ∙ all_congr (enough_at taken sent) (λ k. leb (min (count_by (λ n. ltb n (k * stride)) numbers) (count_in test passes (k - 1) + MAX_TAKEN)) (count_in test passes (k + 1))) 1 (length passes - 1)
    (λ k low high.
    ap (λ n. leb (min n (get_or taken (k - 1) 0 + MAX_TAKEN)) (get_or taken (k + 1) 0)) (sent_by stride numbers sent some each k (omega (arith, many, count)))
    ∙ ap (λ n. leb (min (count_by (λ v. ltb v (k * stride)) numbers) (n + MAX_TAKEN)) (get_or taken (k + 1) 0)) (counts_at test log (k - 1) (omega arith))
    ∙ ap (λ n. leb (min (count_by (λ v. ltb v (k * stride)) numbers) (count_in test passes (k - 1) + MAX_TAKEN)) n) (counts_at test log (k + 1) (omega arith)))

sent_counted : {A : Type 0} (n : ℕ) (items : List (Sent A)) → length (sent_within n items) ≡ count_by (λ v. ltb v n) (numbers_of items)
sent_counted n items = length-filter (λ item. ltb item.number n) items ∙ sym (count_map (λ v. ltb v n) (λ item. item.number) items)

-- the pace of a queue is that of the operations that send its items
pub queue_pace : {A : Type 0} (settings : PlainSettings) (stride : ℕ) (passes : List (List Step)) (queue : Queue) (items : List (Sent A)) (numbers : List ℕ) → settings.stride ≡ stride → numbers ≡ numbers_of items
    → numbers_in_pace (takes queue) stride passes numbers ≡ queue_in_pace settings passes queue items
queue_pace settings stride passes queue items numbers same are =
    ap (λ (l : List ℕ). numbers_in_pace (takes queue) stride passes l) are
    ∙ ap (λ s. numbers_in_pace (takes queue) s passes (numbers_of items)) (sym same)
    ∙ all_congr (λ k. leb (min (count_by (λ n. ltb n (k * settings.stride)) (numbers_of items)) (count_in (takes queue) passes (k - 1) + MAX_TAKEN)) (count_in (takes queue) passes (k + 1)))
    (λ k. takes_enough passes queue (length (sent_within (k * settings.stride) items)) k) 1 (length passes - 1)
    (λ k low high. ap (λ n. leb (min n (count_in (takes queue) passes (k - 1) + MAX_TAKEN)) (count_in (takes queue) passes (k + 1))) (sym (sent_counted (k * settings.stride) items)))

pub client_pace : (settings : PlainSettings) (stride client : ℕ) (log : List Step) (sends : ClientSends) (found : FoundClient) → settings.stride ≡ stride → IsFoundClient sends found
    → (numbers_in_pace (takes (Chunks client)) stride (passes_of log) found.chunks.items && numbers_in_pace (takes (Crumbs client)) stride (passes_of log) found.crumbs.items
    && numbers_in_pace (takes (Triggers client)) stride (passes_of log) found.triggers.items) ≡ client_in_pace settings (passes_of log) client sends
client_pace settings stride client log sends found same is =
    ap (λ b. b && numbers_in_pace (takes (Crumbs client)) stride (passes_of log) found.crumbs.items && numbers_in_pace (takes (Triggers client)) stride (passes_of log) found.triggers.items)
    (queue_pace settings stride (passes_of log) (Chunks client) sends.chunks found.chunks.items same is.chunks)
    ∙ ap (λ b. queue_in_pace settings (passes_of log) (Chunks client) sends.chunks && b && numbers_in_pace (takes (Triggers client)) stride (passes_of log) found.triggers.items)
    (queue_pace settings stride (passes_of log) (Crumbs client) sends.crumbs found.crumbs.items same is.crumbs)
    ∙ ap (λ b. queue_in_pace settings (passes_of log) (Chunks client) sends.chunks && queue_in_pace settings (passes_of log) (Crumbs client) sends.crumbs && b)
    (queue_pace settings stride (passes_of log) (Triggers client) sends.triggers found.triggers.items same is.triggers)
