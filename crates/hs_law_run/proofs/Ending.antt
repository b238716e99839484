-- The rounds end where every client is through, and the closing where nothing waits any more.
use Rattle.std.proofs.Common.{◌≡◌, ◌⊎◌, inl, inr, ℕ, zero, suc, ◌+◌, ◌*◌, ◌<◌, ◌≤◌, ◌^◌, min, max, Bool, true, false, List, [], ◌∷◌, length, fold, refl, sym, ap, subst, ◌∙◌, arith, map, slice_get, unwrap_or}
use Rattle.hs_law_run.proofs.Prelude.{mul-le-mul_right, MAX_OPERATIONS, pages_of, Operation, PlainWorkload, operations_at, is_bare, rounds_for, rounds_of, played, IsValid, IsLaidOut, ValidWorkloadsRun, ScheduleIsBare, Known, Machine, machine_start, done_at, round, rounds, closing, closing_limit, all_few}
use Rattle.std.proofs.Math.Nat.{mul-le-mul_left}
use Rattle.std.specs.List.{sum_by}
use Rattle.hs_law_journal.proofs.Logs.{rounds_few}
use Rattle.hs_records.specs.declared.setting.Setting.TheVariants as settings
use Rattle.hs_law_run.specs.Ending.{HasRounds, RoundsEnd, behind_rounds, passed, ClosingEnds}
use Rattle.hs_law_journal.specs.Known.{PiecesCounted}
use Rattle.hs_law_run.proofs.Shapes.{begins, rounds_go, all_covered}
use Rattle.hs_law_journal.proofs.Sizes.{client_few}

-- ---- rounds

pub rounds_last : (W : PlainWorkload) (n : ℕ) (m : Machine) → rounds n W (round W m) ≡ round W (rounds n W m)
rounds_last W zero m = refl
rounds_last W (suc n) m = rounds_last W n (round W m)

max_few : (f : List Operation → ℕ) (clients : List (List Operation)) (from n : ℕ) → from ≤ n → ((place : ℕ) → place < length clients → f (unwrap_or (slice_get clients place) []) ≤ n) → fold max from (map f clients) ≤ n
max_few f [] from n low each = low
max_few f (ops ∷ clients) from n low each =
    let here = each 0 (omega arith) in max_few f clients (max from (f ops)) n (omega (arith, low, here)) (λ place below. each (suc place) (omega (arith, below)))

-- a round does one operation of the longest client at least
rounds_small : PiecesCounted → (W : PlainWorkload) → IsLaidOut W → IsValid W → rounds_of W ≤ MAX_OPERATIONS
rounds_small counted W laid valid =
    max_few (λ ops. rounds_for W.settings.stride (length ops)) W.clients 0 MAX_OPERATIONS (omega arith)
    (λ place low.
    let few = client_few counted W.settings.size W.clients place in
    let most = valid.few in
    let stride = laid.stride in
    let product = mul-le-mul_left MAX_OPERATIONS stride in
    rounds_few W.settings.stride (length (operations_at W place)) MAX_OPERATIONS stride (omega (arith, few, most, product)))

-- ---- so many rounds

module _ (k : Known) (W : PlainWorkload) (laid : IsLaidOut W) (small : rounds_of W ≤ MAX_OPERATIONS) (n : ℕ) where
  done_is : (place : ℕ) → place < length W.clients → done_at (rounds n W (machine_start W)) place ≡ min ((0 + n) * W.settings.stride) (length (operations_at W place))
  done_is place low = (rounds_go k W laid n 0 (machine_start W) (begins k W laid)).done place low

  same_product : (0 + n) * W.settings.stride ≡ n * W.settings.stride
  same_product = let e : 0 + n ≡ n = omega arith in ap (λ (k : ℕ). k * W.settings.stride) e

  has_rounds : HasRounds W n
  has_rounds =
      record {
        more = let e : n + 1 ≡ suc n = omega arith in ap (λ (k : ℕ). rounds k W (machine_start W)) e ∙ rounds_last W n (machine_start W);
        before = λ all.
            max_few (λ ops. rounds_for W.settings.stride (length ops)) W.clients 0 n (omega arith)
            (λ place low.
            let is = done_is place low in
            let whole = all place low in
            let same = same_product in
            rounds_few W.settings.stride (length (operations_at W place)) n laid.stride (omega (arith, is, whole, same)));
        behind = λ enough place low.
            let is = done_is place low in
            let same = same_product in
            let cover = all_covered k W laid place low in
            let more = mul-le-mul_right W.settings.stride enough in
            omega (arith, is, same, cover, more);
        few = omega (arith, small);
      }

pub rounds_end : Known → ValidWorkloadsRun → RoundsEnd
rounds_end k run W valid n = has_rounds k W (run W valid).laid (rounds_small k.counted W (run W valid).laid valid) n

-- ---- closing

module _ (W : PlainWorkload) (start : Machine) where
  abbrev bare_at : ℕ → Bool
  bare_at n = is_bare (played W (passed n W start).journal)

  pub record Closes (limit : ℕ) (m : Machine) : Type 0 where
    pub count : ℕ
    pub waits : (n : ℕ) → n < count → bare_at n ≡ false
    pub most : count ≤ limit
    pub is : m ≡ passed count W start

  wait_more : (j : ℕ) → ((n : ℕ) → n < j → bare_at n ≡ false) → bare_at j ≡ false → (n : ℕ) → n < suc j → bare_at n ≡ false
  wait_more j waits here n low = either (same_or n j low)
    where
      same_or : (i n : ℕ) → i < suc n → (i ≡ n) ⊎ (i < n)
      same_or zero zero low = inl refl
      same_or zero (suc n) low = inr (omega arith)
      same_or (suc i) zero low = absurd (omega (arith, low))
      same_or (suc i) (suc n) low = elim (same_or i n (omega (arith, low))) as (λ _. (suc i ≡ suc n) ⊎ (suc i < suc n)) [ inl e ↦ inl (ap suc e) | inr l ↦ inr (omega (arith, l)) ]

      either : (n ≡ j) ⊎ (n < j) → bare_at n ≡ false
      either (inl e) = subst (λ (k : ℕ). bare_at k ≡ false) (sym e) here
      either (inr l) = waits n l

  close_case : (limit fuel j : ℕ) (b : Bool) → bare_at j ≡ b → j ≤ limit → ((n : ℕ) → n < j → bare_at n ≡ false) → (bare_at j ≡ false → Closes limit (closing fuel W (passed (suc j) W start)))
      → Closes limit (elim b as (λ _. Machine) [ true ↦ passed j W start | false ↦ closing fuel W (passed (suc j) W start) ])
  close_case limit fuel j true e low waits on = record { count = j; waits = waits; most = low; is = refl }
  close_case limit fuel j false e low waits on = on e

  pub closes : (limit fuel j : ℕ) → j + fuel ≤ limit → ((n : ℕ) → n < j → bare_at n ≡ false) → Closes limit (closing fuel W (passed j W start))
  closes limit zero j low waits = record { count = j; waits = waits; most = omega (arith, low); is = refl }
  closes limit (suc fuel) j low waits = close_case limit fuel j (bare_at j) refl (omega (arith, low)) waits (λ here. closes limit fuel (suc j) (omega (arith, low)) (wait_more j waits here))

-- the most passes are few
limit_small : PiecesCounted → (W : PlainWorkload) → IsLaidOut W → IsValid W → closing_limit W < 2 ^ 32
limit_small counted W laid valid =
    let all = sum_by (λ ops. length (pages_of W.settings.size ops) + length ops) W.clients in
    let few = all_few counted W.settings.size W.clients laid.ends in
    let most = valid.few in
    let nodes = (valid.head settings.Nodes).1 in
    let product = mul-le-mul_right all nodes in
    omega (arith, few, most, product)

pub closing_ends : ScheduleIsBare → PiecesCounted → ValidWorkloadsRun → ClosingEnds
closing_ends bare counted run W valid =
    let c = closes W (behind_rounds W) (closing_limit W) (closing_limit W) 0 (omega arith) (λ n low. absurd (omega (arith, low))) in
    record {
      count = c.count;
      waits = c.waits;
      ends = subst (λ (m : Machine). is_bare (played W m.journal) ≡ true) c.is (bare W (run W valid));
      is = ap (λ (m : Machine). m.journal) c.is;
      most = c.most;
      few = limit_small counted W (run W valid).laid valid;
    }
