-- How many operations a made workload has: no request has more than 23, and each point is one piece on pages of 256 bytes.
use Rattle.std.proofs.Common.{◌≡◌, ℕ, zero, suc, ◌+◌, ◌-◌, ◌*◌, ◌%◌, ◌<◌, ◌≤◌, ◌==◌, nat_lt, nat_le, inl, inr, true, false, cond, List, [], ◌∷◌, ◌++◌, length, get_or, arith, refl, ap, sym, ◌∙◌, subst, add_assoc, zero-add, lit≤, add-one}
use Rattle.std.proofs.lemmas.List.{get_or_past}
use Rattle.std.proofs.lemmas.Bool.{cases_lt}
use Rattle.std.proofs.lemmas.Bool.Decides.{leb_tells}
use Rattle.hs_base.specs.declared.ids.TraceId.{TraceId}
use Rattle.hs_records.specs.Plain.{Operation, Begin, Point, Crumb, End, Sample}
use Rattle.hs_records.specs.Records.{count_cuts}
use Rattle.hs_records.specs.Validity.{operation_pieces, client_pieces, workload_pieces}
use Rattle.hs_make.specs.Words.{Words, each_below}
use Rattle.hs_make.specs.Made.{payload_at, point_count, behind_points, first_points, points_at, samples_at, visit_at, depth_at, behind_visits, request_at, behind_requests, left_to, client_at, clients_at}
use Rattle.hs_make.proofs.Sequences.{each_below-suc, length-each_below, get_or-each_below}
use Rattle.hs_make.proofs.Clients.{client_at-more}
use Rattle.hs_make.proofs.Kept.{payload_is_short}

-- the operations of a client, on pages of 256 bytes
abbrev pub count_of : List Operation → ℕ
count_of operations = client_pieces 256 operations

count-append : (xs ys : List Operation) → count_of (xs ++ ys) ≡ count_of xs + count_of ys
count-append [] ys = sym (zero-add (count_of ys))
count-append (x ∷ xs) ys = ap (λ n. operation_pieces 256 x + n) (count-append xs ys) ∙ sym (add_assoc (operation_pieces 256 x) (count_of xs) (count_of ys))

-- what fits a page is not cut
uncut : (n : ℕ) → n ≤ 222 → count_cuts n 222 n ≡ 0
uncut zero h = refl
uncut (suc n) h =
    let fits : nat_le (suc n) 222 ≡ true = elim (leb_tells (suc n) 222) [ inl p ↦ p.0 | inr p ↦ absurd (omega (arith, p.1)) ] in
    ap (λ b. elim b as (λ _. ℕ) [ true ↦ 0 | false ↦ count_cuts n 222 (suc n - 222) + 1 ]) fits

count-points : (n moment : ℕ) (words : Words) → count_of (first_points n moment words) ≡ n
unfolding each_below
count-points zero moment words = refl
count-points (suc n) moment words =
    let point : ℕ → Operation = λ i. Point (moment + i) (payload_at (behind_points i words)) in
    let short = payload_is_short (behind_points n words) in
    let one : count_of (point n ∷ []) ≡ 1 = ap (λ k. k + 1 + 0) (uncut (length (payload_at (behind_points n words))) (omega (arith, short))) in
    let front : count_of (each_below n point) ≡ n = count-points n moment words in
    ap count_of (each_below-suc n point) ∙ (count-append (each_below n point) (point n ∷ []) ∙ omega (arith, one, front))

-- a visit: its begin, at most four points, a crumb, and its end; and two samples at node 0
count-visit : (request : ℕ) (trace : TraceId) (depth node : ℕ) (words : Words) → count_of (visit_at request trace depth node words) ≤ 7 + cond (node == 0) 2 0
count-visit request trace depth node words =
    let behind : Words = behind_points (point_count words) words in
    let moment : ℕ = 1000 * request + 10 * node in
    let crumb : List Operation = cond (nat_lt (node + 1) depth) (Crumb (record { 0 = node + 1 }) ∷ []) [] in
    let samples : List Operation = cond (node == 0) (samples_at request behind) [] in
    let of_points : count_of (points_at moment words) ≡ point_count words = count-points (point_count words) moment words in
    let of_crumb : count_of crumb ≤ 1 =
    elim (nat_lt (node + 1) depth) as (λ b. count_of (cond b (Crumb (record { 0 = node + 1 }) ∷ []) []) ≤ 1) [ true ↦ lit≤ tt | false ↦ lit≤ tt ] in
    let of_failure : count_of (cond (behind 1 % 50 == 0) (Sample (1000 * request + 501) 0 1 ∷ []) []) ≤ 1 =
    elim (behind 1 % 50 == 0) as (λ b. count_of (cond b (Sample (1000 * request + 501) 0 1 ∷ []) []) ≤ 1) [ true ↦ lit≤ tt | false ↦ lit≤ tt ] in
    let of_samples : count_of samples ≤ cond (node == 0) 2 0 =
    elim (node == 0) as (λ b. count_of (cond b (samples_at request behind) []) ≤ cond b 2 0) [ true ↦ omega (arith, of_failure) | false ↦ lit≤ tt ] in
    let whole : count_of (visit_at request trace depth node words) ≡ (1 + count_of (points_at moment words)) + ((count_of crumb + count_of samples) + 1) =
    count-append (Begin trace ∷ points_at moment words) ((crumb ++ samples) ++ End ∷ [])
    ∙ ap (λ n. 1 + count_of (points_at moment words) + n) (count-append (crumb ++ samples) (End ∷ []) ∙ ap (λ n. n + 1) (count-append crumb samples)) in
    omega (arith, whole, of_points, of_crumb, of_samples)

-- what a request leaves at a node
count-at : (number : ℕ) (words : Words) (node : ℕ) → count_of (get_or (request_at number words).visits node []) ≤ 7 + cond (node == 0) 2 0
count-at number words node =
    let visit : ℕ → List Operation = λ node. visit_at number (record { 0 = words 0 }) (depth_at words) node (behind_visits node words) in
    let len : length (each_below (depth_at words) visit) ≡ depth_at words = length-each_below (depth_at words) visit in
    elim (cases_lt node (depth_at words)) [
      | inl h ↦ subst (λ xs. count_of xs ≤ 7 + cond (node == 0) 2 0) (sym (get_or-each_below (depth_at words) visit node [] h))
          (count-visit number (record { 0 = words 0 }) (depth_at words) node (behind_visits node words))
      | inr h ↦ subst (λ xs. count_of xs ≤ 7 + cond (node == 0) 2 0) (sym (get_or_past (each_below (depth_at words) visit) node [] (omega (arith, len)))) (omega arith)
    ]

-- what a request leaves at three nodes: of the four clients of a node only its own is left something
count-request : (client : ℕ) (visits : List (List Operation)) → client < 4
    → workload_pieces 256 (each_below 12 (λ place. left_to place (record { client = client; visits = visits })))
    ≡ count_of (get_or visits 0 []) + count_of (get_or visits 1 []) + count_of (get_or visits 2 [])
unfolding each_below
count-request zero visits few = omega arith
count-request (suc zero) visits few = omega arith
count-request (suc (suc zero)) visits few = omega arith
count-request (suc (suc (suc zero))) visits few = omega arith
count-request (suc (suc (suc (suc n)))) visits few = absurd (omega arith)

workload-append : (xs ys : List (List Operation)) → workload_pieces 256 (xs ++ ys) ≡ workload_pieces 256 xs + workload_pieces 256 ys
workload-append [] ys = sym (zero-add (workload_pieces 256 ys))
workload-append (x ∷ xs) ys = ap (λ n. count_of x + n) (workload-append xs ys) ∙ sym (add_assoc (count_of x) (workload_pieces 256 xs) (workload_pieces 256 ys))

count-last : (n : ℕ) (item : ℕ → List Operation) → workload_pieces 256 (each_below (suc n) item) ≡ workload_pieces 256 (each_below n item) + count_of (item n)
count-last n item =
    let split = workload-append (each_below n item) (item n ∷ []) in ap (workload_pieces 256) (each_below-suc n item) ∙ (split ∙ omega arith)

count-more : (n : ℕ) (before left : ℕ → List Operation)
    → workload_pieces 256 (each_below n (λ place. before place ++ left place)) ≡ workload_pieces 256 (each_below n before) + workload_pieces 256 (each_below n left)
unfolding each_below
count-more zero before left = refl
count-more (suc n) before left =
    let both = count-last n (λ place. before place ++ left place) in
    let one = count-last n before in
    let other = count-last n left in
    let here = count-append (before n) (left n) in
    let front = count-more n before left in
    omega (arith, both, one, other, here, front)

pub few_operations : (size : ℕ) (words : Words) → workload_pieces 256 (clients_at size words) ≤ 23 * size
unfolding each_below
few_operations zero words = lit≤ tt
few_operations (suc n) words =
    let now : Words = behind_requests n words in
    let left : ℕ → List Operation = λ place. left_to place (request_at n now) in
    let grown : (place : ℕ) → client_at (suc n) words place ≡ client_at n words place ++ left place =
    λ place. ap (λ m. client_at m words place) (sym (add-one n)) ∙ client_at-more n words place in
    let split : workload_pieces 256 (clients_at (suc n) words) ≡ workload_pieces 256 (clients_at n words) + workload_pieces 256 (each_below 12 left) =
    ap (λ (of : ℕ → List Operation). workload_pieces 256 (each_below 12 of)) (λ i. λ place. grown place i) ∙ count-more 12 (client_at n words) left in
    let more = count-request (now 1 % 4) (request_at n now).visits (omega arith) in
    let at_first = count-at n now 0 in
    let at_second = count-at n now 1 in
    let at_third = count-at n now 2 in
    let before = few_operations n words in
    omega (arith, split, more, at_first, at_second, at_third, before)
