-- How the clients grow: by what a request leaves them at one node, and by a whole request.
use Rattle.std.proofs.Common.{◌≡◌, ◌≢◌, ℕ, ◌+◌, ◌*◌, ◌/◌, ◌%◌, ◌<◌, ◌==◌, inl, inr, true, false, cond, List, [], ◌∷◌, ◌++◌, length, get_or, set, map, arith, refl, ap, sym, ◌∙◌, get_or-set_same, get_or-set_other}
use Rattle.std.proofs.lemmas.List.{length-set, append-nil, get_or_past, map-set, get_or-map}
use Rattle.std.proofs.lemmas.Bool.{cases_lt}
use Rattle.std.proofs.lemmas.Bool.Decides.{eqb_tells}
use Rattle.std.proofs.lemmas.Grind.{flat_map-append}
use Rattle.std.specs.List.{flat_map}
use Rattle.hs_records.specs.Plain.{Operation}
use Rattle.hs_make.specs.Words.{Words, each_below}
use Rattle.hs_make.specs.Made.{visit_at, depth_at, behind_visits, Request, left_to, requests_at, request_until, request_at, behind_request, behind_requests, client_at, clients_at, Adds}
use Rattle.hs_base.specs.Listing.{Listing}
use Rattle.hs_records.specs.declared.operation.Op.{Op}
use Rattle.hs_records.specs.Views.{operations_of}
use Rattle.hs_make.proofs.Sequences.{each_below-more, behind_parts-more, length-each_below, get_or-each_below, is_each_below}

-- a list of one item for each number, with another in one place
pub set-each_below : {A : Type 0} (n place : ℕ) (before after : ℕ → A) (x : A) → place < n → x ≡ after place → ((k : ℕ) → k < n → k ≢ place → before k ≡ after k)
    → set (each_below n before) place x ≡ each_below n after
set-each_below n place before after x within here elsewhere =
    let len : length (each_below n before) ≡ n = length-each_below n before in
    let lies : place < length (each_below n before) = omega (arith, len) in
    let at : (k : ℕ) → k < n → get_or (set (each_below n before) place x) k x ≡ after k =
    λ k h. elim (eqb_tells k place) [
      | inl p ↦ ap (λ j. get_or (set (each_below n before) place x) j x) p.1 ∙ (get_or-set_same (each_below n before) place x x lies ∙ (here ∙ ap after (sym p.1)))
      | inr p ↦ get_or-set_other (each_below n before) place k x x p.1 ∙ (get_or-each_below n before k x h ∙ elsewhere k h p.1)
    ] in
    is_each_below after (set (each_below n before) place x) n x (length-set (each_below n before) place x ∙ len) at

-- one node more is visited, and no other visit changes
other_visits : (visit : ℕ → List Operation) (node k : ℕ) → k ≢ node → get_or (each_below node visit) k [] ≡ get_or (each_below (node + 1) visit) k []
other_visits visit node k other =
    let len : length (each_below node visit) ≡ node = length-each_below node visit in
    let len_more : length (each_below (node + 1) visit) ≡ node + 1 = length-each_below (node + 1) visit in
    elim (cases_lt k node) [
      | inl h ↦ get_or-each_below node visit k [] h ∙ sym (get_or-each_below (node + 1) visit k [] (omega arith))
      | inr h ↦ get_or_past (each_below node visit) k [] (omega (arith, len)) ∙ sym (get_or_past (each_below (node + 1) visit) k [] (omega (arith, len_more)))
    ]

-- a request of this client, as far as it has come
abbrev pub so_far : ℕ → (ℕ → List Operation) → ℕ → Request
so_far client visit node = record { client = client; visits = each_below node visit }

-- at no node yet
pub left_at_first : (client : ℕ) (visit : ℕ → List Operation) (place : ℕ) → left_to place (so_far client visit 0) ≡ []
unfolding each_below
left_at_first client visit place =
    elim (client == place % 4) as (λ b. cond b (get_or (so_far client visit 0).visits (place / 4) []) [] ≡ []) [ true ↦ refl | false ↦ refl ]

left_here : (client node : ℕ) (visit : ℕ → List Operation) (place : ℕ) → place / 4 ≡ node → place % 4 ≡ client
    → (left_to place (so_far client visit node) ≡ []) × (left_to place (so_far client visit (node + 1)) ≡ visit node)
left_here client node visit place at_node of_client =
    let is : (client == place % 4) ≡ true = elim (eqb_tells client (place % 4)) [ inl p ↦ p.0 | inr p ↦ absurd (p.1 (sym of_client)) ] in
    let len : length (each_below node visit) ≡ node = length-each_below node visit in (
      ap (λ b. cond b (get_or (each_below node visit) (place / 4) []) []) is ∙ get_or_past (each_below node visit) (place / 4) [] (omega (arith, len)),
      ap (λ b. cond b (get_or (each_below (node + 1) visit) (place / 4) []) []) is
          ∙ (ap (λ k. get_or (each_below (node + 1) visit) k []) at_node ∙ get_or-each_below (node + 1) visit node [] (omega arith)),
    )

left_elsewhere : (client node : ℕ) (visit : ℕ → List Operation) (place : ℕ) → place ≢ 4 * node + client
    → left_to place (so_far client visit node) ≡ left_to place (so_far client visit (node + 1))
left_elsewhere client node visit place other =
    elim (eqb_tells client (place % 4)) [
      | inl p ↦
          let away : place / 4 ≢ node = λ h. other (omega (arith, p.1, h)) in
          ap (λ b. cond b (get_or (each_below node visit) (place / 4) []) []) p.0
          ∙ (other_visits visit node (place / 4) away ∙ sym (ap (λ b. cond b (get_or (each_below (node + 1) visit) (place / 4) []) []) p.0))
      | inr p ↦
          ap (λ b. cond b (get_or (each_below node visit) (place / 4) []) []) p.0
          ∙ sym (ap (λ b. cond b (get_or (each_below (node + 1) visit) (place / 4) []) []) p.0)
    ]

-- The clients with what a request left them at its first nodes, and then at one node more.
pub left_at_a_node : (before : ℕ → List Operation) (client node : ℕ) (visit : ℕ → List Operation) (clients : List (List Operation)) (d : List Operation) → client < 4 → node < 3
    → clients ≡ each_below 12 (λ place. before place ++ left_to place (so_far client visit node))
    → set clients (4 * node + client) (get_or clients (4 * node + client) d ++ visit node)
    ≡ each_below 12 (λ place. before place ++ left_to place (so_far client visit (node + 1)))
left_at_a_node before client node visit clients d few shallow are =
    let place : ℕ = 4 * node + client in
    let within : place < 12 = omega arith in
    let here = left_here client node visit place (omega arith) (omega arith) in
    let was : get_or clients place d ≡ before place =
    ap (λ xs. get_or xs place d) are
    ∙ (get_or-each_below 12 (λ place. before place ++ left_to place (so_far client visit node)) place d within ∙ (ap (λ xs. before place ++ xs) here.0 ∙ append-nil (before place))) in
    ap (λ xs. set xs place (get_or clients place d ++ visit node)) are
    ∙ set-each_below 12 place (λ place. before place ++ left_to place (so_far client visit node)) (λ place. before place ++ left_to place (so_far client visit (node + 1)))
    (get_or clients place d ++ visit node) within
    (ap (λ xs. xs ++ visit node) was ∙ ap (λ xs. before place ++ xs) (sym here.1))
    (λ k h other. ap (λ xs. before k ++ xs) (left_elsewhere client node visit k other))

-- a request that is at no node yet leaves nothing
pub adds_nothing : (number : ℕ) (words : Words) (clients : List (List Operation)) → Adds (request_until 0 number words) clients clients
unfolding Adds each_below
adds_nothing number words clients client are =
    let same : (place : ℕ) → client place ≡ client place ++ left_to place (request_until 0 number words) =
    λ place.
    sym (
    ap (λ xs. client place ++ xs)
    (left_at_first (words 1 % 4) (λ node. visit_at number (record { 0 = words 0 }) (depth_at words) node (behind_visits node words)) place)
    ∙ append-nil (client place)
    ) in
    are ∙ ap (each_below 12) (λ i. λ place. same place i)

-- a visit behind those of the nodes before
pub adds_visit : (n number place trace depth : ℕ) (words now : Words) (before : List (List Operation)) (clients : List (Listing Op)) (found left : Listing Op) → n < 3 → place ≡ 4 * n + words 1 % 4
    → trace ≡ words 0 → depth ≡ depth_at words → Adds (request_until n number words) before (map operations_of clients) → now ≡ behind_visits n words → place < length clients
    → found ≡ get_or clients place found → operations_of left ≡ operations_of found ++ visit_at number (record { 0 = trace }) depth n now
    → Adds (request_until (n + 1) number words) before (map operations_of (set clients place left))
unfolding Adds
adds_visit n number place trace depth words now before clients found left shallow at_place of_trace of_depth until behind within lies visited client are =
    let visit : ℕ → List Operation = λ node. visit_at number (record { 0 = words 0 }) (depth_at words) node (behind_visits node words) in
    let there : operations_of found ≡ get_or (map operations_of clients) place (operations_of found) =
    ap operations_of lies ∙ sym (get_or-map operations_of clients place found (operations_of found) within) in
    let filled : operations_of left ≡ get_or (map operations_of clients) place (operations_of found) ++ visit n =
    visited
    ∙ (
    (λ i. operations_of found ++ visit_at number (record { 0 = of_trace i }) (of_depth i) n (behind i))
    ∙ ap (λ xs. xs ++ visit n) there
    ) in
    map-set operations_of clients place left
    ∙ (
    ap (λ xs. set (map operations_of clients) place xs) filled
    ∙ (
    ap (λ k. set (map operations_of clients) k (get_or (map operations_of clients) k (operations_of found) ++ visit n)) at_place
    ∙ left_at_a_node client (words 1 % 4) n visit (map operations_of clients) (operations_of found) (omega arith) shallow (until client are)
    )
    )

-- one request more
pub client_at-more : (size : ℕ) (words : Words) (place : ℕ)
    → client_at (size + 1) words place ≡ client_at size words place ++ left_to place (request_at size (behind_requests size words))
client_at-more size words place =
    let last : Request = request_at size (behind_requests size words) in
    ap (flat_map (left_to place)) (each_below-more size (λ number. request_at number (behind_requests number words)))
    ∙ (flat_map-append (left_to place) (requests_at size words) (last ∷ []) ∙ ap (λ xs. client_at size words place ++ xs) (append-nil (left_to place last)))

-- clients for which nothing was drawn yet
pub clients_at-none : (words : Words) → clients_at 0 words ≡ each_below 12 (λ _. [])
unfolding each_below
clients_at-none words = refl

-- a request behind the first ones
pub request_more : (n : ℕ) (words now : Words) (before after : List (List Operation)) → now ≡ behind_requests n words → before ≡ clients_at n words → Adds (request_at n now) before after
    → after ≡ clients_at (n + 1) words
unfolding Adds
request_more n words now before after behind are adds =
    let same : (place : ℕ) → client_at n words place ++ left_to place (request_at n now) ≡ client_at (n + 1) words place =
    λ place. ap (λ ws. client_at n words place ++ left_to place (request_at n ws)) behind ∙ sym (client_at-more n words place) in
    adds (client_at n words) are ∙ ap (each_below 12) (λ i. λ place. same place i)

pub request_drawn : (n : ℕ) (words now next : Words) → now ≡ behind_requests n words → next ≡ behind_request now → next ≡ behind_requests (n + 1) words
request_drawn n words now next behind after = after ∙ (ap behind_request behind ∙ sym (behind_parts-more (λ _. behind_request) n words))
