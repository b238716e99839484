-- The books have the journal.
use Rattle.std.proofs.Common.{◌≡◌, ℕ, ◌+◌, true, eqb, List, [], ◌∷◌, ◌++◌, length, map, Option, Some, None, unwrap_or, sym, ap, ◌∙◌, refl, append-nil, append_assoc, length-append, arith}
use Rattle.hs_outcome.proofs.Prelude.{AllByRecursion, flat_map, range_with_len, option_map, slice_get, nat_tests, map-append, first_true, second_true, PlainClientBook, PlainAgentBook, agent_book_of, AgentBook, Claim, PlainJournal, PlainWorkload, Sheet, page_bytes, claimed_by, all_claimed, sent_by, all_sent}
use Rattle.std.specs.List.{filter_map, cons_option, list_all}
use Rattle.hs_base.specs.declared.ids.NodeId.{NodeId}
use Rattle.hs_records.specs.Books.{client_book_of}
use Rattle.hs_records.specs.declared.books.ClientBook.{ClientBook}
use Rattle.hs_records.specs.declared.journal.Draw.{Draw}
use Rattle.hs_records.specs.declared.journal.Step.{Step}
use Rattle.hs_law_journal.specs.Following.{NodeRun, followed, log_at}
use Rattle.hs_law_journal.specs.Extending.{IsOfJournal, RunsAreOfTheJournal}
use Rattle.hs_law_journal.specs.Orders.{FollowingPlaysOut}
use Rattle.hs_law_agent.specs.Books.{book_of, claim_note, bytes_at}
use Rattle.hs_law_agent.specs.Standings.{Taken}
use Rattle.hs_law_agent.specs.State.{ClaimedTrace}
use Rattle.hs_law_outcome.specs.Outcomes.{client_book, claimed_at, reported_at}
use Rattle.hs_law_outcome.specs.Readable.{JournalsHaveTheShape}
use Rattle.hs_client.specs.Sending.{draws_at}
use Rattle.hs_outcome.specs.declared.outcome.Books.{Books}
use Rattle.hs_outcome.specs.Journals.{journal_by}
use Rattle.hs_outcome.specs.Outcomes.{AreBooksOf}
use Rattle.hs_base.proofs.Places.{place_at}

-- ---- lists by their places

-- the items of a list, place by place
by_places : {A : Type 0} (all pre rest : List (List A)) (k : ℕ) → all ≡ pre ++ rest → k ≡ length pre → map (λ place. unwrap_or (slice_get all place) []) (range_with_len k (length rest)) ≡ rest
by_places all pre [] k is at = refl
by_places all pre (x ∷ rest) k is at =
    let here : unwrap_or (slice_get all k) [] ≡ x = ap (λ t. unwrap_or t []) (ap (λ l. slice_get l k) is ∙ place_at k pre x rest at) in
    ap (λ t. t ∷ map (λ place. unwrap_or (slice_get all place) []) (range_with_len (k + 1) (length rest))) here
    ∙ ap (λ t. x ∷ t) (by_places all (pre ++ x ∷ []) rest (k + 1) (is ∙ sym (append_assoc pre (x ∷ []) rest)) (omega (arith, length-append pre (x ∷ []))))

whole_list : {A : Type 0} (all : List (List A)) (n : ℕ) → n ≡ length all → map (λ place. unwrap_or (slice_get all place) []) (range_with_len 0 n) ≡ all
whole_list all n is = ap (λ k. map (λ place. unwrap_or (slice_get all place) []) (range_with_len 0 k)) is ∙ by_places all [] all 0 refl refl

-- ---- draws

draws_in : (clients : List ClientBook) → map (λ (book : ClientBook). book.draws.items) clients ≡ map (λ (book : PlainClientBook). book.draws) (map client_book_of clients)
draws_in [] = refl
draws_in (book ∷ clients) = ap (λ t. book.draws.items ∷ t) (draws_in clients)

draws_of : (W : PlainWorkload) (J : PlainJournal) (places : List ℕ) → map (λ (book : PlainClientBook). book.draws) (map (client_book W J) places) ≡ map (λ place. unwrap_or (slice_get J.draws place) []) places
draws_of W J [] = refl
draws_of W J (place ∷ places) = ap (λ t. draws_at J place ∷ t) (draws_of W J places)

-- ---- logs

logs_in : (agents : List AgentBook) → map (λ (book : AgentBook). book.log.items) agents ≡ map (λ (book : PlainAgentBook). book.log) (map agent_book_of agents)
logs_in [] = refl
logs_in (book ∷ agents) = ap (λ t. book.log.items ∷ t) (logs_in agents)

no_steps : (steps : List Step) → eqb (length steps) 0 ≡ true → steps ≡ []
no_steps [] h = refl
no_steps (step ∷ steps) h = absurd (grind (arith, nat_tests))

logs_of : (W : PlainWorkload) (J : PlainJournal) (nodes : List NodeRun) → AllByRecursion (IsOfJournal W J) nodes → list_all (λ (node : NodeRun). eqb (length node.left) 0) nodes ≡ true
    → map (λ (book : PlainAgentBook). book.log) (map (λ (node : NodeRun). book_of node.node node.state) nodes) ≡ map (λ node. unwrap_or (slice_get J.logs node) []) (map (λ (node : NodeRun). node.node) nodes)
logs_of W J [] all done = refl
logs_of W J (node ∷ nodes) all done =
    let first = first_true (eqb (length node.left) 0) (list_all (λ (node : NodeRun). eqb (length node.left) 0) nodes) done in
    let rest = second_true (eqb (length node.left) 0) (list_all (λ (node : NodeRun). eqb (length node.left) 0) nodes) done in
    let log : node.state.log ≡ log_at J node.node = sym (append-nil node.state.log) ∙ ap (λ left. node.state.log ++ left) (sym (no_steps node.left first)) ∙ all.0.log in
    ap (λ t. t ∷ map (λ (book : PlainAgentBook). book.log) (map (λ (node : NodeRun). book_of node.node node.state) nodes)) log ∙ ap (λ t. log_at J node.node ∷ t) (logs_of W J nodes all.1 rest)

-- ---- the journal

journal_same : (J : PlainJournal) (nodes clients : ℕ) (draws : List (List Draw)) (logs : List (List Step)) (told : List NodeId) → nodes ≡ J.nodes → clients ≡ J.clients → draws ≡ J.draws → logs ≡ J.logs → told ≡ J.told
    → record { nodes = nodes; clients = clients; draws = draws; logs = logs; told = told } ≡ J
journal_same J nodes clients draws logs told a b c d e =
    ap (λ x. record { nodes = x; clients = clients; draws = draws; logs = logs; told = told }) a
    ∙ ap (λ x. record { nodes = J.nodes; clients = x; draws = draws; logs = logs; told = told }) b
    ∙ ap (λ x. record { nodes = J.nodes; clients = J.clients; draws = x; logs = logs; told = told }) c
    ∙ ap (λ x. record { nodes = J.nodes; clients = J.clients; draws = J.draws; logs = x; told = told }) d
    ∙ ap (λ x. record { nodes = J.nodes; clients = J.clients; draws = J.draws; logs = J.logs; told = x }) e

pub journal_is : FollowingPlaysOut → RunsAreOfTheJournal → JournalsHaveTheShape → (W : PlainWorkload) (J : PlainJournal) (books : Books) → AreBooksOf W J books → journal_by books ≡ J
journal_is plays runs shapes W J books are =
    let shape = shapes W J are.lawful.L1 in
    let run = followed W J in
    let of = runs W J run (plays W J).leads in
    let done = first_true (list_all (λ (node : NodeRun). eqb (length node.left) 0) run.nodes) (eqb (length run.left) 0) are.lawful.L8 in
    journal_same J books.nodes books.each _ _ books.told.items (are.nodes ∙ sym shape.nodes) (are.each ∙ sym shape.clients)
    (draws_in books.clients.items ∙ ap (map (λ (book : PlainClientBook). book.draws)) are.clients ∙ draws_of W J (range_with_len 0 (length W.clients)) ∙ whole_list J.draws (length W.clients) (sym shape.draws))
    (logs_in books.agents.items ∙ ap (map (λ (book : PlainAgentBook). book.log)) are.agents ∙ logs_of W J run.nodes of.each done
    ∙ ap (map (λ node. unwrap_or (slice_get J.logs node) [])) of.numbers ∙ whole_list J.logs W.settings.nodes (sym shape.logs))
    are.told

-- ---- claims

claims_in : (agents : List AgentBook) → all_claimed agents ≡ flat_map (λ (book : PlainAgentBook). map (λ (claim : Claim). claim.trace) book.claims) (map agent_book_of agents)
claims_in [] = refl
claims_in (book ∷ agents) = ap (λ t. claimed_by book ++ t) (claims_in agents)

traces_of : (claims : List ClaimedTrace) → map (λ (claim : Claim). claim.trace) (map claim_note claims) ≡ map (λ (claim : ClaimedTrace). claim.trace) claims
traces_of [] = refl
traces_of (claim ∷ claims) = ap (λ t. claim.trace ∷ t) (traces_of claims)

claims_of : (nodes : List NodeRun) → flat_map (λ (book : PlainAgentBook). map (λ (claim : Claim). claim.trace) book.claims) (map (λ (node : NodeRun). book_of node.node node.state) nodes) ≡ flat_map claimed_at nodes
claims_of [] = refl
claims_of (node ∷ nodes) =
    ap (λ t. t ++ flat_map (λ (book : PlainAgentBook). map (λ (claim : Claim). claim.trace) book.claims) (map (λ (node : NodeRun). book_of node.node node.state) nodes)) (traces_of node.state.claims)
    ∙ ap (λ t. claimed_at node ++ t) (claims_of nodes)

pub claimed_are : (W : PlainWorkload) (J : PlainJournal) (books : Books) → AreBooksOf W J books → all_claimed books.agents.items ≡ flat_map claimed_at (followed W J).nodes
claimed_are W J books are =
    claims_in books.agents.items ∙ ap (flat_map (λ (book : PlainAgentBook). map (λ (claim : Claim). claim.trace) book.claims)) are.agents ∙ claims_of (followed W J).nodes

-- ---- pages

sent_in : (agents : List AgentBook) → all_sent agents ≡ flat_map (λ (book : PlainAgentBook). book.sent) (map agent_book_of agents)
sent_in [] = refl
sent_in (book ∷ agents) = ap (λ t. sent_by book ++ t) (sent_in agents)

pages_more : (here : Option Taken) (bytes : List (List ℕ)) (sheets : List Sheet) → bytes ≡ map page_bytes sheets
    → cons_option (option_map (λ (chunk : Taken). page_bytes chunk.sheet) here) bytes ≡ map page_bytes (cons_option (option_map (λ (chunk : Taken). chunk.sheet) here) sheets)
pages_more None bytes sheets is = is
pages_more (Some chunk) bytes sheets is = ap (λ t. page_bytes chunk.sheet ∷ t) is

pages_at : (taken : List Taken) (places : List ℕ)
    → filter_map (bytes_at taken) places ≡ map page_bytes (filter_map (λ place. option_map (λ (chunk : Taken). chunk.sheet) (slice_get taken place)) places)
pages_at taken [] = refl
pages_at taken (place ∷ places) =
    pages_more (slice_get taken place) (filter_map (bytes_at taken) places) (filter_map (λ place. option_map (λ (chunk : Taken). chunk.sheet) (slice_get taken place)) places) (pages_at taken places)

sent_of : (nodes : List NodeRun) → flat_map (λ (book : PlainAgentBook). book.sent) (map (λ (node : NodeRun). book_of node.node node.state) nodes) ≡ map page_bytes (flat_map reported_at nodes)
sent_of [] = refl
sent_of (node ∷ nodes) =
    ap (λ t. t ++ flat_map (λ (book : PlainAgentBook). book.sent) (map (λ (node : NodeRun). book_of node.node node.state) nodes)) (pages_at node.state.taken node.state.reported)
    ∙ ap (λ t. map page_bytes (reported_at node) ++ t) (sent_of nodes) ∙ sym (map-append page_bytes (reported_at node) (flat_map reported_at nodes))

pub sent_are : (W : PlainWorkload) (J : PlainJournal) (books : Books) → AreBooksOf W J books → all_sent books.agents.items ≡ map page_bytes (flat_map reported_at (followed W J).nodes)
sent_are W J books are = sent_in books.agents.items ∙ ap (flat_map (λ (book : PlainAgentBook). book.sent)) are.agents ∙ sent_of (followed W J).nodes
