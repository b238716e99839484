-- The lines of a journal that has a text are taken one after another, up to that journal.
use Rattle.std.proofs.Common.{◌≡◌, ℕ, ◌+◌, ◌*◌, ◌/◌, ◌%◌, ◌<◌, ◌≤◌, ◌||◌, ◌^◌, nat_eq, nat_lt, nat_le, not, true, false, List, [], ◌∷◌, ◌++◌, length, map, Result, Ok, Err, refl, sym, ap, ◌∙◌, append_assoc, length-append, arith}
use Rattle.std.proofs.lemmas.List.{append-nil}
use Rattle.std.proofs.Math.Nat.{mul-le-mul, div-le_self}
use Rattle.std.specs.List.{AllByRecursion}
use Rattle.hs_base.proofs.Numbers.{nat_le_false}
use Rattle.hs_base.specs.declared.limits.TheConstants.{MAX_NODES, MAX_CLIENTS, MAX_BUFFERS}
use Rattle.hs_base.specs.declared.ids.NodeId.{NodeId}
use Rattle.hs_journal.specs.declared.refusal.JournalReason.{JournalReason}
use Rattle.hs_records.specs.declared.journal.Draw.{Draw}
use Rattle.hs_records.specs.declared.journal.Draw.TheVariants as draws
use Rattle.hs_records.specs.declared.journal.Step.{Step}
use Rattle.hs_records.specs.declared.journal.Step.TheVariants as steps
use Rattle.hs_journal.specs.declared.word.Keyword.TheVariants as keywords
use Rattle.hs_journal.specs.declared.part.JournalPart.TheVariants as places
use Rattle.hs_records.specs.Journals.{PlainJournal, IsDraw, IsStep, IsNodeBelow, IsJournal}
use Rattle.hs_journal.specs.Statements.{Statement, statement_line, draw_statement, step_statement, told_statement}
use Rattle.hs_journal.specs.Grammar.{head_statement, draw_statements, log_statements, order_statements, coordinator_statement, end_statement, journal_lines}
use Rattle.hs_journal.specs.Faults.{numbers_at, is_out_of_range}
use Rattle.hs_text.specs.Steps.{◌>>=◌}
use Rattle.hs_text.specs.JudgingLaws.{run}
use Rattle.hs_journal.specs.Forward.{Draft, fresh, past_of, onto_last, line_step}
use Rattle.hs_journal.proofs.Lines.{IsSmall, statement_taken}
use Rattle.hs_journal.proofs.Drafts.{onto_current, draws_at, log_at}

-- ---- lines, one after another

abbrev pub run_statements : Draft → List Statement → Result Draft JournalReason
run_statements d statements = run line_step d (map statement_line statements)

onward : (r : Result Draft JournalReason) (a b : Draft → Result Draft JournalReason) → ((d : Draft) → a d ≡ b d) → (r >>= a) ≡ (r >>= b)
onward (Ok d) a b same = same d
onward (Err e) a b same = refl

regroup : (r : Result Draft JournalReason) (a b : Draft → Result Draft JournalReason) → ((r >>= a) >>= b) ≡ (r >>= λ d. a d >>= b)
regroup (Ok d) a b = refl
regroup (Err e) a b = refl

run-append : (d : Draft) (ss ts : List Statement) → run_statements d (ss ++ ts) ≡ (run_statements d ss >>= λ next. run_statements next ts)
run-append d [] ts = refl
run-append d (s ∷ ss) ts =
    onward (line_step d (statement_line s)) _ _ (λ next. run-append next ss ts)
    ∙ sym (regroup (line_step d (statement_line s)) (λ next. run_statements next ss) (λ next. run_statements next ts))

-- one run behind another
both_run : (d middle last : Draft) (ss ts : List Statement) → run_statements d ss ≡ Ok middle → run_statements middle ts ≡ Ok last → run_statements d (ss ++ ts) ≡ Ok last
both_run d middle last ss ts first second = run-append d ss ts ∙ ap (λ r. r >>= λ next. run_statements next ts) first ∙ second

first_run : (d middle last : Draft) (s : Statement) (ss : List Statement) → line_step d (statement_line s) ≡ Ok middle → run_statements middle ss ≡ Ok last → run_statements d (s ∷ ss) ≡ Ok last
first_run d middle last s ss first second = ap (λ r. r >>= λ next. run_statements next ss) first ∙ second

-- ---- the parts of a journal

abbrev head_draft : ℕ → ℕ → Draft
head_draft nodes clients = record { place = places.Head; nodes = nodes; clients = clients; draws = []; logs = []; told = [] }

abbrev draws_draft : ℕ → ℕ → List (List Draw) → Draft
draws_draft nodes clients lists = record { place = places.Draws; nodes = nodes; clients = clients; draws = lists; logs = []; told = [] }

abbrev logs_draft : ℕ → ℕ → List (List Draw) → List (List Step) → Draft
logs_draft nodes clients lists logs = record { place = places.Logs; nodes = nodes; clients = clients; draws = lists; logs = logs; told = [] }

abbrev order_draft : ℕ → ℕ → List (List Draw) → List (List Step) → List NodeId → Draft
order_draft nodes clients lists logs told = record { place = places.Order; nodes = nodes; clients = clients; draws = lists; logs = logs; told = told }

abbrev pub ended_draft : PlainJournal → Draft
ended_draft J = record { place = places.Ended; nodes = J.nodes; clients = J.clients; draws = J.draws; logs = J.logs; told = J.told }

below : (a b : ℕ) → a < b → nat_lt a b ≡ true
below a b is = grind arith

at_most : (a b : ℕ) → a ≤ b → nat_le a b ≡ true
at_most a b is = grind arith

same : (a : ℕ) → nat_eq a a ≡ true
same a = grind arith

small_client : (clients client : ℕ) → clients ≤ MAX_CLIENTS → client < clients → client < 2 ^ 64
small_client clients client few within = omega arith

-- the draws of one client
run_draws : (nodes clients : ℕ) (finished : List (List Draw)) (current more : List Draw) → AllByRecursion IsDraw more
    → run_statements (draws_draft nodes clients (finished ++ current ∷ [])) (map draw_statement more) ≡ Ok (draws_draft nodes clients (finished ++ (current ++ more) ∷ []))
run_draws nodes clients finished current [] all = ap (λ list. Ok (draws_draft nodes clients (finished ++ list ∷ []))) (sym (append-nil current))
run_draws nodes clients finished current (draws.Got buffer stamp ∷ more) all =
    let d = draws_draft nodes clients (finished ++ current ∷ []) in
    first_run d (draws_draft nodes clients (finished ++ (current ++ draws.Got buffer stamp ∷ []) ∷ [])) _ (draw_statement (draws.Got buffer stamp)) (map draw_statement more)
    (statement_taken d keywords.Got (buffer ∷ stamp ∷ []) (omega (arith, all.0.0), (all.0.1, tt)) refl refl (nat_le_false MAX_BUFFERS buffer all.0.0) refl
    ∙ ap (λ lists. Ok (draws_draft nodes clients lists)) (onto_current finished current (draws.Got buffer stamp)))
    (run_draws nodes clients finished (current ++ draws.Got buffer stamp ∷ []) more all.1 ∙ ap (λ list. Ok (draws_draft nodes clients (finished ++ list ∷ []))) (append_assoc current (draws.Got buffer stamp ∷ []) more))
run_draws nodes clients finished current (draws.Empty stamp ∷ more) all =
    let d = draws_draft nodes clients (finished ++ current ∷ []) in
    first_run d (draws_draft nodes clients (finished ++ (current ++ draws.Empty stamp ∷ []) ∷ [])) _ (draw_statement (draws.Empty stamp)) (map draw_statement more)
    (statement_taken d keywords.Empty (stamp ∷ []) (all.0, tt) refl refl refl refl
    ∙ ap (λ lists. Ok (draws_draft nodes clients lists)) (onto_current finished current (draws.Empty stamp)))
    (run_draws nodes clients finished (current ++ draws.Empty stamp ∷ []) more all.1 ∙ ap (λ list. Ok (draws_draft nodes clients (finished ++ list ∷ []))) (append_assoc current (draws.Empty stamp ∷ []) more))

-- the place of a client among all clients
small_parts : (client clients : ℕ) → client < MAX_NODES * MAX_CLIENTS → 0 < clients → clients ≤ MAX_CLIENTS → (client / clients < 2 ^ 64) × (client % clients < 2 ^ 64)
small_parts client clients small some few = (omega (arith, div-le_self client clients), omega arith)

ordered_draws : (a b : ℕ) → (not (nat_eq a a) || not (nat_eq b b)) ≡ false
ordered_draws a b = let e = same a in let f = same b in grind arith

ordered_log : (a : ℕ) → not (nat_eq a a) ≡ false
ordered_log a = let e = same a in grind arith

record HasLimits (nodes clients : ℕ) : Type 0 where
  pub some_nodes : 0 < nodes
  pub few_nodes : nodes ≤ MAX_NODES
  pub some_clients : 0 < clients
  pub few_clients : clients ≤ MAX_CLIENTS

few_of_all : (nodes clients k : ℕ) → HasLimits nodes clients → k < nodes * clients → k < MAX_NODES * MAX_CLIENTS
few_of_all nodes clients k limits within = let most : nodes * clients ≤ MAX_NODES * MAX_CLIENTS = mul-le-mul limits.few_nodes limits.few_clients in omega (arith, most, within)

-- the draws of the clients behind some
run_lists : (nodes clients : ℕ) (finished : List (List Draw)) (last : List Draw) (more : List (List Draw)) → HasLimits nodes clients → AllByRecursion (AllByRecursion IsDraw) more
    → length (finished ++ last ∷ []) + length more ≡ nodes * clients
    → run_statements (draws_draft nodes clients (finished ++ last ∷ [])) (draw_statements clients (length (finished ++ last ∷ [])) more) ≡ Ok (draws_draft nodes clients ((finished ++ last ∷ []) ++ more))
run_lists nodes clients finished last [] limits all count = ap (λ lists. Ok (draws_draft nodes clients lists)) (sym (append-nil (finished ++ last ∷ [])))
run_lists nodes clients finished last (drawn ∷ more) limits all count =
    let lists = finished ++ last ∷ [] in
    let d = draws_draft nodes clients lists in
    let k = length lists in
    let within : k < nodes * clients = omega (arith, count) in
    let small = small_parts k clients (few_of_all nodes clients k limits within) limits.some_clients limits.few_clients in
    let size = length-append lists (drawn ∷ []) in
    let next : length (lists ++ drawn ∷ []) ≡ k + 1 = omega (arith, size) in
    let begun : line_step d (statement_line (draws_at clients k)) ≡ Ok (draws_draft nodes clients (lists ++ [] ∷ [])) =
    statement_taken d keywords.Draws (k / clients ∷ k % clients ∷ []) (small.0, (small.1, tt)) refl (below k (nodes * clients) within) refl (ordered_draws (k / clients) (k % clients)) in
    let rest = run_lists nodes clients lists drawn more limits all.1 (omega (arith, next, count)) in
    first_run d (draws_draft nodes clients (lists ++ [] ∷ [])) _ (draws_at clients k) (map draw_statement drawn ++ draw_statements clients (k + 1) more) begun
    (both_run (draws_draft nodes clients (lists ++ [] ∷ [])) (draws_draft nodes clients (lists ++ drawn ∷ [])) _ (map draw_statement drawn) (draw_statements clients (k + 1) more)
    (run_draws nodes clients lists [] drawn all.0)
    (ap (λ n. run_statements (draws_draft nodes clients (lists ++ drawn ∷ [])) (draw_statements clients n more)) (sym next) ∙ rest
    ∙ ap (λ all_lists. Ok (draws_draft nodes clients all_lists)) (append_assoc lists (drawn ∷ []) more)))

-- the draws of all clients
run_all_draws : (nodes clients : ℕ) (lists : List (List Draw)) → HasLimits nodes clients → AllByRecursion (AllByRecursion IsDraw) lists → length lists ≡ nodes * clients
    → run_statements (head_draft nodes clients) (draw_statements clients 0 lists) ≡ Ok (draws_draft nodes clients lists)
run_all_draws nodes clients [] limits all count =
    let one : 1 ≤ nodes * clients = omega (arith, mul-le-mul {n₁ = 1} {m₁ = 1} {n₂ = nodes} {m₂ = clients} limits.some_nodes limits.some_clients) in
    absurd (omega (arith, count, one))
run_all_draws nodes clients (drawn ∷ more) limits all count =
    let d = head_draft nodes clients in
    let small = small_parts 0 clients (omega arith) limits.some_clients limits.few_clients in
    let begun : line_step d (statement_line (draws_at clients 0)) ≡ Ok (draws_draft nodes clients ([] ∷ [])) =
    statement_taken d keywords.Draws (0 / clients ∷ 0 % clients ∷ []) (small.0, (small.1, tt)) refl refl refl (ordered_draws (0 / clients) (0 % clients)) in
    first_run d (draws_draft nodes clients ([] ∷ [])) _ (draws_at clients 0) (map draw_statement drawn ++ draw_statements clients 1 more) begun
    (both_run (draws_draft nodes clients ([] ∷ [])) (draws_draft nodes clients (drawn ∷ [])) _ (map draw_statement drawn) (draw_statements clients 1 more)
    (run_draws nodes clients [] [] drawn all.0)
    (run_lists nodes clients [] drawn more limits all.1 (omega (arith, count))))

-- the log of one node
step_fits : (clients : ℕ) (step : Step) → IsStep clients step → clients ≤ MAX_CLIENTS → AllByRecursion IsSmall (step_statement step).numbers
step_fits clients (steps.Chunk client) fits few = (small_client clients client few fits, tt)
step_fits clients (steps.Crumb client) fits few = (small_client clients client few fits, tt)
step_fits clients (steps.Trigger client) fits few = (small_client clients client few fits, tt)
step_fits clients steps.Ask fits few = tt
step_fits clients steps.Turn fits few = tt
step_fits clients (steps.Given stamp) fits few = (fits, tt)
step_fits clients (steps.Missed stamp) fits few = (fits, tt)
step_fits clients steps.Unread fits few = tt

step_taken : (nodes clients : ℕ) (lists : List (List Draw)) (logs : List (List Step)) (step : Step) → IsStep clients step → clients ≤ MAX_CLIENTS
    → line_step (logs_draft nodes clients lists logs) (statement_line (step_statement step)) ≡ Ok (logs_draft nodes clients lists (onto_last logs step))
step_taken nodes clients lists logs (steps.Chunk client) fits few = statement_taken (logs_draft nodes clients lists logs) keywords.Chunk (client ∷ []) (step_fits clients (steps.Chunk client) fits few) refl refl (nat_le_false clients client fits) refl
step_taken nodes clients lists logs (steps.Crumb client) fits few = statement_taken (logs_draft nodes clients lists logs) keywords.Crumb (client ∷ []) (step_fits clients (steps.Crumb client) fits few) refl refl (nat_le_false clients client fits) refl
step_taken nodes clients lists logs (steps.Trigger client) fits few = statement_taken (logs_draft nodes clients lists logs) keywords.Trigger (client ∷ []) (step_fits clients (steps.Trigger client) fits few) refl refl (nat_le_false clients client fits) refl
step_taken nodes clients lists logs steps.Ask fits few = statement_taken (logs_draft nodes clients lists logs) keywords.Ask [] tt refl refl refl refl
step_taken nodes clients lists logs steps.Turn fits few = statement_taken (logs_draft nodes clients lists logs) keywords.Turn [] tt refl refl refl refl
step_taken nodes clients lists logs (steps.Given stamp) fits few = statement_taken (logs_draft nodes clients lists logs) keywords.Given (stamp ∷ []) (fits, tt) refl refl refl refl
step_taken nodes clients lists logs (steps.Missed stamp) fits few = statement_taken (logs_draft nodes clients lists logs) keywords.Missed (stamp ∷ []) (fits, tt) refl refl refl refl
step_taken nodes clients lists logs steps.Unread fits few = statement_taken (logs_draft nodes clients lists logs) keywords.Unread [] tt refl refl refl refl

run_steps : (nodes clients : ℕ) (lists : List (List Draw)) (finished : List (List Step)) (current more : List Step) → clients ≤ MAX_CLIENTS → AllByRecursion (IsStep clients) more
    → run_statements (logs_draft nodes clients lists (finished ++ current ∷ [])) (map step_statement more) ≡ Ok (logs_draft nodes clients lists (finished ++ (current ++ more) ∷ []))
run_steps nodes clients lists finished current [] few all = ap (λ list. Ok (logs_draft nodes clients lists (finished ++ list ∷ []))) (sym (append-nil current))
run_steps nodes clients lists finished current (step ∷ more) few all =
    first_run (logs_draft nodes clients lists (finished ++ current ∷ [])) (logs_draft nodes clients lists (finished ++ (current ++ step ∷ []) ∷ [])) _ (step_statement step) (map step_statement more)
    (step_taken nodes clients lists (finished ++ current ∷ []) step all.0 few ∙ ap (λ logs. Ok (logs_draft nodes clients lists logs)) (onto_current finished current step))
    (run_steps nodes clients lists finished (current ++ step ∷ []) more few all.1 ∙ ap (λ list. Ok (logs_draft nodes clients lists (finished ++ list ∷ []))) (append_assoc current (step ∷ []) more))

-- the logs of the nodes behind some
run_logs : (nodes clients : ℕ) (lists : List (List Draw)) (finished : List (List Step)) (last : List Step) (more : List (List Step)) → HasLimits nodes clients
    → AllByRecursion (AllByRecursion (IsStep clients)) more → length (finished ++ last ∷ []) + length more ≡ nodes
    → run_statements (logs_draft nodes clients lists (finished ++ last ∷ [])) (log_statements (length (finished ++ last ∷ [])) more) ≡ Ok (logs_draft nodes clients lists ((finished ++ last ∷ []) ++ more))
run_logs nodes clients lists finished last [] limits all count = ap (λ logs. Ok (logs_draft nodes clients lists logs)) (sym (append-nil (finished ++ last ∷ [])))
run_logs nodes clients lists finished last (log ∷ more) limits all count =
    let logs = finished ++ last ∷ [] in
    let d = logs_draft nodes clients lists logs in
    let k = length logs in
    let within : k < nodes = omega (arith, count) in
    let few = limits.few_nodes in
    let small : k < 2 ^ 64 = omega (arith, within, few) in
    let size = length-append logs (log ∷ []) in
    let next : length (logs ++ log ∷ []) ≡ k + 1 = omega (arith, size) in
    let begun : line_step d (statement_line (log_at k)) ≡ Ok (logs_draft nodes clients lists (logs ++ [] ∷ [])) =
    statement_taken d keywords.Log (k ∷ []) (small, tt) refl (below k nodes within) refl (ordered_log k) in
    let rest = run_logs nodes clients lists logs log more limits all.1 (omega (arith, next, count)) in
    first_run d (logs_draft nodes clients lists (logs ++ [] ∷ [])) _ (log_at k) (map step_statement log ++ log_statements (k + 1) more) begun
    (both_run (logs_draft nodes clients lists (logs ++ [] ∷ [])) (logs_draft nodes clients lists (logs ++ log ∷ [])) _ (map step_statement log) (log_statements (k + 1) more)
    (run_steps nodes clients lists logs [] log limits.few_clients all.0)
    (ap (λ n. run_statements (logs_draft nodes clients lists (logs ++ log ∷ [])) (log_statements n more)) (sym next) ∙ rest
    ∙ ap (λ all_logs. Ok (logs_draft nodes clients lists all_logs)) (append_assoc logs (log ∷ []) more)))

-- the logs of all nodes
run_all_logs : (nodes clients : ℕ) (lists : List (List Draw)) (logs : List (List Step)) → HasLimits nodes clients → length lists ≡ nodes * clients
    → AllByRecursion (AllByRecursion (IsStep clients)) logs → length logs ≡ nodes
    → run_statements (draws_draft nodes clients lists) (log_statements 0 logs) ≡ Ok (logs_draft nodes clients lists logs)
run_all_logs nodes clients lists [] limits draws_count all count = let some = limits.some_nodes in absurd (omega (arith, count, some))
run_all_logs nodes clients lists (log ∷ more) limits draws_count all count =
    let d = draws_draft nodes clients lists in
    let begun : line_step d (statement_line (log_at 0)) ≡ Ok (logs_draft nodes clients lists ([] ∷ [])) =
    statement_taken d keywords.Log (0 ∷ []) (omega arith, tt) refl (at_most (nodes * clients) (length lists) (omega (arith, draws_count))) refl (ordered_log 0) in
    first_run d (logs_draft nodes clients lists ([] ∷ [])) _ (log_at 0) (map step_statement log ++ log_statements 1 more) begun
    (both_run (logs_draft nodes clients lists ([] ∷ [])) (logs_draft nodes clients lists (log ∷ [])) _ (map step_statement log) (log_statements 1 more)
    (run_steps nodes clients lists [] [] log limits.few_clients all.0)
    (run_logs nodes clients lists [] log more limits all.1 (omega (arith, count))))

-- the coordinator's order
run_told : (nodes clients : ℕ) (lists : List (List Draw)) (logs : List (List Step)) (told more : List NodeId) → nodes ≤ MAX_NODES → AllByRecursion (IsNodeBelow nodes) more
    → run_statements (order_draft nodes clients lists logs told) (map told_statement more) ≡ Ok (order_draft nodes clients lists logs (told ++ more))
run_told nodes clients lists logs told [] few all = ap (λ nodes_told. Ok (order_draft nodes clients lists logs nodes_told)) (sym (append-nil told))
run_told nodes clients lists logs told (node ∷ more) few all =
    let d = order_draft nodes clients lists logs told in
    first_run d (order_draft nodes clients lists logs (told ++ node ∷ [])) _ (told_statement node) (map told_statement more)
    (statement_taken d keywords.Told (node.0 ∷ []) (small_client nodes node.0 few all.0, tt) refl refl (nat_le_false nodes node.0 all.0) refl)
    (run_told nodes clients lists logs (told ++ node ∷ []) more few all.1 ∙ ap (λ nodes_told. Ok (order_draft nodes clients lists logs nodes_told)) (append_assoc told (node ∷ []) more))

limits_of : (J : PlainJournal) → IsJournal J → HasLimits J.nodes J.clients
limits_of J is = record { some_nodes = is.nodes.0; few_nodes = is.nodes.1; some_clients = is.clients.0; few_clients = is.clients.1 }

head_ordered : (nodes clients : ℕ) → HasLimits nodes clients → is_out_of_range (past_of fresh) keywords.Journal (numbers_at (1 ∷ nodes ∷ clients ∷ [])) ≡ false
head_ordered nodes clients limits =
    let a = limits.some_nodes in
    let b = limits.few_nodes in
    let c = limits.some_clients in
    let e = limits.few_clients in
    grind arith

-- all lines of a journal are taken, and the journal is read
pub run_journal : (J : PlainJournal) → IsJournal J → run line_step fresh (journal_lines J) ≡ Ok (ended_draft J)
run_journal J is =
    let limits = limits_of J is in
    let nodes = J.nodes in
    let clients = J.clients in
    let few_nodes = limits.few_nodes in
    let few_clients = limits.few_clients in
    let head : line_step fresh (statement_line (head_statement nodes clients)) ≡ Ok (head_draft nodes clients) =
    statement_taken fresh keywords.Journal (1 ∷ nodes ∷ clients ∷ []) (omega arith, (omega (arith, few_nodes), (omega (arith, few_clients), tt))) refl refl (head_ordered nodes clients limits) refl in
    let logged = logs_draft nodes clients J.draws J.logs in
    let count = is.log_lists in
    let coordinator : line_step logged (statement_line coordinator_statement) ≡ Ok (order_draft nodes clients J.draws J.logs []) =
    statement_taken logged keywords.Coordinator [] tt refl (at_most nodes (length J.logs) (omega (arith, count))) refl refl in
    let ordered = order_draft nodes clients J.draws J.logs J.told in
    let last : run_statements ordered (end_statement ∷ []) ≡ Ok (ended_draft J) =
    first_run ordered (ended_draft J) (ended_draft J) end_statement [] (statement_taken ordered keywords.End [] tt refl refl refl refl) refl in
    let from_order : run_statements logged (order_statements J.told ++ end_statement ∷ []) ≡ Ok (ended_draft J) =
    first_run logged (order_draft nodes clients J.draws J.logs []) (ended_draft J) coordinator_statement (map told_statement J.told ++ end_statement ∷ []) coordinator
    (both_run (order_draft nodes clients J.draws J.logs []) ordered (ended_draft J) (map told_statement J.told) (end_statement ∷ []) (run_told nodes clients J.draws J.logs [] J.told few_nodes is.told) last) in
    let from_logs = both_run (draws_draft nodes clients J.draws) logged (ended_draft J) (log_statements 0 J.logs) (order_statements J.told ++ end_statement ∷ []) (run_all_logs nodes clients J.draws J.logs limits is.draw_lists is.logs count) from_order in
    let from_draws = both_run (head_draft nodes clients) (draws_draft nodes clients J.draws) (ended_draft J) (draw_statements clients 0 J.draws) (log_statements 0 J.logs ++ (order_statements J.told ++ end_statement ∷ [])) (run_all_draws nodes clients J.draws limits is.draws is.draw_lists) from_logs in
    first_run fresh (head_draft nodes clients) (ended_draft J) (head_statement nodes clients) (draw_statements clients 0 J.draws ++ (log_statements 0 J.logs ++ (order_statements J.told ++ end_statement ∷ []))) head from_draws
