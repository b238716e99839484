-- The clauses L5 and L6 of the lawful journal: every log is one whole pass after another, and in each pass all offers are made. In a
-- pass the agent takes from each queue, in order, at most 64 items: for each client its chunks, its crumbs and its triggers, and
-- then the asks. Then it makes one turn, and then it offers the buffers of its hand: until the hand is empty, or until one offer
-- is unread.
use Rattle.std.specs.Prelude.{◌≡◌, ℕ, ◌+◌, ◌-◌, Bool, true, false, not, ◌&&◌, ◌||◌, ◌==◌, nat_le, List, [], ◌∷◌, ◌++◌, length, take, drop, filter, if◌then◌else◌, zip, replicate, refl}
use Rattle.std.specs.List.{flat_map, range_with_len, list_all, list_any}
use Rattle.hs_base.specs.declared.limits.TheConstants.{MAX_TAKEN}
use Rattle.hs_records.specs.declared.journal.Step.{Step}
use Rattle.hs_records.specs.declared.journal.Step.TheVariants as steps
use Rattle.hs_records.specs.Plain.{PlainSettings, PlainWorkload}
use Rattle.hs_law_journal.specs.Following.{Queue, Chunks, Crumbs, Triggers, Asks, taken, takes, NodeRun, log_at}
use Rattle.hs_law_journal.specs.Played.{Played, nodes_of, clients_of, state_behind}

-- ---- passes

abbrev pub is_turn : Step → Bool
is_turn steps.Turn = true
is_turn _ = false

abbrev pub is_offer : Step → Bool
is_offer (steps.Given stamp) = true
is_offer (steps.Missed stamp) = true
is_offer steps.Unread = true
is_offer _ = false

abbrev pub is_unread : Step → Bool
is_unread steps.Unread = true
is_unread _ = false

-- whether a pass ends between two steps: behind a turn and its offers
abbrev pub ends_between : Step → Step → Bool
ends_between step next = (is_turn step || is_offer step) && not (is_offer next)

-- a step before these passes, at whose front it may stand alone
abbrev pub put_step : Step → List (List Step) → List (List Step)
put_step step [] = (step ∷ []) ∷ []
put_step step ([] ∷ passes) = (step ∷ []) ∷ passes
put_step step ((next ∷ pass) ∷ passes) = if ends_between step next then (step ∷ []) ∷ (next ∷ pass) ∷ passes else (step ∷ next ∷ pass) ∷ passes

-- the passes of a log
abbrev pub passes_of : List Step → List (List Step)
passes_of [] = []
passes_of (step ∷ log) = put_step step (passes_of log)

-- how many steps the first so many passes have
abbrev pub steps_in : List (List Step) → ℕ → ℕ
steps_in passes k = length (flat_map (λ pass. pass) (take k passes))

-- how many items of a queue the first so many passes take
abbrev pub taken_in : List (List Step) → Queue → ℕ → ℕ
taken_in passes queue k = taken queue (flat_map (λ pass. pass) (take k passes))

-- ---- L5

-- the queues of a node in the order of a pass
abbrev pub client_queues : ℕ → List Queue
client_queues client = Chunks client ∷ Crumbs client ∷ Triggers client ∷ []

abbrev pub queues_of : PlainWorkload → List Queue
queues_of W = flat_map client_queues (clients_of W) ++ Asks ∷ []

abbrev pub same_step : Step → Step → Bool
same_step (steps.Chunk a) (steps.Chunk b) = a == b
same_step (steps.Crumb a) (steps.Crumb b) = a == b
same_step (steps.Trigger a) (steps.Trigger b) = a == b
same_step steps.Ask steps.Ask = true
same_step steps.Turn steps.Turn = true
same_step (steps.Given a) (steps.Given b) = a == b
same_step (steps.Missed a) (steps.Missed b) = a == b
same_step steps.Unread steps.Unread = true
same_step _ _ = false

abbrev pub same_steps : List Step → List Step → Bool
same_steps [] [] = true
same_steps (a ∷ log) (b ∷ other) = same_step a b && same_steps log other
same_steps _ _ = false

-- the steps of a pass in order: what it takes from these queues, a turn, and its offers
abbrev pub arranged : List Queue → List Step → List Step
arranged queues pass = flat_map (λ queue. filter (takes queue) pass) queues ++ steps.Turn ∷ filter is_offer pass

abbrev pub is_whole_pass : List Queue → List Step → Bool
is_whole_pass queues pass = same_steps pass (arranged queues pass) && list_all (λ queue. nat_le (taken queue pass) MAX_TAKEN) queues

-- L5: whole passes
abbrev pub has_passes : Played → Bool
has_passes p =
    let queues = queues_of p.workload in
    list_all (λ node. list_all (is_whole_pass queues) (passes_of (log_at p.journal node))) (nodes_of p.workload)

-- ---- L6

-- the steps of a pass but its last one, and that one
abbrev pub but_last : List Step → List Step
but_last pass = take (length pass - 1) pass

abbrev pub last_of : List Step → List Step
last_of pass = drop (length pass - 1) pass

-- the first so many passes: behind the last of them the hand is empty or an offer is unread, and no other of its offers is
abbrev pub pass_ends : PlainSettings → NodeRun → List (List Step) → ℕ → List Step → Bool
pass_ends settings run passes k pass =
    not (list_any is_unread (but_last pass)) && (list_any is_unread (last_of pass) || length (state_behind settings run (steps_in passes k)).hand == 0)

-- L6 at a node
abbrev pub offers_end : PlainSettings → NodeRun → Bool
offers_end settings run =
    let passes = passes_of run.state.log in
    list_all (λ (pass : ℕ × List Step). pass_ends settings run passes pass.0 pass.1) (zip (range_with_len 1 (length passes)) passes)

-- L6: all offers are made
abbrev pub has_offers : Played → Bool
has_offers p = list_all (offers_end p.workload.settings) p.run.nodes

-- ---- examples

abbrev queues : List Queue
queues = Chunks 0 ∷ Crumbs 0 ∷ Triggers 0 ∷ Chunks 1 ∷ Crumbs 1 ∷ Triggers 1 ∷ Asks ∷ []

three_passes : passes_of (steps.Turn ∷ steps.Chunk 0 ∷ steps.Turn ∷ steps.Given 3 ∷ steps.Given 4 ∷ steps.Turn ∷ [])
    ≡ (steps.Turn ∷ []) ∷ (steps.Chunk 0 ∷ steps.Turn ∷ steps.Given 3 ∷ steps.Given 4 ∷ []) ∷ (steps.Turn ∷ []) ∷ []
three_passes = refl

no_passes : passes_of [] ≡ []
no_passes = refl

whole : is_whole_pass queues (steps.Chunk 0 ∷ steps.Chunk 0 ∷ steps.Trigger 0 ∷ steps.Crumb 1 ∷ steps.Ask ∷ steps.Turn ∷ steps.Given 3 ∷ steps.Unread ∷ []) ≡ true
whole = refl

-- a crumb before a chunk, a turn too few or too many, an ask before a trigger, a client that is not there, an offer before the turn
not_whole : (is_whole_pass queues (steps.Crumb 0 ∷ steps.Chunk 0 ∷ steps.Turn ∷ []) ≡ false) × (is_whole_pass queues (steps.Chunk 0 ∷ []) ≡ false)
    × (is_whole_pass queues (steps.Turn ∷ steps.Turn ∷ []) ≡ false) × (is_whole_pass queues (steps.Ask ∷ steps.Trigger 1 ∷ steps.Turn ∷ []) ≡ false)
    × (is_whole_pass queues (steps.Chunk 2 ∷ steps.Turn ∷ []) ≡ false) × (is_whole_pass queues (steps.Given 3 ∷ steps.Turn ∷ []) ≡ false)
not_whole = (refl, refl, refl, refl, refl, refl)

-- a pass takes 64 chunks, and no more
at_most_64 : (is_whole_pass queues (replicate MAX_TAKEN (steps.Chunk 0) ++ steps.Turn ∷ []) ≡ true) × (is_whole_pass queues (replicate (MAX_TAKEN + 1) (steps.Chunk 0) ++ steps.Turn ∷ []) ≡ false)
at_most_64 = (refl, refl)
