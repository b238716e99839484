-- The clauses L8, L9 and L10 of the lawful journal: it can be followed to its end, has passes enough, and leaves nothing over.
-- All agents made as many passes, at least as many as there are rounds: enough for every client to do all of its operations.
-- Nothing waits any more in a queue of a client, among the asks or among the messages, and nothing is pinned.
use Rattle.std.specs.Prelude.{◌≡◌, ℕ, ◌+◌, ◌-◌, ◌/◌, Bool, ◌&&◌, ◌==◌, nat_le, max, List, length, map, fold, count_by, zip, refl}
use Rattle.std.specs.List.{range_with_len, list_all}
use Rattle.hs_records.specs.declared.journal.Step.{Step}
use Rattle.hs_records.specs.Plain.{PlainWorkload}
use Rattle.hs_client.specs.Sending.{ClientSends}
use Rattle.hs_law_journal.specs.Following.{Chunks, Crumbs, Triggers, Asks, taken, asks_to, is_from, NodeRun, Run, is_done, log_at}
use Rattle.hs_law_journal.specs.Passes.{is_turn}
use Rattle.hs_law_journal.specs.Played.{Played, nodes_of}

-- L8: the journal can be followed
abbrev pub is_followed : Played → Bool
is_followed p = is_done p.run

-- ---- L9

-- how many rounds so many operations take
abbrev pub rounds_for : ℕ → ℕ → ℕ
rounds_for stride operations = (operations + (stride - 1)) / stride

-- the rounds of a workload: those of its longest client
abbrev pub rounds_of : PlainWorkload → ℕ
rounds_of W = fold max 0 (map (λ ops. rounds_for W.settings.stride (length ops)) W.clients)

abbrev pub turns_at : Played → ℕ → ℕ
turns_at p node = count_by is_turn (log_at p.journal node)

-- L9: the passes
abbrev pub has_rounds : Played → Bool
has_rounds p = list_all (λ node. turns_at p node == turns_at p 0 && nat_le (rounds_of p.workload) (turns_at p node)) (nodes_of p.workload)

-- ---- L10

-- whether these steps took all that a client sent
abbrev pub took_all : List Step → ℕ → ClientSends → Bool
took_all log client sends =
    taken (Chunks client) log == length sends.chunks && taken (Crumbs client) log == length sends.crumbs && taken (Triggers client) log == length sends.triggers

-- whether all that a node was sent and told was taken
abbrev pub is_left_bare : Run → NodeRun → Bool
is_left_bare run node =
    list_all (λ (c : ℕ × ClientSends). took_all node.state.log c.0 c.1) (zip (range_with_len 0 (length node.sends)) node.sends)
    && taken Asks node.state.log == length (asks_to node.node run.heard)
    && count_by (is_from (record { 0 = node.node })) run.heard == length node.state.said && length node.state.pinned == 0

-- L10: nothing is left over
abbrev pub is_bare : Played → Bool
is_bare p = list_all (is_left_bare p.run) p.run.nodes

-- ---- examples

-- seventeen operations in strides of eight, and in strides of one
rounds : (rounds_for 8 17 ≡ 3) × (rounds_for 8 16 ≡ 2) × (rounds_for 1 3 ≡ 3) × (rounds_for 64 0 ≡ 0)
rounds = (refl, refl, refl, refl)
