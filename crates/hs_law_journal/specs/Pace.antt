-- The clause L11 of the lawful journal: agents and coordinator do not fall behind the clients. An operation has a round, by the
-- stride, and a draw that of the operation that starts its page. The gives of a pass come behind the draws of earlier rounds and
-- before those of later rounds. What the rounds up to one send is taken by the pass behind it, or at least 64 items more than by
-- the pass before it; and likewise asks.
use Rattle.std.specs.Prelude.{◌≡◌, ℕ, zero, suc, ◌+◌, ◌-◌, ◌*◌, Bool, true, ◌&&◌, nat_lt, nat_le, min, List, length, take, count_by, zip, find, unwrap_or, refl, if◌then◌else◌}
use Rattle.std.specs.List.{range_with_len, list_all}
use Rattle.hs_base.specs.declared.limits.TheConstants.{MAX_TAKEN}
use Rattle.hs_coord.specs.Following.{Messages}
use Rattle.hs_records.specs.declared.journal.Step.{Step}
use Rattle.hs_records.specs.Plain.{PlainSettings}
use Rattle.hs_client.specs.Drawn.{DrawnPage, stamp_of}
use Rattle.hs_client.specs.Sending.{Sent, ClientSends, sent_within}
use Rattle.hs_law_journal.specs.Following.{Queue, Chunks, Crumbs, Triggers, Asks, asks_to, is_from, NodeRun, Run}
use Rattle.hs_law_journal.specs.Passes.{passes_of, steps_in, taken_in}
use Rattle.hs_law_journal.specs.Played.{Played, state_behind}
use Rattle.hs_law_journal.specs.Pooled.{node_pages}
use Rattle.hs_law_journal.specs.Shape.{log_stamps}
use Rattle.hs_law_journal.specs.Unreads.{round_of}

-- the passes of a node beside their numbers, from 1
abbrev pub numbered_passes : NodeRun → List (ℕ × List Step)
numbered_passes run = let passes = passes_of run.state.log in zip (range_with_len 1 (length passes)) passes

-- the numbers of the passes behind which another one comes
abbrev pub inner_passes : List (List Step) → List ℕ
inner_passes passes = range_with_len 1 (length passes - 1)

-- ---- gives beside draws

-- whether a stamp of a pass is on its side of a draw
abbrev pub is_beside : ℕ → ℕ → ℕ → DrawnPage → Bool
is_beside stride pass stamp page =
    let round = round_of stride page.started in
    if nat_lt round pass then nat_lt (stamp_of page.draw) stamp else (if nat_lt pass round then nat_lt stamp (stamp_of page.draw) else true)

abbrev pub gives_in_pace : PlainSettings → NodeRun → Bool
gives_in_pace settings run =
    list_all
    (λ (pass : ℕ × List Step). list_all (λ stamp. list_all (is_beside settings.stride pass.0 stamp) (node_pages run)) (log_stamps pass.1))
    (numbered_passes run)

-- ---- items beside operations

-- whether the pass behind this one takes enough of a queue in which so many items stand by the end of its round
abbrev pub takes_enough : List (List Step) → Queue → ℕ → ℕ → Bool
takes_enough passes queue sent k = nat_le (min sent (taken_in passes queue (k - 1) + MAX_TAKEN)) (taken_in passes queue (k + 1))

abbrev pub queue_in_pace : {A : Type 0} → PlainSettings → List (List Step) → Queue → List (Sent A) → Bool
queue_in_pace settings passes queue items =
    list_all (λ k. takes_enough passes queue (length (sent_within (k * settings.stride) items)) k) (inner_passes passes)

abbrev pub client_in_pace : PlainSettings → List (List Step) → ℕ → ClientSends → Bool
client_in_pace settings passes client sends =
    queue_in_pace settings passes (Chunks client) sends.chunks && queue_in_pace settings passes (Crumbs client) sends.crumbs
    && queue_in_pace settings passes (Triggers client) sends.triggers

abbrev pub items_in_pace : PlainSettings → NodeRun → Bool
items_in_pace settings run =
    let passes = passes_of run.state.log in
    list_all (λ (c : ℕ × ClientSends). client_in_pace settings passes c.0 c.1) (zip (range_with_len 0 (length run.sends)) run.sends)

-- ---- asks beside messages

-- how many messages a node said in its first so many passes
abbrev pub said_in : PlainSettings → NodeRun → ℕ → ℕ
said_in settings run k = length (state_behind settings run (steps_in (passes_of run.state.log) k)).said

-- How many of its messages the coordinator has to have taken so many passes behind the first: at most 64 more with each pass, of
-- what was said by the pass before.
abbrev pub due_of : (ℕ → ℕ) → ℕ → ℕ
due_of said zero = 0
due_of said (suc passes) = min (due_of said passes + MAX_TAKEN) (said (suc passes))

-- what is due of a node by pass k
abbrev pub due_by : PlainSettings → ℕ → NodeRun → ℕ
due_by settings k run = due_of (said_in settings run) (k - 1)

-- whether these messages have what is due of each node
abbrev pub has_due : PlainSettings → Run → ℕ → Messages → Bool
has_due settings run k messages = list_all (λ (node : NodeRun). nat_le (due_by settings k node) (count_by (is_from (record { 0 = node.node })) messages)) run.nodes

-- the shortest beginning of what the coordinator took that has what is due by pass k
abbrev pub heard_by : PlainSettings → Run → ℕ → Messages
heard_by settings run k =
    take (unwrap_or (find (λ n. has_due settings run k (take n run.heard)) (range_with_len 0 (length run.heard))) (length run.heard)) run.heard

-- whether the pass behind this one takes enough of the asks that those messages send
abbrev pub asks_enough : PlainSettings → Run → NodeRun → List (List Step) → ℕ → Bool
asks_enough settings run node passes k =
    let before = taken_in passes Asks k in
    nat_le (min MAX_TAKEN (length (asks_to node.node (heard_by settings run k)) - before)) (taken_in passes Asks (k + 1) - before)

abbrev pub asks_in_pace : PlainSettings → Run → NodeRun → Bool
asks_in_pace settings run node =
    let passes = passes_of node.state.log in
    list_all (asks_enough settings run node passes) (inner_passes passes)

-- ---- L11

-- L11: the pace
abbrev pub has_pace : Played → Bool
has_pace p =
    let settings = p.workload.settings in
    list_all (λ (run : NodeRun). gives_in_pace settings run && items_in_pace settings run && asks_in_pace settings p.run run) p.run.nodes

-- ---- examples

-- a node that said 100 messages in its first pass and none later
due_of_hundred : (due_of (λ k. 100) 0 ≡ 0) × (due_of (λ k. 100) 1 ≡ 64) × (due_of (λ k. 100) 2 ≡ 100) × (due_of (λ k. 100) 3 ≡ 100)
due_of_hundred = (refl, refl, refl, refl)
