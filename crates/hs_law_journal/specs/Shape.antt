-- The clauses L1 and L2 of the lawful journal: its shape, and its stamps. The journal has the nodes and clients of the workload,
-- a log for each node, and for each client a draw for each of its pages. The stamps of a node number what happens at its pool,
-- from 0 on, with none left out and none twice; within a client's draws, and within a log, a later one is higher.
use Rattle.std.specs.Prelude.{◌≡◌, ℕ, Bool, true, false, ◌&&◌, ◌==◌, nat_lt, List, [], ◌∷◌, ◌++◌, length, map, Option, Some, None, filter_map, count_by, refl}
use Rattle.std.specs.List.{flat_map, range_with_len, list_all}
use Rattle.hs_records.specs.declared.journal.Draw.{Draw}
use Rattle.hs_records.specs.declared.journal.Step.{Step}
use Rattle.hs_records.specs.declared.journal.Step.TheVariants as steps
use Rattle.hs_records.specs.Journals.{PlainJournal}
use Rattle.hs_records.specs.Plain.{PlainWorkload}
use Rattle.hs_records.specs.Pages.{pages_of}
use Rattle.hs_client.specs.Drawn.{stamp_of}
use Rattle.hs_client.specs.Sending.{draws_at, place_of}
use Rattle.hs_law_journal.specs.Following.{log_at}
use Rattle.hs_law_journal.specs.Played.{Played, nodes_of, clients_of}

-- ---- L1

-- whether these counts are those, one for one
abbrev pub same_counts : List ℕ → List ℕ → Bool
same_counts [] [] = true
same_counts (a ∷ counts) (b ∷ others) = a == b && same_counts counts others
same_counts _ _ = false

-- L1: the shape
abbrev pub has_shape : Played → Bool
has_shape p =
    p.journal.nodes == p.workload.settings.nodes && p.journal.clients == p.workload.settings.clients
    && length p.journal.logs == p.workload.settings.nodes
    && same_counts (map length p.journal.draws) (map (λ ops. length (pages_of p.workload.settings.size ops)) p.workload.clients)

-- ---- L2

-- the stamp of an offer that was an event of the pool
abbrev pub step_stamp : Step → Option ℕ
step_stamp (steps.Given stamp) = Some stamp
step_stamp (steps.Missed stamp) = Some stamp
step_stamp _ = None

abbrev pub log_stamps : List Step → List ℕ
log_stamps log = filter_map step_stamp log

-- the draws of each client of a node
abbrev pub node_draws : PlainWorkload → PlainJournal → ℕ → List (List Draw)
node_draws W J node = map (λ number. draws_at J (place_of W.settings.clients node number)) (clients_of W)

abbrev pub draw_stamps : List Draw → List ℕ
draw_stamps draws = map stamp_of draws

-- the stamps of a node
abbrev pub node_stamps : PlainWorkload → PlainJournal → ℕ → List ℕ
node_stamps W J node = flat_map draw_stamps (node_draws W J node) ++ log_stamps (log_at J node)

-- whether these are as many numbers from 0 on, each once
abbrev pub are_numbered : List ℕ → Bool
are_numbered stamps = list_all (λ s. count_by (λ t. t == s) stamps == 1) (range_with_len 0 (length stamps))

-- whether each of these is above the one before it
abbrev pub rise_above : ℕ → List ℕ → Bool
rise_above before [] = true
rise_above before (stamp ∷ stamps) = nat_lt before stamp && rise_above stamp stamps

abbrev pub rise : List ℕ → Bool
rise [] = true
rise (stamp ∷ stamps) = rise_above stamp stamps

-- L2 at a node
abbrev pub node_has_stamps : PlainWorkload → PlainJournal → ℕ → Bool
node_has_stamps W J node =
    are_numbered (node_stamps W J node) && list_all (λ draws. rise (draw_stamps draws)) (node_draws W J node) && rise (log_stamps (log_at J node))

-- L2: the stamps
abbrev pub has_stamps : Played → Bool
has_stamps p = list_all (node_has_stamps p.workload p.journal) (nodes_of p.workload)

-- ---- examples

numbered : (are_numbered (2 ∷ 0 ∷ 1 ∷ []) ≡ true) × (are_numbered (2 ∷ 0 ∷ []) ≡ false) × (are_numbered (0 ∷ 0 ∷ 1 ∷ []) ≡ false) × (are_numbered [] ≡ true)
numbered = (refl, refl, refl, refl)

rising : (rise (0 ∷ 2 ∷ 7 ∷ []) ≡ true) × (rise (0 ∷ 2 ∷ 2 ∷ []) ≡ false) × (rise (1 ∷ 0 ∷ []) ≡ false) × (rise [] ≡ true)
rising = (refl, refl, refl, refl)

counted : (same_counts (1 ∷ 0 ∷ []) (1 ∷ 0 ∷ []) ≡ true) × (same_counts (1 ∷ []) (1 ∷ 0 ∷ []) ≡ false) × (same_counts (1 ∷ 0 ∷ []) (1 ∷ 1 ∷ []) ≡ false)
counted = (refl, refl, refl)

stamps_of_a_log : log_stamps (steps.Turn ∷ steps.Given 4 ∷ steps.Missed 5 ∷ steps.Unread ∷ steps.Chunk 0 ∷ steps.Turn ∷ steps.Given 7 ∷ []) ≡ 4 ∷ 5 ∷ 7 ∷ []
stamps_of_a_log = refl
