-- What steps take, which asks are sent, and how far small journals can be followed.
use Rattle.std.specs.Prelude.{◌≡◌, true, false, [], ◌∷◌, map, length, refl}
use Rattle.hs_base.specs.declared.ids.NodeId.{NodeId}
use Rattle.hs_base.specs.declared.told.Ask.{Ask}
use Rattle.hs_base.specs.declared.told.Why.TheVariants.{Fired, Answer}
use Rattle.hs_coord.specs.Messages.{Message, sample}
use Rattle.hs_records.specs.declared.journal.Draw.TheVariants.{Got}
use Rattle.hs_law_journal.specs.Following.{Chunks, Crumbs, Triggers, Asks, takes, taken, asks_to, NodeRun, followed, is_done}
use Rattle.hs_law_journal.specs.Journals
use Rattle.hs_law_journal.specs.Samples.{journal, alone, chunk, crumb, ask, turn, given}
use Rattle.hs_law_journal.specs.Workloads.{one_point, three_traces, trigger_first, four_nodes}

-- each step takes from one queue or from none
step_takes : (takes (Chunks 0) chunk ≡ true) × (takes (Chunks 1) chunk ≡ false) × (takes (Crumbs 0) chunk ≡ false) × (takes Asks ask ≡ true) × (takes (Triggers 0) turn ≡ false) × (takes Asks (given 3) ≡ false)
step_takes = (refl, refl, refl, refl, refl, refl)

taken_of_a_log : (taken (Chunks 0) (chunk ∷ chunk ∷ crumb ∷ turn ∷ chunk ∷ []) ≡ 3) × (taken (Crumbs 0) (chunk ∷ crumb ∷ turn ∷ []) ≡ 1) × (taken Asks (chunk ∷ turn ∷ []) ≡ 0)
taken_of_a_log = (refl, refl, refl)

-- node 0 fires with a crumb to node 1, which answers with one to node 2: each is asked once, for the first message's lead
asked_once : (map (λ (a : Ask). a.group.lead.0) (asks_to 1 (sample 0 2 Fired ∷ sample 1 6 Answer ∷ [])) ≡ 100 ∷ [])
    × (map (λ (a : Ask). a.group.lead.0) (asks_to 2 (sample 0 2 Fired ∷ sample 1 6 Answer ∷ [])) ≡ 100 ∷ [])
    × (asks_to 2 (sample 0 2 Fired ∷ []) ≡ []) × (asks_to 0 (sample 0 3 Fired ∷ sample 1 1 Answer ∷ []) ≡ [])
asked_once = (refl, refl, refl, refl)

-- all is performed, or not
performed : (is_done (followed three_traces Journals.of_three_traces) ≡ true) × (is_done (followed one_point (alone (Got 0 0 ∷ []) (chunk ∷ chunk ∷ turn ∷ []) [])) ≡ false)
performed = (refl, refl)

-- what cannot be performed is left, with all behind it
left_over : map (λ (node : NodeRun). node.left) (followed one_point (alone (Got 0 0 ∷ []) (chunk ∷ chunk ∷ turn ∷ []) [])).nodes ≡ (chunk ∷ turn ∷ []) ∷ []
left_over = refl

-- a claim may be performed before its chunk comes, but no message is heard that was not told
not_told : map (λ (node : NodeId). node.0) (followed trigger_first (alone (Got 0 0 ∷ []) (turn ∷ turn ∷ []) (0 ∷ []))).left ≡ 0 ∷ []
not_told = refl

-- four nodes: the coordinator hears nodes 0, 1 and 2, and two of them only since they were asked
heard_in_order : map (λ (m : Message). m.node.0) (followed four_nodes Journals.of_four_nodes).heard ≡ 0 ∷ 1 ∷ 2 ∷ []
heard_in_order = refl

-- an ask that its own answer would lead to is not ready: node 2 is not asked before node 1 told of it
no_ask_of_itself : is_done (followed four_nodes
    (journal 4 1
    ((Got 0 0 ∷ []) ∷ (Got 0 0 ∷ []) ∷ (Got 0 0 ∷ []) ∷ (Got 0 0 ∷ []) ∷ [])
    ((chunk ∷ crumb ∷ turn ∷ []) ∷ (chunk ∷ crumb ∷ turn ∷ []) ∷ (chunk ∷ crumb ∷ ask ∷ turn ∷ given 1 ∷ []) ∷ (chunk ∷ turn ∷ []) ∷ [])
    (2 ∷ [])))
    ≡ false
no_ask_of_itself = refl

-- each event that an agent met is kept
events_kept : map (λ (node : NodeRun). length node.events) (followed three_traces Journals.of_three_traces).nodes ≡ 5 ∷ []
events_kept = refl
