-- Worked examples of what the contracts of nodes speak of.
use Rattle.std.specs.Prelude.{◌≡◌, ℕ, zero, suc, ◌+◌, ◌≤◌, true, false, [], ◌∷◌, map, length, Some, None, option_map, slice_get, refl}
use Rattle.std.proofs.Common.{ap, arith}
use Rattle.hs_base.specs.declared.told.Ask.{Ask}
use Rattle.hs_base.specs.declared.told.Told.{Told}
use Rattle.hs_base.specs.Changing.{ChangesAt}
use Rattle.hs_coord.specs.declared.asks.Asks.{Asks}
use Rattle.hs_law_journal.specs.Following.{takes, followed}
use Rattle.hs_law_journal.specs.Journals.{of_trigger_first}
use Rattle.hs_law_journal.specs.Workloads.{trigger_first, short_of_pins}
use Rattle.hs_law_run.specs.Lockstep.{machine_start}
use Rattle.hs_records.specs.declared.journal.Step.TheVariants as steps
use Rattle.hs_replay.specs.All.{clients_gone}
use Rattle.hs_replay.specs.declared.queue.Queue.TheVariants as queues
use Rattle.hs_replay.specs.Hearing.{with_ask, with_told, asked_by, TellsNext, AreAsked, waiting}
use Rattle.hs_replay.specs.Parts.{PlainReplayNode}
use Rattle.hs_replay.specs.Queues.{queue_of, step_from}
use Rattle.hs_replay.specs.Standing.{Remain}

-- of three items none, one and all are gone
none_gone : Remain {A = ℕ} 0 (7 ∷ 8 ∷ 9 ∷ []) (7 ∷ 8 ∷ 9 ∷ [])
none_gone = record { front = []; all_is = refl; count = refl }

one_gone : Remain {A = ℕ} 1 (7 ∷ 8 ∷ 9 ∷ []) (8 ∷ 9 ∷ [])
one_gone = record { front = 7 ∷ []; all_is = refl; count = refl }

all_gone : Remain {A = ℕ} 3 (7 ∷ 8 ∷ 9 ∷ []) []
all_gone = record { front = 7 ∷ 8 ∷ 9 ∷ []; all_is = refl; count = refl }

-- the second item of three went up by two
second_changed : ChangesAt 1 (7 ∷ 8 ∷ 9 ∷ []) (7 ∷ 10 ∷ 9 ∷ []) (λ before now. now ≡ before + 2)
second_changed = record { before = 8; stood = refl; now = 10; set = refl; became = refl }

-- the step of a queue takes from this queue, and from no other
own_chunks : (takes (queue_of (queues.Chunks 2)) (step_from (queues.Chunks 2)) ≡ true) × (takes (queue_of (queues.Chunks 2)) (step_from (queues.Chunks 3)) ≡ false)
    × (takes (queue_of (queues.Chunks 2)) (step_from (queues.Crumbs 2)) ≡ false)
own_chunks = (refl, refl, refl)

own_asks : (takes (queue_of queues.Asks) (step_from queues.Asks) ≡ true) × (takes (queue_of queues.Asks) steps.Turn ≡ false)
own_asks = (refl, refl)

-- the message that waits before the others is told next, and a node without one tells nothing
tells_first : (told : Told) (node : PlainReplayNode) → TellsNext (with_told told node) (Some told) node
tells_first told node = refl

tells_nothing : (node : PlainReplayNode) → node.said ≡ [] → TellsNext node None node
tells_nothing node none = (none, refl)

-- an ask that goes to the node 1 alone, when two nodes were passed
abbrev to_the_second : Ask → Asks
to_the_second ask = record { ask = ask; to = record { 0 = 2 } }

second_is_asked : (ask : Ask) (a b : PlainReplayNode) → AreAsked (to_the_second ask) 2 (a ∷ b ∷ []) (a ∷ with_ask ask b ∷ [])
second_is_asked ask a b = record { count = refl; before = λ n node there low. before n node there; behind = λ n node there high. behind n node there high }
  where
    before : (n : ℕ) (node : PlainReplayNode) → slice_get (a ∷ b ∷ []) n ≡ Some node → slice_get (a ∷ with_ask ask b ∷ []) n ≡ Some (asked_by (to_the_second ask) n node)
    before zero node there = there
    before (suc zero) node there = ap (option_map (with_ask ask)) there
    before (suc (suc n)) node there = let no : None ≡ Some node = there in absurd cc

    behind : (n : ℕ) (node : PlainReplayNode) → slice_get (a ∷ b ∷ []) n ≡ Some node → 2 ≤ n → slice_get (a ∷ with_ask ask b ∷ []) n ≡ Some node
    behind zero node there high = absurd (omega arith)
    behind (suc zero) node there high = absurd (omega arith)
    behind (suc (suc n)) node there high = let no : None ≡ Some node = there in absurd cc

-- a node told one message, which waits until it is heard
one_waits : option_map (waiting [] 0) (slice_get (followed trigger_first of_trigger_first).nodes 0) ≡ Some 1
one_waits = refl

-- of two nodes with a client each the client of the first went, and drew for its three pages
first_went : map length (clients_gone short_of_pins (machine_start short_of_pins) 1).journal.draws ≡ 3 ∷ 0 ∷ []
first_went = refl
