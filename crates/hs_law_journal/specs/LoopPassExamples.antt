-- A pass that takes one chunk and has nothing to offer, and the steps by which queues are taken from.
use Rattle.std.specs.Prelude.{◌≡◌, ℕ, ◌≤◌, List, [], ◌∷◌, refl}
use Rattle.std.specs.List.{AllByRecursion}
use Rattle.std.proofs.Common.{lit<, lit≤}
use Rattle.hs_base.specs.declared.limits.TheConstants.{MAX_TAKEN}
use Rattle.hs_base.specs.Samples.{t}
use Rattle.hs_records.specs.declared.journal.Step.TheVariants as steps
use Rattle.hs_law_agent.specs.Stepping.{Chunk, Turn, AgentEvent, Took}
use Rattle.hs_words.specs.Pages.{Sheet}
use Rattle.hs_law_journal.specs.Following.{Queue, Chunks, Crumbs, Triggers, Asks}
use Rattle.hs_law_journal.specs.Workloads.{one_point}
use Rattle.hs_law_journal.specs.LoopPasses.{step_from, IsPass, IsOwn}
use Rattle.hs_records.specs.Plain.{PlainWorkload}

-- the page of the one point
abbrev the_page : Sheet
the_page =
    record {
      header = record { trace = t 1; client = record { node = 0; number = 0 }; page = 0; first = 0 };
      pieces = record { moment = 7; payload = 0xaa ∷ [] } ∷ [];
    }

abbrev pub one_pass : List AgentEvent
one_pass = Took (Chunk 0 the_page) ∷ Took Turn ∷ []

-- the pass takes one chunk, turns, and has nothing to offer
abbrev one_chunk : Queue → ℕ
one_chunk (Chunks client) = 1
one_chunk (Crumbs client) = 0
one_chunk (Triggers client) = 0
one_chunk Asks = 0

few_items : (queue : Queue) → one_chunk queue ≤ MAX_TAKEN
few_items (Chunks client) = lit≤ tt
few_items (Crumbs client) = lit≤ tt
few_items (Triggers client) = lit≤ tt
few_items Asks = lit≤ tt

is_a_pass : IsPass one_point one_pass
is_a_pass = record { counts = one_chunk; few = few_items; offers = []; steps_are = refl }

steps_of_queues : (step_from (Chunks 2) ≡ steps.Chunk 2) × (step_from (Crumbs 0) ≡ steps.Crumb 0) × (step_from Asks ≡ steps.Ask)
steps_of_queues = (refl, refl, refl)

its_clients : AllByRecursion (IsOwn one_point) one_pass
its_clients = (lit< tt, (tt, tt))

-- no pass takes more items of a queue
no_more_of_a_queue : (W : PlainWorkload) (pass : List AgentEvent) (it : IsPass W pass) (queue : Queue) → it.counts queue ≤ MAX_TAKEN
no_more_of_a_queue W pass it queue = it.few queue
