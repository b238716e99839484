-- What an agent bears and said grows by one at most with each item that it takes, and with nothing else.
use Rattle.std.proofs.Common.{◌≡◌, ℕ, ◌+◌, ◌≤◌, ◌++◌, length, ap, arith, length-append}
use Rattle.hs_law_journal.proofs.Prelude.{option_to_list, AgentState, Input, Chunk, Crumbed, Triggered, Asked, Turn, Took, StepsSayWhatTheyTell, after_event, told_by, PlainSettings}
use Rattle.hs_law_agent.specs.Laws.{borne, brought_by, EventsAddFew}
use Rattle.hs_base.proofs.Parts.{option_to_list_short}

-- what an agent bears and said
abbrev pub load_in : AgentState → ℕ
load_in state = borne state + length state.said

-- what an input adds
abbrev pub weight : Input → ℕ
weight (Chunk client sheet) = 1
weight (Crumbed client crumb) = 1
weight (Triggered client trigger) = 1
weight (Asked ask) = 1
weight Turn = 0

pub load_input : EventsAddFew → StepsSayWhatTheyTell → (settings : PlainSettings) (node : ℕ) (state : AgentState) (input : Input) → load_in (after_event settings node state (Took input)) ≤ load_in state + weight input
load_input add says settings node state input =
    let more = (add settings node state).load input in
    let said = ap length ((says settings node state).inputs input) in
    let both = length-append state.said (option_to_list (told_by settings node state input)) in
    by_input input more said both
  where
    by_input : (input : Input) → borne (after_event settings node state (Took input)) ≤ borne state + length (brought_by (Took input))
        → length (after_event settings node state (Took input)).said ≡ length (state.said ++ option_to_list (told_by settings node state input))
        → length (state.said ++ option_to_list (told_by settings node state input)) ≡ length state.said + length (option_to_list (told_by settings node state input))
        → load_in (after_event settings node state (Took input)) ≤ load_in state + weight input
    by_input (Chunk client sheet) more said both = omega (arith, more, said, both)
    by_input (Crumbed client crumb) more said both = let few = option_to_list_short (told_by settings node state (Crumbed client crumb)) in omega (arith, more, said, both, few)
    by_input (Triggered client trigger) more said both = let few = option_to_list_short (told_by settings node state (Triggered client trigger)) in omega (arith, more, said, both, few)
    by_input (Asked ask) more said both = let few = option_to_list_short (told_by settings node state (Asked ask)) in omega (arith, more, said, both, few)
    by_input Turn more said both = omega (arith, more, said, both)
