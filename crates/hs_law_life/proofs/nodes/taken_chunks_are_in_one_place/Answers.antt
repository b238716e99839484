use Rattle.hs_agent.specs.Runs.{state_of}
use Rattle.hs_law_life.proofs.nodes.taken_chunks_are_in_one_place.Goals as goal

pub returns : goal.returns
returns c = λ run d place stands.
    let lists = c.lists_go_on.ensures run.settings run.node in
    (lists (state_of run) ((lists run.start stands.follows.good).events run.events)).partition place
