-- What contracts see of an agent at work.
use Rattle.hs_run_actors.specs.declared.working.WorkingAgent.{WorkingAgent}
use Rattle.hs_run_actors.specs.Stages.{PlainWorkingAgent}

abbrev pub plain_working_agent : WorkingAgent → PlainWorkingAgent
plain_working_agent desk = record { agent = desk.agent; asks = desk.asks.items; said = desk.said.items }
