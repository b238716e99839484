use Rattle.hs_law_life.proofs.Spoken.{spoken_first, pass_on, hello_on, carry_on, hear_on}
use Rattle.hs_law_life.proofs.nodes.nodes_speak_on.Goals as goal

pub returns-clause-made : goal.returns-clause-made
returns-clause-made c = spoken_first

pub returns-clause-pass : goal.returns-clause-pass
returns-clause-pass c = pass_on

pub returns-clause-hello : goal.returns-clause-hello
returns-clause-hello c = hello_on

pub returns-clause-carries : goal.returns-clause-carries
returns-clause-carries c = carry_on

pub returns-clause-hears : goal.returns-clause-hears
returns-clause-hears c = hear_on
