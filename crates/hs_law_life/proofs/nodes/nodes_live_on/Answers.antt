use Rattle.std.proofs.Common.{refl}
use Rattle.hs_law_life.proofs.Passing.{passes_lead, quiet}
use Rattle.hs_law_life.proofs.Living.{begins_by, same_rules}
use Rattle.hs_law_life.proofs.nodes.nodes_live_on.Goals as goal

pub returns-clause-made : goal.returns-clause-made
returns-clause-made c = begins_by

pub returns-clause-pass : goal.returns-clause-pass
returns-clause-pass c = λ settings number acts old new lived passes. let led = passes_lead settings number acts old new lived passes in (led.0, led.1.0)

pub returns-clause-says : goal.returns-clause-says
returns-clause-says c = λ settings number acts node mail lived. quiet settings number acts node.intake mail node.intake.inbox node.intake.claims node.intake.unsaid refl lived

pub returns-clause-hears : goal.returns-clause-hears
returns-clause-hears c = λ settings number acts d bytes answer inbox delivers lived. quiet settings number acts d d.mail inbox d.claims d.unsaid (same_rules d.inbox bytes answer inbox delivers) lived
