use Rattle.std.proofs.Common.{◌∙◌, ap}
use Rattle.std.specs.Map.{lookup}
use Rattle.hs_coord.specs.Following.{same_group}
use Rattle.hs_coord.specs.Kept.{PlainCoordinator}
use Rattle.hs_coord.proofs.KeptLemmas.{asked_some, asked_none}
use Rattle.hs_coord.proofs.coordinator.Coordinator.asked.Goals as goal

pub returns-in-Some : goal.returns-in-Some
returns-in-Some c = λ messages h.
    asked_some c.args.self.now messages c.args.group c.in-Some.followed.now h
    (c.in-Some.ensures.value ∙ ap (λ (s : PlainCoordinator). lookup (same_group c.args.group) s.groups) c.self.view_is)

pub returns-in-None : goal.returns-in-None
returns-in-None c = λ messages h.
    asked_none c.args.self.now messages c.args.group h
    (c.in-None.ensures.value ∙ ap (λ (s : PlainCoordinator). lookup (same_group c.args.group) s.groups) c.self.view_is)
