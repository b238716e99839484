use Rattle.hs_run.proofs.Prelude.{IfOk-weaker}
use Rattle.hs_run.proofs.finishing.gather.Goals as goal

pub returns : goal.returns
returns c =
    IfOk-weaker c.books_of.result _ _
    (λ books gathered. record { agents = c.close_pools-agents.result; told = c.told_of-told.result; gathered = gathered; finished = c.close_pools-agents.ensures; heard = c.told_of-told.ensures })
    c.books_of.ensures.ok
