use Rattle.std.proofs.Common.{codes, ap, ◌∙◌}
use Rattle.serde_json.specs.Data.{Members, put}
use Rattle.serde_json.specs.View.{view}
use Rattle.hs_json.proofs.values.put_shown.Goals as goal

pub returns : goal.returns
returns c = c.in_ok-put-2.ensures.ok ∙ ap (λ (members : Members). put (codes "trace") (view c.args.trace) members) c.in_ok-put.ensures.ok
