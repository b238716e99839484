use Rattle.std.proofs.Common.{codes, ap, ◌∙◌}
use Rattle.serde_json.specs.Data.{Members, object, put}
use Rattle.serde_json.specs.View.{view, members_view}
use Rattle.serde_json.proofs.Views.{view-Object}
use Rattle.hs_json.proofs.values.report_object.Goals as goal

pub returns : goal.returns
returns c =
    view-Object c.put_shown.new.members
    ∙ ap object (c.in_ok-put_shown.ensures
    ∙ ap (λ (members : Members). put (codes "trace") (view c.args.trace) (put (codes "records") (view c.args.records) members))
    (c.in_ok-put.ensures.ok ∙ ap (λ (members : Members). put (codes "gaps") (view c.args.gaps) members) (ap members_view c.new-members.ensures.empty)))
