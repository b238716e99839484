use Rattle.std.proofs.Common.{List, ◌++◌, ap, ◌∙◌}
use Rattle.hs_run.proofs.Prelude.{NodeId}
use Rattle.hs_run.proofs.finishing.told_of.Goals as goal

pub returns : goal.returns
returns c W heard moved asked is =
    c.in_ok-append_slice.ensures.ok ∙ ap (λ (l : List NodeId). l ++ c.as_slice.result.now) c.new-told.ensures.items ∙ c.as_slice.ensures ∙ c.log.ensures W heard moved asked is
