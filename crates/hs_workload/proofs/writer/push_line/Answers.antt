use Rattle.std.proofs.Common.{◌++◌, map, decimal, ap, ◌∙◌}
use Rattle.hs_workload.proofs.Prelude.{line_written, keyword_text}
use Rattle.hs_workload.proofs.writer.push_line.Goals as goal

pub returns : goal.returns
returns c =
    line_written c.args.out.now.items (keyword_text c.args.keyword) (map decimal c.args.numbers.now) _ _ _
    (c.in_ok-extend_from_slice.ensures.items ∙ ap (λ word. c.args.out.now.items ++ word) c.text.ensures) c.in_ok-push_spaced_numbers.ensures c.in_ok-end_line.ensures
