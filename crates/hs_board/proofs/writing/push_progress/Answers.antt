use Rattle.std.proofs.Common.{◌++◌, ◌∷◌, decimal, ap, ◌∙◌}
use Rattle.hs_board.proofs.Lines.{seen_written}
use Rattle.hs_board.proofs.writing.push_progress.Goals as goal

pub returns : goal.returns
returns c =
    seen_written c.args.progress.now c.args.out.now.items _ _ _ _ _ _ _ _ c.in_ok-extend_from_slice.ensures.items
    (c.in_ok-push_spaced_number.ensures ∙ ap (λ n. c.extend_from_slice.new.self.items ++ 32 ∷ decimal n) c.from.ensures) c.in_ok-push_count.ensures c.in_ok-push_count-2.ensures
    c.in_ok-push_count-3.ensures c.in_ok-push_count-4.ensures c.in_ok-push_count-5.ensures c.in_ok-end_line.ensures
