use Rattle.std.proofs.Common.{◌++◌, ◌∷◌, [], map, ap, ◌∙◌}
use Rattle.hs_journal.specs.Statements.{statement_line, told_statement}
use Rattle.hs_journal.specs.Grammar.{head_statement, draw_statements, log_statements, statements_text}
use Rattle.hs_journal.proofs.Writing.{written}
use Rattle.hs_journal.proofs.writer.write_journal.Goals as goal

pub returns : goal.returns
returns c =
    let J = c.args.journal.now in
    let head = c.in_ok-push_line.ensures in
    let draws = c.in_ok-push_clients.ensures in
    let logs = c.in_ok-push_logs.ensures in
    let told = c.in_ok-push_told.ensures in
    c.from_vec.ensures.items
    ∙ written J.nodes J.clients _ _ _ c.in_ok-out.out.items c.push_line.new.out.items c.push_clients.new.out.items c.push_logs.new.out.items c.push_line-2.new.out.items
    c.push_told.new.out.items c.push_line-3.new.out.items c.in_ok-out.ensures.items
    (head ∙ ap (λ n. c.in_ok-out.out.items ++ (statement_line (head_statement n c.from-clients.result) ++ 10 ∷ [])) c.from-nodes.ensures
    ∙ ap (λ n. c.in_ok-out.out.items ++ (statement_line (head_statement J.nodes n) ++ 10 ∷ [])) c.from-clients.ensures)
    (draws ∙ ap (λ lists. c.push_line.new.out.items ++ statements_text (draw_statements J.clients 0 (map (λ drawn. drawn.items) lists))) c.as_slice.ensures)
    (logs ∙ ap (λ lists. c.push_clients.new.out.items ++ statements_text (log_statements 0 (map (λ log. log.items) lists))) c.as_slice-2.ensures)
    c.in_ok-push_line-2.ensures
    (told ∙ ap (λ nodes. c.push_line-2.new.out.items ++ statements_text (map told_statement nodes)) c.as_slice-3.ensures)
    c.in_ok-push_line-3.ensures
