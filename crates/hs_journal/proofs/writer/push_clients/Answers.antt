use Rattle.std.proofs.Common.{◌+◌, ◌++◌, map, refl, sym, ap, ◌∙◌, arith}
use Rattle.hs_base.proofs.Parts.{drop_next}
use Rattle.hs_journal.specs.Statements.{draw_statement}
use Rattle.hs_journal.specs.Grammar.{draw_statements, statements_text}
use Rattle.hs_journal.proofs.Drafts.{draws_at}
use Rattle.hs_journal.proofs.Writing.{next_lines, no_line}
use Rattle.hs_journal.proofs.writer.push_clients.Goals as goal

pub loop-draws-preserved : goal.loop-draws-preserved
loop-draws-preserved c =
    let split = drop_next c.args.lists.now c.loop-draws.draws-index c.draws-item.result (omega arith) c.draws-item.is in
    record {
      place = omega arith;
      text =
          next_lines (draws_at c.from-clients.result c.loop-draws.client) (map draw_statement c.draws-item.result.items) (draw_statements c.from-clients.result (c.loop-draws.client + 1) _) c.loop-draws.out.items c.push_line.new.out.items c.push_draws.new.out.items _
          (ap (λ rest. c.loop-draws.out.items ++ statements_text (draw_statements c.from-clients.result c.loop-draws.client (map (λ draws. draws.items) rest))) (sym split) ∙ c.loop-draws.invariant.text)
          c.in_ok-push_line.ensures (c.in_ok-push_draws.ensures ∙ ap (λ drawn. c.push_line.new.out.items ++ statements_text (map draw_statement drawn)) c.as_slice.ensures);
    }

pub returns : goal.returns
returns c =
    no_line (λ lists. draw_statements c.from-clients.result c.loop-draws.client (map (λ draws. draws.items) lists)) c.loop-draws.out.items _ c.args.lists.now c.loop-draws.draws-index refl (omega arith) c.loop-draws.invariant.text
    ∙ ap (λ each. c.args.out.now.items ++ statements_text (draw_statements each 0 (map (λ draws. draws.items) c.args.lists.now))) c.from-clients.ensures
