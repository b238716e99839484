use Rattle.std.proofs.Common.{◌+◌, ◌++◌, map, refl, sym, ap, ◌∙◌, arith}
use Rattle.hs_base.proofs.Parts.{drop_next}
use Rattle.hs_journal.specs.Statements.{step_statement}
use Rattle.hs_journal.specs.Grammar.{log_statements, statements_text}
use Rattle.hs_journal.proofs.Drafts.{log_at}
use Rattle.hs_journal.proofs.Writing.{next_lines, no_line}
use Rattle.hs_journal.proofs.writer.push_logs.Goals as goal

pub loop-log-preserved : goal.loop-log-preserved
loop-log-preserved c =
    let split = drop_next c.args.logs.now c.loop-log.log-index c.log-item.result (omega arith) c.log-item.is in
    record {
      place = omega arith;
      text =
          next_lines (log_at c.loop-log.node) (map step_statement c.log-item.result.items) (log_statements (c.loop-log.node + 1) _) c.loop-log.out.items c.push_line.new.out.items c.push_steps.new.out.items _
          (ap (λ rest. c.loop-log.out.items ++ statements_text (log_statements c.loop-log.node (map (λ log. log.items) rest))) (sym split) ∙ c.loop-log.invariant.text)
          c.in_ok-push_line.ensures
          (c.in_ok-push_steps.ensures ∙ ap (λ steps. c.push_line.new.out.items ++ statements_text (map step_statement steps)) c.as_slice.ensures);
    }

pub returns : goal.returns
returns c =
    no_line (λ logs. log_statements c.loop-log.node (map (λ log. log.items) logs)) c.loop-log.out.items _ c.args.logs.now c.loop-log.log-index refl (omega arith) c.loop-log.invariant.text
