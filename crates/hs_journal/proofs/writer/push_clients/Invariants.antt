use Rattle.std.proofs.Common.{◌≡◌, ◌++◌, drop, map}
use Rattle.hs_journal.specs.Grammar.{statements_text, draw_statements}
use Rattle.hs_journal.proofs.writer.push_clients.Given as goal

abbrev pub invariant-loop-draws : goal.invariant-loop-draws
invariant-loop-draws l = record {
  place : l.client ≡ l.draws-index;
  text : l.out.items ++ statements_text (draw_statements l.clients l.client (map (λ draws. draws.items) (drop l.draws-index l.lists)))
      ≡ l.initial.out.items ++ statements_text (draw_statements l.clients 0 (map (λ draws. draws.items) l.lists));
}
