-- The text of a journal: the first line with the numbers of nodes and clients, the draws of each client in the order of
-- node and number, the log of each node, the coordinator's order, and the line `end`. A text reads as a journal that has a
-- text where it is that text.
use Rattle.std.specs.Prelude.{◌≡◌, ℕ, ◌+◌, ◌/◌, ◌%◌, List, [], ◌∷◌, ◌++◌, map, codes, refl}
use Rattle.std.specs.Fmt.{digits}
use Rattle.hs_text.specs.Text.{text_of}
use Rattle.hs_base.specs.declared.ids.NodeId.{NodeId}
use Rattle.hs_records.specs.declared.journal.Draw.{Draw}
use Rattle.hs_records.specs.declared.journal.Draw.TheVariants as draws
use Rattle.hs_records.specs.declared.journal.Step.{Step}
use Rattle.hs_records.specs.declared.journal.Step.TheVariants as steps
use Rattle.hs_journal.specs.declared.word.Keyword.TheVariants as keywords
use Rattle.hs_records.specs.Journals.{PlainJournal, IsJournal}
use Rattle.hs_journal.specs.Statements.{Statement, statement_line, draw_statement, step_statement, told_statement}

-- the first line of the version that there is
abbrev pub head_statement : ℕ → ℕ → Statement
head_statement nodes clients = record { keyword = keywords.Journal; numbers = 1 ∷ nodes ∷ clients ∷ [] }

-- the draws of the clients from one on, where each node has so many
abbrev pub draw_statements : ℕ → ℕ → List (List Draw) → List Statement
draw_statements each client [] = []
draw_statements each client (drawn ∷ more) =
    record { keyword = keywords.Draws; numbers = client / each ∷ client % each ∷ [] } ∷ (map draw_statement drawn ++ draw_statements each (client + 1) more)

-- the logs of the nodes from one on
abbrev pub log_statements : ℕ → List (List Step) → List Statement
log_statements node [] = []
log_statements node (log ∷ more) = record { keyword = keywords.Log; numbers = node ∷ [] } ∷ (map step_statement log ++ log_statements (node + 1) more)

abbrev pub coordinator_statement : Statement
coordinator_statement = record { keyword = keywords.Coordinator; numbers = [] }

-- the coordinator's order so far
abbrev pub order_statements : List NodeId → List Statement
order_statements told = coordinator_statement ∷ map told_statement told

abbrev pub end_statement : Statement
end_statement = record { keyword = keywords.End; numbers = [] }

abbrev pub journal_statements : PlainJournal → List Statement
journal_statements J =
    head_statement J.nodes J.clients ∷ (draw_statements J.clients 0 J.draws ++ (log_statements 0 J.logs ++ (order_statements J.told ++ end_statement ∷ [])))

-- the text of the lines that say this
abbrev pub statements_text : List Statement → List ℕ
statements_text statements = text_of (map statement_line statements)

abbrev pub journal_lines : PlainJournal → List (List ℕ)
journal_lines J = map statement_line (journal_statements J)

abbrev pub journal_text : PlainJournal → List ℕ
journal_text J = statements_text (journal_statements J)

-- the text reads as the journal
pub record Reads (text : List ℕ) (J : PlainJournal) : Type 0 where
  pub journal : IsJournal J
  pub spelled : text ≡ journal_text J

-- worked examples: a client that finds the pool empty at its second draw, and two nodes of two clients each
abbrev pub second_draw_empty : PlainJournal
second_draw_empty =
    record {
      nodes = 1;
      clients = 1;
      draws = (draws.Got 0 0 ∷ draws.Empty 1 ∷ []) ∷ [];
      logs = (steps.Chunk 0 ∷ steps.Turn ∷ []) ∷ [];
      told = [];
    }

abbrev pub second_draw_empty_lines : List (List ℕ)
second_draw_empty_lines =
    codes "journal 1 1 1" ∷ codes "draws 0 0" ∷ codes "got 0 0" ∷ codes "empty 1" ∷ codes "log 0" ∷ codes "chunk 0" ∷ codes "turn"
    ∷ codes "coordinator" ∷ codes "end" ∷ []

second_draw_empty_spelled : journal_lines second_draw_empty ≡ second_draw_empty_lines
unfolding digits
second_draw_empty_spelled = refl

abbrev two_by_two : PlainJournal
two_by_two =
    record {
      nodes = 2;
      clients = 2;
      draws = [] ∷ (draws.Got 1023 12 ∷ []) ∷ [] ∷ [] ∷ [];
      logs = (steps.Trigger 1 ∷ steps.Given 7 ∷ steps.Missed 8 ∷ steps.Unread ∷ []) ∷ (steps.Crumb 0 ∷ steps.Ask ∷ []) ∷ [];
      told = record { 0 = 1 } ∷ record { 0 = 0 } ∷ [];
    }

two_by_two_spelled : journal_lines two_by_two
    ≡ codes "journal 1 2 2" ∷ codes "draws 0 0" ∷ codes "draws 0 1" ∷ codes "got 1023 12" ∷ codes "draws 1 0" ∷ codes "draws 1 1"
    ∷ codes "log 0" ∷ codes "trigger 1" ∷ codes "given 7" ∷ codes "missed 8" ∷ codes "unread" ∷ codes "log 1" ∷ codes "crumb 0" ∷ codes "ask"
    ∷ codes "coordinator" ∷ codes "told 1" ∷ codes "told 0" ∷ codes "end" ∷ []
unfolding digits
two_by_two_spelled = refl
