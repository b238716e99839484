-- For the worked examples: journals as plain data, of one node with one client and of more.
use Rattle.std.specs.Prelude.{ℕ, List, [], ◌∷◌, map}
use Rattle.hs_records.specs.declared.journal.Draw.{Draw}
use Rattle.hs_records.specs.declared.journal.Step.{Step}
use Rattle.hs_records.specs.declared.journal.Step.TheVariants as steps
use Rattle.hs_records.specs.Journals.{PlainJournal}

abbrev pub journal : (nodes clients : ℕ) → List (List Draw) → List (List Step) → List ℕ → PlainJournal
journal nodes clients draws logs told =
    record {
      nodes = nodes;
      clients = clients;
      draws = draws;
      logs = logs;
      told = map (λ (node : ℕ). record { 0 = node }) told;
    }

-- one node with one client; the coordinator took these messages
abbrev pub alone : List Draw → List Step → List ℕ → PlainJournal
alone draws log told = journal 1 1 (draws ∷ []) (log ∷ []) told

abbrev pub chunk : Step
chunk = steps.Chunk 0

abbrev pub crumb : Step
crumb = steps.Crumb 0

abbrev pub trigger : Step
trigger = steps.Trigger 0

abbrev pub ask : Step
ask = steps.Ask

abbrev pub turn : Step
turn = steps.Turn

abbrev pub given : ℕ → Step
given stamp = steps.Given stamp

abbrev pub missed : ℕ → Step
missed stamp = steps.Missed stamp

abbrev pub unread : Step
unread = steps.Unread
