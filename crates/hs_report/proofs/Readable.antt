-- The journal of a valid workload can be read.
use Rattle.hs_law_outcome.proofs.Followed.{ends_its_traces}
use Rattle.hs_records.specs.Laws.{PagesHoldThePieces}
use Rattle.hs_records.specs.declared.setting.Setting.TheVariants as settings
use Rattle.hs_report.specs.Readable.{LawfulJournalsCanBeRead, JournalsCanBeRead}
use Rattle.hs_outcome.proofs.Fitting.{PagesCarry, PiecesCounted, few_pages_each}

pub readable : PagesCarry → PagesHoldThePieces → PiecesCounted → LawfulJournalsCanBeRead → JournalsCanBeRead
readable carry hold counted law W J valid lawful =
    law W J (ends_its_traces W valid) valid.count
    (record {
      nodes = valid.head settings.Nodes;
      clients = valid.head settings.Clients;
      buffers = (valid.head settings.Buffers).1;
      pages = few_pages_each carry hold counted W.version W.settings W.settings.size W.clients (valid.head settings.Size).0 valid.each valid.few;
    }) lawful
