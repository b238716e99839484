use Rattle.std.proofs.Common.{ap}
use Rattle.hs_words.specs.Chunks.{Contents}
use Rattle.tests_with.proofs.PageLemmas.{started, one_more}
use Rattle.tests_parts.proofs.collect.fill_second.Goals as goal

pub returns-in-Added : goal.returns-in-Added
returns-in-Added c = λ fits.
    one_more c.start.new.self c.add.new.self 1 1 0 _
    (started c.start.new.self (record { trace = record { 0 = 1 }; client = record { node = 0; number = 0 }; page = 1; first = 1 }) (ap (λ (k : Contents). k.page) c.start.ensures)) c.in-Added.ensures.1
