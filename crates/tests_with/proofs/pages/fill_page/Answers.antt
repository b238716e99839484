use Rattle.std.proofs.Common.{ap, arith}
use Rattle.hs_words.specs.Chunks.{Contents}
use Rattle.tests_with.proofs.PageLemmas.{started, one_more}
use Rattle.tests_with.proofs.pages.fill_page.Goals as goal

pub loop-moment-init : goal.loop-moment-init
loop-moment-init c = (started c.start.new.self (record { trace = record { 0 = c.from.result }; client = record { node = 0; number = 0 }; page = c.args.page; first = c.args.first }) (ap (λ (k : Contents). k.page) c.start.ensures), omega arith)

pub loop-moment-preserved : goal.loop-moment-preserved
loop-moment-preserved c = (one_more c.loop-moment.chunk c.add.new.self c.args.page c.args.first c.loop-moment.count _ c.loop-moment.invariant.0 c.in-Added.ensures.1, omega arith)
