use Rattle.tests_threads.proofs.Lasts.{goes_on}
use Rattle.tests_threads.proofs.board.publish_next.Goals as goal

pub returns : goal.returns
returns g c = goes_on c.publish.result c.args.writer.now c.publish.new.self c.after.result c.args.round c.publish.ensures.ok c.publish.ensures.err c.after.ensures c.requires
