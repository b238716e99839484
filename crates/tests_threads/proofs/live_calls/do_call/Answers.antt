use Rattle.tests_with.specs.PairLaws.{auto_of}
use Rattle.tests_threads.proofs.live_calls.do_call.Goals as goal

pub sample-requires-clause-auto : goal.sample-requires-clause-auto
sample-requires-clause-auto c = auto_of c.args.client.now.autos c.requires.autos
