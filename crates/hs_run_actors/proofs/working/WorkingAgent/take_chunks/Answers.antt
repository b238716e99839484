use Rattle.std.proofs.Common.{arith}
use Rattle.hs_run_actors.proofs.Prelude.{buffer_of, plain_working_agent}
use Rattle.hs_run_actors.proofs.Loops.{no_chunks, chunk_came, chunks_work, chunk_more, chunks_out, chunks_full}
use Rattle.hs_run_actors.proofs.working.WorkingAgent.take_chunks.Goals as goal

pub loop-count-init : goal.loop-count-init
loop-count-init g c = λ W work can. no_chunks W work c.args.client (g.E.IntakeEnds.sees c.args.ends.now) (plain_working_agent c.args.self.now) can

pub chunk-requires : goal.chunk-requires
chunk-requires g c =
    let (W, work, can) = c.requires in
    let so_far = c.loop-count.invariant W work can in
    let count = so_far.stands.lines_are.chunks.count in
    let low = can.low in
    omega (arith, count, low)

pub take-requires : goal.take-requires
take-requires g c =
    let (W, work, can) = c.requires in
    let so_far = c.loop-count.invariant W work can in
    let lines = g.E.IntakeEnds.sees c.loop-count.ends in
    (W, chunks_work W work c.args.client (g.E.IntakeEnds.sees c.args.ends.now) c.loop-count.count lines (plain_working_agent c.loop-count.self) so_far, so_far.stands.works, (chunk_came W work.node work.pool c.args.client can.low lines.chunks (buffer_of c.in-Some.held) so_far.stands.lines_are.chunks c.in-Some.ensures.fact))

pub loop-count-preserved : goal.loop-count-preserved
loop-count-preserved g c = λ W work can.
    let so_far = c.loop-count.invariant W work can in
    let old = g.E.IntakeEnds.sees c.args.ends.now in
    let lines = g.E.IntakeEnds.sees c.loop-count.ends in
    let next = g.E.IntakeEnds.sees c.chunk.new.self in
    let desk = plain_working_agent c.loop-count.self in
    let work' = chunks_work W work c.args.client old c.loop-count.count lines desk so_far in
    chunk_more W work c.args.client old c.loop-count.count lines next desk so_far c.chunk.ensures.only (buffer_of c.in-Some.held) (plain_working_agent c.take.new.self) c.in-Some.ensures.hands
    (c.in_ok-take.ensures.works W work' so_far.stands.works (chunk_came W work.node work.pool c.args.client can.low lines.chunks (buffer_of c.in-Some.held) so_far.stands.lines_are.chunks c.in-Some.ensures.fact)) c.take.ensures.asks

pub returns-in_default : goal.returns-in_default
returns-in_default g c = λ W work can.
    let so_far = c.loop-count.invariant W work can in
    let lines = g.E.IntakeEnds.sees c.loop-count.ends in
    chunks_out W work c.args.client (g.E.IntakeEnds.sees c.args.ends.now) c.loop-count.count lines (g.E.IntakeEnds.sees c.chunk.new.self) (plain_working_agent c.loop-count.self) so_far c.chunk.ensures.only (let low = c.loop-count-test.true in omega (arith, low)) c.in_default.ensures.hands

pub returns : goal.returns
returns g c = λ W work can.
    chunks_full W work c.args.client (g.E.IntakeEnds.sees c.args.ends.now) c.loop-count.count (g.E.IntakeEnds.sees c.loop-count.ends) (plain_working_agent c.loop-count.self) (c.loop-count.invariant W work can)
    (let high = c.loop-count-test.false in let low = c.loop-count.auto.count-end in omega (arith, high, low))
