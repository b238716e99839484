use Rattle.std.proofs.Common.{◌≡◌, [], ◌∷◌, length, true, false, Some, sym, ap, subst, ◌∙◌, arith}
use Rattle.std.proofs.lemmas.Bool.{false_from_ne_true}
use Rattle.hs_ring.specs.Parts.{Leased}
use Rattle.hs_words.specs.Buffers.{Buffer, buffer_of}
use Rattle.hs_live.specs.Live.{Port}
use Rattle.hs_agent.specs.Keeping.{PlainAgent}
use Rattle.hs_agent.specs.Runs.{AgentRun}
use Rattle.hs_intake.specs.Intakes.{PlainIntake, Stands, Chunk, chunk_line}
use Rattle.hs_intake.specs.IntakeLayout.{intake_in}
use Rattle.hs_intake.specs.Taking.{TakesOne, HoldsOne}
use Rattle.hs_intake.proofs.Acts.{took_chunk, held_chunk, took_alive, held_alive, chunks_counted}
use Rattle.hs_intake.proofs.Lines.{receives_one}
use Rattle.hs_intake.proofs.intake.Intake.take_chunk.Goals as goal

pub chunk-requires : goal.chunk-requires
chunk-requires c = let low = c.requires.low in let same = ap (λ (d : PlainIntake). d.clients) c.self.view_is in let count = c.self.invariant.chunks in omega (arith, low, same, count)

pub returns-in-Ok-clause-next : goal.returns-in-Ok-clause-next
returns-in-Ok-clause-next c = λ run stands.
    let d = intake_in c.self.inside in
    let there : Stands run d = subst (λ (x : PlainIntake). Stands run x) (sym c.self.view_is) stands in
    let buffer = buffer_of c.in-Some.held in
    subst (λ (x : PlainIntake). TakesOne run chunk_line c.args.client x (record d { agent = c.try_chunk.new.self; port = c.chunk.new.self })) c.self.view_is
    (took_chunk run d c.args.client buffer c.chunk.new.self c.try_chunk.new.self there c.in-Some.ensures.end c.in-Some.ensures.received c.chunk.ensures.only
    (c.in-Ok.ensures.after run there.follows))

pub returns-in-Err-clause-next : goal.returns-in-Err-clause-next
returns-in-Err-clause-next c = λ run stands.
    let d = intake_in c.self.inside in
    let there : Stands run d = subst (λ (x : PlainIntake). Stands run x) (sym c.self.view_is) stands in
    let buffer = buffer_of c.in-Some.held in
    let port = c.chunk.new.self in
    let client = c.args.client in
    subst (λ (x : PlainIntake). HoldsOne run chunk_line client x (record d { agent = c.try_chunk.new.self; port = port; back = Some (Chunk client (buffer_of c.in-Err.held)) })) c.self.view_is
    (subst (λ (b : Buffer Leased). HoldsOne run chunk_line client d (record d { agent = c.try_chunk.new.self; port = port; back = Some (Chunk client b) })) (sym c.in-Err.ensures.back)
    (subst (λ (a : PlainAgent Leased). HoldsOne run chunk_line client d (record d { agent = a; port = port; back = Some (Chunk client buffer) })) (sym c.in-Err.ensures.same)
    (held_chunk run d client buffer port there c.in-Some.ensures.end c.in-Some.ensures.received c.chunk.ensures.only)))

pub invariant_of-self-in-Ok : goal.invariant_of-self-in-Ok
invariant_of-self-in-Ok c =
    let d = intake_in c.self.inside in
    let buffer = buffer_of c.in-Some.held in
    let port = c.chunk.new.self in
    record {
      chunks = chunks_counted c.args.client d.clients (buffer ∷ []) d.port.chunks port.chunks (receives_one c.args.client buffer d.port.chunks port.chunks c.in-Some.ensures.received) c.self.invariant.chunks;
      crumbs = ap (λ (p : Port). length p.crumbs) c.chunk.ensures.only ∙ c.self.invariant.crumbs;
      triggers = ap (λ (p : Port). length p.triggers) c.chunk.ensures.only ∙ c.self.invariant.triggers;
      late = c.self.invariant.late;
      stands = (λ alive.
          took_alive d c.args.client buffer port c.try_chunk.new.self
          (c.self.invariant.stands (false_from_ne_true c.self.inside.agent.spent (λ was. let none : false ≡ true = c.in-Ok.ensures.stays was in absurd cc)))
          c.in-Some.ensures.end c.in-Some.ensures.received c.chunk.ensures.only c.in-Ok.ensures.after);
    }

pub invariant_of-self-in-Err : goal.invariant_of-self-in-Err
invariant_of-self-in-Err c =
    let d = intake_in c.self.inside in
    let buffer = buffer_of c.in-Some.held in
    let port = c.chunk.new.self in
    record {
      chunks = chunks_counted c.args.client d.clients (buffer ∷ []) d.port.chunks port.chunks (receives_one c.args.client buffer d.port.chunks port.chunks c.in-Some.ensures.received) c.self.invariant.chunks;
      crumbs = ap (λ (p : Port). length p.crumbs) c.chunk.ensures.only ∙ c.self.invariant.crumbs;
      triggers = ap (λ (p : Port). length p.triggers) c.chunk.ensures.only ∙ c.self.invariant.triggers;
      late = c.self.invariant.late;
      stands = (λ alive.
          subst (λ (b : Buffer Leased). (run : AgentRun Leased) × Stands run (record d { agent = c.try_chunk.new.self; port = port; back = Some (Chunk c.args.client b) })) (sym c.in-Err.ensures.back)
          (subst (λ (a : PlainAgent Leased). (run : AgentRun Leased) × Stands run (record d { agent = a; port = port; back = Some (Chunk c.args.client buffer) })) (sym c.in-Err.ensures.same)
          (held_alive d c.args.client buffer port (c.self.invariant.stands (ap (λ (a : PlainAgent Leased). a.spent) (sym c.in-Err.ensures.same) ∙ alive)) c.in-Some.ensures.end
          c.in-Some.ensures.received c.chunk.ensures.only)));
    }
