use Rattle.std.proofs.Common.{Some, None, refl, ap, ◌∙◌}
use Rattle.hs_compare.proofs.Prelude.{operation_of, RecordWalk}
use Rattle.hs_compare.proofs.Pointed.{gone_quiet, gone_seen, brought_by}
use Rattle.hs_compare.proofs.points.RecordWalk.advance.Goals as goal

pub returns-in-Some-clause-gone : goal.returns-in-Some-clause-gone
returns-in-Some-clause-gone c = λ before gone.
    gone_seen c.one_operation_more.ensures.numbered before (operation_of c.args.operation.now) c.args.self.now c.note.new.self c.in-Some.seen gone c.in-Some.ensures
    (ap (λ (w : RecordWalk). w.count) c.note.ensures.walk) (ap (λ (w : RecordWalk). w.current) c.note.ensures.walk ∙ c.open_behind-self.ensures)

pub returns-in-Some-clause-brings : goal.returns-in-Some-clause-brings
returns-in-Some-clause-brings c = λ before gone.
    ap Some c.note.ensures.coming ∙ brought_by before (operation_of c.args.operation.now) c.args.self.now (Some c.in-Some.seen) gone c.in-Some.ensures

pub returns-in-None-clause-gone : goal.returns-in-None-clause-gone
returns-in-None-clause-gone c = λ before gone.
    let walk = c.args.self.now in
    let next : RecordWalk = record { client = walk.client; current = c.open_behind-self.result; count = walk.count } in
    gone_quiet c.one_operation_more.ensures.numbered before (operation_of c.args.operation.now) walk next gone c.in-None.ensures refl c.open_behind-self.ensures

pub returns-in-None-clause-brings : goal.returns-in-None-clause-brings
returns-in-None-clause-brings c = λ before gone. brought_by before (operation_of c.args.operation.now) c.args.self.now None gone c.in-None.ensures
