use Rattle.std.proofs.Common.{◌+◌, ◌++◌, ap, ◌∙◌, sym, arith, append-nil}
use Rattle.hs_records.specs.declared.operation.Op.TheVariants.{Point}
use Rattle.hs_records.specs.Views.{operations_of}
use Rattle.hs_make.specs.Words.{words_from, each_below, behind_parts}
use Rattle.hs_make.specs.Made.{first_points}
use Rattle.hs_make.proofs.Drawn.{operation_more, point_more, payload_more}
use Rattle.hs_make.proofs.visit.draw_points.Goals as goal

pub loop-point-init : goal.loop-point-init
unfolding each_below behind_parts
loop-point-init c =
    record {
      added = sym (append-nil (operations_of c.args.operations.now));
      words = c.pick-points.ensures.rest;
      few = omega (arith, c.pick-points.ensures.picked);
    }

pub loop-point-preserved : goal.loop-point-preserved
loop-point-preserved c =
    let now = c.loop-point.invariant in
    let drawn = c.in_ok-payload.ensures in
    record {
      added =
          operation_more (operations_of c.args.operations.now) (first_points c.loop-point.point c.args.moment (words_from c.args.generator.now)) c.loop-point.operations.items c.append.new.self.items
          (Point (c.args.moment + c.loop-point.point) c.in_ok-payload.payload) c.in_ok-append.ensures.ok now.added
          ∙ ap (λ ops. operations_of c.args.operations.now ++ ops)
          (point_more c.loop-point.point c.args.moment (words_from c.args.generator.now) (words_from c.loop-point.generator) c.in_ok-payload.payload.items now.words drawn.payload);
      words = payload_more c.loop-point.point (words_from c.args.generator.now) (words_from c.loop-point.generator) (words_from c.draw_payload.new.generator) now.words drawn.rest;
      few = now.few;
    }
