use Rattle.std.proofs.Common.{◌≡◌, ◌++◌, ◌≤◌}
use Rattle.hs_records.specs.Views.{operations_of}
use Rattle.hs_make.specs.Words.{words_from}
use Rattle.hs_make.specs.Made.{first_points, behind_points}
use Rattle.hs_make.proofs.visit.draw_points.Given as goal

abbrev pub invariant-loop-point : goal.invariant-loop-point
invariant-loop-point l =
    record {
      added : operations_of l.operations ≡ operations_of l.fn.operations ++ first_points l.point l.moment (words_from l.fn.generator);
      words : words_from l.generator ≡ behind_points l.point (words_from l.fn.generator);
      few : l.points ≤ 4;
    }
