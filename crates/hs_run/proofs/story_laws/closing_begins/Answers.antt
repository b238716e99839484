use Rattle.std.proofs.Common.{refl, arith}
use Rattle.hs_run.proofs.story_laws.closing_begins.Goals as goal

pub returns : goal.returns
returns c W rounds m nodes left =
    record {
      enough = omega arith;
      posts = λ node k. nodes node;
      heards = λ k. m.heard;
      starts = left;
      starts_heard = refl;
      each = λ k node site high low there. absurd (omega (arith, high, low));
      grows = λ k high low. absurd (omega (arith, high, low));
      ends = λ node. refl;
      ends_heard = refl;
    }
