use Rattle.std.proofs.Common.{◌≡◌, ◌+◌, ◌≤◌, ◌++◌, List, length}
use Rattle.hs_workload.proofs.Prelude.{option_map, MAX_LATERALS, TraceId, words_in, traces_of, version_of, draft_of, past_of}
use Rattle.hs_workload.proofs.draft.Reader.laterals.Given as goal

abbrev pub invariant-loop-word : goal.invariant-loop-word
invariant-loop-word l =
    record {
      read : traces_of (version_of (past_of (draft_of l.self))) (words_in l.fn.words) ≡ option_map (λ (more : List TraceId). l.laterals ++ more) (traces_of (version_of (past_of (draft_of l.self))) (words_in l.words));
      few : length l.laterals + length (words_in l.words) ≤ MAX_LATERALS;
    }

abbrev pub decreases-loop-word : goal.decreases-loop-word
decreases-loop-word l = length (words_in l.words)
