-- A text has no fault exactly where it is the text of a valid workload, and then of no other workload.
use Rattle.std.proofs.Common.{◌≡◌, ℕ, List, None, Result, Ok, Err, refl, sym, ap, ◌∙◌}
use Rattle.hs_workload.proofs.Prelude.{first_fault_in, run, PlainWorkload, ReadError, workload_of, workload_statements, IsValid, Reads, judging, first_fault, Refuses, fresh, line_step, workload_drafted}
use Rattle.std.specs.Prelude.{IfOk, IfErr, MatchResult}
use Rattle.hs_text.specs.JudgingLaws.{run_clean, same_lines}
use Rattle.hs_workload.specs.declared.refusal.ReadError.TheVariants as errors
use Rattle.hs_records.specs.declared.operation.Workload.{Workload}
use Rattle.hs_workload.specs.Grammar.{workload_lines}
use Rattle.hs_workload.proofs.Seen.{workload_reader}
use Rattle.hs_workload.proofs.Whole.{first_fault-judged}
use Rattle.hs_workload.proofs.Runs.{lines_run}
use Rattle.hs_workload.proofs.Clients.{allowed, whole_draft, drafted, done_last}

workload_run : (W : PlainWorkload) → IsValid W → run line_step fresh (workload_lines W) ≡ Ok (whole_draft W)
workload_run W v = lines_run W.version fresh (workload_statements W) (allowed W v)

-- a text of a workload has no fault
pub reads_clean : (text : List ℕ) (W : PlainWorkload) → Reads text W → first_fault text ≡ None
reads_clean text W r =
    first_fault-judged text ∙ ap (first_fault_in judging) r.spelled ∙ run_clean workload_reader (whole_draft W) (workload_lines W) (workload_run W r.valid) (done_last W)

pub reads_once : (text : List ℕ) (V W : PlainWorkload) → Reads text V → Reads text W → V ≡ W
reads_once text V W v w =
    let lines = same_lines workload_reader (whole_draft V) (whole_draft W) (workload_lines V) (workload_lines W) (workload_run V v.valid) (workload_run W w.valid) (sym v.spelled ∙ w.spelled) in
    let ends : Ok (whole_draft V) ≡ Ok (whole_draft W) = sym (workload_run V v.valid) ∙ ap (run line_step fresh) lines ∙ workload_run W w.valid in
    let same : whole_draft V ≡ whole_draft W = cc in
    sym (drafted V) ∙ ap workload_drafted same ∙ drafted W

-- a workload's text is read as that workload
pub only_this : (text : List ℕ) (r : Result Workload ReadError) → IfOk r (λ w. Reads text (workload_of w)) → IfErr r (Refuses (first_fault text))
    → (W : PlainWorkload) → Reads text W → MatchResult r (λ w. workload_of w ≡ W) (λ e. e ≡ errors.Memory)
only_this text (Ok w) found refused W reads = reads_once text (workload_of w) W found reads
only_this text (Err errors.Memory) found refused W reads = refl
only_this text (Err (errors.Refused refusal)) found refused W reads = let none = reads_clean text W reads in absurd cc
