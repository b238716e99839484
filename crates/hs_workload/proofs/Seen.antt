-- What a reader of workloads sees of the lines that it took, so that it reads a text as the text's lines are judged.
use Rattle.std.proofs.Common.{◌≡◌, ℕ, ◌+◌, ◌<◌, Bool, true, false, nat_lt, List, [], ◌∷◌, ◌++◌, length, map, Option, None, Ok, refl, sym, ap, subst, ◌∙◌, arith}
use Rattle.hs_workload.proofs.Prelude.{ltb-false, map_push, nil_from_length, ltb-true, IsReading, Begin, Point, Crumb, End, Fire, Sample, Reason, setting_in, Statement, Put, Declare, Watch, Start, Operate, Finish, statement_of, statement_line, Past, operation_pieces, fault_at, judging, version_of, Draft, fresh, past_of, open_after, after, line_step}
use Rattle.std.specs.List.{cons_option}
use Rattle.hs_text.specs.Judging.{onto}
use Rattle.hs_text.specs.JudgingLaws.{Reader, onto-append}
use Rattle.hs_text.specs.Agreement.{agrees_err}
use Rattle.hs_workload.specs.declared.refusal.Refusal.{Refusal}
use Rattle.hs_records.specs.declared.setting.Setting.TheVariants as settings
use Rattle.hs_workload.specs.LookBack.{past_said, said}
use Rattle.hs_workload.specs.Faults.{fault_of}
use Rattle.hs_workload.proofs.Exact.{line_agrees}
use Rattle.hs_workload.proofs.Clear.{IsClear, line_taken, statement_read}
use Rattle.hs_workload.proofs.Keeps.{version_in, draft_statements, behind_head, puts, IsBare, Keeps, Kept, keeps_fresh}
use Rattle.hs_workload.proofs.Kept.{set_before, nothing_behind_head, statement_kept}

-- ---- looking back

-- what the faults ask behind one line more
abbrev past_after : Past → Statement → Past
past_after p (Put setting n) = record p { head = p.head ++ n ∷ [] }
past_after p (Declare rule) = record p { rules = p.rules ++ rule ∷ [] }
past_after p (Watch number rule) = record p { autos = p.autos ++ rule ∷ [] }
past_after p (Start v n) = record p { started = p.started + 1 }
past_after p (Operate op) = record p { is_open = open_after p.is_open op; pieces = p.pieces + operation_pieces (setting_in p.head settings.Size) op }
past_after p Finish = record p { is_done = true }

said_after : (ss : List Statement) (s : Statement) → past_said (s ∷ ss) ≡ past_after (past_said ss) s
said_after ss (Put setting n) = refl
said_after ss (Declare rule) = refl
said_after ss (Watch number rule) = refl
said_after ss (Start v n) = refl
said_after ss (Operate (Begin t)) = refl
said_after ss (Operate (Point m bytes)) = refl
said_after ss (Operate (Crumb node)) = refl
said_after ss (Operate End) = refl
said_after ss (Operate (Fire t)) = refl
said_after ss (Operate (Sample m a v)) = refl
said_after ss Finish = refl

drafted_after : (d : Draft) (s : Statement) → past_of (after d s) ≡ past_after (past_of d) s
drafted_after d (Put setting n) = refl
drafted_after d (Declare rule) = refl
drafted_after d (Watch number rule) = refl
drafted_after d (Start v n) = refl
drafted_after d (Operate op) = refl
drafted_after d Finish = refl

lines_after : (d : Draft) (s : Statement) → (after d s).lines ≡ d.lines + 1
lines_after d (Put setting n) = refl
lines_after d (Declare rule) = refl
lines_after d (Watch number rule) = refl
lines_after d (Start v n) = refl
lines_after d (Operate op) = refl
lines_after d Finish = refl

-- ---- the version of the lines so far

abbrev spelled_in : Draft → Draft → List (List ℕ)
spelled_in d next = map (statement_line (version_in next)) (draft_statements d)

nothing_said : (d : Draft) → Keeps d → d.head ≡ [] → draft_statements d ≡ []
nothing_said d keeps none =
    let few : length d.head < 9 = omega (arith, ap length none) in
    let declared = keeps.undeclared few in
    let bare : IsBare d = keeps.bare declared.2 in
    ap (λ (head : List ℕ). puts 0 head ++ behind_head d) none ∙ nothing_behind_head d declared.0 declared.1 declared.2 bare

-- the version is said by the first line, and by no later one
put_alike : (d : Draft) (n : ℕ) (next : Draft) → Keeps d → next.head ≡ d.head ++ n ∷ [] → spelled_in d next ≡ spelled_in d d
put_alike d n next keeps is = by_place (nat_lt 0 (length d.head)) refl
  where
    by_place : (b : Bool) → nat_lt 0 (length d.head) ≡ b → spelled_in d next ≡ spelled_in d d
    by_place true e =
        let some : 0 < length d.head = ltb-true 0 (length d.head) e in
        let same : version_in next ≡ version_in d = ap (λ (head : List ℕ). setting_in head settings.Version) is ∙ set_before d.head n settings.Version some in
        ap (λ (v : ℕ). map (statement_line v) (draft_statements d)) same
    by_place false e =
        let none : d.head ≡ [] = nil_from_length d.head (let few = ltb-false 0 (length d.head) e in omega (arith, few)) in
        let nothing = nothing_said d keeps none in
        ap (map (statement_line (version_in next))) nothing ∙ sym (ap (map (statement_line (version_in d))) nothing)

spelled_alike : (d : Draft) (s : Statement) → Keeps d → spelled_in d (after d s) ≡ spelled_in d d
spelled_alike d (Put setting n) keeps = put_alike d n (after d (Put setting n)) keeps refl
spelled_alike d (Declare rule) keeps = refl
spelled_alike d (Watch number rule) keeps = refl
spelled_alike d (Start v n) keeps = refl
spelled_alike d (Operate op) keeps = refl
spelled_alike d Finish keeps = refl

line_alike : (d : Draft) (s : Statement) → statement_line (version_in d) s ≡ statement_line (version_in (after d s)) s
line_alike d (Put setting n) = refl
line_alike d (Declare rule) = refl
line_alike d (Watch number rule) = refl
line_alike d (Start v n) = refl
line_alike d (Operate op) = refl
line_alike d Finish = refl

-- ---- the reader

-- the earlier lines, the newest first, said what the draft keeps
pub record Sees (d : Draft) (earlier : List (List ℕ)) : Type 0 where
  pub keeps : Keeps d
  pub same : past_of d ≡ past_said (said earlier)
  pub lines : onto earlier [] ≡ map (statement_line (version_in d)) (draft_statements d)
  pub count : d.lines ≡ length earlier

pub fault_seen : (d : Draft) (earlier : List (List ℕ)) (line : List ℕ) → Sees d earlier → fault_of earlier line ≡ fault_at (past_of d) line
fault_seen d earlier line sees = ap (λ p. fault_at p line) (sym sees.same)

seen_next : (d : Draft) (earlier : List (List ℕ)) (line : List ℕ) (s : Statement) → Sees d earlier → IsClear (past_of d) line s → Sees (after d s) (line ∷ earlier)
seen_next d earlier line s sees clear =
    let next : Draft = after d s in
    let kept : Kept d next s = statement_kept d s sees.keeps clear.form clear.allowed in
    let spoken : said (line ∷ earlier) ≡ s ∷ said earlier =
    ap (λ p. cons_option (statement_of (version_of p) line) (said earlier)) (sym sees.same)
    ∙ ap (λ l. cons_option (statement_of (version_in d) l) (said earlier)) clear.spelled
    ∙ ap (λ (o : Option Statement). cons_option o (said earlier)) (statement_read (version_in d) s clear.form) in
    let count = sees.count in
    let one = lines_after d s in
    record {
      keeps = kept.keeps;
      same = drafted_after d s ∙ ap (λ p. past_after p s) sees.same ∙ sym (said_after (said earlier) s) ∙ ap past_said (sym spoken);
      lines =
          onto-append earlier (line ∷ []) ∙ ap (λ lines. lines ++ line ∷ []) (sees.lines ∙ sym (spelled_alike d s sees.keeps))
          ∙ ap (λ l. spelled_in d next ++ l ∷ []) (clear.spelled ∙ line_alike d s)
          ∙ sym (map_push (statement_line (version_in next)) (draft_statements d) s) ∙ ap (map (statement_line (version_in next))) (sym kept.said);
      count = omega (arith, count, one);
    }

pub takes : (d next : Draft) (earlier : List (List ℕ)) (line : List ℕ) → Sees d earlier → line_step d line ≡ Ok next → (fault_of earlier line ≡ None) × Sees next (line ∷ earlier)
takes d next earlier line sees step =
    let taken = line_taken d next line step in (
      fault_seen d earlier line sees ∙ taken.none,
      subst (λ (x : Draft). Sees x (line ∷ earlier)) (sym taken.is) (seen_next d earlier line taken.statement sees taken.clear),
    )

abbrev pub workload_reader : Reader Reason Refusal Draft
workload_reader =
    record {
      judging = judging;
      step = line_step;
      done = λ d. d.is_done;
      start = fresh;
      Sees = Sees;
      starts = record { keeps = keeps_fresh; same = refl; lines = refl; count = refl };
      takes = takes;
      refuses = λ d earlier line reason sees is. fault_seen d earlier line sees
          ∙ agrees_err (after d) (line_step d line) (fault_at (past_of d) line) (statement_of (version_in d) line) reason (line_agrees d line) is;
      ends = λ d earlier sees. ap (λ p. p.is_done) (sym sees.same);
      prints = λ d next line is. (line_taken d next line is).prints;
    }

-- the next line's number is one more than the lines of the draft
pub numbered : (text rest : List ℕ) (n : ℕ) (d : Draft) → IsReading workload_reader text rest n d → n ≡ d.lines + 1
numbered text rest n d reading = reading.counted ∙ ap (λ (k : ℕ). k + 1) (sym reading.sees.count)
