-- What a reader of journals sees of the lines that it took, so that it reads a text as the text's lines are judged.
use Rattle.std.proofs.Common.{◌≡◌, ℕ, suc, true, List, [], ◌∷◌, ◌++◌, length, map, None, Ok, refl, sym, ap, subst, ◌∙◌, length-append, arith}
use Rattle.std.specs.List.{cons_option}
use Rattle.std.proofs.lemmas.List.{map_push}
use Rattle.hs_text.specs.Judging.{onto}
use Rattle.hs_text.specs.JudgingLaws.{Reader, onto-append}
use Rattle.hs_text.specs.Agreement.{agrees_err}
use Rattle.hs_journal.specs.declared.refusal.JournalReason.{JournalReason}
use Rattle.hs_journal.specs.declared.refusal.JournalRefusal.{JournalRefusal}
use Rattle.hs_journal.specs.declared.word.Keyword.{Keyword}
use Rattle.hs_journal.specs.declared.word.Keyword.TheVariants as keywords
use Rattle.hs_journal.specs.declared.part.JournalPart.TheVariants as places
use Rattle.hs_journal.specs.Statements.{Statement, statement_line, statement_of}
use Rattle.hs_journal.specs.LookBack.{Past, said, past_said}
use Rattle.hs_journal.specs.Faults.{numbers_at, fault_at, fault_of, may_stand, is_ended, judging}
use Rattle.hs_journal.specs.Forward.{Draft, fresh, past_of, after, line_step, onto_last}
use Rattle.hs_journal.proofs.Lines.{Taken, after_said, line_agrees, line_taken}
use Rattle.hs_journal.proofs.Drafts.{length-onto_last}
use Rattle.hs_journal.proofs.Keeps.{Keeps, Kept, draft_statements, keeps_fresh, in_draws, in_logs, in_order}
use Rattle.hs_journal.proofs.Kept.{taken_kept, ended_place}

-- ---- looking back

pub record Same (p q : Past) : Type 0 where
  pub place : p.place ≡ q.place
  pub nodes : p.nodes ≡ q.nodes
  pub clients : p.clients ≡ q.clients
  pub draws : p.draws ≡ q.draws
  pub logs : p.logs ≡ q.logs

same_past : (p q : Past) → Same p q → p ≡ q
same_past p q same =
    ap (λ a. record { place = a; nodes = p.nodes; clients = p.clients; draws = p.draws; logs = p.logs }) same.place
    ∙ ap (λ a. record { place = q.place; nodes = a; clients = p.clients; draws = p.draws; logs = p.logs }) same.nodes
    ∙ ap (λ a. record { place = q.place; nodes = q.nodes; clients = a; draws = p.draws; logs = p.logs }) same.clients
    ∙ ap (λ a. record { place = q.place; nodes = q.nodes; clients = q.clients; draws = a; logs = p.logs }) same.draws
    ∙ ap (λ a. record { place = q.place; nodes = q.nodes; clients = q.clients; draws = q.draws; logs = a }) same.logs

one_more : (n : ℕ) {A : Type 0} (lists : List (List A)) → length lists ≡ n → length (lists ++ [] ∷ []) ≡ suc n
one_more n lists is = let size = length-append lists ([] ∷ []) in omega (arith, size, is)

onto_same : {A : Type 0} (n : ℕ) (lists : List (List A)) (x : A) → length lists ≡ n → length (onto_last lists x) ≡ n
onto_same n lists x is = let size = length-onto_last lists x in omega (arith, size, is)

-- the draft behind a line is what is said by this line and the earlier ones
seen : (d : Draft) (k : Keyword) (ns : List ℕ) (earlier : List Statement) → Same (past_of d) (past_said earlier) → may_stand (past_of d) k ≡ true
    → Same (past_of (after d k (numbers_at ns))) (past_said (record { keyword = k; numbers = ns } ∷ earlier))
seen d keywords.Journal ns earlier same stands = record { place = refl; nodes = refl; clients = refl; draws = same.draws; logs = same.logs }
seen d keywords.Draws ns earlier same stands = record { place = refl; nodes = same.nodes; clients = same.clients; draws = one_more _ d.draws same.draws; logs = same.logs }
seen d keywords.Log ns earlier same stands = record { place = refl; nodes = same.nodes; clients = same.clients; draws = same.draws; logs = one_more _ d.logs same.logs }
seen d keywords.Got ns earlier same stands = record { place = in_draws d.place stands; nodes = same.nodes; clients = same.clients; draws = onto_same _ d.draws _ same.draws; logs = same.logs }
seen d keywords.Empty ns earlier same stands = record { place = in_draws d.place stands; nodes = same.nodes; clients = same.clients; draws = onto_same _ d.draws _ same.draws; logs = same.logs }
seen d keywords.Coordinator ns earlier same stands = record { place = refl; nodes = same.nodes; clients = same.clients; draws = same.draws; logs = same.logs }
seen d keywords.Told ns earlier same stands = record { place = in_order d.place stands; nodes = same.nodes; clients = same.clients; draws = same.draws; logs = same.logs }
seen d keywords.End ns earlier same stands = record { place = refl; nodes = same.nodes; clients = same.clients; draws = same.draws; logs = same.logs }
seen d _ ns earlier same stands = record { place = in_logs d.place stands; nodes = same.nodes; clients = same.clients; draws = same.draws; logs = onto_same _ d.logs _ same.logs }

-- the earlier lines, the newest first, said what the draft keeps
pub record Sees (d : Draft) (earlier : List (List ℕ)) : Type 0 where
  pub keeps : Keeps d
  pub same : Same (past_of d) (past_said (said earlier))
  pub lines : onto earlier [] ≡ map statement_line (draft_statements d)

pub fault_seen : (d : Draft) (earlier : List (List ℕ)) (line : List ℕ) → Sees d earlier → fault_of earlier line ≡ fault_at (past_of d) line
fault_seen d earlier line sees = ap (λ p. fault_at p line) (sym (same_past _ _ sees.same))

sees_next : (d next : Draft) (earlier : List (List ℕ)) (line : List ℕ) → Sees d earlier → Taken d line next → Sees next (line ∷ earlier)
sees_next d next earlier line sees taken =
    let statement : Statement = record { keyword = taken.keyword; numbers = taken.numbers } in
    let kept : Kept d next statement = taken_kept d next line sees.keeps taken in
    record {
      keeps = kept.keeps;
      same =
          subst (λ draft. Same (past_of draft) (past_said (said (line ∷ earlier)))) (sym taken.is)
          (subst (λ o. Same (past_of (after d taken.keyword (numbers_at taken.numbers))) (past_said (cons_option o (said earlier)))) (sym taken.says)
          (seen d taken.keyword taken.numbers (said earlier) sees.same taken.stands));
      lines =
          onto-append earlier (line ∷ []) ∙ ap (λ lines. lines ++ line ∷ []) sees.lines ∙ ap (λ l. map statement_line (draft_statements d) ++ l ∷ []) taken.spelled
          ∙ sym (map_push statement_line (draft_statements d) statement) ∙ ap (map statement_line) (sym kept.said);
    }

pub takes : (d next : Draft) (earlier : List (List ℕ)) (line : List ℕ) → Sees d earlier → line_step d line ≡ Ok next → (fault_of earlier line ≡ None) × Sees next (line ∷ earlier)
takes d next earlier line sees is =
    let taken = line_taken d next line is in
    (fault_seen d earlier line sees ∙ taken.none, sees_next d next earlier line sees taken)

nothing_stands : (nodes clients lists logs : ℕ) (k : Keyword) → may_stand (record { place = places.Ended; nodes = nodes; clients = clients; draws = lists; logs = logs }) k ≡ true → ⊥
nothing_stands nodes clients lists logs keywords.Journal stands = cc
nothing_stands nodes clients lists logs _ stands = cc

pub stops : (d next : Draft) (line : List ℕ) → is_ended d.place ≡ true → line_step d line ≡ Ok next → ⊥
stops d next line ended is =
    let taken = line_taken d next line is in
    nothing_stands d.nodes d.clients (length d.draws) (length d.logs) taken.keyword
    (ap (λ place. may_stand (record { place = place; nodes = d.nodes; clients = d.clients; draws = length d.draws; logs = length d.logs }) taken.keyword) (sym (ended_place d.place ended)) ∙ taken.stands)

abbrev pub journal_reader : Reader JournalReason JournalRefusal Draft
journal_reader =
    record {
      judging = judging;
      step = line_step;
      done = λ d. is_ended d.place;
      start = fresh;
      Sees = Sees;
      starts = record { keeps = keeps_fresh; same = record { place = refl; nodes = refl; clients = refl; draws = refl; logs = refl }; lines = refl };
      takes = takes;
      refuses = λ d earlier line reason sees is. fault_seen d earlier line sees ∙ agrees_err (after_said d) (line_step d line) (fault_at (past_of d) line) (statement_of line) reason (line_agrees d line) is;
      ends = λ d earlier sees. ap is_ended (sym sees.same.place);
      prints = λ d next line is. (line_taken d next line is).prints;
    }
