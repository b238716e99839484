-- Lists with one that goes on.
use Rattle.std.proofs.Common.{◌≡◌, ℕ, ◌+◌, ◌/◌, ◌%◌, ◌<◌, suc, List, [], ◌∷◌, ◌++◌, length, map, refl, sym, ap, ◌∙◌, append_assoc, arith}
use Rattle.std.specs.List.{AllByRecursion}
use Rattle.hs_records.specs.declared.journal.Draw.{Draw}
use Rattle.hs_records.specs.declared.journal.Step.{Step}
use Rattle.hs_journal.specs.declared.word.Keyword.TheVariants as keywords
use Rattle.hs_journal.specs.Statements.{Statement, draw_statement, step_statement}
use Rattle.hs_journal.specs.Grammar.{draw_statements, log_statements}
use Rattle.hs_journal.specs.Forward.{onto_last}
pub use Rattle.std.proofs.lemmas.List.{map_push}
use Rattle.hs_base.proofs.Alls.{all_push}

pub onto_current : {A : Type 0} (finished : List (List A)) (current : List A) (x : A) → onto_last (finished ++ current ∷ []) x ≡ finished ++ (current ++ x ∷ []) ∷ []
onto_current [] current x = refl
onto_current (ys ∷ []) current x = refl
onto_current (ys ∷ zs ∷ more) current x = ap (λ lists. ys ∷ lists) (onto_current (zs ∷ more) current x)

pub length-onto_last : {A : Type 0} (lists : List (List A)) (x : A) → length (onto_last lists x) ≡ length lists
length-onto_last [] x = refl
length-onto_last (xs ∷ []) x = refl
length-onto_last (xs ∷ ys ∷ more) x = ap suc (length-onto_last (ys ∷ more) x)

-- ---- what all items of such lists have in common

pub all_onto_last : {A : Type 0} (P : A → Type 0) (lists : List (List A)) (x : A) → AllByRecursion (AllByRecursion P) lists → P x → AllByRecursion (AllByRecursion P) (onto_last lists x)
all_onto_last P [] x all here = tt
all_onto_last P (xs ∷ []) x all here = (all_push P xs x all.0 here, tt)
all_onto_last P (xs ∷ ys ∷ more) x all here = (all.0, all_onto_last P (ys ∷ more) x all.1 here)

-- ---- what is said of such lists

abbrev pub draws_at : ℕ → ℕ → Statement
draws_at each client = record { keyword = keywords.Draws; numbers = client / each ∷ client % each ∷ [] }

abbrev pub log_at : ℕ → Statement
log_at node = record { keyword = keywords.Log; numbers = node ∷ [] }

pub draw_statements-append : (each client : ℕ) (lists more : List (List Draw)) → draw_statements each client (lists ++ more) ≡ draw_statements each client lists ++ draw_statements each (client + length lists) more
draw_statements-append each client [] more = ap (λ n. draw_statements each n more) (omega arith)
draw_statements-append each client (drawn ∷ lists) more =
    let count : client + 1 + length lists ≡ client + suc (length lists) = omega arith in
    ap (λ rest. draws_at each client ∷ (map draw_statement drawn ++ rest))
    (draw_statements-append each (client + 1) lists more ∙ ap (λ n. draw_statements each (client + 1) lists ++ draw_statements each n more) count)
    ∙ ap (λ rest. draws_at each client ∷ rest) (sym (append_assoc (map draw_statement drawn) (draw_statements each (client + 1) lists) (draw_statements each (client + suc (length lists)) more)))

pub draw_statements-begun : (each : ℕ) (lists : List (List Draw)) → draw_statements each 0 (lists ++ [] ∷ []) ≡ draw_statements each 0 lists ++ draws_at each (length lists) ∷ []
draw_statements-begun each lists =
    let count : 0 + length lists ≡ length lists = omega arith in
    draw_statements-append each 0 lists ([] ∷ []) ∙ ap (λ n. draw_statements each 0 lists ++ draws_at each n ∷ []) count

pub draw_statements-onto_last : (each client : ℕ) (lists : List (List Draw)) (draw : Draw) → 0 < length lists
    → draw_statements each client (onto_last lists draw) ≡ draw_statements each client lists ++ draw_statement draw ∷ []
draw_statements-onto_last each client [] draw some = absurd (omega (arith, some))
draw_statements-onto_last each client (drawn ∷ []) draw some =
    ap (λ rest. draws_at each client ∷ (rest ++ [])) (map_push draw_statement drawn draw)
    ∙ ap (λ rest. draws_at each client ∷ rest) (simp append_assoc)
draw_statements-onto_last each client (drawn ∷ lists ∷ more) draw some =
    ap (λ rest. draws_at each client ∷ (map draw_statement drawn ++ rest)) (draw_statements-onto_last each (client + 1) (lists ∷ more) draw (omega arith))
    ∙ ap (λ rest. draws_at each client ∷ rest) (sym (append_assoc (map draw_statement drawn) (draw_statements each (client + 1) (lists ∷ more)) (draw_statement draw ∷ [])))

pub log_statements-append : (node : ℕ) (logs more : List (List Step)) → log_statements node (logs ++ more) ≡ log_statements node logs ++ log_statements (node + length logs) more
log_statements-append node [] more = ap (λ n. log_statements n more) (omega arith)
log_statements-append node (log ∷ logs) more =
    let count : node + 1 + length logs ≡ node + suc (length logs) = omega arith in
    ap (λ rest. log_at node ∷ (map step_statement log ++ rest))
    (log_statements-append (node + 1) logs more ∙ ap (λ n. log_statements (node + 1) logs ++ log_statements n more) count)
    ∙ ap (λ rest. log_at node ∷ rest) (sym (append_assoc (map step_statement log) (log_statements (node + 1) logs) (log_statements (node + suc (length logs)) more)))

pub log_statements-begun : (logs : List (List Step)) → log_statements 0 (logs ++ [] ∷ []) ≡ log_statements 0 logs ++ log_at (length logs) ∷ []
log_statements-begun logs =
    let count : 0 + length logs ≡ length logs = omega arith in
    log_statements-append 0 logs ([] ∷ []) ∙ ap (λ n. log_statements 0 logs ++ log_at n ∷ []) count

pub log_statements-onto_last : (node : ℕ) (logs : List (List Step)) (step : Step) → 0 < length logs
    → log_statements node (onto_last logs step) ≡ log_statements node logs ++ step_statement step ∷ []
log_statements-onto_last node [] step some = absurd (omega (arith, some))
log_statements-onto_last node (log ∷ []) step some =
    ap (λ rest. log_at node ∷ (rest ++ [])) (map_push step_statement log step)
    ∙ ap (λ rest. log_at node ∷ rest) (simp append_assoc)
log_statements-onto_last node (log ∷ logs ∷ more) step some =
    ap (λ rest. log_at node ∷ (map step_statement log ++ rest)) (log_statements-onto_last (node + 1) (logs ∷ more) step (omega arith))
    ∙ ap (λ rest. log_at node ∷ rest) (sym (append_assoc (map step_statement log) (log_statements (node + 1) (logs ∷ more)) (step_statement step ∷ [])))
