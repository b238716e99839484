-- What is read so far says the lines so far, and stays within the limits of journals.
use Rattle.std.proofs.Common.{◌≡◌, ℕ, ◌*◌, ◌<◌, ◌≤◌, nat_lt, nat_le, true, List, [], ◌∷◌, ◌++◌, length, refl, sym, ap, subst, ◌∙◌, append_assoc, length-append, arith}
use Rattle.std.proofs.Math.Nat.{mul-le-mul}
use Rattle.std.proofs.lemmas.List.{append-nil}
use Rattle.std.specs.Prelude.{⊤}
use Rattle.std.specs.List.{AllByRecursion}
use Rattle.hs_base.proofs.Alls.{all_push}
use Rattle.hs_base.specs.declared.limits.TheConstants.{MAX_NODES, MAX_CLIENTS}
use Rattle.hs_records.specs.declared.journal.Draw.{Draw}
use Rattle.hs_records.specs.declared.journal.Step.{Step}
use Rattle.hs_journal.specs.declared.part.JournalPart.{JournalPart}
use Rattle.hs_journal.specs.declared.part.JournalPart.TheVariants as places
use Rattle.hs_journal.specs.Statements.{Statement, draw_statement, step_statement}
use Rattle.hs_journal.specs.Grammar.{head_statement, draw_statements, log_statements, order_statements, end_statement}
use Rattle.hs_records.specs.Journals.{IsDraw, IsStep, IsNodeBelow}
use Rattle.hs_journal.specs.Faults.{is_in_draws, is_in_logs, is_in_order, may_begin_journal, may_begin_draws, may_begin_log}
use Rattle.hs_journal.specs.Forward.{Draft, fresh, past_of, with_draw, with_step, HasClients, IsSound}
use Rattle.hs_journal.proofs.Drafts.{all_onto_last, length-onto_last, draws_at, log_at, draw_statements-begun, draw_statements-onto_last, log_statements-begun, log_statements-onto_last}

-- ---- definitions

abbrev pub HasBoth : JournalPart → ℕ → ℕ → Type 0
HasBoth places.Start nodes clients = ⊤
HasBoth _ nodes clients = (0 < nodes) × (0 < clients)

abbrev pub Counts : JournalPart → Draft → Type 0
Counts places.Start d = (d.draws ≡ []) × (d.logs ≡ []) × (d.told ≡ [])
Counts places.Head d = (d.draws ≡ []) × (d.logs ≡ []) × (d.told ≡ [])
Counts places.Draws d = (0 < length d.draws) × (length d.draws ≤ d.nodes * d.clients) × (d.logs ≡ []) × (d.told ≡ [])
Counts places.Logs d = (length d.draws ≡ d.nodes * d.clients) × (0 < length d.logs) × (length d.logs ≤ d.nodes) × (d.told ≡ [])
Counts _ d = (length d.draws ≡ d.nodes * d.clients) × (length d.logs ≡ d.nodes)

pub record Keeps (d : Draft) : Type 0 where
  pub nodes : d.nodes ≤ MAX_NODES
  pub clients : d.clients ≤ MAX_CLIENTS
  pub some : HasBoth d.place d.nodes d.clients
  pub counts : Counts d.place d
  pub draws : AllByRecursion (AllByRecursion IsDraw) d.draws
  pub logs : AllByRecursion (AllByRecursion (IsStep d.clients)) d.logs
  pub told : AllByRecursion (IsNodeBelow d.nodes) d.told

abbrev pub lists_statements : Draft → List Statement
lists_statements d = head_statement d.nodes d.clients ∷ (draw_statements d.clients 0 d.draws ++ log_statements 0 d.logs)

abbrev pub statements_at : JournalPart → Draft → List Statement
statements_at places.Start d = []
statements_at places.Head d = lists_statements d
statements_at places.Draws d = lists_statements d
statements_at places.Logs d = lists_statements d
statements_at places.Order d = lists_statements d ++ order_statements d.told
statements_at places.Ended d = lists_statements d ++ (order_statements d.told ++ end_statement ∷ [])

-- what the lines so far say
abbrev pub draft_statements : Draft → List Statement
draft_statements d = statements_at d.place d

-- the next draft keeps all that, and says one thing more
pub record Kept (d next : Draft) (s : Statement) : Type 0 where
  pub keeps : Keeps next
  pub said : draft_statements next ≡ draft_statements d ++ s ∷ []

pub keeps_fresh : Keeps fresh
keeps_fresh = record { nodes = omega arith; clients = omega arith; some = tt; counts = (refl, refl, refl); draws = tt; logs = tt; told = tt }

-- ---- from places and counts

some_clients : (place : JournalPart) (nodes clients : ℕ) → HasBoth place nodes clients → HasClients place clients
some_clients places.Start nodes clients both = tt
some_clients _ nodes clients both = both.1

few_draws : (place : JournalPart) (d : Draft) → Counts place d → length d.draws ≤ d.nodes * d.clients
few_draws places.Start d counts = let none = ap length counts.0 in omega (arith, none)
few_draws places.Head d counts = let none = ap length counts.0 in omega (arith, none)
few_draws places.Draws d counts = counts.1
few_draws _ d counts = let all = counts.0 in omega (arith, all)

few_logs : (place : JournalPart) (d : Draft) → Counts place d → length d.logs ≤ d.nodes
few_logs places.Start d counts = let none = ap length counts.1 in omega (arith, none)
few_logs places.Head d counts = let none = ap length counts.1 in omega (arith, none)
few_logs places.Draws d counts = let none = ap length counts.2 in omega (arith, none)
few_logs places.Logs d counts = counts.2
few_logs _ d counts = let all = counts.1 in omega (arith, all)

pub sound : (d : Draft) → Keeps d → IsSound d
sound d keeps =
    let most : d.nodes * d.clients ≤ MAX_NODES * MAX_CLIENTS = mul-le-mul keeps.nodes keeps.clients in
    let draws = few_draws d.place d keeps.counts in
    let logs = few_logs d.place d keeps.counts in
    record {
      nodes = keeps.nodes;
      clients = keeps.clients;
      some = some_clients d.place d.nodes d.clients keeps.some;
      draws = omega (arith, most, draws);
      logs = (let few = keeps.nodes in omega (arith, few, logs));
    }

pub in_draws : (place : JournalPart) → is_in_draws place ≡ true → place ≡ places.Draws
in_draws places.Draws is = refl
in_draws _ is = cc

pub in_logs : (place : JournalPart) → is_in_logs place ≡ true → place ≡ places.Logs
in_logs places.Logs is = refl
in_logs _ is = cc

pub in_order : (place : JournalPart) → is_in_order place ≡ true → place ≡ places.Order
in_order places.Order is = refl
in_order _ is = cc

pub at_start : (place : JournalPart) → may_begin_journal place ≡ true → place ≡ places.Start
at_start places.Start is = refl
at_start _ is = cc

-- ---- one statement more

more_draws : (head s : Statement) (D next L : List Statement) → L ≡ [] → next ≡ D ++ s ∷ [] → head ∷ (next ++ L) ≡ (head ∷ (D ++ L)) ++ s ∷ []
more_draws head s D next L none is = rw (none, is) (ap (λ rest. head ∷ rest) (append-nil (D ++ s ∷ []) ∙ ap (λ rest. rest ++ s ∷ []) (sym (append-nil D))))

more_logs : (head s : Statement) (D L next : List Statement) → next ≡ L ++ s ∷ [] → head ∷ (D ++ next) ≡ (head ∷ (D ++ L)) ++ s ∷ []
more_logs head s D L next is = ap (λ rest. head ∷ (D ++ rest)) is ∙ ap (λ rest. head ∷ rest) (sym (append_assoc D L (s ∷ [])))

pub draw_kept : (d : Draft) (draw : Draw) → Keeps d → is_in_draws d.place ≡ true → IsDraw draw → Kept d (with_draw d draw) (draw_statement draw)
draw_kept d draw keeps is fits =
    let place = in_draws d.place is in
    let counts : Counts places.Draws d = subst (λ p. Counts p d) place keeps.counts in
    let some = counts.0 in
    let few = counts.1 in
    let size = length-onto_last d.draws draw in
    let now : Counts places.Draws (with_draw d draw) = (omega (arith, size, some), omega (arith, size, few), counts.2, counts.3) in
    record {
      keeps = record {
        nodes = keeps.nodes;
        clients = keeps.clients;
        some = keeps.some;
        counts = subst (λ p. Counts p (with_draw d draw)) (sym place) now;
        draws = all_onto_last IsDraw d.draws draw keeps.draws fits;
        logs = keeps.logs;
        told = keeps.told;
      };
      said =
          ap (λ p. statements_at p (with_draw d draw)) place
          ∙ more_draws _ (draw_statement draw) (draw_statements d.clients 0 d.draws) _ (log_statements 0 d.logs) (ap (log_statements 0) counts.2) (draw_statements-onto_last d.clients 0 d.draws draw some)
          ∙ ap (λ p. statements_at p d ++ draw_statement draw ∷ []) (sym place);
    }

pub step_kept : (d : Draft) (step : Step) → Keeps d → is_in_logs d.place ≡ true → IsStep d.clients step → Kept d (with_step d step) (step_statement step)
step_kept d step keeps is fits =
    let place = in_logs d.place is in
    let counts : Counts places.Logs d = subst (λ p. Counts p d) place keeps.counts in
    let some = counts.1 in
    let few = counts.2 in
    let size = length-onto_last d.logs step in
    let now : Counts places.Logs (with_step d step) = (counts.0, omega (arith, size, some), omega (arith, size, few), counts.3) in
    record {
      keeps = record {
        nodes = keeps.nodes;
        clients = keeps.clients;
        some = keeps.some;
        counts = subst (λ p. Counts p (with_step d step)) (sym place) now;
        draws = keeps.draws;
        logs = all_onto_last (IsStep d.clients) d.logs step keeps.logs fits;
        told = keeps.told;
      };
      said =
          ap (λ p. statements_at p (with_step d step)) place
          ∙ more_logs _ (step_statement step) (draw_statements d.clients 0 d.draws) (log_statements 0 d.logs) _ (log_statements-onto_last 0 d.logs step some)
          ∙ ap (λ p. statements_at p d ++ step_statement step ∷ []) (sym place);
    }

abbrev pub begun_draws : Draft → Draft
begun_draws d = record d { place = places.Draws; draws = d.draws ++ [] ∷ [] }

abbrev pub begun_log : Draft → Draft
begun_log d = record d { place = places.Logs; logs = d.logs ++ [] ∷ [] }

below : (a b : ℕ) → nat_lt a b ≡ true → a < b
below a b is = grind arith

pub at_most : (a b : ℕ) → nat_le a b ≡ true → a ≤ b
at_most a b is = grind arith

first_product : (a b : ℕ) → 0 < a → 0 < b → 0 < a * b
first_product a b some_a some_b = omega (arith, mul-le-mul {n₁ = 1} {m₁ = 1} {n₂ = a} {m₂ = b} some_a some_b)

pub draws_kept : (place : JournalPart) (d : Draft) → Keeps d → d.place ≡ place → may_begin_draws (past_of d) place ≡ true → Kept d (begun_draws d) (draws_at d.clients (length d.draws))
draws_kept places.Head d keeps place is =
    let counts : Counts places.Head d = subst (λ p. Counts p d) place keeps.counts in
    let both : HasBoth places.Head d.nodes d.clients = subst (λ p. HasBoth p d.nodes d.clients) place keeps.some in
    let none = ap length counts.0 in
    let size = length-append d.draws ([] ∷ []) in
    let some = first_product d.nodes d.clients both.0 both.1 in
    record {
      keeps = record {
        nodes = keeps.nodes;
        clients = keeps.clients;
        some = both;
        counts = (omega (arith, size), omega (arith, size, none, some), counts.1, counts.2);
        draws = all_push (AllByRecursion IsDraw) d.draws [] keeps.draws tt;
        logs = keeps.logs;
        told = keeps.told;
      };
      said =
          more_draws _ (draws_at d.clients (length d.draws)) (draw_statements d.clients 0 d.draws) _ (log_statements 0 d.logs) (ap (log_statements 0) counts.1) (draw_statements-begun d.clients d.draws)
          ∙ ap (λ p. statements_at p d ++ draws_at d.clients (length d.draws) ∷ []) (sym place);
    }
draws_kept places.Draws d keeps place is =
    let counts : Counts places.Draws d = subst (λ p. Counts p d) place keeps.counts in
    let both : HasBoth places.Draws d.nodes d.clients = subst (λ p. HasBoth p d.nodes d.clients) place keeps.some in
    let size = length-append d.draws ([] ∷ []) in
    let left = below _ _ is in
    record {
      keeps = record {
        nodes = keeps.nodes;
        clients = keeps.clients;
        some = both;
        counts = (omega (arith, size), omega (arith, size, left), counts.2, counts.3);
        draws = all_push (AllByRecursion IsDraw) d.draws [] keeps.draws tt;
        logs = keeps.logs;
        told = keeps.told;
      };
      said =
          more_draws _ (draws_at d.clients (length d.draws)) (draw_statements d.clients 0 d.draws) _ (log_statements 0 d.logs) (ap (log_statements 0) counts.2) (draw_statements-begun d.clients d.draws)
          ∙ ap (λ p. statements_at p d ++ draws_at d.clients (length d.draws) ∷ []) (sym place);
    }
draws_kept _ d keeps place is = cc

pub log_kept : (place : JournalPart) (d : Draft) → Keeps d → d.place ≡ place → may_begin_log (past_of d) place ≡ true → Kept d (begun_log d) (log_at (length d.logs))
log_kept places.Draws d keeps place is =
    let counts : Counts places.Draws d = subst (λ p. Counts p d) place keeps.counts in
    let both : HasBoth places.Draws d.nodes d.clients = subst (λ p. HasBoth p d.nodes d.clients) place keeps.some in
    let size = length-append d.logs ([] ∷ []) in
    let none = ap length counts.2 in
    let one = both.0 in
    let few = counts.1 in
    let all = at_most _ _ is in
    record {
      keeps = record {
        nodes = keeps.nodes;
        clients = keeps.clients;
        some = both;
        counts = (omega (arith, few, all), omega (arith, size), omega (arith, size, none, one), counts.3);
        draws = keeps.draws;
        logs = all_push (AllByRecursion (IsStep d.clients)) d.logs [] keeps.logs tt;
        told = keeps.told;
      };
      said =
          more_logs _ (log_at (length d.logs)) (draw_statements d.clients 0 d.draws) (log_statements 0 d.logs) _ (log_statements-begun d.logs)
          ∙ ap (λ p. statements_at p d ++ log_at (length d.logs) ∷ []) (sym place);
    }
log_kept places.Logs d keeps place is =
    let counts : Counts places.Logs d = subst (λ p. Counts p d) place keeps.counts in
    let both : HasBoth places.Logs d.nodes d.clients = subst (λ p. HasBoth p d.nodes d.clients) place keeps.some in
    let size = length-append d.logs ([] ∷ []) in
    let left = below _ _ is in
    record {
      keeps = record {
        nodes = keeps.nodes;
        clients = keeps.clients;
        some = both;
        counts = (counts.0, omega (arith, size), omega (arith, size, left), counts.3);
        draws = keeps.draws;
        logs = all_push (AllByRecursion (IsStep d.clients)) d.logs [] keeps.logs tt;
        told = keeps.told;
      };
      said =
          more_logs _ (log_at (length d.logs)) (draw_statements d.clients 0 d.draws) (log_statements 0 d.logs) _ (log_statements-begun d.logs)
          ∙ ap (λ p. statements_at p d ++ log_at (length d.logs) ∷ []) (sym place);
    }
log_kept _ d keeps place is = cc
