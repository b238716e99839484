-- Each line that is taken keeps what was read, and adds what it says.
use Rattle.std.proofs.Common.{◌≡◌, ℕ, ◌/◌, ◌<◌, ◌≤◌, ◌^◌, ◌&&◌, ◌||◌, nat_eq, nat_le, not, true, false, List, [], ◌∷◌, ◌++◌, length, get_or, refl, sym, ap, subst, ◌∙◌, append_assoc, arith}
use Rattle.std.proofs.lemmas.Bool.{and_parts}
use Rattle.std.proofs.lemmas.List.{map_push}
use Rattle.std.specs.List.{AllByRecursion}
use Rattle.hs_base.proofs.Alls.{all_push}
use Rattle.hs_base.proofs.Numbers.{nat_le_past, nat_eq_from}
use Rattle.hs_base.specs.declared.limits.TheConstants.{MAX_NODES, MAX_CLIENTS}
use Rattle.hs_base.specs.declared.ids.NodeId.{NodeId}
use Rattle.hs_base.specs.Ranges.{is_out}
use Rattle.hs_records.specs.declared.journal.Draw.TheVariants as draws
use Rattle.hs_records.specs.declared.journal.Step.TheVariants as steps
use Rattle.hs_journal.specs.declared.word.Keyword.{Keyword}
use Rattle.hs_journal.specs.declared.word.Keyword.TheVariants as keywords
use Rattle.hs_journal.specs.declared.part.JournalPart.{JournalPart}
use Rattle.hs_journal.specs.declared.part.JournalPart.TheVariants as places
use Rattle.hs_journal.specs.Statements.{number_count, told_statement}
use Rattle.hs_journal.specs.Grammar.{head_statement, draw_statements, log_statements, order_statements, coordinator_statement, end_statement, journal_statements}
use Rattle.hs_records.specs.Journals.{IsNodeBelow, IsJournal}
use Rattle.hs_journal.specs.Faults.{numbers_at, may_stand, is_out_of_range, is_out_of_order, is_in_logs, is_ended}
use Rattle.hs_journal.specs.Forward.{Draft, past_of, after, journal_drafted}
use Rattle.hs_journal.proofs.Lines.{IsSmall, Taken}
use Rattle.hs_journal.proofs.Keeps.{HasBoth, Counts, Keeps, lists_statements, statements_at, draft_statements, Kept, in_logs, in_order, at_start, at_most, draw_kept, step_kept, draws_kept, log_kept}

-- ---- numbers by their places

no_number : (ns : List ℕ) → length ns ≡ 0 → ns ≡ []
no_number [] count = refl
no_number (a ∷ ns) count = absurd (omega (arith, count))

record One (ns : List ℕ) : Type 0 where
  pub are : ns ≡ get_or ns 0 0 ∷ []
  pub first : get_or ns 0 0 < 2 ^ 64

one_number : (ns : List ℕ) → AllByRecursion IsSmall ns → length ns ≡ 1 → One ns
one_number [] small count = absurd (omega (arith, count))
one_number (a ∷ []) small count = record { are = refl; first = small.0 }
one_number (a ∷ b ∷ ns) small count = absurd (omega (arith, count))

record Two (ns : List ℕ) : Type 0 where
  pub are : ns ≡ get_or ns 0 0 ∷ get_or ns 1 0 ∷ []
  pub second : get_or ns 1 0 < 2 ^ 64

two_numbers : (ns : List ℕ) → AllByRecursion IsSmall ns → length ns ≡ 2 → Two ns
two_numbers [] small count = absurd (omega (arith, count))
two_numbers (a ∷ []) small count = absurd (omega (arith, count))
two_numbers (a ∷ b ∷ []) small count = record { are = refl; second = small.1.0 }
two_numbers (a ∷ b ∷ c ∷ ns) small count = absurd (omega (arith, count))

three_numbers : (ns : List ℕ) → length ns ≡ 3 → ns ≡ get_or ns 0 0 ∷ get_or ns 1 0 ∷ get_or ns 2 0 ∷ []
three_numbers [] count = absurd (omega (arith, count))
three_numbers (a ∷ []) count = absurd (omega (arith, count))
three_numbers (a ∷ b ∷ []) count = absurd (omega (arith, count))
three_numbers (a ∷ b ∷ c ∷ []) count = refl
three_numbers (a ∷ b ∷ c ∷ d ∷ ns) count = absurd (omega (arith, count))

-- the same said of equal numbers
said_of : (d next : Draft) (k : Keyword) (ns ms : List ℕ) → ns ≡ ms → Kept d next (record { keyword = k; numbers = ms }) → Kept d next (record { keyword = k; numbers = ns })
said_of d next k ns ms same kept = subst (λ numbers. Kept d next (record { keyword = k; numbers = numbers })) (sym same) kept

record IsHead (version nodes clients : ℕ) : Type 0 where
  pub is_first : version ≡ 1
  pub some_nodes : 0 < nodes
  pub few_nodes : nodes ≤ MAX_NODES
  pub some_clients : 0 < clients
  pub few_clients : clients ≤ MAX_CLIENTS

head_within : (version nodes clients : ℕ) → (not (nat_eq version 1) || is_out 1 MAX_NODES nodes || is_out 1 MAX_CLIENTS clients) ≡ false → IsHead version nodes clients
head_within version nodes clients is = record { is_first = grind arith; some_nodes = grind arith; few_nodes = grind arith; some_clients = grind arith; few_clients = grind arith }

both_equal : (a b c d : ℕ) → (not (nat_eq a b) || not (nat_eq c d)) ≡ false → (a ≡ b) × (c ≡ d)
both_equal a b c d is = (grind arith, grind arith)

-- ---- the other words

head_kept : (d : Draft) (ns : List ℕ) → Keeps d → may_stand (past_of d) keywords.Journal ≡ true → length ns ≡ 3
    → is_out_of_range (past_of d) keywords.Journal (numbers_at ns) ≡ false → Kept d (after d keywords.Journal (numbers_at ns)) (record { keyword = keywords.Journal; numbers = ns })
head_kept d ns keeps stands count within =
    let place = at_start d.place stands in
    let counts : Counts places.Start d = subst (λ p. Counts p d) place keeps.counts in
    let head = head_within (get_or ns 0 0) (get_or ns 1 0) (get_or ns 2 0) within in
    let nodes = get_or ns 1 0 in
    let clients = get_or ns 2 0 in
    let no_draws = counts.0 in
    let no_logs = counts.1 in
    let no_told = counts.2 in
    said_of d (after d keywords.Journal (numbers_at ns)) keywords.Journal ns (1 ∷ nodes ∷ clients ∷ []) (three_numbers ns count ∙ ap (λ n. n ∷ nodes ∷ clients ∷ []) head.is_first)
    (record {
      keeps = record {
        nodes = head.few_nodes;
        clients = head.few_clients;
        some = (head.some_nodes, head.some_clients);
        counts = counts;
        draws = keeps.draws;
        logs = rw no_logs tt;
        told = rw no_told tt;
      };
      said =
          ap (λ lists. head_statement nodes clients ∷ (draw_statements clients 0 lists ++ log_statements 0 d.logs)) no_draws
          ∙ ap (λ logs. head_statement nodes clients ∷ log_statements 0 logs) no_logs
          ∙ ap (λ p. statements_at p d ++ head_statement nodes clients ∷ []) (sym place);
    })

coordinator_kept : (d : Draft) → Keeps d → (is_in_logs d.place && nat_le d.nodes (length d.logs)) ≡ true → Kept d (record d { place = places.Order }) coordinator_statement
coordinator_kept d keeps stands =
    let parts = and_parts (is_in_logs d.place) (nat_le d.nodes (length d.logs)) stands in
    let place = in_logs d.place parts.0 in
    let counts : Counts places.Logs d = subst (λ p. Counts p d) place keeps.counts in
    let both : HasBoth places.Logs d.nodes d.clients = subst (λ p. HasBoth p d.nodes d.clients) place keeps.some in
    let few = counts.2 in
    let all = at_most _ _ parts.1 in
    record {
      keeps = record {
        nodes = keeps.nodes;
        clients = keeps.clients;
        some = both;
        counts = (counts.0, omega (arith, few, all));
        draws = keeps.draws;
        logs = keeps.logs;
        told = keeps.told;
      };
      said =
          ap (λ told. lists_statements d ++ order_statements told) counts.3
          ∙ ap (λ p. statements_at p d ++ coordinator_statement ∷ []) (sym place);
    }

abbrev told_more : Draft → ℕ → Draft
told_more d n = record d { told = d.told ++ record { 0 = n } ∷ [] }

told_kept : (d : Draft) (n : ℕ) → Keeps d → may_stand (past_of d) keywords.Told ≡ true → n < d.nodes → Kept d (told_more d n) (told_statement (record { 0 = n }))
told_kept d n keeps stands fits =
    let node : NodeId = record { 0 = n } in
    let place = in_order d.place stands in
    record {
      keeps = record {
        nodes = keeps.nodes;
        clients = keeps.clients;
        some = keeps.some;
        counts = subst (λ p. Counts p (told_more d n)) (sym place) (subst (λ p. Counts p d) place keeps.counts);
        draws = keeps.draws;
        logs = keeps.logs;
        told = all_push (IsNodeBelow d.nodes) d.told node keeps.told fits;
      };
      said =
          ap (λ p. statements_at p (told_more d n)) place
          ∙ ap (λ rest. lists_statements d ++ coordinator_statement ∷ rest) (map_push told_statement d.told node)
          ∙ sym (append_assoc (lists_statements d) (order_statements d.told) (told_statement node ∷ []))
          ∙ ap (λ p. statements_at p d ++ told_statement node ∷ []) (sym place);
    }

end_kept : (d : Draft) → Keeps d → may_stand (past_of d) keywords.End ≡ true → Kept d (record d { place = places.Ended }) end_statement
end_kept d keeps stands =
    let place = in_order d.place stands in
    record {
      keeps = record {
        nodes = keeps.nodes;
        clients = keeps.clients;
        some = subst (λ p. HasBoth p d.nodes d.clients) place keeps.some;
        counts = subst (λ p. Counts p d) place keeps.counts;
        draws = keeps.draws;
        logs = keeps.logs;
        told = keeps.told;
      };
      said =
          sym (append_assoc (lists_statements d) (order_statements d.told) (end_statement ∷ []))
          ∙ ap (λ p. statements_at p d ++ end_statement ∷ []) (sym place);
    }

-- ---- any word

kept : (d : Draft) (k : Keyword) (ns : List ℕ) → Keeps d → may_stand (past_of d) k ≡ true → length ns ≡ number_count k → AllByRecursion IsSmall ns
    → is_out_of_range (past_of d) k (numbers_at ns) ≡ false → is_out_of_order (past_of d) k (numbers_at ns) ≡ false
    → Kept d (after d k (numbers_at ns)) (record { keyword = k; numbers = ns })
kept d keywords.Journal ns keeps stands count small within ordered = head_kept d ns keeps stands count within
kept d keywords.Draws ns keeps stands count small within ordered =
    let same = both_equal _ _ _ _ ordered in
    said_of d _ keywords.Draws ns _ ((two_numbers ns small count).are ∙ ap (λ a. a ∷ get_or ns 1 0 ∷ []) same.0 ∙ ap (λ b. length d.draws / d.clients ∷ b ∷ []) same.1) (draws_kept d.place d keeps refl stands)
kept d keywords.Got ns keeps stands count small within ordered =
    let two = two_numbers ns small count in
    said_of d _ keywords.Got ns _ two.are (draw_kept d (draws.Got (get_or ns 0 0) (get_or ns 1 0)) keeps stands (nat_le_past _ _ within, two.second))
kept d keywords.Empty ns keeps stands count small within ordered =
    let one = one_number ns small count in
    said_of d _ keywords.Empty ns _ one.are (draw_kept d (draws.Empty (get_or ns 0 0)) keeps stands one.first)
kept d keywords.Log ns keeps stands count small within ordered =
    said_of d _ keywords.Log ns _ ((one_number ns small count).are ∙ ap (λ a. a ∷ []) (nat_eq_from _ _ ordered)) (log_kept d.place d keeps refl stands)
kept d keywords.Chunk ns keeps stands count small within ordered =
    said_of d _ keywords.Chunk ns _ (one_number ns small count).are (step_kept d (steps.Chunk (get_or ns 0 0)) keeps stands (nat_le_past _ _ within))
kept d keywords.Crumb ns keeps stands count small within ordered =
    said_of d _ keywords.Crumb ns _ (one_number ns small count).are (step_kept d (steps.Crumb (get_or ns 0 0)) keeps stands (nat_le_past _ _ within))
kept d keywords.Trigger ns keeps stands count small within ordered =
    said_of d _ keywords.Trigger ns _ (one_number ns small count).are (step_kept d (steps.Trigger (get_or ns 0 0)) keeps stands (nat_le_past _ _ within))
kept d keywords.Ask ns keeps stands count small within ordered = said_of d _ keywords.Ask ns _ (no_number ns count) (step_kept d steps.Ask keeps stands tt)
kept d keywords.Turn ns keeps stands count small within ordered = said_of d _ keywords.Turn ns _ (no_number ns count) (step_kept d steps.Turn keeps stands tt)
kept d keywords.Given ns keeps stands count small within ordered =
    let one = one_number ns small count in
    said_of d _ keywords.Given ns _ one.are (step_kept d (steps.Given (get_or ns 0 0)) keeps stands one.first)
kept d keywords.Missed ns keeps stands count small within ordered =
    let one = one_number ns small count in
    said_of d _ keywords.Missed ns _ one.are (step_kept d (steps.Missed (get_or ns 0 0)) keeps stands one.first)
kept d keywords.Unread ns keeps stands count small within ordered = said_of d _ keywords.Unread ns _ (no_number ns count) (step_kept d steps.Unread keeps stands tt)
kept d keywords.Coordinator ns keeps stands count small within ordered = said_of d _ keywords.Coordinator ns _ (no_number ns count) (coordinator_kept d keeps stands)
kept d keywords.Told ns keeps stands count small within ordered =
    said_of d _ keywords.Told ns _ (one_number ns small count).are (told_kept d (get_or ns 0 0) keeps stands (nat_le_past _ _ within))
kept d keywords.End ns keeps stands count small within ordered = said_of d _ keywords.End ns _ (no_number ns count) (end_kept d keeps stands)

pub taken_kept : (d next : Draft) (line : List ℕ) (keeps : Keeps d) (taken : Taken d line next) → Kept d next (record { keyword = taken.keyword; numbers = taken.numbers })
taken_kept d next line keeps taken =
    subst (λ draft. Kept d draft (record { keyword = taken.keyword; numbers = taken.numbers })) (sym taken.is)
    (kept d taken.keyword taken.numbers keeps taken.stands taken.count taken.small taken.within taken.ordered)

-- ---- the journal that has ended

pub ended_place : (place : JournalPart) → is_ended place ≡ true → place ≡ places.Ended
ended_place places.Ended is = refl
ended_place _ is = cc

pub ended_said : (d : Draft) → is_ended d.place ≡ true → draft_statements d ≡ journal_statements (journal_drafted d)
ended_said d is =
    ap (λ p. statements_at p d) (ended_place d.place is)
    ∙ ap (λ rest. head_statement d.nodes d.clients ∷ rest)
    (append_assoc (draw_statements d.clients 0 d.draws) (log_statements 0 d.logs) (order_statements d.told ++ end_statement ∷ []))

pub ended_journal : (d : Draft) → Keeps d → is_ended d.place ≡ true → IsJournal (journal_drafted d)
ended_journal d keeps is =
    let place = ended_place d.place is in
    let counts : Counts places.Ended d = subst (λ p. Counts p d) place keeps.counts in
    let both : HasBoth places.Ended d.nodes d.clients = subst (λ p. HasBoth p d.nodes d.clients) place keeps.some in
    record {
      nodes = (both.0, keeps.nodes);
      clients = (both.1, keeps.clients);
      draw_lists = counts.0;
      log_lists = counts.1;
      draws = keeps.draws;
      logs = keeps.logs;
      told = keeps.told;
    }
