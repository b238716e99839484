use Rattle.std.proofs.Common.{◌≤◌, ◌^◌, List, length, map, ap, sym, ◌∙◌, refl, subst, arith}
use Rattle.hs_outcome.proofs.Prelude.{PlainClientBook, PlainAgentBook, agent_book_of, rising_traces, outcome_of, all_records, all_claimed, SpellAll, all_sent}
use Rattle.hs_ledger.specs.Books.{BooksFit}
use Rattle.hs_ledger.specs.Fates.{entries_of}
use Rattle.hs_ledger.specs.Totals.{totals_of}
use Rattle.hs_law_outcome.specs.Outcomes.{client_books}
use Rattle.hs_law_outcome.proofs.Followed.{ends_its_traces}
use Rattle.hs_outcome.proofs.Journals.{claimed_are, sent_are}
use Rattle.hs_outcome.proofs.gathering.found_in.Goals as goal

pub make_ledger-requires : goal.make_ledger-requires
make_ledger-requires c =
    let W = c.requires.0 in
    let J = c.requires.1 in
    let are = c.requires.2 in
    let fit = c.books_fit.ensures W J (ends_its_traces W are.valid) are.valid.count are.lawful (c.records_are_few.ensures W are.valid) in
    subst (λ (clients : List PlainClientBook). BooksFit clients (map agent_book_of c.args.books.now.agents.items)) (sym are.clients) (subst (λ (agents : List PlainAgentBook). BooksFit (client_books W J) agents) (sym are.agents) fit)

pub collected-requires : goal.collected-requires
collected-requires c =
    let W = c.requires.0 in
    let J = c.requires.1 in
    let are = c.requires.2 in
    let few : length (all_records W) ≤ 2 ^ 32 = omega (arith, c.records_are_few.ensures W are.valid) in (
      (outcome_of W J).reported,
      record { valid = c.reported_pages_are_pages.ensures W J are.valid; are = ap all_sent c.as_slice-2.ensures ∙ sent_are W J c.args.books.now are },
      (c.reported_pages_can_be_collected.ensures W J (outcome_of W J).reported (ends_its_traces W are.valid) are.valid.count are.lawful few (λ client trace. refl)).added,
    )

pub returns-clause-entries : goal.returns-clause-entries
returns-clause-entries c = λ W J are.
    c.in_ok-ledger.ensures.entries
    ∙ ap (λ (clients : List PlainClientBook). entries_of clients (map agent_book_of c.args.books.now.agents.items)) are.clients
    ∙ ap (λ (agents : List PlainAgentBook). entries_of (client_books W J) agents) are.agents

pub returns-clause-totals : goal.returns-clause-totals
returns-clause-totals c = λ W J are.
    let entries = ap (λ (clients : List PlainClientBook). entries_of clients (map agent_book_of c.args.books.now.agents.items)) are.clients ∙ ap (λ (agents : List PlainAgentBook). entries_of (client_books W J) agents) are.agents in
    c.in_ok-ledger.ensures.totals ∙ ap totals_of entries

pub returns-clause-claimed : goal.returns-clause-claimed
returns-clause-claimed c = λ W J are. c.in_ok-claimed.ensures ∙ ap rising_traces (ap all_claimed c.as_slice.ensures ∙ claimed_are W J c.args.books.now are)

pub returns-clause-collected : goal.returns-clause-collected
returns-clause-collected c = λ W J are.
    let few : length (all_records W) ≤ 2 ^ 32 = omega (arith, c.records_are_few.ensures W are.valid) in
    let spelled : SpellAll (outcome_of W J).reported (all_sent c.as_slice-2.result.now) =
    record { valid = c.reported_pages_are_pages.ensures W J are.valid; are = ap all_sent c.as_slice-2.ensures ∙ sent_are W J c.args.books.now are } in
    let can = (c.reported_pages_can_be_collected.ensures W J (outcome_of W J).reported (ends_its_traces W are.valid) are.valid.count are.lawful few (λ client trace. refl)).added in
    c.in_ok-collector.ensures (outcome_of W J).reported spelled can
