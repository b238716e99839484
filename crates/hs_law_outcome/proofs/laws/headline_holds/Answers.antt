use Rattle.hs_law_outcome.proofs.Prelude.{followed}
use Rattle.hs_law_outcome.proofs.Followed.{ends_its_traces, all_did_their_logs, have_one_writer}
use Rattle.hs_law_outcome.proofs.Reporting.{reports_are_of_claimed, reports_rise}
use Rattle.hs_law_outcome.proofs.laws.headline_holds.Goals as goal

pub returns : goal.returns
returns c = λ W J valid lawful.
    let ends = ends_its_traces W valid in
    let nodes = c.runs_are_of_the_journal.ensures W J (followed W J) (c.following_plays_out.ensures W J).leads in
    record {
      ledger = record {
        entries = c.each_record_has_one_entry.ensures W J ends lawful.L1;
        totals = c.totals_count_the_records.ensures W J ends lawful.L1;
        causes = c.each_fate_has_its_cause.ensures W J ends valid.count lawful;
        nulls = c.empty_draws_found_nothing.ensures W J ends lawful;
      };
      reports = record {
        traces = reports_are_of_claimed W J (c.each_record_has_one_entry.ensures W J ends lawful.L1);
        rising = reports_rise W J;
        reports = c.reports_show_their_traces.ensures W J ends lawful.L1;
        pages = c.reported_records_have_all_pages.ensures W J ends valid.count lawful;
        sheets = c.reported_pages_are_of_clients.ensures.reported W J ends;
        collected = λ sheets trace wholes. c.collected_records_are_whole.ensures W J sheets trace wholes ends valid.count lawful;
      };
      agents = record {
        kept = c.agents_keep_their_model.ensures W J;
        evicted = c.evicted_only_where_over.ensures W J;
        claimed = c.nothing_claimed_was_evicted.ensures W J;
        abandoned = c.only_the_least_is_abandoned.ensures W J;
      };
      asking = record {
        asked = c.asked_sets_are_least.ensures W J;
        once = c.nobody_is_asked_twice.ensures (followed W J).heard;
        answered = c.answers_are_to_asks.ensures W J;
      };
      buffers = record {
        history = lawful.L3;
        writers = have_one_writer c.no_buffer_is_out_twice.ensures W.settings.buffers (followed W J).nodes lawful.L3;
        given = c.given_were_let_go.ensures W J;
      };
      books = record {
        nodes = nodes.numbers;
        logs = all_did_their_logs W J (followed W J) lawful.L8 nodes.each;
        clients = c.books_of_clients_fit.ensures W J ends valid.count lawful.L1;
        standing = c.each_got_page_has_one_standing.ensures W J ends valid.count lawful;
        got = c.standings_are_of_got_pages.ensures W J valid.count;
      };
    }
