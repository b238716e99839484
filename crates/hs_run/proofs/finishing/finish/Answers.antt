use Rattle.std.proofs.Common.{ℕ, map}
use Rattle.hs_run.proofs.Prelude.{IfOk-weaker, client_book_of, Books, workload_of, moved_by, asked_by, items_of, AreBooksBehind, sents_at}
use Rattle.hs_run.proofs.Gathered.{ended, starts, may, behind_gathered}
use Rattle.hs_run.proofs.finishing.finish.Goals as goal

pub shut_all-requires : goal.shut_all-requires
shut_all-requires c = ended (workload_of c.args.workload.now) c.args.nodes.items c.args.coordinator c.requires

pub close_down-requires : goal.close_down-requires
close_down-requires c =
    let r = c.requires in
    let e = c.in_ok-ended.ended in
    let W = workload_of c.args.workload.now in
    let at = starts W c.args.nodes.items c.args.coordinator r c.closing_begins.ensures c.callers_have_sent.ensures (map client_book_of e.books.items) (items_of e.drawers.items) e.nodes.items c.in_ok-ended.ensures in
    record {
      workload = W;
      rounds = r.rounds;
      moment = r.made.moment;
      came = r.made.came;
      sents = sents_at r.made.moment;
      fit = c.what_is_sent_fits.ensures W r.made.moment r.made.here.stands;
      at = at;
      pays = c.all_is_paid_for.ensures W (λ (node : ℕ). (at.posts node).work) at.heard;
    }

pub gather-requires : goal.gather-requires
gather-requires c =
    let W = workload_of c.args.workload.now in
    let r = c.requires in
    let e = c.in_ok-ended.ended in
    let start = starts W c.args.nodes.items c.args.coordinator r c.closing_begins.ensures c.callers_have_sent.ensures (map client_book_of e.books.items) (items_of e.drawers.items) e.nodes.items c.in_ok-ended.ensures in
    may W c.args.nodes.items c.args.coordinator r c.closing_begins.ensures c.callers_have_sent.ensures (map client_book_of e.books.items) (items_of e.drawers.items) e.nodes.items c.in_ok-ended.ensures c.pools_are_kept.ensures
    c.runs_are_lawful.ensures c.close_down.new.nodes.items c.close_down.new.coordinator (c.in_ok-close_down.ensures W r.rounds r.made.moment (sents_at r.made.moment) start)

pub returns-clause-rounds : goal.returns-clause-rounds
returns-clause-rounds c over =
    let W = workload_of c.args.workload.now in
    let e = c.in_ok-ended.ended in
    let start = starts W c.args.nodes.items c.args.coordinator over c.closing_begins.ensures c.callers_have_sent.ensures (map client_book_of e.books.items) (items_of e.drawers.items) e.nodes.items c.in_ok-ended.ensures in
    let closed = c.in_ok-close_down.ensures W over.rounds over.made.moment (sents_at over.made.moment) start in
    let coordinates = closed.at.stand.coordinates in
    let works = λ (node : ℕ). (closed.at.posts node).work in
    IfOk-weaker c.gather.result _ (AreBooksBehind W over.rounds over.made.moment over.made.came)
    (λ books g.
    behind_gathered c.args.workload.now over e.books g.agents g.told books g.gathered e.nodes.items (items_of e.drawers.items) c.closing_begins.ensures c.callers_have_sent.ensures c.in_ok-ended.ensures c.pools_are_kept.ensures
    c.runs_are_lawful.ensures c.close_down.new.nodes.items c.close_down.new.coordinator closed g.finished c.journals_note_rounds.ensures (g.heard W closed.at.heard (moved_by works) (asked_by works) coordinates))
    c.gather.ensures

pub returns-clause-lawful : goal.returns-clause-lawful
returns-clause-lawful c =
    let W = workload_of c.args.workload.now in
    IfOk-weaker c.gather.result (AreBooksBehind W c.requires.rounds c.requires.made.moment c.requires.made.came) _ (λ (books : Books) (b : AreBooksBehind W c.requires.rounds c.requires.made.moment c.requires.made.came books). (b.0, b.1)) (returns-clause-rounds c c.requires)
