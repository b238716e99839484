use Rattle.std.proofs.Common.{◌≡◌, true, sym, ◌∙◌}
use Rattle.hs_check.proofs.Prelude.{PlainJournal, journal_of, is_followed, followed, played, PlainWorkload, workload_of, of_the_journal}
use Rattle.hs_check.proofs.First.{none_fails}
use Rattle.hs_check.proofs.Left.{all_left}
use Rattle.hs_check.proofs.Whole.{none_so, some_so, following_fails, pools_fail, behind_pools}
use Rattle.hs_check.proofs.verdict.check.Goals as goal

pub returns-then-not-is_done : goal.returns-then-not-is_done
returns-then-not-is_done c =
    let W : PlainWorkload = workload_of c.args.workload.now in
    let J : PlainJournal = journal_of c.args.journal.now in
    let p = played W J in
    let journal = none_so c.in_ok-clause.ensures c.in_default.is in
    following_fails p journal (sym (c.is_done.ensures W (followed W J) c.in_ok-following.ensures) ∙ c.if-not-is_done.true)

pub ask_pools-requires : goal.ask_pools-requires
ask_pools-requires c =
    let W : PlainWorkload = workload_of c.args.workload.now in
    let J : PlainJournal = journal_of c.args.journal.now in
    let p = played W J in
    let journal = none_so c.in_ok-clause.ensures c.in_default.is in
    let done : is_followed p ≡ true = sym (c.is_done.ensures W (followed W J) c.in_ok-following.ensures) ∙ c.if-not-is_done.false in
    record { valid = c.requires; stamps = (none_fails p of_the_journal journal).1.0; done = done; found_is = c.in_ok-found.ensures.found W J c.in_ok-following.ensures done }

pub returns-in-Some-2 : goal.returns-in-Some-2
returns-in-Some-2 c =
    let W : PlainWorkload = workload_of c.args.workload.now in
    let J : PlainJournal = journal_of c.args.journal.now in
    let p = played W J in
    let journal = none_so c.in_ok-clause.ensures c.in_default.is in
    let done : is_followed p ≡ true = sym (c.is_done.ensures W (followed W J) c.in_ok-following.ensures) ∙ c.if-not-is_done.false in
    pools_fail p journal done _ (some_so c.in_ok-clause-2.ensures c.in-Some-2.is)

pub ask_end-requires : goal.ask_end-requires
ask_end-requires c =
    let W : PlainWorkload = workload_of c.args.workload.now in
    let J : PlainJournal = journal_of c.args.journal.now in
    let p = played W J in
    let journal = none_so c.in_ok-clause.ensures c.in_default.is in
    let done : is_followed p ≡ true = sym (c.is_done.ensures W (followed W J) c.in_ok-following.ensures) ∙ c.if-not-is_done.false in
    record { valid = c.requires; stamps = (none_fails p of_the_journal journal).1.0; done = done; found_is = c.in_ok-found.ensures.found W J c.in_ok-following.ensures done }

pub returns-in-Some-3 : goal.returns-in-Some-3
returns-in-Some-3 c =
    let W : PlainWorkload = workload_of c.args.workload.now in
    let J : PlainJournal = journal_of c.args.journal.now in
    let p = played W J in
    let journal = none_so c.in_ok-clause.ensures c.in_default.is in
    let done : is_followed p ≡ true = sym (c.is_done.ensures W (followed W J) c.in_ok-following.ensures) ∙ c.if-not-is_done.false in
    let pools = none_so c.in_ok-clause-2.ensures c.in_default-2.is in
    behind_pools p journal done pools ∙ some_so c.in_ok-clause-3.ensures c.in-Some-3.is

pub come_to-requires : goal.come_to-requires
come_to-requires c =
    let W : PlainWorkload = workload_of c.args.workload.now in
    let J : PlainJournal = journal_of c.args.journal.now in
    let p = played W J in
    let journal = none_so c.in_ok-clause.ensures c.in_default.is in
    let done : is_followed p ≡ true = sym (c.is_done.ensures W (followed W J) c.in_ok-following.ensures) ∙ c.if-not-is_done.false in
    let pools = none_so c.in_ok-clause-2.ensures c.in_default-2.is in
    let lawful = (c.lawful_is_decided.ensures W J).0 (behind_pools p journal done pools ∙ none_so c.in_ok-clause-3.ensures c.in_default-3.is) in
    all_left c.runs_are_of_the_journal.ensures W J c.in_ok-following.following.nodes.items c.in_ok-following.following.hearing c.in_ok-following.ensures lawful c.in_ok-found.ended c.in_ok-found.ensures.clients c.in_ok-found.ensures.agents

pub returns : goal.returns
returns c =
    let W : PlainWorkload = workload_of c.args.workload.now in
    let J : PlainJournal = journal_of c.args.journal.now in
    let p = played W J in
    let journal = none_so c.in_ok-clause.ensures c.in_default.is in
    let done : is_followed p ≡ true = sym (c.is_done.ensures W (followed W J) c.in_ok-following.ensures) ∙ c.if-not-is_done.false in
    let pools = none_so c.in_ok-clause-2.ensures c.in_default-2.is in
    let lawful = (c.lawful_is_decided.ensures W J).0 (behind_pools p journal done pools ∙ none_so c.in_ok-clause-3.ensures c.in_default-3.is) in
    (lawful, c.in_ok-outcome.ensures)
