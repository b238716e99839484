use Rattle.std.proofs.Common.{sym, subst}
use Rattle.hs_outcome.proofs.Prelude.{IfOk-weaker, SpellAll, bytes_of}
use Rattle.hs_outcome.proofs.pages.collected.Goals as goal

pub collect-requires : goal.collect-requires
collect-requires c =
    let sheets = c.requires.0 in
    let sorted = c.in_ok-sort_pages.ensures sheets (c.in_ok-pages.ensures sheets c.requires.1) in (
      sorted.others,
      subst (λ pages. SpellAll sorted.others (bytes_of pages)) (sym c.as_slice.ensures.value) sorted.spelled,
      c.runs_decide_the_records.ensures.added sheets sorted.others (λ client trace. sym (sorted.order.pages client trace)) c.requires.2,
    )

pub returns : goal.returns
returns c =
    IfOk-weaker c.collect.result _ _
    (λ collector has sheets spelled can.
    let sorted = c.in_ok-sort_pages.ensures sheets (c.in_ok-pages.ensures sheets spelled) in
    c.reordered_pages_collect_the_same.ensures sorted.others sheets collector sorted.order
    (has sorted.others (subst (λ pages. SpellAll sorted.others (bytes_of pages)) (sym c.as_slice.ensures.value) sorted.spelled)
    (c.runs_decide_the_records.ensures.added sheets sorted.others (λ client trace. sym (sorted.order.pages client trace)) can)))
    c.collect.ensures
