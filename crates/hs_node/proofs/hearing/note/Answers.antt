use Rattle.std.proofs.Common.{◌≡◌, subst}
use Rattle.std.specs.Prelude.{OnOk}
use Rattle.hs_whole.specs.declared.answers.SegmentReport.{SegmentReport}
use Rattle.hs_whole.specs.declared.page.PageName.{PageName}
use Rattle.hs_whole.specs.Notes.{after_opened, after_closed}
use Rattle.hs_node.specs.Nodes.{place_of}
use Rattle.hs_node.proofs.Steps.{opened_so, closed_so, refused_so, led_so}
use Rattle.hs_node.proofs.hearing.note.Goals as goal

pub returns-in-Opened : goal.returns-in-Opened
returns-in-Opened c =
    let segment = c.args.segment.now in
    opened_so c.args.notes.now c.opened.new.self c.args.client segment c.opened.result c.in-Opened.is
    (subst (λ (p : PageName). OnOk c.opened.result (c.opened.new.self ≡ after_opened c.args.notes.now c.args.client segment.number segment.trace p)) c.place_of-place.ensures c.opened.ensures.after)
    c.opened.ensures.memory

pub returns-in-Closed : goal.returns-in-Closed
returns-in-Closed c =
    let segment = c.args.segment.now in
    closed_so c.args.notes.now c.closed.new.self c.args.client segment c.in-Closed.counts c.closed.result c.in-Closed.is
    (subst (λ (r : SegmentReport). OnOk c.closed.result (c.closed.new.self ≡ after_closed c.args.notes.now c.args.client segment.number segment.trace (place_of segment) r)) c.report_of-report.ensures
    (subst (λ (p : PageName). OnOk c.closed.result (c.closed.new.self ≡ after_closed c.args.notes.now c.args.client segment.number segment.trace p c.report_of-report.result)) c.place_of-place.ensures c.closed.ensures.after))
    c.closed.ensures.memory

pub returns-in-Refused : goal.returns-in-Refused
returns-in-Refused c = refused_so c.args.notes.now c.refused.new.self c.args.client c.args.segment.now c.refused.result c.in-Refused.is c.refused.ensures.after c.refused.ensures.memory

pub returns-in-Led : goal.returns-in-Led
returns-in-Led c = led_so c.args.notes.now c.led.new.self c.args.client c.args.segment.now c.in-Led.nodes c.led.result c.in-Led.is c.led.ensures.after c.led.ensures.memory
