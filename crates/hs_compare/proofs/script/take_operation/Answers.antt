use Rattle.std.proofs.Common.{List, [], ◌∷◌, ◌++◌, length, drop, sym, ap, ◌∙◌}
use Rattle.hs_compare.proofs.Prelude.{operation_of, Script, events_of}
use Rattle.hs_compare.specs.declared.happening.ScriptEvent.{ScriptEvent}
use Rattle.hs_compare.proofs.Scripted.{script_on}
use Rattle.hs_compare.proofs.Walked.{left_next, run_left}
use Rattle.hs_compare.proofs.script.take_operation.Goals as goal

pub returns-clause-script : goal.returns-clause-script
returns-clause-script c = λ before number has.
    let names = c.args.names.now in
    let noted = c.note_record.new.events.items in
    let after : Script = record { events = c.take_at.new.events; ends = c.append.new.self } in
    script_on c.one_operation_more.ensures.numbered names before (operation_of c.args.operation.now) c.args.walk.now c.note_record.new.walk c.args.script.now after has c.in_ok-note_record.ensures.client
    (c.in_ok-note_record.ensures.gone before has.gone)
    (c.in_ok-append.ensures.ok ∙ ap (λ n. c.args.script.now.ends.items ++ n ∷ []) c.len.ensures)
    (c.in_ok-next.ensures.events ∙ ap (λ (es : List ScriptEvent). noted ++ es) (run_left names (drop c.args.taken names) c.args.number c.requires.names)
    ∙ ap (λ n. noted ++ events_of names n) (sym number)
    ∙ ap (λ (es : List ScriptEvent). es ++ events_of names (length before)) (c.in_ok-note_record.ensures.comes before has.gone))

pub returns-clause-names : goal.returns-clause-names
returns-clause-names c = left_next c.args.names.now (drop c.args.taken c.args.names.now) (drop c.in_ok-next.next c.args.names.now) c.args.number c.requires.names c.in_ok-next.ensures.rest
