use Rattle.std.proofs.Common.{◌≡◌, true, Ok, sym, ap, subst, ◌∙◌}
use Rattle.hs_settings.specs.Settings.{IsServiceSettings, has_room}
use Rattle.hs_settings.specs.LookBack.{Past, settings_said}
use Rattle.hs_settings.specs.Faults.{Refuses}
use Rattle.hs_settings.specs.Forward.{past_of}
use Rattle.hs_settings.proofs.Reading.{IsAt, at_start, at_next, stopped, cut_off, at_end, settled_well, settled_ill, valid}
use Rattle.hs_settings.proofs.reader.read_settings.Goals as goal

pub loop-line-init : goal.loop-line-init
loop-line-init c = subst (λ (p : Past). IsAt c.args.text.now c.args.text.now 0 p) (sym c.new-reader.ensures) (at_start c.args.text.now)

pub loop-line-preserved : goal.loop-line-preserved
loop-line-preserved c =
    at_next c.args.text.now c.loop-line.rest.now c.in-Some.line.now c.in-Some.behind.now c.loop-line.lines (past_of c.loop-line.reader) (past_of c.read_line.new.self) c.loop-line.invariant
    (record { split = c.in-Some.ensures.some; one = c.in-Some.ensures.line }) c.in_default-read_line.ensures

pub returns-in-Err-clause-refused : goal.returns-in-Err-clause-refused
returns-in-Err-clause-refused c =
    subst (Refuses c.args.text.now) (sym c.fault_for.ensures)
    (stopped c.args.text.now c.loop-line.rest.now c.in-Some.line.now c.in-Some.behind.now c.loop-line.lines (past_of c.loop-line.reader) c.in-Err.stop c.loop-line.invariant
    (record { split = c.in-Some.ensures.some; one = c.in-Some.ensures.line }) c.in-Err.ensures)

pub returns-then-not-is_empty-clause-refused : goal.returns-then-not-is_empty-clause-refused
returns-then-not-is_empty-clause-refused c =
    subst (Refuses c.args.text.now) (sym c.fault_for-then-not-is_empty.ensures)
    (cut_off c.args.text.now c.loop-line.rest.now c.loop-line.lines (past_of c.loop-line.reader) c.loop-line.invariant c.in_default.ensures.none (sym c.is_empty.ensures ∙ c.if-not-is_empty.true))

pub into_settings-requires : goal.into_settings-requires
into_settings-requires c = c.loop-line.invariant.keeps.givens

pub returns-in-Some-into_settings-clause-read : goal.returns-in-Some-into_settings-clause-read
returns-in-Some-into_settings-clause-read c =
    let p : Past = past_of c.loop-line.reader in
    let ended = at_end c.args.text.now c.loop-line.rest.now c.loop-line.lines p c.loop-line.invariant (sym c.is_empty.ensures ∙ c.if-not-is_empty.false) in
    let room : has_room (settings_said p) ≡ true = sym c.in-Some-into_settings.ensures.room in
    ended ∙ settled_well (settings_said p) room ∙ ap Ok (sym c.in-Some-into_settings.ensures.said)

pub returns-in-Some-into_settings-clause-valid : goal.returns-in-Some-into_settings-clause-valid
returns-in-Some-into_settings-clause-valid c =
    let p : Past = past_of c.loop-line.reader in
    let room : has_room (settings_said p) ≡ true = sym c.in-Some-into_settings.ensures.room in
    subst IsServiceSettings (sym c.in-Some-into_settings.ensures.said) (valid p c.loop-line.invariant.keeps room)

pub returns-in-None-clause-refused : goal.returns-in-None-clause-refused
returns-in-None-clause-refused c =
    let p : Past = past_of c.loop-line.reader in
    let ended = at_end c.args.text.now c.loop-line.rest.now c.loop-line.lines p c.loop-line.invariant (sym c.is_empty.ensures ∙ c.if-not-is_empty.false) in
    ended ∙ settled_ill (settings_said p) (sym c.in-None.ensures.room)
