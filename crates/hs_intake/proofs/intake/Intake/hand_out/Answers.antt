use Rattle.std.proofs.Common.{Some, sym, subst}
use Rattle.hs_intake.specs.declared.took.Handed.{Handed}
use Rattle.hs_intake.specs.Intakes.{PlainIntake, Stands}
use Rattle.hs_intake.specs.IntakeLayout.{intake_in}
use Rattle.hs_intake.specs.Handing.{HandsOut, handed_by}
use Rattle.hs_intake.proofs.Acts.{said_since}
use Rattle.hs_intake.proofs.Handing.{said_and_gave}
use Rattle.hs_intake.proofs.intake.Intake.hand_out.Goals as goal

pub returns-in-Parted : goal.returns-in-Parted
returns-in-Parted c = λ run stands.
    let d = intake_in c.self.inside in
    let there : Stands run d = subst (λ (x : PlainIntake). Stands run x) (sym c.self.view_is) stands in
    let m = c.say_first.new.mail in
    let s = c.say_first.new.claims in
    subst (λ (h : Handed). HandsOut run c.args.self.now h c.give_first-in-Parted.new.self) (sym c.handed_by-in-Parted.ensures)
    (subst (λ (x : PlainIntake). HandsOut run x (handed_by (Some c.in-Parted.parted) c.give_first-in-Parted.result) c.give_first-in-Parted.new.self) c.self.view_is
    (said_and_gave run d c.give_first-in-Parted.new.self (record { mail = m; claims = s }) (Some c.in-Parted.parted) c.give_first-in-Parted.result (c.in-Parted.ensures run there.follows there.offered).1
    (c.give_first-in-Parted.ensures run (said_since run d m s d.unsaid there))))
