use Rattle.std.proofs.Common.{List, ℕ, OnOk, sym, subst}
use Rattle.hs_replay_client.proofs.Prelude.{Trigger, Point, Fire, Op, operation_of, Does, working_in}
use Rattle.hs_replay_client.proofs.doing.Doing.step.Goals as goal

pub returns-in-Begin-clause-done : goal.returns-in-Begin-clause-done
returns-in-Begin-clause-done g c = subst (λ (op : Op). Does (operation_of op) (working_in c.args.self.now) (working_in c.begin.new.self)) (sym c.in-Begin.is) c.begin.ensures.done

pub returns-in-Point-clause-done : goal.returns-in-Point-clause-done
returns-in-Point-clause-done g c =
    subst (λ (op : Op). OnOk c.point.result (Does (operation_of op) (working_in c.args.self.now) (working_in c.point.new.self))) (sym c.in-Point.is)
    (subst (λ (p : List ℕ). OnOk c.point.result (Does (Point c.in-Point.moment p) (working_in c.args.self.now) (working_in c.point.new.self))) c.as_slice.ensures c.point.ensures.done)

pub returns-in-Crumb-clause-done : goal.returns-in-Crumb-clause-done
returns-in-Crumb-clause-done g c = subst (λ (op : Op). OnOk c.crumb.result (Does (operation_of op) (working_in c.args.self.now) (working_in c.crumb.new.self))) (sym c.in-Crumb.is) c.crumb.ensures.done

pub returns-in-End-clause-done : goal.returns-in-End-clause-done
returns-in-End-clause-done g c = subst (λ (op : Op). OnOk c.end.result (Does (operation_of op) (working_in c.args.self.now) (working_in c.end.new.self))) (sym c.in-End.is) c.end.ensures.done

pub returns-in-Trigger-clause-done : goal.returns-in-Trigger-clause-done
returns-in-Trigger-clause-done g c =
    subst (λ (op : Op). OnOk c.trigger.result (Does (operation_of op) (working_in c.args.self.now) (working_in c.trigger.new.self))) (sym c.in-Trigger.is)
    (subst (λ (t : Trigger). OnOk c.trigger.result (Does (Fire t) (working_in c.args.self.now) (working_in c.trigger.new.self))) c.deref.ensures c.trigger.ensures.done)

pub returns-in-Sample-clause-done : goal.returns-in-Sample-clause-done
returns-in-Sample-clause-done g c = subst (λ (op : Op). OnOk c.sample.result (Does (operation_of op) (working_in c.args.self.now) (working_in c.sample.new.self))) (sym c.in-Sample.is) c.sample.ensures.done
