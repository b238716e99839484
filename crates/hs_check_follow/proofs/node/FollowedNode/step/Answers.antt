use Rattle.std.proofs.Common.{◌+◌, ap, refl, subst}
use Rattle.hs_check_follow.proofs.Prelude.{slice_get-get_or, workload_of}
use Rattle.hs_check_follow.specs.Nodes.{PerformsIf}
use Rattle.hs_check_follow.proofs.Tracking.{nothing_left, stepped, not_stepped}
use Rattle.hs_check_follow.proofs.node.FollowedNode.step.Goals as goal

pub perform-requires : goal.perform-requires
perform-requires c =
    let (J, heard, run, m) = c.requires in
    (J, heard, run, m.asks_are, m.at.stands, m.may _)

pub returns-then-self-log : goal.returns-then-self-log
returns-then-self-log c = (refl, λ J heard run m. nothing_left (workload_of c.args.workload.now) J heard run c.args.log.now c.args.asks.now c.args.self.now m c.if-self-log.true)

pub returns-then-not-branch : goal.returns-then-not-branch
returns-then-not-branch c = (
  refl,
  λ J heard run m.
      let W = workload_of c.args.workload.now in
      not_stepped W J heard run c.args.log.now c.args.asks.now c.args.self.now m _ (slice_get-get_or c.args.log.now c.args.self.now.next _ c.if-self-log.false) c.perform.new.self
      (subst (PerformsIf W J heard run _ c.perform.new.self) c.if-not-branch.true (c.in_ok-perform.ensures J heard run m.asks_are m.at.stands (m.may _))) _ refl refl refl refl,
)

pub note-requires : goal.note-requires
note-requires c =
    let W = workload_of c.args.workload.now in
    let (J, heard, run, m) = c.requires in
    let p = subst (PerformsIf W J heard run _ c.perform.new.self) c.if-not-branch.false (c.in_ok-perform.ensures J heard run m.asks_are m.at.stands (m.may _)) in
    (W, J, _, _, p.stands)

pub returns : goal.returns
returns c = (
  (c.if-self-log.false, ap (λ n. n + 1) c.in_ok-note.ensures.next),
  λ J heard run m.
      let W = workload_of c.args.workload.now in
      stepped W J heard run c.args.log.now c.args.asks.now c.args.self.now m _ (slice_get-get_or c.args.log.now c.args.self.now.next _ c.if-self-log.false) c.perform.new.self
      (subst (PerformsIf W J heard run _ c.perform.new.self) c.if-not-branch.false (c.in_ok-perform.ensures J heard run m.asks_are m.at.stands (m.may _)))
      c.if-self-log.false c.is_last.result c.is_last.ensures c.note.new.self c.in_ok-note.ensures _ refl refl refl (ap (λ n. n + 1) c.in_ok-note.ensures.next),
)
