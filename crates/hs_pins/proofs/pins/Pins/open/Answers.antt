use Rattle.std.proofs.Common.{ap, ◌∙◌, arith}
use Rattle.hs_pins.proofs.Prelude.{ClaimList}
use Rattle.indexmap.specs.IndexSet.{spare}
use Rattle.hs_pins.proofs.Remembering.{queue_there, at_view}
use Rattle.hs_pins.proofs.pins.Pins.open.Goals as goal

pub open-requires : goal.open-requires
open-requires g c = queue_there _ c.args.self.now c.requires.declared.0 c.args.group.trigger c.self.view_is c.requires.declared.1 c.requires.declared.2

pub invariant_of-result : goal.invariant_of-result
invariant_of-result g c =
    let v = at_view _ c.args.self.now c.requires.few.0 c.self.view_is c.requires.few.1 in
    let total = v.pinned.chunks.total in
    let all = c.requires.few.2 in
    let few = c.in_ok-opened.ensures.few in
    let drops = c.in_ok-dropped.ensures.chunks in
    let is = c.chunks.ensures in
    let groups = c.in_ok-dropped.ensures.groups in
    let moved = ap spare c.replace-2.ensures.value in
    record {
      priority = c.in_ok-opened.ensures.priority ∙ c.of-priority.ensures;
      seat = λ none. absurd (let some = c.in_ok-reserve.ensures.seat in let moved = ap (λ (l : ClaimList). l.seats) c.replace.ensures.value in omega (arith, none, some, moved));
      room = c.in_ok-opened.ensures.room;
      few = omega (arith, total, all, few);
      none = c.in_ok-dropped.ensures.empty;
      dropped = drops;
      marks = omega (arith, groups, moved);
    }
