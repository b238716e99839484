use Rattle.std.proofs.Common.{arith, ◌∙◌, sym, ap, subst, inl, inr, length, length-append}
use lib.ListN.{get_elem?}
use Rattle.hs_base.proofs.Places.{elem_push_cases}
use Rattle.hs_link.specs.Ring.{put_of}
use Rattle.hs_link.proofs.Lists.{beginning_short}
use Rattle.hs_link.proofs.sender.put_or_keep.Goals as goal

pub push_back_reserved-requires : goal.push_back_reserved-requires
push_back_reserved-requires g c = let did = c.put_outbox.ensures in let box = c.put_outbox.new.outbox in let was = c.args.outbox.now in
    let all = ap length did.sent in let longer = beginning_short _ _ did.put in let is = box.ok in let room = c.requires.room in let same = did.capacity in
    omega (arith, length-append (put_of c.put_outbox.new.place) box.items, length-append (put_of c.args.place.now) was.items)

pub returns-clause-fact : goal.returns-clause-fact
returns-clause-fact g c = λ p x e. elim (elem_push_cases c.put_outbox.new.outbox.items c.args.item x p (ap (λ z. get_elem? z p) (sym c.push_back_reserved.ensures.items) ∙ e)) [
  | inl old ↦ c.put_outbox.ensures.fact p x old
  | inr new ↦ subst (g.F.Fact.holds c.args.entries.now.key) new.1 c.requires.fact.0
]
