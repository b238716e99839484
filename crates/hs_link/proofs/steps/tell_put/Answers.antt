use Rattle.std.proofs.Common.{rules, ◌∙◌, sym, ap, subst, []}
use Rattle.hs_link.specs.Ring.{told_taken, told_put, met, heard, parted, Fits}
use Rattle.hs_link.proofs.Tells.{notes_put, notes_taken, hears, meets, parts}
use Rattle.hs_link.proofs.steps.tell_put.Goals as goal

pub split_seat-taken-requires : goal.split_seat-taken-requires
split_seat-taken-requires g c = (c.requires.receiver.0.0, search rules, notes_taken g.F.Fact.holds _ _ _ _ _ _ (ap (λ m. m.0) c.requires.receiver.1))

pub join_seat-requires : goal.join_seat-requires
join_seat-requires g c = let note = c.split_seat-taken.ensures in let wrote = note.4 ∙ ap (λ m. (told_taken m.0, [])) c.requires.receiver.1 in (
  c.requires.sender.0.0,
  note.3 ∙ c.requires.receiver.0.0,
  ap (λ m. m.1) wrote,
  search rules,
  meets g.F.Fact.holds _ _ _ _ _ _ _ _ _ _ (ap (λ m. m.0) c.requires.sender.1) (ap (λ m. m.0) wrote),
)

pub load-requires : goal.load-requires
load-requires g c = let wrote = c.split_seat-taken.ensures.4 ∙ ap (λ m. (told_taken m.0, [])) c.requires.receiver.1 in let is = c.requires.sender.1 in
    let meeting = c.join_seat.ensures.2 ∙ (λ i. (met (is i).0 (wrote i).0, (is i).1)) in
    (c.join_seat.ensures.0 ∙ c.requires.sender.0.0, search rules, parts g.F.Fact.holds _ _ _ _ _ _ _ _ _ _ meeting)

pub split_seat-put-requires : goal.split_seat-put-requires
split_seat-put-requires g c = let wrote = c.split_seat-taken.ensures.4 ∙ ap (λ m. (told_taken m.0, [])) c.requires.receiver.1 in let is = c.requires.sender.1 in
    let meeting = c.join_seat.ensures.2 ∙ (λ i. (met (is i).0 (wrote i).0, (is i).1)) in let now = c.load.ensures.2.0 ∙ ap (λ m. (parted m.0, m.1)) meeting in
    (c.load.ensures.0 ∙ (c.join_seat.ensures.0 ∙ c.requires.sender.0.0), search rules, notes_put g.F.Fact.holds _ _ _ _ _ _ (ap (λ m. m.0) now))

pub join_seat-requires-2 : goal.join_seat-requires-2
join_seat-requires-2 g c = let wrote = c.split_seat-taken.ensures.4 ∙ ap (λ m. (told_taken m.0, [])) c.requires.receiver.1 in let is = c.requires.sender.1 in
    let meeting = c.join_seat.ensures.2 ∙ (λ i. (met (is i).0 (wrote i).0, (is i).1)) in let now = c.load.ensures.2.0 ∙ ap (λ m. (parted m.0, m.1)) meeting in
    let told = c.split_seat-put.ensures.4 ∙ ap (λ m. (told_put m.0, [])) now in (
      c.split_seat-taken.ensures.0 ∙ c.requires.receiver.0.0,
      c.split_seat-put.ensures.3 ∙ (c.load.ensures.0 ∙ (c.join_seat.ensures.0 ∙ c.requires.sender.0.0)),
      ap (λ m. m.1) told,
      search rules,
      hears g.F.Fact.holds _ _ _ _ _ _ _ _ _ _ (ap (λ m. m.0) (c.split_seat-taken.ensures.2 ∙ c.requires.receiver.1)) (ap (λ m. m.0) told),
    )

pub returns-clause-sender : goal.returns-clause-sender
returns-clause-sender g c = let wrote = c.split_seat-taken.ensures.4 ∙ ap (λ m. (told_taken m.0, [])) c.requires.receiver.1 in let is = c.requires.sender.1 in
    let meeting = c.join_seat.ensures.2 ∙ (λ i. (met (is i).0 (wrote i).0, (is i).1)) in let now = c.load.ensures.2.0 ∙ ap (λ m. (parted m.0, m.1)) meeting in
    c.split_seat-put.ensures.2 ∙ (now ∙ sym is)

pub returns-clause-receiver : goal.returns-clause-receiver
returns-clause-receiver g c = let wrote = c.split_seat-taken.ensures.4 ∙ ap (λ m. (told_taken m.0, [])) c.requires.receiver.1 in let is = c.requires.sender.1 in
    let meeting = c.join_seat.ensures.2 ∙ (λ i. (met (is i).0 (wrote i).0, (is i).1)) in let now = c.load.ensures.2.0 ∙ ap (λ m. (parted m.0, m.1)) meeting in
    let told = c.split_seat-put.ensures.4 ∙ ap (λ m. (told_put m.0, [])) now in let r = c.split_seat-taken.ensures.2 ∙ c.requires.receiver.1 in let at = c.requires.receiver.0 in
    ((c.join_seat-2.ensures.0 ∙ (c.split_seat-taken.ensures.0 ∙ at.0), at.1, at.2), c.join_seat-2.ensures.2 ∙ (λ i. (heard (r i).0 (told i).0, (r i).1)))

pub returns-clause-fits : goal.returns-clause-fits
returns-clause-fits g c = let wrote = c.split_seat-taken.ensures.4 ∙ ap (λ m. (told_taken m.0, [])) c.requires.receiver.1 in let is = c.requires.sender.1 in
    let meeting = c.join_seat.ensures.2 ∙ (λ i. (met (is i).0 (wrote i).0, (is i).1)) in subst (λ m. Fits m.0) meeting c.load.ensures.2.1
