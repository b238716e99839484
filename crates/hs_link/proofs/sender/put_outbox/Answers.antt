use Rattle.std.proofs.Common.{rules, arith, suc, ◌≡◌, ◌+◌, ◌∙◌, sym, ap, subst, [], ◌∷◌, ◌++◌, append_assoc, length, length-append}
use Rattle.std.specs.Option.{option_to_list}
use lib.ListN.{get_elem?}
use Rattle.hs_link.specs.declared.board.View.TheVariants.{Sending}
use Rattle.hs_link.specs.Contents.{IsBeginning}
use Rattle.hs_link.specs.Ring.{IsLaying, put_by, heard_by, put_of, heard_of}
use Rattle.hs_link.proofs.Lists.{beginning_grown}
use Rattle.hs_link.proofs.sender.put_outbox.Goals as goal

pub put-requires-clause-few : goal.put-requires-clause-few
put-requires-clause-few g c = let inv = c.loop-place.invariant in let x = c.unwrap.result in
    let laying : IsLaying c.args.entries.now.table_id c.args.entries.now.key c.look_to_put.new.place c.loop-place.cursor.entry (put_of c.loop-place.place) (heard_of c.loop-place.place) = search rules in
    let same = ap (λ m. length (put_by m.0)) laying.1 in
    let box : c.loop-place.outbox.items ≡ x ∷ c.pop_front.new.self.items = c.pop_front.ensures.items ∙ ap (λ o. option_to_list o ++ c.pop_front.new.self.items) c.unwrap.ensures in
    let all = ap length inv.sent in let some_left = ap length box in let few = c.requires.few in
    omega (arith, length-append (put_of c.loop-place.place) c.loop-place.outbox.items, length-append (put_of c.args.place.now) c.args.outbox.now.items)

pub put-requires-clause-fact : goal.put-requires-clause-fact
put-requires-clause-fact g c = let inv = c.loop-place.invariant in let x = c.unwrap.result in
    let box : c.loop-place.outbox.items ≡ x ∷ c.pop_front.new.self.items = c.pop_front.ensures.items ∙ ap (λ o. option_to_list o ++ c.pop_front.new.self.items) c.unwrap.ensures in
    inv.fact 0 x (ap (λ z. get_elem? z 0) box)

pub advance-requires : goal.advance-requires
advance-requires g c = let inv = c.loop-place.invariant in let x = c.unwrap.result in
    let box : c.loop-place.outbox.items ≡ x ∷ c.pop_front.new.self.items = c.pop_front.ensures.items ∙ ap (λ o. option_to_list o ++ c.pop_front.new.self.items) c.unwrap.ensures in
    let all = ap length inv.sent in let some_left = ap length box in let few = c.requires.few in let counted = inv.cursor.1 in
    omega (arith, length-append (put_of c.loop-place.place) c.loop-place.outbox.items, length-append (put_of c.args.place.now) c.args.outbox.now.items)

pub loop-place-preserved : goal.loop-place-preserved
loop-place-preserved g c = let inv = c.loop-place.invariant in let x = c.unwrap.result in let did = c.put.ensures in let before = put_of c.loop-place.place in let left = c.pop_front.new.self.items in
    let laying : IsLaying c.args.entries.now.table_id c.args.entries.now.key c.look_to_put.new.place c.loop-place.cursor.entry (put_of c.loop-place.place) (heard_of c.loop-place.place) = search rules in
    let box : c.loop-place.outbox.items ≡ x ∷ left = c.pop_front.ensures.items ∙ ap (λ o. option_to_list o ++ left) c.unwrap.ensures in
    let grown : put_of c.put.new.place ≡ before ++ x ∷ [] = ap (λ m. put_by m.0) did.sender.1 ∙ ap (λ m. put_by m.0 ++ x ∷ []) laying.1 in
    let heard : heard_of c.put.new.place ≡ heard_of c.args.place.now = ap (λ m. heard_by m.0) did.sender.1 ∙ (ap (λ m. heard_by m.0) laying.1 ∙ ap (λ m. heard_by m.0) inv.sender.1) in
    record {
      seat = (did.seat.0 ∙ (c.look_to_put.ensures.seat.0 ∙ inv.seat.0), did.seat.1 ∙ (c.look_to_put.ensures.seat.1 ∙ inv.seat.1));
      sender = (did.sender.0, did.sender.1 ∙ (λ i. (Sending c.args.entries.now.key (ap (λ m. put_by m.0) (sym did.sender.1) i) ((ap (λ m. heard_by m.0) (sym did.sender.1) ∙ heard) i), [])));
      cursor = (c.advance.ensures.1 ∙ inv.cursor.0, c.advance.ensures.0 ∙ (ap (λ n. n + 1) inv.cursor.1 ∙ (sym (length-append before (x ∷ [])) ∙ ap length (sym grown))));
      sent = ap (λ z. z ++ left) grown ∙ (append_assoc before (x ∷ []) left ∙ (ap (λ z. before ++ z) (sym box) ∙ inv.sent));
      put = subst (IsBeginning (put_of c.args.place.now)) (sym grown) (beginning_grown _ _ (x ∷ []) inv.put);
      fact = λ p y e. inv.fact (suc p) y (ap (λ z. get_elem? z (suc p)) box ∙ e);
      capacity = c.pop_front.ensures.capacity ∙ inv.capacity;
    }

pub returns-clause-count : goal.returns-clause-count
returns-clause-count g c = let all = ap length c.loop-place.invariant.sent in
    omega (arith, length-append (put_of c.loop-place.place) c.loop-place.outbox.items, length-append (put_of c.args.place.now) c.args.outbox.now.items)

pub returns-then-not-look_to_put-clause-count : goal.returns-then-not-look_to_put-clause-count
returns-then-not-look_to_put-clause-count g c = let all = ap length c.loop-place.invariant.sent in
    let still : c.look_to_put.new.place.me ≡ c.loop-place.place.me = search rules in let same = ap (λ m. length (put_by m.0)) still in
    omega (arith, length-append (put_of c.loop-place.place) c.loop-place.outbox.items, length-append (put_of c.args.place.now) c.args.outbox.now.items)
