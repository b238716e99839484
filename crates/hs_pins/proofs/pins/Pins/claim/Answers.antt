use Rattle.std.proofs.Common.{◌≡◌, false, [], ◌∷◌, ◌++◌, map, sym, ap, ◌∙◌, arith}
use Rattle.hs_pins.proofs.Prelude.{Result, Ok, Err, OnOk, length-map, buffer_of, claim_of}
use Rattle.std.specs.Prelude.{is_err}
use Rattle.hs_pins.proofs.Remembering.{queue_there, has_claimed}
use Rattle.hs_pins.proofs.pins.Pins.claim.Goals as goal

pub pin-requires-clause-declared : goal.pin-requires-clause-declared
pin-requires-clause-declared g c =
    queue_there _ c.args.self.now c.requires.declared.0 c.args.group.trigger c.self.view_is c.requires.declared.1 c.requires.declared.2

had_room : {A E P : Type 0} (r : Result A E) → is_err r ≡ false → OnOk r P → P
had_room (Ok a) e p = p
had_room (Err x) e p = cc

pub add-requires-clause-room : goal.add-requires-clause-room
add-requires-clause-room g c = had_room c.reserve.result (sym c.is_err.ensures.value ∙ c.if-is_err.false) c.reserve.ensures.ok

pub returns-clause-after : goal.returns-clause-after
returns-clause-after g c = λ memory h.
    has_claimed _ c.args.self.now memory c.args.group c.args.laterals c.args.trace (map buffer_of c.args.taken.held.items) c.args.taken.crumbs c.of-priority.result c.add.new.self.claims c.pin.new.self c.self.view_is h
    (ap (λ cs. claim_of cs c.args.trace) (sym h.claims ∙ c.requires.unclaimed.1.claims) ∙ c.requires.unclaimed.2)
    (sym (h.pinned.chunks.declared c.args.group.trigger) ∙ c.requires.declared.1.pinned.chunks.declared c.args.group.trigger ∙ c.requires.declared.2)
    (let a = h.pinned.chunks.total in let b = c.requires.few.1.pinned.chunks.total in let few = c.requires.few.2 in let n = length-map c.args.taken.held.items (buffer_of {L = g.row.L.Denot} {g = g.L.Token}) in omega (arith, a, b, few, n))
    (c.add.ensures.claims ∙ ap (λ cs. cs ++ record { trace = c.args.trace; group = c.args.group; laterals = c.args.laterals; crumbs = c.args.taken.crumbs } ∷ []) c.reserve.ensures.claims)
    c.of-priority.ensures c.in_default.ensures.ok
