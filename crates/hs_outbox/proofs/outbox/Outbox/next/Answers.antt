use Rattle.std.proofs.Common.{◌≡◌, ℕ, List, Option, Some, None, option_map, slice_get, sym, ap, ◌∙◌}
use Rattle.std.proofs.lemmas.Option.{slice_get-map}
use Rattle.hs_outbox.specs.Queue.{Pending, Queue, first_offered}
use Rattle.hs_outbox.specs.Layout.{entry_of, waiting_in}
use Rattle.hs_outbox.specs.declared.outbox.OutboxEntry.{OutboxEntry}
use Rattle.hs_outbox.proofs.Places.{first_is}
use Rattle.hs_outbox.proofs.Layouts.{rising_seen, seen_at}
use Rattle.hs_outbox.proofs.outbox.Outbox.next.Goals as goal

-- what was found at the place is what is offered first
offered : (seen : List OutboxEntry) (place : ℕ) (q : Queue) (found : Option OutboxEntry) → found ≡ slice_get seen place
    → slice_get (waiting_in seen) place ≡ first_offered q → first_offered q ≡ option_map entry_of found
offered seen place q found is at = sym at ∙ slice_get-map entry_of seen place ∙ ap (λ (o : Option OutboxEntry). option_map entry_of o) (sym is)

pub place_of-place-requires : goal.place_of-place-requires
place_of-place-requires c = rising_seen c.deref.result.now c.self.inside.entries.items c.self.inside.fresh c.deref.ensures.value c.self.invariant.fresh c.self.invariant.rising

pub returns-in_default : goal.returns-in_default
returns-in_default c =
    let es = c.self.inside.entries.items in
    let seen = c.deref-2.result.now in
    let place = c.place_of-place.result in
    let at = seen_at c.deref.result.now seen es place c.self.inside.handed c.deref.ensures.value c.deref-2.ensures.value c.place_of-place.ensures in
    let first : slice_get (waiting_in seen) place ≡ first_offered c.args.self.now = at ∙ first_is c.self.inside.handed (waiting_in es) ∙ ap first_offered c.self.view_is in
    offered seen place c.args.self.now None c.in_default.ensures first

pub returns : goal.returns
returns c =
    let es = c.self.inside.entries.items in
    let seen = c.deref-2.result.now in
    let place = c.place_of-place.result in
    let at = seen_at c.deref.result.now seen es place c.self.inside.handed c.deref.ensures.value c.deref-2.ensures.value c.place_of-place.ensures in
    let first : slice_get (waiting_in seen) place ≡ first_offered c.args.self.now = at ∙ first_is c.self.inside.handed (waiting_in es) ∙ ap first_offered c.self.view_is in
    let entry = c.in-Some.entry.now in
    let bytes : Some (entry_of entry) ≡ Some (record { number = entry.number; bytes = c.bytes.result.now }) =
    ap (λ (text : List ℕ). Some (let found : Pending = record { number = entry.number; bytes = text } in found)) (sym c.bytes.ensures) in
    offered seen place c.args.self.now (Some entry) c.in-Some.ensures first ∙ bytes
