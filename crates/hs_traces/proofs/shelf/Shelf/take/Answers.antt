use Rattle.std.proofs.Common.{◌≡◌, ◌<◌, List, length, Some, option_map, refl, sym, ap, ◌∙◌, arith}
use Rattle.std.specs.Prelude.{slice_get, remove}
use Rattle.std.proofs.lemmas.Option.{slice_get_read}
use Rattle.hs_base.specs.declared.ids.TraceId.{TraceId}
use Rattle.hs_base.specs.Ids.{same_trace}
use Rattle.hs_traces.specs.Parts.{Pages}
use Rattle.hs_traces.specs.Shelves.{Shelved}
use Rattle.hs_traces.proofs.Places.{found_place, no_place}
use Rattle.hs_traces.proofs.shelf.Shelf.take.Goals as goal

pub returns-in_err-place-clause-taken : goal.returns-in_err-place-clause-taken
returns-in_err-place-clause-taken c = c.from_residual.ensures ∙ sym (no_place (same_trace c.args.trace) c.args.self.now.parts (sym c.in_err-place.ensures)).0

pub returns-in_err-place-clause-parts : goal.returns-in_err-place-clause-parts
returns-in_err-place-clause-parts c = sym (no_place (same_trace c.args.trace) c.args.self.now.parts (sym c.in_err-place.ensures)).1

pub returns-clause-taken : goal.returns-clause-taken
returns-clause-taken c =
    let seen : c.self.inside.parts.items ≡ c.args.self.now.parts = ap (λ (s : Shelved). s.parts) c.self.view_is in
    let is = found_place (same_trace c.args.trace) c.args.self.now.parts c.in_ok-place.place (sym c.in_ok-place.ensures) in
    let long = ap length seen in
    let within : c.in_ok-place.place < length c.self.inside.parts.items = let inside = is.within in omega (arith, inside, long) in
    let there : slice_get c.self.inside.parts.items c.in_ok-place.place ≡ Some c.remove-part.result = slice_get_read c.self.inside.parts.items (length c.self.inside.parts.items) c.in_ok-place.place c.remove-part.result refl within c.remove-part.ensures.value in
    sym (is.found ∙ ap (option_map (λ (e : TraceId × Pages). e.1)) (sym (ap (λ (l : List (TraceId × Pages)). slice_get l c.in_ok-place.place) seen) ∙ there))

pub returns-clause-parts : goal.returns-clause-parts
returns-clause-parts c =
    let seen : c.self.inside.parts.items ≡ c.args.self.now.parts = ap (λ (s : Shelved). s.parts) c.self.view_is in
    let is = found_place (same_trace c.args.trace) c.args.self.now.parts c.in_ok-place.place (sym c.in_ok-place.ensures) in
    c.remove-part.ensures.items ∙ ap (λ (l : List (TraceId × Pages)). remove l c.in_ok-place.place) seen ∙ is.removes
