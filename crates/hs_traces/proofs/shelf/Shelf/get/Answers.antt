use Rattle.std.proofs.Common.{◌≡◌, ◌<◌, List, length, Some, option_map, refl, sym, ap, ◌∙◌, arith}
use Rattle.std.specs.Prelude.{slice_get}
use Rattle.std.proofs.lemmas.Option.{slice_get_read}
use Rattle.hs_base.specs.declared.ids.TraceId.{TraceId}
use Rattle.hs_base.specs.Ids.{same_trace}
use Rattle.hs_traces.specs.Parts.{Pages}
use Rattle.hs_traces.specs.Shelves.{Shelved}
use Rattle.hs_traces.proofs.Places.{found_place, no_place}
use Rattle.hs_traces.proofs.shelf.Shelf.get.Goals as goal

pub returns-in-Some : goal.returns-in-Some
returns-in-Some c =
    let seen : c.self.inside.parts.items ≡ c.args.self.now.parts = ap (λ (s : Shelved). s.parts) c.self.view_is in
    let is = found_place (same_trace c.args.trace) c.args.self.now.parts c.in-Some.place (sym c.in-Some.ensures) in
    let long = ap length seen in
    let within : c.in-Some.place < length c.self.inside.parts.items = let inside = is.within in omega (arith, inside, long) in
    let there : slice_get c.self.inside.parts.items c.in-Some.place ≡ Some c.index.result.now = slice_get_read c.self.inside.parts.items (length c.self.inside.parts.items) c.in-Some.place c.index.result.now refl within c.index.ensures in
    sym (is.found ∙ ap (option_map (λ (e : TraceId × Pages). e.1)) (sym (ap (λ (l : List (TraceId × Pages)). slice_get l c.in-Some.place) seen) ∙ there))

pub returns-in-None : goal.returns-in-None
returns-in-None c = sym (no_place (same_trace c.args.trace) c.args.self.now.parts (sym c.in-None.ensures)).0
