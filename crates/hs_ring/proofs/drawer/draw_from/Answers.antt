use Rattle.std.proofs.Common.{◌≡◌, ℕ, ◌%◌, ◌<◌, List, [], ◌∷◌, Some, sym, ap, ap₂, ◌∙◌, arith}
use Rattle.hs_ring.proofs.Prelude.{Option, Contents, clear_chunk, drawer_seat_of, drawn_of, published_of}
use Rattle.hs_ring.proofs.Owed.{Mine}
use Rattle.hs_ring.proofs.drawer.draw_from.Goals as goal

pub collect-chunk-requires-clause-chunk : goal.collect-chunk-requires-clause-chunk
collect-chunk-requires-clause-chunk c =
    let word = c.draw_number.result in
    let ready : drawn_of word < published_of word = omega (arith, c.of-counts.ensures.drawn, c.of-counts.ensures.published, c.if-counts.false) in
    let got = c.draw_number.ensures.did.3 ready in
    let empty : c.args.place.now.me.1 ≡ [] = ap (λ (m : Mine). m.1) c.requires.seat.idle in
    let entry : drawn_of word % c.args.entries.now.table_id.slots ≡ c.entry_of.result =
    ap₂ (λ (h : ℕ) (m : ℕ). h % m) (sym c.of-counts.ensures.drawn) (sym c.requires.seat.halves) ∙ sym c.entry_of.ensures.entry in
    let chunk = clear_chunk (drawer_seat_of c.args.place.now.me.0).size got.0 in
    (chunk, ap (λ (m : Mine). m.1) got.1 ∙ ap₂ (λ (e : ℕ) (l : List (ℕ × Option Contents)). (e, Some chunk) ∷ l) entry empty)
