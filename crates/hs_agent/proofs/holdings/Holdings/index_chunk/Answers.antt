use Rattle.std.proofs.Common.{◌≡◌, List, [], ◌∷◌, ◌++◌, length, map, option_map, sym, ap, ◌∙◌, None}
use Rattle.hs_agent.proofs.Prelude.{option_to_list, Left, Out, going_buffer, going_left, going_of, hand_of, buffer_of, ChunkNote, leaving_of, going, settled, Kept, kept_in, placed_at, Going, evicted_going, indexed, noted}
use Rattle.hs_index.specs.Index.{arrived}
use Rattle.hs_agent.specs.Trying.{lefts_noted}
use Rattle.hs_agent.proofs.Emptying.{hand_more, lefts_more, let_go_parts}
use Rattle.hs_agent.proofs.holdings.Holdings.index_chunk.Goals as goal

pub returns-in-Ok-clause-ok : goal.returns-in-Ok-clause-ok
returns-in-Ok-clause-ok g c =
    let kept = kept_in {L = g.row.L.Denot} {g = g.L.Token} c.self.inside in
    let buffer = buffer_of {L = g.row.L.Denot} {g = g.L.Token} c.args.held in
    let at : buffer_of c.with_place.result ≡ placed_at (length kept.standings) buffer = c.with_place.ensures ∙ ap (λ n. placed_at n buffer) c.in-Some.ensures.place in
    let goes : List (Going g.row.L.Denot) = map evicted_going (going (arrived kept.index (placed_at (length kept.standings) buffer))) in
    let goings : map evicted_going (map leaving_of c.in-Ok.gone.items) ≡ goes =
    ap (map evicted_going) c.in-Ok.ensures.gone ∙ (λ i. map evicted_going (going (arrived kept.index (at i)))) in
    let new : ChunkNote = record { client = c.args.header.client; page = c.args.header.page; left = None } in
    let standings : c.evict_into.new.standings.items ≡ lefts_noted (kept.standings ++ new ∷ []) goes =
    c.evict_into.ensures.lefts ∙ (λ i. lefts_noted ((c.push.ensures.items ∙ ap (λ (l : List ChunkNote). l ++ new ∷ []) c.next_place.ensures.standings) i) (goings i)) in
    let out : List Left = option_to_list (option_map (λ (o : Out). o.left) c.self.inside.offered) in
    let now : map going_of c.evict_into.new.hand.items ≡ map going_of c.self.inside.hand.items ++ goes = c.evict_into.ensures.hand ∙ (λ i. map going_of (c.next_place.ensures.hand i) ++ goings i) in
    let keeps : c.evict_into.new.standings.keeps ≡ kept.keeps = c.evict_into.ensures.keeps ∙ c.push.ensures.keeps ∙ c.next_place.ensures.keeps in
    let hand : hand_of c.evict_into.new.hand.items ≡ kept.hand ++ map going_buffer goes = hand_more (map going_of c.evict_into.new.hand.items) (map going_of c.self.inside.hand.items) goes now in
    let lefts : out ++ map going_left (map going_of c.evict_into.new.hand.items) ≡ kept.lefts ++ map going_left goes = lefts_more out (map going_of c.evict_into.new.hand.items) (map going_of c.self.inside.hand.items) goes now in
    let index : c.arrive.new.self ≡ settled (arrived kept.index (placed_at (length kept.standings) buffer)) = c.in-Ok.ensures.after ∙ (λ i. settled (arrived kept.index (at i))) in
    (λ i. record kept { index = index i; standings = standings i; hand = hand i; lefts = lefts i; keeps = keeps i })
    ∙ sym (let_go_parts (record (noted c.args.header kept) { index = settled (arrived kept.index (placed_at (length kept.standings) buffer)) }) goes)
    ∙ ap (λ (k : Kept g.row.L.Denot). indexed (placed_at (length k.standings) buffer) (noted c.args.header k)) c.self.view_is
