use Rattle.std.proofs.Common.{◌≡◌, suc, ◌+◌, ◌∷◌, ◌++◌, [], length, ap, ◌∙◌, arith}
use Rattle.std.specs.Prelude.{sum_by, find}
use Rattle.std.specs.Map.{values_of}
use Rattle.std.proofs.lemmas.List.Sums.{sum_by-cons}
use Rattle.lru.specs.LruCache.{LruCache}
use Rattle.hs_base.specs.declared.ids.TraceId.{TraceId}
use Rattle.hs_index.specs.Index.{PlainIndexedTrace, chunk_count, count_chunks, is_of}
use Rattle.hs_index.specs.Touched.{Touched, indexed, listed}
use Rattle.hs_index.proofs.Listed.{listed-cons, count-listed, length-listed}
use Rattle.hs_index.proofs.Touching.{put-new}
use Rattle.hs_index.proofs.recent.Recent.insert.Goals as goal

pub overflow_add-self : goal.overflow_add-self
overflow_add-self g c =
    let counted : count_chunks (listed c.self.inside.cache.entries) ≡ sum_by chunk_count (values_of c.self.inside.cache.entries) = count-listed c.self.inside.cache.entries in
    let seen : count_chunks (listed c.self.inside.cache.entries) ≡ count_chunks c.args.self.now.traces = ap (λ (t : Touched g.row.L.Denot). count_chunks t.traces) c.self.view_is in
    let held = c.self.invariant.chunks in
    let few = c.requires.count in
    let len = c.len-chunks.ensures in
    omega (arith, counted, seen, held, few, len)

pub invariant_of-self : goal.invariant_of-self
invariant_of-self g c =
    let seen : listed c.self.inside.cache.entries ≡ c.args.self.now.traces = ap (λ (t : Touched g.row.L.Denot). t.traces) c.self.view_is in
    let wide : c.self.inside.cache.cap ≡ c.args.self.now.room = ap (λ (t : Touched g.row.L.Denot). t.room) c.self.view_is in
    let long : length (listed c.self.inside.cache.entries) ≡ length c.self.inside.cache.entries = length-listed c.self.inside.cache.entries in
    let same : length (listed c.self.inside.cache.entries) ≡ length c.args.self.now.traces = ap length seen in
    let all : c.push.new.self.entries ≡ (c.args.trace, c.args.entry) ∷ c.self.inside.cache.entries =
    ap (λ (k : LruCache TraceId (PlainIndexedTrace g.row.L.Denot)). k.entries) c.in-Ok.ensures.entries
    ∙ put-new c.args.trace c.self.inside.cache.entries c.self.inside.cache.cap c.args.entry (ap (find (is_of c.args.trace)) seen ∙ c.requires.new)
    (let room = c.requires.room in omega (arith, long, same, wide, room)) in
    record {
      chunks =
          let counted : sum_by chunk_count (values_of c.push.new.self.entries) ≡ chunk_count c.args.entry + sum_by chunk_count (values_of c.self.inside.cache.entries) =
          ap (λ l. sum_by chunk_count (values_of l)) all ∙ sum_by-cons chunk_count c.args.entry (values_of c.self.inside.cache.entries) in
          let held = c.self.invariant.chunks in
          let len = c.len-chunks.ensures in
          omega (arith, counted, held, len);
      few =
          let more : length c.push.new.self.entries ≡ suc (length c.self.inside.cache.entries) = ap length all in
          let few = c.requires.few in
          omega (arith, more, long, same, few);
    }

pub returns-in-Ok-clause-ok : goal.returns-in-Ok-clause-ok
returns-in-Ok-clause-ok g c =
    let seen : listed c.self.inside.cache.entries ≡ c.args.self.now.traces = ap (λ (t : Touched g.row.L.Denot). t.traces) c.self.view_is in
    let wide : c.self.inside.cache.cap ≡ c.args.self.now.room = ap (λ (t : Touched g.row.L.Denot). t.room) c.self.view_is in
    let long : length (listed c.self.inside.cache.entries) ≡ length c.self.inside.cache.entries = length-listed c.self.inside.cache.entries in
    let same : length (listed c.self.inside.cache.entries) ≡ length c.args.self.now.traces = ap length seen in
    let all : c.push.new.self.entries ≡ (c.args.trace, c.args.entry) ∷ c.self.inside.cache.entries =
    ap (λ (k : LruCache TraceId (PlainIndexedTrace g.row.L.Denot)). k.entries) c.in-Ok.ensures.entries
    ∙ put-new c.args.trace c.self.inside.cache.entries c.self.inside.cache.cap c.args.entry (ap (find (is_of c.args.trace)) seen ∙ c.requires.new)
    (let room = c.requires.room in omega (arith, long, same, wide, room)) in
    ap listed all
    ∙ listed-cons (c.args.trace, c.args.entry) c.self.inside.cache.entries
    ∙ ap (λ l. l ++ indexed (c.args.trace, c.args.entry) ∷ []) seen
