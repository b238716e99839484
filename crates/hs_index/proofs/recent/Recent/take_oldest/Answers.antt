use Rattle.std.proofs.Common.{rules, Fits, w32, ◌≡◌, ◌-◌, ◌∷◌, length, take, min, sym, ap, ◌∙◌, arith}
use Rattle.std.specs.Prelude.{sum_by}
use Rattle.std.specs.Map.{values_of}
use Rattle.std.proofs.lemmas.List.{length-take}
use Rattle.lru.specs.LruCache.{LruCache}
use Rattle.hs_base.specs.declared.ids.TraceId.{TraceId}
use Rattle.hs_index.specs.Index.{PlainIndexedTrace, chunk_count}
use Rattle.hs_index.specs.Touched.{Touched, indexed, listed}
use Rattle.hs_index.proofs.Touching.{listed-last, count-last}
use Rattle.hs_index.proofs.recent.Recent.take_oldest.Goals as goal

pub overflow_cast-self : goal.overflow_cast-self
overflow_cast-self g c =
    let left = count-last c.self.inside.cache.entries (c.in_ok-trace.trace, c.in_ok-trace.entry) (sym c.in_ok-trace.ensures.value) in
    let held = c.self.invariant.chunks in
    let len : c.len.result ≡ chunk_count c.in_ok-trace.entry = c.len.ensures in
    let fits : Fits w32 c.self.inside.chunks = search rules in
    omega (arith, left, held, len, fits)

pub overflow_sub-self : goal.overflow_sub-self
overflow_sub-self g c =
    let left = count-last c.self.inside.cache.entries (c.in_ok-trace.trace, c.in_ok-trace.entry) (sym c.in_ok-trace.ensures.value) in
    let held = c.self.invariant.chunks in
    let len : c.len.result ≡ chunk_count c.in_ok-trace.entry = c.len.ensures in
    omega (arith, left, held, len)

pub invariant_of-self-2 : goal.invariant_of-self-2
invariant_of-self-2 g c =
    let now : c.pop_lru.new.self.entries ≡ take (length c.self.inside.cache.entries - 1) c.self.inside.cache.entries = ap (λ (k : LruCache TraceId (PlainIndexedTrace g.row.L.Denot)). k.entries) c.pop_lru.ensures.entries in
    record {
      chunks =
          let left = count-last c.self.inside.cache.entries (c.in_ok-trace.trace, c.in_ok-trace.entry) (sym c.in_ok-trace.ensures.value) in
          let here : sum_by chunk_count (values_of c.pop_lru.new.self.entries) ≡ sum_by chunk_count (values_of (take (length c.self.inside.cache.entries - 1) c.self.inside.cache.entries)) = ap (λ l. sum_by chunk_count (values_of l)) now in
          let held = c.self.invariant.chunks in
          let len : c.len.result ≡ chunk_count c.in_ok-trace.entry = c.len.ensures in
          omega (arith, left, here, held, len);
      few =
          let long : length c.pop_lru.new.self.entries ≡ min (length c.self.inside.cache.entries - 1) (length c.self.inside.cache.entries) = ap length now ∙ length-take (length c.self.inside.cache.entries - 1) c.self.inside.cache.entries in
          let few = c.self.invariant.few in
          omega (arith, long, few);
    }

pub returns-clause-some : goal.returns-clause-some
returns-clause-some g c =
    sym (ap (λ (t : Touched g.row.L.Denot). t.traces) c.self.view_is)
    ∙ listed-last c.self.inside.cache.entries (c.in_ok-trace.trace, c.in_ok-trace.entry) (sym c.in_ok-trace.ensures.value)
    ∙ ap (λ (k : LruCache TraceId (PlainIndexedTrace g.row.L.Denot)). indexed (c.in_ok-trace.trace, c.in_ok-trace.entry) ∷ listed k.entries) (sym c.pop_lru.ensures.entries)
