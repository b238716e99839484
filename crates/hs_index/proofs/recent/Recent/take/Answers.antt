use Rattle.std.proofs.Common.{rules, Fits, w32, ◌≡◌, ◌+◌, List, length, sym, ap, subst, ◌∙◌, arith}
use Rattle.std.specs.Prelude.{sum_by}
use Rattle.std.specs.Map.{values_of, remove_entry}
use Rattle.lru.specs.LruCache.{LruCache}
use Rattle.hs_base.specs.declared.ids.TraceId.{TraceId}
use Rattle.hs_base.specs.Ids.{same_trace}
use Rattle.hs_index.specs.Index.{PlainIndexedTrace, Indexed, noted_of, others, chunk_count, count_chunks}
use Rattle.hs_index.specs.Touched.{Touched, listed}
use Rattle.hs_index.proofs.Listed.{others-listed}
use Rattle.hs_index.proofs.Touching.{noted-found, noted-missing, found-entry, missing-entry, remove-missing, count-remove, length-remove, count-whole}
use Rattle.hs_index.proofs.recent.Recent.take.Goals as goal

pub overflow_cast-self : goal.overflow_cast-self
overflow_cast-self g c =
    let left = count-remove c.args.trace c.self.inside.cache.entries c.in-Some.entry (found-entry c.args.trace c.self.inside.cache.entries (c.in-Some.field-0-0, c.in-Some.entry) (sym c.in-Some.ensures.value)) in
    let held = c.self.invariant.chunks in
    let len : c.len-in-Some.result ≡ chunk_count c.in-Some.entry = c.len-in-Some.ensures in
    let fits : Fits w32 c.self.inside.chunks = search rules in
    omega (arith, left, held, len, fits)

pub overflow_sub-self : goal.overflow_sub-self
overflow_sub-self g c =
    let left = count-remove c.args.trace c.self.inside.cache.entries c.in-Some.entry (found-entry c.args.trace c.self.inside.cache.entries (c.in-Some.field-0-0, c.in-Some.entry) (sym c.in-Some.ensures.value)) in
    let held = c.self.invariant.chunks in
    let len : c.len-in-Some.result ≡ chunk_count c.in-Some.entry = c.len-in-Some.ensures in
    omega (arith, left, held, len)

pub invariant_of-self : goal.invariant_of-self
invariant_of-self g c =
    let found = found-entry c.args.trace c.self.inside.cache.entries (c.in-Some.field-0-0, c.in-Some.entry) (sym c.in-Some.ensures.value) in
    let now : c.pop_entry.new.self.entries ≡ remove_entry (same_trace c.args.trace) c.self.inside.cache.entries = ap (λ (k : LruCache TraceId (PlainIndexedTrace g.row.L.Denot)). k.entries) c.pop_entry.ensures.entries in
    record {
      chunks =
          let left = count-remove c.args.trace c.self.inside.cache.entries c.in-Some.entry found in
          let here : sum_by chunk_count (values_of c.pop_entry.new.self.entries) ≡ sum_by chunk_count (values_of (remove_entry (same_trace c.args.trace) c.self.inside.cache.entries)) = ap (λ l. sum_by chunk_count (values_of l)) now in
          let held = c.self.invariant.chunks in
          let len : c.len-in-Some.result ≡ chunk_count c.in-Some.entry = c.len-in-Some.ensures in
          omega (arith, left, here, held, len);
      few =
          let long : length c.pop_entry.new.self.entries ≡ length (remove_entry (same_trace c.args.trace) c.self.inside.cache.entries) = ap length now in
          let fewer = length-remove c.args.trace c.self.inside.cache.entries c.in-Some.entry found in
          let few = c.self.invariant.few in
          omega (arith, long, fewer, few);
    }

pub invariant_of-self-in-None : goal.invariant_of-self-in-None
invariant_of-self-in-None g c =
    let same : c.pop_entry.new.self.entries ≡ c.self.inside.cache.entries =
    ap (λ (k : LruCache TraceId (PlainIndexedTrace g.row.L.Denot)). k.entries) c.pop_entry.ensures.entries ∙ remove-missing c.args.trace c.self.inside.cache.entries (sym c.in-None.ensures.value) in
    record {
      chunks = c.self.invariant.chunks ∙ sym (ap (λ es. sum_by chunk_count (values_of es)) same);
      few = let long = ap length same in let few = c.self.invariant.few in omega (arith, long, few);
    }

pub returns-in-Some-clause-taken : goal.returns-in-Some-clause-taken
returns-in-Some-clause-taken g c =
    let found = found-entry c.args.trace c.self.inside.cache.entries (c.in-Some.field-0-0, c.in-Some.entry) (sym c.in-Some.ensures.value) in
    sym (noted-found c.args.trace c.self.inside.cache.entries c.in-Some.entry c.len.ensures.valid.0 found)
    ∙ ap (λ (t : Touched g.row.L.Denot). noted_of c.args.trace t.traces) c.self.view_is

pub returns-in-Some-clause-others : goal.returns-in-Some-clause-others
returns-in-Some-clause-others g c =
    ap (λ (k : LruCache TraceId (PlainIndexedTrace g.row.L.Denot)). listed k.entries) c.pop_entry.ensures.entries
    ∙ sym (others-listed c.args.trace c.self.inside.cache.entries c.len.ensures.valid.0)
    ∙ ap (λ (t : Touched g.row.L.Denot). others c.args.trace t.traces) c.self.view_is

pub returns-in-None-clause-taken : goal.returns-in-None-clause-taken
returns-in-None-clause-taken g c =
    c.new-in-None.ensures
    ∙ sym (noted-missing c.args.trace c.self.inside.cache.entries (missing-entry c.args.trace c.self.inside.cache.entries (sym c.in-None.ensures.value)))
    ∙ ap (λ (t : Touched g.row.L.Denot). noted_of c.args.trace t.traces) c.self.view_is

pub returns-in-None-clause-others : goal.returns-in-None-clause-others
returns-in-None-clause-others g c =
    ap (λ (k : LruCache TraceId (PlainIndexedTrace g.row.L.Denot)). listed k.entries) c.pop_entry.ensures.entries
    ∙ sym (others-listed c.args.trace c.self.inside.cache.entries c.len.ensures.valid.0)
    ∙ ap (λ (t : Touched g.row.L.Denot). others c.args.trace t.traces) c.self.view_is

pub returns-in-Some-clause-count : goal.returns-in-Some-clause-count
returns-in-Some-clause-count g c =
    ap (λ (p : List (Indexed g.row.L.Denot) × PlainIndexedTrace g.row.L.Denot). count_chunks p.0 + chunk_count p.1) (λ i. (returns-in-Some-clause-others g c i, returns-in-Some-clause-taken g c i))
    ∙ subst (λ (t : Touched g.row.L.Denot). count_chunks (others c.args.trace t.traces) + chunk_count (noted_of c.args.trace t.traces) ≡ count_chunks t.traces) c.self.view_is
    (count-whole c.args.trace c.self.inside.cache.entries c.len.ensures.valid.0)

pub returns-in-None-clause-count : goal.returns-in-None-clause-count
returns-in-None-clause-count g c =
    ap (λ (p : List (Indexed g.row.L.Denot) × PlainIndexedTrace g.row.L.Denot). count_chunks p.0 + chunk_count p.1) (λ i. (returns-in-None-clause-others g c i, returns-in-None-clause-taken g c i))
    ∙ subst (λ (t : Touched g.row.L.Denot). count_chunks (others c.args.trace t.traces) + chunk_count (noted_of c.args.trace t.traces) ≡ count_chunks t.traces) c.self.view_is
    (count-whole c.args.trace c.self.inside.cache.entries c.len.ensures.valid.0)
