use Rattle.std.proofs.Common.{ℕ, List, find, rules, Fits, w32, ◌≡◌, length, None, Some, sym, ap, subst, ◌∙◌, arith}
use Rattle.std.specs.Prelude.{sum_by}
use Rattle.std.proofs.lemmas.Result.{on_ok_weaker}
use Rattle.std.specs.Map.{values_of, lookup, set_value}
use Rattle.lru.specs.LruCache.{LruCache, promoted}
use Rattle.hs_base.proofs.Options.{on_err_always, on_ok_always}
use Rattle.hs_base.specs.declared.ids.TraceId.{TraceId}
use Rattle.hs_base.specs.Ids.{same_trace}
use Rattle.hs_index.specs.Index.{PlainIndexedTrace, Indexed, is_of, noted_of, touch, with_crumb, chunk_count, count_chunks}
use Rattle.hs_index.specs.Touched.{Touched, listed}
use Rattle.hs_index.proofs.Listed.{count-listed, find-missing}
use Rattle.hs_index.proofs.Touching.{noted-found, noted-missing, touch-missing, touch-found, length-touched, count-touched, count-with_crumb}
use Rattle.hs_index.proofs.recent.Recent.add_crumb.Goals as goal
use Rattle.hs_index.proofs.recent.Recent.add_crumb.Goals.{in-Ok, in-Err}

pub invariant_of-self : goal.invariant_of-self
invariant_of-self g c =
    let found : lookup (same_trace c.args.crumb.trace) c.self.inside.cache.entries ≡ Some c.in-Some.entry.now = sym c.in-Some.ensures.value in
    let now : c.promote.new.self.entries ≡ promoted (same_trace c.args.crumb.trace) (set_value (same_trace c.args.crumb.trace) c.self.inside.cache.entries c.add_crumb.new.self) = ap (λ (k : LruCache TraceId (PlainIndexedTrace g.row.L.Denot)). k.entries) c.promote.ensures.entries in
    record {
      chunks =
          let counted = count-touched c.args.crumb.trace c.self.inside.cache.entries c.in-Some.entry.now c.add_crumb.new.self found in
          let here : sum_by chunk_count (values_of c.promote.new.self.entries)
          ≡ sum_by chunk_count (values_of (promoted (same_trace c.args.crumb.trace) (set_value (same_trace c.args.crumb.trace) c.self.inside.cache.entries c.add_crumb.new.self))) =
          ap (λ l. sum_by chunk_count (values_of l)) now in
          let same : chunk_count c.add_crumb.new.self ≡ chunk_count c.in-Some.entry.now = ap chunk_count c.add_crumb.ensures in
          let held = c.self.invariant.chunks in
          omega (arith, counted, here, same, held);
      few =
          let long : length c.promote.new.self.entries ≡ length c.self.inside.cache.entries =
          ap length now ∙ length-touched c.args.crumb.trace c.self.inside.cache.entries c.in-Some.entry.now c.add_crumb.new.self found in
          let few = c.self.invariant.few in
          omega (arith, long, few);
    }

pub insert-requires-clause-new : goal.insert-requires-clause-new
insert-requires-clause-new g c = find-missing c.args.crumb.trace c.self.inside.cache.entries (sym c.in-None.ensures.value)

pub insert-requires-clause-count : goal.insert-requires-clause-count
insert-requires-clause-count g c =
    let counted = count-listed c.self.inside.cache.entries in
    let held = c.self.invariant.chunks in
    let none : chunk_count c.add_crumb-in-None.new.self ≡ 0 = ap chunk_count (c.add_crumb-in-None.ensures ∙ ap (λ (n : PlainIndexedTrace g.row.L.Denot). with_crumb n c.args.crumb.node) c.new-entry.ensures) in
    let fits : Fits w32 c.self.inside.chunks = search rules in
    omega (arith, counted, held, none, fits)

pub returns-in-Some-clause-ok : goal.returns-in-Some-clause-ok
returns-in-Some-clause-ok g c =
    let found : lookup (same_trace c.args.crumb.trace) c.self.inside.cache.entries ≡ Some c.in-Some.entry.now = sym c.in-Some.ensures.value in
    ap (λ (k : LruCache TraceId (PlainIndexedTrace g.row.L.Denot)). listed k.entries) c.promote.ensures.entries
    ∙ touch-found c.args.crumb.trace c.self.inside.cache.entries c.in-Some.entry.now c.add_crumb.new.self found c.len.ensures.valid.0
    ∙ ap (λ (n : PlainIndexedTrace g.row.L.Denot). touch c.args.crumb.trace n (listed c.self.inside.cache.entries))
    (c.add_crumb.ensures ∙ ap (λ (n : PlainIndexedTrace g.row.L.Denot). with_crumb n c.args.crumb.node) (sym (noted-found c.args.crumb.trace c.self.inside.cache.entries c.in-Some.entry.now c.len.ensures.valid.0 found)))
    ∙ ap (λ (t : Touched g.row.L.Denot). touch c.args.crumb.trace (with_crumb (noted_of c.args.crumb.trace t.traces) c.args.crumb.node) t.traces) c.self.view_is

pub returns-after-insert-clause-ok : goal.returns-after-insert-clause-ok
returns-after-insert-clause-ok g c =
    let missing : lookup (same_trace c.args.crumb.trace) c.self.inside.cache.entries ≡ None = sym c.in-None.ensures.value in
    let rest : touch c.args.crumb.trace c.add_crumb-in-None.new.self (listed c.self.inside.cache.entries)
    ≡ touch c.args.crumb.trace (with_crumb (noted_of c.args.crumb.trace c.args.self.now.traces) c.args.crumb.node) c.args.self.now.traces =
    ap (λ (n : PlainIndexedTrace g.row.L.Denot). touch c.args.crumb.trace n (listed c.self.inside.cache.entries))
    (c.add_crumb-in-None.ensures ∙ ap (λ (n : PlainIndexedTrace g.row.L.Denot). with_crumb n c.args.crumb.node) (c.new-entry.ensures ∙ sym (noted-missing c.args.crumb.trace c.self.inside.cache.entries missing)))
    ∙ ap (λ (t : Touched g.row.L.Denot). touch c.args.crumb.trace (with_crumb (noted_of c.args.crumb.trace t.traces) c.args.crumb.node) t.traces) c.self.view_is in
    elim c.match-insert.branch [
      | in-Ok w ↦ on_ok_always c.match-insert.result (w.in-Ok.ensures.ok ∙ touch-missing c.args.crumb.trace c.self.inside.cache.entries c.add_crumb-in-None.new.self missing ∙ rest)
      | in-Err w ↦ rw w.result-is tt
    ]

-- the trace is not there
none_there : {L : Type 0} (trace : TraceId) (old : Touched L) (traces : List (Indexed L)) (room : ℕ) → (let t : Touched L = record { room = room; traces = traces } in t) ≡ old → find (is_of trace) traces ≡ None → find (is_of trace) old.traces ≡ None
none_there trace old traces room is none = sym (ap (λ t. find (is_of trace) t.traces) is) ∙ none

pub returns-then-full-clause-fresh : goal.returns-then-full-clause-fresh
returns-then-full-clause-fresh g c =
    none_there c.args.crumb.trace c.args.self.now _ _ c.self.view_is (find-missing c.args.crumb.trace c.self.inside.cache.entries (sym c.in-None.ensures.value))

pub returns-after-insert-clause-fresh : goal.returns-after-insert-clause-fresh
returns-after-insert-clause-fresh g c =
    on_err_always c.match-insert.result
    (none_there c.args.crumb.trace c.args.self.now _ _ c.self.view_is (find-missing c.args.crumb.trace c.self.inside.cache.entries (sym c.in-None.ensures.value)))

pub returns-in-Some-clause-count : goal.returns-in-Some-clause-count
returns-in-Some-clause-count g c =
    ap count_chunks (returns-in-Some-clause-ok g c)
    ∙ subst (λ (t : Touched g.row.L.Denot). count_chunks (touch c.args.crumb.trace (with_crumb (noted_of c.args.crumb.trace t.traces) c.args.crumb.node) t.traces) ≡ count_chunks t.traces) c.self.view_is
    (count-with_crumb c.args.crumb.trace c.self.inside.cache.entries c.args.crumb.node c.len.ensures.valid.0)

pub returns-after-insert-clause-count : goal.returns-after-insert-clause-count
returns-after-insert-clause-count g c =
    on_ok_weaker c.match-insert.result
    (λ touched. ap count_chunks touched
    ∙ subst (λ (t : Touched g.row.L.Denot). count_chunks (touch c.args.crumb.trace (with_crumb (noted_of c.args.crumb.trace t.traces) c.args.crumb.node) t.traces) ≡ count_chunks t.traces) c.self.view_is
    (count-with_crumb c.args.crumb.trace c.self.inside.cache.entries c.args.crumb.node c.len.ensures.valid.0))
    (returns-after-insert-clause-ok g c)
