use Rattle.std.proofs.Common.{rules, Fits, w32, ◌≡◌, ◌+◌, ◌<◌, ◌∷◌, [], length, None, Some, sym, ap, subst, ◌∙◌, arith}
use Rattle.std.specs.Prelude.{sum_by}
use Rattle.std.specs.Map.{values_of, lookup, set_value}
use Rattle.std.proofs.lemmas.Map.Steps.{set_value_same}
use Rattle.lru.specs.LruCache.{LruCache, promoted}
use Rattle.hs_base.specs.declared.ids.TraceId.{TraceId}
use Rattle.hs_base.specs.Ids.{same_trace}
use Rattle.hs_index.specs.Index.{PlainIndexedTrace, nothing, noted_of, touch, with_chunk, chunk_count, count_chunks}
use Rattle.hs_words.specs.Buffers.{buffer_of}
use Rattle.hs_index.specs.Touched.{Touched, listed}
use Rattle.hs_index.proofs.Listed.{count-listed, find-missing}
use Rattle.std.proofs.lemmas.List.{length-append}
use Rattle.std.proofs.lemmas.Result.{on_ok_weaker, on_err_weaker}
use Rattle.hs_base.proofs.Options.{on_err_always}
use Rattle.hs_index.proofs.Touching.{noted-found, noted-missing, touch-missing, touch-found, length-touched, count-touched, count-with_chunk}
use Rattle.hs_index.proofs.recent.Recent.add.Goals as goal

pub invariant_of-self : goal.invariant_of-self
invariant_of-self g c =
    let same : set_value (same_trace c.args.trace) c.self.inside.cache.entries c.add.new.self ≡ c.self.inside.cache.entries =
    set_value_same (same_trace c.args.trace) c.self.inside.cache.entries c.add.new.self (sym c.in-Some.ensures.value ∙ ap Some (sym c.in_err-add-in-Some.ensures.err)) in
    record {
      chunks = c.self.invariant.chunks ∙ sym (ap (λ es. sum_by chunk_count (values_of es)) same);
      few = let long = ap length same in let few = c.self.invariant.few in omega (arith, long, few);
    }

pub returns-in_err-add-in-Some-clause-err : goal.returns-in_err-add-in-Some-clause-err
returns-in_err-add-in-Some-clause-err g c =
    let same : set_value (same_trace c.args.trace) c.self.inside.cache.entries c.add.new.self ≡ c.self.inside.cache.entries =
    set_value_same (same_trace c.args.trace) c.self.inside.cache.entries c.add.new.self (sym c.in-Some.ensures.value ∙ ap Some (sym c.in_err-add-in-Some.ensures.err)) in
    let all : listed (set_value (same_trace c.args.trace) c.self.inside.cache.entries c.add.new.self) ≡ c.args.self.now.traces = ap listed same ∙ ap (λ (t : Touched g.row.L.Denot). t.traces) c.self.view_is in
    on_err_always c.from_residual.result all

pub invariant_of-self-in-Some : goal.invariant_of-self-in-Some
invariant_of-self-in-Some g c =
    let found : lookup (same_trace c.args.trace) c.self.inside.cache.entries ≡ Some c.in-Some.entry.now = sym c.in-Some.ensures.value in
    let now : c.promote.new.self.entries ≡ promoted (same_trace c.args.trace) (set_value (same_trace c.args.trace) c.self.inside.cache.entries c.add.new.self) = ap (λ (k : LruCache TraceId (PlainIndexedTrace g.row.L.Denot)). k.entries) c.promote.ensures.entries in
    record {
      chunks =
          let counted = count-touched c.args.trace c.self.inside.cache.entries c.in-Some.entry.now c.add.new.self found in
          let here : sum_by chunk_count (values_of c.promote.new.self.entries)
          ≡ sum_by chunk_count (values_of (promoted (same_trace c.args.trace) (set_value (same_trace c.args.trace) c.self.inside.cache.entries c.add.new.self))) =
          ap (λ l. sum_by chunk_count (values_of l)) now in
          let one : chunk_count c.add.new.self ≡ chunk_count c.in-Some.entry.now + 1 = ap chunk_count c.in_ok-add-in-Some.ensures.ok ∙ length-append c.in-Some.entry.now.chunks (buffer_of c.args.held ∷ []) in
          let held = c.self.invariant.chunks in
          omega (arith, counted, here, one, held);
      few =
          let long : length c.promote.new.self.entries ≡ length c.self.inside.cache.entries =
          ap length now ∙ length-touched c.args.trace c.self.inside.cache.entries c.in-Some.entry.now c.add.new.self found in
          let few = c.self.invariant.few in
          omega (arith, long, few);
    }

pub add_new-requires-clause-new : goal.add_new-requires-clause-new
add_new-requires-clause-new g c = find-missing c.args.trace c.self.inside.cache.entries (sym c.in-None.ensures.value)

pub add_new-requires-clause-room : goal.add_new-requires-clause-room
add_new-requires-clause-room g c = subst (λ (t : Touched g.row.L.Denot). length t.traces < t.room) (sym c.self.view_is) c.requires

pub add_new-requires-clause-count : goal.add_new-requires-clause-count
add_new-requires-clause-count g c =
    let counted = count-listed c.self.inside.cache.entries in
    let held = c.self.invariant.chunks in
    let most = c.if-self.false in
    let fits : Fits w32 c.self.inside.chunks = search rules in
    omega (arith, counted, held, most, fits)

pub returns-in_ok-add-in-Some-clause-ok : goal.returns-in_ok-add-in-Some-clause-ok
returns-in_ok-add-in-Some-clause-ok g c =
    let found : lookup (same_trace c.args.trace) c.self.inside.cache.entries ≡ Some c.in-Some.entry.now = sym c.in-Some.ensures.value in
    ap (λ (k : LruCache TraceId (PlainIndexedTrace g.row.L.Denot)). listed k.entries) c.promote.ensures.entries
    ∙ touch-found c.args.trace c.self.inside.cache.entries c.in-Some.entry.now c.add.new.self found c.len.ensures.valid.0
    ∙ ap (λ (n : PlainIndexedTrace g.row.L.Denot). touch c.args.trace n (listed c.self.inside.cache.entries))
    (c.in_ok-add-in-Some.ensures.ok ∙ ap (λ (n : PlainIndexedTrace g.row.L.Denot). with_chunk n (buffer_of c.args.held)) (sym (noted-found c.args.trace c.self.inside.cache.entries c.in-Some.entry.now c.len.ensures.valid.0 found)))
    ∙ ap (λ (t : Touched g.row.L.Denot). touch c.args.trace (with_chunk (noted_of c.args.trace t.traces) (buffer_of c.args.held)) t.traces) c.self.view_is

pub returns-in_ok-add-in-Some-clause-count : goal.returns-in_ok-add-in-Some-clause-count
returns-in_ok-add-in-Some-clause-count g c =
    ap count_chunks (returns-in_ok-add-in-Some-clause-ok g c)
    ∙ subst (λ (t : Touched g.row.L.Denot). count_chunks (touch c.args.trace (with_chunk (noted_of c.args.trace t.traces) (buffer_of c.args.held)) t.traces) ≡ count_chunks t.traces + 1) c.self.view_is
    (count-with_chunk c.args.trace c.self.inside.cache.entries (buffer_of c.args.held) c.len.ensures.valid.0)

pub returns-in-None-clause-ok : goal.returns-in-None-clause-ok
returns-in-None-clause-ok g c =
    let missing : lookup (same_trace c.args.trace) c.self.inside.cache.entries ≡ None = sym c.in-None.ensures.value in
    let one : with_chunk nothing (buffer_of c.args.held) ≡ with_chunk (noted_of c.args.trace (listed c.self.inside.cache.entries)) (buffer_of c.args.held) =
    ap (λ (n : PlainIndexedTrace g.row.L.Denot). with_chunk n (buffer_of c.args.held)) (sym (noted-missing c.args.trace c.self.inside.cache.entries missing)) in
    on_ok_weaker c.add_new.result (λ is.
    is
    ∙ touch-missing c.args.trace c.self.inside.cache.entries (with_chunk nothing (buffer_of c.args.held)) missing
    ∙ ap (λ (n : PlainIndexedTrace g.row.L.Denot). touch c.args.trace n (listed c.self.inside.cache.entries)) one
    ∙ ap (λ (t : Touched g.row.L.Denot). touch c.args.trace (with_chunk (noted_of c.args.trace t.traces) (buffer_of c.args.held)) t.traces) c.self.view_is) c.add_new.ensures.ok

pub returns-in-None-clause-count : goal.returns-in-None-clause-count
returns-in-None-clause-count g c =
    on_ok_weaker c.add_new.result (λ is.
    ap count_chunks is
    ∙ subst (λ (t : Touched g.row.L.Denot). count_chunks (touch c.args.trace (with_chunk (noted_of c.args.trace t.traces) (buffer_of c.args.held)) t.traces) ≡ count_chunks t.traces + 1) c.self.view_is
    (count-with_chunk c.args.trace c.self.inside.cache.entries (buffer_of c.args.held) c.len.ensures.valid.0)) (returns-in-None-clause-ok g c)

pub returns-in-None-clause-err : goal.returns-in-None-clause-err
returns-in-None-clause-err g c = on_err_weaker c.add_new.result (λ is. is ∙ ap (λ (t : Touched g.row.L.Denot). t.traces) c.self.view_is) c.add_new.ensures.err
