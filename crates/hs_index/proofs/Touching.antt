-- What the cache's calls do to the indexed traces.
use Rattle.std.proofs.Common.{◌≡◌, ℕ, suc, ◌+◌, ◌-◌, ◌<◌, cond, List, [], ◌∷◌, ◌++◌, length, map, reverse, take, get_or, Option, Some, None, unwrap_or, option_map, refl, sym, ap, ◌∙◌, arith}
use Rattle.std.specs.Prelude.{find, sum_by, slice_get}
use Rattle.std.specs.List.{IsDistinct}
use Rattle.std.specs.Option.{option_map_or, option_or}
use Rattle.std.specs.Map.{keys_of, values_of, lookup, lookup_entry, remove_entry, set_value}
use Rattle.std.proofs.Math.Seq.{take-suc}
use Rattle.std.proofs.lemmas.List.{reverse-append, map-append, take_all, length-append}
use Rattle.std.proofs.lemmas.List.Sums.{sum_by-cons, sum_by_push}
use Rattle.std.proofs.lemmas.Option.{slice_get_within, get_or_from_slice_get, none-some}
use Rattle.std.proofs.lemmas.Map.Entries.{sum_by-remove_entry}
use Rattle.lru.specs.LruCache.{lru_cache, promoted, put_entries}
use Rattle.hs_base.proofs.Bools.{by_answer}
use Rattle.hs_base.specs.declared.ids.TraceId.{TraceId}
use Rattle.hs_base.specs.declared.ids.NodeId.{NodeId}
use Rattle.hs_base.specs.Ids.{same_trace}
use Rattle.hs_words.specs.Buffers.{Buffer}
use Rattle.hs_index.specs.Index.{PlainIndexedTrace, Indexed, is_of, nothing, noted_of, others, touch, with_chunk, with_crumb, chunk_count, count_chunks}
use Rattle.hs_index.specs.Touched.{indexed, listed}
use Rattle.hs_index.proofs.Listed.{listed-cons, count-listed, find-cons, found-here, find-missing, others-missing, others-listed, noted-listed, promoted-set}

module _ {L : Type 0} (trace : TraceId) where
  pub noted-found : (es : List (TraceId × PlainIndexedTrace L)) (v : PlainIndexedTrace L) → IsDistinct same_trace (keys_of es) → lookup (same_trace trace) es ≡ Some v → noted_of trace (listed es) ≡ v
  noted-found es v d h = noted-listed trace es d ∙ ap (λ o. unwrap_or o nothing) h

  pub noted-missing : (es : List (TraceId × PlainIndexedTrace L)) → lookup (same_trace trace) es ≡ None → noted_of trace (listed es) ≡ nothing
  noted-missing es h = ap (λ o. option_map_or (λ (t : Indexed L). t.noted) o nothing) (find-missing trace es h)

  pub empty-missing : (es : List (TraceId × PlainIndexedTrace L)) → length es ≡ 0 → lookup (same_trace trace) es ≡ None
  empty-missing [] h = refl
  empty-missing (e ∷ es) h = absurd (omega arith)

  or-some : (o : Option (Indexed L)) (x : Indexed L) → option_or o (Some x) ≡ None → ⊥
  or-some None x h = cc
  or-some (Some y) x h = cc

  or-left : (o p : Option (Indexed L)) → option_or o p ≡ None → o ≡ None
  or-left None p h = refl
  or-left (Some y) p h = cc

  pub entry-missing : (es : List (TraceId × PlainIndexedTrace L)) → find (is_of trace) (listed es) ≡ None → lookup_entry (same_trace trace) es ≡ None
  entry-missing [] h = refl
  entry-missing (e ∷ es) h =
      by_answer (same_trace trace e.0)
      (λ y. absurd (or-some (find (is_of trace) (listed es)) (indexed e) (ap (λ o. option_or (find (is_of trace) (listed es)) o) (sym (found-here trace e y)) ∙ sym (find-cons trace e es) ∙ h)))
      (λ n. ap (λ b. cond b (Some e) (lookup_entry (same_trace trace) es)) n
      ∙ entry-missing es (or-left (find (is_of trace) (listed es)) (find (is_of trace) (indexed e ∷ [])) (sym (find-cons trace e es) ∙ h)))

  pub put-new : (es : List (TraceId × PlainIndexedTrace L)) (cap : ℕ) (v : PlainIndexedTrace L) → find (is_of trace) (listed es) ≡ None → length es < cap
      → put_entries same_trace (lru_cache es cap) trace v ≡ (trace, v) ∷ es
  put-new es cap v h within =
      ap (λ o. option_map_or (λ (e : TraceId × PlainIndexedTrace L). (e.0, v) ∷ remove_entry (same_trace trace) es) o ((trace, v) ∷ take (cap - 1) es)) (entry-missing es h)
      ∙ ap (λ l. (trace, v) ∷ l) (take_all (cap - 1) es (omega arith))

  pub touch-missing : (es : List (TraceId × PlainIndexedTrace L)) (w : PlainIndexedTrace L) → lookup (same_trace trace) es ≡ None → listed es ++ indexed (trace, w) ∷ [] ≡ touch trace w (listed es)
  touch-missing es w h = ap (λ l. l ++ indexed (trace, w) ∷ []) (sym (others-missing trace es h))

  pub length-remove : (es : List (TraceId × PlainIndexedTrace L)) (v : PlainIndexedTrace L) → lookup (same_trace trace) es ≡ Some v → suc (length (remove_entry (same_trace trace) es)) ≡ length es
  length-remove [] v h = cc
  length-remove (e ∷ es) v h =
      by_answer (same_trace trace e.0)
      (λ y. ap (λ b. suc (length (cond b es (e ∷ remove_entry (same_trace trace) es)))) y)
      (λ n. ap (λ b. suc (length (cond b es (e ∷ remove_entry (same_trace trace) es)))) n
      ∙ ap suc (length-remove es v (sym (ap (λ b. cond b (Some e.1) (lookup (same_trace trace) es)) n) ∙ h)))

  pub count-remove : (es : List (TraceId × PlainIndexedTrace L)) (v : PlainIndexedTrace L) → lookup (same_trace trace) es ≡ Some v
      → sum_by chunk_count (values_of (remove_entry (same_trace trace) es)) + chunk_count v ≡ sum_by chunk_count (values_of es)
  count-remove es v h =
      ap (λ o. sum_by chunk_count (values_of (remove_entry (same_trace trace) es)) + unwrap_or (option_map chunk_count o) 0) (sym h)
      ∙ sum_by-remove_entry chunk_count (same_trace trace) es

  -- what was found, after a change of its value and its promotion
  module _ (es : List (TraceId × PlainIndexedTrace L)) (v w : PlainIndexedTrace L) (found : lookup (same_trace trace) es ≡ Some v) where
    abbrev now : List (TraceId × PlainIndexedTrace L)
    now = promoted (same_trace trace) (set_value (same_trace trace) es w)

    pub length-touched : length now ≡ length es
    length-touched = ap length (promoted-set trace es v w found) ∙ length-remove es v found

    pub count-touched : sum_by chunk_count (values_of now) + chunk_count v ≡ sum_by chunk_count (values_of es) + chunk_count w
    count-touched =
        let set : sum_by chunk_count (values_of now) ≡ chunk_count w + sum_by chunk_count (values_of (remove_entry (same_trace trace) es)) =
        ap (λ l. sum_by chunk_count (values_of l)) (promoted-set trace es v w found) ∙ sum_by-cons chunk_count w (values_of (remove_entry (same_trace trace) es)) in
        let left = count-remove es v found in
        omega (arith, set, left)

    pub touch-found : IsDistinct same_trace (keys_of es) → listed now ≡ touch trace w (listed es)
    touch-found d =
        ap listed (promoted-set trace es v w found)
        ∙ listed-cons (trace, w) (remove_entry (same_trace trace) es)
        ∙ ap (λ l. l ++ indexed (trace, w) ∷ []) (sym (others-listed trace es d))

module _ {L : Type 0} where
  split-last : (es : List (TraceId × PlainIndexedTrace L)) (e : TraceId × PlainIndexedTrace L) → slice_get es (length es - 1) ≡ Some e → es ≡ take (length es - 1) es ++ e ∷ []
  split-last es e h =
      let within : length es - 1 < length es = slice_get_within es (length es - 1) e h in
      let all : take (suc (length es - 1)) es ≡ es = take_all (suc (length es - 1)) es (omega arith) in
      let last : get_or es (length es - 1) e ≡ e = get_or_from_slice_get es (length es - 1) e e h in
      sym all ∙ take-suc es (length es - 1) e within ∙ ap (λ x. take (length es - 1) es ++ x ∷ []) last

  pub listed-last : (es : List (TraceId × PlainIndexedTrace L)) (e : TraceId × PlainIndexedTrace L) → slice_get es (length es - 1) ≡ Some e → listed es ≡ indexed e ∷ listed (take (length es - 1) es)
  listed-last es e h =
      ap listed (split-last es e h)
      ∙ ap reverse (map-append indexed (take (length es - 1) es) (e ∷ []))
      ∙ reverse-append (map indexed (take (length es - 1) es)) (indexed e ∷ [])

  pub count-last : (es : List (TraceId × PlainIndexedTrace L)) (e : TraceId × PlainIndexedTrace L) → slice_get es (length es - 1) ≡ Some e
      → sum_by chunk_count (values_of es) ≡ chunk_count e.1 + sum_by chunk_count (values_of (take (length es - 1) es))
  count-last es e h =
      sym (count-listed es)
      ∙ ap count_chunks (listed-last es e h)
      ∙ sum_by-cons (λ t. chunk_count t.noted) (indexed e) (listed (take (length es - 1) es))
      ∙ ap (λ n. chunk_count e.1 + n) (count-listed (take (length es - 1) es))

module _ {L : Type 0} (trace : TraceId) where
  pub lookup-entry : (es : List (TraceId × PlainIndexedTrace L)) → option_map (λ (e : TraceId × PlainIndexedTrace L). e.1) (lookup_entry (same_trace trace) es) ≡ lookup (same_trace trace) es
  lookup-entry [] = refl
  lookup-entry (e ∷ es) =
      by_answer (same_trace trace e.0)
      (λ y. ap (λ b. option_map (λ (p : TraceId × PlainIndexedTrace L). p.1) (cond b (Some e) (lookup_entry (same_trace trace) es))) y
      ∙ sym (ap (λ b. cond b (Some e.1) (lookup (same_trace trace) es)) y))
      (λ n. ap (λ b. option_map (λ (p : TraceId × PlainIndexedTrace L). p.1) (cond b (Some e) (lookup_entry (same_trace trace) es))) n
      ∙ lookup-entry es
      ∙ sym (ap (λ b. cond b (Some e.1) (lookup (same_trace trace) es)) n))

  pub found-entry : (es : List (TraceId × PlainIndexedTrace L)) (e : TraceId × PlainIndexedTrace L) → lookup_entry (same_trace trace) es ≡ Some e → lookup (same_trace trace) es ≡ Some e.1
  found-entry es e h = sym (lookup-entry es) ∙ ap (λ o. option_map (λ (p : TraceId × PlainIndexedTrace L). p.1) o) h

  pub missing-entry : (es : List (TraceId × PlainIndexedTrace L)) → lookup_entry (same_trace trace) es ≡ None → lookup (same_trace trace) es ≡ None
  missing-entry es h = sym (lookup-entry es) ∙ ap (λ o. option_map (λ (p : TraceId × PlainIndexedTrace L). p.1) o) h

  pub remove-missing : (es : List (TraceId × PlainIndexedTrace L)) → lookup_entry (same_trace trace) es ≡ None → remove_entry (same_trace trace) es ≡ es
  remove-missing [] h = refl
  remove-missing (e ∷ es) h =
      by_answer (same_trace trace e.0)
      (λ y. absurd (none-some e (sym h ∙ ap (λ b. cond b (Some e) (lookup_entry (same_trace trace) es)) y)))
      (λ n. ap (λ b. cond b es (e ∷ remove_entry (same_trace trace) es)) n
      ∙ ap (λ l. e ∷ l) (remove-missing es (sym (ap (λ b. cond b (Some e) (lookup_entry (same_trace trace) es)) n) ∙ h)))

-- ---- the other traces' chunks and the trace's own make up all

module _ {L : Type 0} (trace : TraceId) where
  own-count : (o : Option (PlainIndexedTrace L)) → chunk_count (unwrap_or o nothing) ≡ unwrap_or (option_map chunk_count o) 0
  own-count None = refl
  own-count (Some noted) = refl

  pub count-whole : (es : List (TraceId × PlainIndexedTrace L)) → IsDistinct same_trace (keys_of es)
      → count_chunks (others trace (listed es)) + chunk_count (noted_of trace (listed es)) ≡ count_chunks (listed es)
  count-whole es d =
      let rest : count_chunks (others trace (listed es)) ≡ sum_by chunk_count (values_of (remove_entry (same_trace trace) es)) =
      ap count_chunks (others-listed trace es d) ∙ count-listed (remove_entry (same_trace trace) es) in
      let own : chunk_count (noted_of trace (listed es)) ≡ unwrap_or (option_map chunk_count (lookup (same_trace trace) es)) 0 =
      ap chunk_count (noted-listed trace es d) ∙ own-count (lookup (same_trace trace) es) in
      let parts = sum_by-remove_entry chunk_count (same_trace trace) es in
      let all = count-listed es in
      omega (arith, rest, own, parts, all)

  -- so a chunk more makes one more, and a crumb none
  pub count-with_chunk : (es : List (TraceId × PlainIndexedTrace L)) (buffer : Buffer L) → IsDistinct same_trace (keys_of es)
      → count_chunks (touch trace (with_chunk (noted_of trace (listed es)) buffer) (listed es)) ≡ count_chunks (listed es) + 1
  count-with_chunk es buffer d =
      let whole = count-whole es d in
      let last = sum_by_push (λ t. chunk_count t.noted) (others trace (listed es)) (record { trace = trace; noted = with_chunk (noted_of trace (listed es)) buffer }) in
      let one = length-append (noted_of trace (listed es)).chunks (buffer ∷ []) in
      omega (arith, whole, last, one)

  pub count-with_crumb : (es : List (TraceId × PlainIndexedTrace L)) (node : NodeId) → IsDistinct same_trace (keys_of es)
      → count_chunks (touch trace (with_crumb (noted_of trace (listed es)) node) (listed es)) ≡ count_chunks (listed es)
  count-with_crumb es node d =
      let whole = count-whole es d in
      let last = sum_by_push (λ t. chunk_count t.noted) (others trace (listed es)) (record { trace = trace; noted = with_crumb (noted_of trace (listed es)) node }) in
      omega (arith, whole, last)
