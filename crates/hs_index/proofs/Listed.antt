-- What the entries of a cache, the one used last first, say of the indexed traces, the one touched longest ago first.
use Rattle.std.proofs.Common.{◌≡◌, ℕ, ◌+◌, true, false, cond, not, List, [], ◌∷◌, ◌++◌, length, map, Option, Some, None, unwrap_or, option_map, refl, sym, ap, ◌∙◌, arith, append-nil}
use Rattle.std.specs.Prelude.{find, filter, sum_by}
use Rattle.std.specs.List.{IsDistinct}
use Rattle.std.specs.Option.{option_map_or, option_or}
use Rattle.std.specs.Cmp.{IsEquivalence}
use Rattle.std.specs.Map.{keys_of, values_of, lookup, lookup_entry, remove_entry, set_value}
use Rattle.std.proofs.lemmas.List.{reverse-append, length-reverse, length-map}
use Rattle.std.proofs.lemmas.List.Elements.{filter-append}
use Rattle.std.proofs.lemmas.List.Folds.{find-append}
use Rattle.std.proofs.lemmas.List.Sums.{sum_by-cons, sum_by_push}
use Rattle.std.proofs.lemmas.Cmp.{nat_eq_equiv}
use Rattle.std.proofs.lemmas.Map.{NonePasses, none_passes_from_lookup}
use Rattle.std.proofs.lemmas.Map.Entries.{none_past_head}
use Rattle.std.proofs.lemmas.Map.Keys.{IsDistinct-tail}
use borrow.Author.Tests.{eqb-true}
use Rattle.lru.specs.LruCache.{promoted}
use Rattle.hs_base.proofs.Bools.{by_answer}
use Rattle.hs_base.specs.declared.ids.TraceId.{TraceId}
use Rattle.hs_base.specs.Ids.{same_trace}
use Rattle.hs_index.specs.Index.{PlainIndexedTrace, Indexed, is_of, is_other, nothing, noted_of, others, chunk_count, count_chunks}
use Rattle.hs_index.specs.Touched.{indexed, listed}

pub same_trace_equiv : IsEquivalence same_trace
same_trace_equiv = record {
  refl = λ x. nat_eq_equiv.refl x.0;
  symm = λ x y. nat_eq_equiv.symm x.0 y.0;
  congr = λ x y z. nat_eq_equiv.congr x.0 y.0 z.0;
}

pub same_from_test : (a b : TraceId) → same_trace a b ≡ true → b ≡ a
same_from_test a b e = ap (λ (m : ℕ). record { 0 = m }) (sym (eqb-true a.0 b.0 e))

module _ {L : Type 0} where
  pub listed-cons : (e : TraceId × PlainIndexedTrace L) (es : List (TraceId × PlainIndexedTrace L)) → listed (e ∷ es) ≡ listed es ++ indexed e ∷ []
  listed-cons e es = reverse-append (indexed e ∷ []) (map indexed es)

  pub length-listed : (es : List (TraceId × PlainIndexedTrace L)) → length (listed es) ≡ length es
  length-listed es = length-reverse (map indexed es) ∙ length-map es indexed

  pub count-listed : (es : List (TraceId × PlainIndexedTrace L)) → count_chunks (listed es) ≡ sum_by chunk_count (values_of es)
  count-listed [] = refl
  count-listed (e ∷ es) =
      ap count_chunks (listed-cons e es)
      ∙ sum_by_push (λ t. chunk_count t.noted) (listed es) (indexed e)
      ∙ ap (λ n. n + chunk_count e.1) (count-listed es)
      ∙ (let swap : sum_by chunk_count (values_of es) + chunk_count e.1 ≡ chunk_count e.1 + sum_by chunk_count (values_of es) = omega arith in swap)
      ∙ sym (sum_by-cons chunk_count e.1 (values_of es))

  module _ (trace : TraceId) where
    -- an entry of another trace
    other-here : (e : TraceId × PlainIndexedTrace L) → same_trace trace e.0 ≡ false → filter (is_other trace) (indexed e ∷ []) ≡ indexed e ∷ []
    other-here e n = ap (λ b. cond (not b) (indexed e ∷ []) []) n

    this-here : (e : TraceId × PlainIndexedTrace L) → same_trace trace e.0 ≡ true → filter (is_other trace) (indexed e ∷ []) ≡ []
    this-here e y = ap (λ b. cond (not b) (indexed e ∷ []) []) y

    pub found-here : (e : TraceId × PlainIndexedTrace L) → same_trace trace e.0 ≡ true → find (is_of trace) (indexed e ∷ []) ≡ Some (indexed e)
    found-here e y = ap (λ b. cond b (Some (indexed e)) None) y

    pub missed-here : (e : TraceId × PlainIndexedTrace L) → same_trace trace e.0 ≡ false → find (is_of trace) (indexed e ∷ []) ≡ None
    missed-here e n = ap (λ b. cond b (Some (indexed e)) None) n

    pub find-cons : (e : TraceId × PlainIndexedTrace L) (es : List (TraceId × PlainIndexedTrace L)) → find (is_of trace) (listed (e ∷ es)) ≡ option_or (find (is_of trace) (listed es)) (find (is_of trace) (indexed e ∷ []))
    find-cons e es = ap (find (is_of trace)) (listed-cons e es) ∙ find-append (is_of trace) (listed es) (indexed e ∷ [])

    others-cons : (e : TraceId × PlainIndexedTrace L) (es : List (TraceId × PlainIndexedTrace L)) → others trace (listed (e ∷ es)) ≡ others trace (listed es) ++ filter (is_other trace) (indexed e ∷ [])
    others-cons e es = ap (others trace) (listed-cons e es) ∙ filter-append (is_other trace) (listed es) (indexed e ∷ [])

    find-none : (es : List (TraceId × PlainIndexedTrace L)) → NonePasses (same_trace trace) es → find (is_of trace) (listed es) ≡ None
    find-none [] h = refl
    find-none (e ∷ es) h = find-cons e es ∙ ap (λ o. option_or o (find (is_of trace) (indexed e ∷ []))) (find-none es h.1) ∙ missed-here e h.0

    others-none : (es : List (TraceId × PlainIndexedTrace L)) → NonePasses (same_trace trace) es → others trace (listed es) ≡ listed es
    others-none [] h = refl
    others-none (e ∷ es) h =
        others-cons e es ∙ ap (λ l. l ++ filter (is_other trace) (indexed e ∷ [])) (others-none es h.1) ∙ ap (λ l. listed es ++ l) (other-here e h.0) ∙ sym (listed-cons e es)

    pub find-missing : (es : List (TraceId × PlainIndexedTrace L)) → lookup (same_trace trace) es ≡ None → find (is_of trace) (listed es) ≡ None
    find-missing es h = find-none es (none_passes_from_lookup (same_trace trace) es h)

    pub others-missing : (es : List (TraceId × PlainIndexedTrace L)) → lookup (same_trace trace) es ≡ None → others trace (listed es) ≡ listed es
    others-missing es h = others-none es (none_passes_from_lookup (same_trace trace) es h)

    or-none : (o : Option (Indexed L)) → option_or o None ≡ o
    or-none None = refl
    or-none (Some x) = refl

    find-listed : (es : List (TraceId × PlainIndexedTrace L)) → IsDistinct same_trace (keys_of es) → find (is_of trace) (listed es) ≡ option_map indexed (lookup_entry (same_trace trace) es)
    find-listed [] d = refl
    find-listed (e ∷ es) d =
        by_answer (same_trace trace e.0)
        (λ y. find-cons e es
        ∙ ap (λ o. option_or o (find (is_of trace) (indexed e ∷ []))) (find-none es (none_past_head same_trace_equiv trace e es d y))
        ∙ found-here e y
        ∙ sym (ap (λ b. option_map indexed (cond b (Some e) (lookup_entry (same_trace trace) es))) y))
        (λ n. find-cons e es
        ∙ ap (λ o. option_or (find (is_of trace) (listed es)) o) (missed-here e n)
        ∙ or-none (find (is_of trace) (listed es))
        ∙ find-listed es (IsDistinct-tail same_trace e.0 (keys_of es) d)
        ∙ sym (ap (λ b. option_map indexed (cond b (Some e) (lookup_entry (same_trace trace) es))) n))

    pub others-listed : (es : List (TraceId × PlainIndexedTrace L)) → IsDistinct same_trace (keys_of es) → others trace (listed es) ≡ listed (remove_entry (same_trace trace) es)
    others-listed [] d = refl
    others-listed (e ∷ es) d =
        by_answer (same_trace trace e.0)
        (λ y. others-cons e es
        ∙ ap (λ l. l ++ filter (is_other trace) (indexed e ∷ [])) (others-none es (none_past_head same_trace_equiv trace e es d y))
        ∙ ap (λ l. listed es ++ l) (this-here e y)
        ∙ append-nil (listed es)
        ∙ sym (ap (λ b. listed (cond b es (e ∷ remove_entry (same_trace trace) es))) y))
        (λ n. others-cons e es
        ∙ ap (λ l. l ++ filter (is_other trace) (indexed e ∷ [])) (others-listed es (IsDistinct-tail same_trace e.0 (keys_of es) d))
        ∙ ap (λ l. listed (remove_entry (same_trace trace) es) ++ l) (other-here e n)
        ∙ sym (listed-cons e (remove_entry (same_trace trace) es))
        ∙ sym (ap (λ b. listed (cond b es (e ∷ remove_entry (same_trace trace) es))) n))

    noted-entry : (es : List (TraceId × PlainIndexedTrace L)) → option_map_or (λ (t : Indexed L). t.noted) (option_map indexed (lookup_entry (same_trace trace) es)) nothing ≡ unwrap_or (lookup (same_trace trace) es) nothing
    noted-entry [] = refl
    noted-entry (e ∷ es) =
        by_answer (same_trace trace e.0)
        (λ y. ap (λ b. option_map_or (λ (t : Indexed L). t.noted) (option_map indexed (cond b (Some e) (lookup_entry (same_trace trace) es))) nothing) y
        ∙ sym (ap (λ b. unwrap_or (cond b (Some e.1) (lookup (same_trace trace) es)) nothing) y))
        (λ n. ap (λ b. option_map_or (λ (t : Indexed L). t.noted) (option_map indexed (cond b (Some e) (lookup_entry (same_trace trace) es))) nothing) n
        ∙ noted-entry es
        ∙ sym (ap (λ b. unwrap_or (cond b (Some e.1) (lookup (same_trace trace) es)) nothing) n))

    pub noted-listed : (es : List (TraceId × PlainIndexedTrace L)) → IsDistinct same_trace (keys_of es) → noted_of trace (listed es) ≡ unwrap_or (lookup (same_trace trace) es) nothing
    noted-listed es d = ap (λ o. option_map_or (λ (t : Indexed L). t.noted) o nothing) (find-listed es d) ∙ noted-entry es

    -- the trace's entry, with w in it, goes first
    entry-set : (es : List (TraceId × PlainIndexedTrace L)) (v w : PlainIndexedTrace L) → lookup (same_trace trace) es ≡ Some v → lookup_entry (same_trace trace) (set_value (same_trace trace) es w) ≡ Some (trace, w)
    entry-set [] v w h = cc
    entry-set (e ∷ es) v w h =
        by_answer (same_trace trace e.0)
        (λ y. ap (λ b. lookup_entry (same_trace trace) (cond b ((e.0, w) ∷ es) (e ∷ set_value (same_trace trace) es w))) y
        ∙ ap (λ b. cond b (Some (e.0, w)) (lookup_entry (same_trace trace) es)) y
        ∙ ap (λ t. Some (t, w)) (same_from_test trace e.0 y))
        (λ n. ap (λ b. lookup_entry (same_trace trace) (cond b ((e.0, w) ∷ es) (e ∷ set_value (same_trace trace) es w))) n
        ∙ ap (λ b. cond b (Some e) (lookup_entry (same_trace trace) (set_value (same_trace trace) es w))) n
        ∙ entry-set es v w (sym (ap (λ b. cond b (Some e.1) (lookup (same_trace trace) es)) n) ∙ h))

    remove-set : (es : List (TraceId × PlainIndexedTrace L)) (w : PlainIndexedTrace L) → remove_entry (same_trace trace) (set_value (same_trace trace) es w) ≡ remove_entry (same_trace trace) es
    remove-set [] w = refl
    remove-set (e ∷ es) w =
        by_answer (same_trace trace e.0)
        (λ y. ap (λ b. remove_entry (same_trace trace) (cond b ((e.0, w) ∷ es) (e ∷ set_value (same_trace trace) es w))) y
        ∙ ap (λ b. cond b es ((e.0, w) ∷ remove_entry (same_trace trace) es)) y
        ∙ sym (ap (λ b. cond b es (e ∷ remove_entry (same_trace trace) es)) y))
        (λ n. ap (λ b. remove_entry (same_trace trace) (cond b ((e.0, w) ∷ es) (e ∷ set_value (same_trace trace) es w))) n
        ∙ ap (λ b. cond b (set_value (same_trace trace) es w) (e ∷ remove_entry (same_trace trace) (set_value (same_trace trace) es w))) n
        ∙ ap (λ l. e ∷ l) (remove-set es w)
        ∙ sym (ap (λ b. cond b es (e ∷ remove_entry (same_trace trace) es)) n))

    pub promoted-set : (es : List (TraceId × PlainIndexedTrace L)) (v w : PlainIndexedTrace L) → lookup (same_trace trace) es ≡ Some v
        → promoted (same_trace trace) (set_value (same_trace trace) es w) ≡ (trace, w) ∷ remove_entry (same_trace trace) es
    promoted-set es v w h =
        ap (λ o. option_map_or (λ e. e ∷ remove_entry (same_trace trace) (set_value (same_trace trace) es w)) o (set_value (same_trace trace) es w)) (entry-set es v w h)
        ∙ ap (λ l. (trace, w) ∷ l) (remove-set es w)
