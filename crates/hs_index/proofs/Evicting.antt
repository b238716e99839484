-- What goes and what stays.
use Rattle.std.proofs.Common.{◌≡◌, ℕ, suc, ◌+◌, ◌<◌, ◌≤◌, true, false, cond, not, ◌||◌, nat_lt, List, [], ◌∷◌, ◌++◌, length, map, Some, refl, sym, ap, subst, ◌∙◌, arith, append-nil}
use Rattle.std.proofs.Math.Bool.{or-true}
use Rattle.std.specs.Prelude.{find}
use Rattle.std.specs.Option.{option_map_or}
use Rattle.std.proofs.lemmas.Bool.{lt-ltb, le-ltb, ltb-false, or_parts, or_from}
use Rattle.std.proofs.lemmas.List.{length-append, length-map, nil_from_length}
use Rattle.std.proofs.lemmas.List.Sums.{sum_by-cons, sum_by_push}
use Rattle.hs_base.proofs.Bools.{by_answer}
use Rattle.hs_base.specs.declared.ids.TraceId.{TraceId}
use Rattle.hs_index.specs.Index.{PlainIndexedTrace, Indexed, is_of, nothing, noted_of, others, touch, chunk_count, count_chunks, is_over, leaving, kept, evicted}

module _ {L : Type 0} where
  pub count-cons : (t : Indexed L) (ts : List (Indexed L)) → count_chunks (t ∷ ts) ≡ chunk_count t.noted + count_chunks ts
  count-cons t ts = sum_by-cons (λ u. chunk_count u.noted) t ts

  module _ (trace : TraceId) where
    pub length-others : (ts : List (Indexed L)) → length (others trace ts) ≤ length ts
    length-others [] = omega arith
    length-others (t ∷ ts) =
        let rest = length-others ts in
        by_answer (is_of trace t)
        (λ y. subst (λ b. length (cond (not b) (t ∷ others trace ts) (others trace ts)) ≤ suc (length ts)) (sym y) (omega (arith, rest)))
        (λ n. subst (λ b. length (cond (not b) (t ∷ others trace ts) (others trace ts)) ≤ suc (length ts)) (sym n) (omega (arith, rest)))

    pub count-others : (ts : List (Indexed L)) → count_chunks (others trace ts) ≤ count_chunks ts
    count-others [] = omega arith
    count-others (t ∷ ts) =
        let rest = count-others ts in
        let whole = count-cons t ts in
        let more = count-cons t (others trace ts) in
        by_answer (is_of trace t)
        (λ y. subst (λ b. count_chunks (cond (not b) (t ∷ others trace ts) (others trace ts)) ≤ count_chunks (t ∷ ts)) (sym y) (omega (arith, rest, whole)))
        (λ n. subst (λ b. count_chunks (cond (not b) (t ∷ others trace ts) (others trace ts)) ≤ count_chunks (t ∷ ts)) (sym n) (omega (arith, rest, whole, more)))

    -- the other traces' chunks and the trace's own are no more than all
    pub count-parts : (ts : List (Indexed L)) → count_chunks (others trace ts) + chunk_count (noted_of trace ts) ≤ count_chunks ts
    count-parts [] = omega arith
    count-parts (t ∷ ts) =
        let rest = count-parts ts in
        let fewer = count-others ts in
        let whole = count-cons t ts in
        let more = count-cons t (others trace ts) in
        by_answer (is_of trace t)
        (λ y. subst (λ b. count_chunks (cond (not b) (t ∷ others trace ts) (others trace ts)) + chunk_count (option_map_or (λ (u : Indexed L). u.noted) (cond b (Some t) (find (is_of trace) ts)) nothing) ≤ count_chunks (t ∷ ts)) (sym y) (omega (arith, fewer, whole)))
        (λ n. subst (λ b. count_chunks (cond (not b) (t ∷ others trace ts) (others trace ts)) + chunk_count (option_map_or (λ (u : Indexed L). u.noted) (cond b (Some t) (find (is_of trace) ts)) nothing) ≤ count_chunks (t ∷ ts)) (sym n) (omega (arith, rest, whole, more)))

    pub count-touch : (w : PlainIndexedTrace L) (ts : List (Indexed L)) → count_chunks (touch trace w ts) ≡ count_chunks (others trace ts) + chunk_count w
    count-touch w ts = sum_by_push (λ t. chunk_count t.noted) (others trace ts) (record { trace = trace; noted = w })

    pub length-touch : (w : PlainIndexedTrace L) (ts : List (Indexed L)) → length (touch trace w ts) ≤ length ts + 1
    length-touch w ts =
        let all = length-append (others trace ts) (record { trace = trace; noted = w } ∷ []) in
        let fewer = length-others ts in
        omega (arith, all, fewer)

  module _ (threshold most : ℕ) where
    pub within-not-over : (ts : List (Indexed L)) → count_chunks ts ≤ threshold → length ts ≤ most → is_over threshold most ts ≡ false
    within-not-over ts c l = or_from (nat_lt threshold (count_chunks ts)) (nat_lt most (length ts)) (le-ltb threshold (count_chunks ts) c) (le-ltb most (length ts) l)

    pub over-by-chunks : (ts : List (Indexed L)) → threshold < count_chunks ts → is_over threshold most ts ≡ true
    over-by-chunks ts h = ap (λ b. b || nat_lt most (length ts)) (lt-ltb threshold (count_chunks ts) h)

    pub over-by-traces : (ts : List (Indexed L)) → most < length ts → is_over threshold most ts ≡ true
    over-by-traces ts h = ap (λ b. nat_lt threshold (count_chunks ts) || b) (lt-ltb most (length ts) h) ∙ or-true (nat_lt threshold (count_chunks ts))

    -- within the limits all stay
    pub all-stay : (ts : List (Indexed L)) → is_over threshold most ts ≡ false → kept threshold most ts ≡ ts
    all-stay [] h = refl
    all-stay (t ∷ ts) h = ap (λ b. cond b (kept threshold most ts) (t ∷ ts)) h

    pub none-go : (ts : List (Indexed L)) → is_over threshold most ts ≡ false → evicted threshold most ts ≡ []
    none-go [] h = refl
    none-go (t ∷ ts) h = ap (λ b. cond b (map (leaving (count_chunks (t ∷ ts)) (length (t ∷ ts))) t.noted.chunks ++ evicted threshold most ts) []) h

    -- over the limits the first goes
    pub first-leaves : (t : Indexed L) (ts : List (Indexed L)) → is_over threshold most (t ∷ ts) ≡ true → kept threshold most (t ∷ ts) ≡ kept threshold most ts
    first-leaves t ts h = ap (λ b. cond b (kept threshold most ts) (t ∷ ts)) h

    pub first-goes : (t : Indexed L) (ts : List (Indexed L)) → is_over threshold most (t ∷ ts) ≡ true
        → evicted threshold most (t ∷ ts) ≡ map (leaving (count_chunks (t ∷ ts)) (length (t ∷ ts))) t.noted.chunks ++ evicted threshold most ts
    first-goes t ts h = ap (λ b. cond b (map (leaving (count_chunks (t ∷ ts)) (length (t ∷ ts))) t.noted.chunks ++ evicted threshold most ts) []) h

    -- a trace without chunks goes alone
    pub empty-goes : (t : Indexed L) (ts : List (Indexed L)) → is_over threshold most (t ∷ ts) ≡ true → chunk_count t.noted ≤ 0
        → evicted threshold most (t ∷ ts) ≡ evicted threshold most ts
    empty-goes t ts h none =
        first-goes t ts h
        ∙ ap (λ l. map (leaving (count_chunks (t ∷ ts)) (length (t ∷ ts))) l ++ evicted threshold most ts) (nil_from_length t.noted.chunks (omega (arith, none)))

    -- after a trace with chunks nothing more goes, where there was one too many at most
    rest-is-within : (t : Indexed L) (ts : List (Indexed L)) → 0 < chunk_count t.noted → count_chunks (t ∷ ts) ≤ threshold + 1 → length (t ∷ ts) ≤ most + 1
        → is_over threshold most ts ≡ false
    rest-is-within t ts some c l =
        let whole = count-cons t ts in
        within-not-over ts (omega (arith, whole)) (omega arith)

    pub full-goes : (t : Indexed L) (ts : List (Indexed L)) → is_over threshold most (t ∷ ts) ≡ true → 0 < chunk_count t.noted → count_chunks (t ∷ ts) ≤ threshold + 1 → length (t ∷ ts) ≤ most + 1
        → evicted threshold most (t ∷ ts) ≡ map (leaving (count_chunks (t ∷ ts)) (length (t ∷ ts))) t.noted.chunks
    full-goes t ts h some c l =
        first-goes t ts h
        ∙ ap (λ r. map (leaving (count_chunks (t ∷ ts)) (length (t ∷ ts))) t.noted.chunks ++ r) (none-go ts (rest-is-within t ts some c l))
        ∙ append-nil (map (leaving (count_chunks (t ∷ ts)) (length (t ∷ ts))) t.noted.chunks)

    pub full-leaves : (t : Indexed L) (ts : List (Indexed L)) → is_over threshold most (t ∷ ts) ≡ true → 0 < chunk_count t.noted → count_chunks (t ∷ ts) ≤ threshold + 1 → length (t ∷ ts) ≤ most + 1
        → kept threshold most (t ∷ ts) ≡ ts
    full-leaves t ts h some c l = first-leaves t ts h ∙ all-stay ts (rest-is-within t ts some c l)

    -- what stays is within the limits
    pub count-kept : (ts : List (Indexed L)) → count_chunks (kept threshold most ts) ≤ threshold
    count-kept [] = omega arith
    count-kept (t ∷ ts) =
        by_answer (is_over threshold most (t ∷ ts))
        (λ y. subst (λ l. count_chunks l ≤ threshold) (sym (first-leaves t ts y)) (count-kept ts))
        (λ n. subst (λ l. count_chunks l ≤ threshold) (sym (all-stay (t ∷ ts) n)) (ltb-false threshold (count_chunks (t ∷ ts)) (or_parts (nat_lt threshold (count_chunks (t ∷ ts))) (nat_lt most (length (t ∷ ts))) n).0))

    pub length-kept : (ts : List (Indexed L)) → length (kept threshold most ts) ≤ most
    length-kept [] = omega arith
    length-kept (t ∷ ts) =
        by_answer (is_over threshold most (t ∷ ts))
        (λ y. subst (λ l. length l ≤ most) (sym (first-leaves t ts y)) (length-kept ts))
        (λ n. subst (λ l. length l ≤ most) (sym (all-stay (t ∷ ts) n)) (ltb-false most (length (t ∷ ts)) (or_parts (nat_lt threshold (count_chunks (t ∷ ts))) (nat_lt most (length (t ∷ ts))) n).1))

    -- what stays and what goes make up all
    pub count-split : (ts : List (Indexed L)) → count_chunks (kept threshold most ts) + length (evicted threshold most ts) ≡ count_chunks ts
    count-split [] = refl
    count-split (t ∷ ts) =
        by_answer (is_over threshold most (t ∷ ts))
        (λ y.
        let stay = ap count_chunks (first-leaves t ts y) in
        let go = ap length (first-goes t ts y) in
        let own = length-append (map (leaving (count_chunks (t ∷ ts)) (length (t ∷ ts))) t.noted.chunks) (evicted threshold most ts) in
        let each = length-map t.noted.chunks (leaving (count_chunks (t ∷ ts)) (length (t ∷ ts))) in
        let whole = count-cons t ts in
        let rest = count-split ts in
        omega (arith, stay, go, own, each, whole, rest))
        (λ n.
        let stay = ap count_chunks (all-stay (t ∷ ts) n) in
        let go = ap length (none-go (t ∷ ts) n) in
        omega (arith, stay, go))
