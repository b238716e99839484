-- After any calls an index holds what they say when one looks back over them.
use Rattle.std.proofs.Common.{◌≡◌, ℕ, suc, ◌<◌, ◌≤◌, Bool, true, false, cond, not, ◌||◌, ◌&&◌, nat_eq, List, [], ◌∷◌, ◌++◌, length, Some, None, is_some, refl, sym, ap, subst, ◌∙◌, arith, append-nil, true≢false}
use Rattle.std.specs.Prelude.{find}
use Rattle.std.specs.Option.{option_map_or, option_or}
use Rattle.std.proofs.lemmas.List.Folds.{find-append}
use Rattle.hs_base.specs.declared.ids.TraceId.{TraceId}
use Rattle.hs_base.specs.declared.ids.NodeId.{NodeId}
use Rattle.hs_base.specs.NodeSets.{has_node}
use Rattle.hs_index.specs.Index.{PlainIndexedTrace, Indexed, trace_of, is_of, nothing, noted_of, others, touch, with_chunk, with_crumb, is_over, kept}
use Rattle.hs_words.specs.Buffers.{Buffer}
use Rattle.hs_index.specs.Calls.{Call, Arrived, Crumbed, Claimed, after, touches, last_touch, chunk_in, is_crumb, is_in, is_indexed, chunks_since, has_crumb_since, AreLater, AreInTurn, LooksBack}
use Rattle.hs_index.proofs.Listed.{same_trace_equiv, same_from_test}
use Rattle.hs_base.specs.NodeSetLaws.{has-with_node, has-no_nodes}
use Rattle.hs_base.specs.Ids.{same_trace}
use Rattle.hs_index.proofs.Evicting.{within-not-over, all-stay, first-leaves, count-others, length-others}
use Rattle.hs_index.proofs.LongestEnd.{within}
use Rattle.std.proofs.lemmas.Bool.{ltb-false, or_parts}
use Rattle.std.proofs.Math.Bool.{or-false}
use Rattle.std.proofs.Common.{nat_lt}
use Rattle.hs_base.proofs.Bools.{by_answer}
use Rattle.hs_base.proofs.Options.{option_or_none, is_some_false}
use Rattle.hs_index.specs.Index.{count_chunks}

bit-step : (b now before since brought : Bool) → before ≡ since → (b ≡ true → now ≡ (before || brought)) → (b ≡ false → now ≡ false) → now ≡ cond b (since || brought) false
bit-step true now before since brought e y n = y refl ∙ ap (λ c. c || brought) e
bit-step false now before since brought e y n = n refl

-- ---- what one look-up finds

module _ {L : Type 0} where
  some-is-not-none : (t : Indexed L) → Some t ≡ None → ⊥
  some-is-not-none t h = true≢false (ap is_some h)

  module _ (trace u : TraceId) where
    find-others-this : same_trace trace u ≡ true → (ts : List (Indexed L)) → find (is_of trace) (others u ts) ≡ None
    find-others-this same [] = refl
    find-others-this same (t ∷ ts) =
        by_answer (is_of u t)
        (λ y. ap (λ b. find (is_of trace) (cond (not b) (t ∷ others u ts) (others u ts))) y ∙ find-others-this same ts)
        (λ n. ap (λ b. find (is_of trace) (cond (not b) (t ∷ others u ts) (others u ts))) n
        ∙ ap (λ b. cond b (Some t) (find (is_of trace) (others u ts))) (same_trace_equiv.congr trace u t.trace same ∙ n)
        ∙ find-others-this same ts)

    find-others-other : same_trace trace u ≡ false → (ts : List (Indexed L)) → find (is_of trace) (others u ts) ≡ find (is_of trace) ts
    find-others-other other [] = refl
    find-others-other other (t ∷ ts) =
        by_answer (is_of u t)
        (λ y. ap (λ b. find (is_of trace) (cond (not b) (t ∷ others u ts) (others u ts))) y
        ∙ find-others-other other ts
        ∙ sym (ap (λ b. cond b (Some t) (find (is_of trace) ts)) (ap (same_trace trace) (same_from_test u t.trace y) ∙ other)))
        (λ n. ap (λ b. find (is_of trace) (cond (not b) (t ∷ others u ts) (others u ts))) n
        ∙ ap (λ o. cond (is_of trace t) (Some t) o) (find-others-other other ts))

    noted-touch-this : same_trace trace u ≡ true → (w : PlainIndexedTrace L) (ts : List (Indexed L)) → noted_of trace (touch u w ts) ≡ w
    noted-touch-this same w ts =
        ap (λ o. option_map_or (λ (t : Indexed L). t.noted) o nothing)
        (find-append (is_of trace) (others u ts) (record { trace = u; noted = w } ∷ [])
        ∙ ap (λ o. option_or o (find (is_of trace) (record { trace = u; noted = w } ∷ []))) (find-others-this same ts)
        ∙ ap (λ b. cond b (Some (record { trace = u; noted = w })) None) same)

    noted-touch-other : same_trace trace u ≡ false → (w : PlainIndexedTrace L) (ts : List (Indexed L)) → noted_of trace (touch u w ts) ≡ noted_of trace ts
    noted-touch-other other w ts =
        ap (λ o. option_map_or (λ (t : Indexed L). t.noted) o nothing)
        (find-append (is_of trace) (others u ts) (record { trace = u; noted = w } ∷ [])
        ∙ ap (λ o. option_or (find (is_of trace) (others u ts)) o) (ap (λ b. cond b (Some (record { trace = u; noted = w })) None) other)
        ∙ option_or_none (find (is_of trace) (others u ts))
        ∙ find-others-other other ts)

    noted-others-other : same_trace trace u ≡ false → (ts : List (Indexed L)) → noted_of trace (others u ts) ≡ noted_of trace ts
    noted-others-other other ts = ap (λ o. option_map_or (λ (t : Indexed L). t.noted) o nothing) (find-others-other other ts)

    others-this-out : same_trace trace u ≡ true → (ts : List (Indexed L)) → is_in trace (others u ts) ≡ false
    others-this-out same ts = ap is_some (find-others-this same ts)

  noted-out : (trace : TraceId) (ts : List (Indexed L)) → is_in trace ts ≡ false → noted_of trace ts ≡ nothing
  noted-out trace ts h = ap (λ o. option_map_or (λ (t : Indexed L). t.noted) o nothing) (is_some_false (find (is_of trace) ts) h)

  -- ---- traces in turn

  module _ (threshold most : ℕ) (when : TraceId → ℕ) where
    turn-kept : (ts : List (Indexed L)) → AreInTurn when ts → AreInTurn when (kept threshold most ts)
    turn-kept [] a = tt
    turn-kept (t ∷ ts) a =
        by_answer (is_over threshold most (t ∷ ts))
        (λ y. subst (λ l. AreInTurn when l) (sym (first-leaves threshold most t ts y)) (turn-kept ts a.1))
        (λ n. subst (λ l. AreInTurn when l) (sym (all-stay threshold most (t ∷ ts) n)) a)

    -- a trace touched at that moment is not among those touched later
    absent : (trace : TraceId) (moment : ℕ) (ts : List (Indexed L)) → moment ≡ when trace → AreLater when moment ts → find (is_of trace) ts ≡ None
    absent trace moment [] is a = refl
    absent trace moment (t ∷ ts) is a =
        by_answer (is_of trace t)
        (λ y. absurd (let same : when t.trace ≡ when trace = ap when (same_from_test trace t.trace y) in let less = a.0 in omega (arith, same, is, less)))
        (λ n. ap (λ b. cond b (Some t) (find (is_of trace) ts)) n ∙ absent trace moment ts is a.1)

    none-kept : (trace : TraceId) (ts : List (Indexed L)) → find (is_of trace) ts ≡ None → find (is_of trace) (kept threshold most ts) ≡ None
    none-kept trace [] h = refl
    none-kept trace (t ∷ ts) h =
        by_answer (is_over threshold most (t ∷ ts))
        (λ y. ap (find (is_of trace)) (first-leaves threshold most t ts y)
        ∙ none-kept trace ts
        (by_answer (is_of trace t)
        (λ is. absurd (some-is-not-none t (sym (ap (λ b. cond b (Some t) (find (is_of trace) ts)) is) ∙ h)))
        (λ not-is. sym (ap (λ b. cond b (Some t) (find (is_of trace) ts)) not-is) ∙ h)))
        (λ n. ap (find (is_of trace)) (all-stay threshold most (t ∷ ts) n) ∙ h)

    find-kept : (trace : TraceId) (ts : List (Indexed L)) → AreInTurn when ts → is_in trace (kept threshold most ts) ≡ true
        → find (is_of trace) (kept threshold most ts) ≡ find (is_of trace) ts
    find-kept trace [] a i = refl
    find-kept trace (t ∷ ts) a i =
        by_answer (is_over threshold most (t ∷ ts))
        (λ y. let inside : is_in trace (kept threshold most ts) ≡ true = sym (ap (is_in trace) (first-leaves threshold most t ts y)) ∙ i in
        ap (find (is_of trace)) (first-leaves threshold most t ts y)
        ∙ find-kept trace ts a.1 inside
        ∙ by_answer (is_of trace t)
        (λ is. absurd (true≢false (sym inside ∙ ap is_some (none-kept trace ts (absent trace (when t.trace) ts (ap when (same_from_test trace t.trace is)) a.0)))))
        (λ not-is. sym (ap (λ b. cond b (Some t) (find (is_of trace) ts)) not-is)))
        (λ n. ap (find (is_of trace)) (all-stay threshold most (t ∷ ts) n))

    noted-kept : (trace : TraceId) (ts : List (Indexed L)) → AreInTurn when ts → is_in trace (kept threshold most ts) ≡ true
        → noted_of trace (kept threshold most ts) ≡ noted_of trace ts
    noted-kept trace ts a i = ap (λ o. option_map_or (λ (t : Indexed L). t.noted) o nothing) (find-kept trace ts a i)

  -- the moments of the last touch before a call and after it, which differ at the trace u alone
  module _ (u : TraceId) (before now : TraceId → ℕ) (apart : (trace : TraceId) → same_trace trace u ≡ false → now trace ≡ before trace) where
    apart-from : (t : Indexed L) → is_of u t ≡ false → now t.trace ≡ before t.trace
    apart-from t n = apart t.trace (same_trace_equiv.symm t.trace u ∙ n)

    later-others : (ts : List (Indexed L)) (m n : ℕ) → n ≡ m → AreLater before m ts → AreLater now n (others u ts)
    later-others [] m n e a = tt
    later-others (t ∷ ts) m n e a =
        by_answer (is_of u t)
        (λ y. subst (λ b. AreLater now n (cond (not b) (t ∷ others u ts) (others u ts))) (sym y) (later-others ts m n e a.1))
        (λ no. subst (λ b. AreLater now n (cond (not b) (t ∷ others u ts) (others u ts))) (sym no)
        ((let same = apart-from t no in let less = a.0 in omega (arith, same, less, e)), later-others ts m n e a.1))

    turn-others : (ts : List (Indexed L)) → AreInTurn before ts → AreInTurn now (others u ts)
    turn-others [] a = tt
    turn-others (t ∷ ts) a =
        by_answer (is_of u t)
        (λ y. subst (λ b. AreInTurn now (cond (not b) (t ∷ others u ts) (others u ts))) (sym y) (turn-others ts a.1))
        (λ no. subst (λ b. AreInTurn now (cond (not b) (t ∷ others u ts) (others u ts))) (sym no)
        (later-others ts (before t.trace) (now t.trace) (apart-from t no) a.0, turn-others ts a.1))

    -- the trace itself is touched now
    module _ (w : PlainIndexedTrace L) (most : (trace : TraceId) → before trace < now u) where
      later-touch : (ts : List (Indexed L)) (m n : ℕ) → n ≡ m → m < now u → AreLater before m ts → AreLater now n (touch u w ts)
      later-touch [] m n e less a = ((omega (arith, e, less)), tt)
      later-touch (t ∷ ts) m n e less a =
          by_answer (is_of u t)
          (λ y. subst (λ b. AreLater now n (cond (not b) (t ∷ others u ts) (others u ts) ++ record { trace = u; noted = w } ∷ [])) (sym y) (later-touch ts m n e less a.1))
          (λ no. subst (λ b. AreLater now n (cond (not b) (t ∷ others u ts) (others u ts) ++ record { trace = u; noted = w } ∷ [])) (sym no)
          ((let same = apart-from t no in let here = a.0 in omega (arith, same, here, e)), later-touch ts m n e less a.1))

      turn-touch : (ts : List (Indexed L)) → AreInTurn before ts → AreInTurn now (touch u w ts)
      turn-touch [] a = (tt, tt)
      turn-touch (t ∷ ts) a =
          by_answer (is_of u t)
          (λ y. subst (λ b. AreInTurn now (cond (not b) (t ∷ others u ts) (others u ts) ++ record { trace = u; noted = w } ∷ [])) (sym y) (turn-touch ts a.1))
          (λ no. subst (λ b. AreInTurn now (cond (not b) (t ∷ others u ts) (others u ts) ++ record { trace = u; noted = w } ∷ [])) (sym no)
          (later-touch ts (before t.trace) (now t.trace) (apart-from t no) (most t.trace) a.0, turn-touch ts a.1))

  last-within : (calls : List (Call L)) (trace : TraceId) → last_touch calls trace ≤ length calls
  last-within [] trace = omega arith
  last-within (call ∷ earlier) trace =
      let less = last-within earlier trace in
      by_answer (touches trace call)
      (λ y. subst (λ b. cond b (suc (length earlier)) (last_touch earlier trace) ≤ suc (length earlier)) (sym y) (omega arith))
      (λ n. subst (λ b. cond b (suc (length earlier)) (last_touch earlier trace) ≤ suc (length earlier)) (sym n) (omega (arith, less)))

  -- ---- one call

  chunk-step : (b : Bool) (now before since brought : List (Buffer L)) → before ≡ since → (b ≡ true → now ≡ before ++ brought) → (b ≡ false → now ≡ []) → now ≡ cond b (since ++ brought) []
  chunk-step true now before since brought e y n = y refl ∙ ap (λ l. l ++ brought) e
  chunk-step false now before since brought e y n = n refl

  same-threshold : (threshold most : ℕ) (calls : List (Call L)) → (after threshold most calls).threshold ≡ threshold
  same-threshold threshold most [] = refl
  same-threshold threshold most (Arrived buffer ∷ earlier) = same-threshold threshold most earlier
  same-threshold threshold most (Crumbed u to ∷ earlier) = same-threshold threshold most earlier
  same-threshold threshold most (Claimed u ∷ earlier) = same-threshold threshold most earlier

  same-most : (threshold most : ℕ) (calls : List (Call L)) → (after threshold most calls).most ≡ most
  same-most threshold most [] = refl
  same-most threshold most (Arrived buffer ∷ earlier) = same-most threshold most earlier
  same-most threshold most (Crumbed u to ∷ earlier) = same-most threshold most earlier
  same-most threshold most (Claimed u ∷ earlier) = same-most threshold most earlier

  same-kept : (threshold most : ℕ) (calls : List (Call L)) (touched : List (Indexed L))
      → kept (after threshold most calls).threshold (after threshold most calls).most touched ≡ kept threshold most touched
  same-kept threshold most calls touched =
      ap (λ m. kept m (after threshold most calls).most touched) (same-threshold threshold most calls)
      ∙ ap (λ m. kept threshold m touched) (same-most threshold most calls)

  module _ (threshold most : ℕ) (earlier : List (Call L)) (looks : LooksBack threshold most earlier) where
    abbrev ts : List (Indexed L)
    ts = (after threshold most earlier).touched

    -- after a touch of u, which then has w
    module _ (call : Call L) (u : TraceId) (w : PlainIndexedTrace L)
        (touched-now : (trace : TraceId) → touches trace call ≡ same_trace trace u)
        (is : (after threshold most (call ∷ earlier)).touched ≡ kept threshold most (touch u w ts))
        (chunks-of : (trace : TraceId) → same_trace trace u ≡ true → w.chunks ≡ (noted_of trace ts).chunks ++ chunk_in trace call)
        (no-chunk : (trace : TraceId) → same_trace trace u ≡ false → chunk_in trace call ≡ [])
        (crumbs-of : (trace : TraceId) (node : ℕ) → same_trace trace u ≡ true → has_node w.crumbs node ≡ (has_node (noted_of trace ts).crumbs node || is_crumb trace node call))
        (no-crumb : (trace : TraceId) (node : ℕ) → same_trace trace u ≡ false → is_crumb trace node call ≡ false) where
      turned : AreInTurn (last_touch (call ∷ earlier)) (touch u w ts)
      turned =
          turn-touch u (last_touch earlier) (last_touch (call ∷ earlier))
          (λ trace n. ap (λ b. cond b (suc (length earlier)) (last_touch earlier trace)) (touched-now trace ∙ n))
          w
          (λ trace. let most = last-within earlier trace in
          let here : last_touch (call ∷ earlier) u ≡ suc (length earlier) = ap (λ b. cond b (suc (length earlier)) (last_touch earlier u)) (touched-now u ∙ same_trace_equiv.refl u) in
          omega (arith, most, here))
          ts looks.order

      noted-in : (trace : TraceId) → is_indexed threshold most trace (call ∷ earlier) ≡ true → noted_of trace (after threshold most (call ∷ earlier)).touched ≡ noted_of trace (touch u w ts)
      noted-in trace i = ap (noted_of trace) is ∙ noted-kept threshold most (last_touch (call ∷ earlier)) trace (touch u w ts) turned (sym (ap (is_in trace) is) ∙ i)

      touch-step : LooksBack threshold most (call ∷ earlier)
      touch-step = record {
        chunks = λ trace.
            chunk-step (is_indexed threshold most trace (call ∷ earlier)) (noted_of trace (after threshold most (call ∷ earlier)).touched).chunks (noted_of trace ts).chunks (chunks_since threshold most trace earlier) (chunk_in trace call)
            (looks.chunks trace)
            (λ i. ap (λ (n : PlainIndexedTrace L). n.chunks) (noted-in trace i)
            ∙ by_answer (same_trace trace u)
            (λ y. ap (λ (n : PlainIndexedTrace L). n.chunks) (noted-touch-this trace u y w ts) ∙ chunks-of trace y)
            (λ n. ap (λ (n : PlainIndexedTrace L). n.chunks) (noted-touch-other trace u n w ts) ∙ sym (append-nil (noted_of trace ts).chunks) ∙ ap (λ l. (noted_of trace ts).chunks ++ l) (sym (no-chunk trace n))))
            (λ o. ap (λ (n : PlainIndexedTrace L). n.chunks) (noted-out trace (after threshold most (call ∷ earlier)).touched o));
        crumbs = λ trace node.
            bit-step (is_indexed threshold most trace (call ∷ earlier)) (has_node (noted_of trace (after threshold most (call ∷ earlier)).touched).crumbs node) (has_node (noted_of trace ts).crumbs node) (has_crumb_since threshold most trace node earlier) (is_crumb trace node call)
            (looks.crumbs trace node)
            (λ i. ap (λ (n : PlainIndexedTrace L). has_node n.crumbs node) (noted-in trace i)
            ∙ by_answer (same_trace trace u)
            (λ y. ap (λ (n : PlainIndexedTrace L). has_node n.crumbs node) (noted-touch-this trace u y w ts) ∙ crumbs-of trace node y)
            (λ n. ap (λ (n : PlainIndexedTrace L). has_node n.crumbs node) (noted-touch-other trace u n w ts) ∙ sym (or-false (has_node (noted_of trace ts).crumbs node)) ∙ ap (λ b. has_node (noted_of trace ts).crumbs node || b) (sym (no-crumb trace node n))))
            (λ o. ap (λ (n : PlainIndexedTrace L). has_node n.crumbs node) (noted-out trace (after threshold most (call ∷ earlier)).touched o) ∙ has-no_nodes node);
        order = subst (λ l. AreInTurn (last_touch (call ∷ earlier)) l) (sym is) (turn-kept threshold most (last_touch (call ∷ earlier)) (touch u w ts) turned);
        within = ap (is_over threshold most) is ∙ within threshold most (touch u w ts);
      }

    arrived-step : (buffer : Buffer L) → LooksBack threshold most (Arrived buffer ∷ earlier)
    arrived-step buffer =
        touch-step (Arrived buffer) (trace_of buffer) (with_chunk (noted_of (trace_of buffer) ts) buffer) (λ trace. refl) (same-kept threshold most earlier (touch (trace_of buffer) (with_chunk (noted_of (trace_of buffer) ts) buffer) ts))
        (λ trace y. ap (λ v. (noted_of v ts).chunks ++ buffer ∷ []) (same_from_test trace (trace_of buffer) y) ∙ ap (λ l. (noted_of trace ts).chunks ++ l) (sym (ap (λ b. cond b (buffer ∷ []) []) y)))
        (λ trace n. ap (λ b. cond b (buffer ∷ []) []) n)
        (λ trace node y. ap (λ v. has_node (noted_of v ts).crumbs node) (same_from_test trace (trace_of buffer) y) ∙ sym (or-false (has_node (noted_of trace ts).crumbs node)))
        (λ trace node n. refl)

    crumbed-step : (u : TraceId) (to : NodeId) → LooksBack threshold most (Crumbed u to ∷ earlier)
    crumbed-step u to =
        touch-step (Crumbed u to) u (with_crumb (noted_of u ts) to) (λ trace. refl) (same-kept threshold most earlier (touch u (with_crumb (noted_of u ts) to) ts))
        (λ trace y. ap (λ v. (noted_of v ts).chunks) (same_from_test trace u y) ∙ sym (append-nil (noted_of trace ts).chunks))
        (λ trace n. refl)
        (λ trace node y. has-with_node (noted_of u ts).crumbs to node
        ∙ ap (λ v. has_node (noted_of v ts).crumbs node || nat_eq node to.0) (same_from_test trace u y)
        ∙ ap (λ b. has_node (noted_of trace ts).crumbs node || (b && nat_eq node to.0)) (sym y))
        (λ trace node n. ap (λ b. b && nat_eq node to.0) n)

    claimed-step : (u : TraceId) → LooksBack threshold most (Claimed u ∷ earlier)
    claimed-step u =
        let off = λ (trace : TraceId) (i : is_in trace (others u ts) ≡ true).
        by_answer {P = same_trace trace u ≡ false} (same_trace trace u) (λ y. absurd (true≢false (sym i ∙ others-this-out trace u y ts))) (λ n. n) in
        record {
          chunks = λ trace.
              chunk-step (is_in trace (others u ts)) (noted_of trace (others u ts)).chunks (noted_of trace ts).chunks (chunks_since threshold most trace earlier) []
              (looks.chunks trace)
              (λ i. ap (λ (n : PlainIndexedTrace L). n.chunks) (noted-others-other trace u (off trace i) ts) ∙ sym (append-nil (noted_of trace ts).chunks))
              (λ o. ap (λ (n : PlainIndexedTrace L). n.chunks) (noted-out trace (others u ts) o));
          crumbs = λ trace node.
              bit-step (is_in trace (others u ts)) (has_node (noted_of trace (others u ts)).crumbs node) (has_node (noted_of trace ts).crumbs node) (has_crumb_since threshold most trace node earlier) false
              (looks.crumbs trace node)
              (λ i. ap (λ (n : PlainIndexedTrace L). has_node n.crumbs node) (noted-others-other trace u (off trace i) ts) ∙ sym (or-false (has_node (noted_of trace ts).crumbs node)))
              (λ o. ap (λ (n : PlainIndexedTrace L). has_node n.crumbs node) (noted-out trace (others u ts) o) ∙ has-no_nodes node);
          order = turn-others u (last_touch earlier) (last_touch earlier) (λ trace n. refl) ts looks.order;
          within =
              let chunks = ltb-false threshold (count_chunks ts) (or_parts (nat_lt threshold (count_chunks ts)) (nat_lt most (length ts)) looks.within).0 in
              let traces = ltb-false most (length ts) (or_parts (nat_lt threshold (count_chunks ts)) (nat_lt most (length ts)) looks.within).1 in
              let fewer = count-others u ts in
              let shorter = length-others u ts in
              within-not-over threshold most (others u ts) (omega (arith, chunks, fewer)) (omega (arith, traces, shorter));
        }

  pub look_back : (threshold most : ℕ) (calls : List (Call L)) → LooksBack threshold most calls
  look_back threshold most [] = record {
    chunks = λ trace. refl;
    crumbs = λ trace node. has-no_nodes node;
    order = tt;
    within = within-not-over {L = L} threshold most [] (omega arith) (omega arith);
  }
  look_back threshold most (Arrived buffer ∷ earlier) = arrived-step threshold most earlier (look_back threshold most earlier) buffer
  look_back threshold most (Crumbed u to ∷ earlier) = crumbed-step threshold most earlier (look_back threshold most earlier) u to
  look_back threshold most (Claimed u ∷ earlier) = claimed-step threshold most earlier (look_back threshold most earlier) u
