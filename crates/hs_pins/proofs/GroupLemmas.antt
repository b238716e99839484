-- The groups of a trigger id with the chunks of one of them changed: how many chunks there are, and that each group has one.
use Rattle.std.proofs.Common.{◌≡◌, ℕ, ◌+◌, ◌-◌, ◌<◌, ◌≤◌, Bool, true, false, cond, List, [], ◌∷◌, ◌++◌, length, drop, Option, Some, None, IsSome, unwrap_or, refl, sym, ap, ◌∙◌, arith, length-append, nat_eq, true≢false}
use Rattle.hs_pins.proofs.Prelude.{slice_get, is_some, Result, Ok, Err, option_map, set_value_same, eqb-true, lookup, set_value, remove_entry, values_of, sum_by-set_value, sum_by-remove_entry, sum_by-cons, insert_entry, Ordering, Less, Equal, Greater, is_eq, match_ordering, Priority, priority_cmp, same_priority, Buffer, Groups, count_of, chunks_of, pinned, HaveChunks, IsCounted}
use Rattle.std.specs.Prelude.{OnErr}
use Rattle.hs_pins.specs.Groups.{without_first}

-- an entry that was written as it was
pub nothing-lost : {A B K V : Type 0} (r : Result A B) (test : K → Bool) (es written : List (K × V)) (old new : V) → lookup test es ≡ Some old
    → written ≡ set_value test es new → OnErr r (new ≡ old) → OnErr r (written ≡ es)
nothing-lost (Ok a) test es written old new found e same = tt
nothing-lost (Err b) test es written old new found e same = e ∙ ap (set_value test es) same ∙ set_value_same test es old found

module _ {L : Type 0} where
  count-set : (test : Priority → Bool) (es : Groups L) (old w : List (Buffer L)) → lookup test es ≡ Some old
      → count_of (set_value test es w) + length old ≡ count_of es + length w
  count-set test es old w e = sum_by-set_value (λ (chunks : List (Buffer L)). length chunks) test es old w e

  count-remove : (test : Priority → Bool) (es : Groups L) (old : List (Buffer L)) → lookup test es ≡ Some old
      → count_of (remove_entry test es) + length old ≡ count_of es
  count-remove test es old e =
      ap (λ o. count_of (remove_entry test es) + unwrap_or (option_map (λ (chunks : List (Buffer L)). length chunks) o) 0) (sym e)
      ∙ sum_by-remove_entry (λ (chunks : List (Buffer L)). length chunks) test es

  count-cons : (p : Priority) (chunks : List (Buffer L)) (es : Groups L) → count_of ((p, chunks) ∷ es) ≡ length chunks + count_of es
  count-cons p chunks es = sum_by-cons (λ (c : List (Buffer L)). length c) chunks (values_of es)

  count-insert : (p : Priority) (es : Groups L) (w : List (Buffer L)) → lookup (same_priority p) es ≡ None
      → count_of (insert_entry priority_cmp es p w) ≡ count_of es + length w
  count-insert p [] w e = omega (arith, count-cons p w [])
  count-insert p (x ∷ es) w e = at (priority_cmp p x.0) e (count-insert p es w)
    where
      at : (o : Ordering) → cond (is_eq o) (Some x.1) (lookup (same_priority p) es) ≡ None
          → (lookup (same_priority p) es ≡ None → count_of (insert_entry priority_cmp es p w) ≡ count_of es + length w)
          → count_of (match_ordering o ((p, w) ∷ x ∷ es) ((x.0, w) ∷ es) (x ∷ insert_entry priority_cmp es p w)) ≡ count_of (x ∷ es) + length w
      at Less e rest = omega (arith, count-cons p w (x ∷ es))
      at Equal e rest = cc
      at Greater e rest = omega (arith, rest e, count-cons x.0 x.1 (insert_entry priority_cmp es p w), count-cons x.0 x.1 es)

  some-set : (test : Priority → Bool) (es : Groups L) (w : List (Buffer L)) → 0 < length w → HaveChunks es → HaveChunks (set_value test es w)
  some-set test [] w some all = tt
  some-set test (x ∷ es) w some all = at (test x.0) (some-set test es w some all.1)
    where
      at : (b : Bool) → HaveChunks (set_value test es w) → HaveChunks (cond b ((x.0, w) ∷ es) (x ∷ set_value test es w))
      at true rest = (some, all.1)
      at false rest = (all.0, rest)

  some-remove : (test : Priority → Bool) (es : Groups L) → HaveChunks es → HaveChunks (remove_entry test es)
  some-remove test [] all = tt
  some-remove test (x ∷ es) all = at (test x.0) (some-remove test es all.1)
    where
      at : (b : Bool) → HaveChunks (remove_entry test es) → HaveChunks (cond b es (x ∷ remove_entry test es))
      at true rest = all.1
      at false rest = (all.0, rest)

  some-insert : (p : Priority) (es : Groups L) (w : List (Buffer L)) → 0 < length w → HaveChunks es → HaveChunks (insert_entry priority_cmp es p w)
  some-insert p [] w some all = (some, tt)
  some-insert p (x ∷ es) w some all = at (priority_cmp p x.0) (some-insert p es w some all.1)
    where
      at : (o : Ordering) → HaveChunks (insert_entry priority_cmp es p w)
          → HaveChunks (match_ordering o ((p, w) ∷ x ∷ es) ((x.0, w) ∷ es) (x ∷ insert_entry priority_cmp es p w))
      at Less rest = (some, all)
      at Equal rest = (some, all.1)
      at Greater rest = (all.0, rest)

  -- a group that is found has a chunk
  pub some-found : (test : Priority → Bool) (es : Groups L) (old : List (Buffer L)) → HaveChunks es → lookup test es ≡ Some old → 0 < length old
  some-found test [] old all e = cc
  some-found test (x ∷ es) old all e = at (test x.0) e (some-found test es old all.1)
    where
      at : (b : Bool) → cond b (Some x.1) (lookup test es) ≡ Some old → (lookup test es ≡ Some old → 0 < length old) → 0 < length old
      at true e rest = let same : x.1 ≡ old = cc in let long = ap length same in let some : 0 < length x.1 = all.0 in omega arith
      at false e rest = rest e

  pub remove-set : (test : Priority → Bool) (es : Groups L) (w : List (Buffer L)) → remove_entry test (set_value test es w) ≡ remove_entry test es
  remove-set test [] w = refl
  remove-set test (x ∷ es) w = at (test x.0) refl (remove-set test es w)
    where
      at : (b : Bool) → test x.0 ≡ b → remove_entry test (set_value test es w) ≡ remove_entry test es
          → remove_entry test (cond b ((x.0, w) ∷ es) (x ∷ set_value test es w)) ≡ cond b es (x ∷ remove_entry test es)
      at true e rest = ap (λ b. cond b es ((x.0, w) ∷ remove_entry test es)) e
      at false e rest = ap (λ b. cond b (set_value test es w) (x ∷ remove_entry test (set_value test es w))) e ∙ ap (λ r. x ∷ r) rest

  pub chunks_of-some : (p : Priority) (es : Groups L) (old : List (Buffer L)) → lookup (same_priority p) es ≡ Some old → chunks_of es p ≡ old
  chunks_of-some p es old e = ap (λ o. unwrap_or o []) e

  pub pinned-some : (p : Priority) (es : Groups L) (old bs : List (Buffer L)) → lookup (same_priority p) es ≡ Some old → 0 < length bs
      → pinned es p bs ≡ set_value (same_priority p) es (old ++ bs)
  pinned-some p es old [] e some = absurd (omega arith)
  pinned-some p es old (b ∷ bs) e some =
      ap (λ o. cond (is_some o) (set_value (same_priority p) es (unwrap_or o [] ++ b ∷ bs)) (insert_entry priority_cmp es p (unwrap_or o [] ++ b ∷ bs))) e

  pub pinned-none : (p : Priority) (es : Groups L) (bs : List (Buffer L)) → lookup (same_priority p) es ≡ None → 0 < length bs
      → pinned es p bs ≡ insert_entry priority_cmp es p bs
  pinned-none p es [] e some = absurd (omega arith)
  pinned-none p es (b ∷ bs) e some =
      ap (λ o. cond (is_some o) (set_value (same_priority p) es (unwrap_or o [] ++ b ∷ bs)) (insert_entry priority_cmp es p (unwrap_or o [] ++ b ∷ bs))) e

  -- chunks that become pinned are counted
  pub counted-pinned : (p : Priority) (es : Groups L) (bs : List (Buffer L)) (count : ℕ) → IsCounted es count → IsCounted (pinned es p bs) (count + length bs)
  counted-pinned p es [] count h = record { counted = let c = h.counted in omega arith; some = h.some }
  counted-pinned p es (b ∷ bs) count h = at (lookup (same_priority p) es) refl
    where
      at : (o : Option (List (Buffer L))) → lookup (same_priority p) es ≡ o → IsCounted (pinned es p (b ∷ bs)) (count + length (b ∷ bs))
      at None e =
          let q = pinned-none p es (b ∷ bs) e (omega arith) in
          let n = count-insert p es (b ∷ bs) e in
          rw q (record { counted = let c = h.counted in omega arith; some = some-insert p es (b ∷ bs) (omega arith) h.some })
      at (Some old) e =
          let q = pinned-some p es old (b ∷ bs) e (omega arith) in
          let n = count-set (same_priority p) es old (old ++ b ∷ bs) e in
          let l = length-append old (b ∷ bs) in
          rw q (record { counted = let c = h.counted in omega arith; some = some-set (same_priority p) es (old ++ b ∷ bs) (omega arith) h.some })

  without-some : (p : Priority) (es : Groups L) (old rest : List (Buffer L)) (b : Buffer L) (count : ℕ) → IsCounted es count → lookup (same_priority p) es ≡ Some (b ∷ rest)
      → IsCounted (without_first es p rest) (count - 1)
  without-some p es old [] b count h e =
      let n = count-remove (same_priority p) es (b ∷ []) e in
      record { counted = let c = h.counted in omega arith; some = some-remove (same_priority p) es h.some }
  without-some p es old (d ∷ rest) b count h e =
      let n = count-set (same_priority p) es (b ∷ d ∷ rest) (d ∷ rest) e in
      record { counted = let c = h.counted in omega arith; some = some-set (same_priority p) es (d ∷ rest) (omega arith) h.some }

  -- a chunk that is taken out is no longer counted
  pub counted-without : (p : Priority) (es : Groups L) (count : ℕ) → IsCounted es count → IsSome (lookup (same_priority p) es)
      → IsCounted (without_first es p (drop 1 (chunks_of es p))) (count - 1)
  counted-without p es count h found = at (lookup (same_priority p) es) refl found
    where
      at : (o : Option (List (Buffer L))) → lookup (same_priority p) es ≡ o → IsSome o → IsCounted (without_first es p (drop 1 (chunks_of es p))) (count - 1)
      at None e found = absurd (true≢false (sym found))
      at (Some []) e found = absurd (let some = some-found (same_priority p) es [] h.some e in omega arith)
      at (Some (b ∷ rest)) e found = rw (chunks_of-some p es (b ∷ rest) e) (without-some p es [] rest b count h e)

  pub count-found : (p : Priority) (es : Groups L) (count : ℕ) → IsCounted es count → IsSome (lookup (same_priority p) es) → 1 ≤ count
  count-found p es count h found = at (lookup (same_priority p) es) refl found
    where
      at : (o : Option (List (Buffer L))) → lookup (same_priority p) es ≡ o → IsSome o → 1 ≤ count
      at None e found = absurd (true≢false (sym found))
      at (Some old) e found =
          let some = some-found (same_priority p) es old h.some e in
          let n = count-remove (same_priority p) es old e in
          let c = h.counted in omega arith

  -- ---- as the calls say it

  pub counted-added : (p : Priority) (es new : Groups L) (bs : List (Buffer L)) (count more : ℕ) → IsCounted es count → new ≡ pinned es p bs → more ≡ length bs
      → IsCounted new (count + more)
  counted-added p es new bs count more h e n = rw (e, n) (counted-pinned p es bs count h)

  pub counted-taken : (p : Priority) (es new : Groups L) (count : ℕ) → IsCounted es count → IsSome (lookup (same_priority p) es)
      → new ≡ without_first es p (drop 1 (chunks_of es p)) → IsCounted new (count - 1)
  counted-taken p es new count h found e = rw e (counted-without p es count h found)

  pub counted-rest : (p : Priority) (pile : List (Buffer L)) (old new : Groups L) (count : ℕ) → IsCounted old count → old ≡ (p, pile) ∷ new → IsCounted new (count - length pile)
  counted-rest p pile old new count h e =
      let k : IsCounted ((p, pile) ∷ new) count = rw e at h in
      let n : count ≡ length pile + count_of new = k.counted ∙ count-cons p pile new in
      record { counted = omega (arith, n); some = k.some.1 }

  pub first-there : (test : Priority → Bool) (es : Groups L) (old : List (Buffer L)) → HaveChunks es → lookup test es ≡ Some old → slice_get old 0 ≡ None → ⊥
  first-there test es [] all found none = let some = some-found test es [] all found in absurd (omega arith)
  first-there test es (b ∷ bs) all found none = cc

  pub rest-emptied : (p : Priority) (es written after : Groups L) (old next : List (Buffer L)) → lookup (same_priority p) es ≡ Some old
      → written ≡ set_value (same_priority p) es next → after ≡ remove_entry (same_priority p) written → next ≡ drop 1 old → nat_eq (length next) 0 ≡ true
      → after ≡ without_first es p (drop 1 (chunks_of es p))
  rest-emptied p es written after old next found w a n empty =
      a ∙ ap (remove_entry (same_priority p)) w ∙ remove-set (same_priority p) es next
      ∙ ap (without_first es p) (sym (n_is_none next empty) ∙ n ∙ ap (drop 1) (sym (chunks_of-some p es old found)))
    where
      n_is_none : (bs : List (Buffer L)) → nat_eq (length bs) 0 ≡ true → bs ≡ []
      n_is_none [] e = refl
      n_is_none (b ∷ bs) e = absurd (let z = eqb-true (length (b ∷ bs)) 0 e in omega arith)

  pub counts-more : (before now new : Groups L) (count more : ℕ) → IsCounted before count → before ≡ now → IsCounted new (count + more) → count_of new ≡ count_of now + more
  counts-more before now new count more h same k = let a = h.counted in let b = k.counted in let d = ap count_of same in omega arith

  pub counts-less : (before now new : Groups L) (count : ℕ) → IsCounted before count → before ≡ now → 1 ≤ count → IsCounted new (count - 1) → count_of new + 1 ≡ count_of now
  counts-less before now new count h same some k = let a = h.counted in let b = k.counted in let d = ap count_of same in omega arith
