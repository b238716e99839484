-- For how many chunks a group needs room: what becomes of that where a trace that it names is claimed already, and where it is
-- claimed now.
use Rattle.std.proofs.Common.{◌≡◌, ℕ, zero, suc, add-one, ◌+◌, ◌≤◌, cond, List, [], ◌∷◌, length, take, drop, slice_get, Some, refl, sym, ap, ◌∙◌, arith}
use Rattle.std.proofs.lemmas.Option.{slice_get_within, get_or_from_slice_get}
use Rattle.hs_agent.proofs.Prelude.{find, option_map_or, sum_by-cons, by_answer, TraceId, same_trace, Indexed, is_of, nothing, noted_of, others, chunk_count, count_chunks, same_trace-true, Tagged}
use Rattle.hs_base.proofs.Parts.{drop_next}
use Rattle.hs_agent.specs.Asking.{named_chunks, needed}
use Rattle.hs_agent.proofs.Indexing.{noted-others, noted-gone}
use Rattle.hs_agent.proofs.ClaimedAll.{fold-more}

module _ {L : Type 0} where
  -- a trace has no more chunks than are indexed
  pub own-few : (trace : TraceId) (ts : List (Indexed (Tagged L))) → chunk_count (noted_of trace ts) ≤ count_chunks ts
  own-few trace [] = omega arith
  own-few trace (t ∷ ts) =
      let whole = sum_by-cons (λ (u : Indexed (Tagged L)). chunk_count u.noted) t ts in
      by_answer (is_of trace t)
      (λ y.
      let mine = ap (λ b. chunk_count (option_map_or (λ (u : Indexed (Tagged L)). u.noted) (cond b (Some t) (find (is_of trace) ts)) nothing)) y in
      omega (arith, whole, mine))
      (λ n.
      let mine = ap (λ b. chunk_count (option_map_or (λ (u : Indexed (Tagged L)). u.noted) (cond b (Some t) (find (is_of trace) ts)) nothing)) n in
      let rest = own-few trace ts in
      omega (arith, whole, mine, rest))

  pub named-cons : (ts : List (Indexed (Tagged L))) (trace : TraceId) (left : List TraceId) → named_chunks ts (trace ∷ left) ≡ chunk_count (noted_of trace ts) + named_chunks ts left
  named-cons ts trace left = sum_by-cons (λ u. chunk_count (noted_of u ts)) trace left

  -- without a trace the others have what they had
  own-others : (gone trace : TraceId) (ts : List (Indexed (Tagged L))) → chunk_count (noted_of trace (others gone ts)) ≤ chunk_count (noted_of trace ts)
  own-others gone trace ts =
      by_answer (same_trace gone trace)
      (λ y.
      let none : chunk_count (noted_of trace (others gone ts)) ≡ 0 = ap (λ u. chunk_count (noted_of u (others gone ts))) (sym (same_trace-true gone trace y)) ∙ ap chunk_count (noted-gone gone ts) in
      omega (arith, none))
      (λ n. let same = ap chunk_count (noted-others gone trace n ts) in omega (arith, same))

  named-others : (gone : TraceId) (ts : List (Indexed (Tagged L))) (left : List TraceId) → named_chunks (others gone ts) left ≤ named_chunks ts left
  named-others gone ts [] = omega arith
  named-others gone ts (trace ∷ left) =
      let now = named-cons (others gone ts) trace left in
      let was = named-cons ts trace left in
      let own = own-others gone trace ts in
      let rest = named-others gone ts left in
      omega (arith, now, was, own, rest)

  -- there is room for what is left where the trace is claimed already
  pub needed-known : (ts : List (Indexed (Tagged L))) (trace : TraceId) (left : List TraceId) (room : ℕ) → needed ts (trace ∷ left) ≤ room → needed ts left ≤ room
  needed-known ts trace left room fits = let all = named-cons ts trace left in omega (arith, all, fits)

  -- there is room for the trace
  pub needed-own : (ts : List (Indexed (Tagged L))) (trace : TraceId) (left : List TraceId) (room : ℕ) → needed ts (trace ∷ left) ≤ room → chunk_count (noted_of trace ts) ≤ room
  needed-own ts trace left room fits = let all = named-cons ts trace left in let own = own-few trace ts in omega (arith, all, own, fits)

  -- and for what is left once it is claimed
  pub needed-claimed : (ts : List (Indexed (Tagged L))) (trace : TraceId) (left : List TraceId) (room now : ℕ) → needed ts (trace ∷ left) ≤ room → now + chunk_count (noted_of trace ts) ≡ room
      → count_chunks (others trace ts) + chunk_count (noted_of trace ts) ≡ count_chunks ts → needed (others trace ts) left ≤ now
  needed-claimed ts trace left room now fits room_is count =
      let all = named-cons ts trace left in
      let fewer = named-others trace ts left in
      omega (arith, all, fewer, fits, room_is, count)

-- ---- the laterals that are left

pub none-left : {A : Type 0} (xs : List A) (n : ℕ) → length xs ≤ n → drop n xs ≡ []
none-left [] zero low = refl
none-left [] (suc n) low = refl
none-left (x ∷ xs) zero low = absurd (omega (arith, low))
none-left (x ∷ xs) (suc n) low = none-left xs n (omega (arith, low))

pub next-left : {A : Type 0} (xs : List A) (n : ℕ) (x : A) → slice_get xs n ≡ Some x → drop n xs ≡ x ∷ drop (n + 1) xs
next-left xs n x e = drop_next xs n x (slice_get_within xs n x e) (sym (get_or_from_slice_get xs n x x e))

-- ---- a trace more is counted

module _ {L : Type 0} (ts : List (Indexed (Tagged L))) (lead : TraceId) where
  pub named-one : named_chunks ts (lead ∷ []) ≡ chunk_count (noted_of lead ts)
  named-one = let all = named-cons ts lead [] in omega (arith, all)

  pub named-more : (laterals : List TraceId) (n : ℕ) (trace : TraceId) → slice_get laterals n ≡ Some trace
      → named_chunks ts (lead ∷ take (n + 1) laterals) ≡ named_chunks ts (lead ∷ take n laterals) + chunk_count (noted_of trace ts)
  named-more laterals n trace e =
      ap (λ m. named_chunks ts (lead ∷ take m laterals)) (add-one n)
      ∙ fold-more (λ (sum : ℕ) (u : TraceId). sum + chunk_count (noted_of u ts)) (0 + chunk_count (noted_of lead ts)) laterals n trace e
