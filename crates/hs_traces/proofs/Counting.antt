-- How the bytes of pages change, and what a limit that is not exceeded leaves.
use Rattle.std.proofs.Common.{◌≡◌, ℕ, ◌+◌, ◌-◌, ◌<◌, ◌≤◌, Bool, true, false, not, cond, List, [], ◌∷◌, ◌++◌, length, take, Option, Some, None, is_some, unwrap_or, option_map, refl, sym, ap, ◌∙◌, arith}
use Rattle.std.specs.Prelude.{◌&&◌, nat_lt, nat_le, sum_by}
use Rattle.std.specs.Option.{option_map_or}
use Rattle.std.specs.Map.{lookup, lookup_entry, set_value, remove_entry, values_of}
use Rattle.std.specs.BTreeMap.{insert_entry}
use Rattle.std.specs.declared.cmp.Ordering.{Ordering}
use Rattle.std.specs.declared.cmp.Ordering.TheVariants.{Less, Equal, Greater}
use Rattle.std.specs.Ordering.{is_eq, match_ordering}
use Rattle.std.proofs.lemmas.List.{map-append, take_all}
use Rattle.std.proofs.lemmas.List.Sums.{sum_by-cons, sum_by_push}
use Rattle.std.proofs.lemmas.Map.Entries.{sum_by-set_value, sum_by-remove_entry}
use Rattle.std.proofs.lemmas.Bool.{ltb-false, leb-false}
use Rattle.hs_base.proofs.Options.{is_some_false}
use Rattle.hs_base.proofs.Bools.{first_false, second_false}
use Rattle.lru.specs.LruCache.{put_entries, lru_cache}
use Rattle.hs_base.specs.declared.ids.TraceId.{TraceId}
use Rattle.hs_base.specs.Ids.{same_trace}
use Rattle.hs_traces.specs.declared.key.PageKey.{PageKey}
use Rattle.hs_traces.specs.Keys.{key_cmp, same_key}
use Rattle.hs_traces.specs.Parts.{Pages, bytes_of, has_key, with_page}
use Rattle.hs_traces.specs.Traces.{Parts, PlainTraces, part_of, bytes_in, held_bytes, is_full}

bytes_of-cons : (key : PageKey) (bytes : List ℕ) (pages : Pages) → bytes_of ((key, bytes) ∷ pages) ≡ length bytes + bytes_of pages
bytes_of-cons key bytes pages = sum_by-cons (λ (b : List ℕ). length b) bytes (values_of pages)

-- a page whose key is new adds its bytes
pub bytes_of-insert : (key : PageKey) (bytes : List ℕ) (pages : Pages) → lookup (same_key key) pages ≡ None → bytes_of (with_page pages key bytes) ≡ bytes_of pages + length bytes
bytes_of-insert key bytes [] e = omega (arith, bytes_of-cons key bytes [])
bytes_of-insert key bytes (x ∷ pages) e = at (key_cmp key x.0) e (bytes_of-insert key bytes pages)
  where
    at : (o : Ordering) → cond (is_eq o) (Some x.1) (lookup (same_key key) pages) ≡ None
        → (lookup (same_key key) pages ≡ None → bytes_of (insert_entry key_cmp pages key bytes) ≡ bytes_of pages + length bytes)
        → bytes_of (match_ordering o ((key, bytes) ∷ x ∷ pages) ((x.0, bytes) ∷ pages) (x ∷ insert_entry key_cmp pages key bytes)) ≡ bytes_of (x ∷ pages) + length bytes
    at Less e rest = omega (arith, bytes_of-cons key bytes (x ∷ pages))
    at Equal e rest = cc
    at Greater e rest = omega (arith, rest e, bytes_of-cons x.0 x.1 (insert_entry key_cmp pages key bytes), bytes_of-cons x.0 x.1 pages)

pub bytes_of-new : (key : PageKey) (bytes : List ℕ) (pages : Pages) → has_key pages key ≡ false → bytes_of (with_page pages key bytes) ≡ bytes_of pages + length bytes
bytes_of-new key bytes pages new = bytes_of-insert key bytes pages (is_some_false (lookup (same_key key) pages) new)

-- ---- parts

pub bytes_in-set : (trace : TraceId) (parts : Parts) (old new : Pages) → part_of parts trace ≡ Some old → bytes_in (set_value (same_trace trace) parts new) + bytes_of old ≡ bytes_in parts + bytes_of new
bytes_in-set trace parts old new found = sum_by-set_value bytes_of (same_trace trace) parts old new found

pub bytes_in-cons : (trace : TraceId) (pages : Pages) (parts : Parts) → bytes_in ((trace, pages) ∷ parts) ≡ bytes_of pages + bytes_in parts
bytes_in-cons trace pages parts = sum_by-cons bytes_of pages (values_of parts)

pub bytes_in-push : (parts : Parts) (trace : TraceId) (pages : Pages) → bytes_in (parts ++ (trace, pages) ∷ []) ≡ bytes_in parts + bytes_of pages
bytes_in-push parts trace pages = ap (sum_by bytes_of) (map-append (λ (e : TraceId × Pages). e.1) parts ((trace, pages) ∷ [])) ∙ sum_by_push bytes_of (values_of parts) pages

pub bytes_in-remove : (trace : TraceId) (parts : Parts) (old : Pages) → part_of parts trace ≡ Some old → bytes_in (remove_entry (same_trace trace) parts) + bytes_of old ≡ bytes_in parts
bytes_in-remove trace parts old found =
    ap (λ o. bytes_in (remove_entry (same_trace trace) parts) + unwrap_or (option_map bytes_of o) 0) (sym found)
    ∙ sum_by-remove_entry bytes_of (same_trace trace) parts

-- a part is no larger than all parts
pub bytes_of-part : (trace : TraceId) (parts : Parts) (old : Pages) → part_of parts trace ≡ Some old → bytes_of old ≤ bytes_in parts
bytes_of-part trace parts old found = let all = bytes_in-remove trace parts old found in omega (arith, all)

-- nothing to remove
pub remove-missing : (trace : TraceId) (parts : Parts) → part_of parts trace ≡ None → remove_entry (same_trace trace) parts ≡ parts
remove-missing trace [] missing = refl
remove-missing trace (e ∷ parts) missing = at (same_trace trace e.0) missing (remove-missing trace parts)
  where
    at : (b : Bool) → cond b (Some e.1) (lookup (same_trace trace) parts) ≡ None → (lookup (same_trace trace) parts ≡ None → remove_entry (same_trace trace) parts ≡ parts)
        → cond b parts (e ∷ remove_entry (same_trace trace) parts) ≡ e ∷ parts
    at true missing rest = cc
    at false missing rest = ap (λ l. e ∷ l) (rest missing)

entry-missing : (trace : TraceId) (parts : Parts) → part_of parts trace ≡ None → lookup_entry (same_trace trace) parts ≡ None
entry-missing trace [] missing = refl
entry-missing trace (e ∷ parts) missing = at (same_trace trace e.0) missing (entry-missing trace parts)
  where
    at : (b : Bool) → cond b (Some e.1) (lookup (same_trace trace) parts) ≡ None → (lookup (same_trace trace) parts ≡ None → lookup_entry (same_trace trace) parts ≡ None)
        → cond b (Some e) (lookup_entry (same_trace trace) parts) ≡ None
    at true missing rest = cc
    at false missing rest = rest missing

-- a new part goes first where there is room
pub put-new : (trace : TraceId) (parts : Parts) (cap : ℕ) (pages : Pages) → part_of parts trace ≡ None → length parts < cap
    → put_entries same_trace (lru_cache parts cap) trace pages ≡ (trace, pages) ∷ parts
put-new trace parts cap pages missing within =
    ap (λ o. option_map_or (λ (e : TraceId × Pages). (e.0, pages) ∷ remove_entry (same_trace trace) parts) o ((trace, pages) ∷ take (cap - 1) parts)) (entry-missing trace parts missing)
    ∙ ap (λ l. (trace, pages) ∷ l) (take_all (cap - 1) parts (omega arith))

-- ---- limits that are not exceeded

pub bytes_fit : (s : PlainTraces) (trace : TraceId) (len : ℕ) → is_full s trace len ≡ false → held_bytes s + len ≤ s.limits.bytes
bytes_fit s trace len room = ltb-false s.limits.bytes (held_bytes s + len) (first_false (nat_lt s.limits.bytes (held_bytes s + len)) _ room)

not-none : (o : Option Pages) → o ≡ None → not (is_some o) ≡ true
not-none o none = ap (λ (p : Option Pages). not (is_some p)) none

both_false : (a b : Bool) → a ≡ true → (a && b) ≡ false → b ≡ false
both_false true b e h = h
both_false false b e h = let never : false ≡ true = e in absurd cc

pub trace_fits : (s : PlainTraces) (trace : TraceId) (len : ℕ) → is_full s trace len ≡ false → part_of s.waiting trace ≡ None → length s.waiting < s.limits.hold
trace_fits s trace len room missing =
    leb-false s.limits.hold (length s.waiting)
    (both_false (not (is_some (part_of s.waiting trace))) (nat_le s.limits.hold (length s.waiting)) (not-none (part_of s.waiting trace) missing)
    (second_false (nat_lt s.limits.bytes (held_bytes s + len)) _ room))
