-- Entries that are parted are counted in three parts, beside the records that tail keeps.
use Rattle.std.proofs.Common.{◌≡◌, ℕ, ◌+◌, Bool, List, [], ◌∷◌, length, refl, sym, ap, ◌∙◌, arith, map, filter, zip, count_by}
use Rattle.hs_compare.proofs.Prelude.{AllByRecursion, length-map, sum_by-cons, one_if, length_cons_if, TraceId, is_among, Entry, is_reported, PlainWorkload, outcome_of, Named, name_of, all_comings, named_in, name_of_coming, EntriesStandByTheRecords, IsParted, KeptIsParted, TailIsTheSum, is_gap, is_limited}
use Rattle.hs_compare.specs.Coming.{Coming}

module _ (W : PlainWorkload) (claimed : List TraceId) where
  abbrev Reported : Entry → Bool
  Reported entry = is_reported entry.fate

  abbrev InGap : Entry → Bool
  InGap = is_gap claimed

  abbrev Limited : Entry → Bool
  Limited = is_limited (named_in W) claimed

  abbrev pairs : List Coming → List Entry → List (Coming × Entry)
  pairs records entries = filter (λ (c : Coming × Entry). Reported c.1) (zip records entries)

  counted : (records : List Coming) (entries : List Entry) → map name_of_coming records ≡ map name_of entries → AllByRecursion (IsParted W claimed) entries
      → length (filter (λ (c : Coming). is_among (named_in W) c.trace) records) ≡ length (pairs records entries) + count_by InGap entries + count_by Limited entries
  counted [] [] same all = refl
  counted [] (entry ∷ entries) same all = let no : [] ≡ name_of entry ∷ map name_of entries = same in absurd cc
  counted (c ∷ records) [] same all = let no : name_of_coming c ∷ map name_of_coming records ≡ [] = same in absurd cc
  counted (c ∷ records) (entry ∷ entries) same all =
      let first : name_of_coming c ≡ name_of entry = cc in
      let rest : map name_of_coming records ≡ map name_of entries = cc in
      let traces : c.trace ≡ entry.trace = ap (λ (n : Named). n.trace) first in
      let kept = length_cons_if c (filter (λ (c : Coming). is_among (named_in W) c.trace) records) (is_among (named_in W) c.trace) in
      let alike : one_if (is_among (named_in W) c.trace) ≡ one_if (is_among (named_in W) entry.trace) = ap (λ (t : TraceId). one_if (is_among (named_in W) t)) traces in
      let reported = length_cons_if (c, entry) (pairs records entries) (Reported entry) in
      let gap = sum_by-cons (λ (e : Entry). one_if (InGap e)) entry entries in
      let limited = sum_by-cons (λ (e : Entry). one_if (Limited e)) entry entries in
      let here = all.0 in
      let later = counted records entries rest all.1 in
      omega (arith, kept, alike, reported, gap, limited, here, later)

pub tail_is_the_sum : EntriesStandByTheRecords → KeptIsParted → TailIsTheSum
tail_is_the_sum stand parted W J one_in room can lawful =
    let claimed = (outcome_of W J).claimed in
    let entries = (outcome_of W J).entries in
    counted W claimed (all_comings W) entries (stand W J can.ends lawful) (parted W J can lawful)
    ∙ ap (λ (n : ℕ). n + count_by (is_gap claimed) entries + count_by (is_limited (named_in W) claimed) entries) (sym (length-map (pairs W claimed (all_comings W) entries) (λ (c : Coming × Entry). c.0)))
