-- The draws of a journal that has the shape of a workload, the rows of its clients, and one script more.
use Rattle.std.proofs.Common.{◌≡◌, ℕ, zero, suc, ◌+◌, ◌*◌, ◌^◌, ◌<◌, ◌≤◌, Bool, true, ◌&&◌, nat_eq, List, [], ◌∷◌, ◌++◌, length, map, Some, refl, sym, ap, subst, ◌∙◌, arith, slice_get, mul-le-mul_right, ◌⊎◌, inl, inr}
use Rattle.hs_compare.proofs.Prelude.{flat_map, range_with_len, append-nil, length_push, flat_map-append, same_Some, range_append, MayBegin, PlainJournal, client_at, pages_of, PlainWorkload, comings_of, draws_at, operations_at, IsValid, Script, IsClientScript, AreFirstScripts, first_comings}
use Rattle.std.proofs.lemmas.Bool.{and_parts}
use Rattle.hs_law_journal.specs.Shape.{same_counts}
use Rattle.hs_law_outcome.proofs.Entries.{same_length, same_many}

module _ (W : PlainWorkload) (J : PlainJournal) (may : MayBegin W J) where
  abbrev counts : Bool
  counts = same_counts (map length J.draws) (map (λ ops. length (pages_of W.settings.size ops)) W.clients)

  counted : counts ≡ true
  counted = (and_parts (nat_eq J.nodes W.settings.nodes && nat_eq J.clients W.settings.clients && nat_eq (length J.logs) W.settings.nodes) counts may.shape).1

  pub draws_many : length J.draws ≡ length W.clients
  draws_many = same_many J.draws W.clients W.settings.size counted

  pub draws_each : (place : ℕ) → length (draws_at J place) ≡ length (pages_of W.settings.size (operations_at W place))
  draws_each place = same_length J.draws W.clients W.settings.size place counted

-- a place is below the number of clients, which have numbers of 16 bits
pub place_low : (W : PlainWorkload) → IsValid W → (place : ℕ) → W.settings.nodes < 2 ^ 16 → place < length W.clients → place < 2 ^ 16 * W.settings.clients
place_low W valid place few low =
    let less : W.settings.nodes ≤ 2 ^ 16 = omega arith in
    let rows = mul-le-mul_right W.settings.clients less in
    omega (arith, valid.count, rows, low)

-- ---- one script more

at_push : {X : Type 0} (xs : List X) (x : X) (place : ℕ) (found : X) → slice_get (xs ++ x ∷ []) place ≡ Some found → ((place ≡ length xs) × (found ≡ x)) ⊎ (slice_get xs place ≡ Some found)
at_push [] x zero found h = inl (refl, sym (same_Some x found h))
at_push [] x (suc place) found h = inr h
at_push (y ∷ xs) x zero found h = inr h
at_push (y ∷ xs) x (suc place) found h = elim (at_push xs x place found h) [ inl here ↦ inl (ap suc here.0, here.1) | inr old ↦ inr old ]

pub no_scripts : (W : PlainWorkload) → AreFirstScripts W 0 []
no_scripts W = record { many = refl; each = λ place script is. absurd (cc) }

pub script_more : (W : PlainWorkload) (count : ℕ) (scripts : List Script) (script : Script) → AreFirstScripts W count scripts
    → IsClientScript W.settings.autos (client_at W.settings.clients count) (operations_at W count) script → AreFirstScripts W (count + 1) (scripts ++ script ∷ [])
script_more W count scripts script are is =
    record {
      many = length_push scripts script ∙ ap (λ n. n + 1) are.many;
      each = λ place found at.
          elim (at_push scripts script place found at) [
            | inl here ↦
                subst (λ (p : ℕ). IsClientScript W.settings.autos (client_at W.settings.clients p) (operations_at W p) found) (sym (here.0 ∙ are.many))
                (subst (IsClientScript W.settings.autos (client_at W.settings.clients count) (operations_at W count)) (sym here.1) is)
            | inr old ↦ are.each place found old
          ];
    }

-- the records of one client more
pub comings_more : (W : PlainWorkload) (count : ℕ) → first_comings W (count + 1) ≡ first_comings W count ++ comings_of (client_at W.settings.clients count) (operations_at W count)
comings_more W count =
    let comings = λ (place : ℕ). comings_of (client_at W.settings.clients place) (operations_at W place) in
    ap (flat_map comings) (range_append 0 count 1) ∙ flat_map-append comings (range_with_len 0 count) (range_with_len (0 + count) 1)
    ∙ ap (λ k. flat_map comings (range_with_len 0 count) ++ flat_map comings (range_with_len k 1)) (let e : 0 + count ≡ count = omega arith in e)
    ∙ ap (λ cs. flat_map comings (range_with_len 0 count) ++ cs) (append-nil (comings count))
