-- The rounds of the scripts are the events in the operation order.
use Rattle.std.proofs.Common.{◌≡◌, ℕ, suc, ◌+◌, ◌*◌, List, [], ◌∷◌, ◌++◌, length, map, Some, refl, sym, ap, ap₂, ◌∙◌, arith, slice_get}
use Rattle.hs_compare.proofs.Prelude.{flat_map, range_with_len, AllByRecursion, map-append, rounds_of, client_at, PlainWorkload, events_at, events_in_order, operations_at, Script, AreScripts, points_by, IsSound, part_of, round_of, all_rounds, names_of, event_of, both_of}
use Rattle.hs_compare.specs.Coming.{events_of}
use Rattle.hs_compare.proofs.Named.{events_are}
use Rattle.hs_compare.proofs.Parts.{client_sound, client_part}

flat-same : {X Y : Type 0} (f g : X → List Y) → ((x : X) → f x ≡ g x) → (xs : List X) → flat_map f xs ≡ flat_map g xs
flat-same f g same [] = refl
flat-same f g same (x ∷ xs) = ap₂ (λ a b. a ++ b) (same x) (flat-same f g same xs)

map-flat : {X Y Z : Type 0} (h : Y → Z) (f : X → List Y) (xs : List X) → flat_map (λ x. map h (f x)) xs ≡ map h (flat_map f xs)
map-flat h f [] = refl
map-flat h f (x ∷ xs) = ap (λ zs. map h (f x) ++ zs) (map-flat h f xs) ∙ sym (map-append h (f x) (flat_map f xs))

-- one script for each place
each_place : {X Y : Type 0} (g : X → List Y) (h : ℕ → List Y) (xs : List X) (from : ℕ) → ((place : ℕ) (x : X) → slice_get xs place ≡ Some x → g x ≡ h (from + place)) → flat_map g xs ≡ flat_map h (range_with_len from (length xs))
each_place g h [] from each = refl
each_place g h (x ∷ xs) from each =
    ap₂ (λ a b. a ++ b) (each 0 x refl ∙ ap h (let e : from + 0 ≡ from = omega arith in e))
    (each_place g h xs (from + 1) (λ place y is. each (suc place) y is ∙ ap h (let e : from + suc place ≡ from + 1 + place = omega arith in e)))

module _ (W : PlainWorkload) (scripts : List Script) (are : AreScripts W scripts) where
  script_part : (round place : ℕ) (script : Script) → slice_get scripts place ≡ Some script
      → part_of (round * W.settings.stride) W.settings.stride script ≡ map event_of (events_of W round (0 + place))
  script_part round place script is =
      let client = client_at W.settings.clients place in
      let ops = operations_at W place in
      let from = round * W.settings.stride in
      client_part W.settings.autos client ops script from W.settings.stride (are.each place script is)
      ∙ flat-same (both_of (points_by client ops) (names_of W.settings.autos ops)) (λ n. map event_of (events_at W.settings.autos client ops n)) (events_are W.settings.autos client ops) (range_with_len from W.settings.stride)
      ∙ map-flat event_of (events_at W.settings.autos client ops) (range_with_len from W.settings.stride)
      ∙ ap (λ p. map event_of (events_of W round p)) (let e : place ≡ 0 + place = omega arith in e)

  round_part : (round : ℕ) → round_of W.settings.stride scripts round ≡ map event_of (flat_map (events_of W round) (range_with_len 0 (length W.clients)))
  round_part round =
      each_place (part_of (round * W.settings.stride) W.settings.stride) (λ place. map event_of (events_of W round place)) scripts 0 (script_part round)
      ∙ ap (λ n. flat_map (λ place. map event_of (events_of W round place)) (range_with_len 0 n)) are.count
      ∙ map-flat event_of (events_of W round) (range_with_len 0 (length W.clients))

  pub rounds_in_order : all_rounds W.settings.stride scripts (rounds_of W) ≡ map event_of (events_in_order W)
  rounds_in_order =
      flat-same (round_of W.settings.stride scripts) (λ round. map event_of (flat_map (events_of W round) (range_with_len 0 (length W.clients)))) round_part (range_with_len 0 (rounds_of W))
      ∙ map-flat event_of (λ round. flat_map (events_of W round) (range_with_len 0 (length W.clients))) (range_with_len 0 (rounds_of W))

  pub scripts_sound : AllByRecursion IsSound scripts
  scripts_sound = all_sound scripts (λ place script is. client_sound W.settings.autos (client_at W.settings.clients place) (operations_at W place) script (are.each place script is))
    where
      all_sound : (some : List Script) → ((place : ℕ) (script : Script) → slice_get some place ≡ Some script → IsSound script) → AllByRecursion IsSound some
      all_sound [] each = tt
      all_sound (s ∷ some) each = (each 0 s refl, all_sound some (λ place script is. each (suc place) script is))
