-- Autotriggers and trigger ids that a client knows.
use Rattle.std.proofs.Common.{◌≡◌, ℕ, zero, suc, ◌+◌, ◌<◌, Bool, true, false, ◌||◌, List, [], ◌∷◌, ◌++◌, length, map, take, replicate, get_or, set, eqb, refl, sym, ap, ◌∙◌, subst, arith, None, Some}
use Rattle.std.proofs.lemmas.Bool.{eqb-true, eqb-false}
use Rattle.std.proofs.lemmas.List.{take_more}
use Rattle.std.proofs.lemmas.List.Elements.{All-push}
use Rattle.std.proofs.lemmas.List.Folds.{list_any_more}
use Rattle.std.proofs.lemmas.Option.{same_Some}
use Rattle.std.specs.List.{All}
use Rattle.std.specs.Prelude.{slice_get}
use Rattle.hs_auto.specs.Watching.{Watch}
use Rattle.hs_base.specs.Rules.{fired_by, is_declared}
use Rattle.hs_base.specs.declared.ids.TriggerId.{TriggerId}
use Rattle.hs_base.specs.declared.settings.TriggerRule.{TriggerRule}
use Rattle.hs_base.proofs.Places.{get_set, get_other}
use Rattle.hs_node_client.specs.Known.{AreDeclared}

-- the autotrigger that fires what stands at its place
pub auto_found : (autos : List Watch) (auto : ℕ) (trigger : TriggerId) → slice_get (map fired_by (map (λ (watch : Watch). watch.rule) autos)) auto ≡ Some trigger
    → (watch : Watch) × (slice_get autos auto ≡ Some watch) × (fired_by watch.rule ≡ trigger)
auto_found [] auto trigger h = let never : None ≡ Some trigger = h in absurd cc
auto_found (w ∷ autos) zero trigger h = (w, refl, same_Some _ trigger h)
auto_found (w ∷ autos) (suc auto) trigger h = auto_found autos auto trigger h

-- ---- loops

pub replicate_more : {A : Type 0} (n : ℕ) (x : A) → replicate n x ++ x ∷ [] ≡ replicate (suc n) x
replicate_more zero x = refl
replicate_more (suc n) x = ap (λ l. x ∷ l) (replicate_more n x)

-- all of one more
pub all_more : {A : Type 0} (P : A → Type 0) (xs : List A) (i : ℕ) (d : A) → i < length xs → All P (take i xs) → P (get_or xs i d) → All P (take (i + 1) xs)
all_more P xs i d low all here = subst (All P) (sym (take_more xs i d low)) (All-push P (take i xs) (get_or xs i d) all here)

-- ---- the table of ids

get_replicate : {A : Type 0} (n k : ℕ) (x : A) → k < n → slice_get (replicate n x) k ≡ Some x
get_replicate zero k x low = absurd (omega (arith, low))
get_replicate (suc n) zero x low = refl
get_replicate (suc n) (suc k) x low = get_replicate n k x (omega (arith, low))

pub none_declared : AreDeclared [] (replicate 256 false)
none_declared = λ id low. get_replicate 256 id false low

or_right : (a b : Bool) → b ≡ true → (a || b) ≡ true
or_right true b h = refl
or_right false b h = h

or_left : (a b : Bool) → b ≡ false → (a || b) ≡ a
or_left true b h = refl
or_left false b h = h

pub declared_more : (rules : List TriggerRule) (table : List Bool) (i : ℕ) (d : TriggerRule) → i < length rules → AreDeclared (take i rules) table → AreDeclared (take (i + 1) rules) (set table (get_or rules i d).id.0 true)
declared_more rules table i d low are = λ id small. by_case id small (eqb x.id.0 id) refl
  where
    x : TriggerRule
    x = get_or rules i d

    named : (id : ℕ) → TriggerRule → Bool
    named id rule = eqb rule.id.0 id

    more : (id : ℕ) → is_declared (take (i + 1) rules) (record { 0 = id }) ≡ (is_declared (take i rules) (record { 0 = id }) || eqb (get_or rules i d).id.0 id)
    more id = list_any_more (λ (rule : TriggerRule). eqb rule.id.0 id) rules i d low

    by_case : (id : ℕ) → id < 256 → (same : Bool) → same ≡ eqb (get_or rules i d).id.0 id → slice_get (set table (get_or rules i d).id.0 true) id ≡ Some (is_declared (take (i + 1) rules) (record { 0 = id }))
    by_case id small true e =
        let is : (get_or rules i d).id.0 ≡ id = eqb-true (get_or rules i d).id.0 id (sym e) in
        ap (λ n. slice_get (set table n true) id) is ∙ get_set table id (is_declared (take i rules) (record { 0 = id })) true (are id small) ∙ sym (ap Some (more id ∙ or_right _ _ (sym e)))
    by_case id small false e =
        get_other table (get_or rules i d).id.0 id true (eqb-false (get_or rules i d).id.0 id (sym e)) ∙ are id small ∙ sym (ap Some (more id ∙ or_left _ _ (sym e)))
