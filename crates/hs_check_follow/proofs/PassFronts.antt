-- The passes of a log from its front: the first one has the items up to a turn or an offer, that step, and the offers behind it.
use Rattle.std.proofs.Common.{◌≡◌, ℕ, zero, suc, ◌+◌, ◌<◌, ◌≤◌, Bool, true, false, cond, List, [], ◌∷◌, ◌++◌, refl, sym, ap, ◌∙◌, subst, inl, inr, arith}
use Rattle.hs_check_follow.proofs.Prelude.{not, ◌&&◌, ◌||◌, AllByRecursion, cases_Bool, or_cases, Step, is_turn, is_offer, ends_between, put_step, passes_of, IsTake}

-- the offers at the front of a log, and what stands behind them
abbrev pub offers_of : List Step → List Step
offers_of [] = []
offers_of (step ∷ log) = cond (is_offer step) (step ∷ offers_of log) []

abbrev pub behind_offers : List Step → List Step
behind_offers [] = []
behind_offers (step ∷ log) = cond (is_offer step) (behind_offers log) (step ∷ log)

pub offers_are_offers : (log : List Step) → AllByRecursion (λ step. is_offer step ≡ true) (offers_of log)
offers_are_offers [] = tt
offers_are_offers (step ∷ log) = at (is_offer step) refl (offers_are_offers log)
  where
    at : (b : Bool) → is_offer step ≡ b → AllByRecursion (λ s. is_offer s ≡ true) (offers_of log) → AllByRecursion (λ s. is_offer s ≡ true) (cond b (step ∷ offers_of log) [])
    at true e later = (e, later)
    at false e later = tt

-- ---- the first pass

-- the first pass begins with the first step
pub record Begins (step : Step) (log : List Step) : Type 0 where
  pub pass : List Step
  pub later : List (List Step)
  pub is : passes_of (step ∷ log) ≡ (step ∷ pass) ∷ later

put_begins : (step : Step) (passes : List (List Step)) → (pass : List Step) × (later : List (List Step)) × (put_step step passes ≡ (step ∷ pass) ∷ later)
put_begins step [] = ([], [], refl)
put_begins step ([] ∷ passes) = ([], passes, refl)
put_begins step ((next ∷ pass) ∷ passes) = at (ends_between step next)
  where
    at : (b : Bool) → (front : List Step) × (later : List (List Step)) × (cond b ((step ∷ []) ∷ (next ∷ pass) ∷ passes) ((step ∷ next ∷ pass) ∷ passes) ≡ (step ∷ front) ∷ later)
    at true = ([], (next ∷ pass) ∷ passes, refl)
    at false = (next ∷ pass, passes, refl)

pub begins : (step : Step) (log : List Step) → Begins step log
begins step log = let h = put_begins step (passes_of log) in record { pass = h.0; later = h.1; is = h.2 }

-- an item is put into the pass before which it stands
put_item : (item next : Step) (pass : List Step) (passes : List (List Step)) → IsTake item → put_step item ((next ∷ pass) ∷ passes) ≡ (item ∷ next ∷ pass) ∷ passes
put_item item next pass passes is =
    ap (λ b. cond ((b || is_offer item) && not (is_offer next)) ((item ∷ []) ∷ (next ∷ pass) ∷ passes) ((item ∷ next ∷ pass) ∷ passes)) is.turn
    ∙ ap (λ b. cond (b && not (is_offer next)) ((item ∷ []) ∷ (next ∷ pass) ∷ passes) ((item ∷ next ∷ pass) ∷ passes)) is.offer

-- items at the front stand in the first pass
pub items_join : (items : List Step) (step : Step) (log pass : List Step) (later : List (List Step)) → AllByRecursion IsTake items → passes_of (step ∷ log) ≡ (step ∷ pass) ∷ later
    → passes_of (items ++ step ∷ log) ≡ (items ++ step ∷ pass) ∷ later
items_join [] step log pass later all is = is
items_join (item ∷ []) step log pass later all is = ap (put_step item) is ∙ put_item item step pass later all.0
items_join (item ∷ next ∷ items) step log pass later all is =
    ap (put_step item) (items_join (next ∷ items) step log pass later all.1 is) ∙ put_item item next (items ++ step ∷ pass) later all.0

-- items alone are a pass
pub items_alone : (item : Step) (items : List Step) → AllByRecursion IsTake (item ∷ items) → passes_of (item ∷ items) ≡ (item ∷ items) ∷ []
items_alone item [] all = refl
items_alone item (next ∷ items) all = ap (put_step item) (items_alone next items all.1) ∙ put_item item next items [] all.0

-- a turn or an offer takes the offers behind it
pub closes : (step : Step) (log : List Step) → (is_turn step || is_offer step) ≡ true → passes_of (step ∷ log) ≡ (step ∷ offers_of log) ∷ passes_of (behind_offers log)
closes step [] closing = refl
closes step (next ∷ log) closing = at (is_offer next) refl (λ closes_too. closes next log closes_too)
  where
    either : (a b : Bool) → b ≡ true → (a || b) ≡ true
    either true b e = refl
    either false b e = e

    at : (b : Bool) → is_offer next ≡ b → ((is_turn next || is_offer next) ≡ true → passes_of (next ∷ log) ≡ (next ∷ offers_of log) ∷ passes_of (behind_offers log)) → put_step step (passes_of (next ∷ log)) ≡ (step ∷ cond b (next ∷ offers_of log) []) ∷ passes_of (cond b (behind_offers log) (next ∷ log))
    at true offer behind =
        let later = passes_of (behind_offers log) in
        let open_pass : List Step = next ∷ offers_of log in
        ap (put_step step) (behind (either (is_turn next) (is_offer next) offer))
        ∙ ap (λ b. cond (b && not (is_offer next)) ((step ∷ []) ∷ open_pass ∷ later) ((step ∷ open_pass) ∷ later)) closing
        ∙ ap (λ b. cond (not b) ((step ∷ []) ∷ open_pass ∷ later) ((step ∷ open_pass) ∷ later)) offer
    at false other behind =
        let h = begins next log in
        ap (put_step step) h.is
        ∙ ap (λ b. cond (b && not (is_offer next)) ((step ∷ []) ∷ (next ∷ h.pass) ∷ h.later) ((step ∷ next ∷ h.pass) ∷ h.later)) closing
        ∙ ap (λ b. cond (not b) ((step ∷ []) ∷ (next ∷ h.pass) ∷ h.later) ((step ∷ next ∷ h.pass) ∷ h.later)) other
        ∙ sym (ap (λ (l : List (List Step)). (step ∷ []) ∷ l) h.is)
