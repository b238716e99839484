-- What the windows say of the list of all samples.
use Rattle.std.proofs.Common.{◌≡◌, ℕ, zero, suc, ◌≤◌, List, [], ◌∷◌, take, refl, ap, ◌∙◌, arith}
use Rattle.hs_base.specs.declared.limits.TheConstants.{MAX_WINDOW, MAX_LATERALS}
use Rattle.hs_base.specs.declared.ids.TraceId.{TraceId}
use Rattle.hs_base.specs.declared.settings.AutoRule.{AutoRule}
use Rattle.hs_base.specs.declared.settings.AutoRule.TheVariants.{Exception, Percentile, Category, Queue}
use Rattle.hs_auto.specs.Firing.{Sample, traces_of, without, distinct, laterals_after}
use Rattle.hs_auto.specs.Watching.{window_of, reach_of}
use Rattle.hs_base.specs.Rules.{IsAutoRule}
use Rattle.hs_auto.specs.Rooms.{ranked_of, counted_of, looked_at}

take_less : {X : Type 0} (n : ℕ) (xs : List X) → take n (take (suc n) xs) ≡ take n xs
take_less zero xs = refl
take_less (suc n) [] = refl
take_less (suc n) (y ∷ xs) = ap (λ ys. y ∷ ys) (take_less n xs)

-- the front of a list with one more element
pub take_joined : {X : Type 0} (n : ℕ) (x : X) (xs : List X) → take n (x ∷ take n xs) ≡ take n (x ∷ xs)
take_joined zero x xs = refl
take_joined (suc n) x xs = ap (λ ys. x ∷ ys) (take_less n xs)

-- the values that the rule looks at, with one more
pub looked_joined : (rule : AutoRule) (ranked counted : List ℕ) (v : ℕ) (xs : List ℕ) → looked_at rule ranked counted ≡ take (window_of rule) xs
    → looked_at rule (take (ranked_of rule) (v ∷ ranked)) (take (counted_of rule) (v ∷ counted)) ≡ take (window_of rule) (v ∷ xs)
looked_joined (Exception trigger) ranked counted v xs at = refl
looked_joined (Percentile trigger window share) ranked counted v xs at = ap (λ ys. take window (v ∷ ys)) at ∙ take_joined window v xs
looked_joined (Category trigger window share) ranked counted v xs at = ap (λ ys. take window (v ∷ ys)) at ∙ take_joined window v xs
looked_joined (Queue trigger window share laterals) ranked counted v xs at = ap (λ ys. take window (v ∷ ys)) at ∙ take_joined window v xs

-- the limits bound the windows and the laterals
pub small_rooms : (rule : AutoRule) → IsAutoRule rule → (ranked_of rule ≤ MAX_WINDOW) × (counted_of rule ≤ MAX_WINDOW) × (reach_of rule ≤ MAX_LATERALS)
small_rooms (Exception trigger) limits = (omega arith, omega arith, omega arith)
small_rooms (Percentile trigger window share) limits = (limits.0.1, omega arith, omega arith)
small_rooms (Category trigger window share) limits = (omega arith, limits.0.1, omega arith)
small_rooms (Queue trigger window share laterals) limits = (limits.0.1, omega arith, limits.2.1)

-- the recent traces but the sample's own, each once
pub laterals_are : (rule : AutoRule) (samples : List Sample) (trace : TraceId) (recent : List TraceId) → recent ≡ take (reach_of rule) (traces_of samples)
    → without trace (distinct recent) ≡ laterals_after rule samples trace
laterals_are (Exception trigger) samples trace recent are = ap (λ xs. without trace (distinct xs)) are
laterals_are (Percentile trigger window share) samples trace recent are = ap (λ xs. without trace (distinct xs)) are
laterals_are (Category trigger window share) samples trace recent are = ap (λ xs. without trace (distinct xs)) are
laterals_are (Queue trigger window share laterals) samples trace recent are = ap (λ xs. without trace (distinct xs)) are
