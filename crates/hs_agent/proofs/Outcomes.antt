-- What is known of an outcome.
use Rattle.std.proofs.Common.{◌≡◌, Bool, true, false, not, Option, Some, None, refl, sym, ap, ◌∙◌}
use Rattle.hs_agent.proofs.Prelude.{Result, Ok, Err, OnOk, option_map, is_some, true≢false}

-- what was looked up
pub none_mapped : {A B : Type 0} (f : A → B) (o : Option A) (r : Option B) → r ≡ option_map f o → is_some r ≡ false → o ≡ None
none_mapped f None r e h = refl
none_mapped f (Some x) r e h = let no : true ≡ false = sym (ap is_some e) ∙ h in cc

pub some_mapped : {A B : Type 0} (f : A → B) (o : Option A) (r : Option B) → r ≡ option_map f o → is_some r ≡ true → (x : A) × (o ≡ Some x)
some_mapped f None r e h = let no : false ≡ true = sym (ap is_some e) ∙ h in cc
some_mapped f (Some x) r e h = (x, refl)

pub on_ok_both : {A E : Type 0} {P Q R : Type 0} (r : Result A E) → OnOk r P → OnOk r Q → (P → Q → R) → OnOk r R
on_ok_both (Ok x) p q f = f p q
on_ok_both (Err e) p q f = tt

pub not_false : (b : Bool) → false ≡ not b → b ≡ true
not_false true e = refl
not_false false e = cc

pub not_true : (b : Bool) → true ≡ not b → b ≡ false
not_true true e = cc
not_true false e = refl

pub of_some : {A : Type 0} (o : Option A) → is_some o ≡ true → (x : A) × (o ≡ Some x)
of_some None h = absurd (true≢false (sym h))
of_some (Some x) h = (x, refl)
