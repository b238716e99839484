-- Clients that are taken apart, one after another.
use Rattle.std.proofs.Common.{◌≡◌, ℕ, zero, suc, ◌<◌, List, [], ◌∷◌, ◌++◌, length, map, get_or, sym, ap, ◌∙◌, subst, arith}
use Rattle.hs_run_actors.proofs.Prelude.{map-append, AllByRecursion, PlainClientBook, PlainClientActor, AreNotes, Notes}

pub all_at : {A : Type 0} (P : A → Type 0) (xs : List A) (place : ℕ) (x : A) → AllByRecursion P xs → (place < length xs) × (x ≡ get_or xs place x) → P x
all_at P [] place x all at = absurd (omega (arith, at.0))
all_at P (y ∷ xs) zero x all at = subst P (sym at.1) all.0
all_at P (y ∷ xs) (suc place) x all at = all_at P xs place x all.1 (omega (arith, at.0), at.1)

pub one_noted : (callers : List PlainClientActor) (books : List PlainClientBook) (caller : PlainClientActor) (book : PlainClientBook) → AreNotes callers books → Notes caller book → AreNotes (callers ++ caller ∷ []) (books ++ book ∷ [])
one_noted [] [] caller book are notes = (notes, tt)
one_noted [] (b ∷ books) caller book are notes = absurd are
one_noted (c ∷ callers) [] caller book are notes = absurd are
one_noted (c ∷ callers) (b ∷ books) caller book are notes = (are.0, one_noted callers books caller book are.1 notes)

-- a list that is read off the clients, with one more
pub one_more : {B : Type 0} (f : PlainClientActor → B) (callers : List PlainClientActor) (caller : PlainClientActor) (items : List B) (item : B) (new : List B) → new ≡ items ++ item ∷ [] → items ≡ map f callers → item ≡ f caller → new ≡ map f (callers ++ caller ∷ [])
one_more f callers caller items item new is were here =
    is ∙ ap (λ (l : List _). l ++ item ∷ []) were ∙ ap (λ (x : _). map f callers ++ x ∷ []) here ∙ sym (map-append f callers (caller ∷ []))
