-- Lists of which an item was lent and written.
use Rattle.std.proofs.Common.{◌≡◌, ℕ, ◌<◌, List, length, get_or, Some, sym, ap, ◌∙◌}
use Rattle.hs_check_follow.proofs.Prelude.{slice_get-get_or, slice_get}

module _ {A : Type 0} where
  -- the item at an index
  pub indexed : (items : List A) (place : ℕ) (x : A) → place < length items → x ≡ get_or items place x → slice_get items place ≡ Some x
  indexed items place x within e = slice_get-get_or items place x within ∙ ap (λ (y : A). Some y) (sym e)
