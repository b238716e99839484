-- What a valid workload says of each of its clients.
use Rattle.std.proofs.Common.{◌≡◌, ℕ, zero, suc, ◌+◌, ◌*◌, ◌<◌, ◌≤◌, true, false, List, [], ◌∷◌, length, map, get_or, Some, None, refl, sym, ap, ◌∙◌, arith}
use Rattle.hs_check_follow.proofs.Prelude.{slice_get, all_at, MAX_OPERATIONS, Operation, PlainWorkload, piece_limit, IsValid, client_pieces, workload_pieces, operations_few}
use Rattle.hs_records.specs.Records.{count_cuts}
use Rattle.hs_records.specs.Validity.{IsClient}

-- what stands at a place of a mapped list
pub get_of_map : {A B : Type 0} (f : A → B) (xs : List A) (i : ℕ) (x : A) → i < length xs → x ≡ get_or xs i x → slice_get (map f xs) i ≡ Some (f x)
get_of_map f [] i x less is = absurd (omega arith)
get_of_map f (y ∷ xs) zero x less is = ap (λ z. Some (f z)) (sym is)
get_of_map f (y ∷ xs) (suc i) x less is = get_of_map f xs i x (omega arith) is

pieces_at : (size : ℕ) (clients : List (List Operation)) (i : ℕ) (ops : List Operation) → slice_get clients i ≡ Some ops → client_pieces size ops ≤ workload_pieces size clients
pieces_at size [] i ops e = let none : None ≡ Some ops = e in absurd cc
pieces_at size (first ∷ clients) zero ops e = let same : first ≡ ops = cc in let h = ap (client_pieces size) same in omega (arith, h)
pieces_at size (first ∷ clients) (suc i) ops e = let h = pieces_at size clients i ops e in omega (arith, h)

module _ (W : PlainWorkload) (valid : IsValid W) (i : ℕ) (ops : List Operation) (at : slice_get W.clients i ≡ Some ops) where
  pub client_is : IsClient W.version W.settings ops
  client_is = all_at (IsClient W.version W.settings) W.clients i ops valid.each at

  pub client_is_few : client_pieces W.settings.size ops ≤ MAX_OPERATIONS
  client_is_few = let h = pieces_at W.settings.size W.clients i ops at in omega (arith, h, valid.few)

  pub client_is_short : length ops ≤ MAX_OPERATIONS
  client_is_short = omega (arith, client_is_few, operations_few W.settings.size ops)
