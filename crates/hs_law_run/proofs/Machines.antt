-- What each round and each pass keeps, the whole schedule keeps.
use Rattle.std.proofs.Common.{ℕ, zero, suc, Bool, true, false, List, [], ◌∷◌, length, fold}
use Rattle.hs_law_run.proofs.Prelude.{range_with_len, PlainWorkload, is_bare, rounds_of, played, Machine, machine_start, client_goes, clients_go, passes, round, rounds, closing, closing_limit}

abbrev pub machine_end : PlainWorkload → Machine
machine_end W = closing (closing_limit W) W (rounds (rounds_of W) W (machine_start W))

module _ (W : PlainWorkload) (P : Machine → Type 0) where
  clients_fold : ((m : Machine) (place : ℕ) → P m → P (client_goes W m place)) → (places : List ℕ) (m : Machine) → P m → P (fold (client_goes W) m places)
  clients_fold goes [] m h = h
  clients_fold goes (place ∷ places) m h = clients_fold goes places (client_goes W m place) (goes m place h)

  pub clients_keep : ((m : Machine) (place : ℕ) → P m → P (client_goes W m place)) → (m : Machine) → P m → P (clients_go W m)
  clients_keep goes m h = clients_fold goes (range_with_len 0 (length W.clients)) m h

  module _ (pass : (m : Machine) → P m → P (passes W m)) where
    closing_case : (n : ℕ) (m : Machine) (b : Bool) → P m → P (closing n W (passes W m)) → P (elim b as (λ _. Machine) [ true ↦ m | false ↦ closing n W (passes W m) ])
    closing_case n m true h k = h
    closing_case n m false h k = k

    pub closing_keeps : (n : ℕ) (m : Machine) → P m → P (closing n W m)
    closing_keeps zero m h = h
    closing_keeps (suc n) m h = closing_case n m (is_bare (played W m.journal)) h (closing_keeps n (passes W m) (pass m h))

  module _ (goes : (m : Machine) → P m → P (clients_go W m)) (pass : (m : Machine) → P m → P (passes W m)) where
    pub rounds_keep : (n : ℕ) (m : Machine) → P m → P (rounds n W m)
    rounds_keep zero m h = h
    rounds_keep (suc n) m h = rounds_keep n (round W m) (pass (clients_go W m) (goes m h))

    pub end_keeps : P (machine_start W) → P (machine_end W)
    end_keeps begin = closing_keeps pass (closing_limit W) (rounds (rounds_of W) W (machine_start W)) (rounds_keep (rounds_of W) (machine_start W) begin)
