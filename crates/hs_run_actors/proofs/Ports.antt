-- The receivers of a port as lines.
use Rattle.std.proofs.Common.{◌≡◌, ℕ, zero, suc, ◌-◌, ◌≤◌, List, [], ◌∷◌, length, map, Option, Some, None, refl, sym, ap, ◌∙◌, arith, length-take}
use Rattle.hs_run_actors.proofs.Prelude.{slice_set, same_Some, Incoming, Key, IsEnd, Intake, linked, HandsAt, IsIntakeAt}
use Rattle.hs_live.specs.Live.{ReceivesAt}

module _ {T : Type 0} where
  abbrev pub lined : List (Incoming T Key) → List (Intake T)
  lined receivers = map (λ (r : Incoming T Key). linked r) receivers

  pub line_at : (receivers : List (Incoming T Key)) (client : ℕ) (r : Incoming T Key) → IsEnd client receivers r → IsIntakeAt client (lined receivers) (linked r)
  line_at [] client r at = let none : None ≡ Some r = at in absurd cc
  line_at (q ∷ receivers) zero r at = ap (λ (x : Incoming T Key). Some (linked x)) (same_Some q r at)
  line_at (q ∷ receivers) (suc client) r at = line_at receivers client r at

  -- and the other way round
  pub end_at : (receivers : List (Incoming T Key)) (client : ℕ) (l : Intake T) → IsIntakeAt client (lined receivers) l → (r : Incoming T Key) × IsEnd client receivers r × (l ≡ linked r)
  end_at [] client l at = let none : None ≡ Some l = at in absurd cc
  end_at (q ∷ receivers) zero l at = (q, refl, sym (same_Some (linked q) l at))
  end_at (q ∷ receivers) (suc client) l at = end_at receivers client l at

  lined_set : (receivers : List (Incoming T Key)) (client : ℕ) (r : Incoming T Key) → lined (slice_set receivers client r) ≡ slice_set (lined receivers) client (linked r)
  lined_set [] client r = refl
  lined_set (q ∷ receivers) zero r = refl
  lined_set (q ∷ receivers) (suc client) r = ap (λ (l : List (Intake T)). linked q ∷ l) (lined_set receivers client r)

  pub hands_so : (receivers receivers' : List (Incoming T Key)) (client : ℕ) (item : Option T) → ReceivesAt client receivers item receivers' → HandsAt client (lined receivers) item (lined receivers')
  hands_so receivers receivers' client (Some item) h =
      (linked h.0, linked h.1, line_at receivers client h.0 h.2, ap lined h.3 ∙ lined_set receivers client h.1, (h.4, h.5))
  hands_so receivers receivers' client None h =
      let count : length h.0.told ≤ length h.0.received = (let e = ap length h.3 in let t = length-take (length h.0.told) h.0.received in omega (arith, e, t)) in
      let none : length h.0.told - length h.0.received ≡ 0 = omega (arith, count) in
      (linked h.0, line_at receivers client h.0 h.1, ap lined h.2, none)
