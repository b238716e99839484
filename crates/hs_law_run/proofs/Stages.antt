-- Each stage is a machine on its way, and the last one has the schedule's journal.
use Rattle.std.proofs.Common.{◌≡◌, ℕ, zero, suc, ◌+◌, ◌≤◌, Bool, true, false, cond, [], length, map, refl, sym, ap, ◌∙◌, arith, nat_lt, ltb-true, lt-ltb}
use Rattle.hs_law_run.proofs.Prelude.{length-replicate, PlainWorkload, rounds_of, followed, Machine, machine_start, clients_go, pass_steps, give_steps, passes, round, rounds, closing, closing_limit, lockstep, IsReached}
use Rattle.hs_law_run.specs.Ending.{behind_rounds, passed}
use Rattle.hs_law_run.specs.Reaching as reaching
use Rattle.hs_law_run.specs.Told.{stage, gone}
use Rattle.hs_law_run.proofs.Ending.{rounds_last, Closes, closes}
use Rattle.hs_law_run.proofs.ExtendedLists.{length_extended}
use Rattle.hs_law_run.proofs.Standing.{machines_lead_on, pass_on}

-- what any machine on its way has as many of as the settings say
pub record IsShaped (W : PlainWorkload) (m : Machine) : Type 0 where
  pub nodes : m.journal.nodes ≡ W.settings.nodes
  pub clients : m.journal.clients ≡ W.settings.clients
  pub logs : length m.journal.logs ≡ W.settings.nodes

pub shaped : (W : PlainWorkload) (m : Machine) → IsReached W m → IsShaped W m
shaped W m reaching.Starts = record { nodes = refl; clients = refl; logs = length-replicate W.settings.nodes [] }
shaped W m (reaching.Goes n place low r) = let s = shaped W n r in record { nodes = s.nodes; clients = s.clients; logs = s.logs }
shaped W m (reaching.Takes n r) =
    let s = shaped W n r in
    record { nodes = s.nodes; clients = s.clients; logs = length_extended n.journal.logs (map (pass_steps W n (followed W n.journal)) (followed W n.journal).nodes) ∙ s.logs }
shaped W m (reaching.Gives n r) =
    let s = shaped W n r in record { nodes = s.nodes; clients = s.clients; logs = length_extended n.journal.logs (map give_steps (followed W n.journal).nodes) ∙ s.logs }
shaped W m (reaching.Hears n r) = let s = shaped W n r in record { nodes = s.nodes; clients = s.clients; logs = s.logs }

module _ (W : PlainWorkload) where
  gone_case : (b : Bool) (m : Machine) → IsReached W m → IsReached W (cond b (clients_go W m) m)
  gone_case true m r = ((machines_lead_on W).each m r).clients
  gone_case false m r = r

  pub reached : (k : ℕ) → IsReached W (stage W k)
  reached zero = reaching.Starts
  reached (suc k) = pass_on W (gone W k) (gone_case (nat_lt k (rounds_of W)) (stage W k) (reached k))

  pub gone_reached : (k : ℕ) → IsReached W (gone W k)
  gone_reached k = gone_case (nat_lt k (rounds_of W)) (stage W k) (reached k)

  pub stage_is_round : (k : ℕ) → k ≤ rounds_of W → stage W k ≡ rounds k W (machine_start W)
  stage_is_round zero low = refl
  stage_is_round (suc k) low =
      ap (λ b. passes W (cond b (clients_go W (stage W k)) (stage W k))) (lt-ltb k (rounds_of W) (omega (arith, low)))
      ∙ ap (round W) (stage_is_round k (omega (arith, low)))
      ∙ sym (rounds_last W k (machine_start W))

  stage_is_passed : (n : ℕ) → stage W (rounds_of W + n) ≡ passed n W (behind_rounds W)
  stage_is_passed zero = let e : rounds_of W + 0 ≡ rounds_of W = omega arith in ap (stage W) e ∙ stage_is_round (rounds_of W) (omega arith)
  stage_is_passed (suc n) =
      (let e : rounds_of W + suc n ≡ suc (rounds_of W + n) = omega arith in ap (stage W) e)
      ∙ ap (λ b. passes W (cond b (clients_go W (stage W (rounds_of W + n))) (stage W (rounds_of W + n)))) (late (nat_lt (rounds_of W + n) (rounds_of W)) refl)
      ∙ ap (passes W) (stage_is_passed n)
    where
      late : (b : Bool) → nat_lt (rounds_of W + n) (rounds_of W) ≡ b → nat_lt (rounds_of W + n) (rounds_of W) ≡ false
      late true e = let low = ltb-true (rounds_of W + n) (rounds_of W) e in absurd (omega (arith, low))
      late false e = e

  -- behind so many passes the schedule is over
  pub record IsOver : Type 0 where
    pub count : ℕ
    pub enough : rounds_of W ≤ count
    pub is : lockstep W ≡ (stage W count).journal

  pub is_over : IsOver
  is_over =
      let c : Closes W (behind_rounds W) (closing_limit W) (closing (closing_limit W) W (behind_rounds W)) = closes W (behind_rounds W) (closing_limit W) (closing_limit W) 0 (omega arith) (λ n low. absurd (omega (arith, low))) in
      record { count = rounds_of W + c.count; enough = omega arith; is = ap (λ (m : Machine). m.journal) (c.is ∙ sym (stage_is_passed c.count)) }
