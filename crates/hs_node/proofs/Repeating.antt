-- Parts that are made one after another.
use Rattle.std.proofs.Common.{◌≡◌, ℕ, suc, ◌+◌, ◌≤◌, true, false, inl, inr, Some, refl, ap, subst, arith}
use Rattle.std.specs.Prelude.{Bool}
use Rattle.hs_ring.specs.Parts.{Leased}
use Rattle.hs_agent.specs.Runs.{AgentRun}
use Rattle.hs_intake.specs.Intakes.{PlainIntake, Stands}
use Rattle.hs_node.specs.Nodes.{PlainNode}
use Rattle.hs_claimed.specs.declared.answers.StatedClaim.{StatedClaim}
use Rattle.hs_claimed.specs.Claims.{current}
use Rattle.hs_node.specs.Told.{node_standing}
use Rattle.hs_intake.specs.declared.took.Stated.{Stated}
use Rattle.hs_intake.specs.declared.took.Stated.TheVariants as stated
use Rattle.hs_intake.specs.Taking.{StatesIt}
use Rattle.hs_node.specs.Passing.{Doing, Each, Until, StatesNext, is_stated}

pub each_more : (part : ℕ → Doing) (run : AgentRun Leased) (count : ℕ) (old mid new : PlainNode) → Each part count run old mid → ((later : AgentRun Leased) → Stands later mid.intake → part count later mid new)
    → Each part (count + 1) run old new
each_more part run count old mid new does next =
    let same : suc count ≡ count + 1 = omega arith in
    subst (λ (n : ℕ). Each part n run old new) same (record { mid = mid; does = does; next = next })

pub until_stop : (part : Bool → Doing) (most : ℕ) (run : AgentRun Leased) (count : ℕ) (old mid new : PlainNode) → count ≤ most → Each (λ n. part true) count run old mid
    → ((later : AgentRun Leased) → Stands later mid.intake → part false later mid new) → Until part most run old new
until_stop part most run count old mid new few does ends = record { count = count; few = few; mid = mid; does = does; ends = inr ends }

pub until_full : (part : Bool → Doing) (most : ℕ) (run : AgentRun Leased) (count : ℕ) (old new : PlainNode) → count ≡ most → Each (λ n. part true) count run old new → Until part most run old new
until_full part most run count old new full does = record { count = count; few = (omega (arith, full)); mid = new; does = does; ends = inl (full, refl) }

-- a standing of the claim that is looked at is said, is no news, or waits
pub stated_next : (run : AgentRun Leased) (old : PlainNode) (claim : StatedClaim) (did : Stated) (intake : PlainIntake) → current old.intake.claims ≡ Some claim
    → StatesIt old.intake (node_standing old.notes old.intake.claims claim) did intake → StatesNext (is_stated did) run old (record old { intake = intake })
stated_next run old claim stated.Said intake at states = (claim, stated.Said, refl, at, states, refl)
stated_next run old claim stated.Known intake at states = (claim, stated.Known, refl, at, states, refl)
stated_next run old claim (stated.Waits fault) intake at states =
    (ap (λ (d : PlainIntake). record old { intake = d }) states.1.0, inr (claim, fault, at, states))
