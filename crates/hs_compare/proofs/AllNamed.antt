-- Each claimed trace is named: agents claim what triggers name, and triggers are named in their clients' turns.
use Rattle.std.proofs.Common.{List, [], ◌∷◌}
use Rattle.hs_compare.proofs.Prelude.{AllByRecursion, flat_map, all_each, all_append, all_map, is_among, ClaimedTrace, AllTriggersAreSent, ClaimsOnly, ClaimsAreOfWhatIsBrought, NodeRun, followed, claimed_at, named_in, ClaimedTracesAreNamed}
use Rattle.hs_law_agent.specs.Bringing.{IsClaimOf}
use Rattle.hs_law_journal.specs.Orders.{FollowingPlaysOut}
use Rattle.hs_compare.proofs.Claimed.{rising_all}
use Rattle.hs_compare.proofs.Naming.{Among}
use Rattle.hs_compare.proofs.Performing.{all_claim_only}
use Rattle.hs_compare.proofs.Sent.{trigger_named}

flat_of : {X Y : Type 0} (P : Y → Type 0) (R : X → Type 0) (f : X → List Y) (xs : List X) → ((x : X) → R x → AllByRecursion P (f x)) → AllByRecursion R xs → AllByRecursion P (flat_map f xs)
flat_of P R f [] each all = tt
flat_of P R f (x ∷ xs) each all = all_append P (f x) (flat_map f xs) (each x all.0) (flat_of P R f xs each all.1)

pub claimed_traces_are_named : FollowingPlaysOut → AllTriggersAreSent → ClaimsAreOfWhatIsBrought → ClaimedTracesAreNamed
claimed_traces_are_named plays sent claims W J some =
    let named = named_in W in
    rising_all (Among named) (flat_map claimed_at (followed W J).nodes)
    (flat_of (Among named) (λ (run : NodeRun). ClaimsOnly (is_among named) run.state) claimed_at (followed W J).nodes
    (λ run only.
    all_map (Among named) (λ (claim : ClaimedTrace). claim.trace) run.state.claims
    (all_each (IsClaimOf (is_among named)) (λ (claim : ClaimedTrace). Among named claim.trace) run.state.claims (λ claim is. is.trace) only.claims))
    (all_claim_only W J (is_among named) (λ place item there. trigger_named sent W some place item there) claims (followed W J) (plays W J).leads))
