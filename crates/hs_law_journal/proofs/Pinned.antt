-- What is pinned can be reported: its trace was claimed for a declared trigger id, which has a share, and the budget of a share pays for a page.
use Rattle.std.proofs.Common.{◌≡◌, ℕ, ◌+◌, ◌≤◌, Bool, true, false, cond, List, ◌∷◌, refl, sym, ap, subst, ◌∙◌, Option, Some, None, arith, option_map, slice_get, find, eq-eqb}
use Rattle.hs_law_journal.proofs.Prelude.{AllByRecursion, option_map_or, all_at, option_unmap, slice_get-map, is_declared, Sheet, AgentState, PlainSettings}
use Rattle.hs_base.specs.Ids.{same_trace}
use Rattle.hs_base.specs.declared.told.Group.{Group}
use Rattle.hs_law_agent.specs.Laws.{AllStandByClaim, CanReport, claiming_group, count_of, PlacesMatch, sheets_of, StandsByClaim}
use Rattle.hs_law_agent.specs.Standings.{ChunkStanding, Indexed, Pinned, Reported, Evicted, Abandoned, Taken, trace_of, stands, is_pinned}
use Rattle.hs_law_agent.specs.State.{ClaimedTrace}
use Rattle.hs_law_agent.specs.Turning.{is_pinned_under, used_at}
use Rattle.hs_base.proofs.Alls.{all_find}
use Rattle.hs_base.proofs.Numbers.{mul_at_least}
use Rattle.hs_words.specs.Chunks.{used_of}
use Rattle.hs_law_journal.proofs.Shares.{AreOfRules, HaveWeights, share_found, shares_pay}

-- no page of a chunk has more than the size
used_few : (size : ℕ) (taken : List Taken) → ((place : ℕ) (sheet : Sheet) → slice_get (sheets_of taken) place ≡ Some sheet → used_of sheet ≤ size) → (place : ℕ) → used_at taken place ≤ size
used_few size taken fit place = either (slice_get taken place) refl
  where
    either : (o : Option Taken) → slice_get taken place ≡ o → option_map_or (λ (chunk : Taken). used_of chunk.sheet) o 0 ≤ size
    either None e = omega arith
    either (Some chunk) e = fit place chunk.sheet (slice_get-map (λ (chunk : Taken). chunk.sheet) taken place ∙ ap (option_map (λ (chunk : Taken). chunk.sheet)) e)

stands_there : (b : Bool) (n : ℕ) → n ≡ cond b 1 0 → 1 ≤ n → b ≡ true
stands_there true n e some = refl
stands_there false n e some = absurd (omega (arith, e, some))

record IsPinnedAt (taken : List Taken) (place : ℕ) : Type 0 where
  chunk : Taken
  group : Group
  there : slice_get taken place ≡ Some chunk
  standing : chunk.standing ≡ Pinned group

pinned_at : (taken : List Taken) (place : ℕ) → stands is_pinned taken place ≡ true → IsPinnedAt taken place
pinned_at taken place h = either (slice_get taken place) refl h
  where
    by_standing : (chunk : Taken) (s : ChunkStanding) → slice_get taken place ≡ Some chunk → chunk.standing ≡ s → is_pinned s ≡ true → IsPinnedAt taken place
    by_standing chunk Indexed e is h = let never : false ≡ true = h in absurd cc
    by_standing chunk (Pinned group) e is h = record { chunk = chunk; group = group; there = e; standing = is }
    by_standing chunk (Reported group) e is h = let never : false ≡ true = h in absurd cc
    by_standing chunk (Evicted a b) e is h = let never : false ≡ true = h in absurd cc
    by_standing chunk (Abandoned group) e is h = let never : false ≡ true = h in absurd cc

    either : (o : Option Taken) → slice_get taken place ≡ o → option_map_or (λ (chunk : Taken). is_pinned chunk.standing) o false ≡ true → IsPinnedAt taken place
    either None e h = let never : false ≡ true = h in absurd cc
    either (Some chunk) e h = by_standing chunk chunk.standing e refl h

pinned_under : (taken : List Taken) (place id : ℕ) (p : IsPinnedAt taken place) → p.group.trigger.0 ≡ id → stands (is_pinned_under id) taken place ≡ true
pinned_under taken place id p same = ap (λ o. option_map_or (λ (chunk : Taken). is_pinned_under id chunk.standing) o false) p.there ∙ ap (is_pinned_under id) p.standing ∙ eq-eqb p.group.trigger.0 id same

-- each claim is of a declared trigger id
abbrev pub AreDeclared : PlainSettings → List ClaimedTrace → Type 0
AreDeclared settings claims = AllByRecursion (λ (claim : ClaimedTrace). is_declared settings.triggers claim.group.trigger ≡ true) claims

module _ (settings : PlainSettings) (state : AgentState) (weights : HaveWeights settings.triggers) (places : PlacesMatch state) (stand : AllStandByClaim state.claims state.taken) (claims : AreDeclared settings state.claims)
    (shares : AreOfRules state.shares settings.triggers) (fit : (place : ℕ) (sheet : Sheet) → slice_get (sheets_of state.taken) place ≡ Some sheet → used_of sheet ≤ settings.size)
  where
    claim_declared : (chunk : Taken) (group : Group) → claiming_group state.claims (trace_of chunk) ≡ Some group → is_declared settings.triggers group.trigger ≡ true
    claim_declared chunk group h =
        let of_trace = λ (claim : ClaimedTrace). same_trace (trace_of chunk) claim.trace in
        let m = option_unmap (λ (claim : ClaimedTrace). claim.group) (find of_trace state.claims) group h in
        let declared = all_find (λ (claim : ClaimedTrace). is_declared settings.triggers claim.group.trigger ≡ true) of_trace state.claims m.0 claims m.1 in
        subst (λ (group : Group). is_declared settings.triggers group.trigger ≡ true) m.2 declared

    pub can_report : (place : ℕ) (others : List ℕ) → state.pinned ≡ place ∷ others → CanReport settings state
    can_report place others e =
        let count = ap (λ (ps : List ℕ). count_of ps place) e in
        let here = ap (λ b. cond b 1 0 + count_of others place) (eq-eqb place place refl) in
        let stood = stands_there (stands is_pinned state.taken place) (count_of state.pinned place) (places.pinned_each place) (omega (arith, count, here)) in
        let p = pinned_at state.taken place stood in
        let by_claim = all_at (λ (chunk : Taken). StandsByClaim state.claims (trace_of chunk) chunk.standing) state.taken place p.chunk stand p.there in
        let claimed : claiming_group state.claims (trace_of p.chunk) ≡ Some p.group = subst (λ (s : ChunkStanding). StandsByClaim state.claims (trace_of p.chunk) s) p.standing by_claim in
        let s = share_found p.group.trigger state.shares settings.triggers shares (claim_declared p.chunk p.group claimed) in
        record {
          place = place;
          pin = 0;
          pinned = ap (λ (ps : List ℕ). slice_get ps 0) e;
          share = s.share;
          at = s.at;
          shared = s.there;
          under = pinned_under state.taken place s.share.trigger.0 p (sym s.own);
          cheap =
              shares_pay (λ (budget : ℕ). (place : ℕ) → used_at state.taken place ≤ budget) settings.size state.shares settings.triggers shares weights
              (λ share some place.
              let few = used_few settings.size state.taken fit place in
              let page = mul_at_least share.weight settings.size some in
              omega (arith, few, page));
        }
