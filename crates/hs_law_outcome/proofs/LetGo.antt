-- What was given back is among what was let go, where each chunk stands once.
use Rattle.std.proofs.Common.{◌≡◌, ℕ, ◌≤◌, Bool, true, false, cond, List, [], ◌∷◌, ◌++◌, refl, ap, arith, map, eq-eqb}
use Rattle.hs_law_outcome.proofs.Prelude.{AllByRecursion, one_if, all_each, count_of, PlacesMatch, stands, AgentState, GivenPlace, NodeRun, followed, KeepsItsModel, AgentsKeepTheirModel}
use Rattle.hs_base.proofs.Counts.{one_few}
use Rattle.hs_law_agent.specs.Laws.{given_places}
use Rattle.hs_law_agent.specs.Standings.{is_let_go}
use Rattle.hs_law_agent.proofs.Counts.{count-append}
use Rattle.hs_law_outcome.specs.Causes.{GaveWhatWasLetGo, GivenWereLetGo}

there_case : (b : Bool) (n : ℕ) → n ≤ cond b 1 0 → 1 ≤ n → b ≡ true
there_case true n most some = refl
there_case false n most some = absurd (omega (arith, most, some))

-- each of these gives stands among all of them
counted : (front given : List GivenPlace) (P : GivenPlace → Type 0) → ((g : GivenPlace) → 1 ≤ count_of (map (λ (g : GivenPlace). g.place) (front ++ given)) g.place → P g) → AllByRecursion P given
counted front [] P on = tt
counted front (g ∷ given) P on =
    (on g (here front), counted (front ++ g ∷ []) given P (λ h some. on h (moved h some)))
  where
    here : (front : List GivenPlace) → 1 ≤ count_of (map (λ (g : GivenPlace). g.place) (front ++ g ∷ given)) g.place
    here [] = let own = ap one_if (eq-eqb g.place g.place refl) in omega (arith, own)
    here (f ∷ front) = let rest = here front in omega (arith, rest)

    assoc : (front : List GivenPlace) → (front ++ g ∷ []) ++ given ≡ front ++ g ∷ given
    assoc [] = refl
    assoc (f ∷ front) = ap (λ rest. f ∷ rest) (assoc front)

    moved : (h : GivenPlace) → 1 ≤ count_of (map (λ (g : GivenPlace). g.place) ((front ++ g ∷ []) ++ given)) h.place → 1 ≤ count_of (map (λ (g : GivenPlace). g.place) (front ++ g ∷ given)) h.place
    moved h some = let same = ap (λ (all : List GivenPlace). count_of (map (λ (g : GivenPlace). g.place) all) h.place) (assoc front) in omega (arith, some, same)

let_go : (state : AgentState) → PlacesMatch state → GaveWhatWasLetGo state
let_go state m =
    record {
      let_go =
          counted [] state.given (λ (g : GivenPlace). stands is_let_go state.taken g.place ≡ true)
          (λ g some.
          let each = m.gone_each g.place in
          let both = count-append (given_places state) state.hand g.place in
          there_case (stands is_let_go state.taken g.place) (count_of (given_places state) g.place) (omega (arith, each, both)) some);
      once = λ place.
          let each = m.gone_each place in
          let both = count-append (given_places state) state.hand place in
          let few = one_few (stands is_let_go state.taken place) in
          omega (arith, each, both, few);
    }

pub given_were_let_go : AgentsKeepTheirModel → GivenWereLetGo
given_were_let_go keep W J = all_each (KeepsItsModel W.settings) (λ (run : NodeRun). GaveWhatWasLetGo run.state) (followed W J).nodes (λ run k. let_go run.state k.lists) (keep W J)
