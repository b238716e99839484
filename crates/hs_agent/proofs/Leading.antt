-- What is first in the hand is first in the model's hand, as it came last; and it stands there by why it left.
use Rattle.std.proofs.Common.{◌≡◌, ◌≢◌, ℕ, Bool, false, ◌||◌, List, [], ◌∷◌, ◌++◌, map, Option, Some, None, slice_get, refl, sym, ap, subst, ◌∙◌}
use Rattle.hs_agent.proofs.Prelude.{AllByRecursion, option_map, option_map_or, option_and_then, option_to_list, slice_get-map, ne_eqb, all_back, IsInOnePlace, Taken, ChunkStanding, Pinned, is_among, Left, ChunkNote, AreLeft, left_at, left_of, mark_of, standing_of, Placed, place_of, IsKept, HasPage, Kept, Holds, point_of, AgentRun, state_of, unoffered, waiting_chunks}
use Rattle.hs_words.specs.Chunks.{Contents}
use Rattle.hs_law_agent.specs.Standings.{Indexed}
use Rattle.hs_law_agent.specs.Standings as standings
use Rattle.hs_agent.specs.Offering.{Leads}
use Rattle.hs_agent.specs.Firsts.{IsFirst}
use Rattle.hs_agent.proofs.Offered.{in_hand}
use Rattle.hs_agent.proofs.OwnPlaces.{apart_from_first}

-- what is noted of a chunk says how it stands
stood : (standing : ChunkStanding) (left : Left) → left_of standing ≡ Some left → standing ≡ standing_of left
stood Indexed left e = cc
stood (Pinned group) left e = cc
stood (standings.Reported group) left e = same left e
  where
    same : (l : Left) → left_of (standings.Reported group) ≡ Some l → standings.Reported group ≡ standing_of l
    same l f = subst (λ (o : Option Left). standings.Reported group ≡ option_map_or standing_of o Indexed) f refl
stood (standings.Evicted chunks traces) left e = subst (λ (o : Option Left). standings.Evicted chunks traces ≡ option_map_or standing_of o Indexed) e refl
stood (standings.Abandoned group) left e = subst (λ (o : Option Left). standings.Abandoned group ≡ option_map_or standing_of o Indexed) e refl

noted : (taken : List Taken) (place : ℕ) (left : Left) → left_at (map mark_of taken) place ≡ Some left → option_map (λ (chunk : Taken). chunk.standing) (slice_get taken place) ≡ Some (standing_of left)
noted taken place left e =
    by (slice_get taken place) (ap (option_and_then (λ (mark : ChunkNote). mark.left)) (sym (slice_get-map mark_of taken place)) ∙ e)
  where
    by : (o : Option Taken) → option_and_then (λ (mark : ChunkNote). mark.left) (option_map mark_of o) ≡ Some left → option_map (λ (chunk : Taken). chunk.standing) o ≡ Some (standing_of left)
    by None f = cc
    by (Some chunk) f = ap Some (stood chunk.standing left f)

outside : {L : Type 0} → (place : ℕ) (others : List (Placed L)) → AllByRecursion (λ (other : Placed L). place ≢ place_of other) others → is_among (map place_of others) place ≡ false
outside place [] apart = refl
outside place (other ∷ others) apart =
    ap (λ b. b || is_among (map place_of others) place) (ne_eqb (place_of other) place (λ e. apart.0 (sym e))) ∙ outside place others apart.1

module _ {L : Type 0} (kept : Kept L) (run : AgentRun L) (h : Holds kept (point_of run)) (one : (place : ℕ) → IsInOnePlace (state_of run) place) (none : run.offered ≡ None) where
  pub none_there : kept.hand ≡ [] → (state_of run).hand ≡ []
  none_there empty = sym (in_hand kept (point_of run) h one none) ∙ ap (map place_of) empty

  module _ (chunk : Contents) (lease : L) (left : Left) (again : Bool) (leads : Leads kept chunk lease left again) where
    abbrev place : ℕ
    place = place_of leads.first

    its : (P : Placed L → Type 0) → AllByRecursion P kept.hand → P leads.first
    its P all = (subst (AllByRecursion P) leads.is all).0

    kept_first : IsKept run.buffers leads.first
    kept_first = its (IsKept run.buffers) (all_back (IsKept run.buffers) (waiting_chunks kept h.memory.pinned) kept.hand h.each)

    as_it_came : slice_get run.buffers place ≡ Some (record { chunk = chunk; lease = lease })
    as_it_came = kept_first ∙ (λ i. Some (record { chunk = sym leads.chunk_is i; lease = sym leads.lease_is i }))

    out : kept.offered ≡ None
    out = h.offered ∙ none

    are_left : AreLeft kept.standings (place ∷ map place_of leads.others) (left ∷ leads.lefts)
    are_left =
        subst (λ ls. AreLeft kept.standings (place ∷ map place_of leads.others) ls) (leads.left_is out)
        (subst (λ (hand : List (Placed L)). AreLeft kept.standings (map place_of hand) kept.lefts) leads.is
        (subst (λ o. AreLeft kept.standings (option_to_list o ++ map place_of kept.hand) kept.lefts) out h.lefts))

    apart : is_among (map place_of leads.others) place ≡ false
    apart =
        outside place leads.others
        (all_back (λ (other : Placed L). place ≢ place_of other) (waiting_chunks kept h.memory.pinned) leads.others (apart_from_first kept (point_of run) h one leads.first leads.others leads.is))

    its_page : again ≡ false → chunk.page ≡ option_map (λ (taken : Taken). taken.sheet) (slice_get (state_of run).taken place)
    its_page never =
        let whole : AllByRecursion (HasPage run.settings (state_of run).taken) kept.hand =
        subst (λ (b : Bool). AllByRecursion (HasPage run.settings (state_of run).taken) (unoffered None b kept.hand)) (sym leads.again_is ∙ never)
        (subst (λ o. AllByRecursion (HasPage run.settings (state_of run).taken) (unoffered o kept.again kept.hand)) out h.untouched) in
        let page = its (HasPage run.settings (state_of run).taken) whole in
        ap (λ (c : Contents). c.page) leads.chunk_is ∙ page.page ∙ sym (ap (option_map (λ (taken : Taken). taken.sheet)) page.at)

    pub is_first : IsFirst run chunk lease left again
    is_first = record {
      place = place;
      first = ap (λ l. slice_get l 0) (sym (in_hand kept (point_of run) h one none)) ∙ ap (λ (hand : List (Placed L)). slice_get (map place_of hand) 0) leads.is;
      buffer = as_it_came;
      stands = noted (state_of run).taken place left (ap (λ marks. left_at marks place) (sym h.standings) ∙ are_left.1 apart);
      answered = leads.again_is ∙ h.again;
      page = its_page;
    }
