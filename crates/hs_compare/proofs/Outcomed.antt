-- A valid workload with a lawful journal can be compared, and its outcome has an entry for each record. The ring through all scripts is
-- the ring of the workload, so what was counted is its comparison.
use Rattle.std.proofs.Common.{◌≡◌, ℕ, List, [], ◌∷◌, map, refl, sym, ap, subst, ◌∙◌}
use Rattle.hs_compare.proofs.Prelude.{AllByRecursion, all_each, fold, TraceId, is_among, MayBegin, PlainJournal, Entry, rounds_of, IsLawful, outcome_of, Named, name_of, PlainWorkload, all_comings, events_in_order, named_by, named_in, CanBeCompared, ClaimedTracesAreNamed, EntriesStandByTheRecords, TailIsTheSum, SumsToTail, name_of_coming, compared_by, PlainComparison, comparison_of, SamplerRing, ring_step, empty_ring, IsValid, Coming, Script, AreScripts, comparison_by, coming_of, traces_of, plain_comparison, Ringing, all_rounds, rings_after, ringing_by}
use Rattle.hs_outcome.specs.declared.outcome.Outcome.{Outcome}
use Rattle.hs_outcome.specs.Outcomes.{IsOutcome}
use Rattle.hs_records.specs.declared.setting.Setting.TheVariants as settings
use Rattle.hs_records.proofs.Sizes.{bracketed}
use Rattle.hs_compare.specs.Ringing.{new_ring}
use Rattle.hs_compare.proofs.Lined.{trace_in, traces_same, lines_are_plain}
use Rattle.hs_compare.proofs.Naming.{Among}
use Rattle.hs_compare.proofs.Ordered.{rounds_in_order}
use Rattle.hs_compare.proofs.Ringed.{HasNames, rings_are, names_are_named}

-- ---- what a valid workload has

pub can_be_compared : (W : PlainWorkload) → IsValid W → CanBeCompared W
can_be_compared W valid =
    record {
      ends = record { size = (valid.head settings.Size).0; ends = bracketed W.version W.settings W.clients valid.each };
      clients = valid.count;
      stride = (valid.head settings.Stride).0;
    }

pub may_begin : (W : PlainWorkload) (J : PlainJournal) → IsValid W → IsLawful W J → MayBegin W J
may_begin W J valid lawful = record { valid = valid; shape = lawful.L1 }

-- the entries in memory are of the same traces as the records, one for one
pub outcome_beside : EntriesStandByTheRecords → (W : PlainWorkload) (J : PlainJournal) (outcome : Outcome) → IsOutcome W J outcome → IsValid W → IsLawful W J → (all : List Coming)
    → map coming_of all ≡ all_comings W → map (λ (e : Entry). e.trace) outcome.ledger.entries.items ≡ traces_of all
outcome_beside beside W J outcome is valid lawful all are =
    ap (map (λ (e : Entry). e.trace)) is.entries ∙ sym (map_twice name_of (λ (n : Named). n.trace) (outcome_of W J).entries)
    ∙ ap (map (λ (n : Named). n.trace)) (sym (beside W J (can_be_compared W valid).ends lawful)) ∙ map_twice name_of_coming (λ (n : Named). n.trace) (all_comings W)
    ∙ ap (map trace_in) (sym are) ∙ sym (traces_same all)
  where
    map_twice : {X Y Z : Type 0} (f : X → Y) (g : Y → Z) (xs : List X) → map g (map f xs) ≡ map (λ x. g (f x)) xs
    map_twice f g [] = refl
    map_twice f g (x ∷ xs) = ap (λ ys. g (f x) ∷ ys) (map_twice f g xs)

-- ---- the ring

abbrev pub after_all : ℕ → PlainWorkload → SamplerRing
after_all room W = fold (ring_step room) empty_ring (events_in_order W)

-- a new ring, after all scripts
pub walked_ring : (W : PlainWorkload) (room : ℕ) (scripts : List Script) → AreScripts W scripts → rings_after (new_ring room) (all_rounds W.settings.stride scripts (rounds_of W)) ≡ ringing_by room (after_all room W)
walked_ring W room scripts are = ap (rings_after (new_ring room)) (rounds_in_order W scripts are) ∙ rings_are room (events_in_order W) empty_ring

pub names_all : (W : PlainWorkload) (room : ℕ) → HasNames (named_in W) (after_all room W).named
names_all W room = names_are_named named_by (λ c. refl) (λ t. refl) room (events_in_order W) empty_ring [] (record { among = λ trace. refl; once = λ p. refl })

-- what was counted of these entries and claimed traces
pub ringed_is_plain : (W : PlainWorkload) (one_in room : ℕ) (all : List Coming) (ring : Ringing) (entries : List Entry) (claimed : List TraceId) → map coming_of all ≡ all_comings W
    → ring ≡ ringing_by room (after_all room W) → plain_comparison (comparison_by one_in all ring.named ring.traces entries claimed) ≡ comparison_of W entries claimed one_in room
ringed_is_plain W one_in room all ring entries claimed records is =
    lines_are_plain W all ring.named records (subst (HasNames (named_in W)) (ap (λ (r : Ringing). r.named) (sym is)) (names_all W room)) one_in room ring.traces entries claimed (ap (λ (r : Ringing). r.traces) is)

-- what was counted of the outcome of a journal
pub compared_is : (W : PlainWorkload) (J : PlainJournal) (outcome : Outcome) (one_in room : ℕ) (all : List Coming) (ring : Ringing) → IsOutcome W J outcome → map coming_of all ≡ all_comings W
    → ring ≡ ringing_by room (after_all room W) → plain_comparison (comparison_by one_in all ring.named ring.traces outcome.ledger.entries.items outcome.claimed.items) ≡ compared_by W J one_in room
compared_is W J outcome one_in room all ring outcomes records is =
    ap (λ es. plain_comparison (comparison_by one_in all ring.named ring.traces es outcome.claimed.items)) outcomes.entries
    ∙ ap (λ ts. plain_comparison (comparison_by one_in all ring.named ring.traces (outcome_of W J).entries ts)) outcomes.claimed
    ∙ ringed_is_plain W one_in room all ring (outcome_of W J).entries (outcome_of W J).claimed records is

-- and it sums to what tail keeps
pub sums_to_tail : TailIsTheSum → (W : PlainWorkload) (J : PlainJournal) (one_in room : ℕ) (c : PlainComparison) → IsValid W → IsLawful W J → c ≡ compared_by W J one_in room → SumsToTail c
sums_to_tail sum W J one_in room c valid lawful is = subst SumsToTail (sym is) (sum W J one_in room (can_be_compared W valid) lawful)

-- the claimed traces are among those that the ring named
pub claims_are_named : ClaimedTracesAreNamed → (W : PlainWorkload) (J : PlainJournal) (outcome : Outcome) (room : ℕ) (ring : Ringing) (claimed : List TraceId) → IsOutcome W J outcome → IsValid W
    → ring ≡ ringing_by room (after_all room W) → claimed ≡ outcome.claimed.items → AllByRecursion (Among ring.named) claimed
claims_are_named names W J outcome room ring claimed outcomes valid is are =
    subst (AllByRecursion (Among ring.named)) (sym (are ∙ outcomes.claimed))
    (all_each (Among (named_in W)) (Among ring.named) (outcome_of W J).claimed (λ t h. ap (λ (r : Ringing). is_among r.named t) is ∙ (names_all W room).among t ∙ h)
    (names W J (valid.head settings.Stride).0))
