-- Traces among named ones: which traces are named, and by what.
use Rattle.std.proofs.Common.{◌≡◌, ℕ, Bool, true, false, ◌||◌, List, [], ◌∷◌, refl, subst, eqb, eqb-true, eq-eqb}
use Rattle.hs_compare.proofs.Prelude.{AllByRecursion, flat_map, list_any, IsIn, TraceId, is_among, SamplerEvent, Comes, Names, named_by}
use Rattle.hs_law_outcome.proofs.Among.{to_any}

-- the trace is one of these
abbrev pub Among : List TraceId → TraceId → Type 0
Among traces trace = is_among traces trace ≡ true

-- traces of one number are among the same ones
pub among_same : (traces : List TraceId) (a b : TraceId) → a.0 ≡ b.0 → Among traces a → Among traces b
among_same traces a b e h = subst (λ (n : ℕ). list_any (λ (other : TraceId). eqb other.0 n) traces ≡ true) e h

among_case : (traces : List TraceId) (first trace : TraceId) (rest b : Bool) → eqb first.0 trace.0 ≡ b → Among traces first → (rest ≡ true → Among traces trace) → (b || rest) ≡ true → Among traces trace
among_case traces first trace rest true e here later h = among_same traces first trace (eqb-true first.0 trace.0 e) here
among_case traces first trace rest false e here later h = later h

-- a trace that is one of some is among those among which they all are
pub among_all : (traces some : List TraceId) (trace : TraceId) → AllByRecursion (Among traces) some → Among some trace → Among traces trace
among_all traces [] trace all h = let no : false ≡ true = h in absurd cc
among_all traces (first ∷ some) trace all h = among_case traces first trace (is_among some trace) (eqb first.0 trace.0) refl all.0 (among_all traces some trace all.1) h

pub among_in : (traces : List TraceId) (trace : TraceId) → IsIn traces trace → Among traces trace
among_in traces trace h = to_any (λ (other : TraceId). eqb other.0 trace.0) traces trace h (eq-eqb trace.0 trace.0 refl)

-- the traces that events name have what all named ones have
abbrev pub NamesOnly : (TraceId → Type 0) → SamplerEvent → Type 0
NamesOnly P (Comes coming) = Unit {0}
NamesOnly P (Names trace) = P trace

pub all_named : (P : TraceId → Type 0) (events : List SamplerEvent) → AllByRecursion P (flat_map named_by events) → AllByRecursion (NamesOnly P) events
all_named P [] all = tt
all_named P (Comes coming ∷ events) all = (tt, all_named P events all)
all_named P (Names trace ∷ events) all = (all.0, all_named P events all.1)
