-- Which chunks of a client came, where its agent took these.
use Rattle.std.proofs.Common.{◌≡◌, ℕ, zero, suc, ◌==◌, Bool, true, false, cond, List, [], ◌∷◌, ◌++◌, map, Option, Some, None, refl, sym, ap, subst, ◌∙◌, append-nil, slice_get}
use Rattle.std.specs.Prelude.{slice_set, filter_map}
use Rattle.std.specs.Option.{option_map_or}
use Rattle.std.proofs.lemmas.Bool.{eqb-true, eqb-false}
use Rattle.std.proofs.lemmas.List.Elements.{filter_map-append}
use Rattle.hs_base.proofs.Parts.{map_append}
use Rattle.hs_words.specs.Buffers.{Buffer}
use Rattle.hs_ring.specs.Parts.{Leased}
use Rattle.hs_link.specs.Contents.{Incoming}
use Rattle.hs_live.specs.Keys.{Key}
use Rattle.hs_agent.specs.Runs.{AgentRun}
use Rattle.hs_intake.specs.declared.took.Stop.{Stop}
use Rattle.hs_intake.specs.declared.took.Stop.TheVariants.{Empty, Most, Memory, Words, Claims}
use Rattle.hs_intake.specs.Intakes.{PlainIntake, Waiting, IntakeAct, TakesChunk, Line, Lines, lines_of, chunk_line, acts_in}
use Rattle.hs_intake.specs.Taking.{Receives, Moves, StopsBy}
use Rattle.hs_intake.proofs.Lines.{get_set}
use Rattle.hs_node.specs.Nodes.{part_at}
use Rattle.hs_law_life.specs.Reports.{IsBackAt}
use Rattle.hs_law_life.specs.NodeLives.{Taking, taking_of, takings, of_client, chunks_of, front_of, received_of}

-- ---- lists of acts

pub chunks_append : (client : ℕ) (xs ys : List IntakeAct) → chunks_of client (xs ++ ys) ≡ chunks_of client xs ++ chunks_of client ys
chunks_append client xs ys = ap (λ (l : List Taking). filter_map (of_client client) l) (filter_map-append taking_of xs ys) ∙ filter_map-append (of_client client) (takings xs) (takings ys)

pub takings_none : {T : Type 0} (f : T → IntakeAct) → ((x : T) → taking_of (f x) ≡ None) → (xs : List T) → takings (map f xs) ≡ []
takings_none f none [] = refl
takings_none f none (x ∷ xs) = filter_map-append taking_of (f x ∷ []) (map f xs) ∙ ap (λ (l : List Taking). takings (f x ∷ []) ++ l) (takings_none f none xs) ∙ append-nil (takings (f x ∷ [])) ∙ one (taking_of (f x)) (none x)
  where
    one : (o : Option Taking) → o ≡ None → takings (f x ∷ []) ≡ []
    one o is = rw (none x) refl

-- of a client's own chunks all, and none of another's
only : (k client : ℕ) (items : List (Buffer Leased)) (b : Bool) → (client == k) ≡ b → chunks_of k (map (TakesChunk client) items) ≡ cond b items []
only k client [] true same = refl
only k client [] false same = refl
only k client (x ∷ items) true same = rw same (ap (λ (l : List (Buffer Leased)). x ∷ l) (only k client items true same))
only k client (x ∷ items) false same = rw same (only k client items false same)

-- ---- what came

-- What was accounted for stays so, and these acts account for what came.
abbrev pub Counts : List IntakeAct → PlainIntake → PlainIntake → Type 0
Counts more old new =
    (client : ℕ) (before : List (Buffer Leased)) → received_of client old ≡ before ++ front_of client old
    → received_of client new ≡ before ++ (chunks_of client more ++ front_of client new)

-- no chunk came, and the front has as many of each client
pub counts_none : (more : List IntakeAct) (old new : PlainIntake) → new.port.chunks ≡ old.port.chunks → ((client : ℕ) → front_of client new ≡ front_of client old) → takings more ≡ [] → Counts more old new
counts_none more old new same front none client before is =
    ap (λ (ends : List (Incoming (Buffer Leased) Key)). option_map_or (λ (r : Incoming (Buffer Leased) Key). r.received) (slice_get ends client) []) same
    ∙ is ∙ ap (λ (l : List (Buffer Leased)). before ++ l) (sym (front client))
    ∙ ap (λ (l : List Taking). before ++ (filter_map (of_client client) l ++ front_of client new)) (sym none)

pub set_other : {A : Type 0} (xs : List A) (i k : ℕ) (y : A) → (i ≡ k → ⊥) → slice_get (slice_set xs i y) k ≡ slice_get xs k
set_other [] i k y other = refl
set_other (x ∷ xs) zero zero y other = absurd (other refl)
set_other (x ∷ xs) zero (suc k) y other = refl
set_other (x ∷ xs) (suc i) zero y other = refl
set_other (x ∷ xs) (suc i) (suc k) y other = set_other xs i k y (λ same. other (ap suc same))

abbrev got : List (Incoming (Buffer Leased) Key) → ℕ → List (Buffer Leased)
got ends k = option_map_or (λ (r : Incoming (Buffer Leased) Key). r.received) (slice_get ends k) []

came_by : (k client : ℕ) (items : List (Buffer Leased)) (a b : List (Incoming (Buffer Leased) Key)) → Receives client items a b → (same : Bool) → (client == k) ≡ same → got b k ≡ got a k ++ cond same items []
came_by k client items a b receives true is =
    let at : client ≡ k = eqb-true client k is in
    let after : got b client ≡ receives.later.received =
    ap (λ (ends : List (Incoming (Buffer Leased) Key)). got ends client) receives.new_is
    ∙ ap (λ (o : Option (Incoming (Buffer Leased) Key)). option_map_or (λ (r : Incoming (Buffer Leased) Key). r.received) o []) (get_set a client receives.before receives.later receives.at) in
    let old : got a client ≡ receives.before.received =
    ap (λ (o : Option (Incoming (Buffer Leased) Key)). option_map_or (λ (r : Incoming (Buffer Leased) Key). r.received) o []) receives.at in
    subst (λ (n : ℕ). got b n ≡ got a n ++ items) at (after ∙ receives.received ∙ ap (λ (l : List (Buffer Leased)). l ++ items) (sym old))
came_by k client items a b receives false is =
    ap (λ (ends : List (Incoming (Buffer Leased) Key)). got ends k) receives.new_is
    ∙ ap (λ (o : Option (Incoming (Buffer Leased) Key)). option_map_or (λ (r : Incoming (Buffer Leased) Key). r.received) o []) (set_other a client k receives.later (eqb-false client k is))
    ∙ sym (append-nil (got a k))

came : (k client : ℕ) (items : List (Buffer Leased)) (a b : List (Incoming (Buffer Leased) Key)) → Receives client items a b → got b k ≡ got a k ++ chunks_of k (map (TakesChunk client) items)
came k client items a b receives =
    came_by k client items a b receives (client == k) refl ∙ ap (λ (l : List (Buffer Leased)). got a k ++ l) (sym (only k client items (client == k) refl))

-- ---- a line

empty_front : (client : ℕ) (d : PlainIntake) → d.back ≡ None → front_of client d ≡ []
empty_front client d none = ap (λ (o : Option Waiting). chunks_of client (acts_in o)) none

-- chunks came, of which the last waits at the front
chunk_counts : (client : ℕ) (items extra : List (Buffer Leased)) (old new : PlainIntake) → Moves chunk_line client (items ++ extra) old new → old.back ≡ None
    → ((k : ℕ) → front_of k new ≡ chunks_of k (map (TakesChunk client) extra)) → Counts (map (TakesChunk client) items) old new
chunk_counts client items extra old new moves none front k before is =
    came k client (items ++ extra) old.port.chunks new.port.chunks moves.receives
    ∙ ap (λ (l : List (Buffer Leased)). l ++ chunks_of k (map (TakesChunk client) (items ++ extra))) (is ∙ ap (λ (l : List (Buffer Leased)). before ++ l) (empty_front k old none) ∙ append-nil before)
    ∙ ap (λ (l : List (Buffer Leased)). before ++ l)
    (ap (λ (l : List IntakeAct). chunks_of k l) (map_append (TakesChunk client) items extra) ∙ chunks_append k (map (TakesChunk client) items) (map (TakesChunk client) extra)
    ∙ ap (λ (l : List (Buffer Leased)). chunks_of k (map (TakesChunk client) items) ++ l) (sym (front k)))

chunks_whole : (client : ℕ) (items : List (Buffer Leased)) (old new : PlainIntake) → Moves chunk_line client items old new → old.back ≡ None → new.back ≡ old.back → Counts (map (TakesChunk client) items) old new
chunks_whole client items old new moves none back =
    chunk_counts client items [] old new (subst (λ (l : List (Buffer Leased)). Moves chunk_line client l old new) (sym (append-nil items)) moves) none (λ k. empty_front k new (back ∙ none))

pub chunk_stops : (client : ℕ) (items : List (Buffer Leased)) (old : PlainIntake) (stop : Stop) (new : PlainIntake) → old.back ≡ None → StopsBy chunk_line client items old stop new
    → Counts (map (TakesChunk client) items) old new
chunk_stops client items old Empty new none (moves, back, dry) = chunks_whole client items old new moves none back
chunk_stops client items old Most new none (moves, back, most) = chunks_whole client items old new moves none back
chunk_stops client items old Memory new none (item, moves, back) =
    chunk_counts client items (item ∷ []) old new moves none (λ k. ap (λ (o : Option Waiting). chunks_of k (acts_in o)) back)
chunk_stops client items old Words new none (moves, back, mute) = chunks_whole client items old new moves none back
chunk_stops client items old Claims new none (moves, back, short) = chunks_whole client items old new moves none back

-- another line than that of chunks
pub record IsOther {T : Type 0} (line : Line T) : Type 0 where
  pub takes : (client : ℕ) (x : T) → taking_of (line.takes client x) ≡ None
  pub waits : (k client : ℕ) (x : T) → chunks_of k (acts_in (Some (line.waits client x))) ≡ []
  pub keeps : (lines : Lines) (ends : List (Incoming T Key)) → (line.with_ends lines ends).port.chunks ≡ lines.port.chunks
  pub leaves : (run : AgentRun Leased) (client : ℕ) (x : T) → part_at run (line.takes client x) ≡ None
  pub offers : (run : AgentRun Leased) (client : ℕ) (x : T) → IsBackAt run (line.takes client x)

module _ {T : Type 0} (line : Line T) (other : IsOther line) (client : ℕ) where
  pub other_same : (items : List T) (old new : PlainIntake) → Moves line client items old new → new.port.chunks ≡ old.port.chunks
  other_same items old new moves = ap (λ (l : Lines). l.port.chunks) moves.others ∙ other.keeps (lines_of old) (line.ends (lines_of new))

  other_whole : (all items : List T) (old new : PlainIntake) → Moves line client all old new → new.back ≡ old.back → Counts (map (line.takes client) items) old new
  other_whole all items old new moves back =
      counts_none (map (line.takes client) items) old new (other_same all old new moves) (λ k. ap (λ (o : Option Waiting). chunks_of k (acts_in o)) back) (takings_none (line.takes client) (other.takes client) items)

  pub other_stops : (items : List T) (old : PlainIntake) (stop : Stop) (new : PlainIntake) → old.back ≡ None → StopsBy line client items old stop new → Counts (map (line.takes client) items) old new
  other_stops items old Empty new none (moves, back, dry) = other_whole items items old new moves back
  other_stops items old Most new none (moves, back, most) = other_whole items items old new moves back
  other_stops items old Memory new none (item, moves, back) =
      counts_none (map (line.takes client) items) old new (other_same (items ++ item ∷ []) old new moves)
      (λ k. ap (λ (o : Option Waiting). chunks_of k (acts_in o)) back ∙ other.waits k client item ∙ sym (empty_front k old none))
      (takings_none (line.takes client) (other.takes client) items)
  other_stops items old Words new none (moves, back, mute) = other_whole items items old new moves back
  other_stops items old Claims new none (moves, back, short) = other_whole items items old new moves back
