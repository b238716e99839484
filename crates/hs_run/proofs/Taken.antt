-- What all nodes leave, one after another.
use Rattle.std.proofs.Common.{◌≡◌, ℕ, zero, suc, ◌<◌, List, [], ◌∷◌, ◌++◌, length, map, zip, get_or, Some, None, sym, ap, subst, ◌∙◌, arith, slice_get}
use Rattle.hs_run.proofs.Prelude.{length-map, same_Some, get_unmap, Listing, PlainAgentBook, Incoming, Outgoing, Key, IsMate, Drawing, PlainClientActor, PlainClosedAgent, AreMatesOf, CanFinish, MayFinish, HasFinished, HaveFinished, items_of}
use Rattle.hs_base.proofs.Places.{get_map}

-- the senders of all clients, with their receivers
pub mates_of : {T : Type 0} (f : PlainClientActor → Outgoing T Key) (callers : List PlainClientActor) (senders : List (Outgoing T Key)) (receivers : List (Incoming T Key)) → senders ≡ map f callers → length callers ≡ length receivers
    → ((n : ℕ) (c : PlainClientActor) → slice_get callers n ≡ Some c → IsMate n receivers (f c)) → AreMatesOf senders receivers
mates_of f callers senders receivers is count h =
    record {
      count = ap length is ∙ length-map callers f ∙ count;
      each = λ n s at.
          let (c, there, e) = get_unmap f callers n s (sym (ap (λ (l : List (Outgoing _ Key)). slice_get l n) is) ∙ at) in
          subst (IsMate n receivers) e (h n c there);
    }

-- ---- the pools

pub can_at : (shuts : List PlainClosedAgent) (lists : List (List Drawing)) → MayFinish shuts lists → (n : ℕ) (shut : PlainClosedAgent) (drawers : List Drawing) → slice_get shuts n ≡ Some shut → slice_get lists n ≡ Some drawers → CanFinish shut drawers
can_at [] lists may n shut drawers at at' = let none : None ≡ Some shut = at in absurd cc
can_at (s ∷ shuts) [] may n shut drawers at at' = let none : None ≡ Some drawers = at' in absurd cc
can_at (s ∷ shuts) (l ∷ lists) may zero shut drawers at at' = subst (λ (x : PlainClosedAgent). CanFinish x drawers) (same_Some s shut at) (subst (CanFinish s) (same_Some l drawers at') may.0)
can_at (s ∷ shuts) (l ∷ lists) may (suc n) shut drawers at at' = can_at shuts lists may.1 n shut drawers at at'

pub finished_more : (shuts : List PlainClosedAgent) (lists : List (List Drawing)) (books : List PlainAgentBook) (shut : PlainClosedAgent) (drawers : List Drawing) (book : PlainAgentBook) → HaveFinished shuts lists books → HasFinished shut drawers book
    → HaveFinished (shuts ++ shut ∷ []) (lists ++ drawers ∷ []) (books ++ book ∷ [])
finished_more [] [] [] shut drawers book have has = (has, tt)
finished_more [] [] (b ∷ books) shut drawers book have has = absurd have
finished_more [] (l ∷ lists) books shut drawers book have has = absurd have
finished_more (s ∷ shuts) [] books shut drawers book have has = absurd have
finished_more (s ∷ shuts) (l ∷ lists) [] shut drawers book have has = absurd have
finished_more (s ∷ shuts) (l ∷ lists) (b ∷ books) shut drawers book have has = (have.0, finished_more shuts lists books shut drawers book have.1 has)

-- what stands in two lists at one place
pub zipped : {A B : Type 0} (xs : List A) (ys : List B) (n : ℕ) (p : A × B) → n < length (zip xs ys) → p ≡ get_or (zip xs ys) n p → (slice_get xs n ≡ Some p.0) × (slice_get ys n ≡ Some p.1)
zipped [] ys n p low is = absurd (omega (arith, low))
zipped (x ∷ xs) [] n p low is = absurd (omega (arith, low))
zipped (x ∷ xs) (y ∷ ys) zero p low is = (ap (λ (q : _ × _). Some q.0) (sym is), ap (λ (q : _ × _). Some q.1) (sym is))
zipped (x ∷ xs) (y ∷ ys) (suc n) p low is = zipped xs ys n p (omega (arith, low)) is

pub can_finish : (shuts : List PlainClosedAgent) (lists : List (Listing Drawing)) → MayFinish shuts (items_of lists) → (n : ℕ) (p : PlainClosedAgent × Listing Drawing) → (n < length (zip shuts lists)) × (p ≡ get_or (zip shuts lists) n p) → CanFinish p.0 p.1.items
can_finish shuts lists may n p turn =
    let there = zipped shuts lists n p turn.0 turn.1 in
    can_at shuts (items_of lists) may n p.0 p.1.items there.0 (get_map (λ (l : Listing Drawing). l.items) lists n p.1 there.1)

pub all_finished : (shuts : List PlainClosedAgent) (lists : List (Listing Drawing)) (yielded : List (PlainClosedAgent × Listing Drawing)) (books : List PlainAgentBook) → MayFinish shuts (items_of lists) → map {B = PlainClosedAgent × Listing Drawing} (λ p. (p.0, p.1)) yielded ≡ zip shuts lists
    → HaveFinished (map (λ p. p.0) yielded) (map (λ p. p.1.items) yielded) books → HaveFinished shuts (items_of lists) books
all_finished [] [] yielded books may is have = by yielded is have
  where
    by : (l : List (PlainClosedAgent × Listing Drawing)) → map {B = PlainClosedAgent × Listing Drawing} (λ p. (p.0, p.1)) l ≡ [] → HaveFinished (map (λ p. p.0) l) (map (λ p. p.1.items) l) books → HaveFinished [] [] books
    by [] q h = h
    by (x ∷ l) q h = absurd (omega (arith, ap length q))
all_finished [] (l ∷ lists) yielded books may is have = absurd may
all_finished (s ∷ shuts) [] yielded books may is have = absurd may
all_finished (s ∷ shuts) (l ∷ lists) [] books may is have = absurd (omega (arith, ap length is))
all_finished (s ∷ shuts) (l ∷ lists) (p ∷ yielded) [] may is have = absurd have
all_finished (s ∷ shuts) (l ∷ lists) (p ∷ yielded) (b ∷ books) may is have =
    let first : p ≡ (s, l) = ap (head p) is in
    let finished : HasFinished s l.items b = subst (λ (q : PlainClosedAgent × Listing Drawing). HasFinished q.0 q.1.items b) first have.0 in
    (finished, all_finished shuts lists yielded books may.1 (ap tail is) have.1)
  where
    head : PlainClosedAgent × Listing Drawing → List (PlainClosedAgent × Listing Drawing) → PlainClosedAgent × Listing Drawing
    head q [] = q
    head q (r ∷ l) = r

    tail : List (PlainClosedAgent × Listing Drawing) → List (PlainClosedAgent × Listing Drawing)
    tail [] = []
    tail (r ∷ l) = l
