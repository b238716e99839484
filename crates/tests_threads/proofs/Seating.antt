-- Drawers that keep their seats while the last of them stands aside.
use Rattle.std.proofs.Common.{◌≡◌, refl, ℕ, suc, ◌+◌, List, [], ◌∷◌, ◌++◌, length, arith, sym, ap, subst, ◌∙◌}
use Rattle.hs_words.specs.Pools.{PoolName}
use Rattle.hs_ring.specs.Parts.{Drawing, Giving, AreInOrder, AreAllEnds, AreNewEnds, new_drawers}
use Rattle.tests_threads.specs.Seats.{HaveSeats}

stay_in_order : (pool : PoolName) (number : ℕ) (old new : List Drawing) → HaveSeats old new → AreInOrder pool number old → AreInOrder pool number new
stay_in_order pool number [] [] have order = tt
stay_in_order pool number [] (y ∷ ys) have order = absurd (let count = have.count in omega (arith, count))
stay_in_order pool number (x ∷ xs) [] have order = absurd (let count = have.count in omega (arith, count))
stay_in_order pool number (x ∷ xs) (y ∷ ys) have order = (
  have.pools 0 x (omega arith) ∙ order.0,
  have.numbers 0 x (omega arith) ∙ order.1,
  stay_in_order pool (suc number) xs ys
      (record {
        count = let count = have.count in omega (arith, count);
        pools = λ place d low. have.pools (suc place) d (omega (arith, low));
        numbers = λ place d low. have.numbers (suc place) d (omega (arith, low));
      }) order.2,
)

-- those before the last one, and the last one
record Parted (pool : PoolName) (number : ℕ) (others : List Drawing) (last : Drawing) : Type 0 where
  pub order : AreInOrder pool number others
  pub of_pool : last.pool ≡ pool
  pub at : last.number ≡ number + length others

parted : (pool : PoolName) (number : ℕ) (others : List Drawing) (last : Drawing) → AreInOrder pool number (others ++ last ∷ []) → Parted pool number others last
parted pool number [] last order = record { order = tt; of_pool = order.0; at = let at = order.1 in omega (arith, at) }
parted pool number (x ∷ xs) last order =
    let rest = parted pool (suc number) xs last order.2 in
    record { order = (order.0, order.1, rest.order); of_pool = rest.of_pool; at = let at = rest.at in omega (arith, at) }

joined : (pool : PoolName) (number : ℕ) (others : List Drawing) (last : Drawing) → Parted pool number others last → AreInOrder pool number (others ++ last ∷ [])
joined pool number [] last all = (all.of_pool, (let at = all.at in omega (arith, at)), tt)
joined pool number (x ∷ xs) last all =
    let order = all.order in
    (order.0, order.1, joined pool (suc number) xs last (record { order = order.2; of_pool = all.of_pool; at = let at = all.at in omega (arith, at) }))

new_in_order : (pool : PoolName) (buffers size number : ℕ) (lefts : List ℕ) → AreInOrder pool number (new_drawers pool buffers size number lefts)
new_in_order pool buffers size number [] = tt
new_in_order pool buffers size number (left ∷ lefts) = (refl, refl, new_in_order pool buffers size (suc number) lefts)

count_new : (pool : PoolName) (buffers size number : ℕ) (lefts : List ℕ) → length (new_drawers pool buffers size number lefts) ≡ length lefts
count_new pool buffers size number [] = refl
count_new pool buffers size number (left ∷ lefts) = let rest = count_new pool buffers size (suc number) lefts in omega (arith, rest)

count_joined : (others : List Drawing) (last : Drawing) → length (others ++ last ∷ []) ≡ suc (length others)
count_joined [] last = refl
count_joined (x ∷ xs) last = let rest = count_joined xs last in omega (arith, rest)

-- the ends of a new pool behind their work
pub all_ends : (buffers size : ℕ) (lefts : List ℕ) (giver giver' : Giving) (drawers others others' : List Drawing) (last last' : Drawing)
    → AreNewEnds buffers size lefts giver drawers → drawers ≡ others ++ last ∷ []
    → giver'.pool ≡ giver.pool → giver'.drawers ≡ giver.drawers → last'.pool ≡ last.pool → last'.number ≡ last.number → HaveSeats others others'
    → AreAllEnds giver' (others' ++ last' ∷ [])
all_ends buffers size lefts giver giver' drawers others others' last last' new parts of_pool many last_of last_at have =
    let order : AreInOrder giver.pool 0 (others ++ last ∷ []) = subst (AreInOrder giver.pool 0) (sym new.drawers_are ∙ parts) (new_in_order giver.pool buffers size 0 lefts) in
    let was = parted giver.pool 0 others last order in
    let stay = stay_in_order giver.pool 0 others others' have was.order in
    let count = have.count in
    let at = was.at in
    let now : AreInOrder giver.pool 0 (others' ++ last' ∷ []) = joined giver.pool 0 others' last' (record { order = stay; of_pool = last_of ∙ was.of_pool; at = omega (arith, count, at, last_at) }) in
    let made : length drawers ≡ length lefts = ap (λ (l : List Drawing). length l) new.drawers_are ∙ count_new giver.pool buffers size 0 lefts in
    let all : length drawers ≡ suc (length others) = ap (λ (l : List Drawing). length l) parts ∙ count_joined others last in
    let told : giver.drawers ≡ length lefts = ap (λ (g : Giving). g.drawers) new.giver_is in
    let behind = count_joined others' last' in
    record { in_order = subst (λ (p : PoolName). AreInOrder p 0 (others' ++ last' ∷ [])) (sym of_pool) now; all = omega (arith, behind, count, all, made, told, many) }
