-- Chunks that are kept: one more joins them, and the first is taken.
use Rattle.std.proofs.Common.{◌≡◌, ℕ, suc, ◌+◌, true, cond, List, [], ◌∷◌, ◌++◌, length, map, drop, Option, option_map, Some, None, refl, sym, ap, subst, ◌∙◌, arith}
use Rattle.hs_check_follow.proofs.Prelude.{MatchOption, slice_get, option_to_list, ClientId, Draw, Operation, PlainSettings, Sent, sends_of, Sheet, Unleased, buffer_of, IsFilled, HavePages, Keeping, HasChunks}
use Rattle.hs_check_follow.proofs.QueuesLeft.{drop_next, drop_none}
use Rattle.hs_check_follow.proofs.Queues.{one_number}

more_pages : (size : ℕ) (items : List (Sent Sheet)) (chunks : List Unleased) (item : Sent Sheet) (chunk : Unleased) → chunk.chunk.page ≡ Some item.item → chunk.chunk.size ≡ size → HavePages size items chunks
    → HavePages size (items ++ item ∷ []) (chunks ++ chunk ∷ [])
more_pages size [] [] item chunk page size_is have = (page, size_is, tt)
more_pages size [] (c ∷ chunks) item chunk page size_is have = absurd have
more_pages size (i ∷ items) [] item chunk page size_is have = absurd have
more_pages size (i ∷ items) (c ∷ chunks) item chunk page size_is have = (have.0, have.1, more_pages size items chunks item chunk page size_is have.2)

pub one_chunk : (size : ℕ) (front : List (Sent Sheet)) (item : Sent Sheet) (number : ℕ) (keeping keeping' : Keeping) (numbers numbers' : List ℕ) (chunk : Unleased) → chunk.chunk.page ≡ Some item.item → chunk.chunk.size ≡ size
    → keeping'.keeps ≡ keeping.keeps → map buffer_of keeping'.chunks.items ≡ cond keeping.keeps (map buffer_of keeping.chunks.items ++ chunk ∷ []) (map buffer_of keeping.chunks.items) → numbers' ≡ numbers ++ number ∷ []
    → item.number ≡ number → HasChunks size front keeping numbers → HasChunks size (front ++ item ∷ []) keeping' numbers'
one_chunk size front item number keeping keeping' numbers numbers' chunk page size_is same chunks_are numbers_are own h =
    let before = map buffer_of keeping.chunks.items in
    record {
      kept =
          λ keeps'.
          let keeps : keeping.keeps ≡ true = sym same ∙ keeps' in
          subst (HavePages size (front ++ item ∷ [])) (sym (chunks_are ∙ ap (λ b. cond b (before ++ chunk ∷ []) before) keeps)) (more_pages size front before item chunk page size_is (h.kept keeps));
      numbers_are = one_number front item number numbers numbers' numbers_are own h.numbers_are;
    }

-- ---- the first of them

pub match_more : {X A A' : Type 0} {B B' : X → Type 0} (answer : Option X) → (A → A') → ((x : X) → B x → B' x) → MatchOption answer A B → MatchOption answer A' B'
match_more None first more h = first h
match_more (Some x) first more h = more x h

module _ (settings : PlainSettings) (client : ClientId) (ops : List Operation) (draws : List Draw) (k : ℕ) where
  abbrev sent : List (Sent Sheet)
  sent = (sends_of settings client ops draws).chunks

  abbrev Left : ℕ → List Unleased → Type 0
  Left n chunks = HavePages settings.size (drop n sent) chunks

  none_left : (left : List (Sent Sheet)) → drop k sent ≡ left → HavePages settings.size left [] → slice_get sent k ≡ None
  none_left [] is have = drop_none sent k is
  none_left (item ∷ left) is have = absurd have

  first_left : (left : List (Sent Sheet)) (chunk : Unleased) (rest : List Unleased) → drop k sent ≡ left → HavePages settings.size left (chunk ∷ rest) → IsFilled settings client ops draws k chunk.chunk × Left (k + 1) rest
  first_left [] chunk rest is have = absurd have
  first_left (item ∷ left) chunk rest is have =
      let next = drop_next sent k item left is in
      let on : suc k ≡ k + 1 = omega arith in (
        record { item = item; next = next.0; page = have.0; size = have.1 },
        subst (λ n. Left n rest) on (subst (λ (items : List (Sent Sheet)). HavePages settings.size items rest) (sym next.1) have.2),
      )

  pub pops : (chunks : List Unleased) (answer : Option Unleased) (rest : List Unleased) → chunks ≡ option_to_list answer ++ rest → rest ≡ drop 1 chunks → Left k chunks
      → MatchOption answer ((slice_get sent k ≡ None) × Left k rest) (λ chunk. IsFilled settings client ops draws k chunk.chunk × Left (k + 1) rest)
  pops [] None rest whole behind have = (none_left (drop k sent) refl have, subst (Left k) (sym behind) have)
  pops (c ∷ chunks) None rest whole behind have =
      let a = ap length whole in
      let b = ap length behind in
      absurd (omega (arith, a, b))
  pops [] (Some chunk) rest whole behind have = absurd cc
  pops (c ∷ chunks) (Some chunk) rest whole behind have = first_left (drop k sent) chunk rest refl (subst (Left k) whole have)
