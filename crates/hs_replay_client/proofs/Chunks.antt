-- The chunk at a place of those that were sent: its page, its draw, and where these stand.
use Rattle.std.proofs.Common.{◌≡◌, ℕ, zero, suc, Bool, true, false, List, [], ◌∷◌, ◌++◌, length, filter, Some, refl, sym, ap, ◌∙◌, subst, arith}
use Rattle.hs_replay_client.proofs.Prelude.{slice_get-map, same_Some, slice_get, nat_lt, option_map, flat_map, get_front, ClientId, Draw, Operation, PlainSettings, DrawnPage, ChunksAreInOrder, Sent, sends_of, sent_within, timed_pages, Contents, clear_chunk, Unleased, IsPlayable, chunk_of, chunks_within}
use Rattle.std.specs.Prelude.{if◌then◌else◌}
use Rattle.hs_records.specs.declared.journal.Draw.TheVariants as noted
use Rattle.hs_client.specs.Drawn.{has_buffer}
use Rattle.hs_client.specs.Sending.{sent_chunks, sheet_of}
use Rattle.hs_client.proofs.Order.{page_at}
use Rattle.hs_words.specs.Chunks.{with_page}
use Rattle.hs_words.specs.Pages.{Sheet}
use Rattle.hs_replay_client.specs.Places.{IsChunkAt, chunk_by}
use Rattle.hs_replay_client.proofs.Fronts.{drawn_within}
use Rattle.hs_replay_client.proofs.Lists.{sent_first}

-- ---- items that a test keeps

module _ {A : Type 0} (p : A → Bool) where
  kept_by : (y : A) (xs : List A) (x : A) → ((k : ℕ) → slice_get (filter p xs) k ≡ Some x → (i : ℕ) × (slice_get xs i ≡ Some x)) → (b : Bool) → p y ≡ b → (k : ℕ) → slice_get (filter p (y ∷ xs)) k ≡ Some x
      → (i : ℕ) × (slice_get (y ∷ xs) i ≡ Some x)
  kept_by y xs x others true e zero h = (0, subst (λ (b : Bool). slice_get (if b then y ∷ filter p xs else filter p xs) 0 ≡ Some x) e h)
  kept_by y xs x others true e (suc k) h =
      let found = others k (subst (λ (b : Bool). slice_get (if b then y ∷ filter p xs else filter p xs) (suc k) ≡ Some x) e h) in (suc found.0, found.1)
  kept_by y xs x others false e k h = let found = others k (subst (λ (b : Bool). slice_get (if b then y ∷ filter p xs else filter p xs) k ≡ Some x) e h) in (suc found.0, found.1)

  kept_found : (xs : List A) (x : A) (k : ℕ) → slice_get (filter p xs) k ≡ Some x → (i : ℕ) × (slice_get xs i ≡ Some x)
  kept_found [] x k h = absurd cc
  kept_found (y ∷ xs) x k h = kept_by y xs x (kept_found xs x) (p y) refl k h

-- ---- pages of a client

abbrev got : DrawnPage → Bool
got d = has_buffer d.draw

-- ---- chunks and their pages

-- the page of a chunk
record IsPageOf (size : ℕ) (pages : List DrawnPage) (k : ℕ) (chunk : Contents) : Type 0 where
  page : DrawnPage
  found : slice_get (filter got pages) k ≡ Some page
  stamp : ℕ
  draw : page.draw ≡ noted.Got chunk.number stamp
  size_is : chunk.size ≡ size
  sheet : chunk.page ≡ Some (sheet_of page)

page_here : (size : ℕ) (d : DrawnPage) (pages : List DrawnPage) (b : Unleased) (buffer stamp : ℕ) → d.draw ≡ noted.Got buffer stamp
    → ((k : ℕ) → slice_get (flat_map (chunk_of size) pages) k ≡ Some b → IsPageOf size pages k b.chunk) → (k : ℕ) → slice_get (chunk_by size (sheet_of d) (noted.Got buffer stamp) ++ flat_map (chunk_of size) pages) k ≡ Some b
    → IsPageOf size (d ∷ pages) k b.chunk
page_here size d pages b buffer stamp e others zero h =
    let first : Unleased = record { chunk = with_page (clear_chunk size buffer) (Some (sheet_of d)); lease = tt } in
    let same : first ≡ b = same_Some first b h in
    let kept : got d ≡ true = ap has_buffer e in
    record {
      page = d;
      found = rw kept refl;
      stamp = stamp;
      draw = e ∙ ap (λ (b : Unleased). noted.Got b.chunk.number stamp) same;
      size_is = ap (λ (b : Unleased). b.chunk.size) (sym same);
      sheet = ap (λ (b : Unleased). b.chunk.page) (sym same);
    }
page_here size d pages b buffer stamp e others (suc k) h =
    let is = others k h in
    let kept : got d ≡ true = ap has_buffer e in
    record { page = is.page; found = rw kept is.found; stamp = is.stamp; draw = is.draw; size_is = is.size_is; sheet = is.sheet }

page_later : (size : ℕ) (d : DrawnPage) (pages : List DrawnPage) (b : Unleased) (stamp : ℕ) → d.draw ≡ noted.Empty stamp → (k : ℕ) → IsPageOf size pages k b.chunk → IsPageOf size (d ∷ pages) k b.chunk
page_later size d pages b stamp e k is =
    let kept : got d ≡ false = ap has_buffer e in
    record { page = is.page; found = rw kept is.found; stamp = is.stamp; draw = is.draw; size_is = is.size_is; sheet = is.sheet }

page_by : (size : ℕ) (d : DrawnPage) (pages : List DrawnPage) (b : Unleased) → ((k : ℕ) → slice_get (flat_map (chunk_of size) pages) k ≡ Some b → IsPageOf size pages k b.chunk) → (draw : Draw) → d.draw ≡ draw → (k : ℕ)
    → slice_get (flat_map (chunk_of size) (d ∷ pages)) k ≡ Some b → IsPageOf size (d ∷ pages) k b.chunk
page_by size d pages b others (noted.Got buffer stamp) e k h =
    page_here size d pages b buffer stamp e others k (subst (λ (draw : Draw). slice_get (chunk_by size (sheet_of d) draw ++ flat_map (chunk_of size) pages) k ≡ Some b) e h)
page_by size d pages b others (noted.Empty stamp) e k h =
    page_later size d pages b stamp e k (others k (subst (λ (draw : Draw). slice_get (chunk_by size (sheet_of d) draw ++ flat_map (chunk_of size) pages) k ≡ Some b) e h))

page_of : (size : ℕ) (pages : List DrawnPage) (b : Unleased) (k : ℕ) → slice_get (flat_map (chunk_of size) pages) k ≡ Some b → IsPageOf size pages k b.chunk
page_of size [] b k h = absurd cc
page_of size (d ∷ pages) b k h = page_by size d pages b (page_of size pages b) d.draw refl k h

-- ---- what is sent within so many operations

abbrev item_of : DrawnPage → Sent Sheet
item_of d = record { number = d.sent; item = sheet_of d }

within_by : (n : ℕ) (d : DrawnPage) (pages : List DrawnPage) → sent_within n (sent_chunks pages) ≡ sent_chunks (drawn_within n pages) → (a b : Bool) → got d ≡ a → nat_lt d.sent n ≡ b
    → sent_within n (sent_chunks (d ∷ pages)) ≡ sent_chunks (drawn_within n (d ∷ pages))
within_by n d pages others true true e f = rw e (rw f (rw e (ap (λ (l : List (Sent Sheet)). item_of d ∷ l) others)))
within_by n d pages others true false e f = rw e (rw f others)
within_by n d pages others false true e f = rw e (rw f (rw e others))
within_by n d pages others false false e f = rw e (rw f others)

pub chunks_sent : (n : ℕ) (pages : List DrawnPage) → sent_within n (sent_chunks pages) ≡ sent_chunks (drawn_within n pages)
chunks_sent n [] = refl
chunks_sent n (d ∷ pages) = within_by n d pages (chunks_sent n pages) (got d) (nat_lt d.sent n) refl refl

-- as many chunks as sheets
count_all : (size : ℕ) (pages : List DrawnPage) → length (flat_map (chunk_of size) pages) ≡ length (sent_chunks pages)
count_all size [] = refl
count_all size (d ∷ pages) = by d.draw refl (count_all size pages)
  where
    by : (draw : Draw) → d.draw ≡ draw → length (flat_map (chunk_of size) pages) ≡ length (sent_chunks pages) → length (flat_map (chunk_of size) (d ∷ pages)) ≡ length (sent_chunks (d ∷ pages))
    by (noted.Got buffer stamp) e others = rw e (ap suc others)
    by (noted.Empty stamp) e others = rw e others

pub chunks_counted : (size n : ℕ) (pages : List DrawnPage) → length (chunks_within size n pages) ≡ length (sent_within n (sent_chunks pages))
chunks_counted size n pages = count_all size (drawn_within n pages) ∙ ap length (sym (chunks_sent n pages))

pub chunk_at : (settings : PlainSettings) (client : ClientId) (ops : List Operation) (drawn : List Draw) (done k : ℕ) (b : Unleased) → ChunksAreInOrder → IsPlayable settings ops
    → slice_get (chunks_within settings.size done (sends_of settings client ops drawn).drawn) k ≡ Some b → IsChunkAt settings client ops drawn done k b.chunk
chunk_at settings client ops drawn done k b order playable found =
    let size = settings.size in
    let sends = sends_of settings client ops drawn in
    let pages = sends.drawn in
    let first = drawn_within done pages in
    let is = page_of size first b k found in
    let item = item_of is.page in
    let sent : slice_get (sent_within done sends.chunks) k ≡ Some item =
    ap (λ l. slice_get l k) (chunks_sent done pages) ∙ slice_get-map item_of (filter got first) k ∙ ap (option_map item_of) is.found in
    let whole = sent_first done 0 sends.chunks (order size client ops drawn playable.least playable.client.bracketed) in
    let inner = kept_found got first is.page k is.found in
    let outer = kept_found (λ (d : DrawnPage). nat_lt d.sent done) pages is.page inner.0 inner.1 in
    let at = page_at client 0 (timed_pages size ops) drawn outer.0 is.page outer.1 in
    let number : is.page.number ≡ outer.0 = omega (arith, at.1) in
    record {
      item = item;
      next = ap (λ l. slice_get l k) whole.1 ∙ get_front (sent_within done sends.chunks) whole.0 k item sent;
      within = sent;
      sheet = is.sheet;
      size = is.size_is;
      owner = at.0;
      page = is.page;
      page_is = ap (slice_get pages) number ∙ outer.1;
      stamp = is.stamp;
      draw = is.draw;
    }
