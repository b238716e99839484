-- How a core lies in its fields. A chunk is kept for the current page alone, and its page has the used bytes that are
-- counted beside it.
use Rattle.std.specs.Prelude.{◌≡◌, ℕ, ◌+◌, ◌≤◌, length, Option, Some, None, IsSome, MatchOption, count_by, true}
use Rattle.std.specs.Option.{option_map}
use Rattle.hs_records.specs.declared.books.PageNote.{PageNote}
use Rattle.hs_words.specs.declared.token.Held.{Held}
use Rattle.hs_words.specs.Chunks.{Contents, used_in}
use Rattle.hs_base.specs.declared.limits.TheConstants.{MIN_SIZE, MAX_SIZE, HEADER_COST}
use Rattle.hs_client.specs.declared.client.ClientCore.TheInside.{Inside}
use Rattle.hs_client.specs.Core.{Core, Current, is_null}
use Rattle.hs_words.specs.Buffers.{buffer_in}

abbrev pub current_of : {L : Type 0} {g : _} → Option (Held L g) → PageNote → Current L
current_of held note = record { note = note; buffer = buffer_in held }

abbrev pub core_of : {L : Type 0} {g : _} → Inside L g → Core L
core_of a =
    record {
      client = a.client;
      size = a.size;
      calls = a.calls;
      counted = a.counted;
      trace = a.trace;
      number = a.record;
      used = a.used;
      current = option_map (current_of a.held) a.page;
      draws = a.draws.items;
      pages = a.pages.items;
      keeps = a.draws.keeps;
      renewed = a.renewed;
    }

-- The chunk has a page with so many used bytes.
pub record IsUsed (chunk : Contents) (size used : ℕ) : Type 0 where
  pub page : IsSome chunk.page
  pub size_is : chunk.size ≡ size
  pub used_is : used_in chunk ≡ used

abbrev pub IsWritten : {L : Type 0} {g : _} → Option (Held L g) → ℕ → ℕ → Type 0
IsWritten held size used = MatchOption held (Unit {0}) (λ h. IsUsed h.chunk size used)

-- how many pages there are with this one, and how often it was counted
abbrev pub number_with : Option PageNote → ℕ → ℕ
number_with None pages = pages
number_with (Some note) pages = pages + 1

abbrev pub count_in : Option PageNote → ℕ
count_in None = 0
count_in (Some note) = note.count

-- how many bytes the current page may use, 0 where there is none; a page uses those of its header
abbrev pub IsLimit : Option PageNote → ℕ → ℕ → ℕ → Type 0
IsLimit None size used limit = limit ≡ 0
IsLimit (Some note) size used limit = (limit ≡ size) × (HEADER_COST ≤ used)

pub record IsCore {L : Type 0} {g : _} (a : Inside L g) : Type 0 where
  pub least : MIN_SIZE ≤ a.size
  pub most : a.size ≤ MAX_SIZE
  pub within : a.counted ≤ a.calls
  pub numbers : a.record ≤ a.counted
  pub supplies : length a.draws.items ≤ a.counted
  pub pages : number_with a.page (length a.pages.items) ≤ length a.draws.items
  pub pieces : count_in a.page ≤ a.counted
  pub used : a.used ≤ a.size
  pub limit : IsLimit a.page a.size a.used a.limit
  pub ended : a.ended ≡ length a.pages.items
  pub both : a.pages.keeps ≡ a.draws.keeps
  pub draw_room : a.draws.keeps ≡ true → a.calls ≤ a.draws.room
  pub page_room : a.draws.keeps ≡ true → a.calls ≤ a.pages.room
  pub nulls : a.nulls ≡ count_by is_null a.draws.items
  pub written : IsWritten a.held a.size a.used
  pub none : a.page ≡ None → a.held ≡ None
  pub opened : a.trace ≡ None → a.page ≡ None
