-- The chunks that a client sent are told apart: those of a core by their pages, which count up, and those of two cores by their marks.
use Rattle.std.proofs.Common.{◌≡◌, ℕ, ◌+◌, ◌<◌, ◌≤◌, List, [], ◌∷◌, ◌++◌, Option, Some, None, MatchOption, refl, sym, ap, arith, subst}
use Rattle.hs_live.proofs.Prelude.{same_Some, option_to_list, AllByRecursion, ClientId, Operation, PoolEvent, Got, Empty, Answer, Buffer, handed, sent, Leased, PlainClient, Made, buffer_got, buffers_by, HasDone}
use Rattle.hs_base.proofs.Alls.{all_append, all_front, all_each, all_push}
use Rattle.hs_records.specs.Pages.{PlainPage, pages_of}
use Rattle.hs_words.specs.PoolHistory.{Given, Missed}
use Rattle.hs_words.specs.Pools.{PoolName}
use Rattle.hs_words.specs.declared.page.Header.{Header}
use Rattle.hs_words.specs.Chunks.{header_in}
use Rattle.hs_client.specs.Calls.{filled, filled_chunks, sheet_for}
use Rattle.hs_live.specs.Apart.{IsPageBehind, AreApart}
use Rattle.hs_live.specs.Done.{HasSent}

-- ---- chunks of two cores

abbrev IsMarked : ℕ → Buffer Leased → Type 0
IsMarked mark buffer = buffer.lease.mark ≡ mark

abbrev IsOlder : ℕ → Buffer Leased → Type 0
IsOlder mark buffer = buffer.lease.mark < mark

abbrev pub IsMost : ℕ → Buffer Leased → Type 0
IsMost mark buffer = buffer.lease.mark ≤ mark

apart_front : (xs ys : List (Buffer Leased)) → AreApart (xs ++ ys) → AreApart xs
apart_front [] ys h = tt
apart_front (x ∷ xs) ys h = (all_front (IsPageBehind x) xs ys h.0, apart_front xs ys h.1)

newer : (mark : ℕ) (x : Buffer Leased) (ys : List (Buffer Leased)) → IsOlder mark x → AllByRecursion (IsMarked mark) ys → AllByRecursion (IsPageBehind x) ys
newer mark x ys older marked = all_each (IsMarked mark) (IsPageBehind x) ys (λ y is first second a b same. absurd (omega (arith, older, is, same))) marked

apart_append : (mark : ℕ) (xs ys : List (Buffer Leased)) → AllByRecursion (IsOlder mark) xs → AllByRecursion (IsMarked mark) ys → AreApart xs → AreApart ys → AreApart (xs ++ ys)
apart_append mark [] ys older marked before here = here
apart_append mark (x ∷ xs) ys older marked before here =
    (all_append (IsPageBehind x) xs ys before.0 (newer mark x ys older.0 marked), apart_append mark xs ys older.1 marked before.1 here)

-- ---- chunks of one core

-- the page has this number or a higher one
abbrev IsFrom : ℕ → Buffer Leased → Type 0
IsFrom number buffer = (header : Header) → header_in buffer.chunk ≡ Some header → number ≤ header.page

page_is : (client : ClientId) (number : ℕ) (p : PlainPage) (buffer : Buffer Leased) (header : Header) → header_in (filled client number p buffer).chunk ≡ Some header → number ≡ header.page
page_is client number p buffer header is = ap (λ (h : Header). h.page) (same_Some (sheet_for client number p).header header is)

from_there : (client : ClientId) (number : ℕ) (pages : List PlainPage) (buffers : List (Option (Buffer Leased))) → AllByRecursion (IsFrom number) (filled_chunks client number pages buffers)
from_there client number [] buffers = tt
from_there client number (p ∷ pages) [] = tt
from_there client number (p ∷ pages) (None ∷ buffers) =
    all_each (IsFrom (number + 1)) (IsFrom number) (filled_chunks client (number + 1) pages buffers) (λ b from header is. omega (arith, from header is)) (from_there client (number + 1) pages buffers)
from_there client number (p ∷ pages) (Some buffer ∷ buffers) = (
  λ header is. omega (arith, page_is client number p buffer header is),
  all_each (IsFrom (number + 1)) (IsFrom number) (filled_chunks client (number + 1) pages buffers) (λ b from header is. omega (arith, from header is)) (from_there client (number + 1) pages buffers),
)

apart_filled : (client : ClientId) (number : ℕ) (pages : List PlainPage) (buffers : List (Option (Buffer Leased))) → AreApart (filled_chunks client number pages buffers)
apart_filled client number [] buffers = tt
apart_filled client number (p ∷ pages) [] = tt
apart_filled client number (p ∷ pages) (None ∷ buffers) = apart_filled client (number + 1) pages buffers
apart_filled client number (p ∷ pages) (Some buffer ∷ buffers) = (
  all_each (IsFrom (number + 1)) (IsPageBehind (filled client number p buffer)) (filled_chunks client (number + 1) pages buffers)
      (λ b from first second is there same. omega (arith, page_is client number p buffer first is, from second there)) (from_there client (number + 1) pages buffers),
  apart_filled client (number + 1) pages buffers,
)

-- ---- their marks

abbrev IsGot : ℕ → Option (Buffer Leased) → Type 0
IsGot mark buffer = MatchOption buffer (Unit {0}) (IsMarked mark)

marked_filled : (mark : ℕ) (client : ClientId) (number : ℕ) (pages : List PlainPage) (buffers : List (Option (Buffer Leased))) → AllByRecursion (IsGot mark) buffers → AllByRecursion (IsMarked mark) (filled_chunks client number pages buffers)
marked_filled mark client number [] buffers all = tt
marked_filled mark client number (p ∷ pages) [] all = tt
marked_filled mark client number (p ∷ pages) (None ∷ buffers) all = marked_filled mark client (number + 1) pages buffers all.1
marked_filled mark client number (p ∷ pages) (Some buffer ∷ buffers) all = (all.0, marked_filled mark client (number + 1) pages buffers all.1)

got_marked : (pool : PoolName) (size mark stamp : ℕ) (event : PoolEvent) → IsGot mark (buffer_got pool size mark stamp event)
got_marked pool size mark stamp (Got buffer) = refl
got_marked pool size mark stamp Empty = tt
got_marked pool size mark stamp (Given buffer) = tt
got_marked pool size mark stamp Missed = tt

all_marked : (pool : PoolName) (size mark : ℕ) (answers : List Answer) → AllByRecursion (IsGot mark) (buffers_by pool size mark answers)
all_marked pool size mark [] = tt
all_marked pool size mark (answer ∷ earlier) =
    all_push (IsGot mark) (buffers_by pool size mark earlier) (buffer_got pool size mark answer.stamp answer.event) (all_marked pool size mark earlier) (got_marked pool size mark answer.stamp answer.event)

-- ---- all that were sent

pub sent_apart : (made : Made) (ops : List Operation) (client : PlainClient) → HasDone made ops client → HasSent made ops client → AreApart (sent client.chunks) × AllByRecursion (IsMost made.renewed) (sent client.chunks)
sent_apart made ops client h s =
    let mark = made.renewed in
    let pages = pages_of made.size ops in
    let buffers = buffers_by client.drawer.pool client.drawer.size mark s.answers in
    let filled : List (Buffer Leased) = filled_chunks made.client 0 pages buffers in
    let marked = marked_filled mark made.client 0 pages buffers (all_marked client.drawer.pool client.drawer.size mark s.answers) in
    let apart = apart_append mark made.before filled h.before.older marked h.before.apart (apart_filled made.client 0 pages buffers) in
    let most =
    all_append (IsMost mark) made.before filled (all_each (IsOlder mark) (IsMost mark) made.before (λ b older. omega (arith, older)) h.before.older)
    (all_each (IsMarked mark) (IsMost mark) filled (λ b is. omega (arith, is)) marked) in
    let last = option_to_list (handed client.core) in
    (apart_front (sent client.chunks) last (subst AreApart (sym s.chunks) apart), all_front (IsMost mark) (sent client.chunks) last (subst (AllByRecursion (IsMost mark)) (sym s.chunks) most))
