-- What a client has done since it was made, over the list of its operations so far, and what it sent: the crumbs and the
-- triggers of these operations, and the chunks of all pages that it began, but the one that the next piece may still join.
use Rattle.std.specs.Prelude.{◌≡◌, ◌<◌, false, List, [], ◌∷◌, ◌++◌, map, reverse, Some, None, is_some}
use Rattle.std.specs.List.{AllByRecursion}
use Rattle.std.specs.Option.{option_to_list}
use Rattle.hs_records.specs.Plain.{Operation}
use Rattle.hs_records.specs.Records.{numbered_of, segments_from, segments_of, coming}
use Rattle.hs_records.specs.Pages.{pages_of}
use Rattle.hs_client.specs.Core.{all_pages, handed}
use Rattle.hs_client.specs.Calls.{note_of, filled_chunks}
use Rattle.hs_link.specs.Contents.{sent}
use Rattle.hs_words.specs.Ends.{Answer}
use Rattle.hs_words.specs.Pages.{Sheet}
use Rattle.hs_words.specs.Buffers.{Buffer}
use Rattle.hs_ring.specs.Parts.{Leased}
use Rattle.hs_client.specs.Drawn.{drawn_pages}
use Rattle.hs_client.specs.OneMore.{open_after, items_of, AreWatching}
use Rattle.hs_client.specs.SoFar.{has_open_page}
use Rattle.hs_client.specs.Sending.{sent_chunks, sent_crumbs, sent_triggers}
use Rattle.hs_live.specs.declared.called.Called.{Called}
use Rattle.hs_live.specs.declared.called.Called.TheVariants as called
use Rattle.hs_live.specs.Live.{PlainClient}
use Rattle.hs_live.specs.Apart.{AreApart}
use Rattle.hs_live.specs.Writing.{Made, IsWriting, writing_of, draws_by, buffers_by}

-- What a client did before its last renewal: each trace was ended, and the chunks that were sent are told apart, with lower marks
-- than those to come.
pub record WasBefore (made : Made) : Type 0 where
  pub ended : open_after None made.earlier ≡ None
  pub older : AllByRecursion (λ (buffer : Buffer Leased). buffer.lease.mark < made.renewed) made.before
  pub apart : AreApart made.before

-- The client has done these operations since it was made, or renewed. Whatever operations may follow, with the pieces that
-- these add to the open trace and the segments that they begin, it has recorded the segments of all.
pub record HasDone (made : Made) (ops : List Operation) (client : PlainClient) : Type 0 where
  pub writes : (rest : List Operation)
      → IsWriting made (coming made.size client.core.number client.core.trace rest) (segments_from made.size client.core.number rest) (segments_of made.size (ops ++ rest)) (writing_of client)
  pub trace : client.core.trace ≡ open_after None ops
  -- the core has a page exactly where a trace is open that has a point
  pub page : is_some client.core.current ≡ has_open_page false ops
  -- crumbs, triggers and autotriggers go on over a renewal, behind the operations before it
  pub crumbs : sent client.crumbs ≡ items_of (sent_crumbs (made.earlier ++ ops))
  pub triggers : sent client.triggers ≡ items_of (sent_triggers made.autos (made.earlier ++ ops))
  pub autos : AreWatching made.autos (reverse (numbered_of (made.earlier ++ ops))) client.autos
  pub before : WasBefore made

-- An operation that is done joins those that were. Any other answer changes nothing, and so nothing was sent.
abbrev pub Does : Operation → Called → PlainClient → PlainClient → Type 0
Does op called.Done old new = (made : Made) (ops : List Operation) → HasDone made ops old → HasDone made (ops ++ op ∷ []) new
Does op called.Spent old new = new ≡ old
Does op called.AlreadyOpen old new = new ≡ old
Does op called.NoTrace old new = new ≡ old
Does op called.TooWide old new = new ≡ old

-- no operation was done
abbrev pub DoesNothing : PlainClient → PlainClient → Type 0
DoesNothing old new = (made : Made) (ops : List Operation) → HasDone made ops old → HasDone made ops new

-- What was sent, noted and kept is that of the operations, at the draws that were answered.
pub record HasSent (made : Made) (ops : List Operation) (client : PlainClient) : Type 0 where
  pub answers : List Answer
  pub since : client.drawer.answers ≡ answers ++ made.answers
  pub draws : client.core.draws ≡ draws_by answers
  pub pages : all_pages client.core ≡ map note_of (pages_of made.size ops)
  -- the chunks that were sent, and then the one that the core has
  pub chunks : sent client.chunks ++ option_to_list (handed client.core) ≡ made.before ++ filled_chunks made.client 0 (pages_of made.size ops) (buffers_by client.drawer.pool client.drawer.size made.renewed answers)
  -- where no trace is open, it has none
  pub closed : open_after None ops ≡ None → client.core.current ≡ None
  pub crumbs : sent client.crumbs ≡ items_of (sent_crumbs (made.earlier ++ ops))
  pub triggers : sent client.triggers ≡ items_of (sent_triggers made.autos (made.earlier ++ ops))

-- The sheets in the chunks, in order, and the crumbs and the triggers are those of the operations, at the draws that are noted.
pub record HasSentAll (made : Made) (ops : List Operation) (client : PlainClient) : Type 0 where
  pub sheets : map (λ (buffer : Buffer Leased). buffer.chunk.page) (sent client.chunks) ≡ map (λ (buffer : Buffer Leased). buffer.chunk.page) made.before ++ map (λ (sheet : Sheet). Some sheet) (items_of (sent_chunks (drawn_pages made.size made.client ops client.core.draws)))
  pub crumbs : sent client.crumbs ≡ items_of (sent_crumbs (made.earlier ++ ops))
  pub triggers : sent client.triggers ≡ items_of (sent_triggers made.autos (made.earlier ++ ops))
