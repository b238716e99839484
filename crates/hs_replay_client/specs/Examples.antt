-- A client whose points each fill a page of 64 bytes, on a pool with two buffers and on one with none left.
use Rattle.std.specs.Prelude.{◌≡◌, ℕ, List, [], ◌∷◌, length, map, replicate, Some, None, refl}
use Rattle.std.proofs.Common.{lit<, lit≤, arith}
use Rattle.hs_base.specs.declared.settings.AutoRule.TheVariants.{Exception}
use Rattle.hs_base.specs.Samples.{t, owner}
use Rattle.hs_client.specs.Core.{new_core}
use Rattle.hs_client.specs.Calls.{with_all}
use Rattle.hs_records.specs.declared.journal.Draw.{Draw}
use Rattle.hs_records.specs.declared.journal.Draw.TheVariants.{Got, Empty}
use Rattle.hs_records.specs.Plain.{Point, End}
use Rattle.hs_records.specs.Records.{Piece, Segment, coming}
use Rattle.hs_client.specs.Samples.{begin, fire, plain, two_fills}
use Rattle.hs_client.specs.Sending.{sends_of}
use Rattle.hs_client.specs.SoFar.{done_behind}
use Rattle.hs_words.specs.Chunks.{clear_chunk}
use Rattle.hs_words.specs.PoolHistory as pool
use Rattle.hs_replay_client.specs.ReplayClients.{Unleased, Working}
use Rattle.hs_replay_client.specs.Writing.{buffer_got}
use Rattle.hs_replay_client.specs.Doing.{HasNothing, MayDo}
use Rattle.hs_client.specs.Playable.{IsPlayable}
use Rattle.hs_replay_client.specs.Places.{Waits, chunk_by, chunks_within, gone_of, made_for, draws_going}

abbrev sent_buffers : ℕ → List Draw → List ℕ
sent_buffers done drawn = map (λ (b : Unleased). b.chunk.number) (chunks_within 64 done (sends_of plain owner two_fills drawn).drawn)

-- the chunks that the first operations send, by the buffers that their pages drew
chunks_so_far : (sent_buffers 3 (Got 5 0 ∷ []) ≡ []) × (sent_buffers 4 (Got 5 0 ∷ Got 7 1 ∷ []) ≡ 5 ∷ []) × (sent_buffers 5 (Got 5 0 ∷ Got 7 1 ∷ []) ≡ 5 ∷ 7 ∷ []) × (sent_buffers 5 (Empty 0 ∷ Got 7 1 ∷ []) ≡ 7 ∷ [])
chunks_so_far = (refl, refl, refl, refl)

-- the draws of the pages that operations start: two on a new pool, the second alone behind three operations, and none between the points
draws_of_pages : (draws_going plain two_fills 0 5 2 [] ≡ Got 0 0 ∷ Got 1 1 ∷ []) × (draws_going plain two_fills 3 4 2 (pool.Got 0 ∷ []) ≡ Got 1 1 ∷ []) × (draws_going plain two_fills 2 3 2 (pool.Got 0 ∷ []) ≡ [])
draws_of_pages = (refl, refl, refl)

-- of a pool with one buffer the second page gets none
second_is_null : draws_going plain two_fills 0 5 1 [] ≡ Got 0 0 ∷ Empty 1 ∷ []
second_is_null = refl

-- a stride of two from the third operation, and no further than the last
strides : (done_behind 2 1 two_fills ≡ 3) × (done_behind 16 3 two_fills ≡ 5) × (done_behind 16 5 two_fills ≡ 5)
strides = (refl, refl, refl)

-- one of two that were sent is taken, so the other waits
one_waits : Waits {A = ℕ} 1 (5 ∷ 7 ∷ []) (7 ∷ [])
one_waits = (lit≤ tt, refl)

-- all are taken
none_waits : Waits {A = ℕ} 2 (5 ∷ 7 ∷ []) []
none_waits = (lit≤ tt, refl)

-- a crumb is taken, and no chunk
crumb_is_gone : (length (gone_of 64 (sends_of plain owner two_fills (Got 5 0 ∷ Got 7 1 ∷ [])) 4 0 1 0).crumbs ≡ 1) × (length (gone_of 64 (sends_of plain owner two_fills (Got 5 0 ∷ Got 7 1 ∷ [])) 4 0 1 0).chunks ≡ 0)
crumb_is_gone = (refl, refl)

-- a point counts once for each of its pieces
calls_of_ops : ((made_for plain owner two_fills).calls ≡ 5) × ((made_for plain owner (begin 1 ∷ Point 6 (replicate 70 0) ∷ End ∷ [])).calls ≡ 5)
calls_of_ops = (refl, refl)

-- a trace that is begun and ended is a client's
may_be_played : IsPlayable plain (begin 1 ∷ End ∷ [])
may_be_played =
    record {
      version = 1;
      client = record { words = (lit< tt, (tt, tt)); bracketed = (refl, (refl, refl)) };
      least = lit≤ tt;
      most = lit≤ tt;
      autos = record { few = lit≤ tt; each = λ k rule low. absurd (omega (arith, low)); declared = λ k rule low. absurd (omega (arith, low)) };
      few = lit≤ tt;
    }

-- ---- pages and pieces

buffers : (buffer_got 64 (Got 5 3) ≡ Some (record { chunk = clear_chunk 64 5; lease = tt })) × (buffer_got 64 (Empty 3) ≡ None)
buffers = (refl, refl)

abbrev a_piece : ℕ → Piece
a_piece number = record { number = number; moment = 7; payload = [] }

abbrev segment : List Piece → Segment
segment pieces = record { trace = t 1; pieces = pieces }

-- the newest segment gets the pieces, in their order
pieces_more : with_all (a_piece 1 ∷ a_piece 2 ∷ []) (segment (a_piece 0 ∷ []) ∷ segment [] ∷ []) ≡ segment (a_piece 0 ∷ a_piece 1 ∷ a_piece 2 ∷ []) ∷ segment [] ∷ []
pieces_more = refl

-- two points up to the end of the trace, and none where no trace is open
comes_next : (coming 64 3 (Some (t 1)) (Point 7 [] ∷ Point 7 [] ∷ End ∷ []) ≡ a_piece 3 ∷ a_piece 4 ∷ []) × (coming 64 3 None (begin 1 ∷ Point 7 [] ∷ End ∷ []) ≡ [])
comes_next = (refl, refl)

-- ---- what may be done

abbrev new : Working
new =
    record {
      core = new_core owner 64 9;
      autos = record { rule = Exception (record { 0 = 3 }); values = []; traces = [] } ∷ [];
      chunks = [];
      crumbs = [];
      triggers = [];
    }

-- a new client may begin a trace or fire a trigger, and nothing of it waits
begins_or_fires : MayDo [] (begin 1) new × MayDo [] (fire 6 1 1) new × HasNothing new
begins_or_fires = ((lit< tt, refl), tt, (refl, refl, refl))

-- the page of a draw that found the pool empty has no chunk
no_chunk : chunk_by 64 (record { header = record { trace = t 1; client = owner; page = 0; first = 0 }; pieces = [] }) (Empty 4) ≡ []
no_chunk = refl
