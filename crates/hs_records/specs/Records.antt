-- The records of a client and the pieces of their payloads: each point is a record of the trace that is open, and the first one
-- has the number 0. A payload that fits a page of its own is one piece; a longer one gives its front as a piece, and what is left
-- of it is cut again. A segment is the pieces between a begin and its end.
use Rattle.std.specs.Prelude.{◌≡◌, ℕ, zero, suc, ◌+◌, ◌-◌, nat_le, Bool, true, false, List, [], ◌∷◌, ◌++◌, length, take, drop, map, replicate, Option, Some, None, refl}
use Rattle.std.specs.List.{flat_map}
use Rattle.hs_base.specs.declared.ids.TraceId.{TraceId}
use Rattle.hs_base.specs.declared.limits.TheConstants.{FRAME_COST, MIN_SIZE, MAX_PAYLOAD}
use Rattle.hs_records.specs.Plain.{Operation, Begin, Point, Crumb, End, Fire}

-- ---- where operations stand

-- an operation of a client, with its number among them and the trace that is open when it comes
pub record NumberedOperation : Type 0 where
  pub number : ℕ
  pub trace : Option TraceId
  pub operation : Operation

-- the trace that is open behind an operation
abbrev pub open_behind : Option TraceId → Operation → Option TraceId
open_behind trace (Begin next) = Some next
open_behind trace End = None
open_behind trace operation = trace

-- operations from this number on, the first of which finds this trace open
abbrev pub numbered_from : ℕ → Option TraceId → List Operation → List NumberedOperation
numbered_from number trace [] = []
numbered_from number trace (operation ∷ ops) =
    record { number = number; trace = trace; operation = operation } ∷ numbered_from (number + 1) (open_behind trace operation) ops

-- the operations of a client, which has no trace open before its first begin
abbrev pub numbered_of : List Operation → List NumberedOperation
numbered_of ops = numbered_from 0 None ops

-- From a client's start or within a trace, a trace is begun where none is open, points stand and it is ended where one
-- is open, and none is open at the end.
abbrev pub AreBracketed : Bool → List Operation → Type 0
AreBracketed is_open [] = is_open ≡ false
AreBracketed is_open (Begin trace ∷ operations) = (is_open ≡ false) × AreBracketed true operations
AreBracketed is_open (End ∷ operations) = (is_open ≡ true) × AreBracketed false operations
AreBracketed is_open (Fire trigger ∷ operations) = AreBracketed is_open operations
AreBracketed is_open (operation ∷ operations) = (is_open ≡ true) × AreBracketed is_open operations

-- ---- records

pub record Record : Type 0 where
  pub trace : TraceId
  pub moment : ℕ
  pub payload : List ℕ

-- the record of a point where a trace is open
abbrev pub record_in : Option TraceId → Operation → List Record
record_in None operation = []
record_in (Some trace) (Point moment payload) = record { trace = trace; moment = moment; payload = payload } ∷ []
record_in (Some trace) operation = []

abbrev pub record_at : NumberedOperation → List Record
record_at op = record_in op.trace op.operation

-- the records of a client
abbrev pub records_of : List Operation → List Record
records_of ops = flat_map record_at (numbered_of ops)

-- ---- pieces

-- the most bytes of a payload that a page holds as one piece
abbrev pub piece_limit : ℕ → ℕ
piece_limit size = size - FRAME_COST

-- the pieces of a payload that is cut at most so often
abbrev pub cut_within : (most limit : ℕ) → List ℕ → List (List ℕ)
cut_within zero limit payload = payload ∷ []
cut_within (suc most) limit payload =
    elim (nat_le (length payload) limit) [ true ↦ payload ∷ [] | false ↦ take limit payload ∷ cut_within most limit (drop limit payload) ]

-- the pieces of a payload: no cut takes less than a byte
abbrev pub payload_pieces : ℕ → List ℕ → List (List ℕ)
payload_pieces size payload = cut_within (length payload) (piece_limit size) payload

-- how often so many bytes are cut
abbrev pub count_cuts : (most limit bytes : ℕ) → ℕ
count_cuts zero limit bytes = 0
count_cuts (suc most) limit bytes = elim (nat_le bytes limit) [ true ↦ 0 | false ↦ count_cuts most limit (bytes - limit) + 1 ]

-- how many pieces a payload of so many bytes has: one more than its cuts
abbrev pub piece_count : (size bytes : ℕ) → ℕ
piece_count size bytes = count_cuts bytes (piece_limit size) bytes + 1

-- a part of a record's payload, with the record's number and moment
pub record Piece : Type 0 where
  pub number : ℕ
  pub moment : ℕ
  pub payload : List ℕ

-- the pieces of a record
abbrev pub record_pieces : ℕ → ℕ → ℕ → List ℕ → List Piece
record_pieces size number moment payload = map (λ bytes. record { number = number; moment = moment; payload = bytes }) (payload_pieces size payload)

-- ---- segments

pub record Segment : Type 0 where
  pub trace : TraceId
  pub pieces : List Piece

-- the pieces of the points up to the end, the first of which is the record of this number
abbrev pub pieces_until_end : ℕ → ℕ → List Operation → List Piece
pieces_until_end size number [] = []
pieces_until_end size number (End ∷ ops) = []
pieces_until_end size number (Point moment payload ∷ ops) = record_pieces size number moment payload ++ pieces_until_end size (number + 1) ops
pieces_until_end size number (operation ∷ ops) = pieces_until_end size number ops

-- the pieces that further operations add to the open trace, if one is open
abbrev pub coming : (size number : ℕ) → Option TraceId → List Operation → List Piece
coming size number None operations = []
coming size number (Some trace) operations = pieces_until_end size number operations

-- the segments of operations, the first point of which is the record of this number
abbrev pub segments_from : ℕ → ℕ → List Operation → List Segment
segments_from size number [] = []
segments_from size number (Begin trace ∷ ops) = record { trace = trace; pieces = pieces_until_end size number ops } ∷ segments_from size number ops
segments_from size number (Point moment payload ∷ ops) = segments_from size (number + 1) ops
segments_from size number (operation ∷ ops) = segments_from size number ops

abbrev pub segments_of : ℕ → List Operation → List Segment
segments_of size ops = segments_from size 0 ops

-- worked examples, at the least size: a piece has at most 30 bytes
abbrev one : TraceId
one = record { 0 = 1 }

whole_in_one_piece : piece_count 64 30 ≡ 1
whole_in_one_piece = refl

no_bytes_are_a_piece : payload_pieces 64 [] ≡ [] ∷ []
no_bytes_are_a_piece = refl

two_full_pieces : piece_count 64 60 ≡ 2
two_full_pieces = refl

cut_in_three : payload_pieces 64 (replicate 70 7) ≡ replicate 30 7 ∷ replicate 30 7 ∷ replicate 10 7 ∷ []
cut_in_three = refl

-- the longest payload, on pages of the least size
most_pieces : piece_count MIN_SIZE MAX_PAYLOAD ≡ 2185
most_pieces = refl

empty_segment : segments_of 64 (Begin one ∷ End ∷ []) ≡ record { trace = one; pieces = [] } ∷ []
empty_segment = refl

-- the point is the second operation and finds the trace open, and nothing is open behind the end
open_traces : map (λ op. op.trace) (numbered_of (Begin one ∷ Point 7 [] ∷ End ∷ Crumb (record { 0 = 0 }) ∷ [])) ≡ None ∷ Some one ∷ Some one ∷ None ∷ []
open_traces = refl

two_records : records_of (Begin one ∷ Point 7 [] ∷ Crumb (record { 0 = 0 }) ∷ Point 8 (5 ∷ []) ∷ End ∷ [])
    ≡ record { trace = one; moment = 7; payload = [] } ∷ record { trace = one; moment = 8; payload = 5 ∷ [] } ∷ []
two_records = refl
