-- The rank of a trace, which comes from its id alone: the id is folded to 64 bits, which seed a generator, and the generator's
-- first word is the rank. So nodes that are short of room let the same traces go without asking each other. Two ids may come to
-- one word, and the smaller id is then the smaller rank.
use Rattle.std.specs.Prelude.{◌≡◌, ℕ, ◌*◌, ◌/◌, ◌%◌, ◌^◌, bit_xor, refl}
use Rattle.std.specs.Int.{w64, to_le_bytes, from_le_bytes}
use Rattle.rand_xoshiro.specs.SplitMix64.{mix_u64}
use Rattle.hs_base.specs.declared.ids.TraceId.{TraceId}
use Rattle.hs_base.specs.declared.ids.Rank.{Rank}

-- the two halves of an id, folded into one
abbrev pub seed_of : ℕ → ℕ
seed_of trace = bit_xor (trace % 2 ^ 64) (trace / 2 ^ 64)

-- the first word of SplitMix64, which takes its seed as eight bytes, the lowest first
abbrev pub word_of : ℕ → ℕ
word_of trace = (mix_u64 (from_le_bytes w64 (to_le_bytes w64 (seed_of trace)))).0

abbrev pub trace_rank : TraceId → Rank
trace_rank trace = record { word = word_of trace.0; trace = trace.0 }

-- the published first words from the seed 0 are these ids' words
word_of_zero : word_of 0 ≡ 0xe220a8397b1dcdaf
word_of_zero = refl

word_of_second : word_of 0x9e3779b97f4a7c15 ≡ 0x6e789e6aa1b965f4
word_of_second = refl

-- an id whose low half is 0 has the word of its high half
word_of_wide : word_of (0x9e3779b97f4a7c15 * 2 ^ 64) ≡ 0x6e789e6aa1b965f4
word_of_wide = refl
