-- The first word of SplitMix64 from a state.
use Rattle.std.proofs.Common.{◌≡◌, ℕ, refl}
use Rattle.rand_core.specs.Stream.{next_u64}
use Rattle.rand_core.specs.Steps.{stream_of}
use Rattle.rand_xoshiro.specs.SplitMix64.{mix_u64, splitmix_steps}

pub first_word : (s : ℕ) → (next_u64 (stream_of splitmix_steps s)).0 ≡ (mix_u64 s).0
unfolding next_u64 stream_of
first_word s = refl
