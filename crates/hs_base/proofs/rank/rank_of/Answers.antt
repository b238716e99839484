use Rattle.std.proofs.Common.{◌≡◌, ℕ, ap, ◌∙◌}
use Rattle.std.specs.Int.{w64, from_le_bytes}
use Rattle.rand_core.specs.Stream.{Stream}
use Rattle.rand_xoshiro.specs.SplitMix64.{mix_u64}
use Rattle.hs_base.proofs.RankLemmas.{first_word}
use Rattle.hs_base.proofs.rank.rank_of.Goals as goal

pub returns : goal.returns
returns c =
    let word : c.next_u64.result ≡ (mix_u64 c.from_seed-words.result).0 = ap (λ (p : ℕ × Stream). p.0) c.next_u64.ensures ∙ first_word c.from_seed-words.result in
    ap (λ (w : ℕ). record { word = w; trace = c.args.trace.0 })
    (word ∙ ap (λ s. (mix_u64 s).0) (c.from_seed-words.ensures ∙ ap (from_le_bytes w64) c.to_le_bytes.ensures))
