use Rattle.std.proofs.Common.{◌≡◌, drop}
use Rattle.hs_text.specs.Spelling.{spelled}
use Rattle.hs_text.proofs.spelled.spelled_word.Given as goal

abbrev pub invariant-loop-known : goal.invariant-loop-known
invariant-loop-known g l = spelled g.W.Spelled.spelling (drop l.known-index l.known-items) l.word ≡ spelled g.W.Spelled.spelling g.W.Spelled.every l.word
