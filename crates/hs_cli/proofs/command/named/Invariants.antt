use Rattle.std.proofs.Common.{◌≡◌, map, string_bytes, take}
use Rattle.hs_cli.specs.Commands.{named}
use Rattle.hs_cli.proofs.command.named.Given as goal

abbrev pub invariant-loop-word : goal.invariant-loop-word
invariant-loop-word l = map (λ word. word.now) l.all.items ≡ named (map (λ word. string_bytes word) (take l.word-index l.fn.words))
