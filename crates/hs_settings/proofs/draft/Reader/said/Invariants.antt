use Rattle.std.proofs.Common.{◌≡◌, drop}
use Rattle.hs_settings.specs.Settings.{said_of}
use Rattle.hs_settings.proofs.draft.Reader.said.Given as goal

abbrev pub invariant-loop-given : goal.invariant-loop-given
invariant-loop-given l = said_of (drop l.given-index l.given-items) l.setting ≡ said_of l.self.givens.items l.setting
