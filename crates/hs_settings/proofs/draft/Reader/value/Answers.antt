use Rattle.std.proofs.Common.{◌≤◌, ℕ, sym, subst}
use Rattle.hs_settings.specs.Settings.{most_of}
use Rattle.hs_settings.specs.Forward.{past_of}
use Rattle.hs_settings.proofs.Values.{value_within}
use Rattle.hs_settings.proofs.draft.Reader.value.Goals as goal

pub returns-clause-most : goal.returns-clause-most
returns-clause-most c = subst (λ (n : ℕ). n ≤ most_of c.args.setting) (sym c.number.ensures) (value_within (past_of c.args.self.now).givens c.args.setting c.requires).1
