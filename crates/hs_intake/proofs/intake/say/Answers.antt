use Rattle.std.proofs.Common.{◌≡◌, ℕ, [], ◌∷◌, Option, Some, None, Ok, Err, refl, sym, subst, ap, ◌∙◌}
use Rattle.std.specs.Prelude.{Result, OnOk}
use Rattle.hs_base.specs.declared.told.Told.{Told}
use Rattle.hs_claimed.specs.Claims.{PlainClaims, after_named}
use Rattle.hs_mail.specs.Letters.{Letters, after, Causes}
use Rattle.hs_mail.specs.declared.mail.Unposted.{Unposted}
use Rattle.hs_wire.specs.Messages.{SaysTold}
use Rattle.hs_intake.specs.Intakes.{says, SaysIt}
use Rattle.hs_intake.proofs.intake.say.Goals as goal

said_now : (old new : Letters) (s s' : PlainClaims) (told : Told) (answer : Result ℕ Unposted) (number : ℕ) → answer ≡ Ok number → OnOk answer (new ≡ after old (says told)) → Causes old (SaysTold told) answer
    → s' ≡ after_named s told.group.id told.crumbs number → SaysIt old s (Some told) new s' None
said_now old new s s' told (Ok n) number good done cause noted =
    let same : n ≡ number = cc in
    record { said = told ∷ []; mail = done; put = ((refl, cause.1), tt); all = refl; noted = noted ∙ ap (λ (k : ℕ). after_named s told.group.id told.crumbs k) (sym same ∙ cause.0) }
said_now old new s s' told (Err fault) number good done cause noted = absurd cc

pub returns-in-Ok : goal.returns-in-Ok
returns-in-Ok c =
    subst (λ (o : Option Told). SaysIt c.args.mail.now c.args.claims.now o c.told.new.self c.named.new.self None) (sym c.in-Some.is)
    (said_now c.args.mail.now c.told.new.self c.args.claims.now c.named.new.self c.in-Some.told c.told.result c.in-Ok.number c.in-Ok.is c.told.ensures.done c.told.ensures.cause c.named.ensures.after)
