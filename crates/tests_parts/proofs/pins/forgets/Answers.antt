use Rattle.std.proofs.Common.{◌≡◌, Bool, true, false, refl, sym, subst}
use Rattle.hs_base.specs.declared.told.Group.{Group}
use Rattle.hs_pins.specs.Remembered.{forgot}
use Rattle.hs_pins.specs.PinsLayout.{Pinning, Remembers}
use Rattle.tests_with.specs.Claims.{IsReady}
use Rattle.tests_parts.proofs.pins.forgets.Goals as goal

ready_still : {L : Type 0} (old new : Pinning L) (group : Group) (did : Bool) (ready : IsReady 0 old) → (did ≡ true → Remembers new (forgot group ready.0)) → (did ≡ false → new ≡ old) → IsReady 0 new
ready_still old new group true ready after same = (forgot group ready.0, after refl, record { declared = ready.2.declared; few = ready.2.few })
ready_still old new group false ready after same = subst (IsReady 0) (sym (same refl)) ready

pub returns : goal.returns
returns c =
    ready_still c.args.pins.now c.forget.new.self c.group_of.result c.forget.result c.requires (c.forget.ensures.after c.requires.0 c.requires.1) c.forget.ensures.same
