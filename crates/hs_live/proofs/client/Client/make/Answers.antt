use Rattle.std.proofs.Common.{◌≡◌, [], sym, subst}
use Rattle.hs_live.proofs.Prelude.{Writer, PlainClient, HasDone, made_of, live_of}
use Rattle.hs_live.proofs.Doing.{new_done}
use Rattle.hs_live.proofs.client.Client.make.Goals as goal

pub returns-clause-done : goal.returns-clause-done
returns-clause-done c =
    let with : Writer → PlainClient = λ w. live_of (record { writer = w; autos = c.args.autos; crumbs = c.args.crumbs; triggers = c.args.triggers }) in
    let parts : Writer = record { core = c.args.core; drawer = c.args.drawer; chunks = c.args.chunks } in
    let same : c.new.result ≡ parts = λ i. record { core = c.new.ensures.parts.0 i; drawer = c.new.ensures.parts.1 i; chunks = c.new.ensures.parts.2 i } in
    subst (λ (w : Writer). HasDone (made_of (with w)) [] (with w)) (sym same) (new_done (with parts) c.requires)
