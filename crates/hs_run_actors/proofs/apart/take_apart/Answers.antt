use Rattle.std.proofs.Common.{[], ◌∷◌, ◌++◌, List, length, map, refl, sym, ap, ◌∙◌, subst}
use Rattle.hs_run_actors.proofs.Prelude.{YieldsList-from_vec, YieldsList-turn, YieldsList-end, map-append, PlainClientBook, client_book_of, outgoing, PlainClientActor, AreNotes, IsDone}
use Rattle.hs_base.proofs.Parts.{map_self}
use Rattle.hs_run_actors.proofs.Parting.{all_at, one_noted, one_more}
use Rattle.hs_run_actors.proofs.apart.take_apart.Goals as goal

pub close-closed-requires : goal.close-closed-requires
close-closed-requires c =
    let all = YieldsList-from_vec {s = c.into_iter-caller-iterator.result} c.args.callers.items (cc) (cc) in
    let turn = YieldsList-turn all c.loop-caller.yielded c.loop-caller.caller-iterator c.loop-caller.yielded_by c.next.result c.next.new.self c.in-Some.caller c.in-Some.is c.next.ensures.steps in
    all_at IsDone c.args.callers.items (length c.loop-caller.yielded) c.in-Some.caller c.requires turn

pub loop-caller-preserved : goal.loop-caller-preserved
loop-caller-preserved c =
    let is = c.loop-caller.invariant in
    let yielded = c.loop-caller.yielded in
    let caller = c.in-Some.caller in
    let closed = c.close-closed.ensures in
    let apart = c.loop-caller.apart in
    let added = c.in_ok-add.ensures in (
      tt,
      tt,
      subst (λ (books : List PlainClientBook). AreNotes (yielded ++ caller ∷ []) books) (sym (ap (map client_book_of) added.books ∙ map-append client_book_of apart.books.items (c.close-closed.result.book ∷ [])))
          (one_noted yielded (map client_book_of apart.books.items) caller (client_book_of c.close-closed.result.book) is.2 closed.book),
      one_more (λ (k : PlainClientActor). k.client.drawer) yielded caller apart.drawers.items c.close-closed.result.drawer _ added.drawers is.3 closed.drawer,
      ap (map outgoing) added.chunks ∙ map-append outgoing apart.chunks.items (c.close-closed.result.chunks ∷ [])
          ∙ one_more (λ (k : PlainClientActor). k.client.chunks) yielded caller (map outgoing apart.chunks.items) (outgoing c.close-closed.result.chunks) _ refl is.4 closed.chunks,
      one_more (λ (k : PlainClientActor). k.client.crumbs) yielded caller apart.crumbs.items c.close-closed.result.crumbs _ added.crumbs is.5 closed.crumbs,
      one_more (λ (k : PlainClientActor). k.client.triggers) yielded caller apart.triggers.items c.close-closed.result.triggers _ added.triggers is.6 closed.triggers,
    )

pub returns-clause-books : goal.returns-clause-books
returns-clause-books c =
    let all = YieldsList-from_vec {s = c.into_iter-caller-iterator.result} c.args.callers.items (cc) (cc) in
    let last = YieldsList-end all c.loop-caller.yielded c.loop-caller.caller-iterator c.loop-caller.yielded_by c.next.result c.next.new.self c.in-None.is c.next.ensures.steps in
    subst (λ (l : List PlainClientActor). AreNotes l (map client_book_of c.loop-caller.apart.books.items)) (sym (map_self c.loop-caller.yielded) ∙ last.0) c.loop-caller.invariant.2

pub returns-clause-drawers : goal.returns-clause-drawers
returns-clause-drawers c =
    let all = YieldsList-from_vec {s = c.into_iter-caller-iterator.result} c.args.callers.items (cc) (cc) in
    let last = YieldsList-end all c.loop-caller.yielded c.loop-caller.caller-iterator c.loop-caller.yielded_by c.next.result c.next.new.self c.in-None.is c.next.ensures.steps in
    c.loop-caller.invariant.3 ∙ ap (map (λ (k : PlainClientActor). k.client.drawer)) (sym (map_self c.loop-caller.yielded) ∙ last.0)

pub returns-clause-chunks : goal.returns-clause-chunks
returns-clause-chunks c =
    let all = YieldsList-from_vec {s = c.into_iter-caller-iterator.result} c.args.callers.items (cc) (cc) in
    let last = YieldsList-end all c.loop-caller.yielded c.loop-caller.caller-iterator c.loop-caller.yielded_by c.next.result c.next.new.self c.in-None.is c.next.ensures.steps in
    c.loop-caller.invariant.4 ∙ ap (map (λ (k : PlainClientActor). k.client.chunks)) (sym (map_self c.loop-caller.yielded) ∙ last.0)

pub returns-clause-crumbs : goal.returns-clause-crumbs
returns-clause-crumbs c =
    let all = YieldsList-from_vec {s = c.into_iter-caller-iterator.result} c.args.callers.items (cc) (cc) in
    let last = YieldsList-end all c.loop-caller.yielded c.loop-caller.caller-iterator c.loop-caller.yielded_by c.next.result c.next.new.self c.in-None.is c.next.ensures.steps in
    c.loop-caller.invariant.5 ∙ ap (map (λ (k : PlainClientActor). k.client.crumbs)) (sym (map_self c.loop-caller.yielded) ∙ last.0)

pub returns-clause-triggers : goal.returns-clause-triggers
returns-clause-triggers c =
    let all = YieldsList-from_vec {s = c.into_iter-caller-iterator.result} c.args.callers.items (cc) (cc) in
    let last = YieldsList-end all c.loop-caller.yielded c.loop-caller.caller-iterator c.loop-caller.yielded_by c.next.result c.next.new.self c.in-None.is c.next.ensures.steps in
    c.loop-caller.invariant.6 ∙ ap (map (λ (k : PlainClientActor). k.client.triggers)) (sym (map_self c.loop-caller.yielded) ∙ last.0)
