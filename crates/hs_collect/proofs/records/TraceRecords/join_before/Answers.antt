use Rattle.std.proofs.Common.{◌≡◌, ◌-◌, ◌<◌, ◌++◌, suc, get_or, length, Result, Ok, Err, OnErr, ap, ◌∙◌, arith}
use Rattle.hs_collect.proofs.Prelude.{wholes_of, join_at}
use Rattle.hs_collect.proofs.Lent.{after_join, after_none, before_is, if_not_ne, if_ne}
use Rattle.hs_collect.proofs.records.TraceRecords.join_before.Goals as goal

on_err : {X Y : Type 0} (r : Result X Y) (P : Type 0) → P → OnErr r P
on_err (Ok x) P fact = tt
on_err (Err e) P fact = fact

pub returns-clause-joined : goal.returns-clause-joined
returns-clause-joined c =
    let old = c.args.self.now.entries.items in
    let place : c.in-Some.last ≡ c.args.place - 1 = omega (arith, c.in-Some.ensures) in
    let within : c.in-Some.last < length old = omega (arith, c.in-Some.ensures, c.requires) in
    after_join old c.as_mut_slice.result.now c.in-Some.last c.index-as_mut_slice-last.result c.join.new.payload c.args.piece.now.payload.items c.as_mut_slice.ensures.value within c.index-as_mut_slice-last.is
    (c.in_ok-join.ensures.ok
    ∙ ap (λ bytes. (get_or c.as_mut_slice.result.now c.in-Some.last c.index-as_mut_slice-last.result).payload.items ++ bytes) c.as_slice.ensures)
    ∙ ap (λ last. join_at last c.args.piece.now.payload.items (wholes_of c.args.self.now)) place

pub returns-in_err-join-clause-err : goal.returns-in_err-join-clause-err
returns-in_err-join-clause-err c =
    let old = c.args.self.now.entries.items in
    let within : c.in-Some.last < length old = omega (arith, c.in-Some.ensures, c.requires) in
    on_err c.from_residual.result _
    (after_none old c.as_mut_slice.result.now c.in-Some.last c.index-as_mut_slice-last.result c.join.new.payload c.as_mut_slice.ensures.value within c.index-as_mut_slice-last.is c.in_err-join.ensures.err)

pub returns-clause-its : goal.returns-clause-its
returns-clause-its c =
    let place : c.args.place ≡ suc c.in-Some.last = omega (arith, c.in-Some.ensures) in
    let within : c.in-Some.last < length c.args.self.now.entries.items = omega (arith, c.in-Some.ensures, c.requires) in
    if_not_ne _ c.if-ne.ensures
    ∙ before_is c.args.self.now.entries.items c.as_mut_slice.result.now c.args.place c.in-Some.last c.index-as_mut_slice-last.result c.args.id c.as_mut_slice.ensures.value place within

pub returns-then-ne-clause-its : goal.returns-then-ne-clause-its
returns-then-ne-clause-its c =
    let place : c.args.place ≡ suc c.in-Some.last = omega (arith, c.in-Some.ensures) in
    let within : c.in-Some.last < length c.args.self.now.entries.items = omega (arith, c.in-Some.ensures, c.requires) in
    if_ne _ c.if-ne.ensures
    ∙ before_is c.args.self.now.entries.items c.as_mut_slice.result.now c.args.place c.in-Some.last c.index-as_mut_slice-last.result c.args.id c.as_mut_slice.ensures.value place within
