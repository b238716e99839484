use Rattle.std.proofs.Common.{ℕ, [], ◌∷◌, ◌++◌, take, sym, ap, ◌∙◌, subst, append_assoc, add-one, arith}
use Rattle.hs_outcome.proofs.Prelude.{Sheets, Spells, AreRead}
use Rattle.hs_base.specs.Listing.{Listing}
use Rattle.hs_outcome.proofs.Sent.{sheet_at, all_beside, read_more}
use Rattle.hs_outcome.proofs.pages.push_reported.Goals as goal

pub read_reported-requires : goal.read_reported-requires
read_reported-requires c =
    let at = sheet_at (λ (page : Listing ℕ). page.items) c.loop-bytes.bytes-index c.requires.0 c.args.sent.now c.bytes-item.result c.requires.1.valid c.requires.1.are (omega arith) c.bytes-item.is in
    (at.sheet, subst (Spells at.sheet) (sym c.as_slice.ensures) at.spells)

pub loop-bytes-preserved : goal.loop-bytes-preserved
loop-bytes-preserved c = λ before sheets read all.
    let i = c.loop-bytes.bytes-index in
    let at = sheet_at (λ (page : Listing ℕ). page.items) i sheets c.args.sent.now c.bytes-item.result all.valid all.are (omega arith) c.bytes-item.is in
    let joins = c.in_ok-read_reported.ensures at.sheet (subst (Spells at.sheet) (sym c.as_slice.ensures) at.spells) in
    subst (λ (s : Sheets). AreRead s c.read_reported.new.traces.keys c.push.new.self.items)
    (append_assoc before (take i sheets) (at.sheet ∷ []) ∙ ap (λ t. before ++ t) (sym at.next ∙ ap (λ n. take n sheets) (sym (add-one i))))
    (read_more (before ++ take i sheets) at.sheet _ _ _ _ c.in_ok-read_reported.field-0 (c.loop-bytes.invariant before sheets read all) joins c.in_ok-push.ensures.items)

pub returns : goal.returns
returns c = λ before sheets read all.
    subst (λ (s : Sheets). AreRead (before ++ s) c.loop-bytes.traces.keys c.loop-bytes.pages.items)
    (all_beside (λ (page : Listing ℕ). page.items) c.loop-bytes.bytes-index sheets c.args.sent.now all.are c.loop-bytes-test.false) (c.loop-bytes.invariant before sheets read all)
