use Rattle.std.proofs.Common.{sym, ap, ◌∙◌, subst}
use Rattle.hs_collect.proofs.Prelude.{AreCollected}
use Rattle.indexmap.specs.IndexMap.{insert_entry}
use Rattle.indexmap.proofs.CallerLemmas.{insert_entry-new}
use Rattle.hs_base.proofs.Options.{on_ok_map, on_err_map}
use Rattle.hs_words.specs.Pages.{sheet_of}
use Rattle.hs_collect.proofs.Seen.{is_trace}
use Rattle.hs_collect.proofs.Added.{behind_found, fits_own, collected_found, kept_found, collected_new}
use Rattle.hs_collect.proofs.collector.Collector.add.Goals as goal

pub add-requires-clause-later : goal.add-requires-clause-later
add-requires-clause-later c =
    let r = c.requires in
    behind_found r.0 r.1 (sheet_of c.in-Ok.page) c.self.inside.traces.entries c.in-Some.records.now (subst (AreCollected r.0) (sym c.self.view_is) r.2) (c.in-Ok.ensures.page r.1 r.3) r.4 c.in-Some.ensures.value

pub add-requires-2-clause-fits : goal.add-requires-2-clause-fits
add-requires-2-clause-fits c =
    let r = c.requires in
    fits_own r.0 r.1 (sheet_of c.in-Ok.page) (c.in-Ok.ensures.page r.1 r.3) r.4

pub returns-in-Some-clause-ok : goal.returns-in-Some-clause-ok
returns-in-Some-clause-ok c =
    on_ok_map c.add.result _ _
    (λ takes sheets sheet collected spells.
    collected_found sheets sheet (sheet_of c.in-Ok.page) c.self.inside.traces.entries (c.get_mut.follows.lender c.add.new.self).entries c.in-Some.records.now c.add.new.self
    (subst (AreCollected sheets) (sym c.self.view_is) collected) (c.in-Ok.ensures.page sheet spells) c.in-Some.ensures.value c.in-Some.ensures.unique
    (c.get_mut.follows.holds c.add.new.self).0 takes)
    c.add.ensures.ok

pub returns-in-Some-clause-memory : goal.returns-in-Some-clause-memory
returns-in-Some-clause-memory c =
    on_err_map c.add.result _ _
    (λ same.
    kept_found c.in-Ok.page.header.trace c.self.inside.traces.entries (c.get_mut.follows.lender c.add.new.self).entries c.in-Some.records.now c.add.new.self c.in-Some.ensures.value
    (c.get_mut.follows.holds c.add.new.self).0 same
    ∙ c.self.view_is)
    c.add.ensures.err

pub returns-clause-ok : goal.returns-clause-ok
returns-clause-ok c = λ sheets sheet collected spells.
    let new = c.add-2.new.self in
    collected_new sheets sheet (sheet_of c.in-Ok.page) c.self.inside.traces.entries c.insert.new.self.entries c.none-records.result new (subst (AreCollected sheets) (sym c.self.view_is) collected)
    (c.in-Ok.ensures.page sheet spells) c.in_default-get_mut.ensures.value
    (c.in_ok-insert.ensures.entries ∙ ap (λ m. insert_entry is_trace m.entries c.in-Ok.page.header.trace new) c.get_mut.follows.holds-at-none
    ∙ insert_entry-new is_trace c.self.inside.traces c.in-Ok.page.header.trace new (sym c.in_default-get_mut.ensures.value))
    c.none-records.ensures c.in_ok-add.ensures.ok
