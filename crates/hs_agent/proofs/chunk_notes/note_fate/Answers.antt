use Rattle.std.proofs.Common.{◌≡◌, ◌<◌, length, slice_index_or, slice_set, sym, ap, ◌∙◌, arith}
use Rattle.hs_agent.proofs.Prelude.{option_map_or, slice_get-get_or, written_back}
use Rattle.hs_records.specs.declared.books.Standing.{Standing}
use Rattle.hs_base.specs.declared.told.Fate.TheVariants.{Null}
use Rattle.hs_agent.proofs.chunk_notes.note_fate.Goals as goal

abbrev none : Standing
none = record { client = record { node = 0; number = 0 }; page = 0; fate = Null 0 }

pub returns-then-place-standings : goal.returns-then-place-standings
returns-then-place-standings c =
    let lent = c.as_mut_slice-standings.result.now in
    let is : lent ≡ c.args.standings.now.items = c.as_mut_slice-standings.ensures.value in
    let within : c.args.place.0 < length c.args.standings.now.items = omega (arith, c.if-place-standings.true, ap length is) in
    written_back c.args.standings.now.items lent c.args.place.0 (record { client = (slice_index_or lent c.args.place.0 none).client; page = (slice_index_or lent c.args.place.0 none).page; fate = c.args.fate }) is
    ∙ ap (λ xs. slice_set c.args.standings.now.items c.args.place.0 (record { client = (slice_index_or xs c.args.place.0 none).client; page = (slice_index_or xs c.args.place.0 none).page; fate = c.args.fate })) is
    ∙ sym (ap (λ o. option_map_or (λ (standing : Standing). slice_set c.args.standings.now.items c.args.place.0 (record standing { fate = c.args.fate })) o c.args.standings.now.items)
    (slice_get-get_or c.args.standings.now.items c.args.place.0 none within))
