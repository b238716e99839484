use Rattle.std.specs.Int.{w16, w32, w128, to_be_bytes}
use Rattle.std.proofs.Common.{◌++◌, refl}
use Rattle.hs_words.specs.Pages.{header_bytes}
use Rattle.hs_words.proofs.Parts.{put_next}
use Rattle.hs_words.proofs.Layouts.{still_nothing}
use Rattle.hs_words.proofs.layout.write_header.Goals as goal

pub returns-clause-bytes : goal.returns-clause-bytes
unfolding header_bytes
returns-clause-bytes c =
    let old = c.args.buffer.now in
    let h = c.args.header in
    let trace = to_be_bytes w128 h.trace.0 in
    let node = to_be_bytes w16 h.client.node in
    let number = to_be_bytes w16 h.client.number in
    let page = to_be_bytes w32 h.page in
    let first = to_be_bytes w32 h.first in
    let a = put_next trace node old _ c.write_u16.new.buf 16 2 refl c.write_u128.ensures c.write_u16.ensures in
    let b = put_next (trace ++ node) number old _ c.write_u16-2.new.buf 18 2 refl a c.write_u16-2.ensures in
    let d = put_next (trace ++ node ++ number) page old _ c.write_u32.new.buf 20 4 refl b c.write_u32.ensures in
    put_next (trace ++ node ++ number ++ page) first old _ c.write_u32-2.new.buf 24 4 refl d c.write_u32-2.ensures

pub returns-clause-shows : goal.returns-clause-shows
returns-clause-shows c = still_nothing c.args.header c.args.buffer.now _ (returns-clause-bytes c) c.requires
