use Rattle.std.specs.Int.{w16, w64, to_be_bytes}
use Rattle.std.proofs.Common.{◌++◌, length, refl}
use Rattle.hs_words.specs.Pages.{piece_bytes}
use Rattle.hs_words.proofs.Parts.{put_next}
use Rattle.hs_words.proofs.layout.write_piece.Goals as goal

pub returns : goal.returns
unfolding piece_bytes
returns c =
    let old = c.args.buffer.now in
    let payload = c.args.payload.now in
    let len = to_be_bytes w16 (length payload) in
    let moment = to_be_bytes w64 c.args.moment in
    let a = put_next len moment old _ c.write_u64.new.buf 2 8 refl c.write_u16.ensures c.write_u64.ensures in
    put_next (len ++ moment) payload old _ c.copy_payload.new.buffer 10 (length payload) refl a c.copy_payload.ensures
