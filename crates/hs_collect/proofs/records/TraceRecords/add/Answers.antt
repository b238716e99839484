use Rattle.std.proofs.Common.{◌≡◌, ◌≤◌, ◌++◌, List, length, map, sym, ap, ◌∙◌, subst, arith, length-append}
use Rattle.hs_collect.proofs.Prelude.{length-map, piece_of, TraceRecord, Placed, placed_of, wholes_of, Joins}
use Rattle.hs_collect.proofs.Joined.{length-joined}
use Rattle.hs_collect.proofs.Page.{records_added}
use Rattle.hs_collect.proofs.records.TraceRecords.add.Goals as goal

-- as many records as before the first piece was joined
same_length : (old new : List TraceRecord) → length (map placed_of new) ≡ length (map placed_of old) → length new ≡ length old
same_length old new same = omega (arith, same, length-map old placed_of, length-map new placed_of)

-- none is lost where more are appended
not_shorter : (old new : List TraceRecord) (more : List Placed) → map placed_of new ≡ map placed_of old ++ more → length old ≤ length new
not_shorter old new more appends =
    omega (arith, ap length appends, length-append (map placed_of old) more, length-map old placed_of, length-map new placed_of)

pub append-requires-clause-room : goal.append-requires-clause-room
append-requires-clause-room c =
    let points = map piece_of c.args.page.points.items in
    let long : length c.join_first.new.self.entries.items ≡ length c.reserve.new.self.items =
    same_length c.reserve.new.self.items c.join_first.new.self.entries.items
    (length-joined c.args.page.header c.place_behind-place.result (map placed_of c.reserve.new.self.items) points c.in_ok-joined.joined (wholes_of c.join_first.new.self) c.in_ok-joined.ensures.joins) in
    omega (arith, long, c.in_ok-joined.ensures.room, c.in_ok-reserve.ensures.ok, c.len.ensures)

pub move_before-requires-clause-order : goal.move_before-requires-clause-order
move_before-requires-clause-order c =
    let points = map piece_of c.args.page.points.items in
    let long : length c.join_first.new.self.entries.items ≡ length c.reserve.new.self.items =
    same_length c.reserve.new.self.items c.join_first.new.self.entries.items
    (length-joined c.args.page.header c.place_behind-place.result (map placed_of c.reserve.new.self.items) points c.in_ok-joined.joined (wholes_of c.join_first.new.self) c.in_ok-joined.ensures.joins) in
    omega (arith, long, c.len-middle.ensures, c.place_behind-place.ensures.bound, ap length c.in_ok-reserve.ensures.items)

pub move_before-requires-clause-within : goal.move_before-requires-clause-within
move_before-requires-clause-within c =
    omega (arith, not_shorter c.join_first.new.self.entries.items c.append.new.self.entries.items _ c.append.ensures, c.len-middle.ensures)

pub returns-clause-ok : goal.returns-clause-ok
returns-clause-ok c = λ pieces are.
    let old = wholes_of c.args.self.now in
    let header = c.args.page.header in
    let points = map piece_of c.args.page.points.items in
    let place = c.place_behind-place.result in
    let joins : Joins header place old points c.in_ok-joined.joined (wholes_of c.join_first.new.self) =
    subst (λ (ws : List Placed). Joins header place ws points c.in_ok-joined.joined (wholes_of c.join_first.new.self)) (ap (map placed_of) c.in_ok-reserve.ensures.items) c.in_ok-joined.ensures.joins in
    let middle : c.len-middle.result ≡ length (wholes_of c.join_first.new.self) = c.len-middle.ensures ∙ sym (length-map c.join_first.new.self.entries.items placed_of) in
    let within : place ≤ length old = omega (arith, c.place_behind-place.ensures.bound, length-map c.args.self.now.entries.items placed_of) in
    records_added pieces old (wholes_of c.join_first.new.self) (wholes_of c.append.new.self) (wholes_of c.move_before.new.self) header points c.in_ok-joined.joined place c.len-middle.result c.from.result within
    c.place_behind-place.ensures.place c.requires.later joins c.from.ensures c.append.ensures middle c.move_before.ensures are
