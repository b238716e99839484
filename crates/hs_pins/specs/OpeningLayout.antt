-- How the groups of which one is open lie in their fields.
use Rattle.std.specs.Prelude.{◌-◌, map}
use Rattle.std.specs.VecDeque.{deque_len, deque_capacity}
use Rattle.hs_words.specs.Buffers.{buffer_of}
use Rattle.hs_pins.specs.declared.pinned.opened.Opened.TheInside.{Inside}
use Rattle.hs_pins.specs.Opening.{OpenGroups, with_pile, IsOpen}

abbrev pub opened_in : {L : Type 0} {g : _} → Inside L g → OpenGroups L
opened_in a = record { groups = with_pile a.groups.entries a.priority (map buffer_of a.pile.items); priority = a.priority; room = deque_capacity a.pile - deque_len a.pile }

abbrev pub IsOpened : {L : Type 0} {g : _} → Inside L g → Type 0
IsOpened a = IsOpen a.groups.entries a.priority (map buffer_of a.pile.items) a.chunks
