-- The order of clients: by node, and at one node by number.
use Rattle.std.specs.Prelude.{◌≡◌, ◌==◌, ◌&&◌, ◌||◌, Bool, true, false, nat_lt, refl}
use Rattle.hs_base.specs.declared.ids.ClientId.{ClientId}
use Rattle.hs_base.specs.Ids.{client_of}

-- whether a client comes behind another
abbrev pub is_behind : ClientId → ClientId → Bool
is_behind client other = nat_lt other.node client.node || (client.node == other.node && nat_lt other.number client.number)

-- ---- worked examples

at_a_later_node : is_behind (client_of 1 0) (client_of 0 5) ≡ true
at_a_later_node = refl

later_at_its_node : is_behind (client_of 0 5) (client_of 0 4) ≡ true
later_at_its_node = refl

not_behind_itself : is_behind (client_of 0 4) (client_of 0 4) ≡ false
not_behind_itself = refl

at_an_earlier_node : is_behind (client_of 0 5) (client_of 1 0) ≡ false
at_an_earlier_node = refl
