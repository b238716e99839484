-- How the messages that are kept lie in places that are taken once.
use Rattle.std.specs.Prelude.{◌+◌, ◌≤◌, length, vec_capacity}
use Rattle.std.specs.VecDeque.{deque_capacity}
use Rattle.hs_receipts.specs.declared.receipts.Receipts.TheInside.{Inside}
use Rattle.hs_receipts.specs.Receipts.{PlainReceipts}

abbrev pub receipts_in : Inside → PlainReceipts
receipts_in a = record { most = a.most; waiting = a.waiting.items; out = a.out; served = a.served.items; done = a.done.items }

pub record IsKept (a : Inside) : Type 0 where
  pub few : length a.waiting.items + length a.served.items + length a.done.items ≤ a.most
  pub waiting : a.most ≤ vec_capacity a.waiting
  pub served : a.most ≤ vec_capacity a.served
  pub done : a.most ≤ deque_capacity a.done
