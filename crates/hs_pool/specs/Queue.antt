-- How a pool lies in its queue. The queue has room for all its buffers, and those in it are clear and differ.
use Rattle.std.specs.Prelude.{◌≡◌, ◌<◌, nat_eq, None}
use Rattle.std.specs.List.{IsDistinct, AllByRecursion}
use Rattle.std.specs.VecDeque.{deque_capacity}
use Rattle.hs_words.specs.Chunks.{Contents}
use Rattle.hs_pool.specs.declared.plain.PlainPool.TheInside.{Inside}
use Rattle.hs_pool.specs.Pool.{Pool, waiting}

abbrev pub pool_of : Inside → Pool
pool_of a = record { buffers = deque_capacity a.queue; queue = a.queue.items; events = a.events }

pub record IsPool (a : Inside) : Type 0 where
  pub once : IsDistinct nat_eq (waiting (pool_of a))
  pub below : AllByRecursion (λ (chunk : Contents). chunk.number < deque_capacity a.queue) a.queue.items
  pub clear : AllByRecursion (λ (chunk : Contents). chunk.page ≡ None) a.queue.items
