-- The loan of a cache's log.
use Rattle.std.specs.Borrow.{Lends, MutBor, Fml}
use Rattle.private_log.specs.Log.{LogState}
use Rattle.private_log.specs.contracts.log.Log.{the_row as log_row}
use Rattle.node_cache.specs.contracts.cache.NodeCache.{the_row}
use Rattle.node_cache.specs.Cache.{CacheState}

-- the cache ends with the last log behind r, and with its node and its pages as they were
abbrev pub LendsLog : MutBor CacheState → MutBor LogState → Fml
LendsLog c r = Lends the_row log_row c r (λ log. record { log = log; node = c.now.node; pages = c.now.pages })
