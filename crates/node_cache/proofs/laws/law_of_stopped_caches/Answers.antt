use Rattle.node_cache.proofs.StoppedCache.{among_all, among_leaving, among_one, stopped_changed, stopped_clean}
use Rattle.node_cache.proofs.laws.law_of_stopped_caches.Goals as goal

pub returns : goal.returns
returns c = record {
  clean = λ s pool c pages old new store tie is among narrows disk. stopped_clean s pool c pages old new store tie is.once among narrows disk.clean;
  changed = λ s pool c pages xs old new store tie is among narrows ahead records. stopped_changed s pool c pages old new store tie is.once among narrows xs records.before ahead;
  all = among_all;
  one = among_one;
  leaving = among_leaving;
}
