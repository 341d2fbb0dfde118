use Rattle.std.proofs.Common.{length, map, ap, subst, ◌∙◌}
use Rattle.node_cache.specs.Cache.{written_back}
use Rattle.node_cache.specs.Places.{IsWrittenWithin}
use Rattle.node_cache.specs.Writes.{KeepsForeignButPages, NarrowsButPages}
use Rattle.node_cache.proofs.FlushLaws.{all_range}
use Rattle.node_cache.proofs.Ranges.{all_within, same_within}
use Rattle.node_cache.proofs.cache.NodeCache.flush_all.Goals as goal

pub returns-in_err-count-clause-same_pages : goal.returns-in_err-count-clause-same_pages
returns-in_err-count-clause-same_pages g c = ap (map written_back) c.in_err-count.ensures.kept

pub returns-clause-pages : goal.returns-clause-pages
returns-clause-pages g c = all_within _ _ (subst (λ n. IsWrittenWithin 0 n c.args.self.now.pages c.write_back.new.self.pages) (c.len-len.ensures ∙ ap (λ v. length v.pages) c.self.view_is) c.in_ok-count.ensures.written)

pub returns-clause-same_pages : goal.returns-clause-same_pages
returns-clause-same_pages g c = same_within _ _ _ _ c.in_ok-count.ensures.written

pub returns-clause-outcomes : goal.returns-clause-outcomes
returns-clause-outcomes g c = λ told. subst (λ ws. NarrowsButPages c.args.s.now c.args.self.now.log c.args.pool.now ws (g.D.Disk.state c.args.disk.now).block (g.D.Disk.state c.write_back.new.disk).block) (all_range c.len-len.result c.args.self.now.pages (c.len-len.ensures ∙ ap (λ v. length v.pages) c.self.view_is)) (c.write_back.ensures.outcomes told)

pub returns-clause-foreign : goal.returns-clause-foreign
returns-clause-foreign g c = λ told. subst (λ ws. KeepsForeignButPages c.args.s.now c.args.self.now.log ws c.args.self.now.node.0 (g.D.Disk.state c.args.disk.now).block (g.D.Disk.state c.write_back.new.disk).block) (all_range c.len-len.result c.args.self.now.pages (c.len-len.ensures ∙ ap (λ v. length v.pages) c.self.view_is)) (c.write_back.ensures.foreign told)
