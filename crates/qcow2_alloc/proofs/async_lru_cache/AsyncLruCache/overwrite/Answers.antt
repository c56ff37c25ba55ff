use Rattle.std.proofs.Common.{subst, sym, List}
use Rattle.std.specs.Prelude.{IsSome}
use Rattle.std.specs.Map.{lookup}
use Rattle.qcow2_alloc.proofs.Caching.Entries.{lookup_written}
use Rattle.qcow2_alloc.proofs.async_lru_cache.AsyncLruCache.overwrite.Goals as goal

pub put_over-requires : goal.put_over-requires
put_over-requires g c =
    let f = c.in-Ok.ensures.flushed in
    let test = g.K.PartialEq.eq c.args.key in
    subst (λ (l : List _). IsSome (lookup test l)) (sym f.entries) (lookup_written test c.args.self.now.slots.entries (record f.slot { value = f.value }) c.requires)
