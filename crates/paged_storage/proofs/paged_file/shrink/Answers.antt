use Rattle.std.proofs.Common.{subst, ℕ, Contains}
use Rattle.std.specs.Prelude.{Vec}
use Rattle.std.specs.Global.{Global}
use Rattle.lru.specs.LruCache.{LruCache}
use Rattle.lru.proofs.CallerLemmas.{Contains-take}
use Rattle.paged_storage.proofs.paged_file.shrink.Goals as goal

pub returns : goal.returns
returns c = λ n page there.
    Contains-take _ c.args.pages.now.entries (n, page) (subst (λ (l : LruCache ℕ (Vec ℕ Global)). Contains l.entries (n, page)) c.resize.ensures there)
