use Rattle.std.proofs.Common.{refl, subst, sym, List, ℕ}
use Rattle.imago_storage.proofs.Composing.{keeps_on}
use Rattle.imago_formats.proofs.StorageLemmas.{read_faultless}
use Rattle.access_cases.specs.Clusters.{IsHeldIn}
use Rattle.access_cases.proofs.FileWrites.{same_layer}
use Rattle.access_cases.proofs.file_reads.OneClusterReadFiles.read_file.Goals as goal

pub returns-then-file-eq0-clause-read : goal.returns-then-file-eq0-clause-read
returns-then-file-eq0-clause-read g c =
    let d = c.args.self.now in
    let old = g.S.Storage.state d.file in
    let new = g.S.Storage.state c.read.new.self in
    let kept = c.read.ensures.unchanged_but_faults in
    record {
      layer = same_layer old new d d.failed kept.shape kept.bytes refl;
      unchanged_but_faults = ((kept, c.read.ensures.counts_not_fallen.faults), tt);
      faults = λ whole. (read_faultless c.read.result old new c.args.offset _ kept c.read.ensures.faults c.read.ensures.err whole, tt);
      seen = λ coherent. tt;
      safely = λ well_formed. record {
        runs = well_formed.runs;
        keeps = keeps_on old new kept.shape well_formed.keeps;
        fits = subst (λ (f : List ℕ). IsHeldIn d.size d.backed f d.content) (sym kept.bytes) well_formed.fits;
      };
      stilled = λ s. s;
      stays_stable = λ l. l;
      excess_refcount = λ s c. refl;
      room = λ well_formed. record { stays_allocated = λ p there has. has; free = λ p there is. is; zeroes = λ p there there' is. is };
      stays_begun = λ x call begun. begun;
    }
