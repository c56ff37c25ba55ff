use Rattle.std.proofs.Common.{ℕ, ◌-◌, ◌++◌, ◌∷◌, [], arith, ap, sym, ◌∙◌, List, length}
use Rattle.qcow2_types.specs.Pending.{FreeEntry}
use Rattle.qcow2_alloc.specs.FreeList.{FreeList}
use Rattle.qcow2_clusters.proofs.LongerTables.{run-of-some}
use Rattle.qcow2_clusters.proofs.lengthening.give_up_l1.Goals as goal

abbrev list_with : List FreeEntry → ℕ → List FreeEntry → FreeList
list_with entries held more = record { entries = entries ++ more; held = held - 1 }

pub returns-in-Some : goal.returns-in-Some
returns-in-Some c =
    let l1 = c.args.l1.now in
    let list = c.args.to_free.now in
    let some = c.if-entries-gt0.true in
    let long = c.entries.ensures.value in
    let entry = c.new.ensures ∙ c.metadata-entry.ensures in
    let run = run-of-some l1.layout.cluster_bits c.in-Some.cluster c.cluster_count-count.result (length l1.raw_entries) l1.cluster (sym c.get_cluster.ensures ∙ c.in-Some.is)
    (omega (arith, some, long)) c.cluster_count-count.ensures in
    c.give_back.ensures ∙ ap (list_with list.entries list.held) (ap (λ (e : FreeEntry). e ∷ []) entry ∙ sym run)
