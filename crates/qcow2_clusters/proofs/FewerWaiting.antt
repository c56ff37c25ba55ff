-- A consistent image is still consistent with fewer entries on the free list.
use Rattle.std.proofs.Common.{◌≡◌, ℕ, ◌≤◌, arith, ap, subst, List, [], ◌∷◌, ◌++◌}
use Rattle.std.proofs.lemmas.List.{append-nil, append_assoc}
use Rattle.qcow2_types.specs.Pending.{FreeEntry}
use Rattle.qcow2_alloc.specs.FreeList.{listed}
use Rattle.qcow2_alloc.specs.GuestView.{IsSound, Metadata, metadata_in}
use Rattle.qcow2_alloc.proofs.Freeing.ClusterOccurrences.{listed_push}
use Rattle.qcow2_alloc.proofs.GuestView.QuietEntries.{metadata_push}

listed-more : (first more : List FreeEntry) (c : ℕ) → listed first c ≤ listed (first ++ more) c
listed-more first [] c = let same : listed (first ++ []) c ≡ listed first c = ap (λ l. listed l c) (append-nil first) in omega (arith, same)
listed-more first (e ∷ es) c =
    let rest : listed (first ++ e ∷ []) c ≤ listed (first ++ (e ∷ es)) c =
    subst (λ l. listed (first ++ e ∷ []) c ≤ listed l c) (append_assoc first (e ∷ []) es) (listed-more (first ++ e ∷ []) es c) in
    let push = listed_push first e c in
    omega (arith, rest, push)

metadata-more : (first more : List FreeEntry) (c : ℕ) → listed (metadata_in first) c ≤ listed (metadata_in (first ++ more)) c
metadata-more first [] c =
    let same : listed (metadata_in (first ++ [])) c ≡ listed (metadata_in first) c = ap (λ l. listed (metadata_in l) c) (append-nil first) in
    omega (arith, same)
metadata-more first (e ∷ es) c =
    let rest : listed (metadata_in (first ++ e ∷ [])) c ≤ listed (metadata_in (first ++ (e ∷ es))) c =
    subst (λ l. listed (metadata_in (first ++ e ∷ [])) c ≤ listed (metadata_in l) c) (append_assoc first (e ∷ []) es)
    (metadata-more (first ++ e ∷ []) es c) in
    let push = metadata_push first e c in
    omega (arith, rest, push)

pub fewer-sound : (m : Metadata) (first more : List FreeEntry) → m.pending ≡ first ++ more → IsSound m → IsSound (record m { pending = first })
fewer-sound m first more is sound = record {
  well_formed = sound.well_formed;
  table = sound.table;
  covered = λ c.
      let all = sound.covered c in
      let less = listed-more first more c in
      let same : listed m.pending c ≡ listed (first ++ more) c = ap (λ l. listed l c) is in
      omega (arith, all, less, same);
  not_referenced = λ c some. sound.not_referenced c (
      let less = metadata-more first more c in
      let same : listed (metadata_in m.pending) c ≡ listed (metadata_in (first ++ more)) c = ap (λ l. listed (metadata_in l) c) is in
      omega (arith, some, less, same));
}
