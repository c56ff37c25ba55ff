-- Premises that may be used to prove `PreservesGuest`.
use Rattle.std.proofs.Common.{◌≡◌, ℕ, ◌+◌, ◌<◌, ◌∙◌}
use Rattle.std.specs.Prelude.{IsTrue}
use Rattle.imago_storage.specs.State.{StorageState}
use Rattle.imago_storage.specs.Calls.{CountsNotFallen}
use Rattle.imago_storage.proofs.Composing.{later_both}
use Rattle.qcow2_alloc.specs.GuestView.{Metadata, referenced, IsSound, GuestUnchanged, PreservesGuest}
use Rattle.qcow2_alloc.proofs.GuestView.QuietSequences.{quietly-then}

-- The storage keeps writes, and `IsSound` holds before the call.
pub quietly-given : (ok : Type 0) (handed taken : ℕ → ℕ) (s : StorageState) (m : Metadata) (s' : StorageState) (m' : Metadata) → s'.shape ≡ s.shape → CountsNotFallen s s' → (IsTrue s.shape.keeps → IsSound m → PreservesGuest ok handed taken s m s' m') → PreservesGuest ok handed taken s m s' m'
quietly-given ok handed taken s m s' m' shape later quietly = record {
  shape = shape;
  counts_not_fallen = later;
  passes = λ keeps sound. (quietly keeps sound).passes keeps sound;
  holds = λ keeps sound. (quietly keeps sound).holds keeps sound;
}

-- `IsSound` also holds after the call before.
pub quietly-then-given : (ok1 ok2 : Type 0) (h1 t1 h2 t2 : ℕ → ℕ) (s : StorageState) (m : Metadata) (s1 : StorageState) (m1 : Metadata) (s2 : StorageState) (m2 : Metadata) → ok1 → (IsSound m → (c : ℕ) → 0 < referenced m c → t1 c ≡ 0)
    → PreservesGuest ok1 h1 t1 s m s1 m1 → s2.shape ≡ s1.shape → CountsNotFallen s1 s2 → (IsTrue s.shape.keeps → IsSound m → IsSound m1 → GuestUnchanged h1 t1 m m1 → PreservesGuest ok2 h2 t2 s1 m1 s2 m2)
    → PreservesGuest ok2 (λ c. h1 c + h2 c) (λ c. t1 c + t2 c) s m s2 m2
quietly-then-given ok1 ok2 h1 t1 h2 t2 s m s1 m1 s2 m2 done named_kept first shape later second =
    quietly-given ok2 (λ c. h1 c + h2 c) (λ c. t1 c + t2 c) s m s2 m2 (shape ∙ first.shape) (later_both s s1 s2 first.counts_not_fallen later)
    (λ keeps sound. let mid = first.holds keeps sound done in
    quietly-then ok1 ok2 h1 t1 h2 t2 s m s1 m1 s2 m2 done named_kept first (second keeps sound mid.0 mid.1))
