-- Storages that may fail, and storages that never do.
use Rattle.std.proofs.Common.{◌≡◌, ◌+◌, ◌<◌, ◌^◌, ℕ, arith, refl}
use Rattle.imago_storage.specs.MemStorage.{mem_state}
use Rattle.imago_storage.specs.State.{MayFail, NeverFails, HasRisen, StorageState}

-- A count that is 0 hasn't risen.
pub stays_without_faults : (before after : ℕ) → before ≡ 0 → after ≡ 0 → HasRisen before after → ⊥
stays_without_faults before after none none_after rose =
    let more : after + 1 < 2 ^ 64 = omega (arith, none_after) in
    let less : before < after = rose.rose more in
    absurd (omega (arith, none, none_after, less))

-- A storage whose fault count has risen may fail.
pub may-fail : {S : Type 0} (state : S → StorageState) (old new : S) → HasRisen (state old).faults (state new).faults → MayFail state
may-fail state old new rose = λ never. stays_without_faults (state old).faults (state new).faults (never old) (never new) rose

-- A storage in memory never fails.
pub mem_never : NeverFails mem_state
unfolding mem_state
mem_never = λ m. refl
