-- Lines that are read part by part.
use Rattle.std.proofs.Common.{◌≡◌, ◌≢◌, ◌≤◌, ℕ, Bool, List, [], ◌++◌, All, Option, Some, None, true, IfSome, OnSome, length, take, length-take-le, sym, ap, ◌∙◌, arith}
use Rattle.std.specs.Io.{IsEmptyOrEndsWith, StopsAt}
use Rattle.std.specs.Io.BufRead.{take_through, drop_through, DropsThrough}
use Rattle.std.specs.Io.KnownBytes.{Consumes, IsAtEnd, Keeps}
use Rattle.std.proofs.BufReadLemmas.{Consumes_through, take_through-append, drop_through-append}
use Rattle.std.proofs.KnownBytes.{Consumes-nil}
use Rattle.qimg_chain.specs.ScriptReads.{ReadsPart}

-- After parts without a line feed, the rest of the line is read.
pub line-read : (first left rest : Option (List ℕ)) (old new : List ℕ) (ended : Bool) → ended ≡ true → Consumes first left old → All (λ b. b ≢ 10) old → ReadsPart left rest old new ended
    → IfSome first (λ bytes. new ≡ take_through 10 bytes) × DropsThrough first rest 10
line-read None left rest old new ended is before none reads = (tt, tt)
line-read (Some xs) None rest old new ended is before none reads = absurd before
line-read (Some xs) (Some ys) rest old new ended is before none reads = (
  reads.appended ∙ (ap (λ part. old ++ part) (reads.ends is).0 ∙ sym (ap (take_through 10) before ∙ take_through-append 10 old ys none)),
  (reads.ends is).1 ∙ ap Some (sym (ap (drop_through 10) before ∙ drop_through-append 10 old ys none)),
)

-- The first line of the buffered bytes is the first line of all bytes.
pub through-read : (left rest : Option (List ℕ)) (shown : List ℕ) (n : ℕ) → n ≤ length shown
    → Consumes left rest (take n shown) × (length shown ≡ 0 → OnSome left (IsAtEnd rest))
    → StopsAt (take n shown) 10 → IsEmptyOrEndsWith (take n shown) 10 → (n ≡ 0 → shown ≡ [])
    → IfSome left (λ bytes. take n shown ≡ take_through 10 bytes) × DropsThrough left rest 10
through-read left rest shown n inside moved stops ends none =
    let whole = length-take-le n shown inside in
    Consumes_through 10 left left rest [] (take n shown) (Consumes-nil left) (λ i d lt. absurd (omega arith)) moved.0 stops ends
    (λ empty. moved.1 (ap length (none (sym whole ∙ empty))))

pub kept-known : (left now : Option (List ℕ)) (P : List ℕ → Type 0) → Keeps left now → IfSome now P → IfSome left P
kept-known None now P kept holds = tt
kept-known (Some xs) None P kept holds = absurd kept
kept-known (Some xs) (Some ys) P kept holds = rw (sym kept) holds
