-- The bytes of a script that were read, line by line, within its limits.
use Rattle.std.proofs.Common.{◌≡◌, ◌≢◌, ℕ, ◌+◌, ◌<◌, ◌≤◌, ◌∙◌, List, [], ◌∷◌, ◌++◌, length, take, refl, ap, sym, arith, length-append, add-one}
use mathlib.Core.List.{append_assoc}
use Rattle.std.specs.Prelude.{⊤, Option, Some, None, option_map, IfSome, Result, Ok, Err}
use Rattle.std.specs.Io.BufRead.{take_through, drop_through, DropsThrough}
use Rattle.std.specs.Str.Lines.{lines}
use Rattle.imago_storage.specs.declared.fault.Fault.{Fault}
use Rattle.qimg_chain.specs.Saving.{SavedFiles}
use Rattle.qimg_chain.specs.declared.run.fault.RunFault.{RunFault}
use Rattle.qimg_chain.specs.declared.run.fault.RunFault.TheVariants as run_fault
use Rattle.qimg_chain.specs.declared.script.line.Line.{Line}
use Rattle.qimg_chain.specs.ScriptLimits.{most_bytes, most_lines, AreAnswered, EndsBetween, IsAnswerCount}
use Rattle.qimg_chain.specs.ScriptReads.{ReadsNext}
use Rattle.qimg_chain.specs.ScriptRuns.{IsReadingFault, IsTellingFault}
use Rattle.qimg_chain.proofs.ScriptLines.{CutAlike, line-within, lines-step, through-joined, through-none}

-- These lines were read from a script's bytes, and `room` more bytes may be read. The reader has these and one more left.
pub record LinesRead (bytes : List ℕ) (left : Option (List ℕ)) (room : ℕ) (texts : List (List ℕ)) : Type 0 where
  pub before : List ℕ
  pub rest : List ℕ
  pub parts : bytes ≡ before ++ rest
  pub first : lines bytes ≡ texts ++ lines rest
  pub size : length before + room ≡ most_bytes
  pub left_is : left ≡ Some (take (room + 1) rest)

-- Like `LinesRead`, if the script's bytes are known.
abbrev pub ReadSoFar : Option (List ℕ) → Option (List ℕ) → ℕ → List (List ℕ) → Type 0
ReadSoFar None left room texts = ⊤
ReadSoFar (Some bytes) left room texts = LinesRead bytes left room texts

pub read-none : (input left : Option (List ℕ)) → left ≡ option_map (take (most_bytes + 1)) input → ReadSoFar input left most_bytes []
read-none None left is = tt
read-none (Some bytes) left is = record { before = []; rest = bytes; parts = refl; first = refl; size = refl; left_is = is }

-- A line that is read within the remaining bytes is the next line of the script.
next-line : (bytes line : List ℕ) (left : Option (List ℕ)) (room less : ℕ) (texts : List (List ℕ)) (r : LinesRead bytes left room texts)
    → IfSome left (λ xs. line ≡ take_through 10 xs) → length line + less ≡ room → (line ≡ take_through 10 r.rest) × CutAlike (room + 1) r.rest
next-line bytes line left room less texts r is fewer =
    let seen : line ≡ take_through 10 (take (room + 1) r.rest) = rw (r.left_is) at is in
    let within = line-within (room + 1) r.rest (omega (arith, fewer, ap length seen)) in
    (seen ∙ within.0, within)

pub read-then : (input left next : Option (List ℕ)) (room less : ℕ) (texts : List (List ℕ)) (line one more : List ℕ) → ReadSoFar input left room texts
    → IfSome left (λ xs. line ≡ take_through 10 xs) → DropsThrough left next 10 → length line + less ≡ room → lines line ≡ one ∷ lines more
    → ReadSoFar input next less (texts ++ (one ∷ []))
read-then None left next room less texts line one more so_far is drops fewer first = tt
read-then (Some bytes) left next room less texts line one more r is drops fewer first =
    let read = next-line bytes line left room less texts r is fewer in
    let head = take_through 10 r.rest in
    let tail = drop_through 10 r.rest in
    let dropped : next ≡ Some (drop_through 10 (take (room + 1) r.rest)) = rw (r.left_is) at drops in
    record {
      before = r.before ++ head;
      rest = tail;
      parts = r.parts ∙ ap (λ xs. r.before ++ xs) (sym (through-joined r.rest)) ∙ sym (append_assoc r.before head tail);
      first = r.first ∙ ap (λ ls. texts ++ ls) (lines-step r.rest one more (rw (read.0) at first)) ∙ sym (append_assoc texts (one ∷ []) (lines tail));
      size = omega (arith, length-append r.before head, ap length read.0, r.size, fewer);
      left_is = dropped ∙ ap Some (read.1.1 ∙ ap (λ k. take k tail) (omega (arith, ap length read.0, fewer)));
    }

none-taken : (room : ℕ) (rest : List ℕ) → take (room + 1) rest ≡ [] → rest ≡ []
none-taken room [] is = refl
none-taken room (b ∷ rest) is = cc (rw (add-one) at is)

-- The script has no more lines.
pub read-all : (input left rest : Option (List ℕ)) (room less : ℕ) (texts : List (List ℕ)) (saved : Option SavedFiles) → ReadSoFar input left room texts
    → ReadsNext left rest room less None → IfSome input (λ bytes. AreAnswered (Ok saved) bytes texts)
read-all None left rest room less texts saved so_far read = tt
read-all (Some bytes) left rest room less texts saved r read =
    let seen : read.bytes ≡ take_through 10 (take (room + 1) r.rest) = rw (r.left_is) at read.are in
    record {
      before = r.before;
      remainder = r.rest;
      parts = r.parts;
      first = r.first;
      short = omega (arith, r.size);
      ends = none-taken room r.rest (through-none (take (room + 1) r.rest) (rw (seen) at read.next));
    }

-- The script has one more line, within its limit of bytes.
pub read-more : (input left rest : Option (List ℕ)) (room less : ℕ) (texts : List (List ℕ)) (taken : Result Line Fault) → ReadSoFar input left room texts
    → ReadsNext left rest room less (Some taken) → IfSome input (λ bytes. AreAnswered (Err run_fault.Lines) bytes texts)
read-more None left rest room less texts taken so_far read = tt
read-more (Some bytes) left rest room less texts taken r read =
    let one = next-line bytes read.bytes left room less texts r read.are read.fits in
    record {
      before = r.before;
      remainder = r.rest;
      parts = r.parts;
      first = r.first;
      short = omega (arith, r.size);
      ends = (
        some r.rest read.next.text read.next.remainder (rw (one.0) at read.next.first),
        omega (arith, length-append r.before (take_through 10 r.rest), ap length one.0, r.size, read.fits),
      );
    }
  where
    some : (rest one more : List ℕ) → lines (take_through 10 rest) ≡ one ∷ lines more → rest ≢ []
    some rest one more e none = absurd (cc (rw (none) at e))

-- If a script ends early after `n` lines, it isn't for the limit of lines.
pub record EndsEarly (fault : RunFault) (n : ℕ) : Type 0 where
  pub between : (before rest : List ℕ) → EndsBetween (Err fault) before rest
  pub count : IsAnswerCount (Err fault) n

pub cut-reading : (fault : RunFault) (n : ℕ) → IsReadingFault fault → n ≤ most_lines → EndsEarly fault n
cut-reading run_fault.Read n is few = record { between = λ before rest. tt; count = few }
cut-reading run_fault.Memory n is few = record { between = λ before rest. tt; count = few }
cut-reading run_fault.Write n is few = absurd is
cut-reading run_fault.Lines n is few = absurd is

pub cut-telling : (fault : RunFault) (n : ℕ) → IsTellingFault fault → 0 < n → n ≤ most_lines → EndsEarly fault n
cut-telling run_fault.Write n is some few = record { between = λ before rest. tt; count = (some, few) }
cut-telling run_fault.Memory n is some few = record { between = λ before rest. tt; count = few }
cut-telling run_fault.Read n is some few = absurd is
cut-telling run_fault.Lines n is some few = absurd is

pub read-cut : (input left : Option (List ℕ)) (room n : ℕ) (texts : List (List ℕ)) (fault : RunFault) → ReadSoFar input left room texts → EndsEarly fault n
    → IfSome input (λ bytes. AreAnswered (Err fault) bytes texts)
read-cut None left room n texts fault so_far cut = tt
read-cut (Some bytes) left room n texts fault r cut =
    record { before = r.before; remainder = r.rest; parts = r.parts; first = r.first; short = omega (arith, r.size); ends = cut.between r.before r.rest }
