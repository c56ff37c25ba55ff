-- Scripts that run line by line.
use Rattle.std.proofs.Common.{◌≡◌, ℕ, ◌+◌, ◌∙◌, List, [], ◌∷◌, ◌++◌, length, refl, ap, subst, sym, arith, inl, inr, length-append}
use Rattle.std.proofs.lemmas.List.{append-nil}
use mathlib.Core.List.{append_assoc}
use Rattle.std.specs.Prelude.{map, Option, Some, None, IfOk, IfSome, IsErrAnd, IsOkUnless, OnOk, Result, Ok, Err}
use Rattle.std.specs.Io.KnownBytes.{Appends}
use Rattle.imago_storage.specs.declared.fault.Fault.{Fault}
use Rattle.imago_access.specs.declared.driver_model.DriverModel.{Ghosts}
use Rattle.imago_access.specs.Layer.{IsFree}
use Rattle.imago_access.specs.Stops.{IsCovered}
use Rattle.qimg_calls.specs.Held.{IsReady}
use Rattle.qimg_calls.specs.Making.{AnswersAlone}
use Rattle.qimg_calls.specs.Runs.{Driven, HoldsSince, MayCommit}
use Rattle.qimg_calls.specs.Since.{Since}
use Rattle.qimg_calls.proofs.Alone.{alone-both, driven-alone}
use Rattle.qimg_chain.specs.Saving.{SavedFiles}
use Rattle.qimg_chain.specs.declared.run.fault.RunFault.{RunFault}
use Rattle.qimg_chain.specs.declared.run.fault.RunFault.TheVariants as run_fault
use Rattle.qimg_chain.specs.ScriptAnswers.{answer_text}
use Rattle.qimg_chain.specs.declared.script.answer.Answer.{Answer}
use Rattle.qimg_chain.specs.declared.script.line.Line.{Line}
use Rattle.qimg_chain.specs.RunCalls.{Turn}
use Rattle.qimg_chain.specs.ScriptLimits.{AreAnswered, IsAnswerCount, most_bytes}
use Rattle.qimg_chain.specs.ScriptReads.{IsTakenAs, ReadsNext}
use Rattle.qimg_chain.specs.ScriptRuns.{AreWritten, IsTellingFault, Reply, Standing, reply, standing, Replies, RunsAll, Scripted, calls_of, answers_of, ending, text_of}
use Rattle.qimg_chain.proofs.ScriptBytes.{EndsEarly, ReadSoFar, read-cut, read-then}

abbrev pub text : Reply → List ℕ
text r = r.text

-- The preconditions of a script's run over these drivers.
pub record MayBegin {D St : Type 0} (g : Ghosts D St) (old : D × List D) : Type 0 where
  pub well_formed_is_coherent : (d : D) → g.well_formed d → g.coherent d
  pub well_formed_is_sound : (d : D) → g.well_formed d → IsCovered (g.layer d) g.sound (g.image d).bytes
  pub free : IsFree (g.layer old.0)

-- `count` lines of a script were read and run. The reader had `input` and has `left`, and `room` more bytes may be read.
pub record MadeSoFar {D St : Type 0} (g : Ghosts D St) (names : D → ℕ → List ℕ) (input left : Option (List ℕ)) (room count : ℕ) (old : D × List D) (now : Standing D) : Type 0 where
  pub rests : MayBegin g old
  pub replies : List Reply
  pub runs : RunsAll g names replies (standing old None) now
  pub read : ReadSoFar input left room (map text replies)
  pub counted : length replies ≡ count

-- The streams of a script: what the reader had and has left, how many bytes may be read, and what the writer had and has.
pub record Streams : Type 0 where
  pub input : Option (List ℕ)
  pub left : Option (List ℕ)
  pub room : ℕ
  pub before : Option (List ℕ)
  pub after : Option (List ℕ)

-- The state of a script's run, with the bytes that its writer had and has.
pub record RanSoFar {D St : Type 0} (g : Ghosts D St) (names : D → ℕ → List ℕ) (io : Streams) (count : ℕ) (old : D × List D) (now : Standing D) : Type 0 where
  pub made : MadeSoFar g names io.input io.left io.room count old now
  pub written : Appends io.before io.after (text_of made.replies)

-- The returned fault is the one that occurred.
pub handed-on : {T : Type 0} (result : Result T RunFault) (fault : RunFault) → IsErrAnd result (λ e. e ≡ fault) → result ≡ Err fault
handed-on (Ok x) fault is = absurd is
handed-on (Err e) fault is = ap Err is

-- All answers are written.
pub all-written : (result : Result (Option SavedFiles) RunFault) (before after : Option (List ℕ)) (replies : List Reply) →
    Appends before after (text_of replies) → AreWritten result before after replies
all-written (Ok kept) before after replies all = all
all-written (Err run_fault.Write) before after replies all = tt
all-written (Err run_fault.Memory) before after replies all = inl all
all-written (Err run_fault.Read) before after replies all = all
all-written (Err run_fault.Lines) before after replies all = all

-- The last answer isn't written, because of this fault. If memory ran out, nothing of it is written.
pub last-untold : (result : Result (Option SavedFiles) RunFault) (fault : RunFault) (before mid after : Option (List ℕ)) (told : List Reply) (last : Reply) →
    IsTellingFault fault → result ≡ Err fault → (fault ≡ run_fault.Memory → after ≡ mid) → Appends before mid (text_of told) → AreWritten result before after (told ++ last ∷ [])
last-untold result fault before mid after told last telling is guest_unchanged all = rw (is) (at fault telling guest_unchanged)
  where
    at : (fault : RunFault) → IsTellingFault fault → (fault ≡ run_fault.Memory → after ≡ mid) → AreWritten (Err fault) before after (told ++ last ∷ [])
    at run_fault.Write telling guest_unchanged = tt
    at run_fault.Memory telling guest_unchanged = inr (record {
      told = told;
      last = last;
      are = refl;
      written = subst (λ known. Appends before known (text_of told)) (sym (guest_unchanged refl)) all;
    })
    at run_fault.Read telling guest_unchanged = absurd telling
    at run_fault.Lines telling guest_unchanged = absurd telling

pub append-none : (known : Option (List ℕ)) → Appends known known []
append-none None = tt
append-none (Some xs) = sym (append-nil xs)

append-both : (a b c : Option (List ℕ)) (xs ys : List ℕ) → Appends a b xs → Appends b c ys → Appends a c (xs ++ ys)
append-both None b c xs ys first second = tt
append-both (Some a) None c xs ys first second = absurd first
append-both (Some a) (Some b) None xs ys first second = absurd second
append-both (Some a) (Some b) (Some c) xs ys first second = second ∙ ap (λ zs. zs ++ ys) first ∙ append_assoc a xs ys

text-then : (replies : List Reply) (r : Reply) → text_of (replies ++ r ∷ []) ≡ text_of replies ++ (answer_text r.answer ++ 10 ∷ [])
text-then [] r = append-nil (answer_text r.answer ++ 10 ∷ [])
text-then (a ∷ replies) r = ap (λ xs. (answer_text a.answer ++ 10 ∷ []) ++ xs) (text-then replies r)
    ∙ sym (append_assoc (answer_text a.answer ++ 10 ∷ []) (text_of replies) (answer_text r.answer ++ 10 ∷ []))

pub map-then : (replies : List Reply) (r : Reply) → map text (replies ++ r ∷ []) ≡ map text replies ++ (r.text ∷ [])
map-then [] r = refl
map-then (a ∷ replies) r = ap (λ xs. a.text ∷ xs) (map-then replies r)

pub length-then : (replies : List Reply) (r : Reply) (count : ℕ) → length replies ≡ count → length (replies ++ r ∷ []) ≡ count + 1
length-then replies r count is = omega (arith, length-append replies (r ∷ []), is)

module _ {D St : Type 0} (g : Ghosts D St) (names : D → ℕ → List ℕ) where
  pub runs-then : (replies : List Reply) (r : Reply) (old mid new : Standing D) → RunsAll g names replies old mid → Replies g names r mid new → RunsAll g names (replies ++ r ∷ []) old new
  runs-then [] r old mid new same one = (new, subst (λ s. Replies g names r s new) same one, refl)
  runs-then (a ∷ replies) r old mid new all one = (all.0, all.1, runs-then replies r all.0 mid new all.2 one)

  alone-all : (replies : List Reply) (old new : Standing D) → RunsAll g names replies old new → AnswersAlone g (calls_of replies) (answers_of replies) old.drivers new.drivers
  alone-all [] old new same = rw (same) refl
  alone-all (r ∷ replies) old new all =
      alone-both g r.turn.list (calls_of replies) r.turn.answers (answers_of replies) old.drivers all.0.drivers new.drivers all.1.made (alone-all replies all.0 new all.2)

  -- The calls of all lines together.
  driven-all : (replies : List Reply) (old new : D × List D) (saved : Option SavedFiles) (since : Since) → MayBegin g old
      → RunsAll g names replies (standing old None) (standing new saved) → IsReady g old → MayCommit g (calls_of replies) old → HoldsSince g since old → Driven g since (calls_of replies) (answers_of replies) old new
  driven-all replies old new saved since rests runs ready may stands =
      driven-alone g rests.well_formed_is_coherent rests.well_formed_is_sound (calls_of replies) (answers_of replies) old new since (alone-all replies (standing old None) (standing new saved) runs) rests.free ready may stands

  pub ran-none : (input left before : Option (List ℕ)) (old : D × List D) → MayBegin g old → ReadSoFar input left most_bytes []
      → RanSoFar g names (record { input = input; left = left; room = most_bytes; before = before; after = before }) 0 old (standing old None)
  ran-none input left before old rests read = record {
    made = record { rests = rests; replies = []; runs = refl; read = read; counted = refl };
    written = append-none before;
  }

-- The answer to a text that was parsed with this result.
abbrev pub AnswersTaken : {D St : Type 0} → Ghosts D St → (D → ℕ → List ℕ) → Result Line Fault → Answer → Standing D → Standing D → Type 0
AnswersTaken g names taken answer now new = (text : List ℕ) → IsTakenAs text taken → (turn : Turn) × Replies g names (reply text turn answer) now new

-- One more line is read and run.
unfoldable pub made-then : {D St : Type 0} {g : Ghosts D St} {names : D → ℕ → List ℕ} {input left : Option (List ℕ)} {room count : ℕ} {old : D × List D} {now : Standing D}
    → (next : Option (List ℕ)) (less : ℕ) (new : Standing D) (taken : Result Line Fault) (answer : Answer) → MadeSoFar g names input left room count old now
    → ReadsNext left next room less (Some taken) → AnswersTaken g names taken answer now new → MadeSoFar g names input next less (count + 1) old new
made-then {g = g} {names = names} {input = input} {left = left} {room = room} {count = count} {old = old} {now = now} next less new taken answer made read answers =
    let first = read.next in
    let one = answers first.text first.taken in
    let r = reply first.text one.0 answer in
    record {
      rests = made.rests;
      replies = made.replies ++ r ∷ [];
      runs = runs-then g names made.replies r (standing old None) now new made.runs one.1;
      read = subst (ReadSoFar input next less) (sym (map-then made.replies r))
          (read-then input left next room less (map text made.replies) read.bytes first.text first.remainder made.read read.are read.drops read.fits first.first);
      counted = length-then made.replies r count made.counted;
    }

-- The answer of that line is written.
pub ran-then : {D St : Type 0} {g : Ghosts D St} {names : D → ℕ → List ℕ} {io : Streams} {count : ℕ} {old : D × List D} {now : Standing D}
    → (next last : Option (List ℕ)) (less : ℕ) (new : Standing D) (taken : Result Line Fault) (answer : Answer) → RanSoFar g names io count old now
    → ReadsNext io.left next io.room less (Some taken) → AnswersTaken g names taken answer now new
    → Appends io.after last (answer_text answer ++ 10 ∷ []) → RanSoFar g names (record io { left = next; room = less; after = last }) (count + 1) old new
unfolding made-then
ran-then {io = io} next last less new taken answer ran read answers tells = record {
  made = made-then next less new taken answer ran.made read answers;
  written =
      let r = reply read.next.text (answers read.next.text read.next.taken).0 answer in
      subst (Appends io.before last) (sym (text-then ran.made.replies r)) (append-both io.before io.after last (text_of ran.made.replies) (answer_text answer ++ 10 ∷ []) ran.written tells);
}

-- The result of a script that ends in this state.
pub scripted : {D St : Type 0} {g : Ghosts D St} {names : D → ℕ → List ℕ} {io : Streams} {count : ℕ} {old new : D × List D} {saved : Option SavedFiles} {result : Result (Option SavedFiles) RunFault}
    → RanSoFar g names io count old (standing new saved) → IsAnswerCount result count
    → ((texts : List (List ℕ)) → ReadSoFar io.input io.left io.room texts → IfSome io.input (λ bytes. AreAnswered result bytes texts)) → OnOk result (result ≡ Ok saved)
    → Scripted g names io.input io.before io.after result old new
scripted {g = g} {names = names} {io = io} {old = old} {new = new} {saved = saved} {result = result} ran counts all kept = record {
  replies = ran.made.replies;
  saved = saved;
  runs = ran.made.runs;
  driven = λ since ready may stands. driven-all g names ran.made.replies old new saved since ran.made.rests ran.made.runs ready may stands;
  count = subst (IsAnswerCount result) (sym ran.made.counted) counts;
  lines = all (map text ran.made.replies) ran.made.read;
  written = all-written result io.before io.after ran.made.replies ran.written;
  saved_returned = kept;
}

-- Like `scripted`, for an early end that isn't for the limit of lines.
pub scripted-cut : {D St : Type 0} {g : Ghosts D St} {names : D → ℕ → List ℕ} {input left : Option (List ℕ)} {room count : ℕ} {old new : D × List D} {saved : Option SavedFiles}
    → (before after : Option (List ℕ)) (result : Result (Option SavedFiles) RunFault) (fault : RunFault) (made : MadeSoFar g names input left room count old (standing new saved)) → EndsEarly fault count
    → result ≡ Err fault → AreWritten result before after made.replies → Scripted g names input before after result old new
scripted-cut {g = g} {names = names} {input = input} {left = left} {room = room} {count = count} {old = old} {new = new} {saved = saved} before after result fault made cut is written = record {
  replies = made.replies;
  saved = saved;
  runs = made.runs;
  driven = λ since ready may stands. driven-all g names made.replies old new saved since made.rests made.runs ready may stands;
  count = rw (is) (subst (IsAnswerCount (Err fault)) (sym made.counted) cut.count);
  lines = rw (is) (read-cut input left room count (map text made.replies) fault made.read cut);
  written = written;
  saved_returned = rw (is) tt;
}

within-limits : (saved : Option SavedFiles) (input : Option (List ℕ)) (texts : List (List ℕ)) → IfSome input (λ bytes. AreAnswered (Ok saved) bytes texts)
    → IfSome input (λ bytes. AreAnswered (Err run_fault.Memory) bytes texts)
within-limits saved None texts all = tt
within-limits saved (Some bytes) texts all = record { before = all.before; remainder = all.remainder; parts = all.parts; first = all.first; short = all.short; ends = tt }

-- The result of a script that ended, if memory runs out for the copy of the kept bytes.
pub scripted-uncopied : {D St : Type 0} {g : Ghosts D St} {names : D → ℕ → List ℕ} {input before after : Option (List ℕ)} {old new : D × List D} {saved : Option SavedFiles}
    → Scripted g names input before after (Ok saved) old new → Scripted g names input before after (Err run_fault.Memory) old new
scripted-uncopied {input = input} {saved = saved} ran = record {
  replies = ran.replies;
  saved = ran.saved;
  runs = ran.runs;
  driven = ran.driven;
  count = ran.count;
  lines = within-limits saved input (map text ran.replies) ran.lines;
  written = inl ran.written;
  saved_returned = tt;
}

-- The result of a script that ended, with the bytes that are returned, unless memory runs out for their copy.
pub scripted-taken : {D St T : Type 0} {g : Ghosts D St} {names : D → ℕ → List ℕ} {input before after : Option (List ℕ)} {old new : D × List D}
    {saved : Option SavedFiles} → (kept : T → Option SavedFiles) (result : Result T RunFault) → IfOk result (λ t. kept t ≡ saved)
    → IsOkUnless result run_fault.Memory → Scripted g names input before after (Ok saved) old new
    → Scripted g names input before after (ending kept result) old new
scripted-taken kept (Ok t) same memory ran = rw (same) ran
scripted-taken kept (Err fault) same memory ran = rw (memory) (scripted-uncopied ran)
