-- The state by which contracts describe a file of the host.
use Rattle.std.specs.Prelude.{◌≡◌, ℕ, Bool, List, ◌∷◌, IsTrue}

-- The state of a file at one moment.
pub record FileState : Type 0 where
  -- The bytes of the file, if all its answers were true: its first bytes, changed by each write since.
  pub held : List ℕ
  -- The bytes before each change, the newest first.
  pub past : List (List ℕ)
  -- All answers were true.
  pub truthful : Bool

-- The file was only read. The answer may have been untrue.
pub record IsOnlyRead (old new : FileState) : Type 0 where
  pub held : new.held ≡ old.held
  pub past : new.past ≡ old.past
  pub truthful : IsTrue new.truthful → IsTrue old.truthful

-- The file was changed to this content, in one request.
pub record IsChangedTo (content : List ℕ) (old new : FileState) : Type 0 where
  pub held : new.held ≡ content
  pub past : new.past ≡ old.held ∷ old.past
  pub truthful : new.truthful ≡ old.truthful
