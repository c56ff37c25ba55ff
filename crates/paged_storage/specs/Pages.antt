-- A file with pages in memory.
use Rattle.std.specs.Prelude.{◌≡◌, ℕ, zero, suc, ◌+◌, ◌*◌, ◌/◌, ◌%◌, ◌<◌, List, [], ◌∷◌, ◌++◌, length, slice_index, nat_eq, Option, None, Some, Vec, Contains}
use Rattle.std.specs.Global.{Global}
use Rattle.std.specs.Map.{lookup}

-- The pages in memory, with their numbers.
abbrev pub Pages : Type 0
Pages = List (ℕ × Vec ℕ Global)

-- The numbers `f 0`, `f 1` and so on, `n` of them.
unfoldable pub first_values : (ℕ → ℕ) → ℕ → List ℕ
first_values f zero = []
first_values f (suc n) = first_values f n ++ f n ∷ []

-- A byte of a page, or else of the file.
abbrev pub byte_in : Option (Vec ℕ Global) → List ℕ → ℕ → ℕ
byte_in None held k = slice_index held k
byte_in (Some page) held k = slice_index page.items (k % 65536)

-- The byte at an offset: that of the page in memory, if it is there, and else that of the file.
abbrev pub byte_at : Pages → List ℕ → ℕ → ℕ
byte_at pages held k = byte_in (lookup (nat_eq (k / 65536)) pages) held k

-- The bytes of a file of this size with these pages in memory.
unfoldable pub shown : (size : ℕ) → Pages → List ℕ → List ℕ
shown size pages held = first_values (byte_at pages held) size

-- The page has the bytes of the file. Past its end they are 0.
abbrev pub IsOf : List ℕ → ℕ → Vec ℕ Global → Type 0
IsOf held n page = (i : ℕ) → i < 65536 → slice_index page.items i ≡ slice_index held (n * 65536 + i)

-- All pages have the bytes of the file.
abbrev pub AreOf : List ℕ → Pages → Type 0
AreOf held pages = (n : ℕ) (page : Vec ℕ Global) → Contains pages (n, page) → IsOf held n page

-- The size is that of the file, and the pages have its bytes.
pub record IsAgreed (size : ℕ) (pages : Pages) (held : List ℕ) : Type 0 where
  pub size_is : size ≡ length held
  pub pages_are : AreOf held pages

-- All values of the list are bytes.
abbrev pub AreBytes : List ℕ → Type 0
AreBytes values = (k : ℕ) → slice_index values k < 256

-- The page has 65,536 bytes.
pub record IsWhole (page : Vec ℕ Global) : Type 0 where
  pub size : length page.items ≡ 65536
  pub bytes : AreBytes page.items

-- All pages are whole.
abbrev pub AreWhole : Pages → Type 0
AreWhole pages = (n : ℕ) (page : Vec ℕ Global) → Contains pages (n, page) → IsWhole page
