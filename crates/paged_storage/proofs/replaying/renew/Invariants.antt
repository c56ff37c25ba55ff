use Rattle.std.proofs.Common.{ℕ, List}
use Rattle.std.specs.Prelude.{Contains, Vec}
use Rattle.std.specs.Global.{Global}
use Rattle.imago_storage.specs.Log.{replay}
use Rattle.paged_storage.specs.Pages.{AreOf, AreWhole}
use Rattle.paged_storage.proofs.replaying.renew.Given as goal

abbrev pub invariant-loop : goal.invariant-loop
invariant-loop l = record {
  left : (e : ℕ × Vec ℕ Global) → Contains l.pages.entries e → Contains l.fn.pages.entries e;
  whole : AreWhole l.kept.entries;
  held : (held : List ℕ) → AreOf held l.fn.pages.entries → AreOf (replay held l.requests) l.kept.entries;
}
