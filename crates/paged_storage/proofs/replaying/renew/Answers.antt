use Rattle.std.proofs.Common.{◌≡◌, ℕ, ◌+◌, ◌*◌, ◌<◌, List, length, arith, ap, subst, sym, ◌∙◌}
use Rattle.std.specs.Prelude.{slice_index, Contains, Vec}
use Rattle.std.specs.Global.{Global}
use Rattle.std.specs.Vec.{with_items}
use Rattle.imago_storage.specs.Calls.{Reads}
use Rattle.imago_storage.specs.Log.{replay}
use Rattle.lru.specs.LruCache.{LruCache}
use Rattle.lru.proofs.CallerLemmas.{Contains-take}
use Rattle.paged_storage.specs.Pages.{AreOf, AreWhole, IsWhole}
use Rattle.paged_storage.proofs.Renewing.{after_put, at_err, at_ok, last_contained, renewed_of, renewed_whole}
use Rattle.paged_storage.proofs.replaying.renew.Goals as goal

pub replay_part-requires : goal.replay_part-requires
replay_part-requires c =
    let page : ℕ × Vec ℕ Global = (c.in-Some.number, c.in-Some.page) in
    let there = c.loop.invariant.left page (last_contained c.loop.pages.entries page c.in-Some.ensures.value) in
    let size = (c.requires.whole c.in-Some.number c.in-Some.page there).size in
    let long : length c.deref_mut.result.now ≡ 65536 = ap (λ (l : List ℕ). length l) c.deref_mut.ensures.value ∙ size in
    omega (arith, long, c.if-number.false)

pub returns-then-is_err-clause-whole : goal.returns-then-is_err-clause-whole
returns-then-is_err-clause-whole c =
    let same = at_err c.put.result (sym c.if-is_err.ensures.value) c.put.ensures.err in
    subst (λ (kept : LruCache ℕ (Vec ℕ Global)). AreWhole kept.entries) (sym same) c.loop.invariant.whole

pub loop-preserved : goal.loop-preserved
loop-preserved c =
    let number = c.in-Some.number in
    let page = c.in-Some.page in
    let buf = c.replay_part.new.buf in
    let there = c.loop.invariant.left (number, page) (last_contained c.loop.pages.entries (number, page) c.in-Some.ensures.value) in
    let whole = c.requires.whole number page there in
    let long : length buf ≡ length page.items = c.replay_part.auto.buf ∙ ap (λ (l : List ℕ). length l) c.deref_mut.ensures.value in
    let put = at_ok c.put.result c.if-is_err.ensures.negation c.put.ensures.entries in
    record {
      left = λ e among. c.loop.invariant.left e (Contains-take _ c.loop.pages.entries e (subst (λ (pages : LruCache ℕ (Vec ℕ Global)). Contains pages.entries e) c.pop_lru.ensures.entries among));
      whole = subst (λ (kept : LruCache ℕ (Vec ℕ Global)). AreWhole kept.entries) (sym put)
          (after_put (λ n p. IsWhole p) c.loop.kept number (with_items page buf) c.loop.invariant.whole (renewed_whole page whole buf long c.deref.result.now c.deref.ensures.value c.byte_count-known.ensures.bytes));
      held = λ held are. subst (λ (kept : LruCache ℕ (Vec ℕ Global)). AreOf (replay held c.args.requests.now) kept.entries) (sym put)
          (after_put (λ n p. (i : ℕ) → i < 65536 → slice_index p.items i ≡ slice_index (replay held c.args.requests.now) (n * 65536 + i)) c.loop.kept number (with_items page buf)
          (c.loop.invariant.held held are)
          (renewed_of page whole buf long held (replay held c.args.requests.now) number
          (λ reads. c.replay_part.ensures held (subst (Reads held (number * 65536)) (sym c.deref_mut.ensures.value) reads)) (are number page there)));
    }
