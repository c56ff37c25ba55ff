use Rattle.std.proofs.Common.{rules, ◌≡◌, ◌∙◌, ap, sym, ℕ, ◌+◌, ◌-◌, ◌*◌, ◌<◌, inl, inr, arith, get_or, length, List, nat_eq, Some}
use Rattle.std.specs.Map.{lookup}
use Rattle.std.proofs.lemmas.Bool.{cases_lt}
use Rattle.paged_storage.proofs.Agreed.{byte_of_page, shown_at, whole_page}
use Rattle.paged_storage.proofs.paged_file.PagedFile.read_there.Goals as goal

pub overlay_page-requires-clause-whole : goal.overlay_page-requires-clause-whole
overlay_page-requires-clause-whole g c =
    let there : lookup (nat_eq c.loop-number.number-counter) c.args.self.now.pages.entries ≡ Some c.in-Some.page.now = search rules in
    let whole = whole_page _ _ _ c.args.self.now.whole there in
    search rules

pub loop-number-init : goal.loop-number-init
loop-number-init g c = λ k below before. absurd (omega (arith, before))

pub loop-number-preserved : goal.loop-number-preserved
loop-number-preserved g c = λ k below within.
    let there : lookup (nat_eq c.loop-number.number-counter) c.args.self.now.pages.entries ≡ Some c.in-Some.page.now = search rules in
    let at = c.loop-number.number-counter * 65536 in
    let inside : k < length c.loop-number.buf = omega (arith, below, c.overlay_page.auto.buf) in
    elim (cases_lt (c.args.offset + k) at) [
      | inl before ↦ c.overlay_page.ensures.before k before ∙ c.loop-number.invariant k inside before
      | inr from ↦
          c.overlay_page.ensures.inside k inside from (omega (arith, within))
          ∙ ap (λ (bytes : List ℕ). get_or bytes (c.args.offset + k - at) 0) c.deref.ensures.value
          ∙ sym (byte_of_page _ _ c.loop-number.number-counter (c.args.offset + k) c.in-Some.page.now there from (omega (arith, within)))
    ]

pub returns : goal.returns
returns g c = λ k below. c.loop-number.invariant k below (omega (arith, below, c.loop-number-test.false)) ∙ sym (shown_at _ _ _ _ (omega (arith, c.requires.there, below, c.loop-number.auto.buf)))
