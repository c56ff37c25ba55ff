use Rattle.std.proofs.Common.{◌≡◌, ◌≢◌, ◌∙◌, ◌+◌, ◌-◌, ◌≤◌, ℕ, List, Result, true, refl, sym, arith, take, drop, length, length-drop}
use Rattle.std.specs.Prelude.{◌==◌}
use Rattle.std.specs.List.{position_or_len}
use Rattle.std.specs.Str.{is_utf8}
use Rattle.std.proofs.lemmas.Bool.{lt-ltb}
use Rattle.std.proofs.lemmas.List.{take_all}
use Rattle.imago_access.proofs.Answers.{handed_on}
use Rattle.imago_storage.specs.declared.fault.Fault.{Fault}
use Rattle.imago_formats.specs.Descriptor.{named, in_file, sector_of}
use Rattle.imago_formats.specs.DescriptorWords.{◌>>=◌}
use Rattle.imago_formats.proofs.vmdk.lines.read_quoted.Goals as goal

-- The name and the sector, by the position of the closing quote.
named-at : (sectors end : ℕ) (text name : List ℕ) (sector : Result ℕ Fault) → end ≡ position_or_len (λ b. b == 34) text → end ≤ length text → end ≢ length text
    → (name ≡ take end text) × (is_utf8 (take end text) ≡ true) → sector_of (take (length text - (end + 1)) (drop (end + 1) text)) ≡ sector
    → named sectors text ≡ (sector >>= in_file name sectors)
named-at sectors end text name sector at within some is reads =
    let rest = take_all (length text - (end + 1)) (drop (end + 1) text) (omega (arith, length-drop (end + 1) text)) in
    rw (sym at, lt-ltb end (length text) (omega (arith, within, some)), is.1, is.0, sym reads, rest) refl

pub returns-in_err-sector-clause-err : goal.returns-in_err-sector-clause-err
returns-in_err-sector-clause-err c = rw (handed_on _ _ c.from_residual-in_err-sector.ensures.1)
    (named-at c.args.sectors c.byte_at-end.result c.args.text.now c.in_ok-name.name.now _ c.byte_at-end.ensures.value c.byte_at-end.ensures.within
    c.if-end-text.false c.in_ok-name.ensures.ok (sym c.read_sector.ensures ∙ c.in_err-sector.was))

pub returns-clause-ok : goal.returns-clause-ok
returns-clause-ok c = rw (named-at c.args.sectors c.byte_at-end.result c.args.text.now c.in_ok-name.name.now _ c.byte_at-end.ensures.value c.byte_at-end.ensures.within
    c.if-end-text.false c.in_ok-name.ensures.ok (sym c.read_sector.ensures ∙ c.in_ok-sector.was)) c.in_file.ensures.ok

pub returns-clause-err : goal.returns-clause-err
returns-clause-err c = rw (named-at c.args.sectors c.byte_at-end.result c.args.text.now c.in_ok-name.name.now _ c.byte_at-end.ensures.value c.byte_at-end.ensures.within
    c.if-end-text.false c.in_ok-name.ensures.ok (sym c.read_sector.ensures ∙ c.in_ok-sector.was)) c.in_file.ensures.err
