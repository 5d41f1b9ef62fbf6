use Rattle.std.proofs.Common.{◌≡◌, ◌∙◌, sym, ap, true}
use Rattle.hls_pragma.specs.declared.directives.Pragma.TheVariants.{Foreign}
use Rattle.hls_pragma.specs.Items.{items_of}
use Rattle.hls_pragma.specs.Front.{begins_hls}
use Rattle.hls_pragma.proofs.Ordered.{reading_ordered}
use Rattle.hls_pragma.proofs.Readings.{reads_it, foreign_it, one_reading, no_reading}
use Rattle.hls_pragma.proofs.reader.read_pragma.Goals as goal

pub returns-in-Some-clause-reads : goal.returns-in-Some-clause-reads
returns-in-Some-clause-reads c =
    let line = c.args.line.now in
    let items = c.as_slice-2.result.now in
    let e : items ≡ items_of 0 0 0 line = c.as_slice-2.ensures.value ∙ c.in_ok-items.ensures in
    let b : begins_hls line items ≡ true = ap (begins_hls line) (c.as_slice-2.ensures.value ∙ sym c.as_slice.ensures.value) ∙ sym c.if-not-begins_hls.ensures in
    reads_it line items c.in-Some.pragma e b (sym c.in_ok-pragma.ensures ∙ c.in-Some.is)

pub returns-in-Some-clause-only : goal.returns-in-Some-clause-only
returns-in-Some-clause-only c = λ q h. one_reading c.args.line.now c.in-Some.pragma q (returns-in-Some-clause-reads c) h

pub returns-in-Some-clause-spans : goal.returns-in-Some-clause-spans
returns-in-Some-clause-spans c = reading_ordered c.args.line.now c.in-Some.pragma (returns-in-Some-clause-reads c)

pub returns-clause-refused : goal.returns-clause-refused
returns-clause-refused c =
    let line = c.args.line.now in
    let items = c.as_slice-2.result.now in
    let e : items ≡ items_of 0 0 0 line = c.as_slice-2.ensures.value ∙ c.in_ok-items.ensures in
    let b : begins_hls line items ≡ true = ap (begins_hls line) (c.as_slice-2.ensures.value ∙ sym c.as_slice.ensures.value) ∙ sym c.if-not-begins_hls.ensures in
    λ q h. no_reading line items q e b (sym c.in_ok-pragma.ensures ∙ c.in-None.is) h

pub returns-then-not-begins_hls-clause-reads : goal.returns-then-not-begins_hls-clause-reads
returns-then-not-begins_hls-clause-reads c =
    let line = c.args.line.now in
    let items = c.as_slice.result.now in
    let e : items ≡ items_of 0 0 0 line = c.as_slice.ensures.value ∙ c.in_ok-items.ensures in
    foreign_it line items e (sym c.if-not-begins_hls.ensures)

pub returns-then-not-begins_hls-clause-only : goal.returns-then-not-begins_hls-clause-only
returns-then-not-begins_hls-clause-only c = λ q h. one_reading c.args.line.now Foreign q (returns-then-not-begins_hls-clause-reads c) h
