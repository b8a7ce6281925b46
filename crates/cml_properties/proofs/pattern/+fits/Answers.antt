use Rattle.std.proofs.Common.{◌≡◌, ◌+◌, ◌≤◌, ℕ, ap, sym, subst, arith}
use Rattle.cml_text.specs.Forms.{PlainSexpr, plain_forms, nesting, nesting_of}
use Rattle.cml_properties.proofs.FitLemmas.{fit_length, nesting_at}
use Rattle.cml_properties.proofs.pattern.+fits.Goals as goal

pub returns-then-patterns-forms : goal.returns-then-patterns-forms
returns-then-patterns-forms t c = rw (c.in-List.ensures, c.in-Some.ensures.some) (sym (fit_length _ _ c.if-patterns-forms.true))

-- a form of the list lies lower than the list
pub fits-requires : goal.fits-requires
fits-requires t c =
    let depth : ℕ = nesting_of (plain_forms c.in-List.patterns.now) in
    let below : nesting c.index-patterns-index.result ≤ depth =
    subst (λ (form : PlainSexpr). nesting form ≤ depth) (sym c.index-patterns-index.is)
    (nesting_at c.in-List.patterns.now c.loop-index.index c.index-patterns-index.result c.loop-index-test.true) in
    let whole : nesting c.args.pattern.now ≡ depth + 1 = ap nesting c.in-List.ensures in
    let start = c.decreases in
    (omega arith, tt)
