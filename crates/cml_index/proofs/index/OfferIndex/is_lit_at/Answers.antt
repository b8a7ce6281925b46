use Rattle.std.proofs.Common.{◌≡◌, ◌∙◌, false, ap, sym}
use Rattle.cml_scan.specs.Light.{lit_by}
use Rattle.cml_scan.specs.Order.{is_lit_there, base_at}
use Rattle.cml_scan.specs.Scan.{offers_of}
use Rattle.cml_index.specs.Posts as spec
use Rattle.cml_index.specs.Waits.{lit_wait}
use Rattle.cml_index.proofs.Waits.{lit_at, lit_there}
use Rattle.cml_index.proofs.index.OfferIndex.is_lit_at.Goals as goal

pub returns-in-Some-clause-value : goal.returns-in-Some-clause-value
returns-in-Some-clause-value c =
    let told = spec.told c.self.inside.core.flags.entries in
    let o = base_at c.args.place (offers_of c.self.inside.core.entries.items) in
    let there : is_lit_there (lit_by told) o ≡ lit_wait told c.in-Some.wait = lit_there told o ∙ ap (lit_at told) (sym c.wait_at.ensures.value ∙ c.in-Some.is) in
    rw (← c.self.view_is) (c.is_lit_by.ensures.value ∙ sym there)

pub returns-in-None-clause-value : goal.returns-in-None-clause-value
returns-in-None-clause-value c =
    let told = spec.told c.self.inside.core.flags.entries in
    let o = base_at c.args.place (offers_of c.self.inside.core.entries.items) in
    let there : is_lit_there (lit_by told) o ≡ false = lit_there told o ∙ ap (lit_at told) (sym c.wait_at.ensures.value ∙ c.in-None.is) in
    rw (← c.self.view_is) (sym there)
