use Rattle.std.proofs.Common.{◌≡◌, ◌∙◌, ◌++◌, [], List, ℕ, Bool, false, ap, subst, sym}
use Rattle.cml_properties.specs.declared.property.Property.{Property}
use Rattle.cml_host.specs.Closed.{is_asked, plain_asked}
use Rattle.cml_host.proofs.ClosedLemmas.{said_so}
use Rattle.cml_host.proofs.close.closing_words.Goals as goal

pub returns : goal.returns
returns c =
    let asked = plain_asked c.args.asked.now in
    said_so asked.explains asked.properties c.push_judged.new.out.items c.in_ok-more.more.items c.extend_from_slice.new.self.items
    (λ none. c.in_ok-push_judged.ensures (subst (λ (ps : List Property). is_asked ps ≡ false) (sym c.as_slice.ensures.value) none) ∙ c.new-words.ensures.items)
    c.in_ok-more.ensures
    (c.in_ok-extend_from_slice.ensures.items ∙ ap (λ (l : List ℕ). c.push_judged.new.out.items ++ l) c.as_slice-2.ensures.value)
