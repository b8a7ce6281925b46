use Rattle.std.proofs.Common.{ap, ◌∙◌, map}
use Rattle.std.specs.Prelude.{codes}
use Rattle.std.proofs.lemmas.Slice.{pushed}
use Rattle.cml_picture.specs.Views.{attribute_name}
use Rattle.cml_picture.specs.Xml.{element}
use Rattle.cml_picture.proofs.TextLemmas.{file_written}
use Rattle.cml_picture.proofs.svg.xml.file_of.Goals as goal

pub returns : goal.returns
returns c =
    let written = pushed c.as_slice-3.result.now c.in_ok-text.ensures.items c.in_ok-extend_from_slice.was c.extend_from_slice.ensures.items in
    file_written _ c.as_slice-3.result.now c.args.name.now c.in_ok-own.own.items c.args.inner.now.text.items (map attribute_name c.args.attributes.now)
    c.args.inner.now.content c.requires c.in_ok-own.ensures
    (c.as_slice-3.ensures.value ∙ c.in_ok-element.ensures
    ∙ ap (λ own. element c.args.name.now own c.as_slice-2.result.now) c.as_slice.ensures.value
    ∙ ap (λ inner. element c.args.name.now c.in_ok-own.own.items inner) c.as_slice-2.ensures.value)
    (pushed (codes "\n") written c.in_ok-extend_from_slice-2.was c.extend_from_slice-2.ensures.items)
