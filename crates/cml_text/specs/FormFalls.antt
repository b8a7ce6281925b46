-- No form is as deep as the list in which it stands.
use Rattle.std.specs.Prelude.{◌+◌, ◌≤◌, max, List, [], ◌∷◌}
use Rattle.std.proofs.Common.{arith}
use denote.Param.Weighed.{most}
use Rattle.cml_text.specs.Forms.{PlainSexpr, plain_forms, nesting, nesting_of}
use Rattle.cml_text.specs.FormViews.{form_of}
use Rattle.cml_text.specs.declared.sexpr.Span.{Span}
use Rattle.cml_text.specs.declared.sexpr.Node.{Node}
use Rattle.cml_text.specs.declared.sexpr.Node.TheVariants as node
use Rattle.cml_text.specs.declared.sexpr.Sexpr.TheDeep.{deep-Node}

pub most-nesting : (forms : List PlainSexpr) → most (λ form. nesting form + 1) forms ≤ nesting_of (plain_forms forms) + 1
most-nesting [] = omega arith
most-nesting (form ∷ forms) = omega (arith, most-nesting forms)

pub deep_le-nesting : (span : Span) (n : Node) → max (deep-Node n) 0 ≤ nesting (form_of span n)
deep_le-nesting span (node.Name name) = omega arith
deep_le-nesting span (node.Int value) = omega arith
deep_le-nesting span (node.Text content) = omega arith
deep_le-nesting span (node.List forms) = omega (arith, most-nesting forms.items)
