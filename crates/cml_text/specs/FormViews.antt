-- The view of a `Sexpr`, made from its fields. The forms of a list are given by their own views.
use Rattle.std.specs.String.{string_bytes}
use Rattle.cml_text.specs.Forms.{PlainSexpr, plain_name, plain_int, plain_text, plain_list, plain_forms}
use Rattle.cml_text.specs.declared.sexpr.Span.{Span}
use Rattle.cml_text.specs.declared.sexpr.Node.{Node}
use Rattle.cml_text.specs.declared.sexpr.Node.TheVariants as node

abbrev pub form_of : Span → Node → PlainSexpr
form_of span (node.Name name) = plain_name span name
form_of span (node.Int value) = plain_int span value
form_of span (node.Text content) = plain_text span (string_bytes content)
form_of span (node.List forms) = plain_list span (plain_forms forms.items)
