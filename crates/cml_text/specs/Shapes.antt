-- What a caller sees of a form.
use Rattle.std.specs.Prelude.{◌≡◌}
use Rattle.cml_text.specs.declared.sexpr.Shape.{Shape}
use Rattle.cml_text.specs.declared.sexpr.Shape.TheVariants as shape
use Rattle.cml_text.specs.Forms.{PlainSexpr, plain_name, plain_int, plain_text, plain_list, plain_forms, span_of}

-- the form is of this kind and holds this
abbrev pub HasShape : Shape → PlainSexpr → Type 0
HasShape (shape.Name name) form = form ≡ plain_name (span_of form) name.now
HasShape (shape.Int value) form = form ≡ plain_int (span_of form) value
HasShape (shape.Text content) form = form ≡ plain_text (span_of form) content.now
HasShape (shape.List forms) form = form ≡ plain_list (span_of form) (plain_forms forms.now)
