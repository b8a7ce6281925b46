-- What the structs of `src/` say.
use Rattle.std.specs.Prelude.{ℕ, List, map}
use Rattle.std.specs.Option.{option_map}
use Rattle.cml_picture.specs.declared.sheet.stack.Stack.{Stack}
use Rattle.cml_picture.specs.declared.sheet.left.Left.{Left}
use Rattle.cml_picture.specs.declared.sheet.made.Sheet.{Sheet}
use Rattle.cml_picture.specs.declared.svg.xml.Attribute.{Attribute}
use Rattle.cml_picture.specs.Stacks.{PlainStack}
use Rattle.cml_picture.specs.Sheets.{PlainLeft, PlainSheet}

abbrev pub plain_stack : Stack → PlainStack
plain_stack s = record { shown = s.shown.items; fed = s.fed.items; bottom = s.bottom; rows = s.rows }

abbrev pub plain_left : Left → PlainLeft
plain_left l = record { named = l.named; awaits = option_map (λ all. all.items) l.awaits }

abbrev pub plain_sheet : Sheet → PlainSheet
plain_sheet s = record { stack = plain_stack s.stack; held = s.held.items; beginnings = s.beginnings.items; left = map plain_left s.left.items; quiet = s.is_quiet; threads = s.threads; items = s.items }

abbrev pub attribute_name : Attribute → List ℕ
attribute_name a = a.name.now
