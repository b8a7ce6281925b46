-- What the forms of a script are: the program, with names, or the first fault in the order in which a script is checked. First come
-- the heads of all items, then `main`, then the statements of all functions, each from the left.
use Rattle.std.specs.Prelude.{ℕ, List, [], ◌∷◌, length, Ok}
use Rattle.cml_text.specs.Forms.{PlainSexpr}
use Rattle.cml_check.specs.Syntax.{Name, PlainItem}
use Rattle.cml_check.specs.Checked.{Checked, ◌>>=◌}
use Rattle.cml_check.specs.Heads.{PlainHead, heads_from, main_in}
use Rattle.cml_check.specs.Statements.{stmts_in}

-- the function of a head, and how many statements the script has up to its end
unfoldable pub function_by : List PlainHead → ℕ → PlainHead → Checked (PlainItem Name × ℕ)
function_by heads statements head = do
  body ← stmts_in heads (record { names = head.parameters; statements = statements }) head.body
  Ok (record { name = head.name; names = body.1.names; arity = length head.parameters; body = body.0 }, body.1.statements)

-- the functions of the heads that are left, where the script had that many statements so far
unfoldable pub functions_in : List PlainHead → ℕ → List PlainHead → Checked (List (PlainItem Name))
functions_in heads statements [] = Ok []
functions_in heads statements (head ∷ left) = do
  f ← function_by heads statements head
  fs ← functions_in heads f.1 left
  Ok (f.0 ∷ fs)

unfoldable pub shape : List PlainSexpr → Checked (List (PlainItem Name))
shape forms = do
  heads ← heads_from [] forms
  _ ← main_in heads
  functions_in heads 0 heads
