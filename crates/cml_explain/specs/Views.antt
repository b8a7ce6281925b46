-- What the structs of `src/` say.
use Rattle.std.specs.Prelude.{List, map}
use Rattle.std.specs.Option.{option_map}
use Rattle.cml_explain.specs.declared.stand.Stand.{Stand}
use Rattle.cml_explain.specs.declared.lets.Declared.{Declared}
use Rattle.cml_explain.specs.declared.hint.Hint.{Hint}
use Rattle.cml_explain.specs.declared.script.ScriptTrouble.{ScriptTrouble}
use Rattle.cml_explain.specs.declared.text.TextTrouble.{TextTrouble}
use Rattle.cml_explain.specs.Names.{PlainDeclared}
use Rattle.cml_explain.specs.Stands.{PlainStand}
use Rattle.cml_explain.specs.Troubles.{PlainHint, PlainScriptTrouble}
use Rattle.cml_explain.specs.Texts.{PlainTextTrouble}

abbrev pub plain_stand : Stand → PlainStand
plain_stand stand = record { role = stand.role; word = stand.word; given = stand.given; form = stand.form.now }

abbrev pub plain_declared : Declared → PlainDeclared
plain_declared declared = record { form = declared.form.now; known_from = declared.known_from }

abbrev pub all_declared : List Declared → List PlainDeclared
all_declared found = map plain_declared found

abbrev pub plain_hint : Hint → PlainHint
plain_hint hint = record { kind = hint.kind; name = hint.name.now; at = hint.at }

abbrev pub plain_script_trouble : ScriptTrouble → PlainScriptTrouble
plain_script_trouble t = record {
  trouble = t.trouble;
  at = t.at;
  marked_to = t.marked_to;
  name = t.name.now;
  parameters = option_map (λ forms. forms.now) t.parameters;
  hint = option_map plain_hint t.hint;
}

abbrev pub plain_text_trouble : TextTrouble → PlainTextTrouble
plain_text_trouble t = record { found = t.found; at = t.at; marked_to = t.marked_to; piece = t.piece.now; next_function = t.next_function; shown = t.shown.now }
