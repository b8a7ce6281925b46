use Rattle.std.proofs.Common.{◌++◌, length, sym, ap, ◌∙◌, append_assoc, append-nil, arith}
use Rattle.std.proofs.lemmas.Iterator.{YieldsList-from_chars}
use Rattle.std.proofs.lemmas.Iterator.Consumers.{YieldsList-turn, YieldsList-end}
use Rattle.std.proofs.lemmas.List.{length_push}
use Rattle.std.specs.String.{string_bytes}
use Rattle.std.specs.Str.{chars}
use Rattle.cml_value.specs.Show.{escaped_text}
use Rattle.cml_value.proofs.Escapes.{escaped-drop, escaped-drop_all, encodes-chars}
use Rattle.cml_value.proofs.value.show.push_characters.Goals as goal

pub loop-c-preserved : goal.loop-c-preserved
loop-c-preserved c =
    let t = YieldsList-turn (YieldsList-from_chars c.args.text.now c.utf8.text cc) c.loop-c.yielded _ c.loop-c.yielded_by _ _ c.in-Some.c c.in-Some.is c.next.ensures.steps in
    let e = escaped-drop (chars c.args.text.now) (length c.loop-c.yielded) c.in-Some.c t in
    rw (length_push c.loop-c.yielded c.in-Some.c, c.in_ok-push_character.ensures, append_assoc, ← e) c.loop-c.invariant

pub returns : goal.returns
returns c =
    let t = YieldsList-end (YieldsList-from_chars c.args.text.now c.utf8.text cc) c.loop-c.yielded _ c.loop-c.yielded_by _ _ c.in-None.is c.next.ensures.steps in
    let none = escaped-drop_all (chars c.args.text.now) (length c.loop-c.yielded) (omega (arith, t.1)) in
    let text = encodes-chars c.args.text.now c.utf8.text in
    sym (append-nil (string_bytes c.loop-c.out)) ∙ ap (λ bs. string_bytes c.loop-c.out ++ bs) (sym none) ∙ c.loop-c.invariant ∙ ap (λ bs. string_bytes c.args.out.now ++ escaped_text bs) text
