use Rattle.std.proofs.Common.{length, arith, append_assoc, append-nil}
use Rattle.std.proofs.lemmas.Iterator.{YieldsList-from_chars}
use Rattle.std.proofs.lemmas.List.{at_drop_more, at_drop_all, length_push}
use Rattle.std.proofs.lemmas.Iterator.Consumers.{YieldsList-turn, YieldsList-end}
use Rattle.std.specs.List.{flat_map}
use Rattle.std.specs.Str.{chars}
use Rattle.cml_picture.specs.Xml.{escaped_character}
use Rattle.cml_picture.proofs.svg.escape.push_characters.Goals as goal

pub loop-character-preserved : goal.loop-character-preserved
loop-character-preserved c =
    let t = YieldsList-turn (YieldsList-from_chars c.args.text.now c.utf8.text cc) c.loop-character.yielded _ c.loop-character.yielded_by _ _ c.in-Some.character c.in-Some.is c.next.ensures.steps in
    let e = at_drop_more (flat_map escaped_character) (chars c.args.text.now) (length c.loop-character.yielded) c.in-Some.character t.0 in
    let n = length_push c.loop-character.yielded c.in-Some.character in
    grind (arith, append_assoc)

pub returns : goal.returns
returns c =
    let t = YieldsList-end (YieldsList-from_chars c.args.text.now c.utf8.text cc) c.loop-character.yielded _ c.loop-character.yielded_by _ _ c.in-None.is c.next.ensures.steps in
    let e = at_drop_all (flat_map escaped_character) (chars c.args.text.now) (length c.loop-character.yielded) (omega (arith, t.1)) in
    grind (arith, append-nil)
