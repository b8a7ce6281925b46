use Rattle.std.proofs.Common.{map}
use Rattle.cml_explore.proofs.ToldLemmas.{all_so}
use Rattle.cml_explore.proofs.tell.Script.all_told.Goals as goal

pub returns : goal.returns
returns c =
    let s = c.args.self.now in
    all_so c.classes_told.result (map (λ own. own.items) s.places.now) s.program.now s.asked c.args.classes.now c.in_ok-numbers.numbers.items c.as_slice.result.now
    c.in_ok-numbers.ensures.ranked c.as_slice.ensures.value c.classes_told.ensures.numbers c.classes_told.ensures.each
