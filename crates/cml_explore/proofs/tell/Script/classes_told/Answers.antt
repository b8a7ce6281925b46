use Rattle.std.proofs.Common.{◌∙◌, map, ap, subst, sym, arith}
use Rattle.std.specs.List.{All}
use Rattle.std.proofs.lemmas.List.Elements.{All-push}
use Rattle.cml_explore.specs.declared.told.ClassTold.{ClassTold}
use Rattle.cml_explore.specs.Told.{IsClassTold}
use Rattle.cml_explore.proofs.ToldLemmas.{numbers_more}
use Rattle.cml_explore.proofs.tell.Script.classes_told.Goals as goal

pub loop-index-preserved : goal.loop-index-preserved
loop-index-preserved c =
    let s = c.args.self.now in
    let Is = IsClassTold (map (λ own. own.items) s.places.now) s.program.now s.asked c.args.classes.now in
    record {
      numbers = ap (map (λ (k : ClassTold). k.number)) c.in_ok-push.ensures.items
          ∙ numbers_more c.args.numbers.now c.loop-index.index c.loop-index.told.items c.in_ok-class.class (omega arith) c.in_ok-class.ensures.number c.loop-index.invariant.numbers;
      each = subst (All Is) (sym c.in_ok-push.ensures.items) (All-push Is c.loop-index.told.items c.in_ok-class.class c.loop-index.invariant.each c.in_ok-class.ensures.told);
    }
