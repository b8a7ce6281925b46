use Rattle.std.proofs.Common.{ap, ◌∷◌, [], refl}
use Rattle.cml_hub.proofs.Opening.{main_is}
use Rattle.cml_hub.proofs.course.no_deeds.Goals as goal

pub returns : goal.returns
returns c =
    let main = main_is c.args.program.now c.main.result c.main.ensures.found in
    record {
      began_so = rw (main, c.in_ok-push.ensures.items, c.new-origins.ensures.items) (rw (c.new.ensures.items) at (ap (λ f. f ∷ []) c.in-Ok.ensures.ok));
      counted = refl;
    }
