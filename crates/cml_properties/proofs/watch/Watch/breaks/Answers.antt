use Rattle.std.proofs.Common.{◌∙◌, sym, refl}
use Rattle.cml_properties.proofs.BreakLemmas.{breaks_next, seen_more}
use Rattle.cml_properties.proofs.watch.Watch.breaks.Goals as goal

pub returns-clause-broken : goal.returns-clause-broken
returns-clause-broken c = λ lines seen. c.is_broken_by-is_broken.ensures ∙ breaks_next c.args.self.now lines c.args.line.now seen

pub returns-clause-seen : goal.returns-clause-seen
returns-clause-seen c =
    λ lines seen whole. seen_more _ _ lines c.args.line.now refl c.is_marked_with-self.ensures (sym c.is_broken_by-is_broken.ensures ∙ whole) seen
