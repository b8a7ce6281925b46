use Rattle.std.proofs.Common.{◌<◌, ◌+◌, length, map, slice_get, ap, sym, subst, ◌∙◌, arith}
use Rattle.std.specs.List.{All}
use Rattle.std.proofs.lemmas.List.Elements.{All-push}
use Rattle.std.proofs.lemmas.List.{length-map}
use Rattle.cml_verify.specs.Systems.{IsTerminal}
use Rattle.cml_verify.proofs.Runs.{at_some}
use Rattle.cml_verify.specs.Places.{there}
use Rattle.cml_verify.proofs.Listing.{EachEnds, AllListed, each_more, all_more, all_but, all_listed}
use Rattle.cml_verify.proofs.search.found.ends_of.Goals as goal
use Rattle.cml_verify.proofs.search.found.ends_of.Goals.{then-branch+in_ok-push, else-branch}

pub loop-k-preserved : goal.loop-k-preserved
loop-k-preserved g c =
    let y = g.Y.System.rules c.args.system.now in
    let f = g.Y.System.state_of c.args.system.now in
    let keys = c.args.found.now.kept.keys in
    let states = map f keys in
    let before = c.loop-k.invariant in
    let in' : c.loop-k.k < length keys = omega arith in
    let t = there states c.loop-k.k (omega (arith, length-map keys f, in')) in
    elim c.if-branch.branch [
      | then-branch+in_ok-push w ↦
          let stop : IsTerminal y t.0 = at_some (IsTerminal y) (slice_get states c.loop-k.k) t.0 t.1 (c.in_ok-is_end.ensures.yes w.if-branch.true) in
          let after = ap (λ v. v.items) w.ends-is ∙ w.in_ok-push.ensures.items in
          record {
            within = subst (All (λ j. j < length keys)) (sym after) (All-push (λ j. j < length keys) c.loop-k.ends.items c.loop-k.k before.within in');
            each = each_more y states c.loop-k.ends.items c.if-branch.ends.items c.loop-k.k t.0 t.1 stop after before.each;
            all = all_more y states c.loop-k.ends.items c.if-branch.ends.items c.loop-k.k after before.all;
          }
      | else-branch w ↦
          let goes_on : IsTerminal y t.0 → ⊥ = at_some (λ s. IsTerminal y s → ⊥) (slice_get states c.loop-k.k) t.0 t.1 (c.in_ok-is_end.ensures.no w.if-branch.false) in
          let same = ap (λ v. v.items) w.ends-is in
          record {
            within = subst (All (λ j. j < length keys)) (sym same) before.within;
            each = subst (EachEnds y states) (sym same) before.each;
            all = subst (λ l. AllListed y states l (c.loop-k.k + 1)) (sym same) (all_but y states c.loop-k.ends.items c.loop-k.k t.0 t.1 goes_on before.all);
          }
    ]

pub returns-clause-all : goal.returns-clause-all
returns-clause-all g c =
    let y = g.Y.System.rules c.args.system.now in
    let f = g.Y.System.state_of c.args.system.now in
    let keys = c.args.found.now.kept.keys in
    all_listed y (map f keys) c.loop-k.ends.items c.loop-k.k (omega (arith, length-map keys f)) c.loop-k.invariant.all
