use Rattle.std.proofs.Common.{◌≡◌, ◌+◌, ◌-◌, [], ◌∷◌, length, map, slice_get, Some, refl, ap, sym, subst, ◌∙◌, arith, length-append}
use Rattle.std.proofs.lemmas.Option.{slice_get_read}
use Rattle.std.proofs.lemmas.List.{length-reverse, length-map}
use Rattle.cml_verify.proofs.Back.{LeadsBack, back_more}
use Rattle.cml_verify.proofs.search.found.way_to.Goals as goal

pub loop-at-preserved : goal.loop-at-preserved
loop-at-preserved g c =
    let y = g.Y.System.rules c.args._system.now in
    let f = g.Y.System.state_of c.args._system.now in
    let states = map f c.args.found.now.kept.keys in
    let origins = c.args.found.now.origins.items in
    let t = c.requires.trail in
    let size = length-map c.args.found.now.kept.keys f in
    let o = c.index.result.now in
    let here : slice_get origins (c.loop-at.at - 1) ≡ Some o =
    slice_get_read origins (length origins) (c.loop-at.at - 1) o refl (omega (arith, t.lengths, size, c.loop-at.invariant.within)) c.index.ensures in
    record {
      within = omega (arith, t.before (c.loop-at.at - 1) o here, c.loop-at.invariant.within);
      counts = λ d n.
          let more = n.more (c.loop-at.at - 1) o here in
          let at_is : c.loop-at.at - 1 + 1 ≡ c.loop-at.at = omega arith in
          let deep : d c.loop-at.at ≡ d o.0 + 1 = ap d (sym at_is) ∙ more in
          let before = c.loop-at.invariant.counts d n in
          let pushed : length c.push.new.self.items ≡ length c.loop-at.items.items + 1 = ap length c.in_ok-push.ensures.items ∙ length-append c.loop-at.items.items (o.1 ∷ []) in
          omega (arith, deep, before, pushed);
      leads = subst (λ l. LeadsBack y states l o.0 c.args.place) (sym c.in_ok-push.ensures.items)
          (back_more y states origins c.loop-at.items.items c.loop-at.at c.args.place o t (omega arith) here c.loop-at.invariant.leads);
    }

pub returns-clause-counts : goal.returns-clause-counts
returns-clause-counts g c =
    let size : length c.reverse.new.self.items ≡ length c.loop-at.items.items = ap length c.reverse.ensures.items ∙ length-reverse c.loop-at.items.items in
    let zero_is : c.loop-at.at ≡ 0 = omega arith in
    λ d n.
    let start : d c.loop-at.at ≡ 0 = ap d zero_is ∙ n.start in
    omega (arith, size, start, c.loop-at.invariant.counts d n)
