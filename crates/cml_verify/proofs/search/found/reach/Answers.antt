use Rattle.std.proofs.Common.{◌≡◌, suc, ◌+◌, ◌-◌, ◌<◌, length, map, slice_get, Some, refl, ap, sym, ◌∙◌, arith}
use Rattle.std.proofs.lemmas.Option.{slice_get_read, slice_get_within}
use Rattle.std.proofs.lemmas.List.{length-map}
use Rattle.cml_verify.proofs.Broad.{found_within, followed_within}
use Rattle.cml_verify.proofs.Deep.{way}
use Rattle.cml_verify.proofs.search.found.reach.Goals as goal

pub loop-at-preserved : goal.loop-at-preserved
loop-at-preserved g c =
    let origins = c.args.found.now.origins.items in
    let t = c.requires.search.keeps.trail in
    let size = length-map c.args.found.now.kept.keys (g.Y.System.state_of c.args._system.now) in
    let before = c.loop-at.invariant in
    let o = c.index.result.now in
    let here : slice_get origins (c.loop-at.at - 1) ≡ Some o = slice_get_read origins (length origins) (c.loop-at.at - 1) o refl (omega (arith, t.lengths, size, before.within)) c.index.ensures in
    record {
      within = omega (arith, t.before (c.loop-at.at - 1) o here, before.within);
      few = omega (arith, t.before (c.loop-at.at - 1) o here, before.few);
      counts = λ d n.
          let at_is : c.loop-at.at - 1 + 1 ≡ c.loop-at.at = omega arith in
          let deep : d c.loop-at.at ≡ d o.0 + 1 = ap d (sym at_is) ∙ n.more (c.loop-at.at - 1) o here in
          omega (arith, deep, before.counts d n);
    }

pub returns-clause-found : goal.returns-clause-found
returns-clause-found g c =
    let found = c.args.found.now in
    let f = g.Y.System.state_of c.args._system.now in
    found_within (g.Y.System.rules c.args._system.now) (g.met.Y.System.lawful c.args._system.now) found.quietly found.followed (map f found.kept.keys) found.origins.items c.requires.search
    (omega (arith, length-map found.kept.keys f, c.requires.stopped)) c.loop-at.count c.loop-at.at (omega arith) c.loop-at.invariant.counts

pub returns-clause-depth : goal.returns-clause-depth
returns-clause-depth g c = λ d n.
    let first : c.loop-at.at ≡ 0 = omega arith in
    omega (arith, c.loop-at.invariant.counts d n, ap d first, n.start)

pub returns-clause-near : goal.returns-clause-near
returns-clause-near g c = λ k s at.
    let found = c.args.found.now in
    let f = g.Y.System.state_of c.args._system.now in
    let states = map f found.kept.keys in
    let b = c.requires.search.broad in
    let w = way (g.Y.System.rules c.args._system.now) states found.origins.items c.requires.search.keeps.trail b.depth b.counts (suc k) k s (omega arith) at in
    let stopped : found.followed < length states = omega (arith, length-map found.kept.keys f, c.requires.stopped) in
    let first : c.loop-at.at ≡ 0 = omega arith in (
      w.items,
      w.leads,
      omega (arith, w.long, b.near stopped k (slice_get_within states k s at), c.loop-at.invariant.counts b.depth b.counts, ap b.depth first, b.counts.start),
    )

pub returns-clause-followed : goal.returns-clause-followed
returns-clause-followed g c =
    let found = c.args.found.now in
    let f = g.Y.System.state_of c.args._system.now in
    followed_within (g.Y.System.rules c.args._system.now) (g.met.Y.System.lawful c.args._system.now) found.quietly found.followed (map f found.kept.keys) found.origins.items c.requires.search
    (omega (arith, length-map found.kept.keys f, c.requires.stopped)) c.loop-at.count c.loop-at.at (omega arith) c.loop-at.invariant.counts
