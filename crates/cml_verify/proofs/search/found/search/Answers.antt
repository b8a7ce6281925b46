use Rattle.std.proofs.Common.{◌≡◌, map, take, slice_get, subst, arith}
use Rattle.std.specs.List.{All}
use Rattle.std.proofs.lemmas.List.{take_all, length-map}
use Rattle.cml_verify.specs.Searches.{WasFollowed}
use Rattle.cml_verify.proofs.Runs.{at_some}
use Rattle.cml_verify.specs.Places.{there}
use Rattle.cml_verify.proofs.Rounds.{no_shorter, followed_more}
use Rattle.cml_verify.proofs.search.found.search.Goals as goal

pub loop-at-preserved : goal.loop-at-preserved
loop-at-preserved g c =
    let y = g.Y.System.rules c.args.system.now in
    let f = g.Y.System.state_of c.args.system.now in
    let old = map f c.loop-at.found.kept.keys in
    let new = map f c.follow_at.new.found.kept.keys in
    let before = c.loop-at.invariant in
    let after = c.in_ok-follow_at.ensures in
    let old_size = length-map c.loop-at.found.kept.keys f in
    let new_size = length-map c.follow_at.new.found.kept.keys f in
    let t = there old c.loop-at.at (omega (arith, old_size)) in
    record {
      search = after.search (grind arith);
      edges = after.edges (grind arith);
      done = followed_more y c.args.quietly old new c.loop-at.at t.0 t.1 after.longer before.done
          (at_some (WasFollowed y c.args.quietly new) (slice_get old c.loop-at.at) t.0 t.1 (after.followed (grind arith)));
      within = omega (arith, old_size, new_size, no_shorter old new after.longer);
      bounded = after.bounded (grind arith);
    }

pub returns-clause-followed : goal.returns-clause-followed
returns-clause-followed g c =
    let y = g.Y.System.rules c.args.system.now in
    let f = g.Y.System.state_of c.args.system.now in
    let states = map f c.loop-at.found.kept.keys in
    let all : take c.loop-at.at states ≡ states = take_all c.loop-at.at states (omega (arith, length-map c.loop-at.found.kept.keys f)) in
    λ _. subst (All (WasFollowed y c.args.quietly states)) all c.loop-at.invariant.done
