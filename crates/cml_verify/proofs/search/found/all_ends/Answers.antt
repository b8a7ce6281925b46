use Rattle.std.proofs.Common.{map}
use Rattle.cml_verify.proofs.Wholes.{both_ok, has_each_end}
use Rattle.cml_verify.proofs.search.found.all_ends.Goals as goal

pub returns-clause-ends : goal.returns-clause-ends
returns-clause-ends g c =
    let y = g.Y.System.rules c.args.system.now in
    let states = g.Y.System.state_of c.args.system.now in
    both_ok c.search.result c.search.ensures.search c.search.ensures.followed
    (λ f search followed whole. has_each_end y (g.met.Y.System.lawful c.args.system.now) (map states f.kept.keys) f.origins.items search.keeps (followed whole))
