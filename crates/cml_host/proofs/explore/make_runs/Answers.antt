use Rattle.std.proofs.Common.{rules, ◌≡◌, ◌∙◌, Bool, Err, false, true, subst, arith}
use Rattle.cml_host.specs.Replies.{moment}
use Rattle.cml_explore.specs.Explored.{HasMade}
use Rattle.cml_host.specs.declared.explain.Halt.TheVariants.{Memory}
use Rattle.cml_host.proofs.ExploringLemmas.{shows_none, shows_on, stops_on}
use Rattle.cml_host.proofs.WriteLemmas.{if_err}
use Rattle.cml_host.proofs.explore.make_runs.Goals as goal

pub runs-init : goal.runs-init
runs-init g c =
    record {
      so_far = c.new-made.ensures.begins c.args.program.now c.args.asked.now;
      few = omega (arith, c.new-made.ensures.none);
      shows = shows_none c.args.shows (g.E.Write.contents c.args.err.now.stream.now);
      fine = search rules;
      same = search rules;
    }

pub returns-in_err-last-clause-err : goal.returns-in_err-last-clause-err
returns-in_err-last-clause-err g c =
    let is : c.from_residual.result ≡ Err Memory = search rules in
    if_err c.from_residual.result Memory _ is (c.runs.invariant.shows, c.runs.invariant.fine)

pub returns-in_err-show_round-clause-err : goal.returns-in_err-show_round-clause-err
returns-in_err-show_round-clause-err g c =
    let why = c.in_err-show_round.field-0.0 in
    let is : c.from_residual-in_err-show_round.result ≡ Err why = search rules in
    let contents = g.E.Write.contents in
    if_err c.from_residual-in_err-show_round.result why _ is (stops_on c.args.shows why (moment contents c.args.err.now) (moment contents c.runs.err) (moment contents c.show_round.new.err)
    c.runs.invariant.shows c.runs.invariant.fine c.in_err-show_round.ensures.err)

pub returns-then-last-clause-made : goal.returns-then-last-clause-made
returns-then-last-clause-made g c =
    subst (λ (b : Bool). HasMade c.args.program.now c.args.asked.now b c.go_on.new.made) c.if-last.true c.in_ok-last.ensures.goes

pub returns-then-last-clause-ok : goal.returns-then-last-clause-ok
returns-then-last-clause-ok g c = (
  shows_on c.args.shows (g.E.Write.contents c.args.err.now.stream.now) (g.E.Write.contents c.runs.err.stream.now) (g.E.Write.contents c.show_round.new.err.stream.now)
      c.runs.invariant.shows c.in_ok-show_round.ensures.ok.0,
  c.in_ok-show_round.ensures.ok.1 ∙ c.runs.invariant.fine,
)

pub runs-preserved : goal.runs-preserved
runs-preserved g c =
    let more : HasMade c.args.program.now c.args.asked.now false c.go_on.new.made =
    subst (λ (b : Bool). HasMade c.args.program.now c.args.asked.now b c.go_on.new.made) c.if-last.false c.in_ok-last.ensures.goes in
    record {
      so_far = more.0;
      few = omega (arith, more.1);
      shows = shows_on c.args.shows (g.E.Write.contents c.args.err.now.stream.now) (g.E.Write.contents c.runs.err.stream.now) (g.E.Write.contents c.show_round.new.err.stream.now)
          c.runs.invariant.shows c.in_ok-show_round.ensures.ok.0;
      fine = c.in_ok-show_round.ensures.ok.1 ∙ c.runs.invariant.fine;
      same = c.in_ok-show_round.ensures.same_err ∙ c.runs.invariant.same;
    }

pub returns-clause-ok : goal.returns-clause-ok
returns-clause-ok g c = (c.runs.invariant.shows, c.runs.invariant.fine)
