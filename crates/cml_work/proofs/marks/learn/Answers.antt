use Rattle.std.proofs.Common.{rules, ap, sym, subst, ◌∙◌}
use Rattle.crossbeam_utils.specs.Seq.{cell_view}
use Rattle.cml_work.specs.declared.marks.Known.{Known}
use Rattle.cml_work.specs.Marks.{BeginsWith, known_of, shown_of, with_shown}
use Rattle.cml_work.proofs.MarkSteps.{begins_trans, learns_as, takes_in_as}
use Rattle.cml_work.proofs.marks.learn.Goals as goal

pub join_pass-requires : goal.join_pass-requires
join_pass-requires g c =
    let k = c.requires.keeper in
    let m = c.requires.mark in
    (search rules, (search rules, ((k.0, m.0 ∙ sym k.0, m.1), takes_in_as _ _ _ _ _ k.1)))

pub load_as-requires : goal.load_as-requires
load_as-requires g c =
    let k = c.requires.keeper in
    let j = c.join_pass.ensures in
    let known = j.1 ∙ ap (λ (v : Known). with_shown v (cell_view c.args.mark)) k.1 in
    (search rules, (search rules, (j.0.0 ∙ k.0, learns_as _ _ (known_of c.args.keeper.now) (shown_of c.args.mark) g.X.Naming.list known c.requires.grows)))

pub returns-clause-keeper : goal.returns-clause-keeper
returns-clause-keeper g c =
    let k = c.requires.keeper in
    let j = c.join_pass.ensures in
    let l = c.load_as.ensures in
    (l.cell.0 ∙ j.0.0 ∙ k.0, l.rule.0)

pub returns-clause-shown : goal.returns-clause-shown
returns-clause-shown g c =
    let k = c.requires.keeper in
    let j = c.join_pass.ensures in
    let known = j.1 ∙ ap (λ (v : Known). with_shown v (cell_view c.args.mark)) k.1 in
    let seen = subst (λ (v : Known). BeginsWith v.all v.shown) known c.load_as.ensures.rule.1 in
    begins_trans g.X.Naming.list (known_of c.args.keeper.now) (shown_of c.args.mark) c.requires.grows seen
