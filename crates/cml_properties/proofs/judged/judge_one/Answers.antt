use Rattle.std.proofs.Common.{sym}
use Rattle.std.proofs.lemmas.List.{length-map}
use Rattle.cml_properties.specs.Agreements.{texts}
use Rattle.cml_properties.proofs.JudgedLemmas.{judged_apart, judged_alike}
use Rattle.cml_properties.proofs.judged.judge_one.Goals as goal

pub returns-then-not-is_like_first : goal.returns-then-not-is_like_first
returns-then-not-is_like_first c =
    judged_apart c.args.property.now (texts c.args.first.now) (texts c.args.own.now) c.args.run.now _ _ c.requires.own c.in_ok-is_like_first.ensures
    c.if-not-is_like_first.true (sym (length-map c.args.own.now (λ line. line.now)))

pub returns : goal.returns
returns c =
    judged_alike c.args.property.now (texts c.args.first.now) (texts c.args.own.now) c.args.run.now c.args.printed.now _ c.requires.own c.requires.printed
    (c.in_ok-is_like_first.ensures.0 c.if-not-is_like_first.false) c.broken.ensures.kept c.broken.ensures.broken
