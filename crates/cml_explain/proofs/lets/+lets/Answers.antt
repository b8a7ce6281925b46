use Rattle.std.proofs.Common.{arith}
use Rattle.cml_text.specs.Forms.{plain_forms}
use Rattle.cml_explain.specs.Names.{lets_among}
use Rattle.cml_explain.specs.Views.{all_declared}
use Rattle.cml_check.proofs.ExpressionLemmas.{member-below}
use Rattle.cml_explain.proofs.LetLemmas.{lets_listed, lets_name, lets_int, lets_text, lets-next, lets-end}
use Rattle.cml_explain.proofs.lets.+lets.Goals as goal

pub push_lets-returns-in-Name : goal.push_lets-returns-in-Name
push_lets-returns-in-Name t c = lets_name _ c.args.form.now c.in-Name.field-0.now c.in-Name.ensures

pub push_lets-returns-in-Int : goal.push_lets-returns-in-Int
push_lets-returns-in-Int t c = lets_int _ c.args.form.now c.in-Int.field-0 c.in-Int.ensures

pub push_lets-returns-in-Text : goal.push_lets-returns-in-Text
push_lets-returns-in-Text t c = lets_text _ c.args.form.now c.in-Text.field-0.now c.in-Text.ensures

pub push_lets-returns-in_ok-push_lets_among-in-List : goal.push_lets-returns-in_ok-push_lets_among-in-List
push_lets-returns-in_ok-push_lets_among-in-List t c =
    lets_listed (all_declared c.args.found.now.items) (all_declared c.push_let.new.found.items) (all_declared c.push_lets_among.new.found.items)
    c.args.form.now c.in-List.forms.now c.span.result
    c.in-List.ensures c.span.ensures c.in_ok-push_let-in-List.ensures c.in_ok-push_lets_among-in-List.ensures

-- a form of the list lies lower than the list
pub push_lets_among-push_lets-requires : goal.push_lets_among-push_lets-requires
push_lets_among-push_lets-requires t c =
    let start = c.decreases in
    (omega (arith, member-below c.args.forms.now c.loop-form.form-index c.form-item.result c.loop-form-test.true c.form-item.is), tt)

pub push_lets_among-loop-form-preserved : goal.push_lets_among-loop-form-preserved
push_lets_among-loop-form-preserved t c =
    lets-next (all_declared c.args.found.now.items) (all_declared c.loop-form.found.items) (all_declared c.push_lets.new.found.items) (lets_among (plain_forms c.args.forms.now))
    c.args.forms.now c.loop-form.form-index c.form-item.result c.loop-form-test.true c.form-item.is c.in_ok-push_lets.ensures c.loop-form.invariant

pub push_lets_among-returns : goal.push_lets_among-returns
push_lets_among-returns t c =
    lets-end (all_declared c.args.found.now.items) (all_declared c.loop-form.found.items) (lets_among (plain_forms c.args.forms.now))
    c.args.forms.now c.loop-form.form-index (omega (arith, c.loop-form-test.false)) c.loop-form.invariant
