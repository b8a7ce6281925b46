use Rattle.std.proofs.Common.{sym}
use Rattle.cml_explore.proofs.ClassLemmas.{joins_few, joins, joins_not, begins, begins_not}
use Rattle.cml_explore.proofs.classes.Classes.count.Goals as goal

pub join-requires : goal.join-requires
join-requires c =
    joins_few (λ d. d.items) _ (record {
      details = c.args.details.items;
      digest = c.args.digest;
      items =
          c.args.items.now;
    }) c.self.inside.details.keys c.self.inside.summaries.items c.in-Some.class c.args.details
    c.index_mut.result.now c.args.self.now
    c.self.invariant (sym c.in-Some.ensures.index) c.index_mut.ensures.value (sym c.self.view_is) c.requires

pub returns-in-Some-clause-ok : goal.returns-in-Some-clause-ok
returns-in-Some-clause-ok c =
    joins c.join.result (λ d. d.items) c.args.seed (record {
      details = c.args.details.items;
      digest = c.args.digest;
      items = c.args.items.now;
    }) c.self.inside.details.keys c.self.inside.summaries.items c.in-Some.class
    c.args.details c.index_mut.result.now c.join.new.self c.args.self.now
    c.self.invariant (sym c.in-Some.ensures.index) c.index_mut.ensures.value (sym c.self.view_is) c.join.ensures.ok

pub returns-in-None-clause-ok : goal.returns-in-None-clause-ok
returns-in-None-clause-ok c =
    begins c.begin_class.result (λ d. d.items) c.args.seed (record {
      details = c.args.details.items;
      digest =
          c.args.digest;
      items = c.args.items.now;
    }) c.self.inside.details.keys c.self.inside.summaries.items _
    c.begin_class.new.summaries.items c.args.self.now
    c.self.invariant (sym c.in-None.ensures.found) (sym c.self.view_is) c.begin_class.ensures.known c.begin_class.ensures.summaries

pub returns-in-Some-clause-err : goal.returns-in-Some-clause-err
returns-in-Some-clause-err c =
    joins_not c.join.result (λ d. d.items) c.self.inside.details.keys c.self.inside.summaries.items c.in-Some.class c.index_mut.result.now c.join.new.self c.args.self.now
    c.index_mut.ensures.value (sym c.self.view_is) c.join.ensures.err

pub returns-in-None-clause-err : goal.returns-in-None-clause-err
returns-in-None-clause-err c =
    begins_not c.begin_class.result (λ d. d.items) c.self.inside.details.keys c.begin_class.new.known.keys c.self.inside.summaries.items c.begin_class.new.summaries.items c.args.self.now
    (sym c.self.view_is) c.begin_class.ensures.err
