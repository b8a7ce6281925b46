use Rattle.std.proofs.Common.{◌^◌, sym}
use Rattle.cml_explore.proofs.JoinLemmas.{joins_room, joins_class, begins_class}
use Rattle.cml_explore.proofs.classes.Classes.absorb_class.Goals as goal

pub absorb-requires : goal.absorb-requires
absorb-requires c =
    joins_room (λ d. d.items) c.args.class.summary.now.runs (2 ^ 64) c.in_ok-details.details.items
    c.self.inside.details.keys c.self.inside.summaries.items c.in-Some.known c.in_ok-details.details
    c.index_mut.result.now c.args.self.now
    c.self.invariant (sym c.in-Some.ensures.index) c.index_mut.ensures.value (sym c.self.view_is) c.requires

pub returns-in-Some : goal.returns-in-Some
returns-in-Some c =
    joins_class c.absorb.result (λ d. d.items) c.in_ok-details.details.items _ c.args.class.summary.now
    c.self.inside.details.keys c.self.inside.summaries.items c.in-Some.known c.in_ok-details.details
    c.index_mut.result.now c.absorb.new.self c.args.self.now
    c.self.invariant (sym c.in-Some.ensures.index) c.index_mut.ensures.value (sym c.self.view_is) c.in_ok-details.ensures.items c.absorb.ensures

pub returns-in_ok-summary-in-None : goal.returns-in_ok-summary-in-None
returns-in_ok-summary-in-None c =
    begins_class c.push_class.result (λ d. d.items) c.in_ok-details.details.items _ c.args.class.summary.now
    c.in_ok-summary-in-None.summary c.self.inside.details.keys c.self.inside.summaries.items _
    c.push_class.new.summaries.items c.args.self.now
    c.self.invariant (sym c.in-None.ensures.found) (sym c.self.view_is) c.in_ok-details.ensures.items c.in_ok-summary-in-None.ensures c.push_class.ensures.known c.push_class.ensures.summaries
