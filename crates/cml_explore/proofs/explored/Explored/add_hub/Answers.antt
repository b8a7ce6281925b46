use Rattle.std.proofs.Common.{◌++◌, List, Option, ℕ, refl, ap, ◌∙◌}
use Rattle.cml_judge.specs.Judgements.{break_details, are_all_kept}
use Rattle.cml_explore.specs.Finishes.{PlainEnded, finish_of, fate_of, is_good, stops_by}
use Rattle.cml_explore.proofs.ExploreLemmas.{added_hub, finish_is}
use Rattle.cml_explore.proofs.explored.Explored.add_hub.Goals as goal

pub returns-clause-added : goal.returns-clause-added
returns-clause-added c =
    let h = c.args.hub.now in
    let servers = c.args.asked.now.servers.now in
    let details = c.in_ok-details.details.items in
    let judged = c.in_ok-judged.judged.items in
    let own = c.in_ok-details.ensures in
    let e : PlainEnded = record { finish = finish_of h details; fate = fate_of servers h (are_all_kept judged) } in
    let fate = c.fate_of-fate.ensures ∙ ap (λ (js : List (Option ℕ)). fate_of servers h (are_all_kept js)) c.as_slice-2.ensures.value in (
      e,
      record {
        own = own.0;
        own_are = own.1;
        judged = judged;
        judged_so = c.in_ok-judged.ensures;
        finish_is = ap (finish_of h) (own.2 ∙ ap (λ (js : List (Option ℕ)). own.0 ++ break_details 0 js) c.as_slice.ensures.value);
        fate_is = refl;
      },
      added_hub c.args.self.now c.self.inside.classes c.count.new.self c.self.inside.runs _ c.self.inside.well c.is_well.result c.both-self-inside.result c.args.seed
          (record { details = details; digest = c.digest_of.result; items = c.schedule.result.now }) e c.self.view_is
          (finish_is h details _ _ c.digest_of.ensures c.schedule.ensures.items) c.in_ok-count.ensures.ok refl (c.is_well.ensures ∙ ap is_good fate) c.both-self-inside.ensures,
      c.stops.ensures ∙ ap (stops_by c.args.asked.now.until.now) fate,
    )
