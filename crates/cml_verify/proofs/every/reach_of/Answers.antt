use Rattle.std.proofs.Common.{[], ◌∷◌, map, sym, ◌∙◌, arith, length-append, true≢false}
use Rattle.std.proofs.lemmas.List.{length-map}
use Rattle.cml_verify.specs.Systems.{IsReached}
use Rattle.cml_verify.specs.Places.{all_at, place_in}
use Rattle.cml_step.specs.Calls.{text_of}
use Rattle.cml_verify.specs.{Cores.{program_system}, Kept.{core_kept}, Faults.{turn_of}}
use Rattle.cml_verify.proofs.every.reach_of.Goals as goal

pub reach-requires-clause-search : goal.reach-requires-clause-search
reach-requires-clause-search c = rw (c.requires.any) c.requires.search

pub returns-then-is_whole-clause-all : goal.returns-then-is_whole-clause-all
returns-then-is_whole-clause-all c = λ items core within sought. c.requires.all (sym c.is_whole.ensures ∙ c.if-is_whole.true) core (items, sought.0)

pub returns-then-is_whole-clause-whole : goal.returns-then-is_whole-clause-whole
returns-then-is_whole-clause-whole c = sym c.is_whole.ensures ∙ c.if-is_whole.true

pub returns-then-is_whole-clause-led : goal.returns-then-is_whole-clause-led
returns-then-is_whole-clause-led c = λ k core at.
    let p = c.args.system.now.program in
    let y = program_system (text_of p) c.args.system.now.with_output in
    let r = all_at (IsReached y) (map (core_kept p) c.args.found.now.kept.keys) k core c.requires.search.keeps.reached at in
    (r.0, r.1, tt)

pub returns-clause-led : goal.returns-clause-led
returns-clause-led c = c.reach.ensures.near

pub returns-clause-all : goal.returns-clause-all
returns-clause-all c = λ items core within sought. (rw c.requires.any at c.reach.ensures.found) items core sought within

pub returns-clause-stopped : goal.returns-clause-stopped
returns-clause-stopped c = sym c.is_whole.ensures ∙ c.if-is_whole.false

pub returns-then-is_whole-clause-followed : goal.returns-then-is_whole-clause-followed
returns-then-is_whole-clause-followed c = λ items core thread within leads.
    let whole = sym c.is_whole.ensures ∙ c.if-is_whole.true in
    let keys = c.args.found.now.kept.keys in
    let states = map (core_kept c.args.system.now.program) keys in
    let has = c.requires.all whole core (items, leads) in
    (has.0, omega (arith, has.1, c.requires.whole whole, length-map keys (core_kept c.args.system.now.program)), place_in states core has)

pub returns-clause-followed : goal.returns-clause-followed
returns-clause-followed c = λ items core thread within leads.
    (rw c.requires.any at c.reach.ensures.followed) items core (leads, λ f. absurd (true≢false (sym f))) (omega (arith, length-append items (turn_of thread ∷ []), within))
