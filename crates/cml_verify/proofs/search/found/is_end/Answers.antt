use Rattle.std.proofs.Common.{◌≡◌, length, map, ap, sym, ◌∙◌, arith, true≢false}
use Rattle.std.proofs.lemmas.Bool.{eqb-true, eq-eqb}
use Rattle.std.proofs.lemmas.List.{nil_from_length, length-map}
use Rattle.cml_verify.specs.Places.{there}
use Rattle.cml_verify.proofs.Listing.{is_end_at, no_end_at}
use Rattle.cml_verify.proofs.search.found.is_end.Goals as goal

pub allowed-requires : goal.allowed-requires
allowed-requires g c =
    let f = g.Y.System.state_of c.args.system.now in
    let t = there (map f c.args.found.now.kept.keys) c.args.place (omega (arith, length-map c.args.found.now.kept.keys f, c.requires.within)) in
    rw c.as_slice-way.ensures.value (t.0, c.in_ok-schedule.ensures.leads ∙ t.1, tt)

pub returns-clause-yes : goal.returns-clause-yes
returns-clause-yes g c =
    let y = g.Y.System.rules c.args.system.now in
    let f = g.Y.System.state_of c.args.system.now in
    let v = c.in_ok-items.items in
    λ yes.
    let none : v.len ≡ 0 = eqb-true v.len 0 (sym c.is_empty.ensures ∙ yes) in
    is_end_at y (map f c.args.found.now.kept.keys) c.args.place c.as_slice-way.result.now v.items (rw c.as_slice-way.ensures.value c.in_ok-schedule.ensures.leads) c.in_ok-items.ensures
    (nil_from_length v.items (sym v.ok.0 ∙ none))

pub returns-clause-no : goal.returns-clause-no
returns-clause-no g c =
    let y = g.Y.System.rules c.args.system.now in
    let f = g.Y.System.state_of c.args.system.now in
    let v = c.in_ok-items.items in
    λ no.
    no_end_at y (map f c.args.found.now.kept.keys) c.args.place c.as_slice-way.result.now v.items (rw c.as_slice-way.ensures.value c.in_ok-schedule.ensures.leads) c.in_ok-items.ensures
    (λ e. true≢false (sym (c.is_empty.ensures ∙ eq-eqb v.len 0 (v.ok.0 ∙ ap length e)) ∙ no))
